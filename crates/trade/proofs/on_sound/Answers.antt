-- An id that has a record is refused; otherwise the position is looked up, and the trade refused or booked as the verdict says.
use Rattle.std.proofs.Common.{◌≡◌, true, false, sym, ap, ◌∙◌, not, pos, ℤ}
use Rattle.std.proofs.lemmas.Bool.{false≢true}
use Rattle.std.specs.Option as Told
use Rattle.std.specs.Prelude.{Option, Some, None}
use mathlib.Core.Option as Maybe
use mir.Facts.{to_z-of_z}
use Rattle.rules.specs.Keyed.{greatest, is_some}
use Rattle.rules.specs.Request.{trade}
use Rattle.rules.specs.Rows.{key_of, record_key}
use Rattle.rules.specs.Layout.{rows_of}
use Rattle.rules.specs.Tables.{records_layout}
use Rattle.rules.specs.Trade.{trade_figures}
use Rattle.rules.specs.declared.refusals.Reason.TheVariants.{OutOfRange, IdUsed}
use Rattle.cells.proofs.SoundCells.{record-rows-sound}
use Rattle.figures.proofs.Tests.{failed, passed}
use Rattle.lookup.specs.Lookup.{record_sought, greatest_found}
use Rattle.lookup.specs.Greatest.{greatest_told}
use Rattle.lookup.specs.Sought.{sought_told}
use Rattle.lookup.specs.SoughtRows.{AbsentAt}
use Rattle.lookup.proofs.RowFound.{nothing-none, suffix-some}
use Rattle.lookup.proofs.TableLookup.{records-first}
use Rattle.lookup.proofs.TableSought.{table-present, table-lacks}
use Rattle.requests.specs.KnownPosition.{KnownPosition}
use Rattle.requests.proofs.OnSound.{refused-for, refused-by, booked-soundly}
use Rattle.verdict.specs.Verdict.{judged, verdict_on}
use Rattle.verdict.proofs.Remaining.{◌past◌, stops}
use Rattle.verdict.proofs.Trade.{TradeFrom, trade-tests}
use Rattle.trade.proofs.on_sound.Goals.{After-figures_valid, After-look_up, In-Err, Else-is_some, After-position_held-held, After-verdict}
use Rattle.trade.proofs.on_sound.Goals as goal

-- What was said of an absent key says whether its id has a record.
has-record : (found : Maybe.Option ℤ) (said : Option ℤ) → greatest_found found ≡ greatest_told said → Told.is_some said ≡ true → is_some found ≡ true
unfolding is_some
has-record found (Some g) e h = ap is_some (suffix-some found g e)
has-record found None e h = absurd (false≢true h)

has-none : (found : Maybe.Option ℤ) (said : Option ℤ) → greatest_found found ≡ greatest_told said → Told.is_some said ≡ false → found ≡ Maybe.none
has-none found (Some g) e h = absurd (false≢true (sym h))
has-none found None e h = nothing-none found e

-- ---- test 3

answer-3 : (c : After-figures_valid) → let a = c.args in c.figures_valid.result ≡ trade_figures a.id a.account a.series a.side a.quantity a.price
answer-3 c =
    simp (to_z-of_z c.ranges.id, to_z-of_z c.ranges.account, to_z-of_z c.ranges.series, to_z-of_z c.ranges.side, to_z-of_z c.ranges.quantity, to_z-of_z c.ranges.price)
    at c.figures_valid.ensures

pub returns-then-not-figures_valid : goal.returns-then-not-figures_valid
returns-then-not-figures_valid c =
    let a = c.args in
    refused-for a.records.now a.positions.now c.requires (trade a.id a.account a.series a.side a.quantity a.price) OutOfRange c.from.result c.from.ensures
    (stops (trade-tests a.records.now a.positions.now a.id a.account a.series a.side a.quantity a.price) (ap not (failed (answer-3 c.before.before) c.if-not-figures_valid.true-raw)))

-- ---- test 4

pub look_up-requires : goal.look_up-requires
look_up-requires c = record-rows-sound c.args.records.now c.requires.0

module _ (c : After-look_up) where
  figures : let a = c.args in trade_figures a.id a.account a.series a.side a.quantity a.price ≡ true
  figures = passed (answer-3 c.before.before) c.if-not-figures_valid.false-raw

  at-4 : let a = c.args in TradeFrom a.records.now a.positions.now a.id a.account a.series a.side a.quantity a.price 4
  at-4 = let a = c.args in trade-tests a.records.now a.positions.now a.id a.account a.series a.side a.quantity a.price past ap not figures

  answer : sought_told c.look_up.result ≡ record_sought c.args.records.now c.args.id (pos 0)
  answer = simp (to_z-of_z c.ranges.id) at c.look_up.ensures

pub returns-in_default : goal.returns-in_default
unfolding is_some
returns-in_default c =
    let a = c.args in
    let l : After-look_up = c.before.before in
    let there = table-present records_layout record_key records-first a.records.now (key_of a.id (pos 0)) _ _ _ (sym (answer l) ∙ ap sought_told c.in_default.is) in
    refused-for a.records.now a.positions.now c.requires (trade a.id a.account a.series a.side a.quantity a.price) IdUsed c.from-in_default.result c.from-in_default.ensures
    (stops (at-4 l) (ap is_some there.greatest-is))

-- What was said of an id that has no record with suffix 0.
free : (c : In-Err) → AbsentAt records_layout record_key c.args.records.now (key_of c.args.id (pos 0)) c.in-Err.absent.place (greatest_told c.in-Err.absent.greatest)
free c = table-lacks records_layout record_key records-first c.args.records.now (key_of c.args.id (pos 0)) _ _ (sym (answer c.before) ∙ ap sought_told c.in-Err.is)

pub returns-then-is_some : goal.returns-then-is_some
returns-then-is_some c =
    let a = c.args in
    let k : In-Err = c.before.before.before.before in
    refused-for a.records.now a.positions.now c.requires (trade a.id a.account a.series a.side a.quantity a.price) IdUsed c.from-then-is_some.result c.from-then-is_some.ensures
    (stops (at-4 k.before) (has-record _ k.in-Err.absent.greatest (free k).greatest-is (sym c.is_some.ensures ∙ c.if-is_some.true)))

-- ---- the verdict

none_yet : (c : Else-is_some) → greatest record_key c.args.id (rows_of records_layout c.args.records.now) ≡ Maybe.none
none_yet c =
    let k : In-Err = c.before.before.before in
    has-none _ k.in-Err.absent.greatest (free k).greatest-is (sym c.is_some.ensures ∙ c.if-is_some.false)

held : (c : After-position_held-held) → KnownPosition c.args.positions.now c.args.account c.args.series c.position_held-held.result
held c = simp (to_z-of_z c.ranges.account, to_z-of_z c.ranges.series) at c.position_held-held.ensures

pub verdict-requires : goal.verdict-requires
verdict-requires c =
    let e : Else-is_some = c.before in
    simp (to_z-of_z c.ranges.id, to_z-of_z c.ranges.account, to_z-of_z c.ranges.series, to_z-of_z c.ranges.side, to_z-of_z c.ranges.quantity, to_z-of_z c.ranges.price)
    (c.requires.0, c.requires.1, figures e.before.before.before.before, none_yet e, held c)

judgement : (c : After-verdict) → let a = c.args in judged c.verdict.result ≡ verdict_on a.records.now a.positions.now (trade a.id a.account a.series a.side a.quantity a.price)
judgement c =
    simp (to_z-of_z c.ranges.id, to_z-of_z c.ranges.account, to_z-of_z c.ranges.series, to_z-of_z c.ranges.side, to_z-of_z c.ranges.quantity, to_z-of_z c.ranges.price)
    at c.verdict.ensures

pub returns-in_err-verdict : goal.returns-in_err-verdict
returns-in_err-verdict c =
    let a = c.args in
    refused-by a.records.now a.positions.now c.requires (trade a.id a.account a.series a.side a.quantity a.price) c.in_err-verdict.field-0.0 c.from_residual.result c.from_residual.ensures
    (ap judged (sym c.in_err-verdict.was) ∙ judgement c.before.before.before)

pub book-requires : goal.book-requires
book-requires c =
    let v : After-verdict = c.before.before.before.before in
    simp (to_z-of_z c.ranges.id, to_z-of_z c.ranges.account, to_z-of_z c.ranges.series, to_z-of_z c.ranges.side, to_z-of_z c.ranges.quantity, to_z-of_z c.ranges.price)
    (c.requires.0, c.requires.1, sym (judgement v) ∙ ap judged c.in_ok-verdict.was, held v.before, (free v.before.before.before.before.before).place_is)

pub returns : goal.returns
returns c =
    let a = c.args in
    let v : After-verdict = c.before.before.before.before.before.before.before in
    booked-soundly a.records.now a.positions.now c.requires (trade a.id a.account a.series a.side a.quantity a.price) (judgement v) (ap judged c.in_ok-verdict.was) _
    (simp (to_z-of_z c.ranges.id, to_z-of_z c.ranges.account, to_z-of_z c.ranges.series, to_z-of_z c.ranges.side, to_z-of_z c.ranges.quantity, to_z-of_z c.ranges.price) at c.book.ensures)
