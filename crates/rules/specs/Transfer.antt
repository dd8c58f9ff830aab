-- Document 01, "Account transfer": names id, suffix, from, to, series.
use Rattle.std.specs.Prelude.{Bool, cond, not, ◌&&◌, [], ◌∷◌, ℤ, pos, neg_ℤ, ◌+ℤ◌}
use Rattle.std.proofs.Math.Option.{Option, none}
use Rattle.std.specs.Int.Signed.{lt_z}
use Rattle.integers.specs.Order.{eq_z}
use Rattle.rules.specs.Figures.{valid_id, valid_suffix, valid_account, valid_series, is_buy, is_to_close, transfer_kind}
use Rattle.rules.specs.Keyed.{is_some}
use Rattle.rules.specs.Rows.{adjusted_record, inverse_record, adjustable_record, in_booked, moved}
use Rattle.rules.specs.Refusal.{test}
use Rattle.rules.specs.Plan.{Effects, Plan, booking}
use Rattle.rules.specs.NamedRecord.{the_record, next_suffix, is_elsewhere, status_test}
use Rattle.rules.specs.declared.Record.{Record}
use Rattle.rules.specs.declared.Position.{Position}
use Rattle.rules.specs.declared.Movement.{Movement}
use Rattle.rules.specs.declared.Reply.TheVariants.{Booked}

-- 3: every figure in its range, and two different accounts
unfoldable pub transfer_figures : (id suffix from to series : ℤ) → Bool
transfer_figures id suffix from to series =
    valid_id id && valid_suffix suffix && valid_account from && valid_account to && valid_series series && not (eq_z from to)

-- "-q in the old account's long (buy) or short (sell), +q in the new one's; the other booked cell of both rows is 0": an amount in the cell of a side.
unfoldable pub in_long : ℤ → ℤ → ℤ
in_long side amount = cond (is_buy side) amount (pos 0)

unfoldable pub in_short : ℤ → ℤ → ℤ
in_short side amount = cond (is_buy side) (pos 0) amount

abbrev pub in_side : (side amount price : ℤ) → Movement
in_side side amount price = in_booked side amount price (in_long side amount) (in_short side amount)

-- 12: "old account's long (buy) or short (sell) below q"
unfoldable pub holds_too_little : Record → Position → Bool
holds_too_little r p = lt_z (cond (is_buy r.side) p.long p.short) r.quantity

-- "It becomes status 1; an inverse row in the old account and an adjustable row in the new follow", of these types, with both positions moved. `today` is the current day,
-- `next` the id's next suffix, `old` and `new` are the positions of the two accounts.
abbrev pub transfer_effects : (inverse_kind new_kind today : ℤ) → Record → (next to : ℤ) → (old new : Position) → Effects
transfer_effects inverse_kind new_kind today r next to old new =
    let q : ℤ = r.quantity in
    record {
      changed = adjusted_record r ∷ [];
      added =
          inverse_record today r next inverse_kind (in_long r.side (neg_ℤ q)) (in_short r.side (neg_ℤ q)) (pos 0)
          ∷ adjustable_record today r (next +ℤ pos 1) new_kind to q (in_long r.side q) (in_short r.side q)
          ∷ [];
      positions =
          moved old (in_side r.side (neg_ℤ q) r.price)
          ∷ moved new (in_side r.side q r.price)
          ∷ [];
      process = none;
      reply = Booked (pos 2) (pos 0);
    }

-- `today` is the current day, `found` the named record, `greatest` the greatest suffix of its id, `old` and `new` the positions of the two accounts. "type 4"
unfoldable pub transfer_plan : (today id suffix from to series : ℤ) → Option Record → Option ℤ → Position → Position → Plan
transfer_plan today id suffix from to series found greatest old new =
    let r : Record = the_record found in
    booking
    (test 3 (not (transfer_figures id suffix from to series))
    ∷ test 5 (not (is_some found))
    ∷ test 6 (is_elsewhere from series r)
    ∷ status_test r
    ∷ test 8 (is_to_close r.side)
    ∷ test 12 (holds_too_little r old)
    ∷ [])
    (transfer_effects transfer_kind transfer_kind today r (next_suffix greatest) to old new)
