-- The reporting list over the rows of a table, one row after the other: how many pairs, that no parent is missing, and the pairs written from a cell on. By induction on the rows. Assumes nothing.
use Prim.Native.Nat.{ℕ, zero, suc, ◌+◌, ◌*◌, ◌≤◌, ◌<◌}
use native.Mathlib.Nat.{add_assoc, zero-add}
use native.Mathlib.Omega.{arith}
use mathlib.Core.Path.{◌≡◌, refl, sym, ◌∙◌, ap, subst}
use mathlib.Core.Bool.{Bool, true, false, cond}
use mathlib.Core.List.{List, [], ◌∷◌, ◌++◌, map}
use lib.IntN.{ℤ}
use Rattle.std.specs.Prelude.{Result, Ok, Err}
use lib.ListN.{length, get_or, take, drop, set, length-append, take-append-drop}
use lib.Seq.{drop-cons, take-suc}
use Rattle.text.specs.Written.{written}
use Rattle.text.proofs.WrittenLaws.{Wrote, written-nothing, written_byte, written-length, written_after, wrote-length, wrote-in-turn}
use Rattle.rules.specs.Layout.{row_at, rows_of}
use Rattle.rules.specs.Left.{written_to}
use Rattle.rules.specs.NamedRecord.{no_record}
use Rattle.rules.specs.Rows.{record_key}
use Rattle.rules.specs.Refusal.{any_of}
use Rattle.rules.specs.Reportable.{is_reportable, lacks_parent, reportable_among, ids_and_suffixes}
use Rattle.rules.specs.Tables.{records_layout, sound_record_rows}
use Rattle.rules.specs.declared.Record.{Record}
use Rattle.rules.specs.declared.refusals.Reason.{Reason}
use Rattle.rules.specs.declared.refusals.Reason.TheVariants.{NoRecord}
use Rattle.cells.proofs.Count.{room_most}
use Rattle.cells.proofs.SoundCells.{records-known}
use Rattle.keys.proofs.Split.{or-false-left, or-false-right}
use Rattle.lookup.proofs.TableLookup.{records-first, table-row}
use Rattle.reportable.specs.Listing.{pairs_of_row, counted_of}
use Rattle.reportable.proofs.RowPairs.{row-lacks, row-whole, given_is}

-- ---- lists of records

module _ (today : ℤ) (records : List Record) where
  abbrev among : List Record → List Record
  among rows = reportable_among today records rows

  among-append : (xs ys : List Record) → among (xs ++ ys) ≡ among xs ++ among ys
  unfolding reportable_among
  among-append [] ys = refl
  among-append (r ∷ rest) ys =
      ap (λ (l : List Record). cond (is_reportable today records r) (r ∷ l) l) (among-append rest ys) ∙ go (is_reportable today records r)
    where
      go : (b : Bool) → cond b (r ∷ (among rest ++ among ys)) (among rest ++ among ys) ≡ cond b (r ∷ among rest) (among rest) ++ among ys
      go true = refl
      go false = refl

pairs-append : (xs ys : List Record) → ids_and_suffixes (xs ++ ys) ≡ ids_and_suffixes xs ++ ids_and_suffixes ys
unfolding ids_and_suffixes
pairs-append [] ys = refl
pairs-append (r ∷ rest) ys = ap (λ (l : List ℤ). r.id ∷ r.suffix ∷ l) (pairs-append rest ys)

pub two-cells-each : (xs : List Record) → length (ids_and_suffixes xs) ≡ 2 * length xs
unfolding ids_and_suffixes
two-cells-each [] = refl
two-cells-each (r ∷ rest) = let again : length (ids_and_suffixes rest) ≡ 2 * length rest = two-cells-each rest in omega arith

-- No more records are reported than there are.
pub fewer-reported : (today : ℤ) (records rows : List Record) → length (reportable_among today records rows) ≤ length rows
unfolding reportable_among
fewer-reported today records [] = omega arith
fewer-reported today records (r ∷ rest) = go (is_reportable today records r) (fewer-reported today records rest)
  where
    go : (b : Bool) → length (reportable_among today records rest) ≤ length rest
        → length (cond b (r ∷ reportable_among today records rest) (reportable_among today records rest)) ≤ length (r ∷ rest)
    go true h = omega arith
    go false h = omega arith

pub one-pair : (r : Record) → ids_and_suffixes (r ∷ []) ≡ r.id ∷ r.suffix ∷ []
unfolding ids_and_suffixes
one-pair r = refl

pub no-pair : ids_and_suffixes [] ≡ []
unfolding ids_and_suffixes
no-pair = refl

-- Two cells set one after the other are both written.
pub two-stores : (a b : ℤ) (at : ℕ) (cells : List ℤ) → at + 2 ≤ length cells → set (set cells at a) (at + 1) b ≡ written (a ∷ b ∷ []) at cells
two-stores a b at cells h =
    ap (λ (l : List ℤ). set l (at + 1) b) (written_byte a at cells (omega arith))
    ∙ written_byte b (at + 1) (written (a ∷ []) at cells) (omega (arith, written-length (a ∷ []) at cells (omega arith)))
    ∙ written_after (a ∷ []) (b ∷ []) at cells (omega arith)

-- Where no row has it, the row at a place does not.
none-at : (f : Record → Bool) (rows : List Record) (i : ℕ) (other : Record) → i < length rows → any_of (map f rows) ≡ false → f (get_or rows i other) ≡ false
unfolding any_of
none-at f [] i other h n = absurd (omega arith)
none-at f (r ∷ rest) zero other h n = or-false-left (f r) (any_of (map f rest)) n
none-at f (r ∷ rest) (suc i) other h n = none-at f rest i other (omega arith) (or-false-right (f r) (any_of (map f rest)) n)

-- ---- counting

-- So many pairs more.
abbrev pub more : ℕ → Result ℕ Reason → Result ℕ Reason
more n (Ok m) = Ok (n + m)
more n (Err e) = Err e

more-more : (a b : ℕ) (c : Result ℕ Reason) → more a (more b c) ≡ more (a + b) c
more-more a b (Ok m) = ap Ok (sym (add_assoc a b m))
more-more a b (Err e) = refl

more-none : (c : Result ℕ Reason) → more 0 c ≡ c
more-none (Ok m) = ap Ok (zero-add m)
more-none (Err e) = refl

module _ (today : ℤ) (records : List Record) where
  counted-lacks : (r : Record) (rest : List Record) → lacks_parent today records r ≡ true → counted_of today records (r ∷ rest) ≡ Err NoRecord
  unfolding counted_of any_of
  counted-lacks r rest h = rw h

  counted_next : (r : Record) (rest : List Record) (n : ℕ) → pairs_of_row today records r ≡ Ok n → counted_of today records (r ∷ rest) ≡ more n (counted_of today records rest)
  unfolding counted_of any_of
  counted_next r rest n h =
      let sum : length (reportable_among today records (r ∷ rest)) ≡ n + length (reportable_among today records rest) =
      ap (λ (l : List Record). length l) (among-append today records (r ∷ []) rest) ∙ length-append (reportable_among today records (r ∷ [])) (reportable_among today records rest)
      ∙ ap (λ (k : ℕ). k + length (reportable_among today records rest)) (sym (given_is today records r n h)) in
      rw (row-whole today records r n h) (go (any_of (map (lacks_parent today records) rest)) _ _ sum)
    where
      go : (b : Bool) (m k : ℕ) → m ≡ n + k → cond b (Err NoRecord) (Ok m) ≡ more n (cond b (Err NoRecord) (Ok k))
      go true m k e = refl
      go false m k e = ap Ok e

-- A row with its parent there gives one pair at most.
one_at_most : (today : ℤ) (records : List Record) (r : Record) (n : ℕ) → pairs_of_row today records r ≡ Ok n → n ≤ 1
one_at_most today records r n h = omega (arith, given_is today records r n h, fewer-reported today records (r ∷ []))

-- ---- over the rows of a table

pub few-rows : (cells : List ℤ) → sound_record_rows cells ≡ true → length (rows_of records_layout cells) ≤ 4096
few-rows cells sound = omega (arith, (records-known cells sound).rows_fit, room_most records_layout cells)

module _ (today : ℤ) (cells : List ℤ) where
  abbrev rows : List Record
  rows = rows_of records_layout cells

  -- The rows from a place on, and those before the next one.
  rows-from : (row : ℕ) → row < length rows → drop row rows ≡ row_at records_layout cells row ∷ drop (suc row) rows
  rows-from row h = drop-cons rows row no_record h ∙ ap (λ (r : Record). r ∷ drop (suc row) rows) (table-row records_layout record_key records-first cells row no_record h)

  rows_before : (row : ℕ) → row < length rows → take (suc row) rows ≡ take row rows ++ (row_at records_layout cells row ∷ [])
  rows_before row h = take-suc rows row no_record h ∙ ap (λ (r : Record). take row rows ++ (r ∷ [])) (table-row records_layout record_key records-first cells row no_record h)

  -- The pairs so far, and those of the rows that are left.
  pub record CountedSoFar (pairs row : ℕ) : Type 0 where
    pub within : row ≤ length rows
    pub few : pairs ≤ row
    pub rest : counted_of today rows rows ≡ more pairs (counted_of today rows (drop row rows))

  pub none-counted : CountedSoFar 0 0
  none-counted = record { within = omega arith; few = omega arith; rest = sym (more-none (counted_of today rows rows)) }

  module _ (pairs row : ℕ) (so_far : CountedSoFar pairs row) where
    pub row-refused : row < length rows → (e : Reason) → pairs_of_row today rows (row_at records_layout cells row) ≡ Err e → Err e ≡ counted_of today rows rows
    row-refused h e lacks =
        let w : (lacks_parent today rows (row_at records_layout cells row) ≡ true) × (e ≡ NoRecord) = row-lacks today rows (row_at records_layout cells row) e lacks in
        ap Err w.1 ∙ sym (so_far.rest ∙ ap (λ (l : List Record). more pairs (counted_of today rows l)) (rows-from row h)
        ∙ ap (more pairs) (counted-lacks today rows (row_at records_layout cells row) (drop (suc row) rows) w.0))

    pub row-counted : row < length rows → (given : ℕ) → pairs_of_row today rows (row_at records_layout cells row) ≡ Ok given → CountedSoFar (pairs + given) (row + 1)
    row-counted h given e =
        let r : Record = row_at records_layout cells row in
        let one : row + 1 ≡ suc row = omega arith in
        record {
          within = omega arith;
          few = omega (arith, so_far.few, one_at_most today rows r given e);
          rest =
              so_far.rest ∙ ap (λ (l : List Record). more pairs (counted_of today rows l)) (rows-from row h)
              ∙ ap (more pairs) (counted_next today rows r (drop (suc row) rows) given e)
              ∙ more-more pairs given (counted_of today rows (drop (suc row) rows))
              ∙ ap (λ (k : ℕ). more (pairs + given) (counted_of today rows (drop k rows))) (sym one);
        }

    pub all-counted : length rows ≤ row → Ok pairs ≡ counted_of today rows rows
    unfolding counted_of any_of reportable_among
    all-counted h =
        let end : row ≡ length rows = omega (arith, so_far.within) in
        sym (so_far.rest ∙ ap (λ (l : List Record). more pairs (counted_of today rows l)) (ap (λ (k : ℕ). drop k rows) end ∙ drop_all rows) ∙ ap Ok (plus_none pairs))
      where
        drop_all : (l : List Record) → drop (length l) l ≡ []
        drop_all [] = refl
        drop_all (x ∷ rest) = drop_all rest

        plus_none : (n : ℕ) → n + 0 ≡ n
        plus_none n = omega arith

  -- ---- writing

  -- The pairs of the rows before a place.
  abbrev pub pairs_before : ℕ → List ℤ
  pairs_before row = ids_and_suffixes (reportable_among today rows (take row rows))

  abbrev pub pairs_at : ℕ → List ℤ
  pairs_at row = ids_and_suffixes (reportable_among today rows (row_at records_layout cells row ∷ []))

  pairs_next : (row : ℕ) → row < length rows → pairs_before (row + 1) ≡ pairs_before row ++ pairs_at row
  pairs_next row h =
      let one : row + 1 ≡ suc row = omega arith in
      ap (λ (k : ℕ). pairs_before k) one
      ∙ ap (λ (l : List Record). ids_and_suffixes (reportable_among today rows l)) (rows_before row h)
      ∙ ap ids_and_suffixes (among-append today rows (take row rows) (row_at records_layout cells row ∷ []))
      ∙ pairs-append (reportable_among today rows (take row rows)) (reportable_among today rows (row_at records_layout cells row ∷ []))

  -- All pairs are no fewer.
  pairs-fewer : (row : ℕ) → length (pairs_before row) ≤ length (ids_and_suffixes (reportable_among today rows rows))
  pairs-fewer row =
      let whole : ids_and_suffixes (reportable_among today rows rows) ≡ pairs_before row ++ ids_and_suffixes (reportable_among today rows (drop row rows)) =
      ap (λ (l : List Record). ids_and_suffixes (reportable_among today rows l)) (sym (take-append-drop row rows))
      ∙ ap ids_and_suffixes (among-append today rows (take row rows) (drop row rows))
      ∙ pairs-append (reportable_among today rows (take row rows)) (reportable_among today rows (drop row rows)) in
      omega (arith, ap (λ (l : List ℤ). length l) whole, length-append (pairs_before row) (ids_and_suffixes (reportable_among today rows (drop row rows))))

  pub record WrittenSoFar (pairs₀ pairs : List ℤ) (at row : ℕ) : Type 0 where
    pub within : row ≤ length rows
    pub wrote : Wrote (pairs_before row) 0 pairs₀ at pairs

  pub none_written : (pairs₀ : List ℤ) → WrittenSoFar pairs₀ pairs₀ 0 0
  unfolding reportable_among ids_and_suffixes
  none_written pairs₀ = record { within = omega arith; wrote = (omega arith, sym (written-nothing 0 pairs₀)) }

  module _ (pairs₀ : List ℤ) (room : length (ids_and_suffixes (reportable_among today rows rows)) ≤ length pairs₀) (pairs : List ℤ) (at row : ℕ) (so_far : WrittenSoFar pairs₀ pairs at row) where
    next-room : row < length rows → 0 + length (pairs_before row ++ pairs_at row) ≤ length pairs₀
    next-room h = omega (arith, room, pairs-fewer (row + 1), ap (λ (l : List ℤ). length l) (pairs_next row h))

    pub same_size : length pairs ≡ length pairs₀
    same_size = wrote-length (pairs_before row) 0 at pairs₀ pairs (omega (arith, room, pairs-fewer row)) so_far.wrote

    pub row_room : row < length rows → at + length (pairs_at row) ≤ length pairs
    row_room h = omega (arith, next-room h, length-append (pairs_before row) (pairs_at row), so_far.wrote.0, same_size)

    pub row_written : row < length rows → (next : ℕ) (after : List ℤ) → Wrote (pairs_at row) at pairs next after → WrittenSoFar pairs₀ after next (row + 1)
    row_written h next after w = record {
      within = omega arith;
      wrote =
          subst (λ (l : List ℤ). Wrote l 0 pairs₀ next after) (sym (pairs_next row h))
          (wrote-in-turn (pairs_before row) (pairs_at row) 0 at next pairs₀ pairs after (next-room h) so_far.wrote w);
    }

    pub all-written : length rows ≤ row → pairs ≡ written_to pairs₀ (ids_and_suffixes (reportable_among today rows rows))
    unfolding written_to written
    all-written h =
        so_far.wrote.1
        ∙ ap (λ (l : List ℤ). l ++ drop (0 + length l) pairs₀) (ap (λ (l : List Record). ids_and_suffixes (reportable_among today rows l)) (take_whole rows row h))
        ∙ ap (λ (n : ℕ). ids_and_suffixes (reportable_among today rows rows) ++ drop n pairs₀) (zero-add (length (ids_and_suffixes (reportable_among today rows rows))))
      where
        take_whole : (l : List Record) (n : ℕ) → length l ≤ n → take n l ≡ l
        take_whole [] zero k = refl
        take_whole [] (suc n) k = refl
        take_whole (x ∷ rest) zero k = absurd (omega arith)
        take_whole (x ∷ rest) (suc n) k = ap (λ (m : List Record). x ∷ m) (take_whole rest n (omega arith))

  pub row-has-parent : any_of (map (lacks_parent today rows) rows) ≡ false → (row : ℕ) → row < length rows → lacks_parent today rows (row_at records_layout cells row) ≡ false
  row-has-parent none row h =
      subst (λ (r : Record). lacks_parent today rows r ≡ false) (table-row records_layout record_key records-first cells row no_record h) (none-at (lacks_parent today rows) rows row no_record h none)
