-- New rows of one id, with successive suffixes from a free one on, inserted together at the first one's place: the table with these rows put one after the other.
-- The rows before the place lie below all of them and the others above, so they stand together. And what the shifter asks for them. Assumes nothing.
use Prim.Native.Nat.{ℕ, suc, ◌+◌, ◌*◌, ◌≤◌}
use native.Mathlib.Omega.{arith}
use mathlib.Core.Path.{◌≡◌, refl, sym, ap, subst, ◌∙◌}
use mathlib.Core.Bool.{true}
use mathlib.Core.List.{List, [], ◌∷◌, map}
use mathlib.Core.Option.{none}
use lib.IntN.{ℤ, pos, ◌+ℤ◌}
use lib.ListN.{length, take, drop, take-append-drop}
use lib.Signed.{◌≤ℤ◌, ≤ℤ_refl}
use Rattle.integers.proofs.Linear.{zarith, +-lin}
use Rattle.rules.specs.Figures.{greatest_of_suffixes}
use Rattle.rules.specs.Keyed.{Key, below, rising, find, upsert_all}
use Rattle.rules.specs.Rows.{key_of, record_key}
use Rattle.rules.specs.Layout.{encode, start_of, room_of, rows_of, write}
use Rattle.rules.specs.Tables.{records_layout, record_cells, sound_record_rows}
use Rattle.rules.specs.declared.Record.{Record}
use Rattle.cells.specs.SoundTable.{SoundRecords}
use Rattle.cells.proofs.Count.{room_most, fits-cells}
use Rattle.cells.proofs.Encode.{length-encode}
use Rattle.cells.proofs.RowCells.{records-lawful}
use Rattle.cells.proofs.SoundCells.{records-known}
use Rattle.keys.proofs.Split.{and_intro}
use Rattle.keys.proofs.KeyOrder.{below-minor}
use Rattle.keys.proofs.Clauses.{below_all}
use Rattle.keys.proofs.Runs.{all_below, all_below-higher, Between, upsert_all-run}
use Rattle.soundness.proofs.NamedRecord.{next_of, free-from-next}
use Rattle.lookup.specs.Lookup.{place_from, place_in}
use Rattle.lookup.proofs.RowPlaced.{place-within}
use Rattle.lookup.proofs.TableLookup.{records-first, table-keys}
use Rattle.shifter.specs.Insertion.{inserted}
use Rattle.shifter.proofs.Written.{rows_written}
use Rattle.tables.specs.NewRows.{rows_like, new_rows, NewRowsReady}
use Rattle.tables.proofs.AroundPlace.{before-place, from_place, absent-past, later-above}

-- Rows of an id, numbered from a suffix on.
abbrev pub IsNumbered : ℤ → ℤ → List Record → Type 0
IsNumbered id suffix [] = Unit {0}
IsNumbered id suffix (x ∷ rest) = (record_key x ≡ key_of id suffix) × IsNumbered id (suffix +ℤ pos 1) rest

next-below : (id suffix : ℤ) → below (key_of id suffix) (key_of id (suffix +ℤ pos 1)) ≡ true
next-below id suffix = below-minor (key_of id suffix) (key_of id (suffix +ℤ pos 1)) refl (omega (zarith, +-lin suffix (pos 1)))

IsNumbered-rise : (id suffix : ℤ) (news : List Record) → IsNumbered id suffix news → rising record_key news ≡ true
unfolding rising
IsNumbered-rise id suffix [] n = refl
IsNumbered-rise id suffix (x ∷ []) n = refl
IsNumbered-rise id suffix (x ∷ y ∷ rest) n =
    let b : below (record_key x) (record_key y) ≡ true = rw (n.0, n.1.0) (next-below id suffix) in
    and_intro b (IsNumbered-rise id (suffix +ℤ pos 1) (y ∷ rest) n.1)

IsNumbered-between : (id next : ℤ) (news pre post : List Record) → IsNumbered id next news
    → all_below record_key (key_of id next) pre ≡ true → below_all record_key (key_of id next) post ≡ true
    → ((s : ℤ) → next ≤ℤ s → find record_key (key_of id s) post ≡ none) → Between record_key pre post news
IsNumbered-between id next [] pre post n b a free = tt
IsNumbered-between id next (x ∷ rest) pre post n b a free =
    let later : ℤ = next +ℤ pos 1 in (
      subst (λ (k : Key). all_below record_key k pre ≡ true) (sym n.0) b,
      subst (λ (k : Key). below_all record_key k post ≡ true) (sym n.0) a,
      IsNumbered-between id later rest pre post n.1
          (all_below-higher record_key (key_of id next) (key_of id later) pre (next-below id next) b)
          (later-above record_key id next later post free a)
          (λ s h. free s (omega (zarith, +-lin next (pos 1)))),
    )

module _ (cells : List ℤ) (sound : sound_record_rows cells ≡ true) where
  placed : (k : Key) (place : ℕ) → place ≡ place_in records_layout k cells → place ≡ place_from 0 k (map record_key (rows_of records_layout cells))
  placed k place at = at ∙ ap (place_from 0 k) (table-keys records_layout record_key records-first cells)

  -- What the shifter asks for so many rows at the place of a key.
  pub rows_fit : (k : Key) (added : ℕ) → length (rows_of records_layout cells) + added ≤ room_of records_layout cells → (place : ℕ) → place ≡ place_in records_layout k cells
      → (place ≤ length (rows_of records_layout cells))
      × (start_of records_layout (length (rows_of records_layout cells) + added) ≤ length cells)
      × (length (rows_of records_layout cells) + added ≤ 4096)
  rows_fit k added room place at =
      let table : SoundRecords cells = records-known cells sound in (
        omega (arith, placed k place at, place-within record_key k (rows_of records_layout cells)),
        fits-cells records_layout records-lawful cells (length (rows_of records_layout cells) + added) table.header-within room,
        omega (arith, room_most records_layout cells),
      )

  pub rows-inserted : (id next : ℤ) (news : List Record) → next_of (rows_of records_layout cells) id ≤ℤ next → IsNumbered id next news
      → (place : ℕ) → place ≡ place_in records_layout (key_of id next) cells
      → inserted records_layout.header records_layout.width (encode record_cells news) (length news) (length (rows_of records_layout cells)) place cells
      ≡ write records_layout cells (upsert_all record_key news (rows_of records_layout cells))
  rows-inserted id next news free n place at =
      let rows : List Record = rows_of records_layout cells in
      let k : Key = key_of id next in
      let table : SoundRecords cells = records-known cells sound in
      let p : place ≡ place_from 0 k (map record_key rows) = placed k place at in
      let absent : (s : ℤ) → next ≤ℤ s → find record_key (key_of id s) rows ≡ none = λ s h. free-from-next rows id s (omega zarith) in
      let pre : all_below record_key k (take place rows) ≡ true
      = subst (λ (m : ℕ). all_below record_key k (take m rows) ≡ true) (sym p) (before-place record_key k rows (absent next (≤ℤ_refl next))) in
      let post : below_all record_key k (drop place rows) ≡ true
      = subst (λ (m : ℕ). below_all record_key k (drop m rows) ≡ true) (sym p) (from_place record_key k rows table.rows-rise) in
      let between : Between record_key (take place rows) (drop place rows) news
      = IsNumbered-between id next news (take place rows) (drop place rows) n pre post (λ s h. absent-past record_key (key_of id s) place rows (absent s h)) in
      rows_written records_layout records-lawful cells table.count-sound place news (omega (arith, p, place-within record_key k rows))
      ∙ ap (write records_layout cells)
      (sym (upsert_all-run record_key news (take place rows) (drop place rows) (IsNumbered-rise id next news n) between)
      ∙ ap (upsert_all record_key news) (take-append-drop place rows))

-- ---- the rows like the first

rows-count : (first : Record) (suffix : ℤ) (quantities : List ℤ) → length (rows_like first suffix quantities) ≡ length quantities
unfolding rows_like
rows-count first suffix [] = refl
rows-count first suffix (q ∷ rest) = ap suc (rows-count first (suffix +ℤ pos 1) rest)

pub news-cells : (inverse first : Record) (quantities : List ℤ) → length (encode record_cells (new_rows inverse first quantities)) ≡ suc (length quantities) * records_layout.width
news-cells inverse first quantities =
    length-encode records_layout records-lawful (new_rows inverse first quantities)
    ∙ ap (λ (n : ℕ). suc n * records_layout.width) (rows-count first first.suffix quantities)

like-numbered : (first : Record) (suffix : ℤ) (quantities : List ℤ) → IsNumbered first.id suffix (rows_like first suffix quantities)
unfolding rows_like
like-numbered first suffix [] = tt
like-numbered first suffix (q ∷ rest) = (refl, like-numbered first (suffix +ℤ pos 1) rest)

module _ (cells : List ℤ) (place : ℕ) (inverse first : Record) (quantities : List ℤ) (ready : NewRowsReady cells place inverse first quantities) where
  abbrev news : List Record
  news = new_rows inverse first quantities

  pub news-count : length news ≡ suc (length quantities)
  news-count = ap suc (rows-count first first.suffix quantities)

  first-suffix : first.suffix ≡ inverse.suffix +ℤ pos 1
  first-suffix = ap (λ (k : Key). k.minor) ready.follows

  pub suffix-range : (pos 0 ≤ℤ first.suffix) × (first.suffix ≤ℤ pos 65536) × (length quantities ≤ 65535)
  suffix-range =
      let e : first.suffix ≡ inverse.suffix +ℤ pos 1 = first-suffix in
      let low : pos 0 ≤ℤ inverse.suffix = ready.low in
      let high : (inverse.suffix +ℤ pos (length quantities)) ≤ℤ greatest_of_suffixes = ready.high in
      (omega (zarith, +-lin inverse.suffix (pos 1)), omega (zarith, +-lin inverse.suffix (pos 1), +-lin inverse.suffix (pos (length quantities))), omega (zarith, +-lin inverse.suffix (pos (length quantities))))

  pub news-fit : (place ≤ length (rows_of records_layout cells))
      × (start_of records_layout (length (rows_of records_layout cells) + suc (length quantities)) ≤ length cells)
      × (length (rows_of records_layout cells) + suc (length quantities) ≤ 4096)
  news-fit = rows_fit cells ready.sound (record_key inverse) (suc (length quantities)) ready.room place ready.place_is

  pub news-inserted : inserted records_layout.header records_layout.width (encode record_cells news) (suc (length quantities)) (length (rows_of records_layout cells)) place cells
      ≡ write records_layout cells (upsert_all record_key news (rows_of records_layout cells))
  news-inserted =
      ap (λ (n : ℕ). inserted records_layout.header records_layout.width (encode record_cells news) n (length (rows_of records_layout cells)) place cells) (sym news-count)
      ∙ rows-inserted cells ready.sound inverse.id inverse.suffix news
      (subst (λ (z : ℤ). next_of (rows_of records_layout cells) inverse.id ≤ℤ z) (sym ready.next-suffix) (≤ℤ_refl (next_of (rows_of records_layout cells) inverse.id)))
      (refl, subst (λ (k : Key). IsNumbered k.major k.minor (rows_like first first.suffix quantities)) ready.follows (like-numbered first first.suffix quantities))
      place ready.place_is
