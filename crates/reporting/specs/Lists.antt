-- Document 02, K8, the list: "The list comes out in table order as id and suffix pairs in a lent slice, each reportable record once, and no other, the answer their number. A current-day inverse without
-- its parent row is refused 5, a short slice 14."
use Rattle.std.specs.Prelude.{ℕ, ◌*◌, ◌≤◌, ◌≡◌, true, List, ℤ, pos, length}
use Rattle.std.proofs.Math.Option.{some}
use Rattle.std.proofs.Math.ListN.{get_elem?}
use Rattle.rules.specs.Figures.{inverse}
use Rattle.rules.specs.Keyed.{Key, rising}
use Rattle.rules.specs.Rows.{record_key}
use Rattle.rules.specs.Merge.{pairs_of}
use Rattle.rules.specs.Layout.{rows_of}
use Rattle.rules.specs.Tables.{Tables, records_layout, sound_records, current_day}
use Rattle.rules.specs.Handle.{Answer}
use Rattle.rules.specs.declared.Record.{Record}
use Rattle.rules.specs.declared.Reply.TheVariants.{Listed}
use Rattle.reporting.specs.Reported.{Stands, Parent, Reportable}

-- These cells are the list of a table's records.
pub record ListsExactly (today : ℤ) (records : List Record) (cells : List ℤ) : Type 0 where
  -- "each reportable record": its id and suffix are a pair of the list
  pub each : (r : Record) → Stands records r → Reportable today records r → Stands (pairs_of cells) (record_key r)
  -- "and no other": each pair is the id and suffix of a record of the table that is reportable
  pub no_other : (k : Key) → Stands (pairs_of cells) k → (r : Record) × (Stands records r) × (record_key r ≡ k) × (Reportable today records r)
  -- "in table order": by id and then suffix, as the rows rise
  pub in-table-order : rising (λ (k : Key). k) (pairs_of cells) ≡ true
  -- "once": a pair has one place. It follows from the order, of any cells (proofs/Standing `one_place`), and stands here since the paper says it.
  pub once : (i j : ℕ) (k : Key) → get_elem? (pairs_of cells) i ≡ some k → get_elem? (pairs_of cells) j ≡ some k → i ≡ j
  -- "as id and suffix pairs": there is no cell beside the pairs
  pub pairs-alone : length cells ≡ 2 * length (pairs_of cells)

-- The whole answer, with so many cells lent: "the answer their number"; the pairs fit the slice, and no table is written.
pub record ListAnswered (t : Tables) (lent : ℕ) (a : Answer) : Type 0 where
  pub number : a.reply ≡ Listed (pos (length (pairs_of a.output)))
  pub lists : ListsExactly (current_day t.records) (rows_of records_layout t.records) a.output
  pub fits : length a.output ≤ lent
  pub unwritten : a.tables ≡ t

-- When the list is answered: the records are sound (else 1), each inverse of the current day has its parent row (else 5), and the list fits (else 14).
pub record Answerable (t : Tables) (lent : ℕ) : Type 0 where
  pub sound : sound_records t.records ≡ true
  pub parents : (r : Record) → Stands (rows_of records_layout t.records) r → r.day ≡ current_day t.records → r.status ≡ inverse → (p : Record) × (Parent (rows_of records_layout t.records) r p)
  pub fitting : (cells : List ℤ) → ListsExactly (current_day t.records) (rows_of records_layout t.records) cells → length cells ≤ lent
