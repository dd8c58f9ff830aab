-- Document 01: "Margin of a record at settlement price s, any whole number, is its signed quantity (buy plus, sell minus) times s less its price."
-- And what it means that a merge keeps it.
use Rattle.std.specs.Prelude.{◌≡◌, List, [], ◌∷◌, ℤ, pos, ◌+ℤ◌, ◌-ℤ◌, ◌*ℤ◌}
use Rattle.std.proofs.Math.Option.{some}
use Rattle.rules.specs.Keyed.{find}
use Rattle.rules.specs.Rows.{key_of, record_key}
use Rattle.rules.specs.Books.{Books, view_of}
use Rattle.rules.specs.Merge.{pairs_of, sources_of, records_of}
use Rattle.rules.specs.Totals.{signed_quantity}
use Rattle.rules.specs.declared.Record.{Record}
use Rattle.rules.specs.declared.Reply.{Reply}
use Rattle.rules.specs.declared.Reply.TheVariants.{Booked}

unfoldable pub margin_of : ℤ → Record → ℤ
margin_of s r = signed_quantity r *ℤ (s -ℤ r.price)

unfoldable pub margin_of_all : ℤ → List Record → ℤ
margin_of_all s [] = pos 0
margin_of_all s (r ∷ rest) = margin_of s r +ℤ margin_of_all s rest

-- A merge of these pairs into this id, from the books before it to the books afterwards, with this reply: at every settlement price the sources' margin, as they stand in the
-- books before, is that of the merged record, as it stands in the books afterwards, and the residual, which the reply carries and the position's cash has grown by.
pub record MergeKeepsMargin (before : Books) (reply : Reply) (afterwards : Books) (id account series : ℤ) (pairs : List ℤ) : Type 0 where
  pub merged : Record
  pub rows : ℤ
  pub residual : ℤ
  pub stands : find record_key (key_of id (pos 0)) afterwards.records ≡ some merged
  pub answered : reply ≡ Booked rows residual
  pub grown : ((view_of afterwards).position_at account series).cash ≡ ((view_of before).position_at account series).cash +ℤ residual
  pub kept : (s : ℤ) → margin_of_all s (records_of (sources_of (view_of before) (pairs_of pairs))) ≡ margin_of s merged +ℤ residual
