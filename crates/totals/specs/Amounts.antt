-- Document 02, K7: "Every request adds to the stored figures what it changes in these sums". What it adds, at every account and series.
use Rattle.std.specs.Prelude.{Bool, cond, ◌&&◌, ℤ, pos, neg_ℤ, ◌+ℤ◌, ◌*ℤ◌}
use Rattle.integers.specs.Order.{eq_z}
use Rattle.rules.specs.Figures.{signed}
use Rattle.rules.specs.Request.{Request, trade, separate, transfer, merge, lineage, give_up, new_day}
use Rattle.rules.specs.Books.{View}
use Rattle.rules.specs.NamedRecord.{the_record}
use Rattle.rules.specs.Merge.{pairs_of, sources_of, records_of, merge_residual}
use Rattle.rules.specs.GiveUp.{stepped, is_complete, process_before}
use Rattle.rules.specs.declared.Record.{Record}

-- What comes to the two figures of a position: "the signed quantity and signed quantity times price".
pub record Amounts : Type 0 where
  pub quantity : ℤ
  pub value : ℤ

abbrev pub nothing : Amounts
nothing = record { quantity = pos 0; value = pos 0 }

abbrev pub together : Amounts → Amounts → Amounts
together a b = record { quantity = a.quantity +ℤ b.quantity; value = a.value +ℤ b.value }

-- A quantity on a side, at a price: "buys plus, sells minus".
abbrev pub on_side : (side quantity price : ℤ) → Amounts
on_side side quantity price = record { quantity = signed side quantity; value = signed side quantity *ℤ price }

unfoldable pub same_position : (own_account own_series account series : ℤ) → Bool
same_position own_account own_series account series = eq_z own_account account && eq_z own_series series

-- An amount that comes to the position of one account and series, as another account and series see it: there and nowhere else.
unfoldable pub amount_at : (own_account own_series amount account series : ℤ) → ℤ
amount_at own_account own_series amount account series = cond (same_position own_account own_series account series) amount (pos 0)

abbrev pub amounts_at : (own_account own_series : ℤ) → Amounts → (account series : ℤ) → Amounts
amounts_at own_account own_series a account series = record {
  quantity = amount_at own_account own_series a.quantity account series;
  value = amount_at own_account own_series a.value account series;
}

-- The record leaves the old account and comes to the new one.
abbrev pub transfer_amounts : Record → (from to own_series account series : ℤ) → Amounts
transfer_amounts r from to own_series account series =
    together
    (amounts_at from own_series (on_side r.side (neg_ℤ r.quantity) r.price) account series)
    (amounts_at to own_series (on_side r.side r.quantity r.price) account series)

-- The merged record has the sources' quantity; its value is theirs and the residual.
abbrev pub merge_amounts : (residual : ℤ) → Amounts
merge_amounts residual = record { quantity = pos 0; value = residual }

-- Of each kind of request, as the books stand that it finds. A separation's parts stand for the record. Of the steps of a give-up the one that completes it is a transfer; a record of status 3
-- counts as one of status 0. A new day changes no record.
unfoldable pub amounts_of : View → Request → (account series : ℤ) → Amounts
amounts_of v (trade id account series side quantity price) = amounts_at account series (on_side side quantity price)
amounts_of v (separate id suffix account series parts) = λ a s. nothing
amounts_of v (transfer id suffix from to series) = transfer_amounts (the_record (v.record_at id suffix)) from to series
amounts_of v (merge id account series pairs) = amounts_at account series (merge_amounts (merge_residual (records_of (sources_of v (pairs_of pairs)))))
amounts_of v (lineage id suffix) = λ a s. nothing
amounts_of v (new_day day) = λ a s. nothing
amounts_of v (give_up step process id suffix giving taking series) = λ a s.
    cond (is_complete (stepped step (process_before step process id suffix giving taking series (v.process_at process id))))
    (transfer_amounts (the_record (v.record_at id suffix)) giving taking series a s)
    nothing
