-- The origin of a suffix in a records table, and what the code's answer says of it.
use Rattle.std.specs.Prelude.{suc, List, ℤ, nat_abs, Option, Some, None}
use Rattle.std.proofs.Math.Option as Rules
use Rattle.rules.specs.Keyed.{find}
use Rattle.rules.specs.Rows.{key_of, record_key}
use Rattle.rules.specs.Layout.{rows_of}
use Rattle.rules.specs.Tables.{records_layout}
use Rattle.rules.specs.Lineage.{Origin, origin_of}
use Rattle.lineage.specs.declared.Original as Code

abbrev pub origin_told : Option Code.Original → Rules.Option Origin
origin_told None = Rules.none
origin_told (Some o) = Rules.some (record { price = o.price; links = o.links })

abbrev pub origin_found : List ℤ → ℤ → ℤ → Rules.Option Origin
origin_found cells id suffix = origin_of (λ s. find record_key (key_of id s) (rows_of records_layout cells)) (suc (nat_abs suffix)) suffix
