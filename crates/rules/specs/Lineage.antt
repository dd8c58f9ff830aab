-- Document 01, "Lineage": names id and suffix, follows parent to parent until suffix 0, and never writes.
use Rattle.std.specs.Prelude.{ℕ, zero, suc, cond, not, ◌&&◌, [], ◌∷◌, ℤ, pos, ◌+ℤ◌, nat_abs}
use Rattle.std.proofs.Math.Option.{Option, none, some}
use Rattle.integers.specs.Order.{eq_z}
use Rattle.rules.specs.Figures.{valid_id, valid_suffix}
use Rattle.rules.specs.Keyed.{is_some}
use Rattle.rules.specs.Refusal.{test}
use Rattle.rules.specs.Plan.{Plan, question}
use Rattle.rules.specs.declared.Record.{Record}
use Rattle.rules.specs.declared.Reply.{Reply}
use Rattle.rules.specs.declared.Reply.TheVariants.{Lineage}

-- The price of the row with suffix 0, and the links followed to it.
pub record Origin : Type 0 where
  pub price : ℤ
  pub links : ℤ

unfoldable pub one_more_link : Option Origin → Option Origin
one_more_link none = none
one_more_link (some o) = some (record { price = o.price; links = o.links +ℤ pos 1 })

-- From the record of a suffix on; `onward` says the same from its parent on.
unfoldable pub origin_via : ℤ → Option Record → (ℤ → Option Origin) → Option Origin
origin_via suffix none onward = none
origin_via suffix (some r) onward = cond (eq_z suffix (pos 0)) (some (record { price = r.price; links = pos 0 })) (one_more_link (onward r.parent))

-- From parent to parent, in at most so many records. A parent is below its suffix, so one more than the suffix is enough.
unfoldable pub origin_of : (ℤ → Option Record) → ℕ → ℤ → Option Origin
origin_of record_at zero suffix = none
origin_of record_at (suc steps) suffix = origin_via suffix (record_at suffix) (λ parent. origin_of record_at steps parent)

unfoldable pub lineage_reply : Option Origin → Reply
lineage_reply none = Lineage (pos 0) (pos 0)
lineage_reply (some o) = Lineage o.price o.links

-- 3: both figures in their range. 5: "no such record; for lineage also a parent row missing"
unfoldable pub lineage_plan : (id suffix : ℤ) → (ℤ → Option Record) → Plan
lineage_plan id suffix record_at =
    let origin : Option Origin = origin_of record_at (suc (nat_abs suffix)) suffix in
    question
    (test 3 (not (valid_id id && valid_suffix suffix))
    ∷ test 5 (not (is_some origin))
    ∷ [])
    (lineage_reply origin)
