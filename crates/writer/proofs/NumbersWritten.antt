-- Numbers and fields written part by part: the digits of a tenth and then the last one; a minus and the magnitude; the fields so far, a tab and the next number. Assumes nothing.
use Prim.Native.Nat.{ℕ, ◌+◌, ◌/◌, ◌%◌, ◌<◌, ◌≤◌}
use mathlib.Core.Path.{◌≡◌, ap}
use mathlib.Core.List.{List, [], ◌∷◌, ◌++◌}
use native.Mathlib.Omega.{arith}
use lib.IntN.{ℤ, pos, nat_abs}
use lib.ListN.{length, take, get_or}
use Rattle.text.specs.Decimal.{digit, minus, digits_of, number_text}
use Rattle.text.specs.Fields.{tab, fields_text}
use Rattle.text.proofs.DecimalLaws.{digits-one, digits_more}
use Rattle.text.proofs.WrittenLaws.{Wrote, wrote-length, wrote-in-turn}
use Rattle.writer.proofs.NumberTexts.{fields-next, width-next, fields_within}

pub one_written : (n at next : ℕ) (text after : List ℕ) → n < 10 → Wrote (digit n ∷ []) at text next after → Wrote (digits_of n) at text next after
one_written n at next text after h w = rw (digits-one n h) w

pub more-written : (n at last next : ℕ) (text between after : List ℕ) → 10 ≤ n → at + length (digits_of n) ≤ length text → Wrote (digits_of (n / 10)) at text last between
    → Wrote (digit (n % 10) ∷ []) last between next after
    → Wrote (digits_of n) at text next after
more-written n at last next text between after h room v w =
    rw (digits_more n h) (wrote-in-turn (digits_of (n / 10)) (digit (n % 10) ∷ []) at last next text between after (rw (digits_more n h) at room) v w)

pub negative-written : (z : ℤ) (m at next end : ℕ) (text between after : List ℕ) → number_text z ≡ minus ∷ digits_of (nat_abs z) → m ≡ nat_abs z → at + length (number_text z) ≤ length text
    → Wrote (minus ∷ []) at text next between
    → Wrote (digits_of m) next between end after
    → Wrote (number_text z) at text end after
negative-written z m at next end text between after e f room v w =
    rw e (wrote-in-turn (minus ∷ []) (digits_of (nat_abs z)) at next end text between after (rw e at room) v (rw f at w))

-- ---- the loop over the fields

module _ (figures : List ℤ) (i at : ℕ) (text : List ℕ) (h : i < length figures) (room : at + length (fields_text figures) ≤ length text) where
  -- What is written so far leaves room for the next field.
  pub field_room : (next : ℕ) (so_far : List ℕ) → Wrote (fields_text (take i figures)) at text next so_far
      → next + 1 + length (number_text (get_or figures i (pos 0))) ≤ length so_far
  field_room next so_far w =
      let now : length so_far ≡ length text = wrote-length (fields_text (take i figures)) at next text so_far (omega (arith, fields_within figures i)) w in
      omega (arith, fields_within figures (i + 1), width-next figures i h)

  pub field-written : (next after end : ℕ) (so_far between later : List ℕ) → Wrote (fields_text (take i figures)) at text next so_far → Wrote (tab ∷ []) next so_far after between
      → Wrote (number_text (get_or figures i (pos 0))) after between end later
      → Wrote (fields_text (take (i + 1) figures)) at text end later
  field-written next after end so_far between later u v w =
      let fits : at + length (fields_text (take i figures) ++ (tab ∷ number_text (get_or figures i (pos 0)))) ≤ length text =
      omega (arith, fields_within figures (i + 1), ap length (fields-next figures i h)) in
      let field : Wrote (tab ∷ number_text (get_or figures i (pos 0))) next so_far end later =
      wrote-in-turn (tab ∷ []) (number_text (get_or figures i (pos 0))) next after end so_far between later (omega (arith, field_room next so_far u)) v w in
      rw (fields-next figures i h) (wrote-in-turn (fields_text (take i figures)) (tab ∷ number_text (get_or figures i (pos 0))) at next end text so_far later fits u field)
