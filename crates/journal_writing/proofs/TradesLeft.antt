-- The trades of a list of figures with six more in front: their number, their test 3 and their lines. Assumes nothing.
use Rattle.std.proofs.Common.{◌≡◌, ℕ, zero, suc, ◌+◌, ◌-◌, ◌<◌, Bool, true, ◌&&◌, List, [], ◌∷◌, ◌++◌, length, get_or, ℤ, pos, refl, sym, ap, ◌∙◌, arith}
use Rattle.std.proofs.lemmas.List.{get_or-append-add}
use mathlib.Core.Path.{ap₂}
use mathlib.Core.List.{map, flat_map, append-nil}
use lib.ListN.{length-append}
use Rattle.cells.proofs.Decode.{decode-step}
use Rattle.rules.specs.Refusal.{all_of}
use Rattle.rules.specs.Request.{Request}
use Rattle.rules.specs.Layout.{decode}
use Rattle.rules.specs.Batch.{trade_at, trade_count, trades_of}
use Rattle.rules.specs.Line.{line_text, line_of, passes_test3}
use Rattle.rules.specs.declared.Heading.TheVariants.{Trade}

abbrev pub all_pass : List ℤ → Bool
all_pass figures = all_of (map passes_test3 (trades_of figures))

abbrev pub lines_of : List ℤ → List ℕ
lines_of figures = flat_map line_of (trades_of figures)

-- ---- none left

pub no-trades : (figures : List ℤ) → length figures < 6 → trades_of figures ≡ []
unfolding trades_of
no-trades figures few = let none : trade_count figures ≡ 0 = omega arith in ap (λ (n : ℕ). decode trade_at 6 n 0 figures) none

-- ---- one more

module _ (x rest : List ℤ) (six : length x ≡ 6) where
  past : (k at : ℕ) → k ≡ at + 6 → get_or (x ++ rest) k (pos 0) ≡ get_or rest at (pos 0)
  past k at e = let there : k ≡ length x + at = omega (arith, six) in ap (λ (n : ℕ). get_or (x ++ rest) n (pos 0)) there ∙ get_or-append-add x rest at (pos 0)

  trade-past : (at : ℕ) → trade_at (x ++ rest) (at + 6) ≡ trade_at rest at
  trade-past at =
      rw (
        past (at + 6) at refl,
        past (at + 6 + 1) (at + 1) (omega arith),
        past (at + 6 + 2) (at + 2) (omega arith),
        past (at + 6 + 3) (at + 3) (omega arith),
        past (at + 6 + 4) (at + 4) (omega arith),
        past (at + 6 + 5) (at + 5) (omega arith),
      )

  trades-past : (n at : ℕ) → decode trade_at 6 n (at + 6) (x ++ rest) ≡ decode trade_at 6 n at rest
  trades-past zero at = refl
  trades-past (suc n) at = ap₂ (λ (r : Request) (rs : List Request). r ∷ rs) (trade-past at) (trades-past n (at + 6))

  pub one-more : trade_count (x ++ rest) ≡ trade_count rest + 1
  one-more = omega (arith, length-append x rest, six)

trade-first : (x rest : List ℤ) → length x ≡ 6 → trade_at (x ++ rest) 0 ≡ trade_at x 0
trade-first (a ∷ b ∷ c ∷ d ∷ e ∷ f ∷ []) rest six = refl
trade-first [] rest six = absurd (omega arith)
trade-first (a ∷ []) rest six = absurd (omega arith)
trade-first (a ∷ b ∷ []) rest six = absurd (omega arith)
trade-first (a ∷ b ∷ c ∷ []) rest six = absurd (omega arith)
trade-first (a ∷ b ∷ c ∷ d ∷ []) rest six = absurd (omega arith)
trade-first (a ∷ b ∷ c ∷ d ∷ e ∷ []) rest six = absurd (omega arith)
trade-first (a ∷ b ∷ c ∷ d ∷ e ∷ f ∷ g ∷ more) rest six = absurd (omega arith)

-- A trade's line has its six figures.
trade-line : (x : List ℤ) → length x ≡ 6 → line_of (trade_at x 0) ≡ line_text Trade x
unfolding line_of
trade-line (a ∷ b ∷ c ∷ d ∷ e ∷ f ∷ []) six = refl
trade-line [] six = absurd (omega arith)
trade-line (a ∷ []) six = absurd (omega arith)
trade-line (a ∷ b ∷ []) six = absurd (omega arith)
trade-line (a ∷ b ∷ c ∷ []) six = absurd (omega arith)
trade-line (a ∷ b ∷ c ∷ d ∷ []) six = absurd (omega arith)
trade-line (a ∷ b ∷ c ∷ d ∷ e ∷ []) six = absurd (omega arith)
trade-line (a ∷ b ∷ c ∷ d ∷ e ∷ f ∷ g ∷ more) six = absurd (omega arith)

module _ (x rest : List ℤ) (six : length x ≡ 6) where
  next-trade : trades_of (x ++ rest) ≡ trade_at x 0 ∷ trades_of rest
  unfolding trades_of
  next-trade =
      let more : 0 < trade_count (x ++ rest) = omega (arith, one-more x rest six) in
      let fewer : trade_count (x ++ rest) - 1 ≡ trade_count rest = omega (arith, one-more x rest six) in
      decode-step trade_at 6 (trade_count (x ++ rest)) 0 (x ++ rest) more
      ∙ ap₂ (λ (r : Request) (n : ℕ). r ∷ decode trade_at 6 n 6 (x ++ rest)) (trade-first x rest six) fewer
      ∙ ap (λ (rs : List Request). trade_at x 0 ∷ rs) (trades-past x rest six (trade_count rest) 0)

  pub next-passes : all_pass (x ++ rest) ≡ (passes_test3 (trade_at x 0) && all_pass rest)
  unfolding all_of
  next-passes = ap (λ (rs : List Request). all_of (map passes_test3 rs)) next-trade

  pub next-line : lines_of (x ++ rest) ≡ line_text Trade (x ++ []) ++ lines_of rest
  unfolding flat_map
  next-line =
      ap (λ (rs : List Request). flat_map line_of rs) next-trade
      ∙ ap (λ (line : List ℕ). line ++ lines_of rest) (trade-line x six ∙ ap (line_text Trade) (sym (append-nil x)))

  pub line-longer : length (lines_of (x ++ rest)) ≡ length (line_text Trade (x ++ [])) + length (lines_of rest)
  line-longer = ap length next-line ∙ length-append (line_text Trade (x ++ [])) (lines_of rest)

-- ---- the same of figures that begin with six

module _ (figures x rest : List ℤ) (split : figures ≡ x ++ rest) (six : length x ≡ 6) where
  pub passes-next : {all passes : Bool} → all ≡ all_pass figures → passes ≡ passes_test3 (trade_at x 0) → all ≡ (passes && all_pass rest)
  passes-next h p = h ∙ ap all_pass split ∙ next-passes x rest six ∙ ap (λ (b : Bool). b && all_pass rest) (sym p)

  pub lines-next : length (lines_of figures) ≡ length (line_text Trade (x ++ [])) + length (lines_of rest)
  lines-next = ap (λ (l : List ℤ). length (lines_of l)) split ∙ line-longer x rest six

  pub count-next : trade_count figures ≡ trade_count rest + 1
  count-next = omega (arith, ap length split, length-append x rest, six)

pub none_pass : (figures : List ℤ) {all : Bool} → length figures < 6 → all ≡ all_pass figures → true ≡ all
unfolding all_of
none_pass figures few h = sym (h ∙ ap (λ (rs : List Request). all_of (map passes_test3 rs)) (no-trades figures few))

pub none_long : (figures : List ℤ) → length figures < 6 → length (lines_of figures) ≡ 0
unfolding flat_map
none_long figures few = ap (λ (rs : List Request). length (flat_map line_of rs)) (no-trades figures few)
