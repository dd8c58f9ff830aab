-- Rows as cells, over any lawful layout: reading what was written gives the rows, writing what was read gives the cells, and rows depend on their own cells alone.
-- Assumes nothing.
use Prim.Native.Nat.{ℕ, zero, suc, ◌+◌, ◌*◌, ◌≤◌}
use native.Mathlib.Nat.{zero-mul, suc-mul}
use native.Mathlib.Omega.{arith}
use mathlib.Core.Path.{◌≡◌, refl, sym, ap, ◌∙◌}
use mathlib.Core.List.{List, [], ◌∷◌, ◌++◌, append_assoc}
use lib.IntN.{ℤ}
use lib.ListN.{length, take, drop, length-append}
use lib.Seq.{take-add, drop-drop, length-take-le}
use Rattle.rules.specs.Layout.{Layout, decode, encode}
use Rattle.cells.specs.Lawful.{Lawful}
use Rattle.cells.proofs.Parts.{around}
use Rattle.cells.proofs.Decode.{length-decode}

module _ {Row : Type 0} (put : Row → List ℤ) where
  pub encode-nil : encode put [] ≡ []
  unfolding encode
  encode-nil = refl

  pub encode-cons : (r : Row) (rest : List Row) → encode put (r ∷ rest) ≡ put r ++ encode put rest
  unfolding encode
  encode-cons r rest = refl

  pub encode-append : (a b : List Row) → encode put (a ++ b) ≡ encode put a ++ encode put b
  unfolding encode
  encode-append [] b = refl
  encode-append (r ∷ rest) b = ap (λ (c : List ℤ). put r ++ c) (encode-append rest b) ∙ sym (append_assoc (put r) (encode put rest) (encode put b))

module _ {Row : Type 0} (l : Layout Row) (lawful : Lawful l) where
  pub length-encode : (rows : List Row) → length (encode l.put rows) ≡ length rows * l.width
  unfolding encode
  length-encode [] = sym (zero-mul l.width)
  length-encode (r ∷ rest) =
      length-append (l.put r) (encode l.put rest)
      ∙ omega (arith, lawful.put-length r, length-encode rest, suc-mul (length rest) l.width)

  -- Writing what was read.
  pub encode-decode : (n at : ℕ) (xs : List ℤ) → at + n * l.width ≤ length xs
      → encode l.put (decode l.get l.width n at xs) ≡ take (n * l.width) (drop at xs)
  unfolding encode
  encode-decode zero at xs h = rw zero-mul
  encode-decode (suc n) at xs h =
      let w : ℕ = l.width in
      let first : at + w ≤ length xs = omega (arith, suc-mul n w) in
      let rest : (at + w) + n * w ≤ length xs = omega (arith, suc-mul n w) in
      let e : w + n * w ≡ suc n * w = omega (arith, suc-mul n w) in
      ap (λ (c : List ℤ). c ++ encode l.put (decode l.get w n (at + w) xs)) (lawful.put-get xs at first)
      ∙ ap (λ (c : List ℤ). take w (drop at xs) ++ c) (encode-decode n (at + w) xs rest)
      ∙ ap (λ (c : List ℤ). take w (drop at xs) ++ take (n * w) c) (sym (drop-drop w at xs))
      ∙ sym (take-add w (n * w) (drop at xs))
      ∙ ap (λ (j : ℕ). take j (drop at xs)) e

  -- Reading what was written.
  pub decode-encode : (rows : List Row) (p q : List ℤ) (at : ℕ) → length p ≡ at
      → decode l.get l.width (length rows) at (p ++ (encode l.put rows ++ q)) ≡ rows
  unfolding encode
  decode-encode [] p q at e = refl
  decode-encode (r ∷ rest) p q at e =
      let c : List ℤ = encode l.put rest in
      let whole : p ++ ((l.put r ++ c) ++ q) ≡ p ++ (l.put r ++ (c ++ q)) = rw append_assoc in
      let next : p ++ ((l.put r ++ c) ++ q) ≡ (p ++ l.put r) ++ (c ++ q) = simp append_assoc in
      let here : l.get (p ++ ((l.put r ++ c) ++ q)) at ≡ r =
      ap (λ (ys : List ℤ). l.get ys at) whole
      ∙ ap (λ (j : ℕ). l.get (p ++ (l.put r ++ (c ++ q))) j) (sym e)
      ∙ lawful.get-put p (c ++ q) r in
      let size : length (p ++ l.put r) ≡ at + l.width = length-append p (l.put r) ∙ omega (arith, lawful.put-length r) in
      let there : decode l.get l.width (length rest) (at + l.width) (p ++ ((l.put r ++ c) ++ q)) ≡ rest =
      ap (λ (ys : List ℤ). decode l.get l.width (length rest) (at + l.width) ys) next
      ∙ decode-encode rest (p ++ l.put r) q (at + l.width) size in
      ap (λ (s : Row). s ∷ decode l.get l.width (length rest) (at + l.width) (p ++ ((l.put r ++ c) ++ q))) here
      ∙ ap (λ (s : List Row). r ∷ s) there

  -- Rows are read from their own cells alone: the same cells give the same rows, at any place of any list.
  pub decode-own : (n at at' : ℕ) (xs ys : List ℤ) → at + n * l.width ≤ length xs → at' + n * l.width ≤ length ys
      → take (n * l.width) (drop at xs) ≡ take (n * l.width) (drop at' ys)
      → decode l.get l.width n at xs ≡ decode l.get l.width n at' ys
  decode-own n at at' xs ys h h' e =
      let w : ℕ = l.width in
      let rows : List Row = decode l.get w n at xs in
      let after : List ℤ = drop (at' + n * w) ys in
      let whole : take at' ys ++ (encode l.put rows ++ after) ≡ ys =
      ap (λ (c : List ℤ). take at' ys ++ (c ++ after)) (encode-decode n at xs h ∙ e) ∙ around ys at' (n * w) in
      let size : length (take at' ys) ≡ at' = length-take-le at' ys (omega arith) in
      sym (decode-encode rows (take at' ys) after at' size)
      ∙ ap (λ (m : ℕ). decode l.get w m at' (take at' ys ++ (encode l.put rows ++ after))) (length-decode l.get w n at xs)
      ∙ ap (λ (c : List ℤ). decode l.get w n at' c) whole

  -- One row likewise.
  pub get-own : (at at' : ℕ) (xs ys : List ℤ) → at + l.width ≤ length xs → at' + l.width ≤ length ys
      → take l.width (drop at xs) ≡ take l.width (drop at' ys)
      → l.get xs at ≡ l.get ys at'
  get-own at at' xs ys h h' e =
      let w : ℕ = l.width in
      let after : List ℤ = drop (at' + w) ys in
      let whole : take at' ys ++ (l.put (l.get xs at) ++ after) ≡ ys =
      ap (λ (c : List ℤ). take at' ys ++ (c ++ after)) (lawful.put-get xs at h ∙ e) ∙ around ys at' w in
      let size : length (take at' ys) ≡ at' = length-take-le at' ys (omega arith) in
      sym (lawful.get-put (take at' ys) after (l.get xs at))
      ∙ ap (λ (j : ℕ). l.get (take at' ys ++ (l.put (l.get xs at) ++ after)) j) size
      ∙ ap (λ (c : List ℤ). l.get c at') whole
