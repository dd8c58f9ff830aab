-- Laws of a text with bytes written at a place: nothing written, one byte, bytes after others, and that the length stays. All that writes goes through these. Assumes nothing.
use Prim.Native.Nat.{ℕ, ◌+◌, ◌≤◌, ◌<◌}
use mathlib.Core.Path.{◌≡◌, ap, ◌∙◌}
use mathlib.Core.List.{List, [], ◌∷◌, ◌++◌, append_assoc}
use native.Mathlib.Numerals.{add-one, unary_clauses}
use native.Mathlib.Omega.{arith}
use lib.ListN.{length, take, drop, set, length-append, length-take, length-drop, take-append-drop}
use lib.Seq.{set_split, drop-append-add, drop-drop, take_at}
use Rattle.text.specs.Written.{written}

pub written-nothing : {A : Type 0} (at : ℕ) (text : List A) → written [] at text ≡ text
unfolding written
written-nothing at text = simp (unary_clauses, take-append-drop)

-- One byte is a store.
pub written_byte : {A : Type 0} (b : A) (at : ℕ) (text : List A) → at < length text → set text at b ≡ written (b ∷ []) at text
unfolding written
written_byte b at text h = set_split text at b h ∙ rw add-one

pub written-length : {A : Type 0} (bytes : List A) (at : ℕ) (text : List A) → at + length bytes ≤ length text → length (written bytes at text) ≡ length text
unfolding written
written-length bytes at text h = simp (length-append, length-take, length-drop) (omega arith)

-- What stands before the place is passed by.
drop_past : {A : Type 0} (p q : List A) (n m : ℕ) → length p ≡ n → drop (n + m) (p ++ q) ≡ drop m q
drop_past p q n m e = rw (← e) (drop-append-add p q m)

-- Bytes after others are all of them in one.
pub written_after : {A : Type 0} (a b : List A) (at : ℕ) (text : List A) → at + length a + length b ≤ length text → written b (at + length a) (written a at text) ≡ written (a ++ b) at text
unfolding written
written_after {A = A} a b at text h =
    let n : ℕ = at + length a in
    let front : List A = take at text ++ a in
    let rest : List A = drop n text in
    let reaches : length front ≡ n = simp (length-append, length-take) (omega arith) in
    let end : n + length b ≡ at + length (a ++ b) = simp length-append (omega arith) in
    rw
    (← append_assoc (take at text) a rest, take_at front rest n reaches, drop_past front rest n (length b) reaches, drop-drop (length b) n text)
    (rw end (simp append_assoc))

-- What a writing function promises: the place after the bytes, and the text with them.
abbrev pub Wrote : {A : Type 0} → List A → ℕ → List A → ℕ → List A → Type 0
Wrote bytes at text next after = (next ≡ at + length bytes) × (after ≡ written bytes at text)

pub wrote-length : {A : Type 0} (bytes : List A) (at next : ℕ) (text after : List A) → at + length bytes ≤ length text → Wrote bytes at text next after → length after ≡ length text
wrote-length bytes at next text after room w = ap length w.1 ∙ written-length bytes at text room

-- Two calls in turn, the second at the place that the first one answered.
pub wrote-in-turn : {A : Type 0} (a b : List A) (at next end : ℕ) (text between after : List A) → at + length (a ++ b) ≤ length text → Wrote a at text next between → Wrote b next between end after
    → Wrote (a ++ b) at text end after
wrote-in-turn {A = A} a b at next end text between after room v w =
    let fits : at + length a + length b ≤ length text = omega (arith, length-append a b) in (
      omega (arith, length-append a b),
      w.1 ∙ ap (λ (t : List A). written b next t) v.1 ∙ ap (λ (n : ℕ). written b n (written a at text)) v.0 ∙ written_after a b at text fits,
    )
