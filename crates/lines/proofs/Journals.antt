-- The reading of a text line by line: at its end, at a bad line, and after a good one; and a journal, read, is the requests that its lines were written of. To allow for more lines than the text
-- has bytes changes nothing. Assumes nothing.
use Prim.Native.Nat.{ℕ, zero, suc, ◌≤◌, ◌<◌}
use mathlib.Core.Path.{◌≡◌, refl, sym, ap, ◌∙◌, subst}
use mathlib.Core.Bool.{Bool, true, false, cond}
use mathlib.Core.List.{List, [], ◌∷◌, ◌++◌, append-nil, append_assoc, flat_map}
use mathlib.Core.Option.{Option, none, some}
use native.Mathlib.Omega.{arith}
use borrow.Author.Tests.{ne_eqb}
use lib.ListN.{length}
use Rattle.text.specs.Scan.{Taken, taken}
use Rattle.rules.specs.Request.{Request}
use Rattle.rules.specs.Line.{line_of}
use Rattle.rules.specs.Reader.{take_request, Reading, line_then, read_within, reading_of}
use Rattle.lines.specs.Journalled.{AllJournalled}
use Rattle.lines.proofs.Exactly.{line_taken, shorter}

abbrev pub reading : List Request → Bool → Reading
reading requests whole = record { requests = requests; whole = whole }

-- The request of a line, before what follows it.
abbrev pub after : Request → Reading → Reading
after r later = record { requests = r ∷ later.requests; whole = later.whole }

-- ---- in at most so many lines

within_end : (lines : ℕ) → read_within lines [] ≡ reading [] true
unfolding read_within
within_end zero = refl
within_end (suc lines) = refl

within_more : (lines : ℕ) (text : List ℕ) → 0 < length text → read_within (suc lines) text ≡ line_then (take_request text) (λ (rest : List ℕ). read_within lines rest)
unfolding read_within
within_more lines text h =
    ap (λ (b : Bool). cond b (reading [] true) (line_then (take_request text) (λ (rest : List ℕ). read_within lines rest))) (ne_eqb (length text) 0 (λ e. omega arith))

within-bad : (lines : ℕ) (text : List ℕ) → 0 < length text → take_request text ≡ none → read_within (suc lines) text ≡ reading [] false
unfolding line_then
within-bad lines text h e = within_more lines text h ∙ ap (λ (o : Option (Taken Request)). line_then o (λ (rest : List ℕ). read_within lines rest)) e

within-next : (lines : ℕ) (text : List ℕ) (t : Taken Request) → take_request text ≡ some t → read_within (suc lines) text ≡ after t.value (read_within lines t.rest)
unfolding line_then
within-next lines text t e =
    within_more lines text (omega (arith, shorter text t e)) ∙ ap (λ (o : Option (Taken Request)). line_then o (λ (rest : List ℕ). read_within lines rest)) e

within-enough : (lines other : ℕ) (text : List ℕ) → length text ≤ lines → length text ≤ other → read_within lines text ≡ read_within other text
within-enough zero other [] h g = within_end 0 ∙ sym (within_end other)
within-enough zero other (b ∷ text) h g = absurd (omega arith)
within-enough (suc lines) other [] h g = within_end (suc lines) ∙ sym (within_end other)
within-enough (suc lines) zero (b ∷ text) h g = absurd (omega arith)
within-enough (suc lines) (suc other) (b ∷ text) h g = go (take_request (b ∷ text)) refl (λ (rest : List ℕ). within-enough lines other rest)
  where
    go : (o : Option (Taken Request)) → take_request (b ∷ text) ≡ o → ((rest : List ℕ) → length rest ≤ lines → length rest ≤ other → read_within lines rest ≡ read_within other rest)
        → read_within (suc lines) (b ∷ text) ≡ read_within (suc other) (b ∷ text)
    go none e onward = within-bad lines (b ∷ text) (omega arith) e ∙ sym (within-bad other (b ∷ text) (omega arith) e)
    go (some t) e onward =
        let less : length t.rest < length (b ∷ text) = shorter (b ∷ text) t e in
        within-next lines (b ∷ text) t e ∙ ap (after t.value) (onward t.rest (omega arith) (omega arith)) ∙ sym (within-next other (b ∷ text) t e)

-- ---- line by line

pub reading-end : reading_of [] ≡ record { requests = []; whole = true }
unfolding reading_of
reading-end = within_end 0

pub reading-bad : (text : List ℕ) → 0 < length text → take_request text ≡ none → reading_of text ≡ record { requests = []; whole = false }
unfolding reading_of
reading-bad [] h e = absurd (omega arith)
reading-bad (b ∷ text) h e = within-bad (length text) (b ∷ text) h e

pub reading-next : (text : List ℕ) (t : Taken Request) → take_request text ≡ some t
    → reading_of text ≡ record { requests = t.value ∷ (reading_of t.rest).requests; whole = (reading_of t.rest).whole }
unfolding reading_of
reading-next [] t e = absurd (omega (arith, shorter [] t e))
reading-next (b ∷ text) t e =
    let less : length t.rest < length (b ∷ text) = shorter (b ∷ text) t e in
    within-next (length text) (b ∷ text) t e ∙ ap (after t.value) (within-enough (length text) (length t.rest) t.rest (omega arith) (omega arith))

-- A claim of a text and its reading holds of every text if it holds where the text is at its end, where its first line is bad, and, where that is good, if it holds of what follows it.
module _ (Claim : List ℕ → Reading → Type 0) (end : Claim [] (reading [] true))
    (bad : (text : List ℕ) → 0 < length text → take_request text ≡ none → Claim text (reading [] false))
    (good : (text : List ℕ) (t : Taken Request) → take_request text ≡ some t → Claim t.rest (reading_of t.rest) → Claim text (after t.value (reading_of t.rest))) where
  within : (most : ℕ) (text : List ℕ) → length text ≤ most → Claim text (reading_of text)
  within zero [] h = subst (Claim []) (sym reading-end) end
  within zero (b ∷ text) h = absurd (omega arith)
  within (suc most) [] h = subst (Claim []) (sym reading-end) end
  within (suc most) (b ∷ text) h = go (take_request (b ∷ text)) refl (within most)
    where
      go : (o : Option (Taken Request)) → take_request (b ∷ text) ≡ o → ((rest : List ℕ) → length rest ≤ most → Claim rest (reading_of rest)) → Claim (b ∷ text) (reading_of (b ∷ text))
      go none e onward = subst (Claim (b ∷ text)) (sym (reading-bad (b ∷ text) (omega arith) e)) (bad (b ∷ text) (omega arith) e)
      go (some t) e onward =
          let less : length t.rest < length (b ∷ text) = shorter (b ∷ text) t e in
          subst (Claim (b ∷ text)) (sym (reading-next (b ∷ text) t e)) (good (b ∷ text) t e (onward t.rest (omega arith)))

  pub by_lines : (text : List ℕ) → Claim text (reading_of text)
  by_lines text = within (length text) text (omega arith)

-- ---- a journal

-- The lines of requests, and then any text.
pub journal-before : (requests : List Request) (rest : List ℕ) → AllJournalled requests
    → reading_of (flat_map line_of requests ++ rest) ≡ record { requests = requests ++ (reading_of rest).requests; whole = (reading_of rest).whole }
unfolding flat_map
journal-before [] rest all = refl
journal-before (r ∷ requests) rest all =
    let later : reading_of (flat_map line_of requests ++ rest) ≡ reading (requests ++ (reading_of rest).requests) (reading_of rest).whole = journal-before requests rest all.2 in
    let text : List ℕ = flat_map line_of requests ++ rest in
    ap reading_of (append_assoc (line_of r) (flat_map line_of requests) rest)
    ∙ reading-next (line_of r ++ text) (taken r text) (line_taken r text all.0 all.1)
    ∙ ap (after r) later

pub journal-read : (requests : List Request) → AllJournalled requests → reading_of (flat_map line_of requests) ≡ record { requests = requests; whole = true }
journal-read requests all =
    ap reading_of (sym (append-nil (flat_map line_of requests)))
    ∙ journal-before requests [] all
    ∙ ap (λ (later : Reading). reading (requests ++ later.requests) later.whole) reading-end
    ∙ ap (λ (l : List Request). reading l true) (append-nil requests)
