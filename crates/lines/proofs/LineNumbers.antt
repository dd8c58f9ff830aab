-- The lines of a text that the reader goes through, by their numbers: the request at place k of its reading, from 0, is taken off the text from line k + 1 on (`line_read`, `line-is`), and the lines of the
-- first k requests are the first k lines (`first-lines`); where a line is bad, it is the one after the lines of those requests (`line-bad`), and a bad line is the line of no request (`bad-exactly`); a text
-- without a bad line is just the lines of its requests (`whole-text`), after which nothing stands (`last_line`). Of every text. Assumes nothing.
use Prim.Native.Nat.{ℕ, zero, suc, ◌+◌, ◌<◌, ◌≤◌}
use mathlib.Core.Path.{◌≡◌, refl, sym, ap, ◌∙◌, subst}
use mathlib.Core.Bool.{true, false}
use mathlib.Core.List.{List, [], ◌++◌, append_assoc, flat_map}
use mathlib.Core.Logic.{◌↔◌}
use mathlib.Core.Option.{Option, none, some, none-ne-some, some-injective}
use native.Mathlib.Omega.{arith}
use lib.ListN.{length, get_elem?, take}
use Rattle.text.specs.Scan.{Taken, taken}
use Rattle.rules.specs.Request.{Request}
use Rattle.rules.specs.Line.{line_of}
use Rattle.rules.specs.Reader.{take_request, Reading, reading_of}
use Rattle.keys.proofs.Split.{clash, none-some}
use Rattle.lines.specs.Journalled.{AllJournalled}
use Rattle.lines.specs.LineNumbers.{newlines, after_newline, after_newlines, from_line, LineIs, LineIsBad}
use Rattle.lines.proofs.Exactly.{taken-line, read-exactly}
use Rattle.lines.proofs.Journals.{reading, after, by_lines}
use Rattle.lines.proofs.Newlines.{one_line, after_line, lines-counted}

-- ---- after so many newlines

-- The first line taken off, what is left is the text after its newline.
left_after : (text : List ℕ) (t : Taken Request) → take_request text ≡ some t → t.rest ≡ after_newline text
left_after text t e =
    let (written, passes, journalled) = taken-line text t e in
    sym (ap after_newline written ∙ after_line (line_of t.value) t.rest (one_line t.value journalled passes))

-- And so for every later line.
later-after : (k : ℕ) (text : List ℕ) (t : Taken Request) → take_request text ≡ some t → after_newlines k t.rest ≡ after_newlines (suc k) text
unfolding after_newlines
later-after k text t e = ap (after_newlines k) (left_after text t e)

one-more-newline : (k : ℕ) (text : List ℕ) → after_newline (after_newlines k text) ≡ after_newlines (suc k) text
unfolding after_newlines
one-more-newline zero text = refl
one-more-newline (suc k) text = one-more-newline k (after_newline text)

after_none : (text : List ℕ) → after_newlines 0 text ≡ text
unfolding after_newlines
after_none text = refl

-- Line n + 1 stands after n newlines.
line_after : (n : ℕ) (text : List ℕ) → from_line (n + 1) text ≡ after_newlines n text
unfolding from_line
line_after n text = ap (λ (k : ℕ). after_newlines k text) (omega arith)

-- ---- a good line

abbrev ReadAt : List ℕ → Reading → Type 0
ReadAt text it = (k : ℕ) (r : Request) → get_elem? it.requests k ≡ some r → take_request (after_newlines k text) ≡ some (taken r (after_newlines (suc k) text))

read_at : (text : List ℕ) → ReadAt text (reading_of text)
read_at = by_lines ReadAt (λ k r h. absurd (none-ne-some r h)) (λ text more e k r h. absurd (none-ne-some r h)) good
  where
    good : (text : List ℕ) (t : Taken Request) → take_request text ≡ some t → ReadAt t.rest (reading_of t.rest) → ReadAt text (after t.value (reading_of t.rest))
    good text t e again zero r h =
        ap take_request (after_none text)
        ∙ e
        ∙ (λ i. some (taken (some-injective t.value r h i) ((sym (after_none t.rest) ∙ later-after 0 text t e) i)))
    good text t e again (suc k) r h =
        ap take_request (sym (later-after k text t e)) ∙ again k r h ∙ ap (λ (rest : List ℕ). some (taken r rest)) (later-after (suc k) text t e)

-- The request at place k of the reading, from 0, is that of line k + 1.
pub line_read : (text : List ℕ) (k : ℕ) (r : Request) → get_elem? (reading_of text).requests k ≡ some r →
    take_request (from_line (k + 1) text) ≡ some (taken r (from_line (k + 2) text))
line_read text k r h =
    let two : k + 2 ≡ suc k + 1 = omega arith in
    rw (two, line_after k text, line_after (suc k) text) (read_at text k r h)

pub line-is : (text : List ℕ) (k : ℕ) (r : Request) → get_elem? (reading_of text).requests k ≡ some r → LineIs text (k + 1) r
line-is text k r h =
    let (written, passes, journalled) = taken-line (from_line (k + 1) text) (taken r (from_line (k + 2) text)) (line_read text k r h) in
    record { written = written ∙ ap (λ (n : ℕ). line_of r ++ from_line n text) (omega arith); passes = passes; journalled = journalled }

abbrev FirstLines : List ℕ → Reading → Type 0
FirstLines text it = (k : ℕ) → k ≤ length it.requests → text ≡ flat_map line_of (take k it.requests) ++ after_newlines k text

-- The lines of the first k requests are the first k lines.
pub first-lines : (text : List ℕ) (k : ℕ) → k ≤ length (reading_of text).requests → text ≡ flat_map line_of (take k (reading_of text).requests) ++ from_line (k + 1) text
unfolding flat_map
first-lines text k h =
    by_lines FirstLines end (λ text more e. end_of text) good text k h ∙ ap (λ (rest : List ℕ). flat_map line_of (take k (reading_of text).requests) ++ rest) (sym (line_after k text))
  where
    end_of : (text : List ℕ) (k : ℕ) → k ≤ 0 → text ≡ flat_map line_of (take k []) ++ after_newlines k text
    end_of text zero h = sym (after_none text)
    end_of text (suc k) h = absurd (omega arith)

    end : FirstLines [] (reading [] true)
    end k h = end_of [] k h

    good : (text : List ℕ) (t : Taken Request) → take_request text ≡ some t → FirstLines t.rest (reading_of t.rest) → FirstLines text (after t.value (reading_of t.rest))
    good text t e again zero h = sym (after_none text)
    good text t e again (suc k) h =
        let (written, passes, journalled) = taken-line text t e in
        let lines : List ℕ = flat_map line_of (take k (reading_of t.rest).requests) in
        written
        ∙ ap (λ (rest : List ℕ). line_of t.value ++ rest) (again k (omega arith) ∙ ap (λ (rest : List ℕ). lines ++ rest) (later-after k text t e))
        ∙ sym (append_assoc (line_of t.value) lines (after_newlines (suc k) text))

-- ---- a bad line

abbrev BadAfter : List ℕ → Reading → Type 0
BadAfter text it =
    it.whole ≡ false → (0 < length (after_newlines (length it.requests) text)) × (take_request (after_newlines (length it.requests) text) ≡ none)

bad-after : (text : List ℕ) → BadAfter text (reading_of text)
bad-after = by_lines BadAfter (λ h. clash refl h) bad good
  where
    bad : (text : List ℕ) → 0 < length text → take_request text ≡ none → BadAfter text (reading [] false)
    bad text more e h = rw (after_none text) (more, e)

    good : (text : List ℕ) (t : Taken Request) → take_request text ≡ some t → BadAfter t.rest (reading_of t.rest) → BadAfter text (after t.value (reading_of t.rest))
    good text t e again h =
        subst (λ (l : List ℕ). (0 < length l) × (take_request l ≡ none)) (later-after (length (reading_of t.rest).requests) text t e) (again h)

-- Where the text is not read to its end, the line after the requests that were read is there, and is not accepted.
pub line-bad : (text : List ℕ) → (reading_of text).whole ≡ false → LineIsBad text (length (reading_of text).requests + 1)
line-bad text h =
    let here : from_line (length (reading_of text).requests + 1) text ≡ after_newlines (length (reading_of text).requests) text = line_after (length (reading_of text).requests) text in
    let (there, not-accepted) = bad-after text h in
    record { there = rw here there; not-accepted = ap take_request here ∙ not-accepted }

-- A line is not accepted exactly where it is the line of no request that a journal has and that passes test 3.
pub bad-exactly : (text : List ℕ) (n : ℕ) → (take_request (from_line (n + 1) text) ≡ none) ↔ ((r : Request) → LineIs text (n + 1) r → ⊥)
bad-exactly text n = (of_none, λ h. go h (take_request here) refl)
  where
    here : List ℕ
    here = from_line (n + 1) text

    of_none : take_request here ≡ none → (r : Request) → LineIs text (n + 1) r → ⊥
    of_none e r line = none-some e ((read-exactly here r (from_line (n + 1 + 1) text)).1 (line.written, line.passes, line.journalled))

    after : after_newline here ≡ from_line (n + 1 + 1) text
    after = ap after_newline (line_after n text) ∙ one-more-newline n text ∙ sym (line_after (suc n) text) ∙ ap (λ (k : ℕ). from_line k text) (omega arith)

    go : ((r : Request) → LineIs text (n + 1) r → ⊥) → (o : Option (Taken Request)) → take_request here ≡ o → o ≡ none
    go h none e = refl
    go h (some t) e =
        let (written, passes, journalled) = taken-line here t e in
        absurd (h t.value (record { written = written ∙ ap (λ (rest : List ℕ). line_of t.value ++ rest) (left_after here t e ∙ after); passes = passes; journalled = journalled }))

-- ---- a whole text

abbrev Whole : List ℕ → Reading → Type 0
Whole text it = it.whole ≡ true → (text ≡ flat_map line_of it.requests) × AllJournalled it.requests

-- A text that is read to its end is the lines of its requests, each of which a journal has and passes test 3: the converse of `journal-read`.
pub whole-text : (text : List ℕ) → (reading_of text).whole ≡ true → (text ≡ flat_map line_of (reading_of text).requests) × AllJournalled (reading_of text).requests
unfolding flat_map
whole-text = by_lines Whole (λ h. (refl, tt)) (λ text more e h. clash h refl) good
  where
    good : (text : List ℕ) (t : Taken Request) → take_request text ≡ some t → Whole t.rest (reading_of t.rest) → Whole text (after t.value (reading_of t.rest))
    good text t e again h =
        let (written, passes, journalled) = taken-line text t e in
        let (lines, all) = again h in
        (written ∙ ap (λ (rest : List ℕ). line_of t.value ++ rest) lines, (journalled, passes, all))

abbrev Ends : List ℕ → Reading → Type 0
Ends text it = it.whole ≡ true → after_newlines (length it.requests) text ≡ []

-- It has as many lines as requests, and nothing stands after them.
pub last_line : (text : List ℕ) → (reading_of text).whole ≡ true → from_line (length (reading_of text).requests + 1) text ≡ []
last_line text h = line_after (length (reading_of text).requests) text ∙ by_lines Ends (λ h. after_none []) (λ text more e h. clash h refl) good text h
  where
    good : (text : List ℕ) (t : Taken Request) → take_request text ≡ some t → Ends t.rest (reading_of t.rest) → Ends text (after t.value (reading_of t.rest))
    good text t e again h = sym (later-after (length (reading_of t.rest).requests) text t e) ∙ again h

pub whole-counted : (text : List ℕ) → (reading_of text).whole ≡ true → newlines text ≡ length (reading_of text).requests
whole-counted text h = let (lines, all) = whole-text text h in ap newlines lines ∙ lines-counted (reading_of text).requests all
