-- The theorem on the reader (document 02, K5): it "accepts exactly the lines so written of requests that pass test 3". `read-exactly`: off the front of a text, whatever its bytes, the reader takes a request
-- and leaves a rest if and only if the text is the line written of that request and then that rest, and the request passes test 3 and is one that a journal has. So nothing else is accepted, and each line
-- gives its own request back. `alone-exactly` says the same of a line that stands alone. Assumes nothing.
use Prim.Native.Nat.{ℕ, ◌<◌}
use mathlib.Core.Path.{◌≡◌, refl, sym, ap, ◌∙◌, subst}
use mathlib.Core.Bool.{true}
use mathlib.Core.List.{List, [], ◌∷◌, ◌++◌, append-nil}
use mathlib.Core.Logic.{◌↔◌}
use mathlib.Core.Option.{Option, none, some, none-ne-some, some-injective}
use native.Mathlib.Omega.{arith}
use borrow.Author.Tests.{eqb-true}
use lib.Dec.{eqb}
use lib.IntN.{ℤ}
use lib.ListN.{length, length-append}
use Rattle.text.specs.Scan.{Taken, taken}
use Rattle.rules.specs.Request.{Request}
use Rattle.rules.specs.Line.{line_text, line_of, is_journalled, passes_test3}
use Rattle.rules.specs.Reader.{Line, take_line, has_its_figures, request_named, is_valid_line, request_from, take_request, alone, request_of}
use Rattle.rules.specs.declared.Heading.{Heading}
use Rattle.keys.proofs.Split.{and_intro, and_left, and_right, cond-true}
use Rattle.lines.proofs.Chosen.{chosen-only}
use Rattle.lines.proofs.NamedRequests.{ItsLine, its-line, named-written, named-journalled}
use Rattle.lines.proofs.WholeLines.{whole-line-written, whole-line-taken}

-- ---- at the front of a text

-- What was taken is a line written of a request that passes test 3.
abbrev Lined : List ℕ → Taken Request → Type 0
Lined text t = (text ≡ line_of t.value ++ t.rest) × (passes_test3 t.value ≡ true) × (is_journalled t.value ≡ true)

lined : (text : List ℕ) (o : Option (Taken Line)) (t : Taken Request) → take_line text ≡ o → request_from o ≡ some t → Lined text t
unfolding request_from is_valid_line
lined text none t e h = absurd (none-ne-some t h)
lined text (some l) t e h =
    let heading : Heading = l.value.heading in
    let figures : List ℤ = l.value.figures in
    let (valid, g) = chosen-only (is_valid_line heading figures) (some (taken (request_named heading figures) l.rest)) t h in
    let its : has_its_figures heading (length figures) ≡ true = and_left (has_its_figures heading (length figures)) (passes_test3 (request_named heading figures)) valid in
    let passes : passes_test3 (request_named heading figures) ≡ true = and_right (has_its_figures heading (length figures)) (passes_test3 (request_named heading figures)) valid in
    let written : text ≡ line_of (request_named heading figures) ++ l.rest =
    whole-line-written text l e ∙ ap (λ (line : List ℕ). line ++ l.rest) (sym (named-written heading figures its)) in
    subst (Lined text) (some-injective (taken (request_named heading figures) l.rest) t g) (written, passes, named-journalled heading figures)

pub taken-line : (text : List ℕ) (t : Taken Request) → take_request text ≡ some t
    → (text ≡ line_of t.value ++ t.rest) × (passes_test3 t.value ≡ true) × (is_journalled t.value ≡ true)
unfolding take_request
taken-line text t h = lined text (take_line text) t refl h

pub line_taken : (r : Request) (rest : List ℕ) → is_journalled r ≡ true → passes_test3 r ≡ true → take_request (line_of r ++ rest) ≡ some (taken r rest)
unfolding take_request request_from is_valid_line
line_taken r rest journalled passes =
    let l : ItsLine r = its-line r journalled passes in
    ap (λ (line : List ℕ). take_request (line ++ rest)) l.written
    ∙ ap request_from (whole-line-taken l.heading l.figures rest l.few l.short)
    ∙ cond-true (some (taken (request_named l.heading l.figures) rest)) none (and_intro l.has-its-figures (ap passes_test3 l.named ∙ passes))
    ∙ ap (λ (r : Request). some (taken r rest)) l.named

-- The theorem.
pub read-exactly : (text : List ℕ) (r : Request) (rest : List ℕ) →
    (take_request text ≡ some (taken r rest)) ↔ ((text ≡ line_of r ++ rest) × (passes_test3 r ≡ true) × (is_journalled r ≡ true))
read-exactly text r rest = (λ h. taken-line text (taken r rest) h, λ g. ap take_request g.0 ∙ line_taken r rest g.2 g.1)

-- ---- a line has a newline at least

line-long : (heading : Heading) (figures : List ℤ) → 0 < length (line_text heading figures)
unfolding line_text
line-long heading figures = simp length-append (omega arith)

pub line-not-empty : (r : Request) → is_journalled r ≡ true → passes_test3 r ≡ true → 0 < length (line_of r)
line-not-empty r journalled passes = let l : ItsLine r = its-line r journalled passes in rw l.written (line-long l.heading l.figures)

pub shorter : (text : List ℕ) (t : Taken Request) → take_request text ≡ some t → length t.rest < length text
shorter text t h =
    let (written, passes, journalled) = taken-line text t h in
    omega (arith, simp length-append at (ap length written), line-not-empty t.value journalled passes)

-- ---- a line alone

-- Nothing is left where the line stands alone.
empty : (text : List ℕ) → length text ≡ 0 → text ≡ []
empty [] h = refl
empty (b ∷ rest) h = absurd (omega arith)

alone-written : (line : List ℕ) (o : Option (Taken Request)) (r : Request) → take_request line ≡ o → alone o ≡ some r
    → (line ≡ line_of r) × (passes_test3 r ≡ true) × (is_journalled r ≡ true)
unfolding alone
alone-written line none r e h = absurd (none-ne-some r h)
alone-written line (some t) r e h =
    let (none_left, g) = chosen-only (eqb (length t.rest) 0) (some t.value) r h in
    let rest : t.rest ≡ [] = empty t.rest (eqb-true (length t.rest) 0 none_left) in
    let (written, passes, journalled) = taken-line line t e in
    let all : line ≡ line_of t.value = written ∙ ap (λ (l : List ℕ). line_of t.value ++ l) rest ∙ append-nil (line_of t.value) in
    subst (λ (r : Request). (line ≡ line_of r) × (passes_test3 r ≡ true) × (is_journalled r ≡ true)) (some-injective t.value r g) (all, passes, journalled)

line_read : (r : Request) → is_journalled r ≡ true → passes_test3 r ≡ true → request_of (line_of r) ≡ some r
unfolding request_of alone
line_read r journalled passes = ap request_of (sym (append-nil (line_of r))) ∙ ap alone (line_taken r [] journalled passes)

pub alone-exactly : (line : List ℕ) (r : Request) → (request_of line ≡ some r) ↔ ((line ≡ line_of r) × (passes_test3 r ≡ true) × (is_journalled r ≡ true))
unfolding request_of
alone-exactly line r = (λ h. alone-written line (take_request line) r refl h, λ g. ap request_of g.0 ∙ line_read r g.2 g.1)
