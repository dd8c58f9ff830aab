-- What was read of a file stands within the text that it was read into: so many bytes from its first on.
use Rattle.std.specs.Prelude.{◌≡◌, ℕ, ◌≤◌, List, length, take, IfSome, MatchResult, ⊤}
use Rattle.std.specs.declared.option.Option.{Option}
use Rattle.std.specs.declared.result.Result.{Result}

abbrev pub WithinText : {E : Type 0} → Result ℕ E → List ℕ → Type 0
WithinText r text = MatchResult r (λ n. n ≤ length text) (λ _. ⊤)

-- Where the reader's bytes are known, what was read is as many of the first as the text has room for.
abbrev pub ReadsStart : {E : Type 0} → Option (List ℕ) → Result ℕ E → List ℕ → Type 0
ReadsStart known r text = IfSome known (λ bytes. MatchResult r (λ n. take n text ≡ take (length text) bytes) (λ _. ⊤))
