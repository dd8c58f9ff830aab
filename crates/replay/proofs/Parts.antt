-- A part of the text is read anew: what is taken of it, and what that is of the reader's bytes.
use Rattle.std.proofs.Common.{◌≡◌, ℕ, ◌+◌, ◌≤◌, List, ◌++◌, length, take, ap, ap₂, ◌∙◌, drop_at, length-take-le}
use borrow.Rule.Slice.PartMut.{put_mid, post_of, take_put}
use lib.Seq.{take-add, take-append-le}

pub taken : (at n k : ℕ) (text part : List ℕ) → at ≤ length text → n ≤ length part → take (at + n) (put_mid at k text part) ≡ take at text ++ take n part
taken at n k text part within fits =
    let after = post_of at k text in
    take-add at n (put_mid at k text part)
    ∙ ap₂ (λ a b. a ++ b) (take_put at k text part within) (ap (take n) (drop_at (take at text) (part ++ after) at (length-take-le at text within)) ∙ take-append-le n part after fits)
