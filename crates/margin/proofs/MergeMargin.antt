-- An accepted merge keeps the margin, on any books: the merged record and the residual have the margin of the sources at every settlement price.
-- All sources are on one side (test 10), and the average and the residual keep the margin of each side. Assumes nothing.
use mathlib.Core.Path.{◌≡◌, refl, sym, ◌∙◌, ap}
use mathlib.Core.Bool.{Bool, true, false}
use mathlib.Core.List.{List, [], ◌∷◌, ◌++◌, map}
use mathlib.Core.Logic.{◌⊎◌, inl, inr}
use mathlib.Core.Option.{some}
use lib.IntN.{ℤ, pos, ◌+ℤ◌}
use lib.ListN.{length}
use Rattle.integers.specs.Average.{residual_of}
use Rattle.integers.proofs.AverageLaws.{margin-kept-buy, margin-kept-sell}
use Rattle.rules.specs.Figures.{is_buy}
use Rattle.rules.specs.Keyed.{find, upsert, upsert_all}
use Rattle.rules.specs.Rows.{record_key, by_residual, moved, new_record, adjusted_record}
use Rattle.rules.specs.Refusal.{any_of}
use Rattle.rules.specs.Request.{merge}
use Rattle.rules.specs.Books.{Books, view_of}
use Rattle.rules.specs.Plan.{plan_books, plan_reply, booked}
use Rattle.rules.specs.Merge.{Source, pairs_of, sources_of, records_of, first_of, side_differs, sum_of_quantities, sum_of_values, merge_inverses, merged_record, merge_residual, merge_plan}
use Rattle.rules.specs.Handle.{plan_of}
use Rattle.rules.specs.declared.Record.{Record}
use Rattle.rules.specs.declared.Position.{Position}
use Rattle.keys.proofs.Split.{split}
use Rattle.keys.proofs.Lookup.{find-upsert}
use Rattle.keys.proofs.Clauses.{upsert_all-nil, upsert_all-cons}
use Rattle.keys.proofs.Folds.{upsert_all-append}
use Rattle.soundness.specs.SoundBooks.{plan_on, Accepts, after}
use Rattle.soundness.proofs.MergeAccepted.{merge-passed}
use Rattle.soundness.proofs.ReadPosition.{read_at, read-key, read-put}
use Rattle.margin.specs.Margin.{margin_of, margin_of_all, MergeKeepsMargin}
use Rattle.margin.proofs.OneSide.{margin-of-buy, margin-of-sell, margin-of-buys, margin-of-sells}

-- The merged record and the residual of sources on one side have their margin.
same-margin : (today s id : ℤ) (rs : List Record) → any_of (map (side_differs (first_of rs)) rs) ≡ false → margin_of_all s rs ≡ margin_of s (merged_record today id rs) +ℤ merge_residual rs
unfolding merged_record new_record merge_residual
same-margin today s id rs h = go (split (is_buy (first_of rs).side))
  where
    q : ℤ
    q = sum_of_quantities rs

    v : ℤ
    v = sum_of_values rs

    go : (is_buy (first_of rs).side ≡ true) ⊎ (is_buy (first_of rs).side ≡ false) → margin_of_all s rs ≡ margin_of s (merged_record today id rs) +ℤ merge_residual rs
    go (inl e) =
        margin-of-buys s (first_of rs) rs e h ∙ sym (margin-kept-buy s v q)
        ∙ ap (λ (z : ℤ). z +ℤ residual_of true v q) (sym (margin-of-buy s (merged_record today id rs) e))
        ∙ ap (λ (t : Bool). margin_of s (merged_record today id rs) +ℤ residual_of t v q) (sym e)
    go (inr e) =
        margin-of-sells s (first_of rs) rs e h ∙ sym (margin-kept-sell s v q)
        ∙ ap (λ (z : ℤ). z +ℤ residual_of false v q) (sym (margin-of-sell s (merged_record today id rs) e))
        ∙ ap (λ (t : Bool). margin_of s (merged_record today id rs) +ℤ residual_of t v q) (sym e)

-- A row that is put last is found at its key.
found-last : (xs ys t : List Record) (r : Record) → find record_key (record_key r) (upsert_all record_key (xs ++ (ys ++ (r ∷ []))) t) ≡ some r
found-last xs ys t r =
    let before : List Record = upsert_all record_key ys (upsert_all record_key xs t) in
    ap (λ (u : List Record). find record_key (record_key r) u)
    (upsert_all-append record_key xs (ys ++ (r ∷ [])) t
    ∙ upsert_all-append record_key ys (r ∷ []) (upsert_all record_key xs t)
    ∙ upsert_all-cons record_key r [] before
    ∙ upsert_all-nil record_key (upsert record_key r before))
    ∙ find-upsert record_key r before

pub merge-keeps-margin : (b : Books) (id account series : ℤ) (pairs : List ℤ) → Accepts b (merge id account series pairs) →
    MergeKeepsMargin b (plan_reply (plan_on b (merge id account series pairs))) (after b (merge id account series pairs)) id account series pairs
unfolding plan_of merge_plan plan_reply plan_books booked view_of merged_record new_record moved
merge-keeps-margin b id account series pairs accepted =
    let sources : List Source = sources_of (view_of b) (pairs_of pairs) in
    let rs : List Record = records_of sources in
    let old : Position = read_at account series b.positions in
    record {
      merged = merged_record b.day id rs;
      rows = pos (length sources) +ℤ pos 1;
      residual = merge_residual rs;
      stands = found-last (map adjusted_record rs) (merge_inverses b.day id [] sources) b.records (merged_record b.day id rs);
      answered = refl;
      grown = ap (λ (p : Position). p.cash) (read-put account series (moved old (by_residual (merge_residual rs))) b.positions (read-key account series b.positions));
      kept = λ s. same-margin b.day s id rs (merge-passed b id account series pairs accepted).sources-on-one-side;
    }
