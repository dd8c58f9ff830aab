-- Rows that change their status and nothing else: what is found at every key stays as it was but for the status, so every id keeps its greatest suffix.
-- By induction on the rows that are put. Assumes nothing.
use mathlib.Core.Path.{◌≡◌, refl, sym, ◌∙◌, ap, subst}
use mathlib.Core.Bool.{true, false}
use mathlib.Core.List.{List, [], ◌∷◌}
use mathlib.Core.Logic.{◌⊎◌, inl, inr}
use mathlib.Core.Option.{Option, none, some}
use lib.IntN.{ℤ, pos, ◌+ℤ◌}
use lib.Signed.{le_z, ◌≤ℤ◌}
use Rattle.integers.proofs.Linear.{zarith}
use Rattle.rules.specs.Keyed.{Key, same, is_some, find, greatest, upsert, upsert_all}
use Rattle.rules.specs.Rows.{key_of, record_key, adjusted_record, inverse_record}
use Rattle.rules.specs.NamedRecord.{no_record, the_record, next_suffix}
use Rattle.rules.specs.declared.Record.{Record}
use Rattle.keys.proofs.Split.{split, clash, none-some, Found, absent, present, found}
use Rattle.keys.proofs.KeyOrder.{same-eq}
use Rattle.keys.proofs.Clauses.{upsert_all-nil, upsert_all-cons, is_some-none, is_some-some}
use Rattle.keys.proofs.Lookup.{find-upsert, find-upsert-other}
use Rattle.keys.proofs.Greatest.{greatest-found, found-greatest, greatest-bounds, greatest-none}
use Rattle.soundness.proofs.NamedRecord.{record_of, next_of, free-from-next}
use Rattle.merge_sources.proofs.Each.{Each}

-- ---- greatest suffixes

-- Where two tables have the same keys of an id, its greatest suffix is the same.
pub greatest-alike : (m : ℤ) (t u : List Record) → ((s : ℤ) → is_some (find record_key (key_of m s) t) ≡ is_some (find record_key (key_of m s) u)) → greatest record_key m t ≡ greatest record_key m u
greatest-alike m t u same_keys = go (found (greatest record_key m t)) (found (greatest record_key m u))
  where
    there : (s : ℤ) (x : Record) (a b : List Record) → find record_key (key_of m s) a ≡ some x → is_some (find record_key (key_of m s) a) ≡ is_some (find record_key (key_of m s) b) →
        is_some (find record_key (key_of m s) b) ≡ true
    there s x a b f e = sym e ∙ ap (λ (o : Option Record). is_some o) f ∙ is_some-some x

    missing : (s : ℤ) (b : List Record) → greatest record_key m b ≡ none → is_some (find record_key (key_of m s) b) ≡ false
    missing s b e = ap (λ (o : Option Record). is_some o) (greatest-none record_key m s b e) ∙ is_some-none Record

    bound : (g h : ℤ) (b : List Record) → greatest record_key m b ≡ some h → is_some (find record_key (key_of m g) b) ≡ true → le_z g h ≡ true
    bound g h b e i = at (found (find record_key (key_of m g) b))
      where
        at : Found (find record_key (key_of m g) b) → le_z g h ≡ true
        at (absent f) = clash i (ap (λ (o : Option Record). is_some o) f ∙ is_some-none Record)
        at (present x f) = greatest-bounds record_key m g h b x e f

    go : Found (greatest record_key m t) → Found (greatest record_key m u) → greatest record_key m t ≡ greatest record_key m u
    go (absent e) (absent f) = e ∙ sym f
    go (absent e) (present h f) =
        let w : (x : Record) × (find record_key (key_of m h) u ≡ some x) = greatest-found record_key m h u f in
        clash (there h w.0 u t w.1 (sym (same_keys h))) (missing h t e)
    go (present g e) (absent f) =
        let w : (x : Record) × (find record_key (key_of m g) t ≡ some x) = greatest-found record_key m g t e in
        clash (there g w.0 t u w.1 (same_keys g)) (missing g u f)
    go (present g e) (present h f) =
        let w : (x : Record) × (find record_key (key_of m g) t ≡ some x) = greatest-found record_key m g t e in
        let v : (x : Record) × (find record_key (key_of m h) u ≡ some x) = greatest-found record_key m h u f in
        let low : le_z g h ≡ true = bound g h u f (there g w.0 t u w.1 (same_keys g)) in
        let high : le_z h g ≡ true = bound h g t e (there h v.0 u t v.1 (sym (same_keys h))) in
        let level : g ≡ h = omega zarith in
        e ∙ ap some level ∙ sym f

-- A row put at its id's next suffix raises that by one.
pub next-raised : (t : List Record) (r : Record) → r.suffix ≡ next_of t r.id → next_of (upsert record_key r t) r.id ≡ next_of t r.id +ℤ pos 1
unfolding next_suffix
next-raised t r e =
    let u : List Record = upsert record_key r t in
    let w : (g : ℤ) × (greatest record_key r.id u ≡ some g) × (le_z r.suffix g ≡ true) = found-greatest record_key r.id r.suffix u r (find-upsert record_key r t) in
    let v : (x : Record) × (find record_key (key_of r.id w.0) u ≡ some x) = greatest-found record_key r.id w.0 u w.1 in
    ap next_suffix w.1 ∙ ap (λ (g : ℤ). g +ℤ pos 1) (go w.0 w.2 v.0 v.1 (split (same (record_key r) (key_of r.id w.0))) ∙ e)
  where
    go : (g : ℤ) → le_z r.suffix g ≡ true → (x : Record) → find record_key (key_of r.id g) (upsert record_key r t) ≡ some x →
        (same (record_key r) (key_of r.id g) ≡ true) ⊎ (same (record_key r) (key_of r.id g) ≡ false) → g ≡ r.suffix
    go g h x f (inl s) = sym (ap (λ (k : Key). k.minor) (same-eq (record_key r) (key_of r.id g) s))
    go g h x f (inr s) =
        let low : next_of t r.id ≤ℤ g = subst (λ (z : ℤ). z ≤ℤ g) e (omega zarith) in
        none-some (free-from-next t r.id g low) (sym (find-upsert-other record_key (key_of r.id g) r t s) ∙ f)

-- ---- changes of status

-- What is found, its status set aside.
abbrev pub settled : Option Record → Option Record
settled none = none
settled (some r) = some (adjusted_record r)

settled_same : (o p : Option Record) → settled o ≡ settled p → is_some o ≡ is_some p
unfolding is_some
settled_same none none e = refl
settled_same none (some r) e = none-some refl e
settled_same (some r) none e = none-some refl (sym e)
settled_same (some r) (some s) e = refl

settled_record : Option Record → Record
settled_record none = adjusted_record no_record
settled_record (some r) = r

settled-record : (o : Option Record) → adjusted_record (the_record o) ≡ settled_record (settled o)
unfolding the_record settled_record
settled-record none = refl
settled-record (some r) = refl

-- A row that stands in the table but for its status.
abbrev pub Settles : List Record → Record → Type 0
Settles t r = settled (find record_key (record_key r) t) ≡ some (adjusted_record r)

settles-one : (r : Record) (t : List Record) → Settles t r → (k : Key) → settled (find record_key k (upsert record_key r t)) ≡ settled (find record_key k t)
settles-one r t s k = go (split (same (record_key r) k))
  where
    go : (same (record_key r) k ≡ true) ⊎ (same (record_key r) k ≡ false) → settled (find record_key k (upsert record_key r t)) ≡ settled (find record_key k t)
    go (inl e) =
        subst (λ (x : Key). settled (find record_key x (upsert record_key r t)) ≡ settled (find record_key x t)) (same-eq (record_key r) k e)
        (ap settled (find-upsert record_key r t) ∙ sym s)
    go (inr e) = ap settled (find-upsert-other record_key k r t e)

settles-still : (t u : List Record) → ((k : Key) → settled (find record_key k u) ≡ settled (find record_key k t)) → (rs : List Record) → Each (Settles t) rs → Each (Settles u) rs
settles-still t u e [] s = tt
settles-still t u e (r ∷ rest) s = (e (record_key r) ∙ s.0, settles-still t u e rest s.1)

pub settles-all : (rs t : List Record) → Each (Settles t) rs → (k : Key) → settled (find record_key k (upsert_all record_key rs t)) ≡ settled (find record_key k t)
settles-all [] t s k = ap (λ (u : List Record). settled (find record_key k u)) (upsert_all-nil record_key t)
settles-all (r ∷ rest) t s k =
    let one : (x : Key) → settled (find record_key x (upsert record_key r t)) ≡ settled (find record_key x t) = settles-one r t s.0 in
    ap (λ (u : List Record). settled (find record_key k u)) (upsert_all-cons record_key r rest t)
    ∙ settles-all rest (upsert record_key r t) (settles-still t (upsert record_key r t) one rest s.1) k
    ∙ one k

-- What tables that agree but for the status have in common.
module _ (t u : List Record) (alike : (k : Key) → settled (find record_key k u) ≡ settled (find record_key k t)) where
  pub stands_alike : (k : Key) → is_some (find record_key k u) ≡ is_some (find record_key k t)
  stands_alike k = settled_same (find record_key k u) (find record_key k t) (alike k)

  pub next-alike : (m : ℤ) → next_of u m ≡ next_of t m
  next-alike m = ap next_suffix (greatest-alike m u t (λ s. stands_alike (key_of m s)))

  pub record-alike : (k : Key) → adjusted_record (record_of u k) ≡ adjusted_record (record_of t k)
  record-alike k = settled-record (find record_key k u) ∙ ap settled_record (alike k) ∙ sym (settled-record (find record_key k t))

  -- An inverse does not show the status of the record that it inverts.
  pub inverse-alike : (today : ℤ) (k : Key) (suffix kind long short into : ℤ) → inverse_record today (record_of u k) suffix kind long short into ≡ inverse_record today (record_of t k) suffix kind long short into
  unfolding inverse_record adjusted_record
  inverse-alike today k suffix kind long short into = ap (λ (r : Record). inverse_record today r suffix kind long short into) (record-alike k)
