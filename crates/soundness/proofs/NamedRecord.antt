-- The record that a request names, once tests 5 and 7 do not apply, on a sound table: it stands at its key, it is sound and not an inverse,
-- and its id's next suffix is above its own. No row stands at the next suffix of an id or above it. Assumes nothing.
use mathlib.Core.Path.{◌≡◌, sym, ◌∙◌, ap, subst}
use mathlib.Core.Bool.{true, false}
use mathlib.Core.List.{List, map}
use mathlib.Core.Option.{Option, none, some}
use borrow.Author.Tests.{not-false}
use lib.IntN.{ℤ, pos, ◌+ℤ◌}
use lib.Signed.{le_z, ◌≤ℤ◌, ◌<ℤ◌, ≤ℤ_refl}
use Rattle.integers.specs.Order.{eq_z}
use Rattle.integers.proofs.Parts.{eq_z-true}
use Rattle.integers.proofs.Linear.{zarith, +-lin}
use Rattle.rules.specs.Figures.{adjustable, inverse, most_quantity}
use Rattle.rules.specs.Keyed.{Key, find, greatest, is_some}
use Rattle.rules.specs.Rows.{key_of, record_key, sound_record, with_status, adjusted_record}
use Rattle.rules.specs.Refusal.{all_of}
use Rattle.rules.specs.NamedRecord.{the_record, is_not_adjustable, next_suffix}
use Rattle.rules.specs.declared.Record.{Record}
use Rattle.keys.proofs.Split.{Found, absent, present, found}
use Rattle.keys.proofs.Lookup.{find-key, find-all}
use Rattle.keys.proofs.Greatest.{found-greatest, greatest-none, above-greatest}
use Rattle.keys.proofs.Counts.{is_some-present}
use Rattle.soundness.proofs.SoundRecord.{SoundRecord, record-sound}
use Rattle.soundness.proofs.SoundRows.{open-quantity, adjustable-open}

-- The record at a key, and the next suffix of an id.
abbrev pub record_of : List Record → Key → Record
record_of t k = the_record (find record_key k t)

abbrev pub next_of : List Record → ℤ → ℤ
next_of t id = next_suffix (greatest record_key id t)

pub record Named (t : List Record) (k : Key) : Type 0 where
  pub stands : find record_key k t ≡ some (record_of t k)
  pub key : record_key (record_of t k) ≡ k
  pub sound : SoundRecord (record_of t k)
  pub not-inverse : eq_z (record_of t k).status inverse ≡ false
  pub positive : pos 1 ≤ℤ (record_of t k).quantity
  pub small : (record_of t k).quantity ≤ℤ pos most_quantity
  pub next-above : (record_of t k).suffix <ℤ next_of t k.major
  pub next-reached : next_of t (record_of t k).id ≤ℤ next_of t k.major

record-stands : (t : List Record) (k : Key) → is_some (find record_key k t) ≡ true → find record_key k t ≡ some (record_of t k)
unfolding the_record
record-stands t k h = let w : (r : Record) × (find record_key k t ≡ some r) = is_some-present (find record_key k t) h in
    w.1 ∙ ap (λ (o : Option Record). some (the_record o)) (sym w.1)

-- A suffix that stands is below the next one.
stands-below-next : (t : List Record) (id suffix : ℤ) (r : Record) → find record_key (key_of id suffix) t ≡ some r → suffix <ℤ next_of t id
unfolding next_suffix
stands-below-next t id suffix r f =
    let w : (g : ℤ) × (greatest record_key id t ≡ some g) × (le_z suffix g ≡ true) = found-greatest record_key id suffix t r f in
    let h : le_z suffix w.0 ≡ true = w.2 in
    let k : suffix <ℤ (w.0 +ℤ pos 1) = omega (zarith, +-lin w.0 (pos 1)) in
    subst (λ (o : Option ℤ). suffix <ℤ next_suffix o) (sym w.1) k

-- Nothing stands at the next suffix of an id or above it.
pub free-from-next : (t : List Record) (id suffix : ℤ) → next_of t id ≤ℤ suffix → find record_key (key_of id suffix) t ≡ none
unfolding next_suffix
free-from-next t id suffix h = go (found (greatest record_key id t))
  where
    go : Found (greatest record_key id t) → find record_key (key_of id suffix) t ≡ none
    go (absent e) = greatest-none record_key id suffix t e
    go (present g e) =
        let k : (g +ℤ pos 1) ≤ℤ suffix = subst (λ (o : Option ℤ). next_suffix o ≤ℤ suffix) e h in
        above-greatest record_key id suffix g t e (omega (zarith, +-lin g (pos 1)))

-- Of any status but that of an inverse.
pub named-open : (t : List Record) (k : Key) → all_of (map sound_record t) ≡ true → is_some (find record_key k t) ≡ true → eq_z (record_of t k).status inverse ≡ false → Named t k
named-open t k all h n =
    let r : Record = record_of t k in
    let f : find record_key k t ≡ some r = record-stands t k h in
    let e : record_key r ≡ k = find-key record_key k t r f in
    let s : SoundRecord r = record-sound r (find-all record_key sound_record k t r all f) in
    record {
      stands = f;
      key = e;
      sound = s;
      not-inverse = n;
      positive = (open-quantity r s n).0;
      small = (open-quantity r s n).1;
      next-above = subst (λ (x : Key). x.minor <ℤ next_of t k.major) (sym e) (stands-below-next t k.major k.minor r f);
      next-reached = subst (λ (x : Key). next_of t x.major ≤ℤ next_of t k.major) (sym e) (≤ℤ_refl (next_of t k.major));
    }

-- Past test 7, of status 0.
pub named : (t : List Record) (k : Key) → all_of (map sound_record t) ≡ true → is_some (find record_key k t) ≡ true → is_not_adjustable (record_of t k) ≡ false → Named t k
unfolding is_not_adjustable
named t k all h n =
    named-open t k all h (adjustable-open (record_of t k).status (eq_z-true (record_of t k).status adjustable (not-false (eq_z (record_of t k).status adjustable) n)))

-- The record in another status has the key at which it stands.
pub restated-stands : (t : List Record) (k : Key) → Named t k → (status : ℤ) → find record_key (record_key (with_status status (record_of t k))) t ≡ some (record_of t k)
restated-stands t k n status = subst (λ (x : Key). find record_key x t ≡ some (record_of t k)) (sym n.key) n.stands

pub adjusted-stands : (t : List Record) (k : Key) → Named t k → find record_key (record_key (adjusted_record (record_of t k))) t ≡ some (record_of t k)
unfolding adjusted_record
adjusted-stands t k n = subst (λ (x : Key). find record_key x t ≡ some (record_of t k)) (sym n.key) n.stands
