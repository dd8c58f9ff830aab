-- The tests on keys by their figures, one law for each way through the code: decided by the first figures, or left to the second ones.
-- Assumes nothing.
use mathlib.Core.Path.{◌≡◌}
use mathlib.Core.Bool.{true, false}
use lib.IntN.{ℤ}
use lib.Signed.{lt_z}
use Rattle.integers.specs.Order.{eq_z}
use Rattle.integers.proofs.Parts.{eq_z-refl, false-eq_z}
use Rattle.rules.specs.Keyed.{below, same}
use Rattle.rules.specs.Rows.{key_of}
use Rattle.keys.proofs.Equal.{lt_z-irrefl}

module _ (a b c d : ℤ) where
  pub below-by-major : lt_z a c ≡ true → below (key_of a b) (key_of c d) ≡ true
  unfolding below
  below-by-major h = rw h

  pub not-below-by-major : lt_z a c ≡ false → (a ≡ c → ⊥) → below (key_of a b) (key_of c d) ≡ false
  unfolding below
  not-below-by-major h n = rw (h, false-eq_z a c n)

  pub below-by-minor : a ≡ c → below (key_of a b) (key_of c d) ≡ lt_z b d
  unfolding below
  below-by-minor e = rw (e, lt_z-irrefl c, eq_z-refl c)

  pub not-same-by-major : (a ≡ c → ⊥) → same (key_of a b) (key_of c d) ≡ false
  unfolding same
  not-same-by-major n = rw (false-eq_z a c n)

  pub same-by-minor : a ≡ c → same (key_of a b) (key_of c d) ≡ eq_z b d
  unfolding same
  same-by-minor e = rw (e, eq_z-refl c)
