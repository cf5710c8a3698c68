-- The columns of a row that are made by tests, as functions of the bits SINGLE (s), IS_SET (a) and IS_WRITE (w): the kind is a + 2w, and
-- at most one of the two is set. Assumes nothing.
use mathlib.Core.Path.{◌≡◌, refl, ap}
use mathlib.Core.Bool.{Bool, true, false, cond, not, ◌&&◌}
use Prim.Native.Nat.{ℕ, zero, suc, ◌+◌, ◌-◌, ◌*◌, ◌^◌, ◌%◌, ◌≤◌, ◌<◌}
use native.Mathlib.Omega.{arith}
use borrow.Author.Tests.{eq-eqb, ne_eqb}
use lib.Dec.{eqb, eqb-suc-zero}
use Rattle.words.specs.Words.{wrap_add, bit}

-- SINGLE: the width is 1
pub single_test : (s : ℕ) → s < 2 → s ≡ bit (eqb (8 - 7 * s) 1)
single_test zero h = refl
single_test (suc zero) h = refl
single_test (suc (suc s)) h = absurd (omega arith)

-- IS_SET and IS_WRITE: the kind is 1, 2
pub set_test : (a w : ℕ) → a + w < 2 → a ≡ bit (eqb (a + 2 * w) 1)
set_test zero w h = rw (ne_eqb (0 + 2 * w) 1 (λ e. omega arith))
set_test (suc zero) w h = rw (eq-eqb (1 + 2 * w) 1 (omega arith))
set_test (suc (suc a)) w h = absurd (omega arith)

pub kind_write : (a w : ℕ) → a + w < 2 → eqb (a + 2 * w) 2 ≡ eqb w 1
kind_write a zero h = ne_eqb (a + 2 * 0) 2 (λ e. omega arith)
kind_write a (suc zero) h = eq-eqb (a + 2 * 1) 2 (omega arith)
kind_write a (suc (suc w)) h = absurd (omega arith)

module _ (a w : ℕ) (one : a + w < 2) where
  pub write_test : w ≡ bit (eqb (a + 2 * w) 2)
  write_test = rw (kind_write a w one) (go w one)
    where
      go : (w : ℕ) → a + w < 2 → w ≡ bit (eqb w 1)
      go zero h = refl
      go (suc zero) h = refl
      go (suc (suc w)) h = absurd (omega arith)

  -- FIRST_WRITE: FIRST of a Write
  pub first_write_test : (f : ℕ) → f * w ≡ cond (eqb (a + 2 * w) 2) f 0
  first_write_test f = rw (kind_write a w one) (go w one)
    where
      go : (w : ℕ) → a + w < 2 → f * w ≡ cond (eqb w 1) f 0
      go zero h = omega arith
      go (suc zero) h = omega arith
      go (suc (suc w)) h = absurd (omega arith)

  -- DST_RES: dst + count of a Write
  pub res_test : (d n : ℕ) → d < 2 ^ 64 → wrap_add d (n * w) ≡ cond (eqb (a + 2 * w) 2) (wrap_add d n) d
  res_test d n l = rw (kind_write a w one) (go w one)
    where
      go : (w : ℕ) → a + w < 2 → (d + n * w) % 2 ^ 64 ≡ cond (eqb w 1) ((d + n) % 2 ^ 64) d
      go zero h = omega arith
      go (suc zero) h = omega arith
      go (suc (suc w)) h = absurd (omega arith)

  -- MU_COM: a Write that moves bytes
  pub mu_com_test : (n : ℕ) → (1 - (1 - n)) * w ≡ bit (eqb (a + 2 * w) 2 && not (eqb n 0))
  mu_com_test n = rw (kind_write a w one) (go w one n)
    where
      go : (w : ℕ) → a + w < 2 → (n : ℕ) → (1 - (1 - n)) * w ≡ bit (eqb w 1 && not (eqb n 0))
      go zero h n = omega arith
      go (suc zero) h zero = refl
      go (suc zero) h (suc n) = rw (eqb-suc-zero n) (omega arith)
      go (suc (suc w)) h n = absurd (omega arith)

-- MU_COM_WIDE: that of a row of eight bytes
pub wide_test : (t : Bool) (s : ℕ) → s < 2 → bit t * (1 - s) ≡ bit (t && eqb (8 - 7 * s) 8)
wide_test true zero h = refl
wide_test false zero h = refl
wide_test true (suc zero) h = refl
wide_test false (suc zero) h = refl
wide_test t (suc (suc s)) h = absurd (omega arith)

-- (m - b) w, of a kind w that only a live row has
pub live_product : (m b w : ℕ) → m < 2 → w ≤ m → (m - b) * w ≡ (1 - b) * w
live_product m b zero hm hw = omega arith
live_product m b (suc w) hm hw = ap (λ x. (x - b) * suc w) (omega arith)
