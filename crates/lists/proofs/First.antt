-- Laws of `first`: what a counting loop needs that looks for the lowest number that meets a test, and that `first` finds it. Document
-- 01 names the lowest record, row or index in each refusal that has a place. Assumes nothing.
use mathlib.Core.Path.{◌≡◌, refl, sym, ap, ◌∙◌}
use mathlib.Core.Logic.{⊎_elim}
use mathlib.Core.Bool.{Bool, true, false, cond}
use Prim.Native.Nat.{ℕ, zero, suc, ◌+◌, ◌-◌, ◌≤◌, ◌<◌}
use native.Mathlib.Nat.{eq-or-lt_of_le}
use native.Mathlib.Omega.{arith}
use Rattle.lists.specs.Lists.{first, Lowest}

-- A loop that is at k, of the numbers below n

pub first_miss : (test : ℕ → Bool) (k n : ℕ) → k < n → test k ≡ false → first test k (n - k) ≡ first test (k + 1) (n - (k + 1))
unfolding first
first_miss test k n h e = let s : n - k ≡ suc (n - (k + 1)) = omega arith in rw (s, e)

pub first_hit : (test : ℕ → Bool) (k n : ℕ) → k < n → test k ≡ true → first test k (n - k) ≡ k
unfolding first
first_hit test k n h e = let s : n - k ≡ suc (n - (k + 1)) = omega arith in rw (s, e)

pub first_end : (test : ℕ → Bool) (k n : ℕ) → n ≤ k → first test k (n - k) ≡ k
unfolding first
first_end test k n h = let s : n - k ≡ 0 = omega arith in rw s

-- What is found

lowest_step : (test : ℕ → Bool) (k m r : ℕ) (b : Bool) → test k ≡ b → Lowest test (k + 1) m r → Lowest test k (suc m) (cond b k r)
lowest_step test k m r true e l =
    record { least = omega arith; most = omega arith; meets = λ h. e; before = λ j a b. absurd (omega arith) }
lowest_step test k m r false e l =
    record {
      least = omega (arith, l.least);
      most = omega (arith, l.most);
      meets = λ h. l.meets (omega arith);
      before = λ j a b.
          ⊎_elim (λ (q : k ≡ j). ap test (sym q) ∙ e) (λ (p : k < j). l.before j (omega arith) b) (eq-or-lt_of_le a);
    }

pub first_lowest : (test : ℕ → Bool) (k m : ℕ) → Lowest test k m (first test k m)
unfolding first
first_lowest test k zero =
    record { least = omega arith; most = omega arith; meets = λ h. absurd (omega arith); before = λ j a b. absurd (omega arith) }
first_lowest test k (suc m) = lowest_step test k m _ (test k) refl (first_lowest test (k + 1) m)

-- where the search runs to the end, no number meets the test
pub first_none_lem : (test : ℕ → Bool) (k m j : ℕ) → k + m ≤ first test k m → k ≤ j → j < k + m → test j ≡ false
first_none_lem test k m j h a b = (first_lowest test k m).before j a (omega arith)

-- and where no number does, it runs to the end
pub first_all : (test : ℕ → Bool) (k m : ℕ) → ((j : ℕ) → k ≤ j → j < k + m → test j ≡ false) → first test k m ≡ k + m
unfolding first
first_all test k zero h = omega arith
first_all test k (suc m) h =
    rw (h k (omega arith) (omega arith)) (first_all test (k + 1) m (λ j a b. h j (omega arith) (omega arith)) ∙ omega arith)
