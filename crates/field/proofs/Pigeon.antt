-- The pigeonhole principle: n different numbers below m are at most m many. The value m - 1 is taken out by putting f's last value in its
-- place. Assumes nothing.
use Rattle.std.proofs.Common.{◌≡◌, ℕ, zero, suc, ◌<◌, ◌≤◌, ◌≢◌, suc-le-suc, zero-le, le_refl, not-suc-le-zero, arith}
use native.Mathlib.Decide.{ℕ_discrete}

choose : {A : Type 0} → Dec A → ℕ → ℕ → ℕ
choose (yes e) a b = a
choose (no e) a b = b

-- f with the value m taken out: where f i is m, f n stands for it
without : (ℕ → ℕ) → ℕ → ℕ → ℕ → ℕ
without f m n i = choose (ℕ_discrete (f i) m) (f n) (f i)

pub pigeonhole : (m n : ℕ) (f : ℕ → ℕ) → ((i : ℕ) → i < n → f i < m) → ((i j : ℕ) → i < j → j < n → f i ≢ f j) → n ≤ m
unfolding without choose
pigeonhole zero zero f b d = zero-le
pigeonhole zero (suc n) f b d = absurd (not-suc-le-zero (b 0 (omega arith)))
pigeonhole (suc m) zero f b d = zero-le
pigeonhole (suc m) (suc n) f b d =
    suc-le-suc
    (pigeonhole m n (without f m n) (λ i h. below i h (ℕ_discrete (f i) m))
    (λ i j h k. apart i j h k (ℕ_discrete (f i) m) (ℕ_discrete (f j) m)))
  where
    below : (i : ℕ) → i < n → (x : Dec (f i ≡ m)) → choose x (f n) (f i) < m
    below i h (yes e) = omega (arith, b n (le_refl (suc n)), d i n h (le_refl (suc n)))
    below i h (no e) = omega (arith, b i (omega arith))

    apart : (i j : ℕ) → i < j → j < n → (x : Dec (f i ≡ m)) (y : Dec (f j ≡ m)) → choose x (f n) (f i) ≢ choose y (f n) (f j)
    apart i j h k (yes x) (yes y) = omega (arith, d i j h (omega arith))
    apart i j h k (yes x) (no y) = omega (arith, d j n k (omega arith))
    apart i j h k (no x) (yes y) = omega (arith, d i n (omega arith) (omega arith))
    apart i j h k (no x) (no y) = d i j h (omega arith)
