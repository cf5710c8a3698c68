-- The row count is the least power of two that is at least n and at least 4, for every n up to 2^63; and so is what the leading zeros
-- of n - 1 give. Both hold since there is only one such power. Assumes nothing.
use mathlib.Core.Path.{◌≡◌, refl, ◌∙◌}
use mathlib.Core.Bool.{Bool, true, false, cond}
use Prim.Native.Nat.{ℕ, zero, suc, ◌+◌, ◌-◌, ◌*◌, ◌%◌, ◌^◌, ◌≤◌, ◌<◌}
use native.Mathlib.Nat.{le_antisymm, le_refl, lt_of_not-le, not-le_of_lt, pow-suc, mod-eq_of_lt, mul_comm, add-suc, suc-add, add-zero}
use native.Mathlib.Omega.{arith}
use borrow.Author.Tests.{leb-true, leb-false}
use lib.Dec.{leb, lit≤}
use lib.Pow.{pow_mono, pow-lt}
use lib.Count.{count_leading_zeros, leading_top, leading_length}
use Rattle.records.specs.RowCount.{doubled, row_count, LeastPower}

pub least_unique : {n r s : ℕ} → LeastPower n r → LeastPower n s → r ≡ s
least_unique {n} {r} {s} a b =
    le_antisymm
    (rw b.power (a.least b.exponent (rw b.power at b.covers) (rw b.power at b.four)))
    (rw a.power (b.least a.exponent (rw a.power at a.covers) (rw a.power at a.four)))

-- a power of two above another is at least twice the other
next_power : (k j : ℕ) → 2 ^ k < 2 ^ j → 2 ^ suc k ≤ 2 ^ j
next_power k j h = pow_mono (lt_of_not-le (λ (g : j ≤ k). not-le_of_lt h (pow_mono g)))

-- By doubling

doubled_step : (k n d : ℕ) (b : Bool) → leb n (2 ^ k) ≡ b → 4 ≤ 2 ^ k → ((j : ℕ) → n ≤ 2 ^ j → 4 ≤ 2 ^ j → 2 ^ k ≤ 2 ^ j)
    → (2 ^ k < n → LeastPower n d) → LeastPower n (cond b (2 ^ k) d)
doubled_step k n d true e four low more =
    record { exponent = k; power = refl; covers = leb-true _ _ e; four = four; least = low }
doubled_step k n d false e four low more = more (leb-false _ _ e)

doubled_least : (f k n : ℕ) → n ≤ 2 ^ (k + f) → 4 ≤ 2 ^ k → ((j : ℕ) → n ≤ 2 ^ j → 4 ≤ 2 ^ j → 2 ^ k ≤ 2 ^ j)
    → LeastPower n (doubled f (2 ^ k) n)
unfolding doubled
doubled_least zero k n h four low =
    record { exponent = k; power = refl; covers = rw add-zero at h; four = four; least = low }
doubled_least (suc f) k n h four low =
    doubled_step k n _ (leb n (2 ^ k)) refl four low
    (λ past.
    rw (mul_comm 2 (2 ^ k), ← pow-suc 2 k)
    (doubled_least f (suc k) n
    (rw (add-suc, ← suc-add) at h)
    (omega (arith, pow-suc 2 k))
    (λ j a b. next_power k j (omega arith))))

pub row_count_least : (n : ℕ) → n ≤ 2 ^ 63 → LeastPower n (row_count n)
unfolding row_count
row_count_least n h = doubled_least 61 2 n h (lit≤ tt) (λ j a b. b)

-- the row count is at most any power of two that covers n and is at least 4
pub row_count_le : (n j : ℕ) → n ≤ 2 ^ 63 → n ≤ 2 ^ j → 4 ≤ 2 ^ j → row_count n ≤ 2 ^ j
row_count_le n j small covers four = (row_count_least n small).least j covers four

pub row_count_covers : (n : ℕ) → n ≤ 2 ^ 63 → n ≤ row_count n
row_count_covers n h = (row_count_least n h).covers

-- By leading zeros

pub four_least : (n : ℕ) → n ≤ 4 → LeastPower n 4
four_least n h = record { exponent = 2; power = refl; covers = h; four = le_refl 4; least = λ j a b. b }

-- a number below 2^63 has a leading zero, so 1 can be moved up by the digits below its leading zeros
pub zeros_short : (a : ℕ) → a < 2 ^ 63 → 64 - count_leading_zeros 64 a < 64
zeros_short a h =
    let t = leading_length 64 a (omega arith) in
    let low : t.0 < 64 = lt_of_not-le (λ (g : 64 ≤ t.0). not-le_of_lt {n = 2 ^ 64} {m = 2 ^ t.0} (omega (arith, t.3)) (pow_mono g)) in
    omega (arith, t.1)

-- 1 moved up by the digits below the leading zeros of n - 1
pub zeros_least : (n : ℕ) → 4 < n → n ≤ 2 ^ 63 → LeastPower n ((1 * 2 ^ (64 - count_leading_zeros 64 (n - 1))) % 2 ^ 64)
zeros_least n big small =
    let t = leading_top 64 (n - 1) (omega arith) (omega arith) in
    let j = t.0 in
    let e : 64 - count_leading_zeros 64 (n - 1) ≡ suc j = omega (arith, t.1) in
    let low : suc j < 64 = omega (arith, zeros_short (n - 1) (omega arith)) in
    let exact : (1 * 2 ^ suc j) % 2 ^ 64 ≡ 2 ^ suc j =
    mod-eq_of_lt (omega (arith, pow-lt {i = suc j} {j = 64} low)) ∙ omega arith in
    rw (e, exact)
    (record {
      exponent = suc j;
      power = refl;
      covers = omega (arith, t.3);
      four = omega (arith, t.3);
      least = λ i a b. next_power j i (omega (arith, t.2));
    })
