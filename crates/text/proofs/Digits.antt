-- The digits that `io::decimal` writes, the fewest that hold a number, are the number's text, and below 2^64 they are at most 20.
-- Assumes nothing.
use Prim.Native.Nat.{ℕ, zero, suc, ◌+◌, ◌*◌, ◌-◌, ◌/◌, ◌%◌, ◌^◌, ◌≤◌, ◌<◌}
use mathlib.Core.Path.{◌≡◌, refl, sym, ap, ◌∙◌, subst}
use native.Mathlib.Nat.{pow-zero, pow-suc, pow-le-pow_right}
use mathlib.Core.Bool.{Bool, true, false}
use mathlib.Core.List.{List, [], ◌∷◌, ◌++◌}
use native.Mathlib.Omega.{arith}
use borrow.Author.Tests.{lt-ltb, le-ltb, leb-true, leb-false}
use lib.Dec.{leb}
use Rattle.io.specs.Digits.{last_digits, IsDigitCount}
use Rattle.text.specs.RowLines.{digits_by, decimal_text}

one_digit : (f n : ℕ) → n < 10 → last_digits 10 1 n ≡ digits_by (suc f) n
unfolding digits_by
one_digit f n h =
    let e : n % 10 ≡ n = omega arith in
    rw (lt-ltb n 10 h, e, lt-ltb n 10 h)

power_pos : (j : ℕ) → 0 < 10 ^ j
power_pos zero = rw pow-zero (omega arith)
power_pos (suc j) = let h = power_pos j in rw pow-suc (omega arith)

-- n / 10 has one digit less
tenth : (n q : ℕ) → 0 < q → n < q * 10 * 10 → q * 10 ≤ n → (n / 10 < q * 10) × ((q ≤ n / 10) × (10 ≤ n))
tenth n q h k m = (omega arith, (omega arith, omega arith))

less_one : (j : ℕ) → suc j - 1 ≡ j
less_one j = omega arith

-- by the count of digits
digits_by_lem : (f k n : ℕ) → IsDigitCount 10 1 n k → k ≤ f → last_digits 10 k n ≡ digits_by f n
unfolding digits_by
digits_by_lem zero zero n h p = absurd (omega arith)
digits_by_lem zero (suc k) n h p = absurd (omega arith)
digits_by_lem (suc f) zero n h p = absurd (omega arith)
digits_by_lem (suc f) (suc zero) n h p = one_digit f n h.1
digits_by_lem (suc f) (suc (suc j)) n h p =
    let least : 10 ^ suc j ≤ n = subst (λ (x : ℕ). 10 ^ x ≤ n) (less_one (suc j)) (h.2 (omega arith)) in
    let low : 10 ^ j * 10 ≤ n = subst (λ (x : ℕ). x ≤ n) (pow-suc 10 j) least in
    let high : n < 10 ^ j * 10 * 10 = subst (λ (x : ℕ). n < x) (pow-suc 10 (suc j) ∙ ap (λ (x : ℕ). x * 10) (pow-suc 10 j)) h.1 in
    let t = tenth n (10 ^ j) (power_pos j) high low in
    let under : n / 10 < 10 ^ suc j = subst (λ (x : ℕ). n / 10 < x) (sym (pow-suc 10 j)) t.0 in
    let fewest : IsDigitCount 10 1 (n / 10) (suc j) = (omega arith, under, λ q. subst (λ (x : ℕ). 10 ^ x ≤ n / 10) (sym (less_one j)) t.1.0) in
    let small : n % 10 < 10 = omega arith in
    rw (le-ltb n 10 t.1.1, lt-ltb (n % 10) 10 small) (ap (λ (x : List ℕ). x ++ ((48 + n % 10) ∷ [])) (digits_by_lem f (suc j) (n / 10) fewest (omega arith)))

-- the digits are the text
decimal_is : (k n : ℕ) → IsDigitCount 10 1 n k → k ≤ 20 → last_digits 10 k n ≡ decimal_text n
unfolding decimal_text
decimal_is k n h p = digits_by_lem 20 k n h p

-- a number below 2^64 has at most 20 digits
at_most : (k n : ℕ) (t : Bool) → leb k 20 ≡ t → n < 18446744073709551616 → IsDigitCount 10 1 n k → k ≤ 20
at_most k n true e h f = leb-true k 20 e
at_most k n false e h f =
    let more : 20 < k = leb-false k 20 e in
    let under : 20 ≤ k - 1 = omega arith in
    let big : 10 ^ 20 ≤ 10 ^ (k - 1) = pow-le-pow_right {n = 10} (omega arith) under in
    let low : 10 ^ (k - 1) ≤ n = f.2 (omega arith) in
    absurd (omega arith)

pub digits_text : (k n : ℕ) → n < 18446744073709551616 → IsDigitCount 10 1 n k → last_digits 10 k n ≡ decimal_text n
digits_text k n h f = decimal_is k n f (at_most k n (leb k 20) refl h f)
