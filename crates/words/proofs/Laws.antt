-- The laws of digits, as specs/Digits states them. Assumes nothing.
use Rattle.std.proofs.Common.{◌≡◌, ℕ, zero, suc, ◌*◌, ◌/◌, ◌%◌, ◌^◌, ◌<◌, refl, ap, ◌∙◌, mul_comm, mul-zero, mul-suc, div-one, arith, pow-add}
use native.Mathlib.Nat.{div-div-eq-div-mul}
use Rattle.lists.specs.Lists.{at}
use Rattle.words.specs.Words.{digits}
use Rattle.words.specs.Digits.{DigitLaws}
use Rattle.words.proofs.Digits.{digits_length, digits_below, number_digits, number_whole, digits_number, number_lt}

-- digit k of x over 2^w is digit k + 1 of x
digit_at : (w n x k : ℕ) → k < n → at (digits w n x) k ≡ x / 2 ^ (w * k) % 2 ^ w
digit_at w zero x k h = absurd (omega arith)
digit_at w (suc n) x zero h = rw (mul-zero, div-one) refl
digit_at w (suc n) x (suc k) h = digit_at w n (x / 2 ^ w) k (omega arith) ∙ rw (div-div-eq-div-mul, mul-suc, pow-add) (ap (λ b. x / b % 2 ^ w) (mul_comm (2 ^ w) (2 ^ (w * k))))

pub digit_laws : DigitLaws
digit_laws =
    record {
      counted = digits_length;
      below = digits_below;
      digit = digit_at;
      modulo = number_digits;
      whole = number_whole;
      back = digits_number;
      small = number_lt;
    }
