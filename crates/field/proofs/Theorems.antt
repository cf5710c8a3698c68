-- The field's theorems, as specs/Theorems states them. Assumes nothing.
use Rattle.std.proofs.Common.{◌≡◌, ℕ, zero, suc, ◌<◌, ◌⊎◌, refl, inl, inr, arith}
use Rattle.field.specs.Theorems.{FieldTheorems}
use Rattle.field.proofs.Laws.{bit_zero}
use Rattle.field.proofs.Prime.{p_prime, no_zero_divisors}
use Rattle.field.proofs.Bits.{bit_of_zero}
use Rattle.field.proofs.Carry.{carry_below, carry_of_bit, carry_value, sum_of_zero, zero_of_sum}

zero_or_one : (x : ℕ) → x < 2 → (x ≡ 0) ⊎ (x ≡ 1)
zero_or_one zero h = inl (omega arith)
zero_or_one (suc zero) h = inr (omega arith)
zero_or_one (suc (suc x)) h = absurd (omega arith)

below_two : (x : ℕ) → (x ≡ 0) ⊎ (x ≡ 1) → x < 2
below_two x (inl e) = omega arith
below_two x (inr e) = omega arith

pub field_theorems : FieldTheorems
field_theorems =
    record {
      p_is = refl;
      prime = p_prime;
      no_zero_divisors = no_zero_divisors;
      bit = λ x h. (λ e. zero_or_one x (bit_of_zero x h e), λ o. bit_zero x (below_two x o));
      bit_below_two = λ x h. (bit_of_zero x h, bit_zero x);
      carry =
          λ v s hv hs e.
          let b = bit_of_zero _ (carry_below v s) e in
          (b, carry_of_bit v s hv (omega arith) b);
      carry_back = carry_value;
      pair = sum_of_zero;
      pair_back = λ a0 a1 b0 b1 s0 s1 c wa0 wa1 wb0 wb1 ws0 ws1. zero_of_sum a0 a1 b0 b1 s0 s1 wa0 wa1 wb0 wb1 ws0 ws1 c;
    }
