-- p is prime, and a product of elements is 0 only if a factor is. 1753635133440165772 squared 31 times is -1, so divisors above 2 are at
-- least 2^32 (Proth), p is odd, and a product of two such divisors would pass p. Assumes nothing.
use Rattle.std.proofs.Common.{◌≡◌, ℕ, zero, suc, ◌*◌, ◌/◌, ◌<◌, ◌≤◌, ◌⊎◌, sym, refl, ◌∙◌, subst, inl, inr, le_refl, mod-eq_of_lt, mul-le-mul, arith, lit<}
use Prim.Native.Nat.{◌∣◌}
use native.Mathlib.Nat.{dvd_of_mod-eq-zero, mod-eq-zero_of_dvd, mul-div_cancel', dvd-mul_left}
use Rattle.field.specs.Field.{p, mul_p}
use Rattle.field.specs.Theorems.{Prime}
use Rattle.field.proofs.Proth.{square, squared, divisor_bound, divides_factor}

above_two : (q : ℕ) → 2 < q → q ∣ p → 4294967296 ≤ q
unfolding squared square
above_two q l h = divisor_bound p 1753635133440165772 31 q refl refl h l

-- p is odd
above_one : (q : ℕ) → 1 < q → q ∣ p → 4294967296 ≤ q
above_one zero l h = absurd (omega arith)
above_one (suc zero) l h = absurd (omega arith)
above_one (suc (suc zero)) l h = absurd (omega (arith, mod-eq-zero_of_dvd 2 h))
above_one (suc (suc (suc q))) l h = above_two (suc (suc (suc q))) (omega arith) h

no_divisor : (a : ℕ) → 1 < a → a < p → ¬ (a ∣ p)
no_divisor a l u h = other (p / a) (mul-div_cancel' a h)
  where
    other : (r : ℕ) → a * r ≡ p → ⊥
    other zero e = omega arith
    other (suc zero) e = omega arith
    other (suc (suc r)) e =
        omega (
          arith,
          mul-le-mul (above_one a l h)
              (above_one (suc (suc r)) (omega arith) (subst (λ x. suc (suc r) ∣ x) e (dvd-mul_left (suc (suc r)) a))),
        )

pub p_prime : Prime p
p_prime = record { above_one = lit< tt; no_divisor = no_divisor }

pub no_zero_divisors : (a b : ℕ) → a < p → b < p → mul_p a b ≡ 0 → (a ≡ 0) ⊎ (b ≡ 0)
unfolding mul_p
no_zero_divisors zero b ha hb h = inl refl
no_zero_divisors (suc a) b ha hb h =
    inr
    (sym (mod-eq_of_lt hb)
    ∙ mod-eq-zero_of_dvd p (divides_factor p no_divisor (suc a) (suc a) b (le_refl (suc a)) (omega arith) ha (dvd_of_mod-eq-zero p h)))
