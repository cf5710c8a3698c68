-- Products of gates and bits, as facts that linear arithmetic reads: a bit is a number below 2, two bits that exclude each other sum to
-- less than 2. Each has its converse. Assumes nothing.
use Rattle.std.proofs.Common.{◌≡◌, ℕ, zero, suc, ◌+◌, ◌*◌, ◌<◌, ◌⊎◌, refl, ap, ◌∙◌, inl, inr, arith}
use Rattle.field.specs.Field.{p, sub_p, mul_p, bit_p}
use Rattle.field.proofs.Laws.{zero_mul_p, mul_p_zero, mul_p_small}
use Rattle.field.proofs.Prime.{no_zero_divisors}

-- x(1 - x) = 0: x is a bit. The converse is `bit_zero` of Laws
pub bit_of_zero : (x : ℕ) → x < p → bit_p x ≡ 0 → x < 2
unfolding bit_p sub_p
bit_of_zero x hx h = go (no_zero_divisors x (sub_p 1 x) hx (omega arith) h)
  where
    go : (x ≡ 0) ⊎ (sub_p 1 x ≡ 0) → x < 2
    go (inl e) = omega arith
    go (inr e) = omega arith

-- an open gate: what stands behind it is 0
pub gate : (x y : ℕ) → x < p → y < p → 0 < x → mul_p x y ≡ 0 → y ≡ 0
gate x y hx hy l h = go (no_zero_divisors x y hx hy h)
  where
    go : (x ≡ 0) ⊎ (y ≡ 0) → y ≡ 0
    go (inl e) = absurd (omega arith)
    go (inr e) = e

-- and back: the gate is shut, or what stands behind it is 0
pub gate_zero : (x y : ℕ) → (0 < x → y ≡ 0) → mul_p x y ≡ 0
gate_zero zero y f = zero_mul_p y
gate_zero (suc x) y f = ap (mul_p (suc x)) (f (omega arith)) ∙ mul_p_zero (suc x)

-- two bits, not both 1
pub not_both : (x y : ℕ) → x < 2 → y < 2 → mul_p x y ≡ 0 → x + y < 2
not_both x y hx hy h = go (no_zero_divisors x y (omega arith) (omega arith) h)
  where
    go : (x ≡ 0) ⊎ (y ≡ 0) → x + y < 2
    go (inl e) = omega arith
    go (inr e) = omega arith

pub not_both_zero : (x y : ℕ) → x < 2 → y < 2 → x + y < 2 → mul_p x y ≡ 0
not_both_zero zero y hx hy h = zero_mul_p y
not_both_zero (suc x) zero hx hy h = mul_p_zero (suc x)
not_both_zero (suc x) (suc y) hx hy h = absurd (omega arith)

-- x(1 - y) = 0 for a bit y: x is 0 where y is
pub implies : (x y : ℕ) → x < p → y < 2 → mul_p x (sub_p 1 y) ≡ 0 → (y ≡ 0 → x ≡ 0)
unfolding sub_p
implies x y hx hy h z = go (no_zero_divisors x (sub_p 1 y) hx (omega arith) h)
  where
    go : (x ≡ 0) ⊎ (sub_p 1 y ≡ 0) → x ≡ 0
    go (inl e) = e
    go (inr e) = absurd (omega arith)

pub implies_zero : (x y : ℕ) → y < 2 → (y ≡ 0 → x ≡ 0) → mul_p x (sub_p 1 y) ≡ 0
unfolding sub_p
implies_zero x zero hy f = ap (λ z. mul_p z (sub_p 1 0)) (f refl) ∙ zero_mul_p (sub_p 1 0)
implies_zero x (suc zero) hy f = mul_p_zero x
implies_zero x (suc (suc y)) hy f = absurd (omega arith)

-- a bit times an element is the plain product
pub bit_mul_p : (x y : ℕ) → x < 2 → y < p → mul_p x y ≡ x * y
bit_mul_p zero y hx hy = mul_p_small 0 y (omega arith)
bit_mul_p (suc zero) y hx hy = mul_p_small 1 y (omega arith)
bit_mul_p (suc (suc x)) y hx hy = absurd (omega arith)

-- one less a bit
pub bit_complement : (x : ℕ) → x < 2 → sub_p 1 x + x ≡ 1
unfolding sub_p
bit_complement x h = omega arith
