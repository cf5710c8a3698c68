-- The laws of sum, difference and product of elements: document 01's "Add, subtract, multiply modulo p" is a commutative ring. That a
-- product is 0 only if a factor is stands in Prime. Assumes nothing.
use Rattle.std.proofs.Common.{◌≡◌, ℕ, zero, suc, ◌+◌, ◌-◌, ◌*◌, ◌/◌, ◌%◌, ◌<◌, ◌≤◌, sym, refl, ap, ◌∙◌, mod-lt, mod-eq_of_lt, mul_assoc, mul_comm, arith, lit<}
use native.Mathlib.Nat.{mul-add-mod_self_left, add-mul-mod_self_left, div-add-mod}
use Rattle.field.specs.Field.{p, add_p, sub_p, mul_p, bit_p}

-- Products modulo any number

pub mod_mul_left : (a b q : ℕ) → (a % q * b) % q ≡ (a * b) % q
mod_mul_left a b q =
    sym (mul-add-mod_self_left q (a / q * b) (a % q * b)) ∙ ap (λ x. x % q) (omega (arith, ap (λ x. x * b) (div-add-mod a q)))

pub mod_mul_right : (a b q : ℕ) → (a * (b % q)) % q ≡ (a * b) % q
mod_mul_right a b q = ap (λ x. x % q) (mul_comm a (b % q)) ∙ mod_mul_left b a q ∙ ap (λ x. x % q) (mul_comm b a)

-- Results are elements

pub add_below : (a b : ℕ) → add_p a b < p
unfolding add_p
add_below a b = omega arith

pub sub_below : (a b : ℕ) → sub_p a b < p
unfolding sub_p
sub_below a b = omega arith

pub mul_below : (a b : ℕ) → mul_p a b < p
unfolding mul_p
mul_below a b = mod-lt (a * b) {m = p} (lit< tt)

pub bit_below : (x : ℕ) → bit_p x < p
unfolding bit_p
bit_below x = mul_below x (sub_p 1 x)

-- a bit's residue is 0; the other way needs that p is prime (Bits)
pub bit_zero : (x : ℕ) → x < 2 → bit_p x ≡ 0
unfolding bit_p mul_p sub_p
bit_zero zero h = refl
bit_zero (suc zero) h = refl
bit_zero (suc (suc x)) h = absurd (omega arith)

-- Sums

pub zero_add_p : (a : ℕ) → a < p → add_p 0 a ≡ a
unfolding add_p
zero_add_p a h = omega arith

-- a sum that stays below p is the plain one
pub add_p_small : (a b : ℕ) → a + b < p → add_p a b ≡ a + b
unfolding add_p
add_p_small a b h = omega arith

-- Differences

pub sub_p_zero : (a : ℕ) → a < p → sub_p a 0 ≡ a
unfolding sub_p
sub_p_zero a h = omega arith

-- a difference that does not pass below 0 is the plain one
pub sub_p_small : (a b : ℕ) → a < p → b ≤ a → sub_p a b ≡ a - b
unfolding sub_p
sub_p_small a b h l = omega arith

pub sub_same : (a : ℕ) → a < p → sub_p a a ≡ 0
unfolding sub_p
sub_same a h = omega arith

-- elements that differ by 0 are equal
pub sub_zero : (a b : ℕ) → a < p → b < p → sub_p a b ≡ 0 → a ≡ b
unfolding sub_p
sub_zero a b ha hb h = omega arith

-- Products

pub mul_p_comm : (a b : ℕ) → mul_p a b ≡ mul_p b a
unfolding mul_p
mul_p_comm a b = ap (λ x. x % p) (mul_comm a b)

pub mul_p_assoc : (a b c : ℕ) → mul_p (mul_p a b) c ≡ mul_p a (mul_p b c)
unfolding mul_p
mul_p_assoc a b c = mod_mul_left (a * b) c p ∙ ap (λ x. x % p) (mul_assoc a b c) ∙ sym (mod_mul_right a (b * c) p)

pub add_p_mul_p : (a b c : ℕ) → mul_p (add_p a b) c ≡ add_p (mul_p a c) (mul_p b c)
unfolding mul_p add_p
add_p_mul_p a b c = mod_mul_left (a + b) c p ∙ omega arith

pub mul_p_zero : (a : ℕ) → mul_p a 0 ≡ 0
unfolding mul_p
mul_p_zero a = omega arith

pub zero_mul_p : (a : ℕ) → mul_p 0 a ≡ 0
unfolding mul_p
zero_mul_p a = omega arith

pub mul_p_one : (a : ℕ) → a < p → mul_p a 1 ≡ a
unfolding mul_p
mul_p_one a h = omega arith

pub one_mul_p : (a : ℕ) → a < p → mul_p 1 a ≡ a
unfolding mul_p
one_mul_p a h = omega arith

-- a product that stays below p is the plain one
pub mul_p_small : (a b : ℕ) → a * b < p → mul_p a b ≡ a * b
unfolding mul_p
mul_p_small a b h = mod-eq_of_lt h

-- The negative of an element, p less it

-- x times k and y times b, where x is minus b and y is minus k
swap : (m b k x y : ℕ) → x + b ≡ m → y + k ≡ m → (x * k) % m ≡ (y * b) % m
swap m b k x y h h' =
    sym (add-mul-mod_self_left (x * k) m b)
    ∙ ap (λ z. z % m) (omega (arith, ap (λ z. z * k) h, ap (λ z. z * b) h'))
    ∙ add-mul-mod_self_left (y * b) m k

-- minus b times k is minus k times b
pub neg_mul_p : (b k : ℕ) → b < p → k < p → mul_p (p - b) k ≡ mul_p (p - k) b
unfolding mul_p
neg_mul_p b k hb hk = swap p b k (p - b) (p - k) (omega arith) (omega arith)
