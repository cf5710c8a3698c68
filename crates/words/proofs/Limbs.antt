-- The lowest limb of a number and what is above it, with the base a parameter. Assumes nothing.
use Rattle.std.proofs.Common.{◌≡◌, ℕ, ◌+◌, ◌*◌, ◌/◌, ◌%◌, ◌<◌, sym, ap, ◌∙◌, mod-eq_of_lt, mul_assoc, mul_comm, add-mul, div-add-mod', zero-add, arith}
use native.Mathlib.Nat.{div-div-eq-div-mul, div-eq_of_lt, add-mul-mod_self_left}
use native.Mathlib.Nat.{add-mul-div_left}

-- the remainder by b * c is the lowest limb and the remainder by c of what is above it
pub mod_mul : (x b c : ℕ) → x % (b * c) ≡ x % b + b * (x / b % c)
mod_mul x b c =
    let whole = div-add-mod' x (b * c) in
    let limb = div-add-mod' x b in
    let above : x / b / c * c * b + x / b % c * b ≡ x / b * b =
    sym (add-mul (x / b / c * c) (x / b % c) b) ∙ ap (λ t. t * b) (div-add-mod' (x / b) c) in
    let same : x / b / c * c * b ≡ x / (b * c) * (b * c) =
    mul_assoc (x / b / c) c b ∙ ap (λ t. x / b / c * t) (mul_comm c b) ∙ ap (λ t. t * (b * c)) (div-div-eq-div-mul x b c) in
    let turned : x / b % c * b ≡ b * (x / b % c) = mul_comm (x / b % c) b in
    omega arith

pub low_limb : (b a q : ℕ) → a < b → (a + b * q) % b ≡ a
low_limb b a q h = add-mul-mod_self_left a b q ∙ mod-eq_of_lt h

pub high_limb : (b a q : ℕ) → a < b → (a + b * q) / b ≡ q
high_limb b a q h = add-mul-div_left a q (omega arith) ∙ ap (λ x. x + q) (div-eq_of_lt h) ∙ zero-add q
