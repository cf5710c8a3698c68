-- Digits of any width: a number from its digits and back. FitsTypes, halves and bytes of a 64-bit number are the widths 32, 16 and 8.
-- Document 01: "Facts on words, halves and bytes are shown with the width as a parameter". Assumes nothing.
use Rattle.std.proofs.Common.{◌≡◌, ℕ, zero, suc, ◌+◌, ◌*◌, ◌/◌, ◌%◌, ◌^◌, ◌<◌, List, [], ◌∷◌, length, get_or, replicate, sym, refl, ap, ◌∙◌, mod-lt, mod-eq_of_lt, mul_comm, add_comm, mul-zero, mul-suc, arith, pow_pos, pow-add}
use native.Mathlib.Nat.{mod-one, div-div-eq-div-mul}
use lib.Arith.{digits_lt}
use Rattle.lists.proofs.All.{all_replicate, each_of, of_each}
use Rattle.words.specs.Words.{digits, number, Below, halves, high_word}
use Rattle.words.proofs.Limbs.{mod_mul, low_limb, high_limb}

pub digits_length : (w n x : ℕ) → length (digits w n x) ≡ n
digits_length w zero x = refl
digits_length w (suc n) x = ap suc (digits_length w n (x / 2 ^ w))

pub digits_below : (w n x : ℕ) → Below w (digits w n x)
digits_below w zero x = tt
digits_below w (suc n) x = (mod-lt x (pow_pos w), digits_below w n (x / 2 ^ w))

pub below_at : (w : ℕ) (ds : List ℕ) (i : ℕ) → Below w ds → get_or ds i 0 < 2 ^ w
below_at w ds i b = each_of (λ (d : ℕ). d < 2 ^ w) ds (pow_pos w) b i

pub below_of : (w : ℕ) (ds : List ℕ) → ((i : ℕ) → get_or ds i 0 < 2 ^ w) → Below w ds
below_of w ds each = of_each (λ (d : ℕ). d < 2 ^ w) ds each

pub below_same : (w n d : ℕ) → d < 2 ^ w → Below w (replicate n d)
below_same w n d h = all_replicate (λ (x : ℕ). x < 2 ^ w) n d h

power_suc : (w n : ℕ) → 2 ^ (w * suc n) ≡ 2 ^ w * 2 ^ (w * n)
power_suc w n = ap (λ e. 2 ^ e) (mul-suc w n) ∙ pow-add 2 (w * n) w ∙ mul_comm (2 ^ (w * n)) (2 ^ w)

-- a number modulo 2 ^ (w * n) from its n digits
pub number_digits : (w n x : ℕ) → number w (digits w n x) ≡ x % 2 ^ (w * n)
number_digits w zero x = rw (mul-zero, mod-one)
number_digits w (suc n) x =
    ap (λ r. x % 2 ^ w + 2 ^ w * r) (number_digits w n (x / 2 ^ w))
    ∙ sym (mod_mul x (2 ^ w) (2 ^ (w * n)))
    ∙ ap (λ m. x % m) (sym (power_suc w n))

-- and the whole number, where it has no more bits
pub number_whole : (w n x : ℕ) → x < 2 ^ (w * n) → number w (digits w n x) ≡ x
number_whole w n x h = number_digits w n x ∙ mod-eq_of_lt h

-- digits in range come back
pub digits_number : (w : ℕ) (ds : List ℕ) → Below w ds → digits w (length ds) (number w ds) ≡ ds
digits_number w [] b = refl
digits_number w (d ∷ ds) b =
    rw (low_limb (2 ^ w) d (number w ds) b.0, high_limb (2 ^ w) d (number w ds) b.0, digits_number w ds b.1)

pub number_lt : (w : ℕ) (ds : List ℕ) → Below w ds → number w ds < 2 ^ (w * length ds)
number_lt w [] b = rw mul-zero (omega arith)
number_lt w (d ∷ ds) b =
    let e : d + 2 ^ w * number w ds ≡ number w ds * 2 ^ w + d = add_comm d (2 ^ w * number w ds) ∙ ap (λ t. t + d) (mul_comm (2 ^ w) (number w ds)) in
    rw (mul-suc, pow-add, e) (digits_lt (number_lt w ds b.1) b.0)

-- Halves and words of a 64-bit number

module _ (x : ℕ) (fits : x < 2 ^ 64) where
  -- the digits that shifts take
  pub halves_shifted : x % 2 ^ 16 ∷ x / 2 ^ 16 % 2 ^ 16 ∷ x / 2 ^ 32 % 2 ^ 16 ∷ x / 2 ^ 48 ∷ [] ≡ halves x
  halves_shifted =
      let top : x / 2 ^ 48 ≡ x / 2 ^ 48 % 2 ^ 16 = omega arith in
      simp div-div-eq-div-mul (λ i. x % 2 ^ 16 ∷ x / 2 ^ 16 % 2 ^ 16 ∷ x / 2 ^ 32 % 2 ^ 16 ∷ top i ∷ [])

  pub high_shifted : x / 2 ^ 32 ≡ high_word x
  high_shifted = omega arith
