-- Why `reduce` and `mul` are right: a product in halves of 32 bits, and a number of 128 bits reduced by 2^64 = 2^32 - 1 and 2^96 = -1
-- modulo p. All linear once the products are named. Assumes nothing.
use Rattle.std.proofs.Common.{◌≡◌, ℕ, ◌+◌, ◌-◌, ◌*◌, ◌/◌, ◌%◌, ◌^◌, ◌<◌, ◌≤◌, sym, ap, ◌∙◌, add_assoc, mul-le-mul, div-add-mod', arith}
use native.Mathlib.Nat.{add-mul-mod_self_right}
use lib.Arith.{digits_mod}
use Rattle.field.specs.Field.{p}

-- a product of two words leaves room for two words more
word_product : (x y : ℕ) → x ≤ 0xffff_ffff → y ≤ 0xffff_ffff → x * y ≤ 0xffff_fffe_0000_0001
word_product x y h k = mul-le-mul h k

-- the products of the halves of two numbers, low with low, high with low and so on
pub low_low : (a b : ℕ) → a % 2 ^ 32 * (b % 2 ^ 32) ≤ 0xffff_fffe_0000_0001
low_low a b = word_product (a % 2 ^ 32) (b % 2 ^ 32) (omega arith) (omega arith)

pub high_low : (a b : ℕ) → a < 2 ^ 64 → a / 2 ^ 32 * (b % 2 ^ 32) ≤ 0xffff_fffe_0000_0001
high_low a b h = word_product (a / 2 ^ 32) (b % 2 ^ 32) (omega arith) (omega arith)

pub low_high : (a b : ℕ) → b < 2 ^ 64 → a % 2 ^ 32 * (b / 2 ^ 32) ≤ 0xffff_fffe_0000_0001
low_high a b h = word_product (a % 2 ^ 32) (b / 2 ^ 32) (omega arith) (omega arith)

pub high_high : (a b : ℕ) → a < 2 ^ 64 → b < 2 ^ 64 → a / 2 ^ 32 * (b / 2 ^ 32) ≤ 0xffff_fffe_0000_0001
high_high a b h k = word_product (a / 2 ^ 32) (b / 2 ^ 32) (omega arith) (omega arith)

-- a product by its halves
pub halves : (a b : ℕ)
    → a * b
    ≡ a / 2 ^ 32 * (b / 2 ^ 32) * 2 ^ 64 + a / 2 ^ 32 * (b % 2 ^ 32) * 2 ^ 32 + a % 2 ^ 32 * (b / 2 ^ 32) * 2 ^ 32
    + a % 2 ^ 32 * (b % 2 ^ 32)
halves a b = (λ i. sym (div-add-mod' a (2 ^ 32)) i * sym (div-add-mod' b (2 ^ 32)) i) ∙ omega arith

-- the upper and the lower 64 bits of a product, from the products of its halves: hh of the high ones, hl and lh the mixed ones, ll the low
pub upper : (hh hl lh ll n : ℕ) → n ≡ hh * 2 ^ 64 + hl * 2 ^ 32 + lh * 2 ^ 32 + ll
    → hh + (hl + ll / 2 ^ 32) / 2 ^ 32 + (lh + (hl + ll / 2 ^ 32) % 2 ^ 32) / 2 ^ 32 ≡ n / 2 ^ 64
upper hh hl lh ll n e = omega arith

pub lower : (hh hl lh ll m n : ℕ) → n ≡ hh * 2 ^ 64 + hl * 2 ^ 32 + lh * 2 ^ 32 + ll → m ≡ (lh + hl) % 2 ^ 64
    → (m * 2 ^ 32 % 2 ^ 64 + ll) % 2 ^ 64 ≡ n % 2 ^ 64
lower hh hl lh ll m n e f = omega arith

-- 2^64 is p + (2^32 - 1), and 2^96 is (2^32 + 1) * p - 1
fold : (top m low : ℕ) → (top * 2 ^ 32 + m) * 2 ^ 64 + (low + top) ≡ (top * 0x1_0000_0001 + m) * p + (low + m * 0xffff_ffff)
fold top m low = omega arith

carried : (q v n r : ℕ) → (q + v) * n + r ≡ q * n + (r + v * n)
carried q v n r = omega arith

-- the quotient, but for one more or less
abbrev quotient : ℕ → ℕ
quotient hi = hi / 2 ^ 32 * 0x1_0000_0001 + hi % 2 ^ 32

-- lo less the top word, with p added u times, and 2^32 - 1 times the low word of hi added, with p taken v times
pub reduced : (u v hi lo low r : ℕ) → lo + u * p ≡ low + hi / 2 ^ 32 → r + v * p ≡ low + hi % 2 ^ 32 * 0xffff_ffff → r < p
    → r ≡ (hi * 2 ^ 64 + lo) % p
reduced u v hi lo low r e f h =
    sym (digits_mod (quotient hi + v) h) ∙ ap (λ (y : ℕ). y % p) same ∙ add-mul-mod_self_right (hi * 2 ^ 64 + lo) u p
  where
    same : (quotient hi + v) * p + r ≡ hi * 2 ^ 64 + lo + u * p
    same =
        carried (quotient hi) v p r
        ∙ ap (λ (y : ℕ). quotient hi * p + y) f
        ∙ sym (fold (hi / 2 ^ 32) (hi % 2 ^ 32) low)
        ∙ ap (λ (y : ℕ). (hi / 2 ^ 32 * 2 ^ 32 + hi % 2 ^ 32) * 2 ^ 64 + y) (sym e)
        ∙ ap (λ (y : ℕ). y * 2 ^ 64 + (lo + u * p)) (div-add-mod' hi (2 ^ 32))
        ∙ sym (add_assoc (hi * 2 ^ 64) lo (u * p))

-- the middle part is below p, with room for another 2^64
pub middle_below : (hi : ℕ) → hi % 2 ^ 32 * 0xffff_ffff ≤ p
middle_below hi = omega arith

pub middle_room : (hi : ℕ) → hi % 2 ^ 32 * 0xffff_ffff + 2 ^ 64 < p + p
middle_room hi = omega arith

-- the second sum as it is, and with p taken away
pub sum_kept : (low middle : ℕ) → low + middle + 0 * p ≡ low + middle
sum_kept low middle = omega arith

pub kept_below : (low middle : ℕ) → middle ≤ p → low < p - middle → low + middle < p
kept_below low middle h k = omega arith

pub taken : (low middle : ℕ) → middle ≤ p → p - middle ≤ low → low - (p - middle) + 1 * p ≡ low + middle
taken low middle h k = omega arith

pub taken_below : (low middle : ℕ) → middle ≤ p → p - middle ≤ low → low < 2 ^ 64 → middle + 2 ^ 64 < p + p → low - (p - middle) < p
taken_below low middle h k l m = omega arith

pub top_below : (hi : ℕ) → hi < 2 ^ 64 → hi / 2 ^ 32 ≤ p
top_below hi h = omega arith

pub borrowed : (lo top low : ℕ) → top ≤ p → low ≡ lo + (p - top) → lo + 1 * p ≡ low + top
borrowed lo top low h e = omega arith
