-- 2^-32 and the constants of the count's borrow, by the names that copy.rs gives them. The numbers are what its constant functions
-- compute; that each is the product it is named for is `BorrowConstants`, which `borrow_constants_hold` in theorems carries. Assumes
-- nothing.
use Rattle.std.specs.Prelude.{◌≡◌, ℕ, ◌^◌}
use Rattle.field.specs.Field.{add_p, mul_p}

-- 2^-32, `INV_SHIFT_32` of the templates
abbrev pub inv32 : ℕ
inv32 = 18446744065119617026

abbrev pub inv16 : ℕ
inv16 = 18446462594437939201

abbrev pub inv64 : ℕ
inv64 = 18446744065119617025

abbrev pub inv48 : ℕ
inv48 = 18446462594437873665

abbrev pub neg_inv32 : ℕ
neg_inv32 = 4294967295

abbrev pub neg_inv64 : ℕ
neg_inv64 = 4294967296

abbrev pub neg_seven_inv64 : ℕ
neg_seven_inv64 = 30064771072

abbrev pub eight_inv64 : ℕ
eight_inv64 = 18446744035054845953

-- each constant is the product that it is named for
pub record BorrowConstants : Type 0 where
  pub is_inv32 : mul_p inv32 (2 ^ 32) ≡ 1
  pub is_inv16 : inv16 ≡ mul_p (2 ^ 16) inv32
  pub is_inv64 : inv64 ≡ mul_p inv32 inv32
  pub is_inv48 : inv48 ≡ mul_p inv16 inv32
  pub is_neg_inv32 : add_p neg_inv32 inv32 ≡ 0
  pub is_neg_inv64 : add_p neg_inv64 inv64 ≡ 0
  pub is_neg_seven_inv64 : add_p neg_seven_inv64 (mul_p 7 inv64) ≡ 0
  pub is_eight_inv64 : eight_inv64 ≡ mul_p 8 inv64
