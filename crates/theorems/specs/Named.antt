-- Numbers that definitions write out in digits, by their names in document 01: computed equations. Assumes nothing.
use Rattle.std.specs.Prelude.{◌≡◌, ◌+◌, ◌-◌, ◌^◌}
use Rattle.field.specs.Field.{p}
use Rattle.text.specs.Numbers.{TOP}

pub record NamedNumbers : Type 0 where
  -- "p = 2^64 − 2^32 + 1"
  pub is_p : p ≡ 2 ^ 64 - 2 ^ 32 + 1
  -- a number in text is "at most 2^64 − 1"
  pub is_top : TOP ≡ 2 ^ 64
