-- The starred examples on CARRY, computed over the general table's row: "Low address 2^32 − 8: no CARRY; 2^32 − 7: only CARRY[6]; 2^32 −
-- 1: all." `starred_examples_hold` in examples carries them. Assumes nothing.
use Rattle.std.specs.Prelude.{◌≡◌, List, [], ◌∷◌, ◌++◌, ℕ, ◌-◌, ◌^◌, take, drop, replicate}
use Rattle.access.specs.Access.{Access}
use Rattle.memw.specs.MemwColumns.{CARRY}
use Rattle.memw.specs.Rows.{memw_row}

-- a read of eight bytes at an address
abbrev pub read_at : ℕ → Access
read_at address =
    record {
      is_register = 0;
      address = address;
      value = replicate 8 0;
      timestamp = 4;
      width = 8;
      is_read = 1;
      old = replicate 8 0;
      old_timestamps = replicate 8 0;
    }

-- CARRY[0] to CARRY[6] of its row
abbrev pub carries_at : ℕ → List ℕ
carries_at address = take 7 (drop CARRY (memw_row (read_at address)))

pub record CarryExamples : Type 0 where
  pub no_carry : carries_at (2 ^ 32 - 8) ≡ replicate 7 0
  pub only_six : carries_at (2 ^ 32 - 7) ≡ replicate 6 0 ++ (1 ∷ [])
  pub all_carries : carries_at (2 ^ 32 - 1) ≡ replicate 7 1
