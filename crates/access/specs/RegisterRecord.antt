-- The register table's record. Document 01: "Its record has 8 numbers: index (16 bits), timestamp, values, olds, low old stamp, is_read."
-- Assumes nothing.
use Rattle.std.specs.Prelude.{ℕ, ◌-◌, ◌^◌, Bool, List, [], ◌∷◌, ◌++◌, replicate}
use Rattle.records.specs.Records.{within}

-- the largest value of each number of a register record
unfoldable pub register_limits : List ℕ
register_limits = (2 ^ 16 - 1) ∷ (2 ^ 64 - 1) ∷ (replicate 5 (2 ^ 32 - 1) ++ (1 ∷ []))

-- whether a record is whole and each field is among its values
abbrev pub good_register : List ℕ → Bool
good_register r = within register_limits r
