-- An access of a register: its two words, read or written together. Document 01: "index register at 508"; register r stands at 2 * r, and
-- the rest of a record's eight values, old values and old stamps is 0, as `pack_register_value` and `build_reg_fallback` have it.
-- Assumes nothing.
use Rattle.std.specs.Prelude.{ℕ, List, ◌∷◌, replicate}
use Rattle.lists.specs.Lists.{at}
use Rattle.access.specs.Access.{Access}

-- two numbers and six zeros
abbrev pub packed : ℕ → ℕ → List ℕ
packed low high = low ∷ high ∷ replicate 6 0

-- the access at `timestamp` of the register at `address`: its two words, and those that it held since `oldTimestamp`
abbrev pub register_access : ℕ → List ℕ → List ℕ → ℕ → ℕ → ℕ → Access
register_access address value old timestamp oldTimestamp is_read =
    record {
      is_register = 1;
      address = address;
      value = packed (at value 0) (at value 1);
      timestamp = timestamp;
      width = 2;
      is_read = is_read;
      old = packed (at old 0) (at old 1);
      old_timestamps = packed oldTimestamp oldTimestamp;
    }
