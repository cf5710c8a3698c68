-- One access of memory or of a register. Document 01: "An access record is 29 numbers: is_register, base address, 8 value words,
-- timestamp, width (1, 2, 4, 8), is_read, 8 old words, 8 old stamps." Assumes nothing.
use Rattle.std.specs.Prelude.{ℕ, ◌-◌, ◌^◌, Bool, ◌&&◌, ◌||◌, List, ◌∷◌, ◌++◌, eqb, replicate}
use Rattle.lists.specs.Lists.{at, eight_at}
use Rattle.records.specs.Records.{within}

-- the place of each field in the record, by the names of `MemwOperation`; VALUE, OLD and OLD-TIMESTAMP are the first of eight
abbrev pub IS_REGISTER : ℕ
IS_REGISTER = 0

abbrev pub BASE_ADDRESS : ℕ
BASE_ADDRESS = 1

abbrev pub VALUE : ℕ
VALUE = 2

abbrev pub TIMESTAMP : ℕ
TIMESTAMP = 10

abbrev pub WIDTH : ℕ
WIDTH = 11

abbrev pub IS_READ : ℕ
IS_READ = 12

abbrev pub OLD : ℕ
OLD = 13

abbrev pub OLD_TIMESTAMP : ℕ
OLD_TIMESTAMP = 21

-- numbers in an access record
abbrev pub ACCESS_WIDTH : ℕ
ACCESS_WIDTH = 29

pub record Access : Type 0 where
  pub is_register : ℕ
  pub address : ℕ
  pub value : List ℕ
  pub timestamp : ℕ
  pub width : ℕ
  pub is_read : ℕ
  pub old : List ℕ
  pub old_timestamps : List ℕ

-- the 29 numbers of an access, and the access of 29 numbers
abbrev pub access_record : Access → List ℕ
access_record a =
    a.is_register
    ∷ a.address
    ∷ (a.value ++ (a.timestamp ∷ a.width ∷ a.is_read ∷ (a.old ++ a.old_timestamps)))

abbrev pub access_of : List ℕ → Access
access_of r =
    record {
      is_register = at r IS_REGISTER;
      address = at r BASE_ADDRESS;
      value = eight_at r VALUE;
      timestamp = at r TIMESTAMP;
      width = at r WIDTH;
      is_read = at r IS_READ;
      old = eight_at r OLD;
      old_timestamps = eight_at r OLD_TIMESTAMP;
    }

-- the largest value of each number of an access record
unfoldable pub access_limits : List ℕ
access_limits =
    1
    ∷ (2 ^ 64 - 1)
    ∷ (replicate 8 (2 ^ 32 - 1)
    ++ ((2 ^ 64 - 1) ∷ 8 ∷ 1 ∷ (replicate 8 (2 ^ 32 - 1) ++ replicate 8 (2 ^ 64 - 1))))

abbrev pub is_width : ℕ → Bool
is_width w = eqb w 1 || (eqb w 2 || (eqb w 4 || eqb w 8))

-- whether a record is whole and each field is among its values
unfoldable pub good_access : List ℕ → Bool
good_access r = within access_limits r && is_width (at r WIDTH)
