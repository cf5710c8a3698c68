-- The 49 columns of the general table, by the names of memw.rs; each name is the number of the first of its columns. Assumes nothing.
use Rattle.std.specs.Prelude.{ℕ}

abbrev pub IS_REGISTER : ℕ
IS_REGISTER = 0

-- two words
abbrev pub BASE_ADDRESS : ℕ
BASE_ADDRESS = 1

-- eight numbers
abbrev pub VALUE : ℕ
VALUE = 3

-- two words
abbrev pub TIMESTAMP : ℕ
TIMESTAMP = 11

-- the width's flags
abbrev pub WRITE2 : ℕ
WRITE2 = 13

abbrev pub WRITE4 : ℕ
WRITE4 = 14

abbrev pub WRITE8 : ℕ
WRITE8 = 15

-- eight numbers
abbrev pub OLD : ℕ
OLD = 16

-- seven bits
abbrev pub CARRY : ℕ
CARRY = 24

-- two words of each of eight stamps
abbrev pub OLD_TIMESTAMP : ℕ
OLD_TIMESTAMP = 31

abbrev pub MU_READ : ℕ
MU_READ = 47

abbrev pub MU_WRITE : ℕ
MU_WRITE = 48

abbrev pub COLUMNS : ℕ
COLUMNS = 49
