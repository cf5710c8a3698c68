-- The 10 columns of the register table. Document 01: "index 0, timestamp 1, two values 3, two old 5, low old stamp 7, MU_READ 8,
-- MU_WRITE 9". Each name is the number of the first of its columns. Assumes nothing.
use Rattle.std.specs.Prelude.{ℕ}

abbrev pub INDEX : ℕ
INDEX = 0

-- two words
abbrev pub TIMESTAMP : ℕ
TIMESTAMP = 1

-- two words
abbrev pub VALUE : ℕ
VALUE = 3

-- two words
abbrev pub OLD : ℕ
OLD = 5

-- the low word of the old stamp
abbrev pub OLD_TIMESTAMP_LO : ℕ
OLD_TIMESTAMP_LO = 7

abbrev pub MU_READ : ℕ
MU_READ = 8

abbrev pub MU_WRITE : ℕ
MU_WRITE = 9

abbrev pub COLUMNS : ℕ
COLUMNS = 10
