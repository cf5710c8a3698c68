-- The 29 columns of the aligned table. Document 01: "IS_REGISTER 0, address 1 to 3 (low half, next half, high word), VALUE 4, timestamp
-- 12, WRITE2/4/8 14, OLD 17, old_timestamp[0] 25, MU_READ 27, MU_WRITE 28". Each name is the number of the first of its columns. Assumes
-- nothing.
use Rattle.std.specs.Prelude.{ℕ}

abbrev pub IS_REGISTER : ℕ
IS_REGISTER = 0

-- low half, next half, high word
abbrev pub BASE_ADDRESS : ℕ
BASE_ADDRESS = 1

-- eight numbers
abbrev pub VALUE : ℕ
VALUE = 4

-- two words
abbrev pub TIMESTAMP : ℕ
TIMESTAMP = 12

-- the width's flags
abbrev pub WRITE2 : ℕ
WRITE2 = 14

abbrev pub WRITE4 : ℕ
WRITE4 = 15

abbrev pub WRITE8 : ℕ
WRITE8 = 16

-- eight numbers
abbrev pub OLD : ℕ
OLD = 17

-- two words of the first old stamp
abbrev pub OLD_TIMESTAMP : ℕ
OLD_TIMESTAMP = 25

abbrev pub MU_READ : ℕ
MU_READ = 27

abbrev pub MU_WRITE : ℕ
MU_WRITE = 28

abbrev pub COLUMNS : ℕ
COLUMNS = 29
