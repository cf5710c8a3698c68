-- The 41 columns of a copy row, by the names of copy.rs. WL columns are two words, HL columns four halves, lowest first; each name is
-- the number of the first of them. Assumes nothing.
use Rattle.std.specs.Prelude.{ℕ}

abbrev pub TIMESTAMP : ℕ
TIMESTAMP = 0

-- eight bytes
abbrev pub VALUE : ℕ
VALUE = 2

abbrev pub SRC : ℕ
SRC = 10

abbrev pub SRC_INCR : ℕ
SRC_INCR = 12

abbrev pub DST : ℕ
DST = 16

abbrev pub DST_INCR : ℕ
DST_INCR = 18

abbrev pub COUNT : ℕ
COUNT = 22

abbrev pub COUNT_DECR : ℕ
COUNT_DECR = 24

abbrev pub DST_RES : ℕ
DST_RES = 28

abbrev pub FIRST : ℕ
FIRST = 32

abbrev pub END : ℕ
END = 33

abbrev pub SINGLE : ℕ
SINGLE = 34

abbrev pub IS_SET : ℕ
IS_SET = 35

abbrev pub IS_WRITE : ℕ
IS_WRITE = 36

abbrev pub FIRST_WRITE : ℕ
FIRST_WRITE = 37

abbrev pub MU : ℕ
MU = 38

abbrev pub MU_COM : ℕ
MU_COM = 39

abbrev pub MU_COM_WIDE : ℕ
MU_COM_WIDE = 40

abbrev pub COLUMNS : ℕ
COLUMNS = 41
