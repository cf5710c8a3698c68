-- The rows of the three access tables. Document 01: "General table and residues (49 columns, 15): memw.rs; CARRY[i] is 1 exactly if low
-- address + i + 1 is at least 2^32", then the columns of the aligned and the register table. Assumes nothing.
use Rattle.std.specs.Prelude.{ℕ, ◌+◌, ◌^◌, List, [], ◌∷◌, ◌++◌, eqb, leb}
use Rattle.lists.specs.Lists.{at, eight_at}
use Rattle.words.specs.Words.{words, halves, low_word, bit}
use Rattle.access.specs.Access.{Access}
use Rattle.memw.specs.declared.RegRow.{RegRow}

-- What stands in a row

-- WRITE2, WRITE4 and WRITE8 of a width
abbrev pub write_flags : ℕ → List ℕ
write_flags width = bit (eqb width 2) ∷ bit (eqb width 4) ∷ bit (eqb width 8) ∷ []

-- CARRY[i] of a low address word
abbrev pub carry : ℕ → ℕ → ℕ
carry low i = bit (leb (2 ^ 32) (low + (i + 1)))

-- CARRY[0] to CARRY[6]
abbrev pub carries : ℕ → List ℕ
carries low = carry low 0 ∷ carry low 1 ∷ carry low 2 ∷ carry low 3 ∷ carry low 4 ∷ carry low 5 ∷ carry low 6 ∷ []

-- the words of eight stamps
abbrev pub stamp_words : List ℕ → List ℕ
stamp_words stamps =
    words (at stamps 0)
    ++ words (at stamps 1)
    ++ words (at stamps 2)
    ++ words (at stamps 3)
    ++ words (at stamps 4)
    ++ words (at stamps 5)
    ++ words (at stamps 6)
    ++ words (at stamps 7)

-- the low half, the next half and the high word of an address
abbrev pub address_parts : ℕ → List ℕ
address_parts address = at (halves address) 0 ∷ at (halves address) 1 ∷ at (words address) 1 ∷ []

-- MU_READ and MU_WRITE: one of them is 1
abbrev pub multiplicities : ℕ → List ℕ
multiplicities is_read = is_read ∷ bit (eqb is_read 0) ∷ []

-- The rows

-- the general table's row of an access
unfoldable pub memw_row : Access → List ℕ
memw_row a =
    (a.is_register ∷ [])
    ++ words a.address
    ++ eight_at a.value 0
    ++ words a.timestamp
    ++ write_flags a.width
    ++ eight_at a.old 0
    ++ carries (low_word a.address)
    ++ stamp_words a.old_timestamps
    ++ multiplicities a.is_read

-- the aligned table's row of an access
unfoldable pub aligned_row : Access → List ℕ
aligned_row a =
    (a.is_register ∷ [])
    ++ address_parts a.address
    ++ eight_at a.value 0
    ++ words a.timestamp
    ++ write_flags a.width
    ++ eight_at a.old 0
    ++ words (at a.old_timestamps 0)
    ++ multiplicities a.is_read

-- the register table's row of a register record
unfoldable pub register_row : RegRow → List ℕ
register_row r =
    (r.index ∷ [])
    ++ words r.timestamp
    ++ (at r.value 0 ∷ at r.value 1 ∷ at r.old 0 ∷ at r.old 1 ∷ r.old_timestamp_lo ∷ [])
    ++ multiplicities r.is_read

-- The records

-- the register record of 8 numbers: "index (16 bits), timestamp, values, olds, low old stamp, is_read"
abbrev pub reg_row_of : List ℕ → RegRow
reg_row_of r =
    record {
      index = at r 0;
      timestamp = at r 1;
      value = at r 2 ∷ at r 3 ∷ [];
      old = at r 4 ∷ at r 5 ∷ [];
      old_timestamp_lo = at r 6;
      is_read = at r 7;
    }
