-- The numbers and the operation record that are read off a copy row, and the call that the row after it must go on with. Assumes nothing.
use Rattle.std.specs.Prelude.{ℕ, ◌+◌, ◌-◌, ◌*◌, List, [], ◌∷◌}
use Rattle.lists.specs.Lists.{at, eight_at}
use Rattle.words.specs.Words.{number}
use Rattle.call.specs.Calls.{Call, Op}
use Rattle.copy_row.specs.Columns.{TIMESTAMP, VALUE, SRC, SRC_INCR, DST, DST_INCR, COUNT, COUNT_DECR, FIRST, END, SINGLE, IS_SET, IS_WRITE}

-- the number in the two words from column c on
abbrev pub words_at : List ℕ → ℕ → ℕ
words_at row c = number 32 (at row c ∷ at row (c + 1) ∷ [])

-- the number in the four halves from column c on
abbrev pub halves_at : List ℕ → ℕ → ℕ
halves_at row c = number 16 (at row c ∷ at row (c + 1) ∷ at row (c + 2) ∷ at row (c + 3) ∷ [])

-- the row's width
abbrev pub width_at : List ℕ → ℕ
width_at row = 8 - 7 * at row SINGLE

-- 0 Copy, 1 Set, 2 Write
abbrev pub kind_at : List ℕ → ℕ
kind_at row = at row IS_SET + 2 * at row IS_WRITE

abbrev pub call_at : List ℕ → Call
call_at row =
    record {
      kind = kind_at row;
      stamp = words_at row TIMESTAMP;
      src = words_at row SRC;
      dst = words_at row DST;
      count = words_at row COUNT;
    }

abbrev pub op_at : List ℕ → Op
op_at row =
    record {
      call = call_at row;
      piece = record { width = width_at row; value = eight_at row VALUE };
      first = at row FIRST;
      end = at row END;
    }

-- what SRC_INCR, DST_INCR and COUNT_DECR hand on to the next row
abbrev pub next_at : List ℕ → Call
next_at row =
    record {
      kind = kind_at row;
      stamp = words_at row TIMESTAMP;
      src = halves_at row SRC_INCR;
      dst = halves_at row DST_INCR;
      count = halves_at row COUNT_DECR;
    }
