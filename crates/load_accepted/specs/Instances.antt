-- A small load, expanded in turn over one window, computed over the definitions, so that nothing in the theorem is empty.
-- `load_accepted_holds` carries it. Assumes nothing.
use Rattle.std.specs.Prelude.{◌≡◌, ℕ, ◌*◌, replicate, take, Ok}
use mathlib.Core.List.{List, [], ◌∷◌, flat_map}
use Rattle.words.specs.Words.{Bytes}
use Rattle.records.specs.Records.{LIMIT}
use Rattle.call.specs.Calls.{Call}
use Rattle.call.specs.Flat.{handed_numbers, call_numbers}
use Rattle.load.specs.Load.{GAP, load_call, load_calls}
use Rattle.expansion.specs.Tries.{under, Lent, lent, Try, try_of}
use Rattle.expansion.specs.Refusals.{answered}
use Rattle.copy_row.specs.Columns.{COLUMNS}
use Rattle.copy_row.specs.Trace.{copy_answer, copy_after}
use Rattle.chain.specs.Chain.{chain_answer}
use Rattle.read_back.specs.ReadBack.{read_calls}
use Rattle.calls_in_turn.specs.Accepted.{accepted_ops}
use Rattle.calls_in_turn.specs.InTurn.{tries_of}
use Rattle.load_accepted.specs.LoadAccepted.{CELLS, load_setting, LongForAll}

-- the first three calls of s 25,148: a Write of eight bytes, a Set of one, and an empty Copy, one row each
abbrev pub three : List Call
three = load_calls 25148 3

-- a window with so many numbers of room for operation records and for access records
abbrev pub slices : ℕ → ℕ → Lent
slices ops accesses = lent (replicate CELLS 3) (replicate CELLS 0) (replicate ops 7) (replicate accesses 7)

-- a window of 366 cells
abbrev pub small_window : Lent
small_window = lent (replicate 366 3) (replicate 366 0) (replicate 48 7) (replicate 58 7)

-- what goes to the expansion in turn, and the rows made of it in a table of four
abbrev pub three_tries : List Try
three_tries = tries_of load_setting three (slices 48 58)

abbrev pub three_rows : List ℕ
three_rows = take (COLUMNS * 4) (copy_after (accepted_ops load_setting three_tries) (Ok 4) (replicate 164 1))

pub record Instances : Type 0 where
  pub calls : flat_map handed_numbers three
      ≡ 2 ∷ 0 ∷ 53 ∷ 0 ∷ 8 ∷ 1 ∷ 4 ∷ 358 ∷ 366 ∷ 1 ∷ 0 ∷ 8 ∷ 386 ∷ 891 ∷ 0 ∷ []
  -- slices just long enough for all three
  pub long : LongForAll three (slices 48 58)
  pub bytes : Bytes (slices 48 58).bytes
  -- their table passes, and they are read back of it
  pub made : copy_answer LIMIT (accepted_ops load_setting three_tries) 164 ≡ Ok 4
  pub passes : chain_answer GAP three_rows ≡ Ok 4
  pub back : read_calls three_rows ≡ flat_map call_numbers three
  -- the Set among them is refused under another gap (3), in a window that ends at its destination (2), and with a buffer one number short (9)
  pub other_gap : (answered (under 7) (try_of (load_call 25148 1) (slices 48 58))).number ≡ 3
  pub small_window_lem : (answered load_setting (try_of (load_call 25148 1) small_window)).number ≡ 2
  pub short : (answered load_setting (try_of (load_call 25148 1) (slices 48 57))).number ≡ 9
