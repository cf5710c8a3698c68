-- "Prove that the expansion accepts every call it makes, given buffers long enough": the words in quotes are document 02's. How many
-- records a call has is left to the expansion's own counts. Assumes nothing.
use Rattle.std.specs.Prelude.{◌≡◌, false, ℕ, ◌*◌, ◌≤◌, length, take, Ok}
use mathlib.Core.List.{List, map, flat_map}
use Rattle.answer.specs.Numbers.{accepted}
use Rattle.lists.specs.Lists.{All, sum}
use Rattle.words.specs.Words.{Bytes}
use Rattle.records.specs.Records.{LIMIT}
use Rattle.call.specs.Calls.{Call}
use Rattle.call.specs.Ops.{OP_WIDTH}
use Rattle.call.specs.Flat.{handed_numbers, call_numbers}
use Rattle.access.specs.Access.{ACCESS_WIDTH}
use Rattle.load.specs.Load.{GAP, load_calls}
use Rattle.expansion.specs.Tries.{Setting, under, Lent, lengths, Try, try_of}
use Rattle.expansion.specs.Refusals.{op_count, access_count, buffer_short, answered}
use Rattle.copy_row.specs.Columns.{COLUMNS}
use Rattle.copy_row.specs.Trace.{copy_answer, copy_after}
use Rattle.calls_in_turn.specs.Accepted.{accepted_of, accepted_ops}
use Rattle.calls_in_turn.specs.InTurn.{calls_in, tries_of}
use Rattle.whole_calls.specs.Demand.{Passes, ReadsBack}

-- "gap is 8, the window 1,024 cells"
abbrev pub CELLS : ℕ
CELLS = 1024

abbrev pub load_setting : Setting
load_setting = under GAP

-- a window of 1,024 cells, whatever it holds
pub record LoadWindow (l : Lent) : Type 0 where
  pub cells : length l.bytes ≡ CELLS
  pub stamped : length l.stamps ≡ CELLS

-- and "buffers long enough": 9 would not refuse the call
pub record LongEnough (t : Try) : Type 0 where
  pub window : LoadWindow t.slices
  pub room : buffer_short (op_count t.call) (access_count t.call) (lengths t.slices) ≡ false

-- the expansion refuses the call nothing wherever the slices are long enough, and counts its own records
abbrev pub Welcome : Call → Type 0
Welcome c = (l : Lent) → LongEnough (try_of c l) → answered load_setting (try_of c l) ≡ accepted (op_count c)

-- 32 operation records and 64 access records are long enough for it
abbrev pub Small : Call → Type 0
Small c = (l : Lent) → LoadWindow l → OP_WIDTH * 32 ≤ length l.ops → ACCESS_WIDTH * 64 ≤ length l.accesses → LongEnough (try_of c l)

-- the calls of a load in their order, each with slices long enough for it, be they those that the call before left or others
pub record TriesOfLoad (s n : ℕ) (tries : List Try) : Type 0 where
  pub calls : map (λ (t : Try). t.call) tries ≡ load_calls s n
  pub long : All LongEnough tries

-- four slices that are long enough for the calls in turn: all records one behind the other, and each call's accesses
pub record LongForAll (calls : List Call) (l : Lent) : Type 0 where
  pub window : LoadWindow l
  pub ops : OP_WIDTH * sum (map op_count calls) ≤ length l.ops
  pub accesses : All (λ (c : Call). ACCESS_WIDTH * access_count c ≤ length l.accesses) calls

-- the window of each holds bytes
abbrev pub AllBytes : List Try → Type 0
AllBytes tries = All (λ (t : Try). Bytes t.slices.bytes) tries

pub record LoadAccepted : Type 0 where
  -- for every s, every number of calls up to 65,536 and every call
  pub each : (s n : ℕ) → n ≤ LIMIT → All Welcome (load_calls s n)
  -- and there are buffers long enough for any of them, whatever the widths of its rows
  pub enough : (s n : ℕ) → n ≤ LIMIT → All Small (load_calls s n)
  -- so of the whole list none is passed over
  pub all : (s n : ℕ) → n ≤ LIMIT → (tries : List Try) → TriesOfLoad s n tries → accepted_of load_setting tries ≡ tries
  -- and by demand 3 the table made of it passes, and is read back as the calls of the load
  pub passes : (s n : ℕ) → n ≤ LIMIT → (tries : List Try) → TriesOfLoad s n tries → AllBytes tries → (table : List ℕ) (rows : ℕ)
      → let records = accepted_ops load_setting tries in
      copy_answer LIMIT records (length table) ≡ Ok rows
      → let l = take (COLUMNS * rows) (copy_after records (Ok rows) table) in
      Passes GAP l × ((ops calls : List ℕ) → ReadsBack GAP l records (flat_map call_numbers (load_calls s n)) ops calls)
  -- in turn over one window: each call finds slices long enough in what the call before left
  pub in_turn : (s n : ℕ) → n ≤ LIMIT → (l : Lent) → LongForAll (load_calls s n) l
      → TriesOfLoad s n (tries_of load_setting (load_calls s n) l)
  pub in_turn_bytes : (s n : ℕ) → n ≤ LIMIT → (l : Lent) → Bytes l.bytes → AllBytes (tries_of load_setting (load_calls s n) l)
  -- what is written for the calls of a load is read as these calls where a list of calls is handed in
  pub handed : (s n : ℕ) → n ≤ LIMIT → calls_in (flat_map handed_numbers (load_calls s n)) ≡ load_calls s n
