-- Small instances of what demand 3 speaks of, so that nothing in it is empty: lists that pass, and one for each refusal, computed over
-- the definitions. `demand_3_holds` carries them. Assumes nothing.
use Rattle.std.specs.Prelude.{◌≡◌, ℕ, ◌+◌, ◌-◌, ◌*◌, ◌^◌, set, take, replicate, Ok, Err}
use mathlib.Core.List.{List, [], ◌∷◌, ◌++◌, flat_map}
use Rattle.lists.specs.Lists.{All}
use Rattle.field.specs.Field.{p}
use Rattle.records.specs.Records.{LIMIT, record_at}
use Rattle.call.specs.Ops.{op_record}
use Rattle.call.specs.Flat.{call_numbers}
use Rattle.call.specs.Cuts.{CutCall, ops_of, Fits, calls_of}
use Rattle.call.specs.Instances.{wide, narrow}
use Rattle.expansion.specs.Tries.{under, Lent, lent, Try, try_of, Typed}
use Rattle.expansion.specs.Refusals.{answered}
use Rattle.copy_row.specs.Columns.{SRC, SRC_INCR, DST_INCR, MU_COM_WIDE, COLUMNS}
use Rattle.copy_row.specs.Rows.{table_row, padding_row}
use Rattle.copy_row.specs.Trace.{copy_answer, copy_after}
use Rattle.copy_residues.specs.declared.faults.RowCheckRefusal.TheVariants.{NotElement, OutOfRange, NotZero}
use Rattle.copy_meaning.specs.RowIff.{CallRow}
use Rattle.chain.specs.Chain.{table_rows, chain_answer}
use Rattle.chain.specs.declared.ChainRefusal.TheVariants.{GapTooLarge, NotRows, Row, Link}
use Rattle.chain.specs.declared.LinkRefusal.TheVariants.{Broken, NotEnded}
use Rattle.read_back.specs.ReadBack.{live_rows, read_ops, read_calls, read_back_answer}
use Rattle.read_back.specs.declared.ReadBackRefusal.TheVariants.{BufferShort}
use Rattle.calls_in_turn.specs.Accepted.{accepted_of, accepted_ops}
use Rattle.whole_calls.specs.Demand.{Each, WholeCalls, AnyCall}

-- a Copy of nine bytes in two rows, an empty Set whose one row has width 8 and values, and a Write of one byte; the gap is 8
abbrev pub three_kinds : List CutCall
three_kinds =
    record { call = record { kind = 0; stamp = 4; src = 0; dst = 16; count = 9 }; pieces = wide 5 ∷ narrow 6 ∷ [] }
    ∷ record { call = record { kind = 1; stamp = 5; src = 100; dst = 108; count = 0 }; pieces = wide 7 ∷ [] }
    ∷ record { call = record { kind = 2; stamp = 6; src = 3; dst = 40; count = 1 }; pieces = narrow 9 ∷ [] }
    ∷ []

-- a dead row that is not padding: "COUNT 8, SRC 5, SRC_INCR 13, DST_INCR 8"
abbrev pub dead_not_padding : List ℕ
dead_not_padding = set (set padding_row SRC 5) SRC_INCR 13

abbrev pub records : List ℕ
records = flat_map op_record (ops_of three_kinds)

-- the rows of the calls, and the dead row last
abbrev pub rows : List ℕ
rows = flat_map table_row (ops_of three_kinds) ++ dead_not_padding

-- row k of these, and rows with the number in column c of row k replaced
abbrev pub row : ℕ → List ℕ
row k = record_at COLUMNS rows k

abbrev pub spoiled : ℕ → ℕ → ℕ → List ℕ
spoiled k c x = set rows (COLUMNS * k + c) x

-- a Copy that would read past 2^64, in widths that do not add up
abbrev pub unsound : CutCall
unsound = record { call = record { kind = 0; stamp = 4; src = 2 ^ 64 - 1; dst = 0; count = 3 }; pieces = wide 1 ∷ wide 2 ∷ [] }

-- calls for the expansion, each with a window of its own: a Copy of nine bytes, a Set whose dst is not a gap above its src, an empty Write
abbrev pub window : ℕ → ℕ → ℕ → Lent
window byte room_ops accesses_room = lent (replicate 32 byte) (replicate 32 0) (replicate room_ops 7) (replicate accesses_room 7)

abbrev pub copy_try : Try
copy_try = try_of (record { kind = 0; stamp = 4; src = 0; dst = 16; count = 9 }) (window 3 33 116)

abbrev pub set_try : Try
set_try = try_of (record { kind = 1; stamp = 5; src = 0; dst = 9; count = 1 }) (window 4 16 58)

abbrev pub write_try : Try
write_try = try_of (record { kind = 2; stamp = 6; src = 5; dst = 40; count = 0 }) (window 5 16 0)

abbrev pub three_tries : List Try
three_tries = copy_try ∷ set_try ∷ write_try ∷ []

pub record Instances : Type 0 where
  -- lists that pass: calls of all three kinds, one of them empty and of width 8, and a dead row that is not padding; no row at all
  pub passes : chain_answer 8 rows ≡ Ok 5
  pub empty : chain_answer 8 [] ≡ Ok 0
  pub sound : All (Fits 8) three_kinds
  pub whole : WholeCalls 8 rows three_kinds
  -- read-back of the first, with buffers just long enough, and one short
  pub ops : read_ops rows ≡ records
  pub calls : read_calls rows ≡ flat_map call_numbers (calls_of three_kinds)
  pub read : read_back_answer 8 rows 64 15 ≡ Ok (record { ops = 4; calls = 3 })
  pub short : read_back_answer 8 rows 64 14 ≡ Err BufferShort
  -- the table made of the calls' records, in a lent table of 170 numbers, and its rows
  pub made : copy_answer LIMIT records 170 ≡ Ok 4
  pub table : chain_answer 8 (take (COLUMNS * 4) (copy_after records (Ok 4) (replicate 170 1))) ≡ Ok 4
  -- what `alone` supposes: calls, widths and value bytes that have those live rows. Calls and widths of no sound call may be asked about
  -- too
  pub alone_calls : All AnyCall three_kinds
  pub alone_rows : Each (CallRow 8) (ops_of three_kinds) (live_rows (table_rows rows))
  pub any : AnyCall unsound
  -- a list for each refusal of the chain check: a gap too large, a number too many, a number that is p, a half of 65,537, a wrong sum, a
  -- row out of its order, a live row after a dead one, a call cut off
  pub refused_7 : chain_answer (2 ^ 32) rows ≡ Err GapTooLarge
  pub refused_13 : chain_answer 8 (rows ++ (0 ∷ [])) ≡ Err NotRows
  pub refused_14 : chain_answer 8 (spoiled 4 MU_COM_WIDE p) ≡ Err (Row 4 NotElement)
  pub refused_15 : chain_answer 8 (spoiled 3 SRC_INCR 65537) ≡ Err (Row 3 OutOfRange)
  pub refused_16 : chain_answer 8 (spoiled 1 DST_INCR 26) ≡ Err (Row 1 (NotZero 12))
  pub refused_17 : chain_answer 8 (row 1 ++ row 0) ≡ Err (Link 0 Broken)
  pub refused_17_late : chain_answer 8 (dead_not_padding ++ row 2) ≡ Err (Link 1 Broken)
  pub refused_18 : chain_answer 8 (row 0) ≡ Err (Link 1 NotEnded)
  -- expanded in turn: the Set is refused with 3, and the table of the other two has four rows that pass
  pub typed : All Typed three_tries
  pub set_refused : (answered (under 8) set_try).number ≡ 3
  pub others_accepted : accepted_of (under 8) three_tries ≡ copy_try ∷ write_try ∷ []
  pub tries_made : copy_answer LIMIT (accepted_ops (under 8) three_tries) 164 ≡ Ok 4
  pub tries_pass : chain_answer 8 (take (COLUMNS * 4) (copy_after (accepted_ops (under 8) three_tries) (Ok 4) (replicate 164 1))) ≡ Ok 4
  pub tries_read : read_back_answer 8 (take (COLUMNS * 4) (copy_after (accepted_ops (under 8) three_tries) (Ok 4) (replicate 164 1))) 48 10 ≡ Ok (record { ops = 3; calls = 2 })
