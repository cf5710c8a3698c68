-- Read-back. Document 01: "Read-back writes one operation record for each live row and five numbers for each call", "Read-back checks the
-- chain, then 9". A call is read off its row with FIRST. Assumes nothing.
use Rattle.std.specs.Prelude.{◌≡◌, ℕ, Bool, cond, ◌&&◌, eqb, leb, length, Result, Ok, Err}
use mathlib.Core.List.{List, [], ◌∷◌, flat_map}
use Rattle.answer.specs.Numbers.{accepted, refused}
use Rattle.answer.specs.declared.Answer.{Answer}
use Rattle.lists.specs.Lists.{store, kept, at}
use Rattle.call.specs.Ops.{op_record}
use Rattle.call.specs.Flat.{call_numbers}
use Rattle.copy_row.specs.Columns.{FIRST, MU}
use Rattle.copy_meaning.specs.ReadRow.{call_at, op_at}
use Rattle.chain.specs.Chain.{ChainAnswer, table_rows, chain_answer, refusal_numbers}
use Rattle.read_back.specs.declared.Counts.{Counts}
use Rattle.read_back.specs.declared.ReadBackRefusal.{ReadBackRefusal}
use Rattle.read_back.specs.declared.ReadBackRefusal.TheVariants.{Chain, BufferShort}

-- whether a row is live, and whether it is a call's first
abbrev pub is_live : List ℕ → Bool
is_live row = eqb (at row MU) 1

abbrev pub is_opening : List ℕ → Bool
is_opening row = is_live row && eqb (at row FIRST) 1

-- such rows, in order
abbrev pub live_rows : List (List ℕ) → List (List ℕ)
live_rows rows = kept is_live rows

abbrev pub opening_rows : List (List ℕ) → List (List ℕ)
opening_rows rows = kept is_opening rows

-- what is read of a list
unfoldable pub read_ops : List ℕ → List ℕ
read_ops l = flat_map (λ row. op_record (op_at row)) (live_rows (table_rows l))

unfoldable pub read_calls : List ℕ → List ℕ
read_calls l = flat_map (λ row. call_numbers (call_at row)) (opening_rows (table_rows l))

-- what read-back answers: how many records and calls it writes, or why it writes none
abbrev pub ReadBackAnswer : Type 0
ReadBackAnswer = Result Counts ReadBackRefusal

-- how many records and calls that is
abbrev pub read_counts : List ℕ → Counts
read_counts l = record { ops = length (live_rows (table_rows l)); calls = length (opening_rows (table_rows l)) }

-- what is answered of a list that passes, by the lengths of the two buffers: how many records and calls are read, or 9
unfoldable pub room_answer : List ℕ → ℕ → ℕ → ReadBackAnswer
room_answer l room_ops calls_room =
    cond (leb (length (read_ops l)) room_ops && leb (length (read_calls l)) calls_room) (Ok (read_counts l)) (Err BufferShort)

-- the chain check's refusal, unchanged; where it refuses nothing, `next` decides
abbrev pub on_chain : ChainAnswer → ReadBackAnswer → ReadBackAnswer
on_chain (Ok rows) next = next
on_chain (Err why) next = Err (Chain why)

-- the whole answer
unfoldable pub read_back_answer : ℕ → List ℕ → ℕ → ℕ → ReadBackAnswer
read_back_answer gap l room_ops calls_room = on_chain (chain_answer gap l) (room_answer l room_ops calls_room)

-- what a buffer holds afterwards: a refusal writes nothing
abbrev pub if_read : ReadBackAnswer → List ℕ → List ℕ → List ℕ
if_read (Ok counts) written kept = written
if_read (Err why) written kept = kept

-- the two lent buffers afterwards; numbers past the result keep their values
unfoldable pub ops_after : ReadBackAnswer → List ℕ → List ℕ → List ℕ
ops_after answer l ops = if_read answer (store ops 0 (read_ops l)) ops

unfoldable pub calls_after : ReadBackAnswer → List ℕ → List ℕ → List ℕ
calls_after answer l calls = if_read answer (store calls 0 (read_calls l)) calls

-- document 01's number and place of each refusal
abbrev pub read_back_refusal_numbers : ReadBackRefusal → Answer
read_back_refusal_numbers (Chain why) = refusal_numbers why
read_back_refusal_numbers BufferShort = refused 9 0

-- and of each answer, whose value is the number of operation records; and the number of calls
pub record ReadBackNumbers : Type 0 where
  pub answer : Answer
  pub calls : ℕ

abbrev pub read_back_numbers : ReadBackAnswer → ReadBackNumbers
read_back_numbers (Ok counts) = record { answer = accepted counts.ops; calls = counts.calls }
read_back_numbers (Err why) = record { answer = read_back_refusal_numbers why; calls = 0 }

-- what `read_back` has to show: its numbers, and the two lent buffers when it is done
pub record ReadDone (gap : ℕ) (l ops calls : List ℕ) (numbers : ReadBackNumbers) (ops_later calls_later : List ℕ) : Type 0 where
  pub answer : numbers ≡ read_back_numbers (read_back_answer gap l (length ops) (length calls))
  pub ops_left : ops_later ≡ ops_after (read_back_answer gap l (length ops) (length calls)) l ops
  pub calls_left_lem : calls_later ≡ calls_after (read_back_answer gap l (length ops) (length calls)) l calls

-- the two counts that a caller with numbers and slices only gets in an array, of operation records and calls: a refusal writes nothing
abbrev pub counts_after : ReadBackNumbers → List ℕ → List ℕ
counts_after n counts = cond (eqb n.answer.number 0) (n.answer.value ∷ n.calls ∷ []) counts
