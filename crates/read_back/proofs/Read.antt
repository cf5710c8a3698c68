-- What the room in the lent buffers decides of a list that passes the chain check, and what read-back has shown at each of its ways out.
-- Document 01: "Read-back checks the chain, then 9". Assumes nothing.
use mathlib.Core.Path.{◌≡◌, refl, sym, ◌∙◌}
use mathlib.Core.Bool.{Bool, true, false, cond, ◌&&◌, false≢true}
use mathlib.Core.List.{List}
use Prim.Native.Nat.{ℕ, ◌*◌, ◌/◌, ◌≤◌}
use native.Mathlib.Omega.{arith}
use borrow.Author.Tests.{leb-true, le-leb}
use lib.Dec.{leb}
use lib.ListN.{length}
use Rattle.std.specs.Prelude.{Ok, Err}
use Rattle.lists.specs.Lists.{store}
use Rattle.call.specs.Ops.{OP_WIDTH}
use Rattle.call.specs.Flat.{CALL_WIDTH}
use Rattle.copy_row.specs.Columns.{COLUMNS}
use Rattle.chain.specs.Chain.{chain_answer}
use Rattle.chain.specs.declared.ChainRefusal.{ChainRefusal}
use Rattle.chain.proofs.Passed.{Accepted, passing, passing_caps}
use Rattle.read_back.specs.ReadBack.{ReadBackAnswer, read_ops, read_calls, read_counts, room_answer, read_back_answer, ops_after, calls_after, read_back_numbers, ReadDone}
use Rattle.read_back.specs.Inner.{rows_read, numbers_read, holds_read, RowsFit, CountsOf}
use Rattle.read_back.specs.declared.ReadBackRefusal.TheVariants.{Chain, BufferShort}
use Rattle.read_back.specs.declared.Counts.{Counts}
use Rattle.read_back.proofs.Walk.{rows_most, numbers_length}

pub passed_fit : (gap : ℕ) (l : List ℕ) (rows : ℕ) → chain_answer gap l ≡ Ok rows → RowsFit l
passed_fit gap l rows e =
    let accepted : Accepted (chain_answer gap l) = rw e refl in
    let p = passing gap l accepted in
    record { whole = p.whole; caps = passing_caps gap l p }

-- The room

both : (s t : Bool) → s && t ≡ true → (s ≡ true) × (t ≡ true)
both true t e = (refl, e)
both false t e = absurd (false≢true e)

module _ (l : List ℕ) (room_ops calls_room : ℕ) where
  pub record Holds : Type 0 where
    pub holds_ops : OP_WIDTH * length (rows_read false l) ≤ room_ops
    pub holds_calls : CALL_WIDTH * length (rows_read true l) ≤ calls_room

  pub holds_of : holds_read l room_ops calls_room ≡ true → Holds
  unfolding holds_read
  holds_of e = let h = both _ _ e in record { holds_ops = leb-true _ _ h.0; holds_calls = leb-true _ _ h.1 }

  -- buffers for all rows hold what is read
  pub holds_all : RowsFit l → leb (OP_WIDTH * (length l / COLUMNS)) room_ops && leb (CALL_WIDTH * (length l / COLUMNS)) calls_room ≡ true
      → true ≡ holds_read l room_ops calls_room
  unfolding holds_read
  holds_all fit e =
      let h = both (leb (OP_WIDTH * (length l / COLUMNS)) room_ops) (leb (CALL_WIDTH * (length l / COLUMNS)) calls_room) e in
      sym (rw (
        le-leb (OP_WIDTH * length (rows_read false l)) room_ops (omega (arith, leb-true _ room_ops h.0, rows_most l fit false)),
        le-leb (CALL_WIDTH * length (rows_read true l)) calls_room (omega (arith, leb-true _ calls_room h.1, rows_most l fit true)),
      ))

  -- by what was counted
  pub holds_counted : (counts : Counts) → CountsOf l counts
      → leb (OP_WIDTH * counts.ops) room_ops && leb (CALL_WIDTH * counts.calls) calls_room ≡ holds_read l room_ops calls_room
  unfolding holds_read
  holds_counted counts is = rw (is.is_ops, is.is_calls)

  room_answer_lem : room_answer l room_ops calls_room
      ≡ cond (holds_read l room_ops calls_room) (Ok (read_counts l)) (Err BufferShort)
  unfolding room_answer read_ops read_calls numbers_read rows_read holds_read
  room_answer_lem = rw (numbers_length false l, numbers_length true l)

-- The ways out

module _ (gap : ℕ) (l ops calls : List ℕ) where
  abbrev answer : ReadBackAnswer
  answer = read_back_answer gap l (length ops) (length calls)

  pub refused : (why : ChainRefusal) → chain_answer gap l ≡ Err why
      → ReadDone gap l ops calls (read_back_numbers (Err (Chain why))) ops calls
  unfolding read_back_answer ops_after calls_after
  refused why e = record { answer = rw e; ops_left = rw e; calls_left_lem = rw e }

  module _ (rows : ℕ) (passed : chain_answer gap l ≡ Ok rows) where
    by_room : (b : Bool) → holds_read l (length ops) (length calls) ≡ b
        → answer ≡ cond b (Ok (read_counts l)) (Err BufferShort)
    unfolding read_back_answer
    by_room b e = rw passed (room_answer_lem l (length ops) (length calls) ∙ rw e)

    pub short : holds_read l (length ops) (length calls) ≡ false → ReadDone gap l ops calls (read_back_numbers (Err BufferShort)) ops calls
    unfolding ops_after calls_after
    short e = let a = by_room false e in record { answer = rw a; ops_left = rw a; calls_left_lem = rw a }

    pub read : holds_read l (length ops) (length calls) ≡ true → (counts : Counts) → CountsOf l counts → (ops_later calls_later : List ℕ)
        → ops_later ≡ store ops 0 (numbers_read false l) → calls_later ≡ store calls 0 (numbers_read true l)
        → ReadDone gap l ops calls (read_back_numbers (Ok counts)) ops_later calls_later
    unfolding ops_after calls_after read_ops read_calls numbers_read rows_read
    read e counts is ops_later calls_later written told =
        let a = by_room true e in
        record { answer = rw (a, is.is_ops, is.is_calls); ops_left = rw a written; calls_left_lem = rw a told }
