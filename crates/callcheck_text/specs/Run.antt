-- The call lines in turn. Document 01: "window 1,024 zero cells, shared by the calls in turn", "A refusal of the expansion is passed up
-- unchanged", "a line of another form .. is refused so with 10, a call that takes the live rows past 32 with 9; the lowest such line is
-- named". Assumes nothing.
use Rattle.std.specs.Prelude.{◌≡◌, ℕ, ◌+◌, ◌-◌, ◌*◌, ◌≤◌, ◌<◌, cond, Option, Some, None, List, [], ◌∷◌, ◌++◌, eqb, length}
use Rattle.answer.specs.declared.Answer.{Answer}
use Rattle.call.specs.Calls.{call_with}
use Rattle.call.specs.Calls as calls
use Rattle.call.specs.Ops.{OP_WIDTH}
use Rattle.access.specs.Access.{ACCESS_WIDTH}
use Rattle.expansion.specs.Tries.{Setting, under, Lent, try_of}
use Rattle.expansion.specs.Refusals.{op_count, answered}
use Rattle.calls_in_turn.specs.Accepted.{ops_written}
use Rattle.calls_in_turn.specs.InTurn.{leaves}
use Rattle.text.specs.Lines.{call_line}
use Rattle.text.specs.declared.CallLine.{CallLine}

-- live rows that there may be
abbrev pub ROWS : ℕ
ROWS = 32

-- room for their operation records, and for their accesses: no row has more than a read and a write, so it is never for want of this
-- second room that a call is refused
abbrev pub OPS_ROOM : ℕ
OPS_ROOM = OP_WIDTH * ROWS

abbrev pub ACCESSES_ROOM : ℕ
ACCESSES_ROOM = ACCESS_WIDTH * (2 * ROWS)

-- how the lines end: every call is accepted, and these are all operation records; or a refusal, its number and its line
pub data Ending : Type 0 where
  done : List ℕ → Ending
  refused : ℕ → ℕ → Ending

-- with these records in front
abbrev pub in_front : List ℕ → Ending → Ending
in_front records (done more) = done (records ++ more)
in_front records (refused number line) = refused number line

-- goes on where the answer refuses nothing; its number is the refusal's, unchanged
abbrev pub on_answer : Answer → ℕ → Ending → Ending
on_answer a line next = cond (eqb a.number 0) next (refused a.number line)

-- the call that a line says
abbrev pub call_of : CallLine → calls.Call
call_of c = call_with c.kind c.stamp c.src c.dst c.count

-- goes on with a call; a line of another form is refused with 10
abbrev pub on_line : Option CallLine → ℕ → (calls.Call → Ending) → Ending
on_line (Some c) line next = next (call_of c)
on_line None line next = refused 10 line

-- the lines from the one numbered `line` on, each over what the one before left
unfoldable pub lines_from : Setting → ℕ → List (List ℕ) → Lent → Ending
lines_from s line [] l = done []
lines_from s line (x ∷ xs) l =
    on_line (call_line x) line
    (λ c.
    let t = try_of c l in on_answer (answered s t) line (in_front (ops_written s t) (lines_from s (line + 1) xs (leaves s t))))

-- 9 is for live rows past 32, and for nothing else: where the calls so far have `rows` rows, a call that is refused with 9 would take them
-- past 32, and one that is accepted does not
abbrev pub NineIsRows : Type 0
NineIsRows =
    (gap rows : ℕ) (c : calls.Call) (l : Lent) → length l.ops ≡ OP_WIDTH * (ROWS - rows) → length l.accesses ≡ ACCESSES_ROOM → rows ≤ ROWS
    → let number = (answered (under gap) (try_of c l)).number in
    (number ≡ 9 → ROWS < rows + op_count c) × (number ≡ 0 → rows + op_count c ≤ ROWS)
