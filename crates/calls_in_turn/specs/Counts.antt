-- How many records and calls the expansion accepts of a list of calls, told before anything is written: its answer depends on the lengths
-- of the four slices alone. `CountedAhead` says that these are the counts of what is accepted. Assumes nothing.
use Rattle.std.specs.Prelude.{◌≡◌, List, [], ◌∷◌, ℕ, ◌+◌, ◌-◌, ◌*◌, ltb, length}
use Rattle.words.specs.Words.{bit}
use Rattle.call.specs.Calls.{Call}
use Rattle.call.specs.Ops.{OP_WIDTH}
use Rattle.call.specs.Flat.{CALL_WIDTH}
use Rattle.expansion.specs.Tries.{Setting, Lent, Lengths, lengths, lengths_are}
use Rattle.expansion.specs.Refusals.{answer_by}
use Rattle.calls_in_turn.specs.Accepted.{accepted_ops, accepted_calls}
use Rattle.calls_in_turn.specs.InTurn.{tries_of}

-- the lengths behind k more records
abbrev pub behind : Lengths → ℕ → Lengths
behind n k = lengths_are n.cells n.stamped (n.ops - OP_WIDTH * k) n.accesses

-- how many records all calls add: each finds the room that those before it left, and a refused one adds none
unfoldable pub all_records : Setting → List Call → Lengths → ℕ
all_records s [] n = 0
all_records s (c ∷ cs) n = let k = (answer_by s c n).value in k + all_records s cs (behind n k)

-- how many calls are accepted: those that add a record
unfoldable pub all_calls : Setting → List Call → Lengths → ℕ
all_calls s [] n = 0
all_calls s (c ∷ cs) n = let k = (answer_by s c n).value in bit (ltb 0 k) + all_calls s cs (behind n k)

-- both are what the accepted calls come to: `counted_ahead_holds` in theorems
pub record CountedAhead (s : Setting) (cs : List Call) (l : Lent) : Type 0 where
  pub records : length (accepted_ops s (tries_of s cs l)) ≡ OP_WIDTH * all_records s cs (lengths l)
  pub calls : length (accepted_calls s (tries_of s cs l)) ≡ CALL_WIDTH * all_calls s cs (lengths l)
