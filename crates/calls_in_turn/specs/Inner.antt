-- One record of a flat list of calls: cited by the contracts of inner functions alone. Assumes nothing.
use Rattle.std.specs.Prelude.{◌≡◌, cond, List, [], ℕ, ◌+◌, ◌*◌, ◌≤◌, length}
use Rattle.lists.specs.Lists.{store}
use Rattle.call.specs.Ops.{OP_WIDTH}
use Rattle.call.specs.Flat.{call_from, good_call}
use Rattle.expansion.specs.Tries.{Setting, Lent, Lengths, try_of}
use Rattle.expansion.specs.Refusals.{answer_by}
use Rattle.calls_in_turn.specs.Accepted.{ops_written}
use Rattle.calls_in_turn.specs.InTurn.{behind_ops, leaves}

-- how many operation records it adds; one that is no call adds none
unfoldable pub added_by : Setting → List ℕ → Lengths → ℕ
added_by s r n = cond (good_call r) (answer_by s (call_from r) n).value 0

-- what it writes, and what it leaves
unfoldable pub written_by : Setting → List ℕ → Lent → List ℕ
written_by s r l = cond (good_call r) (ops_written s (try_of (call_from r) l)) []

unfoldable pub left_by : Setting → List ℕ → Lent → Lent
left_by s r l = cond (good_call r) (leaves s (try_of (call_from r) l)) l

-- its turn in a record buffer that already has `done` records: `added` is how many it adds, and `after` what the slices are then
pub record Turned (s : Setting) (r : List ℕ) (done : ℕ) (l after : Lent) (added : ℕ) : Type 0 where
  pub count : OP_WIDTH * added ≡ length (written_by s r (behind_ops done l))
  pub room : OP_WIDTH * (done + added) ≤ length l.ops
  -- its records stand behind those before it
  pub stored : after.ops ≡ store l.ops (OP_WIDTH * done) (written_by s r (behind_ops done l))
  -- and the next call finds what this one leaves
  pub left : behind_ops (done + added) after ≡ left_by s r (behind_ops done l)
