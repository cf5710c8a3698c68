-- Calls that go to the expansion in turn over one window. Document 01: "The calls, none or any number, go to the expansion one by one under
-- one gap. Each finds any window, be it the one that the call before left or another". Here each finds the window that the call before
-- left, and the rest of the record buffer. Assumes nothing.
use Rattle.std.specs.Prelude.{cond, List, [], ◌∷◌, ℕ, ◌*◌, drop}
use Rattle.lists.specs.Lists.{store}
use Rattle.records.specs.Records.{records_in}
use Rattle.call.specs.Calls.{Call}
use Rattle.call.specs.Ops.{OP_WIDTH}
use Rattle.call.specs.Flat.{HANDED_WIDTH, call_from, good_call}
use Rattle.expansion.specs.Tries.{Setting, Lent, lent, Try, try_of}
use Rattle.expansion.specs.Refusals.{answered}
use Rattle.expansion.specs.Expansion.{lent_after}
use Rattle.calls_in_turn.specs.Accepted.{accepted_ops}

-- the calls of a flat list. What is no call, cut or with a field outside its values, is refused (10) before it gets to the expansion, and
-- passed over
unfoldable pub calls_from : List (List ℕ) → List Call
calls_from [] = []
calls_from (r ∷ rs) = cond (good_call r) (call_from r ∷ calls_from rs) (calls_from rs)

abbrev pub calls_in : List ℕ → List Call
calls_in l = calls_from (records_in HANDED_WIDTH l)

-- four slices with n records in the record buffer, as the next call finds them: the part behind the records
abbrev pub behind_ops : ℕ → Lent → Lent
behind_ops n l = lent l.bytes l.stamps (drop (OP_WIDTH * n) l.ops) l.accesses

-- what a call leaves to the next
unfoldable pub leaves : Setting → Try → Lent
leaves s t = behind_ops (answered s t).value (lent_after s t)

-- what goes to the expansion, one by one
unfoldable pub tries_of : Setting → List Call → Lent → List Try
tries_of s [] l = []
tries_of s (c ∷ cs) l = try_of c l ∷ tries_of s cs (leaves s (try_of c l))

-- what the last one leaves
unfoldable pub last_leaves : Setting → List Call → Lent → Lent
last_leaves s [] l = l
last_leaves s (c ∷ cs) l = last_leaves s cs (leaves s (try_of c l))

-- the four slices after all calls: the accepted calls' records stand joined in the record buffer, and numbers past them keep their values
unfoldable pub all_expanded : Setting → List Call → Lent → Lent
all_expanded s cs l =
    let last = last_leaves s cs l in
    lent last.bytes last.stamps (store l.ops 0 (accepted_ops s (tries_of s cs l))) last.accesses
