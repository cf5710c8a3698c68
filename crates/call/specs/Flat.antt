-- The call as a run of numbers: kind, stamp, src, dst, count. Read-back writes a call so, and so is a call handed in by callers with lists.
-- The two widths have names of their own: what is handed in may come to hold more than what is written. Assumes nothing.
use Rattle.std.specs.Prelude.{ℕ, ◌-◌, ◌^◌, Bool, List, [], ◌∷◌, replicate}
use Rattle.lists.specs.Lists.{at}
use Rattle.records.specs.Records.{within}
use Rattle.call.specs.Calls.{Call}

-- numbers in a call as read-back writes it
abbrev pub CALL_WIDTH : ℕ
CALL_WIDTH = 5

abbrev pub call_numbers : Call → List ℕ
call_numbers c = c.kind ∷ c.stamp ∷ c.src ∷ c.dst ∷ c.count ∷ []

-- numbers in a call as it is handed in
abbrev pub HANDED_WIDTH : ℕ
HANDED_WIDTH = 5

-- a call in these: what read-back would write of it
abbrev pub handed_numbers : Call → List ℕ
handed_numbers c = call_numbers c

-- and the call that these are
abbrev pub call_from : List ℕ → Call
call_from r = record { kind = at r 0; stamp = at r 1; src = at r 2; dst = at r 3; count = at r 4 }

-- the largest value of each of them: kinds are 0 to 2
unfoldable pub call_limits : List ℕ
call_limits = 2 ∷ replicate 4 (2 ^ 64 - 1)

-- whether a record is a whole call and each field is among its values
abbrev pub good_call : List ℕ → Bool
good_call r = within call_limits r
