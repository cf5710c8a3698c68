-- What one turn of a loop adds: cited by the contracts of inner functions alone. Assumes nothing.
use Rattle.std.specs.Prelude.{ℕ, ◌+◌, ◌*◌, Bool, cond, List}
use Rattle.lists.specs.Lists.{store}

-- one more of j, if it is wanted
abbrev pub one_more : Bool → ℕ → ℕ
one_more wanted j = cond wanted (j + 1) j

-- the buffer after a record of v numbers, if it is wanted, behind the j that it has
abbrev pub placed : Bool → ℕ → ℕ → List ℕ → List ℕ → List ℕ
placed wanted v j r buffer = cond wanted (store buffer (v * j) r) buffer
