-- Lists without a cut call: cited by the contracts of inner functions alone. Assumes nothing.
use Rattle.std.specs.Prelude.{◌≡◌, List, ℕ, ◌*◌, length}
use Rattle.call.specs.Flat.{HANDED_WIDTH}
use Rattle.call_join.specs.Join.{call_count}

abbrev pub WholeCalls : List ℕ → Type 0
WholeCalls l = length l ≡ HANDED_WIDTH * call_count l
