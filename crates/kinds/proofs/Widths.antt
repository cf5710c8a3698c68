-- How wide records are: wide enough to be counted, and not too wide. Assumes nothing.
use Prim.Native.Nat.{◌≤◌, ◌<◌}
use lib.Dec.{lit≤}
use Rattle.kinds.specs.Kinds.{kind_width}
use Rattle.kinds.specs.declared.RecordKind.{RecordKind}
use Rattle.kinds.specs.declared.RecordKind.TheVariants.{Operation, Access, Register, Call}

pub width_bounds : (kind : RecordKind) → (0 < kind_width kind) × (kind_width kind ≤ 64)
width_bounds Operation = (lit≤ tt, lit≤ tt)
width_bounds Access = (lit≤ tt, lit≤ tt)
width_bounds Register = (lit≤ tt, lit≤ tt)
width_bounds Call = (lit≤ tt, lit≤ tt)
