-- What the code that moves bytes asks of its caller, and the refusals grant: the cells lie in the window, the stamps fit. Cited by the
-- contracts of inner functions alone. Assumes nothing.
use Rattle.std.specs.Prelude.{◌≡◌, ℕ, ◌+◌, ◌*◌, ◌^◌, ◌≤◌, ◌<◌, List, map, length}
use Rattle.lists.specs.Lists.{listed}
use Rattle.words.specs.Words.{Bytes}
use Rattle.records.specs.Records.{record_at}
use Rattle.call.specs.Calls.{Call, Op}
use Rattle.call.specs.Ops.{OP_WIDTH, op_of}
use Rattle.access.specs.Access.{ACCESS_WIDTH}
use Rattle.window.specs.Window.{window_of}
use Rattle.expansion_rows.specs.Rows.{Row, rows_by, widths_of}
use Rattle.expansion_rows.specs.Turns.{write_stamp, pass_accesses}

-- the rows of a call in the expansion; an empty call has none here
abbrev pub rows_of : Call → List Row
rows_of c = rows_by c 1 (widths_of c)

-- what remains of a call lies in a window of n cells; a Write has no destination there
pub record CallInside (c : Call) (n : ℕ) : Type 0 where
  pub source : c.src + c.count ≤ n
  pub dest : (c.kind ≡ 2 → ⊥) → c.dst + c.count ≤ n
  pub small : c.dst + c.count < 2 ^ 64
  pub later : c.stamp + 1 < 2 ^ 64

-- with room for what its rows' turns write
pub record PassInside (c : Call) (bytes stamps ops accesses : List ℕ) : Type 0 where
  pub call : CallInside c (length bytes)
  pub room : OP_WIDTH * length (widths_of c) ≤ length ops
  pub space : ACCESS_WIDTH * length (pass_accesses (rows_of c) (window_of bytes stamps)) ≤ length accesses

-- a deferred write at stamp t lies in a window of n cells
pub record HeldInside (t n : ℕ) (o : Op) : Type 0 where
  pub wide : o.piece.width ≤ 8
  pub dest : o.call.dst + o.piece.width ≤ n
  pub stamp : write_stamp o.call ≡ t
  pub bytes : Bytes o.piece.value

-- the first n operation records of a list of numbers
abbrev pub ops_in : List ℕ → ℕ → List Op
ops_in l n = map op_of (listed (record_at OP_WIDTH l) 0 n)
