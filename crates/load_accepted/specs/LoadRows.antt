-- The rows of a load's calls: its window ends before the first edge, so they are cut as if there were none. `load_rows_hold` carries it.
-- Assumes nothing.
use Rattle.std.specs.Prelude.{ℕ, ◌≤◌, length}
use Rattle.lists.specs.Lists.{All}
use Rattle.records.specs.Records.{LIMIT}
use Rattle.call.specs.Calls.{Call}
use Rattle.load.specs.Load.{load_calls}
use Rattle.expansion_rows.specs.Rows.{widths_of}
use Rattle.expansion.specs.RowNumbers.{Plain}

-- rows of 8 while 8 or more bytes remain, then of 1; at most ten, which is what 31 bytes have
pub record NoEdgeMet (c : Call) : Type 0 where
  pub plain : Plain c
  pub ten : length (widths_of c) ≤ 10

abbrev pub LoadRows : Type 0
LoadRows = (s n : ℕ) → n ≤ LIMIT → All NoEdgeMet (load_calls s n)
