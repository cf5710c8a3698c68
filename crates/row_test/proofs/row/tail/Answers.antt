-- `row::tail`: SINGLE is a bit, since it lies below its cap. Assumes nothing.
use Rattle.row_test.proofs.Columns.{tail_iff}
use Rattle.row_test.proofs.row.tail.Goals as goal

pub returns : goal.returns
returns c = tail_iff _ c.args.row.wide c.args.row.caps
