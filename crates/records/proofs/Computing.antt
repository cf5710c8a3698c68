-- For what holds by computing: to unfold `computing` is to unfold every definition here and below that such an example runs through.
-- Assumes nothing.
use Rattle.lists.proofs.Computing as lists
use Rattle.records.specs.Records.{records_in, first_above, within, first_bad}
use Rattle.records.specs.RowCount.{doubled, row_count}
use Rattle.records.specs.Table.{table_answer, row_at, table_after}

unfoldable pub computing : Unit {0}
unfolding lists.computing records_in first_above within first_bad doubled row_count table_answer row_at table_after
computing = tt
