-- The starred examples of document 01, over the definitions that the contracts cite. One theorem collects them: `StarredExamples`, which
-- `starred_examples_hold` carries. Assumes nothing.
use Rattle.std.specs.Prelude.{◌≡◌, ◌-◌, ◌^◌}
use Rattle.field.specs.Field.{p, mul_p}
use Rattle.records.specs.RowCount.{row_count}
use Rattle.classify.specs.RouteExamples.{RouteExamples}
use Rattle.memw.specs.CarryExamples.{CarryExamples}
use Rattle.examples.specs.RowExamples.{RowExamples}

pub record StarredExamples : Type 0 where
  -- "0 records: 4 rows; 5: 8"
  pub no_records : row_count 0 ≡ 4
  pub five_records : row_count 5 ≡ 8
  -- "(p − 1) × (p − 1) = 1"
  pub minus_one_squared : mul_p (p - 1) (p - 1) ≡ 1
  -- "2^32 × 2^32 = 4294967295"
  pub word_squared : mul_p (2 ^ 32) (2 ^ 32) ≡ 4294967295
  -- the rows made from Copy records, and the dead row
  pub rows : RowExamples
  -- CARRY at the top of the low address word
  pub carries : CarryExamples
  -- routes by stamps
  pub routes : RouteExamples
