-- Every starred example holds. Assumes nothing.
use mathlib.Core.Path.{refl}
use Rattle.field.specs.Field.{mul_p}
use Rattle.records.specs.RowCount.{row_count, doubled}
use Rattle.classify.proofs.Examples.{route_examples}
use Rattle.memw.proofs.Examples.{carry_examples}
use Rattle.examples.specs.Examples.{StarredExamples}
use Rattle.examples.proofs.RowExamples.{row_examples}

pub starred_examples : StarredExamples
unfolding mul_p row_count doubled
starred_examples =
    record {
      no_records = refl;
      five_records = refl;
      minus_one_squared = refl;
      word_squared = refl;
      rows = row_examples;
      carries = carry_examples;
      routes = route_examples;
    }
