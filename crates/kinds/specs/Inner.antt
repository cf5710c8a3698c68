-- What a maker answers before it writes a row, by the kind of its records: cited by the contracts of inner functions alone. Assumes
-- nothing.
use Rattle.std.specs.Prelude.{ℕ, List}
use Rattle.records.specs.Records.{record_count, first_bad}
use Rattle.records.specs.Table.{TableAnswer, table_answer}
use Rattle.kinds.specs.Kinds.{kind_width, good_of_kind}
use Rattle.kinds.specs.declared.RecordKind.{RecordKind}

-- what the maker of a table with rows of v numbers answers for a list of such records
abbrev pub kind_answer : RecordKind → ℕ → ℕ → List ℕ → ℕ → TableAnswer
kind_answer kind limit v l room = table_answer limit v (record_count (kind_width kind) l) (first_bad (kind_width kind) (good_of_kind kind) l) room
