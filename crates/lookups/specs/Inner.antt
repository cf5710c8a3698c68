-- What one record adds to the pairs: cited by the contracts of inner functions alone. Assumes nothing.
use Rattle.std.specs.Prelude.{◌≡◌, ℕ, Bool, List}
use Rattle.lists.specs.Inner.{one_more, placed}
use Rattle.access.specs.Tables.{same_table}
use Rattle.access.specs.declared.AccessTable.{AccessTable}
use Rattle.access.specs.declared.AccessTable.TheVariants.{Register}
use Rattle.classify.specs.Classify.{table_for}
use Rattle.lookups.specs.Lookups.{PAIR_WIDTH, pair_of}

-- whether a table's records have pairs, and whether an access has one
abbrev pub is_wanted : AccessTable → Bool
is_wanted t = same_table Register t

abbrev pub wanted : List ℕ → Bool
wanted r = is_wanted (table_for r)

-- the pair of r was put behind the j that there were, if it has one
pub record PairPut (r : List ℕ) (j : ℕ) (before after : List ℕ) (later : ℕ) : Type 0 where
  pub count : later ≡ one_more (wanted r) j
  pub pairs : after ≡ placed (wanted r) PAIR_WIDTH j (pair_of r) before
