-- The lookups of an access list beside the register table that is made of the same list: routed, and its register records handed to the
-- maker. Document 02: "The neighbouring half-word lookup wants, for each register row that is not padding, the low stamp difference less
-- one". `lookup_rows_hold` carries it. Assumes nothing.
use Rattle.std.specs.Prelude.{◌≡◌, List, [], ◌∷◌, ℕ, ◌+◌, ◌*◌, ◌^◌, ◌≤◌, ◌<◌, length, take, replicate, Ok}
use Rattle.lists.specs.Lists.{at}
use Rattle.records.specs.Records.{LIMIT, record_at}
use Rattle.access.specs.Tables.{REGISTER_WIDTH}
use Rattle.access.specs.declared.AccessTable.TheVariants.{Register}
use Rattle.memw.specs.RegisterColumns.{TIMESTAMP, OLD_TIMESTAMP_LO, MU_READ, MU_WRITE, COLUMNS}
use Rattle.memw.specs.Tables.{table_padding, memw_answer, memw_after}
use Rattle.routing.specs.Routing.{three, Lists, lists, rooms_of, routed, route_answer, lists_after}
use Rattle.routing.specs.declared.split.Counts.{Counts}
use Rattle.lookups.specs.Lookups.{lookup_answer, lookups_after}
use Rattle.lookups.specs.LookupLaws.{Rebuilds, pair_at}
use Rattle.lookups.specs.Instances.{mixed}

-- row j of a register table
abbrev pub row_in : List ℕ → ℕ → List ℕ
row_in table j = record_at COLUMNS table j

-- the first n records of the register list
abbrev pub registers_in : Lists → ℕ → List ℕ
registers_in ls n = take (REGISTER_WIDTH * n) ls.register

-- the pairs in `lookups` beside the rows of a register table
pub record RowsLookedUp (lookups : List ℕ) (pairs : ℕ) (table : List ℕ) (rows : ℕ) : Type 0 where
  pub within : pairs ≤ rows
  -- each pair rebuilds the difference less one of the row at its place, by the row's own columns
  pub each : (j : ℕ) → j < pairs → Rebuilds (pair_at lookups j) (at (row_in table j) TIMESTAMP) (at (row_in table j) OLD_TIMESTAMP_LO)
  -- these rows are not padding, and all others are
  pub live : (j : ℕ) → j < pairs → at (row_in table j) MU_READ + at (row_in table j) MU_WRITE ≡ 1
  pub rest : (j : ℕ) → pairs ≤ j → j < rows → row_in table j ≡ table_padding Register

-- whatever the list and the four lent slices, each within any limit, where none of the three functions refuses it
abbrev pub LookupRows : Type 0
LookupRows =
    (limit : ℕ) (l lookups : List ℕ) (pairs : ℕ) → lookup_answer limit l (length lookups) ≡ Ok pairs
    → (most : ℕ) (before : Lists) (c : Counts) → route_answer most l (rooms_of before) ≡ routed c
    → let records = registers_in (lists_after l (routed c) before) c.register in
    (many : ℕ) (table : List ℕ) (rows : ℕ) → many ≤ 2 ^ 63 → memw_answer Register many records (length table) ≡ Ok rows
    → RowsLookedUp (lookups_after l (Ok pairs) lookups) pairs (memw_after Register records (Ok rows) table) rows

-- Three register accesses among others, through routing and the maker

abbrev pub mixed_records : List ℕ
mixed_records = registers_in (lists_after mixed (routed (three 3 1 1)) (lists (replicate 24 0) (replicate 29 0) (replicate 29 0))) 3

abbrev pub mixed_table : List ℕ
mixed_table = memw_after Register mixed_records (Ok 4) (replicate 40 9)

-- low stamp and low old stamp of row j
abbrev pub stamps_of : ℕ → List ℕ
stamps_of j = at (row_in mixed_table j) TIMESTAMP ∷ at (row_in mixed_table j) OLD_TIMESTAMP_LO ∷ []

pub record RowInstances : Type 0 where
  pub made : memw_answer Register LIMIT mixed_records 40 ≡ Ok 4
  -- their pairs are 255, 255, then 0, 0, then 1, 1 (`Instances` in lookups)
  pub first : stamps_of 0 ≡ 65537 ∷ 1 ∷ []
  pub second : stamps_of 1 ≡ 2 ∷ 1 ∷ []
  pub third : stamps_of 2 ≡ 258 ∷ 0 ∷ []
  pub padding : row_in mixed_table 3 ≡ replicate 10 0
