-- The record that says which bytes a party may read and write. Document 02: "up to 16 entries (party, start, length, may read, may write)
-- are lent". Assumes nothing.
use Rattle.std.specs.Prelude.{ℕ, ◌-◌, ◌^◌, Bool, List, [], ◌∷◌}
use Rattle.records.specs.Records.{within}

-- parties are 0 to 15
abbrev pub LAST_PARTY : ℕ
LAST_PARTY = 15

-- numbers in an entry
abbrev pub ENTRY_WIDTH : ℕ
ENTRY_WIDTH = 5

-- the largest value of each of them: a right is 0 or 1
unfoldable pub entry_limits : List ℕ
entry_limits = LAST_PARTY ∷ (2 ^ 64 - 1) ∷ (2 ^ 64 - 1) ∷ 1 ∷ 1 ∷ []

-- whether a record is a whole entry and each field is among its values
abbrev pub good_entry : List ℕ → Bool
good_entry r = within entry_limits r
