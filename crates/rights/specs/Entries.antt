-- The entries that are lent, and what is refused of them. Document 02: "21, more than 16 entries (a cut one counts; 8 doesn't judge them)
-- or a whole one whose start + length, a plain sum, is above the window's length", and 10 of "A party above 15, a right that is neither 0
-- nor 1 or a cut entry". Assumes nothing.
use Rattle.std.specs.Prelude.{ℕ, ◌+◌, ◌/◌, Bool, ◌||◌, List, ltb, length}
use Rattle.lists.specs.Lists.{at, first}
use Rattle.records.specs.Records.{record_count, record_at, first_bad}
use Rattle.call.specs.Entries.{LAST_PARTY, ENTRY_WIDTH, good_entry}

-- where the numbers stand in an entry: "(party, start, length, may read, may write)"
abbrev pub PARTY : ℕ
PARTY = 0

abbrev pub START : ℕ
START = 1

abbrev pub LENGTH : ℕ
LENGTH = 2

abbrev pub MAY_READ : ℕ
MAY_READ = 3

abbrev pub MAY_WRITE : ℕ
MAY_WRITE = 4

-- entry k, and where an entry ends
abbrev pub entry_at : List ℕ → ℕ → List ℕ
entry_at entries k = record_at ENTRY_WIDTH entries k

abbrev pub end_of : List ℕ → ℕ
end_of entry = at entry START + at entry LENGTH

-- how many entries there are, a cut one counted, and how many whole ones
abbrev pub entry_count : List ℕ → ℕ
entry_count entries = record_count ENTRY_WIDTH entries

abbrev pub whole_entries : List ℕ → ℕ
whole_entries entries = length entries / ENTRY_WIDTH

-- 21: "more than 16 entries (a cut one counts ..)"
abbrev pub MOST_ENTRIES : ℕ
MOST_ENTRIES = 16

abbrev pub too_many : List ℕ → Bool
too_many entries = ltb MOST_ENTRIES (entry_count entries)

-- "or a whole one whose start + length, a plain sum, is above the window's length"
unfoldable pub past_window : List ℕ → ℕ → Bool
past_window entries cells = ltb (first (λ k. ltb cells (end_of (entry_at entries k))) 0 (whole_entries entries)) (whole_entries entries)

abbrev pub bad_entries : List ℕ → ℕ → Bool
bad_entries entries cells = too_many entries || past_window entries cells

-- 10: "the call's own party first (place 0)"
abbrev pub bad_party : ℕ → Bool
bad_party party = ltb LAST_PARTY party

-- "then the lowest such entry, its index the place"
abbrev pub first_bad_entry : List ℕ → ℕ
first_bad_entry entries = first_bad ENTRY_WIDTH good_entry entries

abbrev pub has_bad_entry : List ℕ → Bool
has_bad_entry entries = ltb (first_bad_entry entries) (entry_count entries)
