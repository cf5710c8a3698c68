-- A list of records of w numbers each. Document 01: "list not whole records, or a field outside its values; place is the record (a
-- cut last one counts)". The width w is a parameter, and never 0. Assumes nothing.
use Rattle.std.specs.Prelude.{ℕ, ◌+◌, ◌-◌, ◌*◌, ◌/◌, Bool, not, ◌&&◌, List, eqb, leb, length, take, drop, get_or}
use Rattle.lists.specs.Lists.{listed, first}

-- document 01's limit on the records of a list, and on the cells of a window
abbrev pub LIMIT : ℕ
LIMIT = 65536

-- how many records a list has, a cut last one counted
abbrev pub record_count : ℕ → List ℕ → ℕ
record_count w l = (length l + (w - 1)) / w

-- record k; a cut last one is shorter
abbrev pub record_at : ℕ → List ℕ → ℕ → List ℕ
record_at w l k = take w (drop (w * k) l)

-- all records, in order
unfoldable pub records_in : ℕ → List ℕ → List (List ℕ)
records_in w l = listed (record_at w l) 0 (record_count w l)

-- the lowest index at which r is above its limit, or the number of limits
unfoldable pub first_above : List ℕ → List ℕ → ℕ
first_above limits r = first (λ i. not (leb (get_or r i 0) (get_or limits i 0))) 0 (length limits)

-- whether r is whole and each of its numbers is at most its limit
unfoldable pub within : List ℕ → List ℕ → Bool
within limits r = eqb (length r) (length limits) && eqb (first_above limits r) (length limits)

-- the lowest index of a record that is not good, or the record count
unfoldable pub first_bad : ℕ → (List ℕ → Bool) → List ℕ → ℕ
first_bad w good l = first (λ k. not (good (record_at w l k))) 0 (record_count w l)
