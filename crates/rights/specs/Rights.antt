-- Which bytes a party may read and write. Document 02: "Each source byte must lie in an entry of the call's party that may read; each Copy
-- and Set destination byte in one that may write. Restamping a source counts as reading." A right is named by its place in an entry.
-- Assumes nothing.
use Rattle.std.specs.Prelude.{ℕ, ◌+◌, Bool, not, ◌&&◌, ◌||◌, List, eqb, leb, ltb}
use Rattle.lists.specs.Lists.{at, first}
use Rattle.call.specs.Calls.{Call}
use Rattle.rights.specs.Entries.{PARTY, START, MAY_READ, MAY_WRITE, entry_at, end_of, whole_entries}

-- an entry is the party's, has the right and holds byte x
abbrev pub gives : ℕ → ℕ → ℕ → List ℕ → Bool
gives party right x entry =
    eqb (at entry PARTY) party && (eqb (at entry right) 1 && (leb (at entry START) x && ltb x (end_of entry)))

-- the lowest whole entry that does, or how many there are
unfoldable pub giver : List ℕ → ℕ → ℕ → ℕ → ℕ
giver entries party right x = first (λ k. gives party right x (entry_at entries k)) 0 (whole_entries entries)

-- the party has the right for byte x
abbrev pub may : List ℕ → ℕ → ℕ → ℕ → Bool
may entries party right x = ltb (giver entries party right x) (whole_entries entries)

-- and for each of the n bytes from a on: none of them is without it
unfoldable pub covered : List ℕ → ℕ → ℕ → ℕ → ℕ → Bool
covered entries party right a n = eqb (first (λ x. not (may entries party right x)) a n) (a + n)

-- 22: "a byte without the right". Every kind reads its source; a Write's dst is an index, and no byte
abbrev pub lacks_right : Call → ℕ → List ℕ → Bool
lacks_right c party entries =
    not (covered entries party MAY_READ c.src c.count)
    || (not (eqb c.kind 2) && not (covered entries party MAY_WRITE c.dst c.count))
