-- What a row must be to stand where it stands. Document 01: "A live row must have FIRST if it opens the list or follows END; otherwise
-- FIRST 0, the timestamp, IS_SET and IS_WRITE of the row before, and SRC, DST, COUNT equal to that row's SRC_INCR, DST_INCR,
-- COUNT_DECR. A dead row may follow only END, a dead row or nothing; a live row never follows a dead one." Document 02: "a link check
-- (17, 18) over rows that passed". Assumes nothing.
use Rattle.std.specs.Prelude.{◌≡◌, ℕ, Bool, true, false, cond, List, [], ◌∷◌, eqb, Result, Ok, Err}
use Rattle.std.proofs.Math.Option.{Option, none, some}
use Rattle.lists.specs.Lists.{at, same}
use Rattle.copy_row.specs.Columns.{TIMESTAMP, SRC, SRC_INCR, DST, DST_INCR, COUNT, COUNT_DECR, FIRST, END, IS_SET, IS_WRITE, MU}
use Rattle.copy_meaning.specs.ReadRow.{words_at, halves_at}
use Rattle.chain.specs.declared.LinkRefusal.{LinkRefusal}
use Rattle.chain.specs.declared.LinkRefusal.TheVariants.{Broken, NotEnded}

-- what stands before a row: nothing or END; a live row without END; a dead row
pub data Before : Type 0 where
  closed : Before
  unended : List ℕ → Before
  dead : Before

-- what a row that goes on with a call shows, and what the row before hands on
abbrev pub shown : List ℕ → List ℕ
shown row =
    at row FIRST
    ∷ words_at row TIMESTAMP
    ∷ at row IS_SET
    ∷ at row IS_WRITE
    ∷ words_at row SRC
    ∷ words_at row DST
    ∷ words_at row COUNT
    ∷ []

abbrev pub handed_on : List ℕ → List ℕ
handed_on row =
    0
    ∷ words_at row TIMESTAMP
    ∷ at row IS_SET
    ∷ at row IS_WRITE
    ∷ halves_at row SRC_INCR
    ∷ halves_at row DST_INCR
    ∷ halves_at row COUNT_DECR
    ∷ []

abbrev pub live_linked : Before → List ℕ → Bool
live_linked closed row = eqb (at row FIRST) 1
live_linked (unended previous) row = same (shown row) (handed_on previous)
live_linked dead row = false

abbrev pub dead_linked : Before → Bool
dead_linked closed = true
dead_linked (unended previous) = false
dead_linked dead = true

-- whether a row may follow
unfoldable pub linked : Before → List ℕ → Bool
linked b row = cond (eqb (at row MU) 1) (live_linked b row) (dead_linked b)

-- what a row is to the row after it
unfoldable pub before_of : List ℕ → Before
before_of row = cond (eqb (at row MU) 1) (cond (eqb (at row END) 1) closed (unended row)) dead

-- the list's end: "18: the list ends on a live row without END"
abbrev pub end_fault : Before → Result (Unit {0}) LinkRefusal
end_fault closed = Ok tt
end_fault (unended previous) = Err NotEnded
end_fault dead = Ok tt

-- the link check, of the row that follows or of the list's end
abbrev pub link_fault : Before → Option (List ℕ) → Result (Unit {0}) LinkRefusal
link_fault b none = end_fault b
link_fault b (some row) = cond (linked b row) (Ok tt) (Err Broken)

-- no link of these rows is refused, b before them, nor that of the list's end
abbrev pub Unbroken : Before → List (List ℕ) → Type 0
Unbroken b [] = link_fault b none ≡ Ok tt
Unbroken b (row ∷ rows) = (link_fault b (some row) ≡ Ok tt) × Unbroken (before_of row) rows
