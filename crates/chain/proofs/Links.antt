-- The link rule by what stands before: the four ways in which the code decides it, and what the row before is to it. Assumes nothing.
use mathlib.Core.Path.{◌≡◌, refl, sym}
use mathlib.Core.Bool.{Bool, true, false, cond, not, ◌&&◌, ◌||◌, and_assoc, and-true}
use mathlib.Core.List.{List, [], ◌∷◌}
use Prim.Native.Nat.{ℕ, ◌+◌, ◌^◌, ◌<◌}
use native.Mathlib.Omega.{arith}
use borrow.Author.Tests.{eq-eqb, ne_eqb, eqb-true, eqb-false}
use lib.Dec.{eqb}
use Rattle.lists.specs.Lists.{at, same}
use Rattle.copy_row.specs.Columns.{TIMESTAMP, SRC, SRC_INCR, DST, DST_INCR, COUNT, COUNT_DECR, FIRST, END, IS_SET, IS_WRITE, MU}
use Rattle.words.specs.Words.{number}
use Rattle.copy_meaning.specs.ReadRow.{words_at, halves_at}
use Rattle.chain.specs.Link.{closed, unended, dead, shown, handed_on, linked, before_of}
use Rattle.chain.specs.Inner.{is_unended}

-- Equal numbers, compared word by word

words_same : (a b x y : ℕ) → a < 2 ^ 32 → x < 2 ^ 32 → eqb a x && eqb b y ≡ eqb (number 32 (a ∷ b ∷ [])) (number 32 (x ∷ y ∷ []))
words_same a b x y la lx = go (eqb a x) (eqb b y) refl refl
  where
    go : (s t : Bool) → eqb a x ≡ s → eqb b y ≡ t → s && t ≡ eqb (number 32 (a ∷ b ∷ [])) (number 32 (x ∷ y ∷ []))
    go true true p q = sym (eq-eqb (number 32 (a ∷ b ∷ [])) (number 32 (x ∷ y ∷ [])) (omega (arith, eqb-true a x p, eqb-true b y q)))
    go true false p q =
        sym (ne_eqb _ _ (λ (e : number 32 (a ∷ b ∷ []) ≡ number 32 (x ∷ y ∷ [])). eqb-false b y q (omega (arith, eqb-true a x p))))
    go false t p q = sym (ne_eqb _ _ (λ (e : number 32 (a ∷ b ∷ []) ≡ number 32 (x ∷ y ∷ [])). eqb-false a x p (omega arith)))

module _ (row previous : List ℕ) where
  pub stamp_same : at row TIMESTAMP < 2 ^ 32 → at previous TIMESTAMP < 2 ^ 32
      → eqb (at row TIMESTAMP) (at previous TIMESTAMP) && eqb (at row (TIMESTAMP + 1)) (at previous (TIMESTAMP + 1))
      ≡ eqb (words_at row TIMESTAMP) (words_at previous TIMESTAMP)
  stamp_same = words_same (at row TIMESTAMP) (at row (TIMESTAMP + 1)) (at previous TIMESTAMP) (at previous (TIMESTAMP + 1))

-- Seven equal numbers, as the code joins the tests

module _ (row previous : List ℕ) where
  pub goes_on_same : (((((eqb (at row FIRST) 0 && eqb (words_at row TIMESTAMP) (words_at previous TIMESTAMP))
      && eqb (at row IS_SET) (at previous IS_SET))
      && eqb (at row IS_WRITE) (at previous IS_WRITE))
      && eqb (words_at row SRC) (halves_at previous SRC_INCR))
      && eqb (words_at row DST) (halves_at previous DST_INCR))
      && eqb (words_at row COUNT) (halves_at previous COUNT_DECR)
      ≡ same (shown row) (handed_on previous)
  unfolding same
  goes_on_same = simp (and_assoc, and-true)

-- Whether a row may follow

open_or : (t x : Bool) → cond t x true ≡ not t || x
open_or true x = refl
open_or false x = refl

cond_not : (t : Bool) → cond t false true ≡ not t
cond_not true = refl
cond_not false = refl

cond_and : (t x : Bool) → cond t x false ≡ t && x
cond_and true x = refl
cond_and false x = refl

module _ (row : List ℕ) where
  pub linked_closed : linked closed row ≡ not (eqb (at row MU) 1) || eqb (at row FIRST) 1
  unfolding linked
  linked_closed = open_or (eqb (at row MU) 1) (eqb (at row FIRST) 1)

  pub linked_dead : linked dead row ≡ not (eqb (at row MU) 1)
  unfolding linked
  linked_dead = cond_not (eqb (at row MU) 1)

  pub linked_unended : (previous : List ℕ) → linked (unended previous) row ≡ eqb (at row MU) 1 && same (shown row) (handed_on previous)
  unfolding linked
  linked_unended previous = cond_and (eqb (at row MU) 1) (same (shown row) (handed_on previous))

-- What a row is to the one after it

module _ (l : List ℕ) where
  pub before_dead : (at l MU ≡ 1 → ⊥) → before_of l ≡ dead
  unfolding before_of
  before_dead n = rw (ne_eqb (at l MU) 1 n)

  pub before_ended : at l MU ≡ 1 → at l END ≡ 1 → before_of l ≡ closed
  unfolding before_of
  before_ended m e = rw (eq-eqb (at l MU) 1 m, eq-eqb (at l END) 1 e)

  pub before_unended : at l MU ≡ 1 → (at l END ≡ 1 → ⊥) → before_of l ≡ unended l
  unfolding before_of
  before_unended m e = rw (eq-eqb (at l MU) 1 m, ne_eqb (at l END) 1 e)

  pub unended_before : is_unended (before_of l) ≡ eqb (at l MU) 1 && not (eqb (at l END) 1)
  unfolding before_of
  unended_before = go (eqb (at l MU) 1) (eqb (at l END) 1)
    where
      go : (m e : Bool) → is_unended (cond m (cond e closed (unended l)) dead) ≡ m && not e
      go true true = refl
      go true false = refl
      go false e = refl
