-- What the tests of stamps come to that ask no branch. Document 01: "low difference 1 to 65,536", and "the first width old stamps agree", width
-- by width. Assumes nothing.
use mathlib.Core.Path.{◌≡◌, refl, sym}
use mathlib.Core.Bool.{Bool, true, false, cond, not, ◌&&◌, ◌||◌, and-eq-true_iff, true≢false}
use mathlib.Core.List.{List}
use Prim.Native.Nat.{ℕ, ◌+◌, ◌-◌, ◌≤◌, ◌<◌}
use native.Mathlib.Omega.{arith}
use borrow.Author.Tests.{ltb-true, leb-true, lt-ltb, le-leb, eq-eqb}
use lib.Dec.{eqb, ltb, leb}
use Rattle.lists.specs.Lists.{first, at}
use Rattle.lists.proofs.Tests.{same_test}
use Rattle.words.specs.Words.{low_word, high_word}
use Rattle.access.specs.Access.{IS_REGISTER, TIMESTAMP, WIDTH, OLD_TIMESTAMP, is_width}
use Rattle.access.proofs.Good.{by_width}
use Rattle.classify.specs.Classify.{delta_in_range, is_register_op, other_stamp, stamps_agree}

-- The low difference

pub difference_in_range : (new old : ℕ) → ltb old new && leb new (old + 65536) ≡ leb 1 (new - old) && leb (new - old) 65536
difference_in_range new old = λ i. above i && near i
  where
    above : ltb old new ≡ leb 1 (new - old)
    above =
        same_test (ltb old new) (leb 1 (new - old))
        (λ e. le-leb 1 (new - old) (omega (arith, ltb-true old new e))) (λ e. lt-ltb old new (omega (arith, leb-true 1 (new - old) e)))

    near : leb new (old + 65536) ≡ leb (new - old) 65536
    near =
        same_test (leb new (old + 65536)) (leb (new - old) 65536)
        (λ e. le-leb (new - old) 65536 (omega (arith, leb-true new (old + 65536) e)))
        (λ e. le-leb new (old + 65536) (omega (arith, leb-true (new - old) 65536 e)))

-- stamps that are in range
pub delta_bounds : (new old : ℕ) → delta_in_range new old ≡ true → (low_word old < low_word new) × (low_word new ≤ low_word old + 65536)
unfolding delta_in_range
delta_bounds new old e =
    let d = low_word new - low_word old in
    let low = ((and-eq-true_iff (eqb (high_word new) (high_word old)) (leb 1 d && leb d 65536)).0 e).1 in
    let both = (and-eq-true_iff (leb 1 d) (leb d 65536)).0 low in
    (omega (arith, leb-true 1 d both.0), omega (arith, leb-true d 65536 both.1))

-- those of a register access are
pub register_delta : (r : List ℕ) → is_register_op r ≡ true → delta_in_range (at r TIMESTAMP) (at r OLD_TIMESTAMP) ≡ true
unfolding is_register_op
register_delta r e =
    last (eqb (at r IS_REGISTER) 1) (eqb (at r WIDTH) 2) (eqb (at r OLD_TIMESTAMP) (at r (OLD_TIMESTAMP + 1)))
    (delta_in_range (at r TIMESTAMP) (at r OLD_TIMESTAMP)) e
  where
    last : (a b c d : Bool) → a && (b && (c && d)) ≡ true → d ≡ true
    last true true true d e = e
    last true true false d e = absurd (true≢false (sym e))
    last true false c d e = absurd (true≢false (sym e))
    last false b c d e = absurd (true≢false (sym e))

-- The old stamps

-- the lowest of two, four or eight that is another, where the first is none
of_two : (b : Bool) → b && true ≡ eqb (cond (not b) 1 2) 2
of_two true = refl
of_two false = refl

of_four : (b c d : Bool) → b && ((c && d) && true) ≡ eqb (cond (not b) 1 (cond (not c) 2 (cond (not d) 3 4))) 4
of_four true true true = refl
of_four true true false = refl
of_four true false d = refl
of_four false c d = refl

of_eight : (b c d e f g h : Bool)
    → b && ((c && d) && (e && (f && (g && h))))
    ≡ eqb (cond (not b) 1 (cond (not c) 2 (cond (not d) 3 (cond (not e) 4 (cond (not f) 5 (cond (not g) 6 (cond (not h) 7 8))))))) 8
of_eight true true true true true true true = refl
of_eight true true true true true true false = refl
of_eight true true true true true false h = refl
of_eight true true true true false g h = refl
of_eight true true true false f g h = refl
of_eight true true false e f g h = refl
of_eight true false d e f g h = refl
of_eight false c d e f g h = refl

module _ (r : List ℕ) where
  -- whether old stamp i is the first one
  abbrev same_stamp : ℕ → Bool
  same_stamp i = eqb (at r (OLD_TIMESTAMP + i)) (at r OLD_TIMESTAMP)

  -- whether those agree that a width asks for, all eight looked at
  abbrev pub agreeing : ℕ → Bool
  agreeing w =
      (ltb w 2 || same_stamp 1)
      && ((ltb w 4 || (same_stamp 2 && same_stamp 3))
      && (ltb w 8 || (same_stamp 4 && (same_stamp 5 && (same_stamp 6 && same_stamp 7)))))

  pub stamps_agreeing : is_width (at r WIDTH) ≡ true → agreeing (at r WIDTH) ≡ stamps_agree r
  unfolding stamps_agree first
  stamps_agreeing e =
      let itself : eqb (at r OLD_TIMESTAMP) (at r OLD_TIMESTAMP) ≡ true = eq-eqb (at r OLD_TIMESTAMP) (at r OLD_TIMESTAMP) refl in
      by_width (λ w. agreeing w ≡ eqb (first (other_stamp r) 0 w) w) (at r WIDTH) e
      (rw itself)
      (rw itself (of_two (same_stamp 1)))
      (rw itself (of_four (same_stamp 1) (same_stamp 2) (same_stamp 3)))
      (rw itself
      (of_eight (same_stamp 1) (same_stamp 2) (same_stamp 3) (same_stamp 4) (same_stamp 5) (same_stamp 6) (same_stamp 7)))
