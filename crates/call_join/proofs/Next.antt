-- The joined list begins with a call of the first list or with one of the second, and goes on with what is left. Assumes nothing.
use mathlib.Core.Path.{◌≡◌, refl, sym, ap, ◌∙◌}
use mathlib.Core.Bool.{Bool, true, false}
use mathlib.Core.List.{List, [], ◌∷◌, ◌++◌, append-nil}
use Prim.Native.Nat.{ℕ, ◌≤◌, ◌<◌}
use borrow.Author.Tests.{le-leb, lt-leb}
use lib.Dec.{leb}
use Rattle.lists.specs.Lists.{All}
use Rattle.call_join.specs.Join.{stamp_of, joined_with, joined_calls}

-- whether it is one of the first
abbrev pub takes_first : List (List ℕ) → List (List ℕ) → Bool
takes_first [] ys = false
takes_first (x ∷ xs) [] = true
takes_first (x ∷ xs) (y ∷ ys) = leb (stamp_of x) (stamp_of y)

pub no_first : (ys : List (List ℕ)) → joined_calls [] ys ≡ ys
unfolding joined_calls
no_first ys = refl

pub next_first : (x : List ℕ) (xs ys : List (List ℕ)) → takes_first (x ∷ xs) ys ≡ true → joined_calls (x ∷ xs) ys ≡ x ∷ joined_calls xs ys
unfolding joined_calls joined_with
next_first x xs [] e = refl
next_first x xs (y ∷ ys) e = rw e

pub next_second : (xs : List (List ℕ)) (y : List ℕ) (ys : List (List ℕ)) → takes_first xs (y ∷ ys) ≡ false → joined_calls xs (y ∷ ys) ≡ y ∷ joined_calls xs ys
unfolding joined_calls joined_with
next_second [] y ys e = refl
next_second (x ∷ xs) y ys e = rw e

-- which it is, by the stamps: a call stamped no later than all of the second list, and one stamped below all of the first
pub takes_first_lem : (x : List ℕ) (xs ys : List (List ℕ)) → All (λ y. stamp_of x ≤ stamp_of y) ys → takes_first (x ∷ xs) ys ≡ true
takes_first_lem x xs [] h = refl
takes_first_lem x xs (y ∷ ys) h = le-leb (stamp_of x) (stamp_of y) h.0

pub takes_second : (xs : List (List ℕ)) (y : List ℕ) (ys : List (List ℕ)) → All (λ x. stamp_of y < stamp_of x) xs → takes_first xs (y ∷ ys) ≡ false
takes_second [] y ys h = refl
takes_second (x ∷ xs) y ys h = lt-leb (stamp_of x) (stamp_of y) h.0

-- Where one list is used up

no_second : (xs : List (List ℕ)) → joined_calls xs [] ≡ xs
no_second [] = no_first []
no_second (x ∷ xs) = next_first x xs [] refl ∙ ap (λ l. x ∷ l) (no_second xs)

pub first_over : (xs ys : List (List ℕ)) → xs ≡ [] → joined_calls xs ys ≡ xs ++ ys
first_over xs ys e = ap (λ l. joined_calls l ys) e ∙ no_first ys ∙ ap (λ l. l ++ ys) (sym e)

pub second_over : (xs ys : List (List ℕ)) → ys ≡ [] → joined_calls xs ys ≡ xs ++ ys
second_over xs ys e = ap (joined_calls xs) e ∙ no_second xs ∙ sym (append-nil xs) ∙ ap (λ l. xs ++ l) (sym e)
