-- Lists that are read, filled and searched: the number in a place, what holds of all elements, their sum, what is stored where, what is
-- joined, the lowest index that meets a test. Nothing here names a width, a table or a limit. Assumes nothing.
use Rattle.std.specs.Prelude.{◌≡◌, ℕ, zero, suc, ◌+◌, ◌≤◌, ◌<◌, Bool, true, false, cond, ◌&&◌, List, [], ◌∷◌, ◌++◌, eqb, set, get_or}

-- What a list has

-- the number of a row or record in column c
abbrev pub at : List ℕ → ℕ → ℕ
at row c = get_or row c 0

-- the eight numbers of r from column c on
abbrev pub eight_at : List ℕ → ℕ → List ℕ
eight_at r c =
    at r c ∷ at r (c + 1) ∷ at r (c + 2) ∷ at r (c + 3) ∷ at r (c + 4) ∷ at r (c + 5) ∷ at r (c + 6) ∷ at r (c + 7) ∷ []

-- P of every element
abbrev pub All {ℓ} : {A : Type ℓ} → (A → Type 0) → List A → Type 0
All P [] = Unit {0}
All P (x ∷ xs) = P x × All P xs

-- the sum of all numbers
abbrev pub sum : List ℕ → ℕ
sum [] = 0
sum (x ∷ xs) = x + sum xs

-- whether two lists of numbers are the same
unfoldable pub same : List ℕ → List ℕ → Bool
same [] [] = true
same [] (y ∷ ys) = false
same (x ∷ xs) [] = false
same (x ∷ xs) (y ∷ ys) = eqb x y && same xs ys

-- those that meet the test, in their order
unfoldable pub kept : {A : Type 0} → (A → Bool) → List A → List A
kept test [] = []
kept test (x ∷ xs) = cond (test x) (x ∷ kept test xs) (kept test xs)

-- n elements from g k on: g k, g (k + 1), ..
unfoldable pub listed : {A : Type 0} → (ℕ → A) → ℕ → ℕ → List A
listed g k zero = []
listed g k (suc n) = g k ∷ listed g (k + 1) n

-- What a loop writes

-- l with the numbers vs stored one by one from index i on; all others keep their values
unfoldable pub store : List ℕ → ℕ → List ℕ → List ℕ
store l i [] = l
store l i (v ∷ vs) = store (set l i v) (i + 1) vs

-- the parts g 0, g 1, .. g (n - 1), joined
unfoldable pub flat : (ℕ → List ℕ) → ℕ → List ℕ
flat g zero = []
flat g (suc n) = flat g n ++ g n

-- the parts g k of those k below n that meet the test, joined
unfoldable pub picked : (ℕ → Bool) → (ℕ → List ℕ) → ℕ → List ℕ
picked test g n = flat (λ k. cond (test k) (g k) []) n

-- how many k below n meet the test
unfoldable pub counted : (ℕ → Bool) → ℕ → ℕ
counted test zero = 0
counted test (suc n) = cond (test n) (counted test n + 1) (counted test n)

-- What a loop looks for

-- the lowest index of the m from k on that meets the test; k + m where none does
unfoldable pub first : (ℕ → Bool) → ℕ → ℕ → ℕ
first test k zero = k
first test k (suc m) = cond (test k) k (first test (k + 1) m)

-- r is the lowest index of the m from k on that meets the test, or k + m where none does
pub record Lowest (test : ℕ → Bool) (k m r : ℕ) : Type 0 where
  pub least : k ≤ r
  pub most : r ≤ k + m
  pub meets : r < k + m → test r ≡ true
  pub before : (j : ℕ) → k ≤ j → j < r → test j ≡ false

-- `first` finds it: `first_is_lowest_holds` in theorems
abbrev pub FirstIsLowest : Type 0
FirstIsLowest = (test : ℕ → Bool) (k m : ℕ) → Lowest test k m (first test k m)
