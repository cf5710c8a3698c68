-- Laws of what holds of all elements: of lists made of such elements, of each place, and of what is stored. Assumes nothing.
use mathlib.Core.List.{List, [], ◌∷◌, ◌++◌, map}
use Prim.Native.Nat.{ℕ, zero, suc, ◌+◌, ◌<◌}
use native.Mathlib.Omega.{arith}
use lib.ListN.{length, take, drop, get_or, set, replicate}
use Rattle.lists.specs.Lists.{All, store}

pub all_of : {A : Type 0} {P : A → Type 0} → ((x : A) → P x) → (xs : List A) → All P xs
all_of h [] = tt
all_of h (x ∷ xs) = (h x, all_of h xs)

module _ {A : Type 0} (P : A → Type 0) where
  pub all_append : (xs ys : List A) → All P xs → All P ys → All P (xs ++ ys)
  all_append [] ys h k = k
  all_append (x ∷ xs) ys h k = (h.0, all_append xs ys h.1 k)

  pub all_take : (n : ℕ) (xs : List A) → All P xs → All P (take n xs)
  all_take zero xs h = tt
  all_take (suc n) [] h = tt
  all_take (suc n) (x ∷ xs) h = (h.0, all_take n xs h.1)

  pub all_drop : (n : ℕ) (xs : List A) → All P xs → All P (drop n xs)
  all_drop zero xs h = h
  all_drop (suc n) [] h = tt
  all_drop (suc n) (x ∷ xs) h = all_drop n xs h.1

  pub all_replicate : (n : ℕ) (x : A) → P x → All P (replicate n x)
  all_replicate zero x h = tt
  all_replicate (suc n) x h = (h, all_replicate n x h)

-- of elements, each made into another
pub all_mapped : {A B : Type 0} (P : B → Type 0) (f : A → B) (xs : List A) → All P (map f xs) → All (λ (x : A). P (f x)) xs
all_mapped P f [] h = tt
all_mapped P f (x ∷ xs) h = (h.0, all_mapped P f xs h.1)

-- of the element in each place
pub all_at : {A : Type 0} (P : A → Type 0) (d : A) (xs : List A) → All P xs → (i : ℕ) → i < length xs → P (get_or xs i d)
all_at P d [] h i z = absurd (omega arith)
all_at P d (x ∷ xs) h zero z = h.0
all_at P d (x ∷ xs) h (suc i) z = all_at P d xs h.1 i (omega arith)

-- Of numbers, by their places

module _ (P : ℕ → Type 0) where
  pub each_of : (l : List ℕ) → P 0 → All P l → (i : ℕ) → P (get_or l i 0)
  each_of [] none h i = none
  each_of (x ∷ l) none h zero = h.0
  each_of (x ∷ l) none h (suc i) = each_of l none h.1 i

  pub of_each : (l : List ℕ) → ((i : ℕ) → P (get_or l i 0)) → All P l
  of_each [] h = tt
  of_each (x ∷ l) h = (h 0, of_each l (λ i. h (suc i)))

  all_set : (l : List ℕ) (k v : ℕ) → P v → All P l → All P (set l k v)
  all_set [] k v g h = tt
  all_set (x ∷ l) zero v g h = (g, h.1)
  all_set (x ∷ l) (suc k) v g h = (h.0, all_set l k v g h.1)

  pub all_store : (l : List ℕ) (k : ℕ) (vs : List ℕ) → All P vs → All P l → All P (store l k vs)
  unfolding store
  all_store l k [] g h = h
  all_store l k (v ∷ vs) g h = all_store (set l k v) (k + 1) vs g.1 (all_set l k v g.0 h)
