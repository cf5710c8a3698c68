-- Laws of `listed` and `kept`: what a loop that walks over a list has left, what holds of all that is listed, and that lists made part by
-- part are these, joined. Assumes nothing.
use mathlib.Core.Path.{◌≡◌, refl, sym, ap, ap₂, ◌∙◌, subst}
use mathlib.Core.Bool.{Bool, true, false, cond}
use mathlib.Core.List.{List, [], ◌∷◌, ◌++◌, flat_map, append-nil, cons-eq-cons}
use Prim.Native.Nat.{ℕ, zero, suc, ◌+◌, ◌-◌, ◌≤◌, ◌<◌}
use native.Mathlib.Nat.{add-zero, zero-add}
use native.Mathlib.Omega.{arith}
use lib.ListN.{length, take, get_or, length-append}
use Rattle.lists.specs.Lists.{All, kept, listed, flat, picked, counted}
use Rattle.lists.proofs.Joined.{flat_map_append}

-- A loop that is at k, of n

pub listed_left : {A : Type 0} (g : ℕ → A) (n k : ℕ) → k < n → listed g k (n - k) ≡ g k ∷ listed g (k + 1) (n - (k + 1))
unfolding listed
listed_left g n k h = let e : n - k ≡ suc (n - (k + 1)) = omega arith in ap (listed g k) e

pub listed_over : {A : Type 0} (g : ℕ → A) (n k : ℕ) → n ≤ k → listed g k (n - k) ≡ []
unfolding listed
listed_over g n k h = let e : n - k ≡ 0 = omega arith in ap (listed g k) e

-- All that is listed

pub listed_length : {A : Type 0} (g : ℕ → A) (k n : ℕ) → length (listed g k n) ≡ n
unfolding listed
listed_length g k zero = refl
listed_length g k (suc n) = ap suc (listed_length g (k + 1) n)

-- two lists of the same elements
pub listed_same : {A : Type 0} (f g : ℕ → A) (j k n : ℕ) → ((i : ℕ) → i < n → f (j + i) ≡ g (k + i)) → listed f j n ≡ listed g k n
unfolding listed
listed_same f g j k zero same = refl
listed_same f g j k (suc n) same =
    let here : f j ≡ g k = ap f (sym (add-zero j)) ∙ same 0 (omega arith) ∙ ap g (add-zero k) in
    ap₂ (λ x xs. x ∷ xs) here
    (listed_same f g (j + 1) (k + 1) n
    (λ i h.
    let p : j + 1 + i ≡ j + suc i = omega arith in
    let q : k + suc i ≡ k + 1 + i = omega arith in
    ap f p ∙ same (suc i) (omega arith) ∙ ap g q))

pub all_listed : {A : Type 0} (P : A → Type 0) (g : ℕ → A) (k n : ℕ) → ((i : ℕ) → k ≤ i → i < k + n → P (g i)) → All P (listed g k n)
unfolding listed
all_listed P g k zero h = tt
all_listed P g k (suc n) h = (h k (omega arith) (omega arith), all_listed P g (k + 1) n (λ i a b. h i (omega arith) (omega arith)))

pub each_listed : {A : Type 0} (P : A → Type 0) (g : ℕ → A) (k n : ℕ) → All P (listed g k n) → (i : ℕ) → i < n → P (g (k + i))
unfolding listed
each_listed P g k zero all i h = absurd (omega arith)
each_listed P g k (suc n) all zero h = subst (λ (j : ℕ). P (g j)) (sym (add-zero k)) all.0
each_listed P g k (suc n) all (suc i) h =
    let e : k + 1 + i ≡ k + suc i = omega arith in
    subst (λ (j : ℕ). P (g j)) e (each_listed P g (k + 1) n all.1 i (omega arith))

-- the element in each place
pub listed_at : {A : Type 0} (g : ℕ → A) (d : A) (k n i : ℕ) → i < n → get_or (listed g k n) i d ≡ g (k + i)
unfolding listed
listed_at g d k zero i h = absurd (omega arith)
listed_at g d k (suc n) zero h = ap g (sym (add-zero k))
listed_at g d k (suc n) (suc i) h = let e : k + 1 + i ≡ k + suc i = omega arith in listed_at g d (k + 1) n i (omega arith) ∙ ap g e

-- one more at the end
pub listed_more : {A : Type 0} (g : ℕ → A) (k n : ℕ) → listed g k (suc n) ≡ listed g k n ++ (g (k + n) ∷ [])
unfolding listed
listed_more g k zero = ap (λ (i : ℕ). g i ∷ []) (sym (add-zero k))
listed_more g k (suc n) =
    let e : k + 1 + n ≡ k + suc n = omega arith in
    ap (λ xs. g k ∷ xs) (listed_more g (k + 1) n ∙ ap (λ (i : ℕ). listed g (k + 1) n ++ (g i ∷ [])) e)

-- what stands behind xs is the element of that number, and xs are those before it
pub listed_split : {A : Type 0} (g : ℕ → A) (k n : ℕ) (xs ys : List A) (x : A) → listed g k n ≡ xs ++ (x ∷ ys)
    → (xs ≡ listed g k (length xs)) × (x ≡ g (k + length xs))
unfolding listed
listed_split g k zero [] ys x e = absurd (omega (arith, ap length e))
listed_split g k zero (z ∷ zs) ys x e = absurd (omega (arith, ap length e))
listed_split g k (suc n) [] ys x e = (refl, sym (cons-eq-cons.0 e).0 ∙ ap g (sym (add-zero k)))
listed_split g k (suc n) (z ∷ zs) ys x e =
    let both = cons-eq-cons.0 e in
    let later = listed_split g (k + 1) n zs ys x both.1 in
    let place : k + 1 + length zs ≡ k + length (z ∷ zs) = omega arith in
    (ap₂ (λ y ys. y ∷ ys) (sym both.0) later.0, later.1 ∙ ap g place)

-- the first n of more
pub listed_front : {A : Type 0} (g : ℕ → A) (k n m : ℕ) → take n (listed g k (n + m)) ≡ listed g k n
unfolding listed
listed_front g k zero m = refl
listed_front g k (suc n) m =
    let e : suc n + m ≡ suc (n + m) = omega arith in
    ap (λ j. take (suc n) (listed g k j)) e ∙ ap (λ xs. g k ∷ xs) (listed_front g (k + 1) n m)

-- Joined

pub flat_listed : {A : Type 0} (f : A → List ℕ) (h : ℕ → A) (n : ℕ) → flat (λ k. f (h k)) n ≡ flat_map f (listed h 0 n)
unfolding flat listed flat_map
flat_listed f h zero = refl
flat_listed f h (suc n) =
    ap₂ (λ (a b : List ℕ). a ++ b) (flat_listed f h n) (ap (λ (i : ℕ). f (h i)) (sym (zero-add n)) ∙ sym (append-nil (f (h (0 + n)))))
    ∙ sym (flat_map_append f (listed h 0 n) (h (0 + n) ∷ []))
    ∙ ap (flat_map f) (sym (listed_more h 0 n))

-- Those that meet a test

pub all_kept : {A : Type 0} (test : A → Bool) (xs : List A) → All (λ (x : A). test x ≡ true) (kept test xs)
unfolding kept
all_kept test [] = tt
all_kept test (x ∷ xs) = step (test x) refl (all_kept test xs)
  where
    step : (b : Bool) → test x ≡ b → All (λ y. test y ≡ true) (kept test xs) → All (λ y. test y ≡ true) (cond b (x ∷ kept test xs) (kept test xs))
    step true e h = (e, h)
    step false e h = h

kept_joined : {A : Type 0} (test : A → Bool) (f : A → List ℕ) (xs : List A)
    → flat_map (λ x. cond (test x) (f x) []) xs ≡ flat_map f (kept test xs)
unfolding kept flat_map
kept_joined test f [] = refl
kept_joined test f (x ∷ xs) = step (test x) (kept_joined test f xs)
  where
    step : (b : Bool) → flat_map (λ x. cond (test x) (f x) []) xs ≡ flat_map f (kept test xs)
        → cond b (f x) [] ++ flat_map (λ x. cond (test x) (f x) []) xs ≡ flat_map f (cond b (x ∷ kept test xs) (kept test xs))
    step true e = ap (λ (l : List ℕ). f x ++ l) e
    step false e = e

pub picked_kept : {A : Type 0} (test : A → Bool) (f : A → List ℕ) (h : ℕ → A) (n : ℕ)
    → picked (λ k. test (h k)) (λ k. f (h k)) n ≡ flat_map f (kept test (listed h 0 n))
unfolding picked
picked_kept test f h n = flat_listed (λ x. cond (test x) (f x) []) h n ∙ kept_joined test f (listed h 0 n)

kept_append : {A : Type 0} (test : A → Bool) (xs ys : List A) → kept test (xs ++ ys) ≡ kept test xs ++ kept test ys
unfolding kept
kept_append test [] ys = refl
kept_append test (x ∷ xs) ys = rw (kept_append test xs ys) (step (test x))
  where
    step : (b : Bool) → cond b (x ∷ (kept test xs ++ kept test ys)) (kept test xs ++ kept test ys) ≡ cond b (x ∷ kept test xs) (kept test xs) ++ kept test ys
    step true = refl
    step false = refl

pub kept_count : {A : Type 0} (test : A → Bool) (h : ℕ → A) (n : ℕ) → length (kept test (listed h 0 n)) ≡ counted (λ k. test (h k)) n
unfolding counted listed kept
kept_count test h zero = refl
kept_count test h (suc n) =
    ap (λ xs. length (kept test xs)) (listed_more h 0 n)
    ∙ ap length (kept_append test (listed h 0 n) (h (0 + n) ∷ []))
    ∙ length-append (kept test (listed h 0 n)) (kept test (h (0 + n) ∷ []))
    ∙ ap (λ (i : ℕ). length (kept test (listed h 0 n)) + length (kept test (h i ∷ []))) (zero-add n)
    ∙ step (test (h n)) (kept_count test h n)
  where
    step : (b : Bool) → length (kept test (listed h 0 n)) ≡ counted (λ k. test (h k)) n
        → length (kept test (listed h 0 n)) + length (cond b (h n ∷ []) []) ≡ cond b (counted (λ k. test (h k)) n + 1) (counted (λ k. test (h k)) n)
    step true e = omega arith
    step false e = omega arith
