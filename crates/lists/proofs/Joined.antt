-- Laws of lists joined part by part. Assumes nothing.
use mathlib.Core.Path.{◌≡◌, refl, sym, ap, ap₂, ◌∙◌}
use mathlib.Core.List.{List, [], ◌∷◌, ◌++◌, flat_map, append_assoc}
use Prim.Native.Nat.{ℕ, ◌+◌, ◌*◌}
use native.Mathlib.Nat.{mul-suc, mul-zero}
use native.Mathlib.Omega.{arith}
use lib.ListN.{length, length-append}
use Rattle.lists.specs.Lists.{All}

-- Joined

pub flat_map_append : {A : Type 0} (f : A → List ℕ) (xs ys : List A) → flat_map f (xs ++ ys) ≡ flat_map f xs ++ flat_map f ys
unfolding flat_map
flat_map_append f [] ys = refl
flat_map_append f (x ∷ xs) ys =
    ap (λ (l : List ℕ). f x ++ l) (flat_map_append f xs ys) ∙ sym (append_assoc (f x) (flat_map f xs) (flat_map f ys))

pub flat_map_more : {A : Type 0} (f : A → List ℕ) (x : A) (xs : List A) → flat_map f (x ∷ xs) ≡ f x ++ flat_map f xs
unfolding flat_map
flat_map_more f x xs = refl

-- parts of v numbers each
pub flat_map_length : {A : Type 0} (v : ℕ) (f : A → List ℕ) (xs : List A) → All (λ (x : A). length (f x) ≡ v) xs
    → length (flat_map f xs) ≡ v * length xs
unfolding flat_map
flat_map_length v f [] each = sym (mul-zero v)
flat_map_length v f (x ∷ xs) each =
    length-append (f x) (flat_map f xs)
    ∙ ap₂ (λ (a b : ℕ). a + b) each.0 (flat_map_length v f xs each.1)
    ∙ omega (arith, mul-suc v (length xs))
