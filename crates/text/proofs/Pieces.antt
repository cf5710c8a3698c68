-- Laws of the pieces of a text and of its lines: the search and the comparison that the library has, and the lines from an index on.
-- Assumes nothing.
use Prim.Native.Nat.{ℕ, suc, ◌+◌, ◌-◌, ◌≤◌, ◌<◌}
use mathlib.Core.Path.{◌≡◌, refl, sym, ap, ◌∙◌}
use mathlib.Core.Bool.{Bool, true, false, cond, not, ◌&&◌}
use mathlib.Core.List.{List, [], ◌∷◌}
use native.Mathlib.Omega.{arith}
use borrow.Author.Tests.{ltb-false}
use lib.ListN.{length, drop, take, get_or, drop_of_length-le, length-drop}
use lib.Seq.{drop-cons, take_all, drop-drop, drop-length}
use lib.Dec.{eqb, ltb}
use lib.Pointwise.{pointwise}
use Rattle.std.specs.Prelude.{Option, Some, None, unwrap_or}
use Rattle.std.specs.List.{position_or_len}
use Rattle.lists.specs.Lists.{same}
use Rattle.text.specs.Pieces.{index_of, before, after}
use Rattle.text.specs.Lines.{onto, lines}

-- the search of the library finds the same index
index_position : (b : ℕ) (l : List ℕ) → position_or_len (λ x. eqb x b) l ≡ index_of b l
unfolding index_of
index_position b [] = refl
index_position b (x ∷ l) = step (eqb x b) (index_position b l)
  where
    step : (t : Bool) → position_or_len (λ x. eqb x b) l ≡ index_of b l → cond (not t) (1 + position_or_len (λ x. eqb x b) l) 0 ≡ cond t 0 (suc (index_of b l))
    step true h = refl
    step false h = omega arith

pub index_le : (b : ℕ) (l : List ℕ) → index_of b l ≤ length l
unfolding index_of
index_le b [] = omega arith
index_le b (x ∷ l) = let h = index_le b l in step (eqb x b) h
  where
    step : (t : Bool) → index_of b l ≤ length l → cond t 0 (suc (index_of b l)) ≤ suc (length l)
    step true h = omega arith
    step false h = omega arith

pub index_found : (b : ℕ) (l : List ℕ) (r : Option ℕ) → r ≡ cond (ltb (position_or_len (λ x. eqb x b) l) (length l)) (Some (position_or_len (λ x. eqb x b) l)) None
    → unwrap_or r (length l) ≡ index_of b l
index_found b l r e = rw (e, index_position b l) (step (ltb (index_of b l) (length l)) refl)
  where
    step : (t : Bool) → ltb (index_of b l) (length l) ≡ t → unwrap_or (cond t (Some (index_of b l)) None) (length l) ≡ index_of b l
    step true h = refl
    step false h = let m = index_le b l in let k = ltb-false (index_of b l) (length l) h in omega arith

-- a text that is not empty is its first line and the lines after it
first : (x : ℕ) (xs : List ℕ) (t : Bool) → eqb x 10 ≡ t → onto x (lines xs) ≡ (x ∷ before 10 xs) ∷ lines (after 10 xs)
    → lines (x ∷ xs) ≡ before 10 (x ∷ xs) ∷ lines (after 10 (x ∷ xs))
unfolding lines before after index_of
first x xs true e h = rw e
first x xs false e h =
    let q : suc (index_of 10 xs) + 1 ≡ suc (index_of 10 xs + 1) = omega arith in
    rw (e, q) h

pub lines_first : (x : ℕ) (xs : List ℕ) → lines (x ∷ xs) ≡ before 10 (x ∷ xs) ∷ lines (after 10 (x ∷ xs))
unfolding lines before after index_of onto
lines_first x [] = first x [] (eqb x 10) refl refl
lines_first x (y ∷ ys) = first x (y ∷ ys) (eqb x 10) refl (ap (onto x) (lines_first y ys))

pub and_false : (t : Bool) → (t && false) ≡ false
and_false true = refl
and_false false = refl

-- `==` says the same
pub same_pointwise : (a b : List ℕ) → same a b ≡ pointwise eqb a b
unfolding same
same_pointwise [] [] = refl
same_pointwise [] (y ∷ b) = refl
same_pointwise (x ∷ a) [] = refl
same_pointwise (x ∷ a) (y ∷ b) = ap (λ (t : Bool). eqb x y && t) (same_pointwise a b)

-- the lines from an index on
pub lines_at : (l : List ℕ) (at : ℕ) → at < length l → lines (drop at l) ≡ before 10 (drop at l) ∷ lines (after 10 (drop at l))
lines_at l at h = rw (drop-cons l at 0) (lines_first (get_or l at 0) (drop (suc at) l))

pub rest_is : (l : List ℕ) (at : ℕ) → take (length l - at) (drop at l) ≡ drop at l
rest_is l at = take_all (length l - at) (drop at l) (simp length-drop (omega arith))

-- after the line that starts at index at
pub next_is : (l : List ℕ) (at e : ℕ) → e ≡ index_of 10 (take (length l - at) (drop at l)) → drop (at + e + 1) l ≡ after 10 (drop at l)
unfolding after
next_is l at e h =
    let f : e ≡ index_of 10 (drop at l) = h ∙ ap (index_of 10) (rest_is l at) in
    let g : at + e + 1 ≡ at + (e + 1) = omega arith in
    rw (g, ← drop-drop (e + 1) at l, f)

pub next_none : (l : List ℕ) (at e : ℕ) → e ≡ index_of 10 (take (length l - at) (drop at l)) → length l - at ≤ e → drop (length l) l ≡ after 10 (drop at l)
next_none l at e h k =
    let f : length l ≤ at + e + 1 = omega arith in
    drop-length l ∙ sym (drop_of_length-le l f) ∙ next_is l at e h
