-- Laws of `store`: what stands in a list after numbers were written into it, one by one or as a lent part that came back. Assumes nothing.
use mathlib.Core.Path.{◌≡◌, refl, sym, ap, ◌∙◌}
use mathlib.Core.List.{List, [], ◌∷◌, ◌++◌, append-nil, append_assoc}
use Prim.Native.Nat.{ℕ, ◌+◌, ◌-◌, ◌≤◌, ◌<◌, zero, suc}
use native.Mathlib.Nat.{add-zero}
use native.Mathlib.Numerals.{add-one}
use native.Mathlib.Omega.{arith}
use lib.ListN.{length, take, drop, get_or, set, length-append, length-set, length-drop, drop_of_length-le}
use lib.Seq.{take_at, sets, sets-eq, drop-cons, length-take-le, get_or-take, get_or-drop, drop-drop, get_or-set_same, get_or-set_other, take-take}
use Rattle.lists.specs.Lists.{store}

-- Stores one by one

pub store_none : (l : List ℕ) (i : ℕ) → store l i [] ≡ l
unfolding store
store_none l i = refl

pub store_more : (l : List ℕ) (i v : ℕ) (vs : List ℕ) → store l i (v ∷ vs) ≡ store (set l i v) (i + 1) vs
unfolding store
store_more l i v vs = refl

pub length_store : (l : List ℕ) (i : ℕ) (vs : List ℕ) → length (store l i vs) ≡ length l
unfolding store
length_store l i [] = refl
length_store l i (v ∷ vs) = length_store (set l i v) (i + 1) vs ∙ length-set l i v

-- what is stored in two runs, one behind the other
pub store_append : (l : List ℕ) (i : ℕ) (xs ys : List ℕ) → store l i (xs ++ ys) ≡ store (store l i xs) (i + length xs) ys
unfolding store
store_append l i [] ys = rw add-zero
store_append l i (x ∷ xs) ys =
    let e : (i + 1) + length xs ≡ i + length (x ∷ xs) = omega arith in
    store_append (set l i x) (i + 1) xs ys ∙ ap (λ (n : ℕ). store (store (set l i x) (i + 1) xs) n ys) e

-- and where the second is said to begin
pub store_behind : (l : List ℕ) (i j : ℕ) (xs ys : List ℕ) → j ≡ i + length xs → store (store l i xs) j ys ≡ store l i (xs ++ ys)
store_behind l i j xs ys e = ap (λ (n : ℕ). store (store l i xs) n ys) e ∙ sym (store_append l i xs ys)

store_sets : (l : List ℕ) (i : ℕ) (vs : List ℕ) → store l i vs ≡ sets l i vs
unfolding store
store_sets l i [] = refl
store_sets l i (v ∷ vs) = store_sets (set l i v) (i + 1) vs ∙ ap (λ (n : ℕ). sets (set l i v) n vs) (add-one i)

-- where the run fits, it stands between what was before it and what was behind it
pub store_eq : (l : List ℕ) (i : ℕ) (vs : List ℕ) → i + length vs ≤ length l → store l i vs ≡ take i l ++ vs ++ drop (i + length vs) l
store_eq l i vs fits = store_sets l i vs ∙ sets-eq vs l i fits

-- and these are the numbers up to its end
pub store_front : (l : List ℕ) (i : ℕ) (vs : List ℕ) → i + length vs ≤ length l → take (i + length vs) (store l i vs) ≡ take i l ++ vs
store_front l i vs fits =
    let n : length (take i l) ≡ i = length-take-le i l (omega arith) in
    ap (take (i + length vs)) (store_eq l i vs fits)
    ∙ take_at (take i l ++ vs) (drop (i + length vs) l) (i + length vs) (rw length-append (omega arith))

-- a run as long as the list replaces it
pub store_all : (l vs : List ℕ) → length l ≡ length vs → store l 0 vs ≡ vs
store_all l vs e =
    store_eq l 0 vs (omega arith)
    ∙ ap (λ (r : List ℕ). vs ++ r) (drop_of_length-le l {i = 0 + length vs} (omega arith))
    ∙ append-nil vs

-- one turn of a loop that stores src from index j on, i of whose numbers it has stored; and its end
pub store_turn : (l src : List ℕ) (j i : ℕ) → i < length src → store (set l j (get_or src i 0)) (j + 1) (drop (i + 1) src) ≡ store l j (drop i src)
store_turn l src j i h = rw (add-one i, drop-cons src i 0, store_more)

pub store_end : (l src : List ℕ) (j i : ℕ) → length src ≤ i → store l j (drop i src) ≡ l
store_end l src j i h = rw (drop_of_length-le src h, store_none)

-- Parts

-- w numbers from index i on
pub run_length : (l : List ℕ) (i w : ℕ) → i + w ≤ length l → length (take w (drop i l)) ≡ w
run_length l i w h = length-take-le w (drop i l) (simp length-drop (omega arith))

-- of the first n
pub run_taken : (v i n : ℕ) (l : List ℕ) → i + v ≤ n → take v (drop i (take n l)) ≡ take v (drop i l)
run_taken v zero n l h = take-take v n l (omega arith)
run_taken v (suc i) zero l h = absurd (omega arith)
run_taken v (suc i) (suc n) [] h = refl
run_taken v (suc i) (suc n) (x ∷ xs) h = run_taken v i n xs (omega arith)

pub run_at : (l : List ℕ) (i w j : ℕ) → j < w → get_or (take w (drop i l)) j 0 ≡ get_or l (i + j) 0
run_at l i w j h = get_or-take w (drop i l) j 0 h ∙ get_or-drop i l j 0

-- a part of m numbers that was lent and came back as ys
pub part_store : (l ys : List ℕ) (p m : ℕ) → length ys ≡ m → p + m ≤ length l → take p l ++ (ys ++ drop m (drop p l)) ≡ store l p ys
part_store l ys p m e h =
    ap (λ (r : List ℕ). take p l ++ (ys ++ r)) (drop-drop m p l ∙ ap (λ (n : ℕ). drop (p + n) l) (sym e))
    ∙ sym (append_assoc (take p l) ys (drop (p + length ys) l))
    ∙ sym (store_eq l p ys (omega arith))

-- l, whose part from p to q was lent and came back as xs
abbrev pub lent_back : List ℕ → ℕ → ℕ → List ℕ → List ℕ
lent_back l p q xs = take p l ++ (xs ++ drop (q - p) (drop p l))

-- as long as it was lent
module _ (l xs : List ℕ) (p q : ℕ) (up : p ≤ q) (fits : q ≤ length l) (same : length xs ≡ length (take (q - p) (drop p l))) where
  part_long : length xs ≡ q - p
  part_long = same ∙ run_length l p (q - p) (omega arith)

  pub part_back : lent_back l p q xs ≡ store l p xs
  part_back = part_store l xs p (q - p) part_long (omega arith)

  pub part_length : length (lent_back l p q xs) ≡ length l
  part_length = ap length part_back ∙ length_store l p xs

  -- a turn that lends that part, and goes on with ys behind it
  pub part_turn : (ys : List ℕ) → store (lent_back l p q xs) q ys ≡ store l p (xs ++ ys)
  part_turn ys =
      ap (λ (r : List ℕ). store r q ys) part_back ∙ store_behind l p q xs ys (omega (arith, part_long))

-- Single numbers after a store: before the run, behind it, in it

pub store_below : (l vs : List ℕ) (a i : ℕ) → i < a → get_or (store l a vs) i 0 ≡ get_or l i 0
unfolding store
store_below l [] a i h = refl
store_below l (v ∷ vs) a i h = store_below (set l a v) vs (a + 1) i (omega arith) ∙ get_or-set_other l a i v 0 (λ q. omega arith)

pub store_above : (l vs : List ℕ) (a i : ℕ) → a + length vs ≤ i → get_or (store l a vs) i 0 ≡ get_or l i 0
unfolding store
store_above l [] a i h = refl
store_above l (v ∷ vs) a i h = store_above (set l a v) vs (a + 1) i (omega arith) ∙ get_or-set_other l a i v 0 (λ q. omega arith)

pub store_inside : (l vs : List ℕ) (a j : ℕ) → j < length vs → a + j < length l → get_or (store l a vs) (a + j) 0 ≡ get_or vs j 0
unfolding store
store_inside l [] a j h k = absurd (omega arith)
store_inside l (v ∷ vs) a zero h k =
    ap (λ (n : ℕ). get_or (store (set l a v) (a + 1) vs) n 0) (add-zero a)
    ∙ store_below (set l a v) vs (a + 1) a (omega arith)
    ∙ get_or-set_same l a v 0 (omega arith)
store_inside l (v ∷ vs) a (suc j) h k =
    let e : a + suc j ≡ a + 1 + j = omega arith in
    ap (λ (n : ℕ). get_or (store (set l a v) (a + 1) vs) n 0) e
    ∙ store_inside (set l a v) vs (a + 1) j (omega arith) (omega (arith, length-set l a v))
