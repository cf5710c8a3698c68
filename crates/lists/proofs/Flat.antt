-- Laws of `flat`, `picked` and `counted`: lists that are made part by part, and the rows of a lent table that a loop fills one by one.
-- Document 01: row k is "written into numbers 41 × k to 41 × k + 40 of the lent table"; here the width is v. Assumes nothing.
use mathlib.Core.Path.{◌≡◌, refl, sym, ap, ◌∙◌}
use mathlib.Core.Logic.{⊎_elim}
use mathlib.Core.Bool.{Bool, true, false, cond}
use mathlib.Core.List.{List, [], ◌++◌, append-nil}
use Prim.Native.Nat.{ℕ, zero, suc, ◌+◌, ◌-◌, ◌*◌, ◌≤◌, ◌<◌}
use native.Mathlib.Nat.{mul-zero, mul-suc, mul-le-mul_left, eq-or-lt_of_le, le_of_suc-le-suc}
use native.Mathlib.Numerals.{add-one}
use native.Mathlib.Omega.{arith}
use lib.ListN.{length, take, drop, length-append}
use Rattle.lists.specs.Lists.{store, flat, picked, counted}
use Rattle.lists.proofs.Store.{length_store, store_append, part_store}

-- Parts joined

pub flat_none : (g : ℕ → List ℕ) → flat g 0 ≡ []
unfolding flat
flat_none g = refl

pub flat_more : (g : ℕ → List ℕ) (k : ℕ) → flat g (k + 1) ≡ flat g k ++ g k
unfolding flat
flat_more g k = rw (add-one k, flat)

-- parts of v numbers each
pub flat_length : (v : ℕ) (g : ℕ → List ℕ) (n : ℕ) → ((k : ℕ) → k < n → length (g k) ≡ v) → length (flat g n) ≡ v * n
unfolding flat
flat_length v g zero h = sym (mul-zero v)
flat_length v g (suc n) h =
    rw (length-append, flat_length v g n (λ k l. h k (omega arith)), h n (omega arith), mul-suc) refl

-- Parts that are picked

pub picked_none : (test : ℕ → Bool) (g : ℕ → List ℕ) → picked test g 0 ≡ []
unfolding picked flat
picked_none test g = refl

pub picked_yes : (test : ℕ → Bool) (g : ℕ → List ℕ) (k : ℕ) → test k ≡ true → picked test g (k + 1) ≡ picked test g k ++ g k
unfolding picked
picked_yes test g k e = rw (flat_more, e)

pub picked_no : (test : ℕ → Bool) (g : ℕ → List ℕ) (k : ℕ) → test k ≡ false → picked test g (k + 1) ≡ picked test g k
unfolding picked
picked_no test g k e = rw (flat_more, e) (append-nil _)

-- of parts of v numbers each, as many as meet the test
pub picked_length : (v : ℕ) (test : ℕ → Bool) (g : ℕ → List ℕ) (n : ℕ) → ((k : ℕ) → k < n → length (g k) ≡ v)
    → length (picked test g n) ≡ v * counted test n
unfolding picked flat counted
picked_length v test g zero h = sym (mul-zero v)
picked_length v test g (suc n) h =
    rw length-append (step (test n) (picked_length v test g n (λ k l. h k (omega arith))) (h n (omega arith)))
  where
    step : (b : Bool) → length (flat (λ k. cond (test k) (g k) []) n) ≡ v * counted test n → length (g n) ≡ v
        → length (flat (λ k. cond (test k) (g k) []) n) + length (cond b (g n) []) ≡ v * cond b (counted test n + 1) (counted test n)
    step true e f = rw (e, f, add-one, mul-suc) refl
    step false e f = omega arith

-- How many meet a test

pub counted_none : (test : ℕ → Bool) → counted test 0 ≡ 0
unfolding counted
counted_none test = refl

pub counted_more : (test : ℕ → Bool) (k : ℕ) → counted test (k + 1) ≡ cond (test k) (counted test k + 1) (counted test k)
unfolding counted
counted_more test k = rw (add-one k, counted)

pub counted_yes : (test : ℕ → Bool) (k : ℕ) → test k ≡ true → counted test (k + 1) ≡ counted test k + 1
counted_yes test k e = rw (counted_more, e)

pub counted_le : (test : ℕ → Bool) (n : ℕ) → counted test n ≤ n
unfolding counted
counted_le test zero = omega arith
counted_le test (suc n) = step (test n) (counted_le test n)
  where
    step : (b : Bool) → counted test n ≤ n → cond b (counted test n + 1) (counted test n) ≤ suc n
    step true h = omega arith
    step false h = omega arith

pub counted_mono : (test : ℕ → Bool) (n k : ℕ) → k ≤ n → counted test k ≤ counted test n
unfolding counted
counted_mono test zero k h = let e : k ≡ 0 = omega arith in rw e (omega arith)
counted_mono test (suc n) k h = ⊎_elim (λ q. rw q (omega arith)) (λ l. step (test n) (counted_mono test n k (le_of_suc-le-suc l))) (eq-or-lt_of_le h)
  where
    step : (b : Bool) → counted test k ≤ counted test n → counted test k ≤ cond b (counted test n + 1) (counted test n)
    step true h = omega arith
    step false h = omega arith

-- Parts and rows written into a lent list

-- a part of m numbers, lent from n to n + m, came back as ys behind the n numbers xs that were written before it
pub part_next : (l t xs ys : List ℕ) (n m : ℕ) → t ≡ store l 0 xs → length xs ≡ n → length ys ≡ m → n + m ≤ length l
    → take n t ++ (ys ++ drop (n + m - n) (drop n t)) ≡ store l 0 (xs ++ ys)
part_next l t xs ys n m q e f fits =
    let z : n + m - n ≡ m = omega arith in
    let s : length t ≡ length l = ap length q ∙ length_store l 0 xs in
    let i : n ≡ 0 + length xs = omega arith in
    ap (λ (d : ℕ). take n t ++ (ys ++ drop d (drop n t))) z
    ∙ part_store t ys n m f (omega arith)
    ∙ ap (λ (o : List ℕ). store o n ys) q
    ∙ ap (λ (j : ℕ). store (store l 0 xs) j ys) i
    ∙ sym (store_append l 0 xs ys)

-- row k of v numbers, written at v * k behind the rows before it
pub flat_placed : (v : ℕ) (g : ℕ → List ℕ) (l t row : List ℕ) (k : ℕ) → ((j : ℕ) → length (g j) ≡ v) → t ≡ store l 0 (flat g k)
    → row ≡ g k → v * k + v ≤ length l
    → take (v * k) t ++ (row ++ drop (v * k + v - v * k) (drop (v * k) t)) ≡ store l 0 (flat g (k + 1))
flat_placed v g l t row k h q e fits =
    rw (e, flat_more) (part_next l t (flat g k) (g k) (v * k) v q (flat_length v g k (λ j _. h j)) (h k) fits)

-- row k of n rows of v numbers ends within them
pub row_within : (v k n : ℕ) → k < n → v * k + v ≤ v * n
row_within v k n h = rw mul-suc at (mul-le-mul_left v h)
