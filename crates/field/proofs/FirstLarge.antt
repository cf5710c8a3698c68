-- What the search for a number that is no element says of a row. Assumes nothing.
use Rattle.std.proofs.Common.{◌≡◌, ℕ, ◌+◌, ◌-◌, ◌<◌, ◌≤◌, Bool, leb, List, length, arith, leb-false, le-leb}
use native.Mathlib.Decide.{dec_lt}
use borrow.Author.Tests.{lt-leb}
use lib.ListN.{get_or-eq_default}
use Rattle.lists.specs.Lists.{first, at}
use native.Mathlib.Nat.{sub-zero}
use Rattle.lists.proofs.First.{first_miss, first_hit, first_end, first_none_lem, first_all}
use Rattle.field.specs.Field.{p}
use Rattle.field.specs.Rows.{first_large, Elements}

-- its test
abbrev pub large : List ℕ → ℕ → Bool
large row c = leb p (at row c)

-- a loop that is at number c: it is no element, or it is one, or there is none
pub large_here : (row : List ℕ) (c : ℕ) → c < length row → p ≤ at row c → first (large row) c (length row - c) ≡ c
large_here row c h e = first_hit (large row) c (length row) h (le-leb p (at row c) e)

pub large_later : (row : List ℕ) (c : ℕ) → c < length row → at row c < p
    → first (large row) c (length row - c) ≡ first (large row) (c + 1) (length row - (c + 1))
large_later row c h e = first_miss (large row) c (length row) h (lt-leb p (at row c) e)

pub large_none : (row : List ℕ) (c : ℕ) → length row ≤ c → first (large row) c (length row - c) ≡ c
large_none row c h = first_end (large row) c (length row) h

pub first_large_is : (row : List ℕ) → first_large row ≡ first (large row) 0 (length row - 0)
unfolding first_large
first_large_is row = rw (sub-zero (length row))

module _ (width : ℕ) (row : List ℕ) where
  -- where it runs to the end, every column is an element, also one past the end, which reads as 0
  pub elements : length row ≡ width → width ≤ first_large row → Elements width row
  unfolding first_large
  elements w h = record { wide = w; each = λ c. below c (dec_lt c (length row)) }
    where
      below : (c : ℕ) → Dec (c < length row) → at row c < p
      below c (yes l) = leb-false _ _ (first_none_lem (large row) 0 (length row) c (omega arith) (omega arith) (omega arith))
      below c (no n) =
          let past : length row ≤ c = omega arith in
          rw (get_or-eq_default row 0 past) (omega arith)

  -- and on a row of elements it does
  pub none_large : Elements width row → width ≤ first_large row
  unfolding first_large
  none_large r =
      let all : first (large row) 0 (length row) ≡ 0 + length row =
      first_all (large row) 0 (length row) (λ c a b. lt-leb p (at row c) (r.each c))
      in
      omega (arith, r.wide)
