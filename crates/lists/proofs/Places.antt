-- Where an index lies, seen from a run of others. Assumes nothing.
use mathlib.Core.Path.{◌≡◌, refl}
use mathlib.Core.Bool.{Bool, true, false}
use Prim.Native.Nat.{ℕ, ◌+◌, ◌-◌, ◌≤◌, ◌<◌}
use native.Mathlib.Omega.{arith}
use borrow.Author.Tests.{ltb-true, ltb-false}
use lib.Dec.{ltb}

pub data Where (a n i : ℕ) : Type 0 where
  below : i < a → Where a n i
  inside : (j : ℕ) → j < n → i ≡ a + j → Where a n i
  above : a + n ≤ i → Where a n i

pub where_is : (a n i : ℕ) → Where a n i
where_is a n i = step (ltb i a) (ltb i (a + n)) refl refl
  where
    step : (x y : Bool) → ltb i a ≡ x → ltb i (a + n) ≡ y → Where a n i
    step true y e f = below (ltb-true i a e)
    step false true e f = let l = ltb-false i a e in let m = ltb-true i (a + n) f in inside (i - a) (omega arith) (omega arith)
    step false false e f = above (ltb-false i (a + n) f)
