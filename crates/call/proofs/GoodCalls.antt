-- What a good call that is handed in says of its numbers, and a call as it is handed in. Assumes nothing.
use mathlib.Core.Path.{◌≡◌, refl}
use mathlib.Core.Bool.{true}
use mathlib.Core.List.{List}
use Prim.Native.Nat.{ℕ, zero, suc, ◌≤◌, ◌<◌}
use native.Mathlib.Nat.{le_of_suc-le-suc}
use native.Mathlib.Omega.{arith}
use lib.ListN.{length, get_or}
use Rattle.lists.specs.Lists.{at}
use Rattle.records.proofs.Records.{within_length, within_at, within_all}
use Rattle.call.specs.Calls.{Call, kind_number, kind_of}
use Rattle.call.specs.declared.Functionality.{Functionality}
use Rattle.call.specs.declared.Functionality.TheVariants.{Copy, Set, Write}
use Rattle.call.specs.Flat.{HANDED_WIDTH, handed_numbers, call_from, call_limits, good_call}
use Rattle.call.specs.Cuts.{FitsTypes}

module _ (r : List ℕ) (good : good_call r ≡ true) where
  pub good_whole : length r ≡ HANDED_WIDTH
  unfolding call_limits
  good_whole = within_length call_limits r good

  -- its numbers fit their types
  pub good_words : FitsTypes (call_from r)
  unfolding call_limits
  good_words =
      record {
        kind = within_at call_limits r good 0 (omega arith);
        stamp = omega (arith, within_at call_limits r good 1 (omega arith));
        src = omega (arith, within_at call_limits r good 2 (omega arith));
        dst = omega (arith, within_at call_limits r good 3 (omega arith));
        count = omega (arith, within_at call_limits r good 4 (omega arith));
      }

-- A call and the numbers in which it is handed in

pub handed_call_lem : (c : Call) → call_from (handed_numbers c) ≡ c
handed_call_lem c = refl

-- one whose numbers fit their types is a good one
pub handed_good : (c : Call) → FitsTypes c → good_call (handed_numbers c) ≡ true
unfolding call_limits
handed_good c w = within_all call_limits (handed_numbers c) refl each
  where
    each : (i : ℕ) → i < HANDED_WIDTH → at (handed_numbers c) i ≤ get_or call_limits i 0
    each zero h = w.kind
    each (suc zero) h = le_of_suc-le-suc w.stamp
    each (suc (suc zero)) h = le_of_suc-le-suc w.src
    each (suc (suc (suc zero))) h = le_of_suc-le-suc w.dst
    each (suc (suc (suc (suc zero)))) h = le_of_suc-le-suc w.count
    each (suc (suc (suc (suc (suc i))))) h = absurd (omega arith)

-- the number of a kind
pub kind_small : (k : Functionality) → kind_number k ≤ 2
kind_small Copy = omega arith
kind_small Set = omega arith
kind_small Write = omega arith

pub kind_back : (k : ℕ) → k ≤ 2 → kind_number (kind_of k) ≡ k
kind_back zero h = refl
kind_back (suc zero) h = refl
kind_back (suc (suc zero)) h = refl
kind_back (suc (suc (suc k))) h = absurd (omega arith)
