-- Operation records as 16 numbers and back, and what a record within its limits says of each field. Assumes nothing.
use mathlib.Core.Path.{◌≡◌}
use mathlib.Core.Bool.{true}
use mathlib.Core.List.{List}
use Prim.Native.Nat.{ℕ, zero, suc, ◌^◌, ◌≤◌, ◌<◌}
use native.Mathlib.Nat.{le_of_suc-le-suc}
use native.Mathlib.Omega.{arith}
use lib.ListN.{length, get_or, get_or-replicate}
use Rattle.lists.specs.Lists.{at}
use Rattle.lists.proofs.Numbers.{eight_back}
use Rattle.words.specs.Words.{Bytes}
use Rattle.words.proofs.Digits.{below_at}
use Rattle.records.proofs.Records.{within_length, within_all}
use Rattle.call.specs.Calls.{Op}
use Rattle.call.specs.Ops.{op_record, op_of, OP_WIDTH, op_limits, good_op}

-- There and back

-- of an operation record with eight value numbers
pub op_of_record : (o : Op) → length o.piece.value ≡ 8 → op_of (op_record o) ≡ o
op_of_record o q =
    λ i. record {
      call = o.call;
      piece = record { width = o.piece.width; value = eight_back o.piece.value q i };
      first = o.first;
      end = o.end;
    }

pub op_record_length : (o : Op) → length o.piece.value ≡ 8 → length (op_record o) ≡ OP_WIDTH
op_record_length o q = omega arith

-- Within the limits

-- each field of an operation record is among its values
pub record OpWithin (o : Op) : Type 0 where
  pub kind : o.call.kind ≤ 2
  pub stamp : o.call.stamp < 2 ^ 64
  pub src : o.call.src < 2 ^ 64
  pub dst : o.call.dst < 2 ^ 64
  pub count : o.call.count < 2 ^ 64
  pub width : o.piece.width ≤ 255
  pub eight : length o.piece.value ≡ 8
  pub bytes : Bytes o.piece.value
  pub first : o.first ≤ 1
  pub end : o.end ≤ 1

-- a good record is whole
pub good_whole : (r : List ℕ) → good_op r ≡ true → length r ≡ OP_WIDTH
unfolding op_limits
good_whole r e = within_length op_limits r e

-- an operation record whose fields are among their values is a good record
pub within_good : (o : Op) → OpWithin o → good_op (op_record o) ≡ true
unfolding op_limits
within_good o w = within_all op_limits (op_record o) (op_record_length o w.eight) each
  where
    each : (i : ℕ) → i < OP_WIDTH → at (op_record o) i ≤ get_or op_limits i 0
    each zero h = le_of_suc-le-suc w.stamp
    each (suc zero) h = le_of_suc-le-suc w.src
    each (suc (suc zero)) h = le_of_suc-le-suc w.dst
    each (suc (suc (suc zero))) h = le_of_suc-le-suc w.count
    each (suc (suc (suc (suc zero)))) h = w.width
    each (suc (suc (suc (suc (suc zero))))) h = w.first
    each (suc (suc (suc (suc (suc (suc zero)))))) h = w.end
    each (suc (suc (suc (suc (suc (suc (suc zero))))))) h = w.kind
    each (suc (suc (suc (suc (suc (suc (suc (suc i)))))))) h =
        rw (get_or-replicate {A = ℕ} 8 i 255 0 (omega arith)) (le_of_suc-le-suc (below_at 8 o.piece.value i w.bytes))
