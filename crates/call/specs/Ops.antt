-- The operation record as a run of numbers. Document 01: "An operation record is 16 numbers: timestamp, src, dst, count (64 bits), width
-- (0 to 255), first, end (0 or 1), kind (0 Copy, 1 Set, 2 Write), eight value bytes". Assumes nothing.
use Rattle.std.specs.Prelude.{ℕ, ◌-◌, ◌^◌, Bool, List, ◌∷◌, ◌++◌, replicate}
use Rattle.lists.specs.Lists.{eight_at, at}
use Rattle.records.specs.Records.{within}
use Rattle.call.specs.Calls.{Op}

-- numbers in an operation record
abbrev pub OP_WIDTH : ℕ
OP_WIDTH = 16

-- the 16 numbers of an operation record, and the operation record of 16 numbers
abbrev pub op_record : Op → List ℕ
op_record o =
    o.call.stamp
    ∷ o.call.src
    ∷ o.call.dst
    ∷ o.call.count
    ∷ o.piece.width
    ∷ o.first
    ∷ o.end
    ∷ o.call.kind
    ∷ o.piece.value

abbrev pub op_of : List ℕ → Op
op_of r =
    record {
      call = record { kind = at r 7; stamp = at r 0; src = at r 1; dst = at r 2; count = at r 3 };
      piece = record { width = at r 4; value = eight_at r 8 };
      first = at r 5;
      end = at r 6;
    }

-- the largest value of each number of an operation record
unfoldable pub op_limits : List ℕ
op_limits = replicate 4 (2 ^ 64 - 1) ++ (255 ∷ 1 ∷ 1 ∷ 2 ∷ replicate 8 255)

-- whether a record is whole and each field is among its values
abbrev pub good_op : List ℕ → Bool
good_op r = within op_limits r
