-- The copy table's maker finds nothing wrong in the operation records of live steps, so it refuses a list of them with nothing but the
-- limit on records and 9. Assumes nothing.
use mathlib.Core.Path.{◌≡◌, sym, subst}
use mathlib.Core.Bool.{true, cond}
use mathlib.Core.List.{List, [], ◌∷◌, flat_map, map}
use mathlib.Core.Logic.{inl, inr}
use Prim.Native.Nat.{ℕ, ◌*◌}
use native.Mathlib.Omega.{arith}
use borrow.Author.Tests.{le-ltb}
use lib.Dec.{ltb, leb}
use lib.ListN.{length}
use Rattle.std.specs.Prelude.{Ok, Err}
use Rattle.lists.specs.Lists.{All}
use Rattle.records.specs.Records.{record_count, first_bad}
use Rattle.records.specs.RowCount.{row_count}
use Rattle.records.specs.Table.{table_answer}
use Rattle.records.specs.declared.TableRefusal.TheVariants.{TooManyRecords, BufferShort}
use Rattle.records.proofs.Records.{none_bad}
use Rattle.records.proofs.RecordList.{joined_count, records_joined, each_record}
use Rattle.call.specs.Calls.{Op}
use Rattle.call.specs.Ops.{op_record, OP_WIDTH, good_op}
use Rattle.call.proofs.Ops.{op_record_length, OpWithin, within_good}
use Rattle.copy_row.specs.Columns.{COLUMNS}
use Rattle.copy_row.specs.Trace.{copy_answer}
use Rattle.copy_meaning.specs.Steps.{empty, ends, more, LiveStep}

-- Fields among their values

step_within : (gap : ℕ) (o : Op) → LiveStep gap o → OpWithin o
step_within gap o s =
    record {
      kind = s.words.kind;
      stamp = s.words.stamp;
      src = s.words.src;
      dst = s.words.dst;
      count = s.words.count;
      width = elim s.piece.wide [ inl e ↦ omega arith | inr e ↦ omega arith ];
      eight = s.piece.eight;
      bytes = s.piece.bytes;
      first = s.bits;
      end = elim s.move [ empty c first end ↦ omega arith | ends end c src dst ↦ omega arith | more end c src dst ↦ omega arith ];
    }

-- The records joined

module _ (gap : ℕ) where
  pub records_wide : (os : List Op) → All (LiveStep gap) os → All (λ (o : Op). length (op_record o) ≡ OP_WIDTH) os
  records_wide [] s = tt
  records_wide (o ∷ os) s = (op_record_length o s.0.piece.eight, records_wide os s.1)

  -- how many records
  pub records_count_lem : (os : List Op) → All (LiveStep gap) os → record_count OP_WIDTH (flat_map op_record os) ≡ length os
  records_count_lem os s = joined_count OP_WIDTH (omega arith) op_record os (records_wide os s)

  all_good_records : (os : List Op) → All (LiveStep gap) os → All (λ (r : List ℕ). good_op r ≡ true) (map op_record os)
  all_good_records [] s = tt
  all_good_records (o ∷ os) s = (within_good o (step_within gap o s.0), all_good_records os s.1)

  none_refused : (os : List Op) → All (LiveStep gap) os → first_bad OP_WIDTH good_op (flat_map op_record os) ≡ record_count OP_WIDTH (flat_map op_record os)
  none_refused os s =
      let joined = records_joined OP_WIDTH (omega arith) op_record os (records_wide os s) in
      let all = subst (All (λ (r : List ℕ). good_op r ≡ true)) (sym joined) (all_good_records os s) in
      none_bad OP_WIDTH good_op (flat_map op_record os) (each_record OP_WIDTH (λ (r : List ℕ). good_op r ≡ true) (flat_map op_record os) all)

  -- what the maker answers: too many, or a table too short, or as many rows as there should be
  pub maker_answer : (limit room : ℕ) (os : List Op) → All (LiveStep gap) os
      → copy_answer limit (flat_map op_record os) room
      ≡ cond (ltb limit (length os)) (Err TooManyRecords) (cond (leb (COLUMNS * row_count (length os)) room) (Ok (row_count (length os))) (Err BufferShort))
  unfolding copy_answer table_answer
  maker_answer limit room os s =
      let n = records_count_lem os s in
      rw (none_refused os s, n, le-ltb (length os) (length os) (omega arith))
