-- Where no line is refused the verdict is `passed`. The records are those of calls that the expansion accepted, each over a window that the
-- call before it left, so by demand 3 the table made of them passes; and 32 records fit into its 32 rows. Assumes nothing.
use mathlib.Core.Path.{◌≡◌, refl, sym, ap, ◌∙◌, subst}
use mathlib.Core.Bool.{Bool, true, false, cond}
use mathlib.Core.List.{List, [], ◌∷◌, ◌++◌, map, flat_map}
use mathlib.Core.Option.{none}
use Prim.Native.Nat.{ℕ, ◌+◌, ◌*◌, ◌/◌, ◌^◌, ◌≤◌, ◌<◌}
use native.Mathlib.Omega.{arith}
use borrow.Author.Tests.{le-leb, le-ltb}
use lib.Dec.{eqb}
use lib.ListN.{length, take, replicate}
use lib.Seq.{length-take-le}
use Rattle.answer.specs.Numbers as numbers
use Rattle.answer.specs.Numbers.{accepted}
use Rattle.answer.specs.declared.Answer.{Answer}
use Rattle.lists.specs.Lists.{All}
use Rattle.lists.proofs.Joined.{flat_map_length}
use Rattle.records.specs.Records.{LIMIT}
use Rattle.records.specs.RowCount.{row_count}
use Rattle.records.specs.Table.{TableAnswer, table_numbers}
use Rattle.records.proofs.RowCount.{row_count_le}
use Rattle.call.specs.Calls.{Op}
use Rattle.std.specs.Prelude.{Option, Some, None, Ok}
use Rattle.call.specs.Calls as calls
use Rattle.call.specs.Ops.{op_record, OP_WIDTH}
use Rattle.call.specs.Cuts.{ops_of, FitsTypes}
use Rattle.words.proofs.Digits.{below_same}
use Rattle.expansion.specs.Tries.{Try, Typed, Setting, under, Lent, try_of}
use Rattle.expansion.specs.Refusals.{answered}
use Rattle.calls_in_turn.specs.Accepted.{ops_written, accepted_ops, accepted_of}
use Rattle.calls_in_turn.specs.InTurn.{leaves, tries_of}
use Rattle.calls_in_turn.proofs.Written.{ops_more}
use Rattle.calls_in_turn.proofs.Counted.{records_fit}
use Rattle.calls_in_turn.proofs.Typed.{tries_typed}
use Rattle.copy_row.specs.Columns.{COLUMNS}
use Rattle.copy_row.specs.Trace.{copy_answer, copy_after}
use Rattle.copy_row.proofs.CopyTable.{after_length}
use Rattle.copy_meaning.specs.Steps.{LiveStep}
use Rattle.call_chain.proofs.Chained.{chain}
use Rattle.chain.specs.Chain.{chain_answer, chain_numbers}
use Rattle.whole_calls.specs.Demand.{Passes}
use Rattle.whole_calls.proofs.LiveRows.{steps}
use Rattle.whole_calls.proofs.GoodRecords.{records_wide, maker_answer}
use Rattle.whole_calls.proofs.Accepted.{cut_try, tries_fit, tries_wrote}
use Rattle.whole_calls.proofs.Demand.{demand3}
use Rattle.text.specs.Pieces.{after}
use Rattle.text.specs.Lines.{lines, call_line}
use Rattle.text.specs.declared.CallLine.{CallLine}
use Rattle.text.specs.RowLines.{rows_text, passed_text}
use Rattle.callcheck_text.specs.Run.{Ending, done, refused, OPS_ROOM, on_answer, call_of, on_line, lines_from, in_front}
use Rattle.callcheck_text.specs.Output.{TABLE_ROOM, checked_rows, verdict_of, verdict_text, ending_text, start, VerdictPasses}
use Rattle.callcheck_text.proofs.Printed.{good_gap}
use Rattle.callcheck_text.proofs.Typed.{call_words}

-- The calls of lines that are all accepted

-- what lines that are not refused leave: the records of these calls, taken in turn
pub record Tried (s : Setting) (l : Lent) (records : List ℕ) : Type 0 where
  pub calls : List calls.Call
  pub words : All FitsTypes calls
  pub wrote : records ≡ accepted_ops s (tries_of s calls l)

not_done : (n line : ℕ) (records : List ℕ) → refused n line ≡ done records → ⊥
not_done n line records e = let z : ◌≡◌ {A = ℕ} 0 1 = cc in omega arith

abbrev end_records : Ending → List ℕ
end_records (done records) = records
end_records (refused n line) = []

-- an answer after which the lines go on
goes_on : (a : Answer) (line : ℕ) (written : List ℕ) (next : Ending) (records : List ℕ) → on_answer a line (in_front written next) ≡ done records
    → (next ≡ done (end_records next)) × (records ≡ written ++ end_records next)
goes_on a line written next records = go (eqb a.number 0) next
  where
    go : (b : Bool) (next : Ending) → cond b (in_front written next) (refused a.number line) ≡ done records
        → (next ≡ done (end_records next)) × (records ≡ written ++ end_records next)
    go true (done more) e = (refl, sym (ap end_records e))
    go true (refused n line) e = absurd (not_done _ _ _ e)
    go false next e = absurd (not_done _ _ _ e)

pub lines_tried : (s : Setting) (line : ℕ) (xs : List (List ℕ)) (l : Lent) (records : List ℕ) → lines_from s line xs l ≡ done records → Tried s l records
unfolding lines_from tries_of flat_map
lines_tried s line [] l records e = record { calls = []; words = tt; wrote = sym (ap end_records e) }
lines_tried s line (x ∷ xs) l records e =
    go (call_line x) refl e (λ c more k. lines_tried s (line + 1) xs (leaves s (try_of c l)) more k)
  where
    go : (p : Option CallLine) → call_line x ≡ p
        → on_line p line
        (λ c. let t = try_of c l in on_answer (answered s t) line (in_front (ops_written s t) (lines_from s (line + 1) xs (leaves s t))))
        ≡ done records
        → ((c : calls.Call) (more : List ℕ) → lines_from s (line + 1) xs (leaves s (try_of c l)) ≡ done more → Tried s (leaves s (try_of c l)) more)
        → Tried s l records
    go None q e later = absurd (not_done _ _ _ e)
    go (Some call) q e later =
        let c = call_of call in
        let t = try_of c l in
        let next = lines_from s (line + 1) xs (leaves s t) in
        let g = goes_on (answered s t) line (ops_written s t) next records e in
        let k = later c (end_records next) g.0 in
        record {
          calls = c ∷ k.calls;
          words = (call_words x call q, k.words);
          wrote = g.1 ∙ ap (λ (y : List ℕ). ops_written s t ++ y) k.wrote ∙ sym (ops_more s t (tries_of s k.calls (leaves s t)));
        }

-- The table of the accepted calls

module _ (gap : ℕ) (g : gap < 2 ^ 32) (tries : List Try) (typed : All Typed tries) (short : length (accepted_ops (under gap) tries) ≤ OPS_ROOM) where
  abbrev pub records : List ℕ
  records = accepted_ops (under gap) tries

  abbrev ops : List Op
  ops = ops_of (map cut_try (accepted_of (under gap) tries))

  live : All (LiveStep gap) ops
  live = steps gap none ops (chain gap (map cut_try (accepted_of (under gap) tries)) (tries_fit gap tries typed))

  count : length records ≡ OP_WIDTH * length ops
  count = ap length (tries_wrote gap tries typed) ∙ flat_map_length OP_WIDTH op_record ops (records_wide gap ops live)

  abbrev pub rows : ℕ
  rows = row_count (length ops)

  few : rows ≤ 32
  few =
      let n : length ops ≤ 2 ^ 5 = omega (arith, count) in
      row_count_le (length ops) 5 (omega arith) n (omega arith)

  pub made : copy_answer LIMIT records TABLE_ROOM ≡ Ok rows
  made =
      let n : length ops ≤ LIMIT = omega (arith, count) in
      ap (λ (l : List ℕ). copy_answer LIMIT l TABLE_ROOM) (tries_wrote gap tries typed)
      ∙ maker_answer gap LIMIT TABLE_ROOM ops live
      ∙ rw (le-ltb LIMIT (length ops) n, le-leb (COLUMNS * rows) TABLE_ROOM (omega (arith, few)))

  abbrev pub table : List ℕ
  table = take (COLUMNS * rows) (copy_after records (Ok rows) (replicate TABLE_ROOM 0))

  pub table_is : checked_rows records ≡ table
  unfolding checked_rows
  table_is = ap (λ (a : TableAnswer). take (COLUMNS * (table_numbers 8 a).value) (copy_after records a (replicate TABLE_ROOM 0))) made

  table_passes : Passes gap table
  table_passes = (demand3.made gap g tries typed (replicate TABLE_ROOM 0) rows made).0

  pub table_rows_lem : length table / COLUMNS ≡ rows
  table_rows_lem =
      let n : length table ≡ COLUMNS * rows =
      length-take-le (COLUMNS * rows) (copy_after records (Ok rows) (replicate TABLE_ROOM 0))
      (omega (arith, few, after_length records (Ok rows) (replicate TABLE_ROOM 0))) in
      omega arith

  verdict_is : verdict_of gap records ≡ numbers.accepted rows
  unfolding verdict_of
  verdict_is =
      ap (λ (l : List ℕ). chain_numbers (chain_answer gap l)) table_is
      ∙ ap chain_numbers (demand3.counts gap table table_passes)
      ∙ ap numbers.accepted table_rows_lem

  pub live_count : length ops ≡ length records / OP_WIDTH
  live_count = omega (arith, count)

  pub verdict_line : verdict_text (verdict_of gap records) ≡ passed_text (row_count (length records / OP_WIDTH))
  verdict_line = ap verdict_text verdict_is ∙ ap (λ (n : ℕ). passed_text (row_count n)) live_count

pub verdict_passes : VerdictPasses
unfolding ending_text
verdict_passes input records gap e g d =
    let h = lines_tried (under gap) 2 (lines (after 10 input)) start records d in
    let tries = tries_of (under gap) h.calls start in
    let typed = tries_typed (under gap) h.calls start h.words (below_same 8 1024 0 (omega arith)) in
    let line = verdict_line gap g tries typed (records_fit (under gap) h.calls start) in
    sym (good_gap input gap e g)
    ∙ ap (ending_text gap) d
    ∙ ap (λ (x : List ℕ). rows_text 0 (length records / OP_WIDTH) records ++ x)
    (subst (λ (l : List ℕ). verdict_text (verdict_of gap l) ≡ passed_text (row_count (length l / OP_WIDTH))) (sym h.wrote) line)
