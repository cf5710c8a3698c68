-- Where no line is refused, the row lines are those of the live rows of the table made: read-back of the table gives the operation records
-- that the lines are printed from. Assumes nothing.
use mathlib.Core.Path.{◌≡◌, refl, sym, ap, ap₂, ◌∙◌, subst}
use mathlib.Core.Bool.{false}
use mathlib.Core.List.{List, [], ◌∷◌, ◌++◌, map, flat_map}
use Prim.Native.Nat.{ℕ, ◌+◌, ◌*◌, ◌/◌, ◌^◌, ◌≤◌, ◌<◌}
use native.Mathlib.Omega.{arith}
use lib.Dec.{lit≤}
use lib.ListN.{length, take, replicate}
use lib.Seq.{take_at}
use Rattle.lists.specs.Lists.{All}
use Rattle.records.specs.Records.{LIMIT}
use Rattle.records.specs.RowCount.{row_count}
use Rattle.std.specs.Prelude.{Ok}
use Rattle.call.specs.Ops.{op_record, OP_WIDTH}
use Rattle.call.specs.Cuts.{CutCall}
use Rattle.words.proofs.Digits.{below_same}
use Rattle.expansion.specs.Tries.{Try, Typed, under}
use Rattle.calls_in_turn.specs.Accepted.{accepted_ops, accepted_of}
use Rattle.calls_in_turn.specs.InTurn.{tries_of}
use Rattle.calls_in_turn.proofs.Counted.{records_fit}
use Rattle.calls_in_turn.proofs.Typed.{tries_typed}
use Rattle.copy_row.specs.Columns.{COLUMNS}
use Rattle.copy_row.specs.Trace.{copy_answer, copy_after}
use Rattle.copy_meaning.specs.ReadRow.{op_at}
use Rattle.chain.specs.Chain.{table_rows}
use Rattle.chain.proofs.Rows.{rows_count_lem}
use Rattle.read_back.specs.ReadBack.{live_rows, read_ops}
use Rattle.read_back.specs.Inner.{rows_read, numbers_read}
use Rattle.read_back.proofs.Walk.{numbers_length}
use Rattle.whole_calls.specs.Demand.{WholeCalls}
use Rattle.whole_calls.proofs.Accepted.{cut_try, tries_fit, tries_wrote}
use Rattle.whole_calls.proofs.Made.{written_calls}
use Rattle.whole_calls.proofs.ReadBack.{read_ops_lem}
use Rattle.text.specs.Pieces.{after}
use Rattle.text.specs.Lines.{lines}
use Rattle.text.specs.RowLines.{row_text, rows_text, passed_text}
use Rattle.callcheck_text.specs.Run.{OPS_ROOM}
use Rattle.callcheck_text.specs.Output.{TABLE_ROOM, checked_rows, start, row_lines, LiveRowsPrinted}
use Rattle.callcheck_text.proofs.Passes.{lines_tried, rows, made, table_is, table_rows_lem, live_count, verdict_passes}

-- the lines of the records that are read off rows are the lines of these rows
lines_read : (k : ℕ) (rows : List (List ℕ)) → rows_text k (length rows) (flat_map (λ row. op_record (op_at row)) rows) ≡ row_lines k rows
unfolding rows_text flat_map row_lines
lines_read k [] = refl
lines_read k (row ∷ rows) = ap (λ (x : List ℕ). row_text k (op_record (op_at row)) ++ x) (lines_read (k + 1) rows)

-- The table of the accepted calls

module _ (gap : ℕ) (g : gap < 2 ^ 32) (tries : List Try) (typed : All Typed tries) (short : length (accepted_ops (under gap) tries) ≤ OPS_ROOM) where
  abbrev records : List ℕ
  records = accepted_ops (under gap) tries

  abbrev cuts : List CutCall
  cuts = map cut_try (accepted_of (under gap) tries)

  abbrev n : ℕ
  n = rows gap g tries typed short

  abbrev rows_made : List (List ℕ)
  rows_made = table_rows (checked_rows records)

  -- its rows are those of the calls, then padding
  whole : WholeCalls gap (checked_rows records) cuts
  whole =
      subst (λ (l : List ℕ). WholeCalls gap l cuts) (sym (table_is gap g tries typed short))
      (subst
      (λ (r : List ℕ). copy_answer LIMIT r TABLE_ROOM ≡ Ok n
      → WholeCalls gap (take (COLUMNS * n) (copy_after r (Ok n) (replicate TABLE_ROOM 0))) cuts)
      (sym (tries_wrote gap tries typed))
      (λ m. written_calls gap LIMIT (lit≤ tt) cuts (tries_fit gap tries typed) (replicate TABLE_ROOM 0) n m g)
      (made gap g tries typed short))

  -- and are read back as the records
  read : read_ops (checked_rows records) ≡ records
  read = read_ops_lem gap g (checked_rows records) cuts whole ∙ sym (tries_wrote gap tries typed)

  live_many : length records / OP_WIDTH ≡ length (live_rows rows_made)
  unfolding read_ops numbers_read rows_read
  live_many = omega (arith, numbers_length false (checked_rows records), ap length read)

  pub live_lines : rows_text 0 (length records / OP_WIDTH) records ≡ row_lines 0 (live_rows rows_made)
  unfolding read_ops
  live_lines =
      ap (λ (m : ℕ). rows_text 0 m records) live_many
      ∙ ap (rows_text 0 (length (live_rows rows_made))) (sym read)
      ∙ lines_read 0 (live_rows rows_made)

  pub rows_many : row_count (length records / OP_WIDTH) ≡ length rows_made
  rows_many =
      ap row_count (sym (live_count gap g tries typed short))
      ∙ sym (table_rows_lem gap g tries typed short)
      ∙ ap (λ (l : List ℕ). length l / COLUMNS) (sym (table_is gap g tries typed short))
      ∙ sym (rows_count_lem (checked_rows records) whole.rows)

  pub live_front : take (length (live_rows rows_made)) rows_made ≡ live_rows rows_made
  live_front =
      ap (take (length (live_rows rows_made))) whole.last ∙ take_at (live_rows rows_made) whole.others (length (live_rows rows_made)) refl

pub live_rows_printed : LiveRowsPrinted
live_rows_printed input ops gap e g d =
    let h = lines_tried (under gap) 2 (lines (after 10 input)) start ops d in
    let tries = tries_of (under gap) h.calls start in
    let typed = tries_typed (under gap) h.calls start h.words (below_same 8 1024 0 (omega arith)) in
    let short = records_fit (under gap) h.calls start in
    let printed : rows_text 0 (length ops / OP_WIDTH) ops ++ passed_text (row_count (length ops / OP_WIDTH))
    ≡ row_lines 0 (live_rows (table_rows (checked_rows ops))) ++ passed_text (length (table_rows (checked_rows ops))) =
    subst
    (λ (l : List ℕ). rows_text 0 (length l / OP_WIDTH) l ++ passed_text (row_count (length l / OP_WIDTH))
    ≡ row_lines 0 (live_rows (table_rows (checked_rows l))) ++ passed_text (length (table_rows (checked_rows l))))
    (sym h.wrote)
    (ap₂ (λ (x : List ℕ) (m : ℕ). x ++ passed_text m) (live_lines gap g tries typed short) (rows_many gap g tries typed short)) in
    record {
      output = verdict_passes input ops gap e g d ∙ printed;
      in_front_lem =
          subst (λ (l : List ℕ). let rows = table_rows (checked_rows l) in take (length (live_rows rows)) rows ≡ live_rows rows) (sym h.wrote)
          (live_front gap g tries typed short);
    }
