-- The copy table made of the operation records of cut calls that fit: row k is the table row of record k, padding follows, and a padding
-- row is dead with nothing wrong. So the rows written are whole calls: those that the table was made of. Assumes nothing.
use mathlib.Core.Path.{◌≡◌, refl, ap, ap₂, ◌∙◌}
use mathlib.Core.Bool.{Bool, cond}
use mathlib.Core.List.{List, [], ◌∷◌, ◌++◌, map, flat_map}
use mathlib.Core.Option.{none}
use Prim.Native.Nat.{ℕ, zero, suc, ◌-◌, ◌*◌, ◌^◌, ◌≤◌, ◌<◌, ◌+◌}
use native.Mathlib.Omega.{arith}
use lib.Dec.{ltb, leb-suc-suc}
use lib.ListN.{length, take, replicate, length-append}
use Rattle.std.specs.Prelude.{Ok}
use lib.Seq.{take_at, length-take-le}
use Rattle.lists.specs.Lists.{All, listed}
use Rattle.lists.proofs.All.{all_replicate}
use Rattle.lists.proofs.Store.{run_taken}
use Rattle.lists.proofs.Flat.{row_within}
use Rattle.lists.proofs.Listed.{listed_same}
use Rattle.records.specs.Records.{record_count, record_at, first_bad, records_in}
use Rattle.records.specs.Table.{row_at}
use Rattle.records.proofs.Records.{record_count_lem}
use Rattle.records.proofs.RowCount.{row_count_covers}
use Rattle.records.proofs.Table.{MadeFacts}
use Rattle.records.proofs.RecordList.{record_shift, count_shift}
use Rattle.call.specs.Calls.{Op}
use Rattle.call.specs.Ops.{op_record, OP_WIDTH, good_op}
use Rattle.call.specs.Cuts.{CutCall, ops_of, Fits}
use Rattle.call.proofs.Ops.{op_of_record}
use Rattle.copy_row.specs.Columns.{COLUMNS}
use Rattle.copy_row.specs.Rows.{table_row, padding_row}
use Rattle.copy_row.specs.Trace.{copy_row, copy_answer, copy_after}
use Rattle.copy_row.proofs.CopyTable.{copy_row_at, made_facts, made_row, after_length, row_of_record, row_of_none}
use Rattle.copy_meaning.specs.Steps.{LiveStep}
use Rattle.copy_meaning.proofs.RowIff.{padding_passes}
use Rattle.call_chain.proofs.Chained.{chain}
use Rattle.chain.specs.Chain.{table_rows}
use Rattle.whole_calls.specs.Demand.{DeadRow, WholeCalls}
use Rattle.whole_calls.proofs.LiveRows.{steps}
use Rattle.whole_calls.proofs.Halves.{dead_row_lem, whole_calls}
use Rattle.whole_calls.proofs.GoodRecords.{records_wide, records_count_lem}

-- Rows of the table

-- with one more record in front, each row stands one later
row_shift : (r l : List ℕ) (k : ℕ) → length r ≡ OP_WIDTH → copy_row_at (r ++ l) (suc k) ≡ copy_row_at l k
unfolding row_at
row_shift r l k wide =
    let count = count_shift OP_WIDTH r l (omega arith) wide in
    ap₂
    (λ (t : Bool) (x : List ℕ). cond t (copy_row x) padding_row)
    (ap (ltb (suc k)) count ∙ leb-suc-suc (suc k) (record_count OP_WIDTH l))
    (record_shift OP_WIDTH r l k wide)

-- no record at all
listed_padding : (rows k : ℕ) → listed (copy_row_at []) k rows ≡ replicate rows padding_row
unfolding listed
listed_padding zero k = refl
listed_padding (suc rows) k = λ i. row_of_none [] k (omega arith) i ∷ listed_padding rows (k + 1) i

module _ (gap : ℕ) where
  -- the row of the first record
  head_row : (o : Op) (l : List ℕ) → LiveStep gap o → length (op_record o) ≡ OP_WIDTH → copy_row_at (op_record o ++ l) 0 ≡ table_row o
  head_row o l s wide =
      row_of_record (op_record o ++ l) 0 (omega (arith, length-append (op_record o) l))
      ∙ ap copy_row (take_at (op_record o) l OP_WIDTH wide)
      ∙ ap table_row (op_of_record o s.piece.eight)

  -- the rows of the records, then padding
  listed_rows : (os : List Op) (rows : ℕ) → All (LiveStep gap) os → length os ≤ rows
      → listed (copy_row_at (flat_map op_record os)) 0 rows ≡ map table_row os ++ replicate (rows - length os) padding_row
  unfolding listed flat_map
  listed_rows [] rows s h = let all : rows ≡ rows - 0 = omega arith in listed_padding rows 0 ∙ ap (λ n. replicate n padding_row) all
  listed_rows (o ∷ os) zero s h = absurd (omega arith)
  listed_rows (o ∷ os) (suc rows) s h =
      let wide = (records_wide gap (o ∷ os) s).0 in
      let head = head_row o (flat_map op_record os) s.0 wide in
      let behind = copy_row_at (flat_map op_record os) in
      let all = copy_row_at (op_record o ++ flat_map op_record os) in
      let tail =
      listed_same all behind 1 0 rows (λ k _. ap all (one k) ∙ row_shift (op_record o) (flat_map op_record os) k wide ∙ ap behind (none k))
      ∙ listed_rows os rows s.1 (omega arith) in
      let left : rows - length os ≡ suc rows - length (o ∷ os) = omega arith in
      (λ i. head i ∷ tail i) ∙ ap (λ n. table_row o ∷ map table_row os ++ replicate n padding_row) left
    where
      one : (k : ℕ) → 1 + k ≡ suc k
      one k = omega arith

      none : (k : ℕ) → k ≡ 0 + k
      none k = omega arith

-- Padding

padding_dead : (gap : ℕ) → gap < 2 ^ 32 → (n : ℕ) → All (DeadRow gap) (replicate n padding_row)
unfolding padding_row
padding_dead gap g n = all_replicate (DeadRow gap) n padding_row (dead_row_lem gap g padding_row refl (padding_passes gap g) refl)

-- The rows written: the maker takes `limit` records, and answers `Ok rows`

module _ (gap limit : ℕ) (small : limit ≤ 2 ^ 63) (ks : List CutCall) (fits : All (Fits gap) ks) (table : List ℕ) (rows : ℕ)
    (made : copy_answer limit (flat_map op_record (ops_of ks)) (length table) ≡ Ok rows) where
  abbrev records : List ℕ
  records = flat_map op_record (ops_of ks)

  abbrev written : List ℕ
  written = take (COLUMNS * rows) (copy_after records (Ok rows) table)

  live : All (LiveStep gap) (ops_of ks)
  live = steps gap none (ops_of ks) (chain gap ks fits)

  facts : MadeFacts limit COLUMNS (record_count OP_WIDTH records) (first_bad OP_WIDTH good_op records) (length table) rows
  facts = made_facts limit records (length table) rows made

  covers : length (ops_of ks) ≤ rows
  covers =
      let most : record_count OP_WIDTH records ≤ 2 ^ 63 = omega (arith, facts.allowed) in
      omega (arith, records_count_lem gap (ops_of ks) live, facts.count, row_count_covers (record_count OP_WIDTH records) most)

  written_length : length written ≡ COLUMNS * rows
  written_length =
      length-take-le (COLUMNS * rows) (copy_after records (Ok rows) table) (omega (arith, facts.fits, after_length records (Ok rows) table))

  written_row : (k : ℕ) → k < rows → record_at COLUMNS written k ≡ copy_row_at records k
  written_row k h =
      run_taken COLUMNS (COLUMNS * k) (COLUMNS * rows) (copy_after records (Ok rows) table) (row_within COLUMNS k rows h)
      ∙ made_row records table rows k facts.fits h

  written_rows : table_rows written ≡ map table_row (ops_of ks) ++ replicate (rows - length (ops_of ks)) padding_row
  unfolding records_in
  written_rows =
      ap (listed (record_at COLUMNS written) 0) (record_count_lem COLUMNS rows written (omega arith) written_length)
      ∙ listed_same (record_at COLUMNS written) (copy_row_at records) 0 0 rows (λ k h. written_row (0 + k) (omega arith))
      ∙ listed_rows gap (ops_of ks) rows live covers

  -- the rows written are those of these calls, then padding
  pub written_calls : gap < 2 ^ 32 → WholeCalls gap written ks
  written_calls g =
      whole_calls gap g written (omega (arith, written_length)) ks fits (replicate (rows - length (ops_of ks)) padding_row)
      (padding_dead gap g (rows - length (ops_of ks)))
      written_rows
