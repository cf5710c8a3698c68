-- The lookups are those of the register table's rows: row j is made of record j of the register list, with its stamps in two columns, and
-- the laws of the lookups say of that record what its pair rebuilds. Assumes nothing.
use mathlib.Core.Path.{◌≡◌, refl, sym, ap, subst, ◌∙◌}
use mathlib.Core.List.{List}
use Prim.Native.Nat.{ℕ, ◌+◌, ◌*◌, ◌^◌, ◌≤◌, ◌<◌}
use Rattle.std.specs.Prelude.{Ok}
use native.Mathlib.Omega.{arith}
use lib.ListN.{length}
use Rattle.lists.specs.Lists.{at}
use Rattle.lists.proofs.All.{all_of}
use Rattle.lists.proofs.Store.{run_taken}
use Rattle.words.specs.Words.{low_word}
use Rattle.words.proofs.Bits.{one_of_two}
use Rattle.records.specs.Records.{record_count, record_at, first_bad}
use Rattle.records.proofs.RecordList.{joined_count}
use Rattle.records.proofs.RowCount.{row_count_least}
use Rattle.records.proofs.Table as tables
use Rattle.access.specs.RegisterRecord.{register_limits}
use Rattle.access.specs.Tables.{REGISTER_WIDTH}
use Rattle.access.specs.declared.AccessTable.TheVariants.{Register}
use Rattle.classify.specs.TableRecord.{register_record}
use Rattle.memw.specs.RegisterColumns.{TIMESTAMP, OLD_TIMESTAMP_LO, MU_READ, MU_WRITE}
use Rattle.memw.specs.Rows.{register_row, reg_row_of}
use Rattle.memw.specs.Tables.{row_width, good_record, record_row, table_padding, memw_answer, memw_after}
use Rattle.memw.specs.Inner.{memw_row_at}
use Rattle.memw.proofs.AccessTables.{row_wide, padding_wide, register_read, made_facts, made_good, row_of_record, row_of_none}
use Rattle.routing.specs.Routing.{Lists, rooms_of, routed, route_answer, lists_after}
use Rattle.routing.specs.InOrder.{records_to}
use Rattle.routing.specs.declared.split.Counts.{Counts}
use Rattle.routing.proofs.Arrival.{routed_in_order}
use Rattle.lookups.specs.Lookups.{lookup_answer, lookups_after}
use Rattle.lookups.specs.LookupLaws.{Rebuilds, pair_at, register_at, REGISTER_TIMESTAMP, REGISTER_OLD_LO, PairsBeside}
use Rattle.lookups.proofs.Computing as lookups
use Rattle.lookups.proofs.LookupLaws.{register_wide, lookup_laws}
use Rattle.lookup_rows.specs.LookupRows.{row_in, registers_in, RowsLookedUp, LookupRows, RowInstances}

-- what the row of a register record has in its columns
module _ (g : List ℕ) where
  low_stamp : at (register_row (reg_row_of g)) TIMESTAMP ≡ low_word (at g REGISTER_TIMESTAMP)
  unfolding register_row
  low_stamp = refl

  low_old_stamp : at (register_row (reg_row_of g)) OLD_TIMESTAMP_LO ≡ at g REGISTER_OLD_LO
  unfolding register_row
  low_old_stamp = refl

  multiplicity : at g 7 ≤ 1 → at (register_row (reg_row_of g)) MU_READ + at (register_row (reg_row_of g)) MU_WRITE ≡ 1
  unfolding register_row
  multiplicity h = one_of_two (at g 7) h

-- One list, through all three

-- the records that routing puts into the register list are as many as it says
registers_counted : (l : List ℕ) (before : Lists) (c : Counts) (most : ℕ) → route_answer most l (rooms_of before) ≡ routed c
    → record_count REGISTER_WIDTH (registers_in (lists_after l (routed c) before) c.register) ≡ c.register
registers_counted l before c most route =
    let order = routed_in_order most l before c route in
    ap (record_count REGISTER_WIDTH) (order.in_list Register)
    ∙ joined_count REGISTER_WIDTH (omega arith) register_record (records_to Register l) (all_of register_wide (records_to Register l))
    ∙ order.in_count Register

module _
    (limit : ℕ) (l lookups : List ℕ) (pairs : ℕ) (looked : lookup_answer limit l (length lookups) ≡ Ok pairs)
    (most : ℕ) (before : Lists) (c : Counts) (route : route_answer most l (rooms_of before) ≡ routed c)
    (many : ℕ) (table : List ℕ) (rows : ℕ) (few : many ≤ 2 ^ 63) where
  abbrev ls : Lists
  ls = lists_after l (routed c) before

  abbrev records : List ℕ
  records = registers_in ls c.register

  abbrev after : List ℕ
  after = memw_after Register records (Ok rows) table

  beside : PairsBeside (lookups_after l (Ok pairs) lookups) pairs ls c.register
  beside = lookup_laws.beside limit l lookups pairs looked most before c route

  -- as many records as pairs
  record_count_lem : record_count REGISTER_WIDTH records ≡ pairs
  record_count_lem = registers_counted l before c most route ∙ sym beside.counted

  module _ (made : memw_answer Register many records (length table) ≡ Ok rows) where
    abbrev facts : tables.MadeFacts many (row_width Register) (record_count REGISTER_WIDTH records) (first_bad REGISTER_WIDTH (good_record Register) records)
        (length table) rows
    facts = made_facts Register many records (length table) rows made

    -- row j is that of its record, which is the record that routing put there
    row_made : (j : ℕ) → j < rows → row_in after j ≡ memw_row_at Register records j
    unfolding memw_after
    row_made j h =
        tables.made_row (row_width Register) REGISTER_WIDTH (record_row Register) (table_padding Register) (row_wide Register) (padding_wide Register)
        records table rows j facts.fits h

    same_record : (j : ℕ) → j < pairs → record_at REGISTER_WIDTH records j ≡ register_at ls j
    same_record j h =
        run_taken REGISTER_WIDTH (REGISTER_WIDTH * j) (REGISTER_WIDTH * c.register) ls.register
        (omega (arith, beside.counted))

    covered : pairs ≤ rows
    covered = omega (arith, (row_count_least (record_count REGISTER_WIDTH records) (omega (arith, facts.allowed))).covers, facts.count, record_count_lem)

    row_of_lem : (j : ℕ) → j < pairs → row_in after j ≡ register_row (reg_row_of (register_at ls j))
    row_of_lem j h =
        row_made j (omega (arith, covered))
        ∙ row_of_record Register records j (omega (arith, record_count_lem))
        ∙ ap (λ (g : List ℕ). register_row (reg_row_of g)) (same_record j h)

    rows_looked_up : RowsLookedUp (lookups_after l (Ok pairs) lookups) pairs after rows
    rows_looked_up =
        record {
          within = covered;
          each = λ j h.
              let g = register_at ls j in
              subst (λ (row : List ℕ). Rebuilds (pair_at (lookups_after l (Ok pairs) lookups) j) (at row TIMESTAMP) (at row OLD_TIMESTAMP_LO))
              (sym (row_of_lem j h))
              (rw (low_stamp g, low_old_stamp g) (beside.each j h));
          live = λ j h.
              let g = register_at ls j in
              let good = made_good Register many records (length table) rows made j (omega (arith, record_count_lem)) in
              rw (row_of_lem j h) (multiplicity g (register_read g (rw (same_record j h) at good)));
          rest = λ j p h. row_made j h ∙ row_of_none Register records j (omega (arith, record_count_lem));
        }

pub lookup_rows : LookupRows
lookup_rows limit l lookups pairs looked most before c route many table rows few made =
    rows_looked_up limit l lookups pairs looked most before c route many table rows few made

pub row_instances : RowInstances
unfolding lookups.computing register_limits register_row memw_answer memw_after
row_instances = record { made = refl; first = refl; second = refl; third = refl; padding = refl }
