-- Laws of the three access tables, from those of all tables: how wide their records and rows are, what a made table says of its records,
-- and what the loop needs that writes the rows. Assumes nothing.
use mathlib.Core.Path.{◌≡◌, refl}
use mathlib.Core.Bool.{true}
use mathlib.Core.List.{List, ◌++◌}
use Prim.Native.Nat.{ℕ, zero, suc, ◌+◌, ◌-◌, ◌*◌, ◌≤◌, ◌<◌}
use native.Mathlib.Omega.{arith}
use lib.Dec.{lit≤}
use lib.ListN.{length, take, drop}
use Rattle.lists.specs.Lists.{at}
use Rattle.lists.proofs.Store.{store_none}
use Rattle.lists.proofs.Flat.{flat_none}
use Rattle.records.specs.Records.{record_count, record_at, first_bad}
use Rattle.records.specs.Table.{table_after}
use Rattle.records.specs.Table.{TableAnswer}
use Rattle.std.specs.Prelude.{Ok}
use Rattle.records.proofs.Records.{all_good, record_whole, within_length, within_at}
use Rattle.records.proofs.Table as tables
use Rattle.access.specs.Access.{access_of}
use Rattle.access.proofs.Good.{good_length}
use Rattle.memw.specs.Rows.{reg_row_of}
use Rattle.memw.proofs.Wide.{memw_wide, aligned_wide, register_wide}
use Rattle.access.specs.RegisterRecord.{register_limits, good_register}
use Rattle.access.specs.Tables.{record_width}
use Rattle.kinds.specs.Inner.{kind_answer}
use Rattle.memw.specs.Tables.{row_width, good_record, record_row, table_padding, memw_answer, memw_after}
use Rattle.memw.specs.Inner.{record_kind}
use Rattle.memw.specs.Inner.{memw_row_at}
use Rattle.access.specs.declared.AccessTable.{AccessTable}
use Rattle.access.specs.declared.AccessTable.TheVariants.{General, Aligned, Register}

-- Widths

pub record_width_bounds : (t : AccessTable) → (0 < record_width t) × (record_width t ≤ 64)
record_width_bounds General = (lit≤ tt, lit≤ tt)
record_width_bounds Aligned = (lit≤ tt, lit≤ tt)
record_width_bounds Register = (lit≤ tt, lit≤ tt)

pub row_width_bound : (t : AccessTable) → row_width t ≤ 64
row_width_bound General = lit≤ tt
row_width_bound Aligned = lit≤ tt
row_width_bound Register = lit≤ tt

pub row_wide : (t : AccessTable) (r : List ℕ) → length (record_row t r) ≡ row_width t
row_wide General r = memw_wide (access_of r)
row_wide Aligned r = aligned_wide (access_of r)
row_wide Register r = register_wide (reg_row_of r)

pub padding_wide : (t : AccessTable) → length (table_padding t) ≡ row_width t
padding_wide General = refl
padding_wide Aligned = refl
padding_wide Register = refl

-- Good records

-- a good register record is a read or a write
pub register_read : (r : List ℕ) → good_register r ≡ true → at r 7 ≤ 1
unfolding register_limits
register_read r e = within_at register_limits r e 7 (lit≤ tt)

-- a good record is whole
pub good_whole : (t : AccessTable) (r : List ℕ) → good_record t r ≡ true → length r ≡ record_width t
unfolding register_limits
good_whole General r e = good_length r e
good_whole Aligned r e = good_length r e
good_whole Register r e = within_length register_limits r e

-- The answer is that of the records' kind

pub answer_of_kind : (t : AccessTable) (limit : ℕ) (records : List ℕ) (room : ℕ)
    → kind_answer (record_kind t) limit (row_width t) records room ≡ memw_answer t limit records room
unfolding memw_answer
answer_of_kind General limit records room = refl
answer_of_kind Aligned limit records room = refl
answer_of_kind Register limit records room = refl

-- What a made table says of its records

module _ (t : AccessTable) (limit : ℕ) (records : List ℕ) (room rows : ℕ) (made : memw_answer t limit records room ≡ Ok rows) where
  pub made_facts : tables.MadeFacts limit (row_width t) (record_count (record_width t) records) (first_bad (record_width t) (good_record t) records) room rows
  unfolding memw_answer
  made_facts = tables.made_facts _ _ _ _ _ rows made

  -- each record is good
  pub made_good : (k : ℕ) → k < record_count (record_width t) records → good_record t (record_at (record_width t) records k) ≡ true
  made_good = all_good (record_width t) (good_record t) records made_facts.fine

  -- and the last one is whole
  pub made_whole : record_width t * record_count (record_width t) records ≤ length records
  made_whole = step (record_count (record_width t) records) refl
    where
      step : (n : ℕ) → record_count (record_width t) records ≡ n → record_width t * n ≤ length records
      step zero e = omega arith
      step (suc m) e =
          omega (arith, record_whole (record_width t) records m (record_width_bounds t).0 (good_whole t _ (made_good m (omega arith))))

-- The rows

module _ (t : AccessTable) (records : List ℕ) where
  -- a loop that writes the rows: no row at first, then one more
  pub no_rows : (table : List ℕ) → memw_after t records (Ok 0) table ≡ table
  unfolding memw_after table_after
  no_rows table = rw (flat_none, store_none)

  pub next_row : (table now written : List ℕ) (k : ℕ) → now ≡ memw_after t records (Ok k) table → written ≡ memw_row_at t records k
      → row_width t * k + row_width t ≤ length table
      → take (row_width t * k) now ++ (written ++ drop (row_width t * k + row_width t - row_width t * k) (drop (row_width t * k) now))
      ≡ memw_after t records (Ok (k + 1)) table
  unfolding memw_after table_after
  next_row table now written k q e fits =
      tables.rows_more (row_width t) (record_width t) (record_row t) (table_padding t) (row_wide t) (padding_wide t) records table now written k q e fits

  -- the lent table keeps its length
  pub after_length : (answer : TableAnswer) (table : List ℕ) → length (memw_after t records answer table) ≡ length table
  unfolding memw_after
  after_length answer table = tables.after_length (record_width t) (record_row t) (table_padding t) records answer table

  -- row k is that of record k, and padding after the last record
  pub row_of_record : (k : ℕ) → k < record_count (record_width t) records → memw_row_at t records k ≡ record_row t (record_at (record_width t) records k)
  row_of_record k h = tables.row_record (record_width t) (record_row t) (table_padding t) records k h

  pub row_of_none : (k : ℕ) → record_count (record_width t) records ≤ k → memw_row_at t records k ≡ table_padding t
  row_of_none k h = tables.row_padding (record_width t) (record_row t) (table_padding t) records k h

-- what the row of each good record has, and padding, every row of a made table has
pub every_row : (t : AccessTable) (P : List ℕ → Type 0) (limit : ℕ) (records table : List ℕ) (rows : ℕ)
    → ((r : List ℕ) → good_record t r ≡ true → P (record_row t r)) → P (table_padding t)
    → memw_answer t limit records (length table) ≡ Ok rows → (k : ℕ) → k < rows
    → P (record_at (row_width t) (memw_after t records (Ok rows) table) k)
unfolding memw_answer memw_after
every_row t P limit records table rows each pads made k h =
    tables.every_row (row_width t) (record_width t) (record_row t) (table_padding t) (row_wide t) (padding_wide t) records P (good_record t) limit rows
    table each pads made k h
