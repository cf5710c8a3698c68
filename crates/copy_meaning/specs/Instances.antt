-- Small rows, so that nothing in RowIff is empty: rows of each kind that pass, an empty call's, dead ones, and rows that break one
-- condition each. Computed over the definitions; the gap is 8. Assumes nothing.
use Rattle.std.specs.Prelude.{◌≡◌, ◌∷◌, ℕ, ◌-◌, ◌^◌, set, replicate, Result, Ok, Err}
use Rattle.field.specs.Field.{p}
use Rattle.call.specs.Calls.{Op}
use Rattle.copy_row.specs.Columns.{SRC_INCR, MU}
use Rattle.copy_row.specs.Rows.{row_of, table_row, padding_row}
use Rattle.copy_residues.specs.RowCheck.{row_fault}
use Rattle.copy_residues.specs.declared.faults.RowCheckRefusal.{RowCheckRefusal}
use Rattle.copy_residues.specs.declared.faults.RowCheckRefusal.TheVariants.{NotElement, OutOfRange, NotZero}

-- an operation record of one value byte and seven zeroes
abbrev pub op : (kind src dst count width first end : ℕ) → Op
op kind src dst count width first end =
    record {
      call = record { kind = kind; stamp = 4; src = src; dst = dst; count = count };
      piece = record { width = width; value = 5 ∷ replicate 7 0 };
      first = first;
      end = end;
    }

-- what is found in its row, live or dead
abbrev pub live : Op → Result (Unit {0}) RowCheckRefusal
live o = row_fault 8 (table_row o)

abbrev pub dead : Op → Result (Unit {0}) RowCheckRefusal
dead o = row_fault 8 (row_of 0 o)

pub record Instances : Type 0 where
  -- the two rows of a Copy of nine bytes, a Set, and a Write past 2^40
  pub copy : live (op 0 0 16 9 8 1 0) ≡ Ok tt
  pub copy_last : live (op 0 8 24 1 1 0 1) ≡ Ok tt
  pub set_all : live (op 1 100 108 8 8 1 1) ≡ Ok tt
  pub write_some : live (op 2 3 (2 ^ 40) 20 8 1 0) ≡ Ok tt
  -- an empty call's row, of width 8 and of width 1, whose increments wrap
  pub empty_wide : live (op 0 (2 ^ 64 - 1) (2 ^ 64 - 1) 0 8 1 1) ≡ Ok tt
  pub empty_narrow : live (op 2 0 0 0 1 1 1) ≡ Ok tt
  -- padding, and dead rows that are not padding: the starred one, and one of width 1 whose increments wrap
  pub padding : row_fault 8 padding_row ≡ Ok tt
  pub dead_wide : dead (op 0 5 0 8 8 0 0) ≡ Ok tt
  pub dead_narrow : dead (op 0 (2 ^ 64 - 1) (2 ^ 64 - 1) 70 1 0 0) ≡ Ok tt
  -- src, dst past 2^64 in a live row with a count; another gap; a count below the width; a last row with more to come
  pub src_wraps : live (op 0 (2 ^ 64 - 8) 0 8 8 1 1) ≡ Err (NotZero 37)
  pub dst_wraps : live (op 0 0 (2 ^ 64 - 8) 8 8 1 1) ≡ Err (NotZero 38)
  pub wrong_gap : live (op 1 100 107 8 8 1 1) ≡ Err (NotZero 20)
  pub too_few : live (op 0 0 16 4 8 1 1) ≡ Err (NotZero 30)
  pub not_last : live (op 0 0 16 9 8 1 1) ≡ Err (NotZero 33)
  -- an empty row that does not open its call, a dead row that is empty, or that has a mark or a kind
  pub empty_later : live (op 0 0 16 0 1 0 1) ≡ Err (NotZero 29)
  pub dead_empty : dead (op 0 0 16 0 1 0 0) ≡ Err (NotZero 29)
  pub dead_first : dead (op 0 0 16 9 8 1 0) ≡ Err (NotZero 6)
  pub dead_kind : dead (op 2 0 16 9 8 0 0) ≡ Err (NotZero 8)
  -- MU neither 0 nor 1, a half carried as 65,537, and p
  pub mu_two : row_fault 8 (row_of 2 (op 0 0 16 9 8 1 0)) ≡ Err (NotZero 3)
  pub half_out : row_fault 8 (set (table_row (op 0 0 16 9 8 1 0)) SRC_INCR 65537) ≡ Err OutOfRange
  pub no_element : row_fault 8 (set (table_row (op 0 0 16 9 8 1 0)) MU p) ≡ Err NotElement
