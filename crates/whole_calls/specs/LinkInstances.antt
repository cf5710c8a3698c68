-- Lists of rows that each pass alone, broken at one part of the link each: what the link check refuses and the row check cannot see. The
-- gap is 8. Assumes nothing.
use Rattle.std.specs.Prelude.{◌≡◌, List, ◌++◌, ℕ, Ok, Err}
use Rattle.call.specs.Instances.{wide, narrow}
use Rattle.copy_row.specs.Rows.{table_row, padding_row}
use Rattle.copy_residues.specs.RowCheck.{row_fault}
use Rattle.chain.specs.Chain.{chain_answer}
use Rattle.chain.specs.declared.ChainRefusal.TheVariants.{Link}
use Rattle.chain.specs.declared.LinkRefusal.TheVariants.{Broken, NotEnded}

-- the first row of a Copy of nine bytes, from 0 to 8
abbrev pub opening : List ℕ
opening = table_row (record { call = record { kind = 0; stamp = 4; src = 0; dst = 8; count = 9 }; piece = wide 5; first = 1; end = 0 })

-- a row of one byte with END
abbrev pub byte_row : (first kind stamp src dst : ℕ) → List ℕ
byte_row first kind stamp src dst =
    table_row (record { call = record { kind = kind; stamp = stamp; src = src; dst = dst; count = 1 }; piece = narrow 6; first = first; end = 1 })

-- the row that goes on with it, and one that does but for COUNT
abbrev pub second : List ℕ
second = byte_row 0 0 4 8 16

abbrev pub eight_more : List ℕ
eight_more = table_row (record { call = record { kind = 0; stamp = 4; src = 8; dst = 16; count = 8 }; piece = wide 6; first = 0; end = 1 })

-- a row that passes alone and may not follow this one
pub record Breaks (previous row : List ℕ) : Type 0 where
  pub before : row_fault 8 previous ≡ Ok tt
  pub alone : row_fault 8 row ≡ Ok tt
  pub refused : chain_answer 8 (previous ++ row) ≡ Err (Link 1 Broken)

pub record LinkInstances : Type 0 where
  pub linked : chain_answer 8 (opening ++ second) ≡ Ok 2
  -- each part of the link in turn: FIRST, the timestamp, IS_SET, IS_WRITE, SRC, DST, COUNT
  pub first : Breaks opening (byte_row 1 0 4 8 16)
  pub stamp : Breaks opening (byte_row 0 0 5 8 16)
  pub is_set : Breaks opening (byte_row 0 1 4 8 16)
  pub is_write : Breaks opening (byte_row 0 2 4 8 16)
  pub src : Breaks opening (byte_row 0 0 4 9 16)
  pub dst : Breaks opening (byte_row 0 0 4 8 17)
  pub count : Breaks opening eight_more
  -- no FIRST after END, a dead row after a live one without END, a live row after a dead one
  pub after_end : Breaks (byte_row 1 0 4 7 15) second
  pub dead_after_live : Breaks opening padding_row
  pub live_after_dead : Breaks padding_row (byte_row 1 0 4 8 16)
  -- no FIRST at the top of the list, and no END at its end
  pub top : chain_answer 8 second ≡ Err (Link 0 Broken)
  pub end : chain_answer 8 opening ≡ Err (Link 1 NotEnded)
