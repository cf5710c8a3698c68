-- How wide the rows are: 49, 29 and 10 numbers, whatever the record. Assumes nothing.
use mathlib.Core.Path.{◌≡◌, refl}
use lib.ListN.{length}
use Rattle.access.specs.Access.{Access}
use Rattle.memw.specs.MemwColumns as general
use Rattle.memw.specs.AlignedColumns as aligned
use Rattle.memw.specs.RegisterColumns as register
use Rattle.memw.specs.Rows.{memw_row, aligned_row, register_row}
use Rattle.memw.specs.declared.RegRow.{RegRow}

pub memw_wide : (a : Access) → length (memw_row a) ≡ general.COLUMNS
unfolding memw_row
memw_wide a = refl

pub aligned_wide : (a : Access) → length (aligned_row a) ≡ aligned.COLUMNS
unfolding aligned_row
aligned_wide a = refl

pub register_wide : (r : RegRow) → length (register_row r) ≡ register.COLUMNS
unfolding register_row
register_wide r = refl
