-- The two halves, and what is made of them. Assumes nothing.
use mathlib.Core.Path.{◌≡◌}
use mathlib.Core.List.{List, ◌++◌, map}
use Prim.Native.Nat.{ℕ, ◌%◌, ◌/◌, ◌^◌, ◌<◌}
use lib.ListN.{length}
use Rattle.std.specs.Prelude.{Ok}
use Rattle.lists.specs.Lists.{All, at}
use Rattle.call.specs.Cuts.{CutCall, ops_of, Fits}
use Rattle.copy_row.specs.Columns.{MU, COLUMNS}
use Rattle.copy_row.specs.Rows.{table_row}
use Rattle.copy_residues.specs.RowCheck.{row_fault}
use Rattle.copy_meaning.proofs.Check.{fine_clean, clean_fine}
use Rattle.copy_meaning.proofs.RowIff.{row_iff}
use Rattle.chain.specs.Chain.{table_rows, chain_answer}
use Rattle.chain.proofs.Passed.{passing, passing_answer}
use Rattle.whole_calls.specs.Demand.{Passes, DeadRow, WholeCalls}
use Rattle.whole_calls.specs.Halves.{RowHalf, ChainProperty, Halves}
use Rattle.whole_calls.proofs.BothHalves.{both_halves}
use Rattle.whole_calls.proofs.FromHalves as from
use Rattle.whole_calls.proofs.LinkHalf.{link_half}
use Rattle.whole_calls.proofs.LiveRows.{Still}

row_half : RowHalf
row_half =
    record {
      judges =
          λ gap row wide. (
            λ e. let clean = fine_clean gap row e in (clean.range, clean.zeroes),
            λ clean. clean_fine gap row wide (record { range = clean.0; zeroes = clean.1 }),
          );
      says = row_iff;
    }

pub chain_property : ChainProperty
chain_property = from.from_halves row_half link_half

pub halves : Halves
halves = record { row_half = row_half; link_half = link_half; both = both_halves; property = from.from_halves }

-- What the rest of demand 3 takes from them

pub counts : (gap : ℕ) (l : List ℕ) → Passes gap l → chain_answer gap l ≡ Ok (length l / COLUMNS)
counts gap l e = passing_answer gap l (passing gap l e)

module _ (gap : ℕ) (g : gap < 2 ^ 32) where
  pub dead_row_lem : (row : List ℕ) → length row ≡ COLUMNS → row_fault gap row ≡ Ok tt → at row MU ≡ 0 → DeadRow gap row
  dead_row_lem row wide fine = from.dead_row_lem row_half gap g row (record { wide = wide; fine = fine })

  pub all_still : (rows : List (List ℕ)) → All (DeadRow gap) rows → All Still rows
  all_still = from.all_still row_half gap g

  pub whole_calls : (l : List ℕ) → length l % COLUMNS ≡ 0 → (ks : List CutCall) → All (Fits gap) ks → (others : List (List ℕ))
      → All (DeadRow gap) others → table_rows l ≡ map table_row (ops_of ks) ++ others → WholeCalls gap l ks
  whole_calls = from.whole_calls row_half gap g

  module _ (l : List ℕ) (ks : List CutCall) (w : WholeCalls gap l ks) where
    pub calls_rows : table_rows l ≡ map table_row (ops_of ks) ++ w.others
    calls_rows = from.calls_rows row_half gap g l ks w

    pub calls_passes : Passes gap l
    calls_passes = (chain_property gap g l).1 (ks, w)

    pub calls_pass : chain_answer gap l ≡ Ok (length l / COLUMNS)
    calls_pass = counts gap l calls_passes
