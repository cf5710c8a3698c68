-- The per-row half of demand 3: a row has no fault exactly if it is the row of the record read off it and that record meets the
-- conditions of its step. Both ways go through Plain. And that made rows and padding pass. Assumes nothing.
use mathlib.Core.Path.{◌≡◌, refl, sym, subst}
use mathlib.Core.List.{List}
use mathlib.Core.Logic.{◌↔◌, inr}
use Prim.Native.Nat.{ℕ, ◌^◌, ◌<◌}
use native.Mathlib.Omega.{arith}
use lib.Dec.{lit<, lit≤}
use lib.ListN.{length, replicate}
use Rattle.std.specs.Prelude.{Ok}
use Rattle.lists.specs.Lists.{at}
use Rattle.call.specs.Calls.{Op}
use Rattle.copy_row.specs.Columns.{MU, COLUMNS}
use Rattle.copy_row.specs.Rows.{row_of, table_row, padding_row}
use Rattle.copy_residues.specs.RowCheck.{row_fault}
use Rattle.copy_meaning.specs.Steps.{LiveStep, DeadStep, RowStep}
use Rattle.copy_meaning.specs.ReadRow.{op_at}
use Rattle.copy_meaning.specs.Plain.{Plain}
use Rattle.copy_meaning.specs.RowIff.{RowIff, InRange}
use Rattle.copy_meaning.proofs.Check.{fine_clean, clean_fine}
use Rattle.copy_meaning.proofs.Equations.{equations_of, residues_zero}
use Rattle.copy_meaning.proofs.PlainOfZero.{plain_of_zero}
use Rattle.copy_meaning.proofs.ZeroOfPlain.{zero_of_plain}
use Rattle.copy_meaning.proofs.RowOfPlain.{row_same, row_step}
use Rattle.copy_meaning.proofs.PlainOfRow.{plain_of_row, range_of_row}

-- no fault says: in range, and the plain facts; neither more nor less
pub plain_iff : (gap : ℕ) → gap < 2 ^ 32 → (row : List ℕ) → length row ≡ COLUMNS → (row_fault gap row ≡ Ok tt) ↔ (InRange row × Plain gap row)
plain_iff gap g row wide = (
  λ e.
      let q = fine_clean gap row e in
      (q.range, plain_of_zero gap row g q.range (equations_of gap row q.zeroes)),
  λ h.
      let z = residues_zero gap row (zero_of_plain gap row g h.0 h.1) in
      clean_fine gap row wide (record { range = h.0; zeroes = λ i l. z i }),
)

-- the row of a record that meets its step, live or dead
pub step_passes : (gap mu : ℕ) (o : Op) → gap < 2 ^ 32 → RowStep gap mu o → row_fault gap (row_of mu o) ≡ Ok tt
step_passes gap mu o g d =
    (plain_iff gap g (row_of mu o) (unfold row_of in refl)).1 (range_of_row gap mu o d, plain_of_row gap mu o d)

pub row_iff : RowIff
row_iff gap g row wide = (
  λ e.
      let h = (plain_iff gap g row wide).0 e in
      (row_same gap row wide h.0 h.1, row_step gap row wide h.0 h.1),
  λ h. subst (λ (r : List ℕ). row_fault gap r ≡ Ok tt) (sym h.0) (step_passes gap (at row MU) (op_at row) g h.1),
)

pub live_passes : (gap : ℕ) (o : Op) → gap < 2 ^ 32 → LiveStep gap o → row_fault gap (table_row o) ≡ Ok tt
live_passes gap o g l = step_passes gap 1 o g l

pub dead_passes : (gap : ℕ) (o : Op) → gap < 2 ^ 32 → DeadStep o → row_fault gap (row_of 0 o) ≡ Ok tt
dead_passes gap o g d = step_passes gap 0 o g d

-- Padding: a dead row of width 8 with 8 left

abbrev padding_op : Op
padding_op =
    record {
      call = record { kind = 0; stamp = 0; src = 0; dst = 0; count = 8 };
      piece = record { width = 8; value = replicate 8 0 };
      first = 0;
      end = 0;
    }

padding_row_lem : row_of 0 padding_op ≡ padding_row
unfolding row_of padding_row
padding_row_lem = refl

padding_step : DeadStep padding_op
padding_step =
    record {
      words = record { kind = lit≤ tt; stamp = lit< tt; src = lit< tt; dst = lit< tt; count = lit< tt };
      piece =
          record {
            wide = inr refl;
            eight = refl;
            bytes = omega arith;
            tail = λ e. absurd (omega arith);
          };
      kind = refl;
      first = refl;
      end = refl;
      enough = lit≤ tt;
    }

pub padding_passes : (gap : ℕ) → gap < 2 ^ 32 → row_fault gap padding_row ≡ Ok tt
padding_passes gap g = subst (λ (r : List ℕ). row_fault gap r ≡ Ok tt) padding_row_lem (dead_passes gap padding_op g padding_step)
