-- Every made row of the three access tables zeroes its residues: in a good record is_read is 0 or 1 and the width 1, 2, 4 or 8, so the
-- flags of its row are bits of which one is set, and each CARRY is a bit; padding is 0. Assumes nothing.
use mathlib.Core.Path.{◌≡◌, refl}
use mathlib.Core.Bool.{Bool, true, false, cond}
use mathlib.Core.Logic.{⊎_elim}
use mathlib.Core.List.{List, [], ◌∷◌, ◌++◌}
use Prim.Native.Nat.{ℕ, ◌+◌, ◌-◌, ◌%◌, ◌^◌, ◌≤◌, ◌<◌}
use native.Mathlib.Nat.{eq-or-lt_of_le}
use native.Mathlib.Omega.{arith}
use borrow.Author.Tests.{leb-true}
use lib.Dec.{eqb, leb, lit≤}
use lib.ListN.{drop, replicate, get_or-replicate, get_or-append}
use lib.Seq.{get_or-drop}
use Rattle.lists.specs.Lists.{at}
use Rattle.words.specs.Words.{bit}
use Rattle.field.specs.Field.{add_p, bit_p}
use Rattle.field.proofs.Laws.{bit_zero}
use Rattle.access.specs.Access.{Access, WIDTH, IS_READ, access_of, is_width}
use Rattle.access.proofs.Good.{by_width, good_width, good_read}
use Rattle.words.proofs.Bits.{bit_small, one_of_two}
use Rattle.memw.specs.MemwColumns as general
use Rattle.memw.specs.Rows.{carries, memw_row, aligned_row, register_row}
use Rattle.memw.specs.Tables.{good_record, record_row, table_padding}
use Rattle.access.specs.declared.AccessTable.{AccessTable}
use Rattle.access.specs.declared.AccessTable.TheVariants.{General, Aligned, Register}
use Rattle.memw.proofs.AccessTables.{register_read, every_row}
use Rattle.memw_residues.specs.Residues.{memw_flags, flag_residue, memw_residue, aligned_residue, register_residues, register_residue}
use Rattle.memw_residues.specs.Residues.{residue_count, table_residue}
use Rattle.memw_residues.specs.MadeRows.{MadeRowsZero}
use Rattle.memw_residues.specs.Residues.{FlagNumbers}
use Rattle.memw_residues.proofs.Zero.{all_zero, all_bits, sum_zero, FineFlags, flags_zero}

-- FlagNumbers

-- what holds of 0 and 1 holds of every bit
bits : (P : ℕ → Type 0) (n : ℕ) → n ≤ 1 → P 0 → P 1 → P n
bits P n h zero one = ⊎_elim (λ (e : n ≡ 1). rw e one) (λ (l : n < 1). let e : n ≡ 0 = omega arith in rw e zero) (eq-or-lt_of_le h)

-- the flags of an access
abbrev flags_of : ℕ → ℕ → FlagNumbers
flags_of width is_read =
    record {
      mu_read = is_read;
      mu_write = bit (eqb is_read 0);
      write2 = bit (eqb width 2);
      write4 = bit (eqb width 4);
      write8 = bit (eqb width 8);
    }

one_width : (w : ℕ) → is_width w ≡ true → bit (eqb w 2) + bit (eqb w 4) + bit (eqb w 8) ≤ 1
one_width w e = by_width (λ v. bit (eqb v 2) + bit (eqb v 4) + bit (eqb v 8) ≤ 1) w e (lit≤ tt) (lit≤ tt) (lit≤ tt) (lit≤ tt)

fine_flags : (width is_read : ℕ) → is_width width ≡ true → is_read ≤ 1 → FineFlags (flags_of width is_read)
fine_flags width is_read w r =
    let mu = one_of_two is_read r in
    let wide = one_width width w in
    record { one = omega arith; width = omega arith; access = omega arith }

-- The general table's rows

-- residues whose flags are fine and whose CARRY are bits
memw_zero : (row : List ℕ) → FineFlags (memw_flags row) → ((j : ℕ) → j < 7 → at row (general.CARRY + j) < 2) → (i : ℕ) → memw_residue row i ≡ 0
unfolding memw_residue
memw_zero row fine carry i = first (leb i 3)
  where
    second : (b : Bool) → leb i 10 ≡ b
        → cond b (bit_p (at row (general.CARRY + (i - 4)))) (flag_residue (memw_flags row) (i - 7)) ≡ 0
    second true e = bit_zero _ (carry (i - 4) (omega (arith, leb-true i 10 e)))
    second false e = flags_zero (memw_flags row) fine (i - 7)

    first : (b : Bool)
        → cond b (flag_residue (memw_flags row) i)
        (cond (leb i 10) (bit_p (at row (general.CARRY + (i - 4)))) (flag_residue (memw_flags row) (i - 7)))
        ≡ 0
    first true = flags_zero (memw_flags row) fine i
    first false = second (leb i 10) refl

carry_bit : (a : Access) (j : ℕ) → j < 7 → at (memw_row a) (general.CARRY + j) < 2
unfolding memw_row
carry_bit a j h =
    let low = a.address % 2 ^ 32 in
    rw (← get_or-drop general.CARRY (memw_row a) j 0)
    (rw (get_or-append (carries low) (drop (general.CARRY + 7) (memw_row a)) 0 j h)
    (all_bits (carries low) (
      bit_small (leb (2 ^ 32) (low + 1)),
      (
        bit_small (leb (2 ^ 32) (low + 2)),
        (
          bit_small (leb (2 ^ 32) (low + 3)),
          (
            bit_small (leb (2 ^ 32) (low + 4)),
            (bit_small (leb (2 ^ 32) (low + 5)), (bit_small (leb (2 ^ 32) (low + 6)), (bit_small (leb (2 ^ 32) (low + 7)), tt))),
          ),
        ),
      ),
    ) j h))

-- Rows of good records, and padding

row_zero : (t : AccessTable) (r : List ℕ) → good_record t r ≡ true → (i : ℕ) → i < residue_count t → table_residue t (record_row t r) i ≡ 0
unfolding memw_row aligned_row register_row aligned_residue register_residue
row_zero General r e i h =
    memw_zero (memw_row (access_of r)) (fine_flags (at r WIDTH) (at r IS_READ) (good_width r e) (good_read r e)) (carry_bit (access_of r)) i
row_zero Aligned r e i h = flags_zero _ (fine_flags (at r WIDTH) (at r IS_READ) (good_width r e) (good_read r e)) i
row_zero Register r e i h =
    bits (λ n. register_residue (replicate 8 0 ++ (n ∷ bit (eqb n 0) ∷ [])) i ≡ 0) (at r 7) (register_read r e)
    (all_zero (bit_p 0 ∷ bit_p 1 ∷ bit_p (add_p 0 1) ∷ []) (bit_zero 0 (omega arith), (bit_zero 1 (omega arith), (sum_zero 0 1 (omega arith), tt))) i)
    (all_zero (bit_p 1 ∷ bit_p 0 ∷ bit_p (add_p 1 0) ∷ []) (bit_zero 1 (omega arith), (bit_zero 0 (omega arith), (sum_zero 1 0 (omega arith), tt))) i)

no_flags : (f : FlagNumbers) → f ≡ record { mu_read = 0; mu_write = 0; write2 = 0; write4 = 0; write8 = 0 } → FineFlags f
no_flags f e = rw e (record { one = omega arith; width = omega arith; access = omega arith })

padding_zero : (t : AccessTable) (i : ℕ) → i < residue_count t → table_residue t (table_padding t) i ≡ 0
unfolding aligned_residue register_residue
padding_zero General i h =
    memw_zero (table_padding General) (no_flags _ refl)
    (λ j l. rw (get_or-replicate {A = ℕ} general.COLUMNS (general.CARRY + j) 0 0 (omega arith)) (omega arith)) i
padding_zero Aligned i h = flags_zero _ (no_flags _ refl) i
padding_zero Register i h =
    let zero = bit_zero 0 (omega arith) in
    all_zero (register_residues (table_padding Register)) (zero, (zero, (sum_zero 0 0 (omega arith), tt))) i

pub made_rows_zero : MadeRowsZero
unfolding MadeRowsZero
made_rows_zero t limit records table rows made =
    every_row t (λ row. (i : ℕ) → i < residue_count t → table_residue t row i ≡ 0) limit records table rows (row_zero t) (padding_zero t) made
