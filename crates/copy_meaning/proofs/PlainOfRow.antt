-- The row of a record that meets the conditions of its step says what Plain says: its columns are read back as the record's numbers, of
-- which the conditions speak. Assumes nothing.
use mathlib.Core.Path.{◌≡◌, refl, sym, ap, ◌∙◌}
use mathlib.Core.Bool.{cond, not, ◌&&◌}
use mathlib.Core.List.{List}
use Prim.Native.Nat.{ℕ, ◌+◌, ◌-◌, ◌*◌, ◌≤◌, ◌<◌}
use native.Mathlib.Omega.{arith}
use lib.Dec.{eqb, lit≤}
use lib.ListN.{get_or, take, drop, replicate, get_or-replicate}
use lib.Seq.{get_or-take, get_or-drop}
use Rattle.lists.specs.Lists.{at}
use Rattle.lists.proofs.Numbers.{eight_back}
use Rattle.words.specs.Words.{wrap_add, bit}
use Rattle.words.proofs.Bits.{bit_small}
use Rattle.field.specs.Field.{p}
use Rattle.call.specs.Calls.{Op}
use Rattle.copy_row.specs.Columns.{VALUE, SRC, DST, COUNT, SINGLE, IS_SET, IS_WRITE, FIRST_WRITE, MU_COM, MU_COM_WIDE, COLUMNS}
use Rattle.copy_row.specs.Rows.{dst_res, mu_com, row_of}
use Rattle.copy_residues.specs.Range.{column_limits}
use Rattle.copy_meaning.specs.Steps.{RowStep}
use Rattle.copy_meaning.specs.ReadRow.{words_at, width_at}
use Rattle.copy_meaning.specs.Inner.{empty_at}
use Rattle.copy_meaning.specs.RowIff.{InRange}
use Rattle.copy_meaning.proofs.ReadBack.{mu_back, first_back, end_back, src_back, dst_back, count_back, src_incr_back, dst_incr_back}
use Rattle.copy_meaning.proofs.ReadBack.{count_decr_back, dst_res_back, kind_read, width_read}
use Rattle.copy_meaning.specs.Plain.{Plain}
use Rattle.copy_meaning.proofs.Flags.{first_write_test, res_test, mu_com_test, wide_test}
use Rattle.copy_meaning.proofs.StepFacts.{StepFacts, width_bounds, facts_of_step}
use Rattle.copy_meaning.proofs.Decrement.{decr_back}
use Rattle.copy_meaning.proofs.MadeRange.{limits_to, made_below}

-- On numbers

one_kind : (a w : ℕ) → a < 2 → w < 2 → a + 2 * w ≤ 2 → a + w < 2
one_kind a w ha hw h = omega arith

-- columns 3 to 9 of a row are zeroes
pub tail_at : (row : List ℕ) → take 7 (drop 3 row) ≡ replicate 7 0 → (c : ℕ) → VALUE < c → c < SRC → at row c ≡ 0
tail_at row e c low high =
    let column : c ≡ 3 + (c - 3) = omega arith in
    ap (at row) column
    ∙ sym (get_or-drop 3 row (c - 3) 0)
    ∙ sym (get_or-take 7 (drop 3 row) (c - 3) 0 (omega arith))
    ∙ ap (λ l. get_or l (c - 3) 0) e
    ∙ get_or-replicate 7 (c - 3) 0 0 (omega arith)

module _ (gap mu : ℕ) (o : Op) (f : StepFacts gap mu o) where
  abbrev row : List ℕ
  row = row_of mu o

  -- The columns

  single_bit : at row SINGLE < 2
  unfolding row_of
  single_bit = bit_small (eqb o.piece.width 1)

  set_bit : at row IS_SET < 2
  unfolding row_of
  set_bit = bit_small (eqb o.call.kind 1)

  write_bit : at row IS_WRITE < 2
  unfolding row_of
  write_bit = bit_small (eqb o.call.kind 2)

  first_write_is : at row FIRST_WRITE ≡ cond (eqb o.call.kind 2) o.first 0
  unfolding row_of
  first_write_is = refl

  mu_com_is_lem : at row MU_COM ≡ bit (mu_com o.call)
  unfolding row_of
  mu_com_is_lem = refl

  mu_com_wide_is_lem : at row MU_COM_WIDE ≡ bit (mu_com o.call && eqb o.piece.width 8)
  unfolding row_of
  mu_com_wide_is_lem = refl

  tail_is : o.piece.width ≡ 1 → take 7 (drop 3 row) ≡ replicate 7 0
  unfolding row_of
  tail_is e = ap (drop 1) (eight_back o.piece.value f.piece.eight) ∙ f.piece.tail e

  -- The numbers

  kind_is : at row IS_SET + 2 * at row IS_WRITE ≡ o.call.kind
  kind_is = kind_read mu o f.words

  width_is : width_at row ≡ o.piece.width
  width_is = width_read mu o f.words f.piece

  src_is : words_at row SRC ≡ o.call.src
  src_is = src_back mu o f.words.src

  dst_is : words_at row DST ≡ o.call.dst
  dst_is = dst_back mu o f.words.dst

  count_is : words_at row COUNT ≡ o.call.count
  count_is = count_back mu o f.words.count

  empty_is : empty_at row ≡ 1 - o.call.count
  empty_is = ap (λ n. 1 - n) count_is

  one : at row IS_SET + at row IS_WRITE < 2
  one = one_kind (at row IS_SET) (at row IS_WRITE) set_bit write_bit (omega (arith, kind_is, f.words.kind))

  -- DST_RES by the bits
  res_is : dst_res o.call ≡ wrap_add o.call.dst (o.call.count * at row IS_WRITE)
  res_is =
      sym
      (res_test (at row IS_SET) (at row IS_WRITE) one o.call.dst o.call.count f.words.dst
      ∙ ap (λ k. cond (eqb k 2) (wrap_add o.call.dst o.call.count) o.call.dst) kind_is)

  mu_com_lem : at row MU_COM ≡ (1 - empty_at row) * at row IS_WRITE
  mu_com_lem =
      mu_com_is_lem
      ∙ sym (ap (λ k. bit (eqb k 2 && not (eqb o.call.count 0))) kind_is)
      ∙ sym (mu_com_test (at row IS_SET) (at row IS_WRITE) one o.call.count)
      ∙ ap (λ b. (1 - b) * at row IS_WRITE) (sym empty_is)

  mu_com_wide : at row MU_COM_WIDE ≡ at row MU_COM * (1 - at row SINGLE)
  mu_com_wide =
      mu_com_wide_is_lem
      ∙ ap (λ w. bit (mu_com o.call && eqb w 8)) (sym width_is)
      ∙ sym (wide_test (mu_com o.call) (at row SINGLE) single_bit)
      ∙ ap (λ x. x * (1 - at row SINGLE)) (sym mu_com_is_lem)

  pub plain_of_facts : Plain gap row
  plain_of_facts =
      record {
        mu = omega (arith, mu_back mu o, f.live);
        single = single_bit;
        flags =
            record {
              first_live = omega (arith, mu_back mu o, first_back mu o, f.first);
              end_live = omega (arith, mu_back mu o, end_back mu o, f.end);
              kinds = omega (arith, mu_back mu o, one, kind_is, f.kind);
              first_write_lem =
                  first_write_is
                  ∙ sym (ap (λ k. cond (eqb k 2) o.first 0) kind_is)
                  ∙ sym (first_write_test (at row IS_SET) (at row IS_WRITE) one o.first)
                  ∙ ap (λ x. x * at row IS_WRITE) (sym (first_back mu o));
              empty_first = rw (empty_is, first_back mu o) f.bounds.empty_first;
              empty_end = rw (empty_is, end_back mu o) f.bounds.empty_end;
              mu_com_lem = mu_com_lem;
              mu_com_wide = mu_com_wide;
            };
        src =
            record {
              sum = src_incr_back mu o ∙ (λ i. wrap_add (sym src_is i) (sym width_is i));
              free = rw (src_is, width_is, mu_back mu o, empty_is) f.bounds.src_free;
            };
        dst =
            record {
              sum = dst_incr_back mu o ∙ (λ i. wrap_add (sym dst_is i) (sym width_is i));
              free = rw (dst_is, width_is, mu_back mu o, empty_is) f.bounds.dst_free;
            };
        count =
            record {
              sum =
                  rw (count_decr_back mu o, width_is, count_is)
                  (decr_back o.call.count o.piece.width f.words.count (width_bounds o.piece.width f.piece.wide) f.bounds.enough);
              last = rw (count_is, end_back mu o, width_is) f.bounds.last;
            };
        res = dst_res_back mu o (rw res_is (omega arith)) ∙ res_is ∙ (λ i. wrap_add (sym dst_is i) (sym count_is i * at row IS_WRITE));
        gapped = λ e. dst_is ∙ f.gapped (omega (arith, kind_is, one)) ∙ ap (λ x. x + gap) (sym src_is);
        tail = λ e. tail_at row (tail_is (sym width_is ∙ ap (λ s. 8 - 7 * s) e));
      }

pub plain_of_row : (gap mu : ℕ) (o : Op) → RowStep gap mu o → Plain gap (row_of mu o)
plain_of_row gap mu o d = plain_of_facts gap mu o (facts_of_step gap mu o d)

-- its columns lie below their limits, m for the flags
pub below_of_row : (gap mu : ℕ) (o : Op) → RowStep gap mu o → (m : ℕ) → 2 ≤ m → (c : ℕ) → c < COLUMNS
    → at (row_of mu o) c < get_or (limits_to m) c 0
below_of_row gap mu o d m h =
    let f = facts_of_step gap mu o d in
    made_below mu o f.piece m h (omega (arith, f.live)) (omega (arith, f.first, f.live)) (omega (arith, f.end, f.live))

pub range_of_row : (gap mu : ℕ) (o : Op) → RowStep gap mu o → InRange (row_of mu o)
unfolding column_limits
range_of_row gap mu o d = below_of_row gap mu o d p (lit≤ tt)
