-- What is read off the row of a record is that record, and what the row hands on is what the record's wrapped sums say. So a row tells
-- its record, and no other record has it. Assumes nothing.
use mathlib.Core.Path.{◌≡◌, refl}
use mathlib.Core.Logic.{◌⊎◌, inl, inr}
use Prim.Native.Nat.{ℕ, zero, suc, ◌+◌, ◌-◌, ◌*◌, ◌%◌, ◌^◌, ◌≤◌, ◌<◌}
use native.Mathlib.Omega.{arith}
use lib.Dec.{eqb}
use Rattle.lists.specs.Lists.{at, eight_at}
use Rattle.lists.proofs.Numbers.{eight_back}
use Rattle.words.specs.Words.{bit}
use Rattle.words.proofs.Digits.{number_digits, number_whole}
use Rattle.call.specs.Calls.{Op}
use Rattle.call.specs.Cuts.{FitsTypes, PieceOk}
use Rattle.copy_row.specs.Columns.{TIMESTAMP, VALUE, SRC, SRC_INCR, DST, DST_INCR, COUNT, COUNT_DECR, DST_RES, FIRST, END, MU}
use Rattle.copy_row.specs.Rows.{wrapped, dst_res, row_of}
use Rattle.copy_meaning.specs.ReadRow.{words_at, halves_at, width_at, kind_at, call_at, op_at, next_at}

kind_back : (k : ℕ) → k ≤ 2 → bit (eqb k 1) + 2 * bit (eqb k 2) ≡ k
kind_back zero h = refl
kind_back (suc zero) h = refl
kind_back (suc (suc zero)) h = refl
kind_back (suc (suc (suc k))) h = absurd (omega arith)

width_back : (w : ℕ) → (w ≡ 1) ⊎ (w ≡ 8) → 8 - 7 * bit (eqb w 1) ≡ w
width_back w (inl e) = rw e
width_back w (inr e) = rw e

module _ (mu : ℕ) (o : Op) where
  -- MU and the marks stand in the row as they are
  pub mu_back : at (row_of mu o) MU ≡ mu
  unfolding row_of
  mu_back = refl

  pub first_back : at (row_of mu o) FIRST ≡ o.first
  unfolding row_of
  first_back = refl

  pub end_back : at (row_of mu o) END ≡ o.end
  unfolding row_of
  end_back = refl

  -- columns of words and of halves
  pub src_modulo : words_at (row_of mu o) SRC ≡ o.call.src % 2 ^ 64
  unfolding row_of
  src_modulo = number_digits 32 2 o.call.src

  pub stamp_back : o.call.stamp < 2 ^ 64 → words_at (row_of mu o) TIMESTAMP ≡ o.call.stamp
  unfolding row_of
  stamp_back h = number_whole 32 2 o.call.stamp h

  pub src_back : o.call.src < 2 ^ 64 → words_at (row_of mu o) SRC ≡ o.call.src
  unfolding row_of
  src_back h = number_whole 32 2 o.call.src h

  pub dst_back : o.call.dst < 2 ^ 64 → words_at (row_of mu o) DST ≡ o.call.dst
  unfolding row_of
  dst_back h = number_whole 32 2 o.call.dst h

  pub count_back : o.call.count < 2 ^ 64 → words_at (row_of mu o) COUNT ≡ o.call.count
  unfolding row_of
  count_back h = number_whole 32 2 o.call.count h

  pub src_incr_back : halves_at (row_of mu o) SRC_INCR ≡ (wrapped o).src
  unfolding row_of
  src_incr_back = number_whole 16 4 (wrapped o).src (omega arith)

  pub dst_incr_back : halves_at (row_of mu o) DST_INCR ≡ (wrapped o).dst
  unfolding row_of
  dst_incr_back = number_whole 16 4 (wrapped o).dst (omega arith)

  pub count_decr_back : halves_at (row_of mu o) COUNT_DECR ≡ (wrapped o).count
  unfolding row_of
  count_decr_back = number_whole 16 4 (wrapped o).count (omega arith)

  pub dst_res_back : dst_res o.call < 2 ^ 64 → halves_at (row_of mu o) DST_RES ≡ dst_res o.call
  unfolding row_of
  dst_res_back h = number_whole 16 4 (dst_res o.call) h

  module _ (fits : FitsTypes o.call) where
    pub kind_read : kind_at (row_of mu o) ≡ o.call.kind
    unfolding row_of
    kind_read = kind_back o.call.kind fits.kind

    -- the call that the row goes on with
    pub next_back : next_at (row_of mu o) ≡ wrapped o
    next_back =
        let stamp = stamp_back fits.stamp in
        λ i.
        record { kind = kind_read i; stamp = stamp i; src = src_incr_back i; dst = dst_incr_back i; count = count_decr_back i }

    pub call_back : call_at (row_of mu o) ≡ o.call
    call_back =
        let stamp = stamp_back fits.stamp in
        let src = src_back fits.src in
        let dst = dst_back fits.dst in
        let count = count_back fits.count in
        λ i.
        record { kind = kind_read i; stamp = stamp i; src = src i; dst = dst i; count = count i }

    module _ (ok : PieceOk o.piece) where
      pub width_read : width_at (row_of mu o) ≡ o.piece.width
      unfolding row_of
      width_read = width_back o.piece.width ok.wide

      pub value_read : eight_at (row_of mu o) VALUE ≡ o.piece.value
      unfolding row_of
      value_read = eight_back o.piece.value ok.eight

      pub op_back : op_at (row_of mu o) ≡ o
      unfolding row_of
      op_back = λ i. record { call = call_back i; piece = record { width = width_read i; value = value_read i }; first = o.first; end = o.end }
