-- A row in range that says what Plain says is the row of the record read off it, and that record meets the conditions of its step, live
-- or dead. Column by column: words and halves of a number come back from it, and each flag is its test. Assumes nothing.
use mathlib.Core.Path.{◌≡◌, refl, sym, ap, ◌∙◌}
use mathlib.Core.Bool.{◌&&◌}
use mathlib.Core.List.{List, [], ◌∷◌, ◌++◌}
use mathlib.Core.Logic.{◌⊎◌, inl, inr}
use Prim.Native.Nat.{ℕ, zero, suc, ◌+◌, ◌-◌, ◌*◌, ◌^◌, ◌<◌}
use native.Mathlib.Omega.{arith}
use lib.Dec.{lit<, eqb}
use lib.ListN.{length}
use Rattle.lists.specs.Lists.{at, eight_at}
use Rattle.words.specs.Words.{words, halves, wrap_sub, bit}
use Rattle.words.proofs.Digits.{digits_number}
use Rattle.call.specs.Cuts.{FitsTypes, PieceOk}
use Rattle.copy_row.specs.Columns.{TIMESTAMP, VALUE, SRC, SRC_INCR, DST, DST_INCR, COUNT, COUNT_DECR, DST_RES, FIRST, END, SINGLE, IS_SET, IS_WRITE}
use Rattle.copy_row.specs.Columns.{MU, MU_COM, MU_COM_WIDE, COLUMNS}
use Rattle.copy_row.specs.Rows.{dst_res, mu_com, row_of}
use Rattle.copy_meaning.specs.Steps.{RowStep}
use Rattle.copy_meaning.specs.ReadRow.{words_at, halves_at, width_at, call_at, op_at}
use Rattle.copy_meaning.specs.Inner.{TwoWords, FourHalves}
use Rattle.copy_meaning.specs.RowIff.{InRange}
use Rattle.copy_meaning.specs.Plain.{Plain}
use Rattle.copy_meaning.proofs.Columns.{columns_of, stamp_words_lem, src_words, dst_words, count_words, src_halves, dst_halves, count_halves}
use Rattle.copy_meaning.proofs.Columns.{res_halves, value_bytes, words_below}
use Rattle.copy_meaning.proofs.Flags.{single_test, set_test, write_test, first_write_test, res_test, mu_com_test, wide_test}
use Rattle.copy_meaning.proofs.Decrement.{decr_of}
use Rattle.copy_meaning.proofs.StepFacts.{StepFacts, step_of_facts}

-- the columns of a number are its words, its halves
word_columns : (row : List ℕ) (c : ℕ) → TwoWords row c → at row c ∷ at row (c + 1) ∷ [] ≡ words (words_at row c)
word_columns row c w = sym (digits_number 32 (at row c ∷ at row (c + 1) ∷ []) (w.low, (w.high, tt)))

half_columns : (row : List ℕ) (c x : ℕ) → FourHalves row c → halves_at row c ≡ x
    → at row c ∷ at row (c + 1) ∷ at row (c + 2) ∷ at row (c + 3) ∷ [] ≡ halves x
half_columns row c x h e =
    let columns = at row c ∷ at row (c + 1) ∷ at row (c + 2) ∷ at row (c + 3) ∷ [] in
    sym (digits_number 16 columns (h.first, (h.second, (h.third, (h.fourth, tt))))) ∙ ap halves e

width_cases : (s : ℕ) → s < 2 → (8 - 7 * s ≡ 1) ⊎ (8 - 7 * s ≡ 8)
width_cases zero h = inr refl
width_cases (suc zero) h = inl refl
width_cases (suc (suc s)) h = absurd (omega arith)

module _ (gap : ℕ) (row : List ℕ) (wide : length row ≡ COLUMNS) (range : InRange row) (q : Plain gap row) where
  one : at row IS_SET + at row IS_WRITE < 2
  one = omega (arith, q.flags.kinds, q.mu)

  dst_fits : words_at row DST < 2 ^ 64
  dst_fits = words_below row DST (dst_words row range)

  count_next : halves_at row COUNT_DECR ≡ wrap_sub (words_at row COUNT) (width_at row)
  count_next =
      decr_of (words_at row COUNT) (halves_at row COUNT_DECR) (width_at row) (words_below row COUNT (count_words row range))
      (omega (arith, q.single)) q.count.sum

  res : halves_at row DST_RES ≡ dst_res (call_at row)
  res = q.res ∙ res_test (at row IS_SET) (at row IS_WRITE) one (words_at row DST) (words_at row COUNT) dst_fits

  mu_com_lem : at row MU_COM ≡ bit (mu_com (call_at row))
  mu_com_lem = q.flags.mu_com_lem ∙ mu_com_test (at row IS_SET) (at row IS_WRITE) one (words_at row COUNT)

  mu_com_wide : at row MU_COM_WIDE ≡ bit (mu_com (call_at row) && eqb (width_at row) 8)
  mu_com_wide =
      q.flags.mu_com_wide ∙ ap (λ x. x * (1 - at row SINGLE)) mu_com_lem ∙ wide_test (mu_com (call_at row)) (at row SINGLE) q.single

  pub row_same : row ≡ row_of (at row MU) (op_at row)
  unfolding row_of
  row_same =
      let stamp = word_columns row TIMESTAMP (stamp_words_lem row range) in
      let src = word_columns row SRC (src_words row range) in
      let src_incr = half_columns row SRC_INCR _ (src_halves row range) q.src.sum in
      let dst = word_columns row DST (dst_words row range) in
      let dst_incr = half_columns row DST_INCR _ (dst_halves row range) q.dst.sum in
      let count = word_columns row COUNT (count_words row range) in
      let count_decr = half_columns row COUNT_DECR _ (count_halves row range) count_next in
      let res_cells = half_columns row DST_RES _ (res_halves row range) res in
      let single = single_test (at row SINGLE) q.single in
      let set = set_test (at row IS_SET) (at row IS_WRITE) one in
      let write = write_test (at row IS_SET) (at row IS_WRITE) one in
      let first_write_lem = q.flags.first_write_lem ∙ first_write_test (at row IS_SET) (at row IS_WRITE) one (at row FIRST) in
      columns_of row COLUMNS wide
      ∙ (λ i.
      stamp i
      ++ eight_at row VALUE
      ++ src i
      ++ src_incr i
      ++ dst i
      ++ dst_incr i
      ++ count i
      ++ count_decr i
      ++ res_cells i
      ++ (at row FIRST
      ∷ at row END
      ∷ single i
      ∷ set i
      ∷ write i
      ∷ first_write_lem i
      ∷ at row MU
      ∷ mu_com_lem i
      ∷ mu_com_wide i
      ∷ []))

  -- The step

  fitting : FitsTypes (call_at row)
  fitting =
      record {
        kind = omega (arith, one);
        stamp = words_below row TIMESTAMP (stamp_words_lem row range);
        src = words_below row SRC (src_words row range);
        dst = dst_fits;
        count = words_below row COUNT (count_words row range);
      }

  piece : PieceOk (op_at row).piece
  piece =
      record {
        wide = width_cases (at row SINGLE) q.single;
        eight = refl;
        bytes = value_bytes row range;
        tail =
            λ e.
            let zero : (k : ℕ) → 0 < k → k < 8 → at row (VALUE + k) ≡ 0 = λ k l h. q.tail (omega arith) (VALUE + k) (omega arith) (omega arith) in
            λ i.
            zero 1 (lit< tt) (lit< tt) i
            ∷ zero 2 (lit< tt) (lit< tt) i
            ∷ zero 3 (lit< tt) (lit< tt) i
            ∷ zero 4 (lit< tt) (lit< tt) i
            ∷ zero 5 (lit< tt) (lit< tt) i
            ∷ zero 6 (lit< tt) (lit< tt) i
            ∷ zero 7 (lit< tt) (lit< tt) i
            ∷ [];
      }

  facts : StepFacts gap (at row MU) (op_at row)
  facts =
      record {
        words = fitting;
        piece = piece;
        live = q.mu;
        first = q.flags.first_live;
        end = q.flags.end_live;
        kind = omega (arith, q.flags.kinds);
        gapped = λ e. q.gapped (omega (arith, one));
        bounds =
            record {
              src_free = q.src.free;
              dst_free = q.dst.free;
              enough = omega (arith, q.count.sum);
              empty_first = q.flags.empty_first;
              empty_end = q.flags.empty_end;
              last = q.count.last;
            };
      }

  pub row_step : RowStep gap (at row MU) (op_at row)
  row_step = step_of_facts gap (at row MU) (op_at row) facts
