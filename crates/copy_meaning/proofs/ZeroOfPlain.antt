-- A row in range that says what Plain says meets every equation: its carries are those of the plain sums, and each gate is shut or what
-- stands behind it is 0. Assumes nothing.
use mathlib.Core.Path.{◌≡◌, sym, ap, ◌∙◌}
use mathlib.Core.List.{List}
use Prim.Native.Nat.{ℕ, zero, suc, ◌+◌, ◌-◌, ◌*◌, ◌/◌, ◌%◌, ◌^◌, ◌≤◌, ◌<◌}
use native.Mathlib.Nat.{mul_comm, mul-one}
use native.Mathlib.Omega.{arith}
use lib.Dec.{lit<}
use Rattle.lists.specs.Lists.{at}
use Rattle.field.specs.Field.{p, add_p, sub_p, mul_p, bit_p}
use Rattle.field.proofs.Laws.{mul_below, bit_zero, sub_same, sub_p_small, mul_p_comm}
use Rattle.field.proofs.Bits.{gate_zero, not_both_zero, implies_zero, bit_mul_p, bit_complement}
use Rattle.copy_row.specs.Columns.{SRC, DST, COUNT, COUNT_DECR, DST_RES, FIRST, END, SINGLE, IS_SET, IS_WRITE, FIRST_WRITE, MU, MU_COM, MU_COM_WIDE, COLUMNS}
use Rattle.copy_residues.specs.Residues.{halves_word, step, incr_low, incr_high, decr_low, decr_high, res_low, res_high, gap_low, gap_high, borrow, implies_mu}
use Rattle.copy_residues.specs.Residues.{one_hot, first_write, gated_bit, dst_res_non_write, single_lane, borrow_implies, borrow_implies_zero, end_implies}
use Rattle.copy_residues.specs.Residues.{mu_com_is, mu_com_wide_is, no_wrap, gap_no_wrap}
use Rattle.copy_residues.proofs.CountBorrow.{borrow_is_carry}
use Rattle.copy_meaning.specs.ReadRow.{words_at, halves_at, width_at}
use Rattle.copy_meaning.specs.Inner.{TwoWords, FourHalves, empty_at}
use Rattle.copy_meaning.specs.Plain.{MovesAt, Plain}
use Rattle.copy_meaning.specs.RowIff.{InRange}
use Rattle.copy_meaning.proofs.Check.{range_elements}
use Rattle.copy_meaning.proofs.Equations.{Equations}
use Rattle.copy_meaning.proofs.Columns.{src_words, dst_words, count_words, src_halves, dst_halves, count_halves, res_halves, words_below}
use Rattle.copy_meaning.proofs.Columns.{words_of, step_width}
use Rattle.copy_meaning.proofs.Sums.{Sum, Carried, incr_carried, decr_carried, res_carried, gap_carried}
use Rattle.copy_meaning.proofs.Flags.{live_product}

-- On numbers

equal_zero : (a b : ℕ) → b < p → a ≡ b → sub_p a b ≡ 0
equal_zero a b h e = ap (λ x. sub_p x b) e ∙ sub_same b h

opened : (e b : ℕ) → e < 2 → b < 2 → 0 < mul_p e (sub_p 1 b) → (e ≡ 1) × (b ≡ 0)
unfolding mul_p sub_p
opened zero b he hb h = absurd (omega arith)
opened (suc zero) zero he hb h = omega arith
opened (suc zero) (suc zero) he hb h = absurd (omega arith)
opened (suc zero) (suc (suc b)) he hb h = absurd (omega arith)
opened (suc (suc e)) b he hb h = absurd (omega arith)

-- a wrapped sum with its carry
wrapped_sum : (a b r : ℕ) → a < 2 ^ 64 → b < 2 ^ 64 → r ≡ (a + b) % 2 ^ 64 → Sum a b r ((a + b) / 2 ^ 64)
wrapped_sum a b r ha hb e = omega arith

-- a count that is at least w and at most w, in words
last_words : (n0 n1 d w : ℕ) → n0 < 2 ^ 32 → w < 2 ^ 32 → d + w ≡ n0 + 2 ^ 32 * n1 → n0 + 2 ^ 32 * n1 ≤ w → (n1 ≡ 0) × (n0 ≡ w)
last_words n0 n1 d w hn hw e l = omega arith

module _ (gap : ℕ) (row : List ℕ) (g : gap < 2 ^ 32) (range : InRange row) (q : Plain gap row) where
  element : (c : ℕ) → c < COLUMNS → at row c < p
  element = range_elements row range

  first : at row FIRST < 2
  first = omega (arith, q.flags.first_live, q.mu)

  end : at row END < 2
  end = omega (arith, q.flags.end_live, q.mu)

  is_set : at row IS_SET < 2
  is_set = omega (arith, q.flags.kinds, q.mu)

  is_write : at row IS_WRITE < 2
  is_write = omega (arith, q.flags.kinds, q.mu)

  count : Carried (decr_low row) (decr_high row) (empty_at row)
  count =
      decr_carried row (count_words row range) (count_halves row range) q.single (record { bit = omega arith; total = q.count.sum })

  empty : borrow row ≡ empty_at row
  empty =
      borrow_is_carry row (element COUNT (lit< tt)) (element (COUNT + 1) (lit< tt)) ∙ count.top

  borrows : borrow row < 2
  borrows = omega (arith, empty)

  count_zero : 0 < borrow row → (at row COUNT ≡ 0) × (at row (COUNT + 1) ≡ 0)
  count_zero l = omega (arith, empty)

  -- a last row that does not borrow moves all that is left
  last : 0 < mul_p (at row END) (sub_p 1 (borrow row)) → (at row (COUNT + 1) ≡ 0) × (at row COUNT ≡ step row)
  last l =
      let o = opened (at row END) (borrow row) end borrows l in
      let w = step_width row q.single in
      let n = last_words (at row COUNT) (at row (COUNT + 1)) (halves_at row COUNT_DECR) (width_at row) (count_words row range).low (omega arith)
      (omega (arith, q.count.sum, empty)) (omega (arith, q.count.last)) in
      (n.0, n.1 ∙ sym w)

  moving : sub_p (at row MU) (borrow row) ≡ at row MU - empty_at row
  moving =
      sub_p_small (at row MU) (borrow row) (omega (arith, q.mu)) (omega (arith, empty, q.flags.empty_first, q.flags.first_live))
      ∙ ap (λ x. at row MU - x) empty

  -- SRC or DST and its increment
  moves : (c : ℕ) → TwoWords row c → FourHalves row (c + 2) → MovesAt row c
      → Carried (incr_low row c) (incr_high row c) ((words_at row c + width_at row) / 2 ^ 64) × (no_wrap row c ≡ 0)
  unfolding no_wrap
  moves c w h m =
      let x = words_below row c w in
      let sum = incr_carried row c w h q.single
      (wrapped_sum (words_at row c) (width_at row) (halves_at row (c + 2)) x (omega arith) m.sum) in (
        sum,
        not_both_zero (sub_p (at row MU) (borrow row)) (incr_high row c) (omega (arith, moving, q.mu)) (omega (arith, sum.top))
            (omega (arith, moving, q.mu, sum.top, m.free)),
      )

  src : Carried (incr_low row SRC) (incr_high row SRC) ((words_at row SRC + width_at row) / 2 ^ 64) × (no_wrap row SRC ≡ 0)
  src = moves SRC (src_words row range) (src_halves row range) q.src

  dst : Carried (incr_low row DST) (incr_high row DST) ((words_at row DST + width_at row) / 2 ^ 64) × (no_wrap row DST ≡ 0)
  dst = moves DST (dst_words row range) (dst_halves row range) q.dst

  -- the sums behind the gates
  res_write : 0 < at row IS_WRITE → Carried (res_low row) (res_high row) ((words_at row DST + words_at row COUNT) / 2 ^ 64)
  res_write l =
      let one : at row IS_WRITE ≡ 1 = omega (arith, is_write) in
      let d = dst_words row range in
      let n = count_words row range in
      res_carried row d n (res_halves row range)
      (wrapped_sum (words_at row DST) (words_at row COUNT) (halves_at row DST_RES) (words_below row DST d) (words_below row COUNT n)
      (q.res ∙ ap (λ x. (words_at row DST + x) % 2 ^ 64) (ap (λ x. words_at row COUNT * x) one ∙ mul-one (words_at row COUNT))))

  res_other : 0 < sub_p 1 (at row IS_WRITE) → (halves_word row DST_RES ≡ at row DST) × (halves_word row (DST_RES + 2) ≡ at row (DST + 1))
  res_other l =
      let none : at row IS_WRITE ≡ 0 = omega (arith, bit_complement (at row IS_WRITE) is_write) in
      let w = dst_words row range in
      let t = words_of row DST_RES (res_halves row range) in
      omega (arith, q.res, ap (λ x. words_at row COUNT * x) none)

  same : (x y : ℕ) → y < p → (0 < sub_p 1 (at row IS_WRITE) → x ≡ y) → mul_p (sub_p 1 (at row IS_WRITE)) (sub_p x y) ≡ 0
  same x y h f = gate_zero (sub_p 1 (at row IS_WRITE)) (sub_p x y) (λ l. equal_zero x y h (f l))

  gapped : 0 < at row IS_SET → Carried (gap_low gap row) (gap_high gap row) 0
  gapped l =
      gap_carried gap row g (src_words row range) (dst_words row range)
      (omega (arith, q.gapped (omega (arith, is_set))))

  -- products with a bit
  first_write_lem : at row FIRST_WRITE ≡ mul_p (at row FIRST) (at row IS_WRITE)
  first_write_lem = q.flags.first_write_lem ∙ sym (bit_mul_p (at row FIRST) (at row IS_WRITE) first (omega (arith, is_write)))

  mu_com_lem : at row MU_COM ≡ mul_p (sub_p (at row MU) (borrow row)) (at row IS_WRITE)
  mu_com_lem =
      q.flags.mu_com_lem
      ∙ sym (live_product (at row MU) (empty_at row) (at row IS_WRITE) q.mu (omega (arith, q.flags.kinds)))
      ∙ ap (λ x. x * at row IS_WRITE) (sym moving)
      ∙ sym (bit_mul_p (sub_p (at row MU) (borrow row)) (at row IS_WRITE) (omega (arith, moving, q.mu)) (omega (arith, is_write)))

  mu_com_wide : at row MU_COM_WIDE ≡ mul_p (at row MU_COM) (sub_p 1 (at row SINGLE))
  mu_com_wide =
      let wide = bit_complement (at row SINGLE) q.single in
      q.flags.mu_com_wide
      ∙ mul_comm (at row MU_COM) (1 - at row SINGLE)
      ∙ ap (λ x. x * at row MU_COM) (omega arith)
      ∙ sym (bit_mul_p (sub_p 1 (at row SINGLE)) (at row MU_COM) (omega arith) (element MU_COM (lit< tt)))
      ∙ mul_p_comm (sub_p 1 (at row SINGLE)) (at row MU_COM)

  pub zero_of_plain : Equations gap row
  unfolding implies_mu one_hot first_write gated_bit dst_res_non_write single_lane borrow_implies borrow_implies_zero end_implies mu_com_is mu_com_wide_is no_wrap gap_no_wrap
  zero_of_plain =
      record {
        first = bit_zero (at row FIRST) first;
        end = bit_zero (at row END) end;
        single = bit_zero (at row SINGLE) q.single;
        mu = bit_zero (at row MU) q.mu;
        is_set = bit_zero (at row IS_SET) is_set;
        is_write = bit_zero (at row IS_WRITE) is_write;
        marks_live =
            implies_zero (add_p (at row FIRST) (at row END)) (at row MU) q.mu (λ z. unfold add_p in omega (arith, q.flags.first_live, q.flags.end_live));
        one_hot_lem = not_both_zero (at row IS_SET) (at row IS_WRITE) is_set is_write (omega (arith, q.flags.kinds, q.mu));
        kinds_live =
            implies_zero (add_p (at row IS_SET) (at row IS_WRITE)) (at row MU) q.mu (λ z. unfold add_p in omega (arith, q.flags.kinds));
        first_write_lem = equal_zero (at row FIRST_WRITE) (mul_p (at row FIRST) (at row IS_WRITE)) (mul_below _ _) first_write_lem;
        src_low = src.0.low_zero;
        src_high = src.0.high_zero;
        dst_low = dst.0.low_zero;
        dst_high = dst.0.high_zero;
        count_low = count.low_zero;
        count_high = count.high_zero;
        res_low_lem = gate_zero (at row IS_WRITE) (bit_p (res_low row)) (λ l. (res_write l).low_zero);
        res_high_lem = gate_zero (at row IS_WRITE) (bit_p (res_high row)) (λ l. (res_write l).high_zero);
        same_low = same (halves_word row DST_RES) (at row DST) (element DST (lit< tt)) (λ l. (res_other l).0);
        same_high = same (halves_word row (DST_RES + 2)) (at row (DST + 1)) (element (DST + 1) (lit< tt)) (λ l. (res_other l).1);
        gap_low_lem = gate_zero (at row IS_SET) (bit_p (gap_low gap row)) (λ l. (gapped l).low_zero);
        gap_high_lem = gate_zero (at row IS_SET) (bit_p (gap_high gap row)) (λ l. (gapped l).high_zero);
        tail = λ c low high. gate_zero (at row SINGLE) (at row c) (λ l. q.tail (omega (arith, q.single)) c low high);
        borrow_first = implies_zero (borrow row) (at row FIRST) first (λ z. omega (arith, empty, q.flags.empty_first));
        zero_low = gate_zero (borrow row) (at row COUNT) (λ l. (count_zero l).0);
        zero_high = gate_zero (borrow row) (at row (COUNT + 1)) (λ l. (count_zero l).1);
        last_high = gate_zero (mul_p (at row END) (sub_p 1 (borrow row))) (at row (COUNT + 1)) (λ l. (last l).0);
        last_low =
            gate_zero (mul_p (at row END) (sub_p 1 (borrow row))) (sub_p (at row COUNT) (step row))
            (λ l. equal_zero _ _ (omega (arith, step_width row q.single)) (last l).1);
        borrow_end = implies_zero (borrow row) (at row END) end (λ z. omega (arith, empty, q.flags.empty_end));
        mu_com_lem = equal_zero (at row MU_COM) (mul_p (sub_p (at row MU) (borrow row)) (at row IS_WRITE)) (mul_below _ _) mu_com_lem;
        mu_com_wide = equal_zero (at row MU_COM_WIDE) (mul_p (at row MU_COM) (sub_p 1 (at row SINGLE))) (mul_below _ _) mu_com_wide;
        src_free = src.1;
        dst_free = dst.1;
        gap_free = gate_zero (at row IS_SET) (gap_high gap row) (λ l. (gapped l).top);
      }
