-- A row in range whose equations hold says what Plain says. Bits and open gates come from p being prime, sums from the carry law, and the
-- borrow is 1 exactly where the count is 0. Assumes nothing.
use mathlib.Core.Path.{◌≡◌, refl, ap, ◌∙◌}
use mathlib.Core.List.{List}
use Prim.Native.Nat.{ℕ, zero, suc, ◌+◌, ◌-◌, ◌*◌, ◌%◌, ◌^◌, ◌≤◌, ◌<◌}
use native.Mathlib.Nat.{mul_comm}
use native.Mathlib.Omega.{arith}
use lib.Dec.{lit<}
use Rattle.lists.specs.Lists.{at}
use Rattle.field.specs.Field.{p, add_p, sub_p, mul_p, bit_p}
use Rattle.field.proofs.Laws.{add_below, sub_below, mul_below, bit_below, sub_zero, sub_p_small, mul_p_comm}
use Rattle.field.proofs.Bits.{bit_of_zero, gate, not_both, implies, bit_mul_p, bit_complement}
use Rattle.copy_row.specs.Columns.{SRC, DST, COUNT, COUNT_DECR, DST_RES, FIRST, END, SINGLE, IS_SET, IS_WRITE, FIRST_WRITE, MU, MU_COM, MU_COM_WIDE, COLUMNS}
use Rattle.copy_residues.specs.Residues.{halves_word, step, incr_low, incr_high, decr_high, res_low, res_high, gap_low, gap_high, borrow, implies_mu, one_hot}
use Rattle.copy_residues.specs.Residues.{first_write, gated_bit, dst_res_non_write, single_lane, borrow_implies, borrow_implies_zero, end_implies, mu_com_is}
use Rattle.copy_residues.specs.Residues.{mu_com_wide_is, no_wrap, gap_no_wrap}
use Rattle.copy_residues.proofs.CountBorrow.{borrow_is_carry}
use Rattle.copy_meaning.specs.ReadRow.{words_at, halves_at, width_at}
use Rattle.copy_meaning.specs.Inner.{TwoWords, FourHalves, empty_at}
use Rattle.copy_meaning.specs.Plain.{Last, MovesAt, GapAt, TailAt, Plain}
use Rattle.copy_meaning.specs.RowIff.{InRange}
use Rattle.copy_meaning.proofs.Check.{range_elements}
use Rattle.copy_meaning.proofs.Equations.{Equations}
use Rattle.copy_meaning.proofs.Columns.{src_words, dst_words, count_words, src_halves, dst_halves, count_halves, res_halves, words_below}
use Rattle.copy_meaning.proofs.Columns.{halves_below, words_of, step_width}
use Rattle.copy_meaning.proofs.Sums.{Sum, incr_sum, decr_sum, res_sum, gap_sum}
use Rattle.copy_meaning.proofs.Flags.{live_product}

-- On numbers

both_le : (x y m : ℕ) → x < 2 → y < 2 → m < 2 → mul_p (add_p x y) (sub_p 1 m) ≡ 0 → (x ≤ m) × (y ≤ m)
unfolding add_p
both_le x y zero hx hy hm h = omega (arith, implies (add_p x y) 0 (add_below x y) hm h refl)
both_le x y (suc m) hx hy hm h = omega arith

one_le : (x m : ℕ) → x < 2 → m < 2 → mul_p x (sub_p 1 m) ≡ 0 → x ≤ m
one_le x zero hx hm h = omega (arith, implies x 0 (omega arith) hm h refl)
one_le x (suc m) hx hm h = omega arith

-- the borrow b of n - w, with what is left over, is 1 exactly where n is 0
empty_of : (b n d w : ℕ) → b < 2 → d < 2 ^ 64 → 0 < w → d + w ≡ n + 2 ^ 64 * b → (0 < b → n ≡ 0) → b ≡ 1 - n
empty_of zero n d w hb hd hw e f = omega arith
empty_of (suc zero) n d w hb hd hw e f = omega (arith, f (omega arith))
empty_of (suc (suc b)) n d w hb hd hw e f = absurd (omega arith)

-- a product of a bit and one less another that is 1
open_last : (e b : ℕ) → e ≡ 1 → b ≡ 0 → 0 < mul_p e (sub_p 1 b)
unfolding mul_p sub_p
open_last e b h k = rw (h, k) (lit< tt)

-- a Write ends count further, other rows at dst
res_of : (d n r w k : ℕ) → w < 2 → d < 2 ^ 64 → r < 2 ^ 64 → (w ≡ 1 → d + n ≡ r + 2 ^ 64 * k) → (w ≡ 0 → r ≡ d)
    → r ≡ (d + n * w) % 2 ^ 64
res_of d n r zero k hw hd hr f g = omega (arith, g refl)
res_of d n r (suc zero) k hw hd hr f g = omega (arith, f refl)
res_of d n r (suc (suc w)) k hw hd hr f g = absurd (omega arith)

module _ (gap : ℕ) (row : List ℕ) (g : gap < 2 ^ 32) (range : InRange row) (e : Equations gap row) where
  element : (c : ℕ) → c < COLUMNS → at row c < p
  element = range_elements row range

  flag : (c : ℕ) → c < COLUMNS → bit_p (at row c) ≡ 0 → at row c < 2
  flag c h z = bit_of_zero (at row c) (element c h) z

  first : at row FIRST < 2
  first = flag FIRST (lit< tt) e.first

  end : at row END < 2
  end = flag END (lit< tt) e.end

  single : at row SINGLE < 2
  single = flag SINGLE (lit< tt) e.single

  mu : at row MU < 2
  mu = flag MU (lit< tt) e.mu

  is_set : at row IS_SET < 2
  is_set = flag IS_SET (lit< tt) e.is_set

  is_write : at row IS_WRITE < 2
  is_write = flag IS_WRITE (lit< tt) e.is_write

  marks : (at row FIRST ≤ at row MU) × (at row END ≤ at row MU)
  unfolding implies_mu
  marks = both_le (at row FIRST) (at row END) (at row MU) first end mu e.marks_live

  kinds : at row IS_SET + at row IS_WRITE ≤ at row MU
  unfolding implies_mu one_hot
  kinds =
      omega (
        arith,
        not_both (at row IS_SET) (at row IS_WRITE) is_set is_write e.one_hot_lem,
        both_le (at row IS_SET) (at row IS_WRITE) (at row MU) is_set is_write mu e.kinds_live,
      )

  -- the borrow
  is_carry : borrow row ≡ decr_high row
  is_carry = borrow_is_carry row (element COUNT (lit< tt)) (element (COUNT + 1) (lit< tt))

  count : Sum (halves_at row COUNT_DECR) (width_at row) (words_at row COUNT) (borrow row)
  count = rw is_carry (decr_sum row (count_words row range) (count_halves row range) single e.count_low e.count_high)

  borrow_zero : 0 < borrow row → words_at row COUNT ≡ 0
  unfolding borrow_implies_zero
  borrow_zero l =
      let w = count_words row range in
      omega (
        arith,
        gate (borrow row) (at row COUNT) (omega (arith, count.bit)) (omega arith) l e.zero_low,
        gate (borrow row) (at row (COUNT + 1)) (omega (arith, count.bit)) (omega arith) l e.zero_high,
      )

  empty : borrow row ≡ empty_at row
  empty =
      empty_of (borrow row) (words_at row COUNT) (halves_at row COUNT_DECR) (width_at row) count.bit
      (halves_below row COUNT_DECR (count_halves row range)) (omega (arith, single)) count.total borrow_zero

  empty_first : borrow row ≤ at row FIRST
  unfolding borrow_implies
  empty_first = one_le (borrow row) (at row FIRST) count.bit first e.borrow_first

  empty_end : borrow row ≤ at row END
  unfolding borrow_implies
  empty_end = one_le (borrow row) (at row END) count.bit end e.borrow_end

  -- a last row that does not borrow
  last_width : at row END ≡ 1 → borrow row ≡ 0 → words_at row COUNT ≡ width_at row
  unfolding end_implies
  last_width h k =
      let w = count_words row range in
      let s = step_width row single in
      let l = open_last (at row END) (borrow row) h k in
      omega (
        arith,
        gate (mul_p (at row END) (sub_p 1 (borrow row))) (at row (COUNT + 1)) (mul_below _ _) (omega arith) l e.last_high,
        sub_zero (at row COUNT) (step row) (omega arith) (omega arith)
            (gate (mul_p (at row END) (sub_p 1 (borrow row))) (sub_p (at row COUNT) (step row)) (mul_below _ _) (sub_below _ _) l e.last_low),
      )

  last : Last (width_at row) (at row END) (words_at row COUNT)
  last = go (at row END) refl (borrow row) refl
    where
      go : (x : ℕ) → at row END ≡ x → (b : ℕ) → borrow row ≡ b → Last (width_at row) (at row END) (words_at row COUNT)
      go zero h b k = omega (arith, words_below row COUNT (count_words row range))
      go (suc x) h zero k = omega (arith, end, last_width (omega (arith, end)) k)
      go (suc x) h (suc b) k = omega (arith, end, borrow_zero (omega arith))

  moving : sub_p (at row MU) (borrow row) ≡ at row MU - borrow row
  moving = sub_p_small (at row MU) (borrow row) (omega (arith, mu)) (omega (arith, empty_first, marks.0))

  -- SRC or DST and its increment, which does not wrap where the row moves a byte
  moves : (c : ℕ) → TwoWords row c → FourHalves row (c + 2) → bit_p (incr_low row c) ≡ 0 → bit_p (incr_high row c) ≡ 0 → no_wrap row c ≡ 0
      → MovesAt row c
  unfolding no_wrap
  moves c w h low high free =
      let sum = incr_sum row c w h single low high in
      let next = halves_below row (c + 2) h in
      let one = not_both (sub_p (at row MU) (borrow row)) (incr_high row c) (omega (arith, moving, mu)) sum.bit free in
      record {
        sum = omega (arith, sum.total);
        free = omega (arith, sum.total, moving, empty, empty_first, marks.0);
      }

  -- a carry behind an open gate
  behind : (c x : ℕ) → at row c ≡ 1 → gated_bit row c x ≡ 0 → bit_p x ≡ 0
  unfolding gated_bit
  behind c x h z = gate (at row c) (bit_p x) (omega arith) (bit_below x) (omega arith) z

  -- DST_RES
  res_write : at row IS_WRITE ≡ 1 → words_at row DST + words_at row COUNT ≡ halves_at row DST_RES + 2 ^ 64 * res_high row
  res_write h =
      (res_sum row (dst_words row range) (count_words row range) (res_halves row range)
      (behind IS_WRITE (res_low row) h e.res_low_lem)
      (behind IS_WRITE (res_high row) h e.res_high_lem)
      ).total

  res_other : at row IS_WRITE ≡ 0 → halves_at row DST_RES ≡ words_at row DST
  unfolding dst_res_non_write
  res_other h =
      let t = words_of row DST_RES (res_halves row range) in
      let w = dst_words row range in
      let l = bit_complement (at row IS_WRITE) is_write in
      let same : (x y : ℕ) → x < 2 ^ 32 → y < 2 ^ 32 → mul_p (sub_p 1 (at row IS_WRITE)) (sub_p x y) ≡ 0 → x ≡ y =
      λ x y hx hy z. sub_zero x y (omega arith) (omega arith) (gate (sub_p 1 (at row IS_WRITE)) (sub_p x y) (sub_below _ _) (sub_below _ _) (omega arith) z) in
      omega (
        arith,
        same (halves_word row DST_RES) (at row DST) t.low w.low e.same_low,
        same (halves_word row (DST_RES + 2)) (at row (DST + 1)) t.high w.high e.same_high,
      )

  -- a Set
  gapped : GapAt gap row
  unfolding gap_no_wrap
  gapped h =
      let sum = gap_sum gap row g (src_words row range) (dst_words row range)
      (behind IS_SET (gap_low gap row) h e.gap_low_lem)
      (behind IS_SET (gap_high gap row) h e.gap_high_lem) in
      omega (arith, gate (at row IS_SET) (gap_high gap row) (omega arith) (omega (arith, sum.bit)) (omega arith) e.gap_free)

  tail : TailAt row
  unfolding single_lane
  tail h c low high =
      gate (at row SINGLE) (at row c) (omega arith) (element c (omega arith)) (omega arith) (e.tail c low high)

  -- columns that are products with a bit
  product : (c : ℕ) → c < COLUMNS → (x y : ℕ) → sub_p (at row c) (mul_p x y) ≡ 0 → at row c ≡ mul_p x y
  product c h x y z = sub_zero (at row c) (mul_p x y) (element c h) (mul_below x y) z

  first_write_lem : at row FIRST_WRITE ≡ at row FIRST * at row IS_WRITE
  unfolding first_write
  first_write_lem =
      product FIRST_WRITE (lit< tt) (at row FIRST) (at row IS_WRITE) e.first_write_lem
      ∙ bit_mul_p (at row FIRST) (at row IS_WRITE) first (omega (arith, is_write))

  mu_com_lem : at row MU_COM ≡ (1 - empty_at row) * at row IS_WRITE
  unfolding mu_com_is
  mu_com_lem =
      product MU_COM (lit< tt) (sub_p (at row MU) (borrow row)) (at row IS_WRITE) e.mu_com_lem
      ∙ bit_mul_p (sub_p (at row MU) (borrow row)) (at row IS_WRITE) (omega (arith, moving, mu)) (omega (arith, is_write))
      ∙ ap (λ x. x * at row IS_WRITE) moving
      ∙ live_product (at row MU) (borrow row) (at row IS_WRITE) mu (omega (arith, kinds))
      ∙ ap (λ x. (1 - x) * at row IS_WRITE) empty

  mu_com_wide : at row MU_COM_WIDE ≡ at row MU_COM * (1 - at row SINGLE)
  unfolding mu_com_wide_is
  mu_com_wide =
      let wide : sub_p 1 (at row SINGLE) ≡ 1 - at row SINGLE = omega (arith, bit_complement (at row SINGLE) single) in
      product MU_COM_WIDE (lit< tt) (at row MU_COM) (sub_p 1 (at row SINGLE)) e.mu_com_wide
      ∙ mul_p_comm (at row MU_COM) (sub_p 1 (at row SINGLE))
      ∙ bit_mul_p (sub_p 1 (at row SINGLE)) (at row MU_COM) (omega arith) (element MU_COM (lit< tt))
      ∙ ap (λ x. x * at row MU_COM) wide
      ∙ mul_comm (1 - at row SINGLE) (at row MU_COM)

  pub plain_of_zero : Plain gap row
  plain_of_zero =
      record {
        mu = mu;
        single = single;
        flags =
            record {
              first_live = marks.0;
              end_live = marks.1;
              kinds = kinds;
              first_write_lem = first_write_lem;
              empty_first = omega (arith, empty, empty_first);
              empty_end = omega (arith, empty, empty_end);
              mu_com_lem = mu_com_lem;
              mu_com_wide = mu_com_wide;
            };
        src = moves SRC (src_words row range) (src_halves row range) e.src_low e.src_high e.src_free;
        dst = moves DST (dst_words row range) (dst_halves row range) e.dst_low e.dst_high e.dst_free;
        count = record { sum = count.total ∙ ap (λ x. words_at row COUNT + 2 ^ 64 * x) empty; last = last };
        res =
            res_of (words_at row DST) (words_at row COUNT) (halves_at row DST_RES) (at row IS_WRITE) (res_high row) is_write
            (words_below row DST (dst_words row range)) (halves_below row DST_RES (res_halves row range)) res_write res_other;
        gapped = gapped;
        tail = tail;
      }
