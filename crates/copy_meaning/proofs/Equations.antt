-- The 40 residues of a row, each by the name of its constraint in copy.rs, and that all are 0 exactly if each named one is. Nothing after
-- this counts residues. Assumes nothing.
use mathlib.Core.Path.{◌≡◌, refl, sym, ◌∙◌}
use mathlib.Core.Bool.{Bool, true, false, cond}
use mathlib.Core.List.{List, [], ◌∷◌}
use Prim.Native.Nat.{ℕ, zero, suc, ◌+◌, ◌-◌, ◌<◌}
use native.Mathlib.Omega.{arith}
use borrow.Author.Tests.{ltb-true, ltb-false, lt-ltb, le-ltb}
use lib.Dec.{ltb, lit<}
use lib.ListN.{get_or}
use Rattle.lists.specs.Lists.{at}
use Rattle.field.specs.Field.{bit_p, sub_p}
use Rattle.copy_row.specs.Columns.{VALUE, SRC, DST, COUNT, FIRST, END, SINGLE, IS_SET, IS_WRITE, MU}
use Rattle.copy_residues.specs.Residues.{step, incr_low, incr_high, decr_low, decr_high, res_low, res_high, gap_low, gap_high, implies_mu, one_hot, first_write}
use Rattle.copy_residues.specs.Residues.{gated_bit, dst_res_non_write, single_lane, borrow_implies, borrow_implies_zero, end_implies, mu_com_is, mu_com_wide_is}
use Rattle.copy_residues.specs.Residues.{no_wrap, gap_no_wrap, front, back, residue, RESIDUES}

pub record Equations (gap : ℕ) (row : List ℕ) : Type 0 where
  pub first : bit_p (at row FIRST) ≡ 0
  pub end : bit_p (at row END) ≡ 0
  pub single : bit_p (at row SINGLE) ≡ 0
  pub mu : bit_p (at row MU) ≡ 0
  pub is_set : bit_p (at row IS_SET) ≡ 0
  pub is_write : bit_p (at row IS_WRITE) ≡ 0
  pub marks_live : implies_mu row FIRST END ≡ 0
  pub one_hot_lem : one_hot row ≡ 0
  pub kinds_live : implies_mu row IS_SET IS_WRITE ≡ 0
  pub first_write_lem : first_write row ≡ 0
  pub src_low : bit_p (incr_low row SRC) ≡ 0
  pub src_high : bit_p (incr_high row SRC) ≡ 0
  pub dst_low : bit_p (incr_low row DST) ≡ 0
  pub dst_high : bit_p (incr_high row DST) ≡ 0
  pub count_low : bit_p (decr_low row) ≡ 0
  pub count_high : bit_p (decr_high row) ≡ 0
  pub res_low_lem : gated_bit row IS_WRITE (res_low row) ≡ 0
  pub res_high_lem : gated_bit row IS_WRITE (res_high row) ≡ 0
  pub same_low : dst_res_non_write row 0 ≡ 0
  pub same_high : dst_res_non_write row 1 ≡ 0
  pub gap_low_lem : gated_bit row IS_SET (gap_low gap row) ≡ 0
  pub gap_high_lem : gated_bit row IS_SET (gap_high gap row) ≡ 0
  pub tail : (c : ℕ) → VALUE < c → c < SRC → single_lane row c ≡ 0
  pub borrow_first : borrow_implies row FIRST ≡ 0
  pub zero_low : borrow_implies_zero row COUNT ≡ 0
  pub zero_high : borrow_implies_zero row (COUNT + 1) ≡ 0
  pub last_high : end_implies row (at row (COUNT + 1)) ≡ 0
  pub last_low : end_implies row (sub_p (at row COUNT) (step row)) ≡ 0
  pub borrow_end : borrow_implies row END ≡ 0
  pub mu_com_lem : mu_com_is row ≡ 0
  pub mu_com_wide : mu_com_wide_is row ≡ 0
  pub src_free : no_wrap row SRC ≡ 0
  pub dst_free : no_wrap row DST ≡ 0
  pub gap_free : gap_no_wrap gap row ≡ 0

-- the middle range by its columns
tail_residue : (gap : ℕ) (row : List ℕ) (c : ℕ) → VALUE < c → c < SRC → residue gap row (c + 19) ≡ single_lane row c
unfolding residue
tail_residue gap row c low high =
    let e : c + 19 - 19 ≡ c = omega arith in
    rw (le-ltb (c + 19) 22 (omega arith), lt-ltb (c + 19) 29 (omega arith), e)

pub equations_of : (gap : ℕ) (row : List ℕ) → ((i : ℕ) → i < RESIDUES → residue gap row i ≡ 0) → Equations gap row
unfolding residue
equations_of gap row z =
    record {
      first = z 0 (lit< tt);
      end = z 1 (lit< tt);
      single = z 2 (lit< tt);
      mu = z 3 (lit< tt);
      is_set = z 4 (lit< tt);
      is_write = z 5 (lit< tt);
      marks_live = z 6 (lit< tt);
      one_hot_lem = z 7 (lit< tt);
      kinds_live = z 8 (lit< tt);
      first_write_lem = z 9 (lit< tt);
      src_low = z 10 (lit< tt);
      src_high = z 11 (lit< tt);
      dst_low = z 12 (lit< tt);
      dst_high = z 13 (lit< tt);
      count_low = z 14 (lit< tt);
      count_high = z 15 (lit< tt);
      res_low_lem = z 16 (lit< tt);
      res_high_lem = z 17 (lit< tt);
      same_low = z 18 (lit< tt);
      same_high = z 19 (lit< tt);
      gap_low_lem = z 20 (lit< tt);
      gap_high_lem = z 21 (lit< tt);
      tail = λ c low high. sym (tail_residue gap row c low high) ∙ z (c + 19) (omega arith);
      borrow_first = z 29 (lit< tt);
      zero_low = z 30 (lit< tt);
      zero_high = z 31 (lit< tt);
      last_high = z 32 (lit< tt);
      last_low = z 33 (lit< tt);
      borrow_end = z 34 (lit< tt);
      mu_com_lem = z 35 (lit< tt);
      mu_com_wide = z 36 (lit< tt);
      src_free = z 37 (lit< tt);
      dst_free = z 38 (lit< tt);
      gap_free = z 39 (lit< tt);
    }

-- a list of zeroes
infixr 5 ◌&◌
data Zeroes : List ℕ → Type 0 where
  none : Zeroes []
  ◌&◌ : {x : ℕ} {xs : List ℕ} → x ≡ 0 → Zeroes xs → Zeroes (x ∷ xs)

zero_at_lem : {l : List ℕ} → Zeroes l → (i : ℕ) → get_or l i 0 ≡ 0
zero_at_lem none i = refl
zero_at_lem (h & t) zero = h
zero_at_lem (h & t) (suc i) = zero_at_lem t i

module _ (gap : ℕ) (row : List ℕ) (e : Equations gap row) where
  front_zero : Zeroes (front gap row)
  front_zero =
      e.first & e.end & e.single & e.mu & e.is_set & e.is_write & e.marks_live & e.one_hot_lem & e.kinds_live & e.first_write_lem
      & e.src_low & e.src_high & e.dst_low & e.dst_high & e.count_low & e.count_high & e.res_low_lem & e.res_high_lem & e.same_low
      & e.same_high & e.gap_low_lem & e.gap_high_lem & none

  back_zero : Zeroes (back gap row)
  back_zero =
      e.borrow_first & e.zero_low & e.zero_high & e.last_high & e.last_low & e.borrow_end & e.mu_com_lem & e.mu_com_wide & e.src_free
      & e.dst_free & e.gap_free & none

  pub residues_zero : (i : ℕ) → residue gap row i ≡ 0
  unfolding residue
  residues_zero i = go (ltb i 22) refl (ltb i 29) refl
    where
      go : (s : Bool) → ltb i 22 ≡ s → (t : Bool) → ltb i 29 ≡ t
          → cond s (get_or (front gap row) i 0) (cond t (single_lane row (i - 19)) (get_or (back gap row) (i - 29) 0)) ≡ 0
      go true a t b = zero_at_lem front_zero i
      go false a true b = e.tail (i - 19) (omega (arith, ltb-false i 22 a)) (omega (arith, ltb-false i 22 a, ltb-true i 29 b))
      go false a false b = zero_at_lem back_zero (i - 29)
