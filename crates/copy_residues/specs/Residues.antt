-- The 40 residues of a copy row: the equations of `CopyConstraints` in copy.rs, by their numbers, with `gap` for `DMA_MEMSET_GAP`. The
-- names are those of its constraints (`copy:c:..`). Every number is an element, and each line is the equation's left side. Assumes nothing.
use Rattle.std.specs.Prelude.{ℕ, ◌+◌, ◌-◌, cond, List, [], ◌∷◌, ltb, get_or}
use Rattle.lists.specs.Lists.{at}
use Rattle.field.specs.Field.{p, add_p, sub_p, mul_p, bit_p}
use Rattle.field.specs.Constants.{inv16, inv32, inv48, inv64, neg_inv32, neg_inv64, neg_seven_inv64, eight_inv64}
use Rattle.field.specs.Carries.{carry_low, carry_high}
use Rattle.copy_row.specs.Columns.{SRC, DST, COUNT, COUNT_DECR, DST_RES, FIRST, END, SINGLE, IS_SET, IS_WRITE, FIRST_WRITE, MU, MU_COM, MU_COM_WIDE}

-- Parts that residues share

-- the word of the two halves from column c on
unfoldable pub halves_word : List ℕ → ℕ → ℕ
halves_word row c = add_p (at row c) (mul_p 65536 (at row (c + 1)))

-- the row's width, 8 - 7 SINGLE
unfoldable pub step : List ℕ → ℕ
step row = add_p 8 (mul_p (p - 7) (at row SINGLE))

-- the carries of the number in words at column c and the step, over the sum in halves two columns on: SRC and SRC_INCR (10 and 11,
-- src_incr), DST and DST_INCR (12 and 13, dst_incr)
unfoldable pub incr_low : List ℕ → ℕ → ℕ
incr_low row c = carry_low (at row c) (step row) (halves_word row (c + 2))

unfoldable pub incr_high : List ℕ → ℕ → ℕ
incr_high row c = carry_high (at row (c + 1)) 0 (incr_low row c) (halves_word row (c + 4))

-- the carries of COUNT_DECR and the step, over COUNT (14 and 15, count_borrows): the borrows of COUNT - step
unfoldable pub decr_low : List ℕ → ℕ
decr_low row = carry_low (halves_word row COUNT_DECR) (step row) (at row COUNT)

unfoldable pub decr_high : List ℕ → ℕ
decr_high row = carry_high (halves_word row (COUNT_DECR + 2)) 0 (decr_low row) (at row (COUNT + 1))

-- the carries of DST and COUNT, over DST_RES (16 and 17)
unfoldable pub res_low : List ℕ → ℕ
res_low row = carry_low (at row DST) (at row COUNT) (halves_word row DST_RES)

unfoldable pub res_high : List ℕ → ℕ
res_high row = carry_high (at row (DST + 1)) (at row (COUNT + 1)) (res_low row) (halves_word row (DST_RES + 2))

-- the carries of SRC and the gap, over DST (20 and 21)
unfoldable pub gap_low : ℕ → List ℕ → ℕ
gap_low gap row = carry_low (at row SRC) gap (at row DST)

unfoldable pub gap_high : ℕ → List ℕ → ℕ
gap_high gap row = carry_high (at row (SRC + 1)) 0 (gap_low gap row) (at row (DST + 1))

-- `count_borrows[1]`, the borrow out of COUNT - step, as copy.rs writes it out over the columns
unfoldable pub borrow : List ℕ → ℕ
borrow row =
    add_p (add_p (add_p (add_p (add_p (add_p (add_p
    (mul_p inv32 (at row (COUNT_DECR + 2)))
    (mul_p inv16 (at row (COUNT_DECR + 3))))
    (mul_p neg_inv32 (at row (COUNT + 1))))
    (mul_p inv64 (at row COUNT_DECR)))
    (mul_p inv48 (at row (COUNT_DECR + 1))))
    (mul_p neg_inv64 (at row COUNT)))
    (mul_p neg_seven_inv64 (at row SINGLE)))
    eight_inv64

-- The equations

-- 6, first_or_end_implies_mu (FIRST, END), and 8, functionality_implies_mu (IS_SET, IS_WRITE): a row with a mark is live
unfoldable pub implies_mu : List ℕ → ℕ → ℕ → ℕ
implies_mu row a b = mul_p (add_p (at row a) (at row b)) (sub_p 1 (at row MU))

-- 7, one_hot: not both a Set and a Write
unfoldable pub one_hot : List ℕ → ℕ
one_hot row = mul_p (at row IS_SET) (at row IS_WRITE)

-- 9, first_write: FIRST_WRITE is FIRST on a Write
unfoldable pub first_write : List ℕ → ℕ
first_write row = sub_p (at row FIRST_WRITE) (mul_p (at row FIRST) (at row IS_WRITE))

-- 16 and 17, dst_res_is_write (IS_WRITE), and 20 and 21, set_gap (IS_SET): a carry x that must be a bit where column c is not 0
unfoldable pub gated_bit : List ℕ → ℕ → ℕ → ℕ
gated_bit row c x = mul_p (at row c) (bit_p x)

-- 18 and 19, dst_res_non_write: DST_RES is DST unless the row is a Write; w is 0 for the low word, 1 for the high one
unfoldable pub dst_res_non_write : List ℕ → ℕ → ℕ
dst_res_non_write row w = mul_p (sub_p 1 (at row IS_WRITE)) (sub_p (halves_word row (DST_RES + w + w)) (at row (DST + w)))

-- 22 to 28, single_lanes: column c is 0 on a row of one byte
unfoldable pub single_lane : List ℕ → ℕ → ℕ
single_lane row c = mul_p (at row SINGLE) (at row c)

-- 29, borrow_implies_first (FIRST), and 34, borrow_implies_end (END): a row that borrows has the mark in column c
unfoldable pub borrow_implies : List ℕ → ℕ → ℕ
borrow_implies row c = mul_p (borrow row) (sub_p 1 (at row c))

-- 30 and 31, borrow_implies_count_is_zero: column c of COUNT is 0 where the row borrows
unfoldable pub borrow_implies_zero : List ℕ → ℕ → ℕ
borrow_implies_zero row c = mul_p (borrow row) (at row c)

-- 32 and 33, end_implies_count_is_step_or_zc_upper and _lower: x is 0 on a last row that does not borrow
unfoldable pub end_implies : List ℕ → ℕ → ℕ
end_implies row x = mul_p (mul_p (at row END) (sub_p 1 (borrow row))) x

-- 35: MU_COM is the copy multiplicity, MU less the borrow, on a Write
unfoldable pub mu_com_is : List ℕ → ℕ
mu_com_is row = sub_p (at row MU_COM) (mul_p (sub_p (at row MU) (borrow row)) (at row IS_WRITE))

-- 36: MU_COM_WIDE is MU_COM on a row of eight bytes
unfoldable pub mu_com_wide_is : List ℕ → ℕ
mu_com_wide_is row = sub_p (at row MU_COM_WIDE) (mul_p (at row MU_COM) (sub_p 1 (at row SINGLE)))

-- 37 (SRC) and 38 (DST): the address in words at column c does not wrap on a row that moves a byte
unfoldable pub no_wrap : List ℕ → ℕ → ℕ
no_wrap row c = mul_p (sub_p (at row MU) (borrow row)) (incr_high row c)

-- 39: the gap of a Set does not wrap
unfoldable pub gap_no_wrap : ℕ → List ℕ → ℕ
gap_no_wrap gap row = mul_p (at row IS_SET) (gap_high gap row)

-- By their numbers

-- residues 0 to 21; 0 to 5 say that the flags are bits
abbrev pub front : ℕ → List ℕ → List ℕ
front gap row =
    -- 0
    bit_p (at row FIRST)
    -- 1
    ∷ bit_p (at row END)
    -- 2
    ∷ bit_p (at row SINGLE)
    -- 3
    ∷ bit_p (at row MU)
    -- 4
    ∷ bit_p (at row IS_SET)
    -- 5
    ∷ bit_p (at row IS_WRITE)
    -- 6
    ∷ implies_mu row FIRST END
    -- 7
    ∷ one_hot row
    -- 8
    ∷ implies_mu row IS_SET IS_WRITE
    -- 9
    ∷ first_write row
    -- 10
    ∷ bit_p (incr_low row SRC)
    -- 11
    ∷ bit_p (incr_high row SRC)
    -- 12
    ∷ bit_p (incr_low row DST)
    -- 13
    ∷ bit_p (incr_high row DST)
    -- 14
    ∷ bit_p (decr_low row)
    -- 15
    ∷ bit_p (decr_high row)
    -- 16
    ∷ gated_bit row IS_WRITE (res_low row)
    -- 17
    ∷ gated_bit row IS_WRITE (res_high row)
    -- 18
    ∷ dst_res_non_write row 0
    -- 19
    ∷ dst_res_non_write row 1
    -- 20
    ∷ gated_bit row IS_SET (gap_low gap row)
    -- 21
    ∷ gated_bit row IS_SET (gap_high gap row)
    ∷ []

-- residues 29 to 39
abbrev pub back : ℕ → List ℕ → List ℕ
back gap row =
    -- 29
    borrow_implies row FIRST
    -- 30
    ∷ borrow_implies_zero row COUNT
    -- 31
    ∷ borrow_implies_zero row (COUNT + 1)
    -- 32
    ∷ end_implies row (at row (COUNT + 1))
    -- 33
    ∷ end_implies row (sub_p (at row COUNT) (step row))
    -- 34
    ∷ borrow_implies row END
    -- 35
    ∷ mu_com_is row
    -- 36
    ∷ mu_com_wide_is row
    -- 37
    ∷ no_wrap row SRC
    -- 38
    ∷ no_wrap row DST
    -- 39
    ∷ gap_no_wrap gap row
    ∷ []

-- residue i, 0 to 39; 22 to 28 are the seven tail bytes, columns 3 to 9
unfoldable pub residue : ℕ → List ℕ → ℕ → ℕ
residue gap row i =
    cond (ltb i 22) (get_or (front gap row) i 0)
    (cond (ltb i 29) (single_lane row (i - 19)) (get_or (back gap row) (i - 29) 0))

-- how many residues there are
abbrev pub RESIDUES : ℕ
RESIDUES = 40
