-- What being in range says of the columns, group by group: words, halves, bytes, elements; and the numbers that the shared parts of the
-- residues stand for in such a row. Document 01: "VALUE below 256, WL columns words, HL columns halves". Assumes nothing.
use mathlib.Core.Path.{◌≡◌, refl, ap, subst}
use mathlib.Core.List.{List, [], ◌∷◌}
use Prim.Native.Nat.{ℕ, zero, suc, ◌+◌, ◌-◌, ◌*◌, ◌^◌, ◌<◌}
use native.Mathlib.Omega.{arith}
use lib.Dec.{lit<}
use lib.ListN.{length, get_or}
use Rattle.lists.specs.Lists.{at, eight_at, All}
use Rattle.field.specs.Field.{p, add_p, mul_p}
use Rattle.field.proofs.Laws.{mul_p_small}
use Rattle.copy_row.specs.Columns.{TIMESTAMP, VALUE, SRC, SRC_INCR, DST, DST_INCR, COUNT, COUNT_DECR, DST_RES, SINGLE, COLUMNS}
use Rattle.copy_residues.specs.Range.{column_limits}
use Rattle.copy_residues.specs.Residues.{halves_word, step}
use Rattle.copy_meaning.specs.ReadRow.{words_at, halves_at}
use Rattle.copy_meaning.specs.Inner.{TwoWords, FourHalves}
use Rattle.copy_meaning.specs.RowIff.{InRange}

-- a list is its numbers one by one, and a row its 41 columns
abbrev pub up_to : ℕ → (ℕ → ℕ) → List ℕ
up_to zero v = []
up_to (suc n) v = v 0 ∷ up_to n (λ c. v (suc c))

up_to_lem : (l : List ℕ) → l ≡ up_to (length l) (at l)
up_to_lem [] = refl
up_to_lem (x ∷ xs) = ap (λ t. x ∷ t) (up_to_lem xs)

pub columns_of : (l : List ℕ) (n : ℕ) → length l ≡ n → l ≡ up_to n (at l)
columns_of l n wide = subst (λ (n : ℕ). l ≡ up_to n (at l)) wide (up_to_lem l)

module _ (row : List ℕ) (range : InRange row) where
  column_below : (c m : ℕ) → c < COLUMNS → get_or column_limits c 0 ≡ m → at row c < m
  column_below c m h e = subst (λ (m : ℕ). at row c < m) e (range c h)

  words_in : (c : ℕ) → c + 1 < COLUMNS → get_or column_limits c 0 ≡ 2 ^ 32 → get_or column_limits (c + 1) 0 ≡ 2 ^ 32 → TwoWords row c
  words_in c h e f = record { low = column_below c (2 ^ 32) (omega arith) e; high = column_below (c + 1) (2 ^ 32) h f }

  halves_in : (c : ℕ) → c + 3 < COLUMNS → get_or column_limits c 0 ≡ 2 ^ 16 → get_or column_limits (c + 1) 0 ≡ 2 ^ 16
      → get_or column_limits (c + 2) 0 ≡ 2 ^ 16 → get_or column_limits (c + 3) 0 ≡ 2 ^ 16 → FourHalves row c
  halves_in c h e f g k =
      record {
        first = column_below c (2 ^ 16) (omega arith) e;
        second = column_below (c + 1) (2 ^ 16) (omega arith) f;
        third = column_below (c + 2) (2 ^ 16) (omega arith) g;
        fourth = column_below (c + 3) (2 ^ 16) h k;
      }

  pub stamp_words_lem : TwoWords row TIMESTAMP
  unfolding column_limits
  stamp_words_lem = words_in TIMESTAMP (lit< tt) refl refl

  pub src_words : TwoWords row SRC
  unfolding column_limits
  src_words = words_in SRC (lit< tt) refl refl

  pub dst_words : TwoWords row DST
  unfolding column_limits
  dst_words = words_in DST (lit< tt) refl refl

  pub count_words : TwoWords row COUNT
  unfolding column_limits
  count_words = words_in COUNT (lit< tt) refl refl

  pub src_halves : FourHalves row SRC_INCR
  unfolding column_limits
  src_halves = halves_in SRC_INCR (lit< tt) refl refl refl refl

  pub dst_halves : FourHalves row DST_INCR
  unfolding column_limits
  dst_halves = halves_in DST_INCR (lit< tt) refl refl refl refl

  pub count_halves : FourHalves row COUNT_DECR
  unfolding column_limits
  count_halves = halves_in COUNT_DECR (lit< tt) refl refl refl refl

  pub res_halves : FourHalves row DST_RES
  unfolding column_limits
  res_halves = halves_in DST_RES (lit< tt) refl refl refl refl

  pub value_bytes : All (λ (b : ℕ). b < 256) (eight_at row VALUE)
  unfolding column_limits
  value_bytes =
      let second = range (VALUE + 1) (lit< tt) in
      let third = range (VALUE + 2) (lit< tt) in
      let fourth = range (VALUE + 3) (lit< tt) in
      let fifth = range (VALUE + 4) (lit< tt) in
      let sixth = range (VALUE + 5) (lit< tt) in
      let seventh = range (VALUE + 6) (lit< tt) in
      omega (arith, range VALUE (lit< tt), range (VALUE + 7) (lit< tt))

pub words_below : (row : List ℕ) (c : ℕ) → TwoWords row c → words_at row c < 2 ^ 64
words_below row c w = omega arith

pub halves_below : (row : List ℕ) (c : ℕ) → FourHalves row c → halves_at row c < 2 ^ 64
halves_below row c h = omega arith

-- Shared parts

pub halves_word_lem : (row : List ℕ) (c : ℕ) → at row c < 2 ^ 16 → at row (c + 1) < 2 ^ 16
    → halves_word row c ≡ at row c + 2 ^ 16 * at row (c + 1)
unfolding halves_word add_p
halves_word_lem row c h k = omega (arith, mul_p_small 65536 (at row (c + 1)) (omega arith))

-- the two words of four halves
pub record WordsOf (row : List ℕ) (c : ℕ) : Type 0 where
  pub low : halves_word row c < 2 ^ 32
  pub high : halves_word row (c + 2) < 2 ^ 32
  pub whole : halves_word row c + 2 ^ 32 * halves_word row (c + 2) ≡ halves_at row c

pub words_of : (row : List ℕ) (c : ℕ) → FourHalves row c → WordsOf row c
words_of row c h =
    let e : at row (c + 2 + 1) ≡ at row (c + 3) = ap (at row) (omega arith) in
    let low = halves_word_lem row c h.first h.second in
    let high = halves_word_lem row (c + 2) h.third (omega (arith, h.fourth)) in
    record { low = omega arith; high = omega arith; whole = omega arith }

step_number_lem : (s : ℕ) → s < 2 → add_p 8 (mul_p (p - 7) s) ≡ 8 - 7 * s
unfolding add_p mul_p
step_number_lem zero h = refl
step_number_lem (suc zero) h = refl
step_number_lem (suc (suc s)) h = absurd (omega arith)

-- the step is the row's width
pub step_width : (row : List ℕ) → at row SINGLE < 2 → step row ≡ 8 - 7 * at row SINGLE
unfolding step
step_width row h = step_number_lem (at row SINGLE) h
