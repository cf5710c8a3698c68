-- How many rows the rule gives: as many as before where no row meets an edge, and seven more at most for each edge. Assumes nothing.
use mathlib.Core.Path.{◌≡◌, refl, sym, ap, ◌∙◌}
use mathlib.Core.Logic.{inl, inr}
use mathlib.Core.Bool.{Bool, true, false, cond, not, ◌&&◌, ◌||◌, true≢false}
use mathlib.Core.List.{List, ◌∷◌, ◌++◌}
use Prim.Native.Nat.{ℕ, zero, suc, ◌+◌, ◌-◌, ◌*◌, ◌/◌, ◌%◌, ◌≤◌, ◌<◌}
use native.Mathlib.Omega.{arith}
use borrow.Author.Tests.{ltb-false, leb-true, leb-false, eqb-true, eqb-false, ne_eqb}
use lib.Dec.{leb, ltb, eqb}
use lib.ListN.{length, replicate, length-append, length-replicate}
use Rattle.call.specs.Calls.{Call}
use Rattle.call.specs.Cuts.{OneOrEight, rest}
use Rattle.expansion_rows.specs.Rows.{PAGE, last_byte, one_page, copy_row_width, widths_of}
use Rattle.expansion_rows.specs.WidthRule.{BothSides, Wide}
use Rattle.expansion_rows.proofs.Width.{width_cases}
use Rattle.expansion_rows.proofs.Widths.{widths_none, widths_next}
use Rattle.expansion_rows.proofs.WidthRule.{one_side, is_eight, is_one}
use Rattle.expansion.specs.Refusals.{outside_window}
use Rattle.expansion.specs.RowNumbers.{plain_widths, Plain, edges_in, edges_of, RowNumbers, RowNumberCases}
use Rattle.expansion.proofs.Computing.{computing}

-- Fewer than eight bytes go one by one

ones : (n : ℕ) (c : Call) → c.count ≡ n → n < 8 → widths_of c ≡ replicate n 1
ones zero c e h = widths_none c e
ones (suc n) c e h =
    widths_next c 1 (sym (is_one c (λ w. omega (arith, w.remain)))) (omega arith)
    ∙ ap (λ (ws : List ℕ). 1 ∷ ws) (ones n (rest c 1) (omega arith) (omega arith))

-- Bytes that meet no edge: none of their eights, counted from the first byte on, lies on both sides of one

abbrev Clear : ℕ → ℕ → Type 0
Clear a n = (k : ℕ) → 8 * k + 8 ≤ n → BothSides (a + 8 * k) → ⊥

clear_first : (a n : ℕ) → 8 ≤ n → Clear a n → BothSides a → ⊥
clear_first a n h clear (m, below, reached) = clear 0 (omega arith) (m, omega arith, omega arith)

clear_rest : (a n : ℕ) → Clear a n → Clear (a + 8) (n - 8)
clear_rest a n clear k h (m, below, reached) = clear (suc k) (omega arith) (m, omega arith, omega arith)

clear_window : (a n : ℕ) → a + n ≤ 4096 → Clear a n
clear_window a n h k within (m, below, reached) = omega arith

clear_eights : (a n : ℕ) → a % 8 ≡ 0 → Clear a n
clear_eights a n e k within (m, below, reached) = omega arith

record NoEdge (c : Call) : Type 0 where
  pub source : Clear c.src c.count
  pub dest : (c.kind ≡ 2 → ⊥) → Clear c.dst c.count

eights : (k r : ℕ) (c : Call) → c.count ≡ 8 * k + r → r < 8 → NoEdge c → widths_of c ≡ replicate k 8 ++ replicate r 1
eights zero r c e h clear = ones r c (omega arith) h
eights (suc k) r c e h clear =
    let remain : 8 ≤ c.count = omega arith in
    let wide : Wide c =
    record {
      remain = remain;
      source = clear_first c.src c.count remain clear.source;
      dest = λ other. clear_first c.dst c.count remain (clear.dest other);
    } in
    let later : NoEdge (rest c 8) =
    record {
      source = clear_rest c.src c.count clear.source;
      dest = λ other. clear_rest c.dst c.count (clear.dest other);
    } in
    widths_next c 8 (sym (is_eight c wide)) (omega arith)
    ∙ ap (λ (ws : List ℕ). 8 ∷ ws) (eights k r (rest c 8) (omega arith) h later)

plain_widths_lem : (c : Call) → NoEdge c → Plain c
plain_widths_lem c clear = eights (c.count / 8) (c.count % 8) c (omega arith) (omega arith) clear

pub plain_rows : (n : ℕ) → length (plain_widths n) ≡ n / 8 + n % 8
plain_rows n =
    let eight : List ℕ = replicate (n / 8) 8 in
    let one : List ℕ = replicate (n % 8) 1 in
    omega (arith, length-append eight one, length-replicate {A = ℕ} (n / 8) 8, length-replicate {A = ℕ} (n % 8) 1)

-- bytes in a window that ends by the first edge
pub plain_inside : (c : Call) (cells : ℕ) → cells ≤ 4096 → (0 < c.count → c.src + c.count ≤ cells)
    → (0 < c.count → (c.kind ≡ 2 → ⊥) → c.dst + c.count ≤ cells) → Plain c
plain_inside c cells small source dest =
    plain_widths_lem c
    record {
      source = λ k h. clear_window c.src c.count (omega (arith, source (omega arith))) k h;
      dest = λ other k h. clear_window c.dst c.count (omega (arith, dest (omega arith) other)) k h;
    }

-- what 2 says where it does not refuse
inside : (empty source write dest : Bool) → not empty && (source || (not write && dest)) ≡ false → empty ≡ false
    → (source ≡ false) × (write ≡ false → dest ≡ false)
inside true source write dest e some = absurd (true≢false some)
inside false true write dest e some = absurd (true≢false e)
inside false false true dest e some = (refl, λ other. absurd (true≢false other))
inside false false false dest e some = (refl, λ other. e)

within : (c : Call) (cells : ℕ) → outside_window c cells ≡ false → 0 < c.count
    → (c.src + c.count ≤ cells) × ((c.kind ≡ 2 → ⊥) → c.dst + c.count ≤ cells)
within c cells e some =
    let both = inside (eqb c.count 0) (ltb cells (c.src + c.count)) (eqb c.kind 2) (ltb cells (c.dst + c.count)) e
    (ne_eqb c.count 0 (λ none. omega arith)) in
    (ltb-false cells (c.src + c.count) both.0, λ other. ltb-false cells (c.dst + c.count) (both.1 (ne_eqb c.kind 2 other)))

-- How many places below x have their eight bytes on both sides of an edge: the last seven before each

abbrev crossings : ℕ → ℕ
crossings x = 7 * (x / 4096) + (x % 4096 - 4089)

crossings_rise : (a b : ℕ) → a ≤ b → crossings a ≤ crossings b
crossings_rise a b h = omega arith

crossings_next : (a : ℕ) → one_page a ≡ false → crossings a + 1 ≤ crossings (a + 1)
crossings_next a e = omega (arith, eqb-false (a / PAGE) (last_byte a / PAGE) e)

-- eight bytes within n lie on both sides of no edge but those that the n go over
crossings_edges : (a n : ℕ) → 8 ≤ n → crossings (a + n - 7) ≤ crossings a + 7 * edges_in a n
crossings_edges a n h = omega arith

-- those of source and destination; a Write's index is not judged
abbrev passed : (kind src dst : ℕ) → ℕ
passed kind src dst = crossings src + cond (eqb kind 2) 0 (crossings dst)

passed_rise : (kind a b a' b' : ℕ) → a ≤ a' → b ≤ b' → passed kind a b ≤ passed kind a' b'
passed_rise kind a b a' b' source dest = step (eqb kind 2)
  where
    step : (write : Bool) → crossings a + cond write 0 (crossings b) ≤ crossings a' + cond write 0 (crossings b')
    step true = omega (arith, crossings_rise a a' source)
    step false = omega (arith, crossings_rise a a' source, crossings_rise b b' dest)

passed_edges : (c : Call) → 8 ≤ c.count
    → passed c.kind (c.src + c.count - 7) (c.dst + c.count - 7) ≤ passed c.kind c.src c.dst + 7 * edges_of c
passed_edges c h = step c.src c.dst c.count h (eqb c.kind 2)
  where
    step : (a b n : ℕ) → 8 ≤ n → (write : Bool)
        → crossings (a + n - 7) + cond write 0 (crossings (b + n - 7))
        ≤ crossings a + cond write 0 (crossings b) + 7 * (edges_in a n + cond write 0 (edges_in b n))
    step a b n h true = omega (arith, crossings_edges a n h)
    step a b n h false = omega (arith, crossings_edges a n h, crossings_edges b n h)

-- a row of one byte, where eight or more remain, passes one of them
narrow_passes : (c : Call) → 8 ≤ c.count → copy_row_width c ≡ 1
    → passed c.kind c.src c.dst + 1 ≤ passed c.kind (c.src + 1) (c.dst + 1)
narrow_passes c remain narrow = step (one_page c.src) (eqb c.kind 2) (one_page c.dst) refl refl refl
  where
    wide : one_page c.src ≡ true → ((c.kind ≡ 2 → ⊥) → one_page c.dst ≡ true) → ⊥
    wide s d =
        let eight = is_eight c record { remain = remain; source = one_side c.src s; dest = λ other. one_side c.dst (d other) } in
        omega (arith, eight, narrow)

    step : (source write dest : Bool) → one_page c.src ≡ source → eqb c.kind 2 ≡ write → one_page c.dst ≡ dest
        → crossings c.src + cond write 0 (crossings c.dst) + 1 ≤ crossings (c.src + 1) + cond write 0 (crossings (c.dst + 1))
    step true true dest s w d = absurd (wide s (λ other. absurd (other (eqb-true c.kind 2 w))))
    step true false true s w d = absurd (wide s (λ other. d))
    step true false false s w d = omega (arith, crossings_rise c.src (c.src + 1) (omega arith), crossings_next c.dst d)
    step false true dest s w d = omega (arith, crossings_next c.src s)
    step false false dest s w d = omega (arith, crossings_next c.src s, crossings_rise c.dst (c.dst + 1) (omega arith))

-- The rows from here on: an eighth of the bytes, seven at the end, and one for each place that is passed up to there

few_length : (c : Call) → c.count < 8 → length (widths_of c) ≡ c.count
few_length c h = ap (λ (ws : List ℕ). length ws) (ones c.count c refl h) ∙ length-replicate c.count 1

next_length : (c : Call) (w : ℕ) → copy_row_width c ≡ w → 0 < c.count → length (widths_of c) ≡ suc (length (widths_of (rest c w)))
next_length c w e some = ap (λ (ws : List ℕ). length ws) (widths_next c w (sym e) some)

record Bounded (c : Call) (e f : ℕ) : Type 0 where
  rows : length (widths_of c) + passed c.kind c.src c.dst ≤ c.count / 8 + 7 + passed c.kind e f

-- e and f are seven bytes before the ends of source and destination
record Ends (c : Call) (e f : ℕ) : Type 0 where
  source : c.src + c.count ≡ e + 7
  dest : c.dst + c.count ≡ f + 7

few_bounded : (c : Call) (e f : ℕ) → Ends c e f → 7 ≤ c.count → length (widths_of c) ≤ 7 → Bounded c e f
few_bounded c e f ends seven few =
    record { rows = omega (arith, passed_rise c.kind c.src c.dst e f (omega (arith, ends.source)) (omega (arith, ends.dest))) }

-- one row, and the others by what is known of them
next_bounded : (c : Call) (e f : ℕ) → 7 ≤ c.count → Ends c e f → ((w : ℕ) → 0 < w → w + 7 ≤ c.count → Bounded (rest c w) e f) → Bounded c e f
next_bounded c e f seven ends later = by_count (leb 8 c.count) refl
  where
    by_room : copy_row_width c ≡ 8 → 8 ≤ c.count → (b : Bool) → leb 15 c.count ≡ b → Bounded c e f
    by_room wide remain true h =
        let room : 15 ≤ c.count = leb-true 15 c.count h in
        let rise = passed_rise c.kind c.src c.dst (c.src + 8) (c.dst + 8) (omega arith) (omega arith) in
        record { rows = omega (arith, rise, next_length c 8 wide (omega arith), (later 8 (omega arith) (omega arith)).rows) }
    by_room wide remain false h =
        let room : c.count < 15 = leb-false 15 c.count h in
        few_bounded c e f ends seven (omega (arith, next_length c 8 wide (omega arith), few_length (rest c 8) (omega arith)))

    by_width : 8 ≤ c.count → OneOrEight (copy_row_width c) → Bounded c e f
    by_width remain (inl narrow) =
        record {
          rows =
              omega
              (arith, narrow_passes c remain narrow, next_length c 1 narrow (omega arith), (later 1 (omega arith) (omega arith)).rows);
        }
    by_width remain (inr wide) = by_room wide remain (leb 15 c.count) refl

    by_count : (b : Bool) → leb 8 c.count ≡ b → Bounded c e f
    by_count true h = by_width (leb-true 8 c.count h) (width_cases c)
    by_count false h =
        let few : c.count < 8 = leb-false 8 c.count h in
        few_bounded c e f ends seven (omega (arith, few_length c few))

bounded : (g : ℕ) (c : Call) (e f : ℕ) → c.count ≤ g → 7 ≤ c.count → Ends c e f → Bounded c e f
bounded zero c e f within seven ends = absurd (omega arith)
bounded (suc g) c e f within seven ends =
    next_bounded c e f seven ends
    (λ w some room.
    bounded g (rest c w) e f (omega arith) (omega arith)
    record { source = omega (arith, ends.source); dest = omega (arith, ends.dest) })

abbrev MostRows : Call → Type 0
MostRows c = length (widths_of c) ≤ c.count / 8 + 7 + 7 * edges_of c

most_rows : (c : Call) → MostRows c
most_rows c = by_count (leb 8 c.count) refl
  where
    by_count : (b : Bool) → leb 8 c.count ≡ b → MostRows c
    by_count true h =
        let remain : 8 ≤ c.count = leb-true 8 c.count h in
        let all =
        bounded c.count c (c.src + c.count - 7) (c.dst + c.count - 7) (omega arith) (omega arith)
        record { source = omega arith; dest = omega arith } in
        omega (arith, all.rows, passed_edges c remain)
    by_count false h =
        let few : c.count < 8 = leb-false 8 c.count h in
        omega (arith, few_length c few)

pub row_numbers_lem : RowNumbers
row_numbers_lem =
    record {
      small_window_lem = λ c cells small e.
          plain_inside c cells (omega arith)
          (λ some. (within c cells e some).0)
          (λ some other. (within c cells e some).1 other);
      in_eights = λ c source dest.
          plain_widths_lem c
          record {
            source = clear_eights c.src c.count source;
            dest = λ other. clear_eights c.dst c.count (dest other);
          };
      plain = plain_rows;
      most = most_rows;
    }

pub row_number_cases : RowNumberCases
unfolding computing
row_number_cases =
    record {
      one = refl;
      one_short = refl;
      eight = refl;
      ops_short = refl;
      accesses_short = refl;
      up_to_lem = refl;
      over = refl;
      between = refl;
      empty = refl;
    }
