-- A number read digit by digit, each digit tested for the range, is the number that the whole text is: more digits never make a
-- number smaller, so the first one past 2^64 - 1 decides. Assumes nothing.
use Prim.Native.Nat.{ℕ, suc, ◌+◌, ◌*◌, ◌-◌, ◌≤◌, ◌<◌}
use mathlib.Core.Path.{◌≡◌, refl, sym}
use mathlib.Core.Bool.{Bool, true, false, cond, ◌&&◌}
use mathlib.Core.List.{List, [], ◌∷◌}
use native.Mathlib.Numerals.{add-one}
use native.Mathlib.Omega.{arith}
use borrow.Author.Tests.{lt-ltb, le-ltb, ltb-true, ltb-false, le-leb, lt-leb}
use lib.ListN.{length, drop, get_or, drop_of_length-le}
use lib.Seq.{drop-cons}
use lib.Dec.{ltb, leb}
use Rattle.text.specs.Numbers.{TOP, is_digit, all_digits, decimal_from, is_number, number_of}
use Rattle.text.specs.Inner.{digit_of}
use Rattle.std.specs.Prelude.{Option, Some, None, option_and_then}
use Rattle.text.proofs.Pieces.{and_false}

-- more digits never make a number smaller
pub decimal_up : (l : List ℕ) (v : ℕ) → v ≤ decimal_from v l
unfolding decimal_from
decimal_up [] v = omega arith
decimal_up (b ∷ bs) v = let h = decimal_up bs (10 * v + (b - 48)) in omega arith

-- reading on digit by digit, v read so far
unfoldable pub number_from : ℕ → List ℕ → Option ℕ
number_from v [] = Some v
number_from v (b ∷ bs) = option_and_then (λ w. number_from w bs) (digit_of v b)

-- the same with the tests on the whole text
unfoldable pub read : ℕ → List ℕ → Option ℕ
read v l = cond (all_digits l && ltb (decimal_from v l) TOP) (Some (decimal_from v l)) None

pick_same : (t : Bool) → cond {A = Option ℕ} t None None ≡ None
pick_same true = refl
pick_same false = refl

-- one digit, with what is known of the rest
number_step : (l : List ℕ) (v b : ℕ) (d t : Bool) → is_digit b ≡ d → ltb (10 * v + (b - 48)) TOP ≡ t
    → ((w : ℕ) → w < TOP → number_from w l ≡ read w l)
    → number_from v (b ∷ l) ≡ read v (b ∷ l)
unfolding number_from read digit_of all_digits decimal_from
number_step l v b false t e f ih = rw e
number_step l v b true true e f ih = rw (e, f) (ih (10 * v + (b - 48)) (ltb-true (10 * v + (b - 48)) TOP f))
number_step l v b true false e f ih =
    let w = 10 * v + (b - 48) in
    let h : ltb (decimal_from w l) TOP ≡ false = le-ltb (decimal_from w l) TOP (omega (arith, decimal_up l w, ltb-false w TOP f)) in
    rw (e, f, h, and_false (all_digits l))

-- the two agree
pub number_from_lem : (l : List ℕ) (v : ℕ) → v < TOP → number_from v l ≡ read v l
unfolding number_from read all_digits decimal_from
number_from_lem [] v h = rw (lt-ltb _ _ h)
number_from_lem (b ∷ l) v h = number_step l v b (is_digit b) (ltb (10 * v + (b - 48)) TOP) refl refl (number_from_lem l)

-- a text of 1 to 20 bytes is read from 0; another is no number
pub number_whole : (l : List ℕ) → 0 < length l → length l ≤ 20 → number_of l ≡ number_from 0 l
unfolding number_of is_number read
number_whole l h k =
    rw (le-leb 1 (length l) h, le-leb (length l) 20 k) (sym (number_from_lem l 0 (omega arith)))

zero_ne : (n : ℕ) → suc n ≡ 0 → ⊥
zero_ne n h = omega arith

pub number_none : (l : List ℕ) → length l ≡ 0 → number_of l ≡ None
unfolding number_of is_number
number_none [] h = refl
number_none (x ∷ l) h = absurd (zero_ne (length l) h)

pub number_long : (l : List ℕ) → 20 < length l → number_of l ≡ None
unfolding number_of is_number
number_long l h = rw (lt-leb (length l) 20 h, and_false (leb 1 (length l)))

-- one turn of the loop: its digit, its two outcomes, and the end
pub number_turn : (l : List ℕ) (v i : ℕ) → i < length l → number_from v (drop i l) ≡ option_and_then (λ w. number_from w (drop (i + 1) l)) (digit_of v (get_or l i 0))
unfolding number_from
number_turn l v i h = rw (add-one i, drop-cons l i 0)

pub number_stop : (l : List ℕ) (v i : ℕ) → i < length l → digit_of v (get_or l i 0) ≡ None → number_from v (drop i l) ≡ None
number_stop l v i h e = rw (number_turn l v i h, e)

pub number_more : (l : List ℕ) (v i w : ℕ) → i < length l → digit_of v (get_or l i 0) ≡ Some w → number_from v (drop i l) ≡ number_from w (drop (i + 1) l)
number_more l v i w h e = rw (number_turn l v i h, e)

pub number_end : (l : List ℕ) (v i : ℕ) → length l ≤ i → number_from v (drop i l) ≡ Some v
unfolding number_from
number_end l v i h = rw (drop_of_length-le l h)

-- what reading on comes to, turn by turn
pub ruleset all_turns = (number_none, number_long, number_whole, number_stop, number_more, number_end)

-- the outcomes of one digit
pub digit_low : (v b : ℕ) → b < 48 → digit_of v b ≡ None
unfolding digit_of is_digit
digit_low v b h = rw (lt-leb 48 b h)

pub digit_high : (v b : ℕ) → 57 < b → digit_of v b ≡ None
unfolding digit_of is_digit
digit_high v b h = rw (lt-leb b 57 h, and_false (leb 48 b))

pub digit_past : (v b : ℕ) → TOP ≤ 10 * v + (b - 48) → digit_of v b ≡ None
unfolding digit_of
digit_past v b h = rw (le-ltb (10 * v + (b - 48)) TOP h) (pick_same (is_digit b))

pub digit_next : (v b : ℕ) → 48 ≤ b → b ≤ 57 → 10 * v + (b - 48) < TOP → digit_of v b ≡ Some (10 * v + (b - 48))
unfolding digit_of is_digit
digit_next v b h k m = rw (le-leb 48 b h, le-leb b 57 k, lt-ltb (10 * v + (b - 48)) TOP m)

pub ruleset one_digit = (digit_low, digit_high, digit_past, digit_next)
