-- How many rows a call has by document 02's rule, and that "9 is judged on the new row number". `row_numbers_hold` in theorems carries both.
-- Assumes nothing.
use Rattle.std.specs.Prelude.{◌≡◌, cond, false, List, ◌++◌, ℕ, ◌+◌, ◌-◌, ◌*◌, ◌/◌, ◌%◌, ◌≤◌, eqb, length, replicate}
use Rattle.answer.specs.Numbers.{accepted, refused}
use Rattle.answer.specs.declared.Answer.{Answer}
use Rattle.call.specs.Calls.{Call}
use Rattle.expansion_rows.specs.Rows.{widths_of}
use Rattle.expansion.specs.Tries.{under, lengths_are}
use Rattle.expansion.specs.Refusals.{outside_window, answer_by}

-- the widths of n bytes that meet no edge: 8 while 8 or more remain, then 1
abbrev pub plain_widths : ℕ → List ℕ
plain_widths n = replicate (n / 8) 8 ++ replicate (n % 8) 1

-- the rows of a call are of these widths
abbrev pub Plain : Call → Type 0
Plain c = widths_of c ≡ plain_widths c.count

-- how many multiples of 4,096 the n bytes from a on go over
abbrev pub edges_in : ℕ → ℕ → ℕ
edges_in a n = (a + n - 1) / 4096 - a / 4096

-- those of a call, source and destination; a Write's index goes over none
abbrev pub edges_of : Call → ℕ
edges_of c = edges_in c.src c.count + cond (eqb c.kind 2) 0 (edges_in c.dst c.count)

pub record RowNumbers : Type 0 where
  -- a call that 2 does not refuse in a window of at most 4,096 cells meets no edge: callcheck's window and a load's are such
  pub small_window_lem : (c : Call) (cells : ℕ) → cells ≤ 4096 → outside_window c cells ≡ false → Plain c
  -- nor does one that goes from a multiple of 8 to a multiple of 8
  pub in_eights : (c : Call) → c.src % 8 ≡ 0 → ((c.kind ≡ 2 → ⊥) → c.dst % 8 ≡ 0) → Plain c
  -- such a call has count / 8 + count % 8 rows
  pub plain : (n : ℕ) → length (plain_widths n) ≡ n / 8 + n % 8
  -- any call has at most count / 8 + 7, and 7 more for each edge
  pub most : (c : Call) → length (widths_of c) ≤ c.count / 8 + 7 + 7 * edges_of c

-- what is answered to a Copy of eight bytes to 0, in a window of 65,536 cells, by its source and the lengths of the two buffers
abbrev pub copy_answered : (src ops accesses : ℕ) → Answer
copy_answered src ops accesses =
    answer_by (under 8) (record { kind = 0; stamp = 4; src = src; dst = 0; count = 8 }) (lengths_are 65536 65536 ops accesses)

pub record RowNumberCases : Type 0 where
  -- from 4,088 one row, from 4,089 eight; a buffer one number short is 9
  pub one : copy_answered 4088 16 58 ≡ accepted 1
  pub one_short : copy_answered 4088 15 58 ≡ refused 9 0
  pub eight : copy_answered 4089 128 464 ≡ accepted 8
  pub ops_short : copy_answered 4089 127 464 ≡ refused 9 0
  pub accesses_short : copy_answered 4089 128 463 ≡ refused 9 0
  -- bytes up to an edge do not go over it
  pub up_to_lem : edges_in 0 4096 ≡ 0
  pub over : edges_in 0 4097 ≡ 1
  pub between : edges_in 4095 4098 ≡ 2
  pub empty : edges_in 4096 0 ≡ 0
