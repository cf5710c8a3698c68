-- A load: calls that are drawn from one number s, and written as they are handed in. The words in quotes are document 02's. Assumes
-- nothing.
use Rattle.std.specs.Prelude.{◌≡◌, cond, ℕ, zero, suc, ◌+◌, ◌*◌, ◌/◌, ◌%◌, ◌^◌, eqb, ltb, length, Result, Ok, Err}
use mathlib.Core.List.{List, [], ◌∷◌, flat_map}
use Rattle.answer.specs.Numbers.{accepted, refused}
use Rattle.answer.specs.Refusals.{Refusal, refuse, first_of}
use Rattle.answer.specs.declared.Answer.{Answer}
use Rattle.lists.specs.Lists.{store, listed}
use Rattle.records.specs.Records.{LIMIT}
use Rattle.call.specs.Calls.{Call}
use Rattle.call.specs.Flat.{HANDED_WIDTH, handed_numbers}
use Rattle.load.specs.declared.LoadRefusal.{LoadRefusal}
use Rattle.load.specs.declared.LoadRefusal.TheVariants.{TooManyCalls, BufferShort}

-- Draws

-- "State s becomes s × 6364136223846793005 + 1442695040888963407 modulo 2^64"
unfoldable pub stepped : ℕ → ℕ
stepped s = (s * 6364136223846793005 + 1442695040888963407) % 2 ^ 64

-- the state after n steps from s on
unfoldable pub state_after : ℕ → ℕ → ℕ
state_after s zero = s
state_after s (suc n) = stepped (state_after s n)

-- "a draw is s div 2^32 after that": draw n, from 0, follows step n + 1
unfoldable pub draw : ℕ → ℕ → ℕ
draw s n = state_after s (n + 1) / 2 ^ 32

-- Calls

-- "For each call draw kind (mod 3, numbered as in the operation record), count (mod 33), src (mod 900), then dst (mod 900)": call k, from
-- 0, has the draws 4 × k to 4 × k + 3
abbrev pub kind_drawn : ℕ → ℕ → ℕ
kind_drawn s k = draw s (4 * k) % 3

abbrev pub count_drawn : ℕ → ℕ → ℕ
count_drawn s k = draw s (4 * k + 1) % 33

abbrev pub src_drawn : ℕ → ℕ → ℕ
src_drawn s k = draw s (4 * k + 2) % 900

abbrev pub dst_drawn : ℕ → ℕ → ℕ
dst_drawn s k = draw s (4 * k + 3) % 900

-- "gap is 8"
abbrev pub GAP : ℕ
GAP = 8

-- what a call of this kind and count adds to the index of the Write calls after it
abbrev pub indexed : ℕ → ℕ → ℕ
indexed kind count = cond (eqb kind 2) count 0

-- the counts of the Write calls before call k, summed
unfoldable pub index_at : ℕ → ℕ → ℕ
index_at s zero = 0
index_at s (suc k) = index_at s k + indexed (kind_drawn s k) (count_drawn s k)

-- "Set replaces dst by src + 8; Write replaces it by the sum of earlier Write counts"
abbrev pub replaced : (kind src dst index : ℕ) → ℕ
replaced kind src dst index = cond (eqb kind 1) (src + GAP) (cond (eqb kind 2) index dst)

-- "Call k, from 0, has stamp 4 × k"
unfoldable pub load_call : ℕ → ℕ → Call
load_call s k =
    record {
      kind = kind_drawn s k;
      stamp = 4 * k;
      src = src_drawn s k;
      dst = replaced (kind_drawn s k) (src_drawn s k) (dst_drawn s k) (index_at s k);
      count = count_drawn s k;
    }

-- the first n calls
abbrev pub load_calls : ℕ → ℕ → List Call
load_calls s n = listed (load_call s) 0 n

-- Answers

-- "19, more than 65,536 calls wanted, tested before 9", which is "an output buffer shorter than the result"
abbrev pub load_refusals : ℕ → ℕ → List Refusal
load_refusals n room = refuse 19 (ltb LIMIT n) ∷ refuse 9 (ltb room (HANDED_WIDTH * n)) ∷ []

-- the answer for n calls and a lent buffer of `room` numbers; its value is the number of calls
unfoldable pub load_answer : ℕ → ℕ → Answer
load_answer n room = first_of (load_refusals n room) (accepted n)

-- the lent buffer with the first n calls in it: "five numbers for each call, as read-back orders them". Numbers past them keep their values
unfoldable pub loaded : ℕ → ℕ → List ℕ → List ℕ
loaded s n calls = store calls 0 (flat_map handed_numbers (load_calls s n))

-- the lent buffer afterwards: a refusal writes nothing
unfoldable pub load_after : ℕ → ℕ → List ℕ → List ℕ
load_after s n calls = cond (eqb (load_answer n (length calls)).number 0) (loaded s n calls) calls

-- the number, place and value of each case of the code's answer
abbrev pub load_refusal_numbers : LoadRefusal → Answer
load_refusal_numbers TooManyCalls = refused 19 0
load_refusal_numbers BufferShort = refused 9 0

abbrev pub load_numbers : Result ℕ LoadRefusal → Answer
load_numbers (Ok calls) = accepted calls
load_numbers (Err why) = load_refusal_numbers why

-- what `generate_load` has to show: its numbers, and the lent buffer when it is done
pub record LoadDone (s n : ℕ) (calls : List ℕ) (numbers : Answer) (after : List ℕ) : Type 0 where
  pub answer : numbers ≡ load_answer n (length calls)
  pub written : after ≡ load_after s n calls
