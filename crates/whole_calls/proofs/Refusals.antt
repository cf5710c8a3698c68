-- What is refused on the way: the maker refuses the records of accepted calls with 8 or 9 alone, and a refused call leaves nothing behind.
-- Assumes nothing.
use mathlib.Core.Path.{◌≡◌, refl, ap, ◌∙◌}
use mathlib.Core.Logic.{◌⊎◌, inl, inr}
use mathlib.Core.Bool.{Bool, true, false, cond}
use mathlib.Core.List.{List, [], ◌∷◌, ◌++◌, map}
use mathlib.Core.Option.{none}
use Prim.Native.Nat.{ℕ, ◌*◌, ◌^◌, ◌<◌}
use borrow.Author.Tests.{ne_eqb}
use lib.Dec.{eqb, ltb, leb}
use lib.ListN.{length}
use Rattle.std.specs.Prelude.{Ok, Err}
use Rattle.lists.specs.Lists.{All}
use Rattle.records.specs.Records.{LIMIT}
use Rattle.records.specs.RowCount.{row_count}
use Rattle.records.specs.Table.{TableAnswer, table_numbers}
use Rattle.records.specs.declared.TableRefusal.TheVariants.{TooManyRecords, BufferShort}
use Rattle.call.specs.Cuts.{CutCall, ops_of}
use Rattle.expansion.specs.Tries.{under, Try, Typed}
use Rattle.expansion.specs.Refusals.{answered, Accepts}
use Rattle.expansion.specs.Expansion.{lent_after}
use Rattle.expansion.proofs.Outcome.{refused_try}
use Rattle.copy_row.specs.Columns.{COLUMNS}
use Rattle.copy_row.specs.Trace.{copy_answer}
use Rattle.copy_meaning.specs.Steps.{LiveStep}
use Rattle.call_chain.proofs.Chained.{chain}
use Rattle.calls_in_turn.specs.Accepted.{accepted_of, accepted_ops}
use Rattle.whole_calls.proofs.LiveRows.{steps}
use Rattle.whole_calls.proofs.GoodRecords.{maker_answer}
use Rattle.whole_calls.proofs.Accepted.{cut_try, tries_fit, tries_wrote}

-- The maker

-- none of its other refusals is among these three answers
abbrev OnlyEightOrNine : ℕ → Type 0
OnlyEightOrNine number = (number ≡ 0) ⊎ (number ≡ 8) ⊎ (number ≡ 9)

three_answers : (over fits : Bool) (rows : ℕ) (answer : TableAnswer) → answer ≡ cond over (Err TooManyRecords) (cond fits (Ok rows) (Err BufferShort))
    → OnlyEightOrNine (table_numbers 8 answer).number
three_answers true fits rows answer e = rw e (inr (inl refl))
three_answers false true rows answer e = rw e (inl refl)
three_answers false false rows answer e = rw e (inr (inr refl))

pub maker_refuses : (gap : ℕ) → gap < 2 ^ 32 → (tries : List Try) → All Typed tries → (room : ℕ)
    → OnlyEightOrNine (table_numbers 8 (copy_answer LIMIT (accepted_ops (under gap) tries) room)).number
maker_refuses gap g tries typed room =
    let ks : List CutCall = map cut_try (accepted_of (under gap) tries) in
    let live : All (LiveStep gap) (ops_of ks) = steps gap none (ops_of ks) (chain gap ks (tries_fit gap tries typed)) in
    let n : ℕ = length (ops_of ks) in
    three_answers (ltb LIMIT n) (leb (COLUMNS * row_count n) room) (row_count n) (copy_answer LIMIT (accepted_ops (under gap) tries) room)
    (ap (λ records. copy_answer LIMIT records room) (tries_wrote gap tries typed) ∙ maker_answer gap LIMIT room (ops_of ks) live)

-- A refused call

module _ (gap : ℕ) (t : Try) (not_accepted : Accepts (under gap) t → ⊥) where
  unaccepted : eqb (answered (under gap) t).number 0 ≡ false
  unaccepted = ne_eqb (answered (under gap) t).number 0 not_accepted

  pub refused_leaves : lent_after (under gap) t ≡ t.slices
  refused_leaves = (refused_try (under gap) t unaccepted).kept

  passed_over : (earlier later : List Try) → accepted_of (under gap) (earlier ++ (t ∷ later)) ≡ accepted_of (under gap) (earlier ++ later)
  passed_over [] later = rw unaccepted refl
  passed_over (e ∷ earlier) later = ap (λ tries. cond (eqb (answered (under gap) e).number 0) (e ∷ tries) tries) (passed_over earlier later)

pub refused_adds : (gap : ℕ) (earlier later : List Try) (t : Try) → (Accepts (under gap) t → ⊥)
    → accepted_of (under gap) (earlier ++ (t ∷ later)) ≡ accepted_of (under gap) (earlier ++ later)
refused_adds gap earlier later t not_accepted = passed_over gap t not_accepted earlier later
