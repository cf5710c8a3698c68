-- `collect_copy_ops` as callers on the other side of the C boundary have it. A kind above 2 is refused with 10, place 0, first; a refusal
-- writes nothing, counts included. Assumes nothing.
use Rattle.std.specs.Prelude.{◌≡◌, ℕ, cond, List, [], ◌∷◌, eqb}
use Rattle.answer.specs.declared.Answer.{Answer}
use Rattle.call.specs.Calls.{no_kind}
use Rattle.expansion.specs.Tries.{under, Lent, Try}
use Rattle.expansion.specs.Refusals.{answered, ExpansionNumbers, with_accesses, refused_with}
use Rattle.expansion.specs.Expansion.{lent_after}

-- the answer and the number of accesses
unfoldable pub flat_numbers : ℕ → Try → ExpansionNumbers
flat_numbers gap t = cond (no_kind t.call.kind) (refused_with 10) (with_accesses t.call (answered (under gap) t))

-- the four slices afterwards
unfoldable pub flat_after : ℕ → Try → Lent
flat_after gap t = cond (no_kind t.call.kind) t.slices (lent_after (under gap) t)

-- the two counts afterwards: operation and access records
abbrev pub expansion_counts : ExpansionNumbers → List ℕ → List ℕ
expansion_counts n counts = cond (eqb n.answer.number 0) (n.answer.value ∷ n.accesses ∷ []) counts

-- what the function has to show: its answer, the four slices and the counts when it is done
pub record FlatDone (gap : ℕ) (t : Try) (before : List ℕ) (r : Answer) (after : Lent) (later : List ℕ) : Type 0 where
  pub answer : r ≡ (flat_numbers gap t).answer
  pub slices : after ≡ flat_after gap t
  pub counts : later ≡ expansion_counts (flat_numbers gap t) before
