-- Refusals as a list in document 01's order, each with its number, its place and whether it holds. The first that holds is the answer.
-- Assumes nothing.
use Rattle.std.specs.Prelude.{ℕ, Bool, cond, List, [], ◌∷◌}
use Rattle.answer.specs.Numbers.{refused}
use Rattle.answer.specs.declared.Answer.{Answer}

pub record Refusal : Type 0 where
  pub number : ℕ
  pub place : ℕ
  pub holds : Bool

-- refusal n at place 0, if the test holds
abbrev pub refuse : ℕ → Bool → Refusal
refuse n holds = record { number = n; place = 0; holds = holds }

-- the first that holds; where none does, the answer given
abbrev pub first_of : List Refusal → Answer → Answer
first_of [] given = given
first_of (r ∷ rs) given = cond r.holds (refused r.number r.place) (first_of rs given)
