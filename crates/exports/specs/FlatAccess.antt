-- `push_reg_access` as callers on the other side of the C boundary have it. An `is_read` above 1 is refused with 10, place 0, first; a
-- refusal writes nothing, and numbers past the route's record keep their values. Assumes nothing.
use Rattle.std.specs.Prelude.{◌≡◌, ℕ, cond, List, ◌++◌, eqb, ltb, take, drop}
use Rattle.answer.specs.Numbers.{refused}
use Rattle.answer.specs.declared.Answer.{Answer}
use Rattle.access.specs.Tables.{REGISTER_WIDTH}
use Rattle.reg_access.specs.RegAccess.{push_numbers}
use Rattle.reg_access.specs.declared.RegAccess.{RegAccess}

-- the answer; the value is the number of the Rust's route
unfoldable pub access_answer : ℕ → RegAccess → Answer
access_answer is_read a = cond (ltb 1 is_read) (refused 10 0) (push_numbers a.answer).answer

-- the route's record over the numbers lent: 8 of them for route 0, the register table's, else all 29
unfoldable pub record_over : ℕ → List ℕ → List ℕ → List ℕ
record_over route written lent = cond (eqb route 0) (take REGISTER_WIDTH written ++ drop REGISTER_WIDTH lent) written

-- what the function has to show, a being what the access comes to: its answer, and the lent numbers when it is done
pub record FlatPushed (is_read : ℕ) (a : RegAccess) (lent : List ℕ) (r : Answer) (later : List ℕ) : Type 0 where
  pub answer : r ≡ access_answer is_read a
  pub written : later
      ≡ cond (eqb (access_answer is_read a).number 0) (record_over (access_answer is_read a).value a.written lent) lent
