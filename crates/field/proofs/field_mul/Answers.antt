-- `field_mul`: two elements, or the lowest input that is none. Assumes nothing.
use Rattle.std.proofs.Common.{ap, ◌∙◌}
use Rattle.std.specs.Prelude.{Ok}
use Rattle.std.proofs.lemmas.Result.{err_from_is_err_and}
use Rattle.field.specs.Field.{mul_p}
use Rattle.field.specs.Answers.{mul_answer, field_numbers}
use Rattle.field.proofs.Answers.{found_of, refused_answer}
use Rattle.field.proofs.field_mul.Goals as goal

pub returns-in_err-a : goal.returns-in_err-a
unfolding mul_answer
returns-in_err-a c =
    let why = err_from_is_err_and c.from_residual.result c.from_residual.ensures.1 in
    record { answer = rw (why.1, why.2) (ap field_numbers (refused_answer c.args.a c.args.b _ c.in_err-a.ensures.err)) }

pub returns : goal.returns
unfolding mul_answer
returns c =
    let is = c.in_ok-a.ensures.ok in
    record {
      answer = ap field_numbers (ap Ok c.mul.ensures ∙ found_of _ _ mul_p is.0 is.1 c.in_ok-a.a.below_p c.in_ok-a.b.below_p);
    }
