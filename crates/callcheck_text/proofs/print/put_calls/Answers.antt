-- `callcheck_text::print::put_calls` meets its contract: where a line is refused, that alone is printed. Assumes nothing.
use Rattle.std.proofs.Common.{ℕ, List, ◌++◌, ap, ◌∙◌}
use Rattle.text.specs.RowLines.{refused_text}
use Rattle.callcheck_text.proofs.Printed.{ran_refused}
use Rattle.callcheck_text.proofs.print.put_calls.Goals as goal

pub returns-in-Err : goal.returns-in-Err
returns-in-Err c =
    let alone = ran_refused c.args.gap c.args.text.now _ _ c.run_lines.ensures.ending _ c.in-Err.is in
    c.put_refused.ensures.value ∙ ap (λ (l : List ℕ). l ++ refused_text c.in-Err.field-0.number c.in-Err.field-0.line) c.new-out.ensures ∙ alone
