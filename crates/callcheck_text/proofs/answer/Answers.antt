-- `callcheck_text::answer` meets its contract: line 1 is no gap line, or its gap is too large, or the call lines decide; what is printed
-- is copied to the front. Assumes nothing.
use mathlib.Core.Path.{◌≡◌, sym, ap, ◌∙◌}
use native.Mathlib.Omega.{arith}
use lib.ListN.{length}
use Rattle.std.specs.Prelude.{Some, None}
use Rattle.lists.proofs.Store.{part_store}
use Rattle.text.specs.Pieces.{before}
use Rattle.text.specs.Lines.{gap_of}
use Rattle.callcheck_text.specs.Output.{output_of}
use Rattle.callcheck_text.proofs.Printed.{no_gap, wide_gap, good_gap}
use Rattle.callcheck_text.proofs.answer.Goals as goal
use Rattle.callcheck_text.proofs.answer.Goals.{in-None, in-Some, in-Some-2, After-copy_from_slice}

printed : (c : After-copy_from_slice) → c.match-parse_gap.output ≡ output_of c.args.input.now
printed c = elim c.match-parse_gap.branch [
  | in-None w ↦
      let read : gap_of (before 10 c.args.input.now) ≡ None = cc in
      rw (w.output-is, w.put_refused.ensures.value, c.new-output.ensures) (no_gap c.args.input.now read)
  | in-Some w ↦
      let read : gap_of (before 10 c.args.input.now) ≡ Some w.in-Some.gap = cc in
      rw (w.output-is, w.put_refused-in-Some.ensures.value, c.new-output.ensures) (wide_gap c.args.input.now _ read (omega arith))
  | in-Some-2 w ↦
      let read : gap_of (before 10 c.args.input.now) ≡ Some w.in-Some.gap = cc in
      rw (w.output-is, w.put_calls-output.ensures, w.tail.ensures) (good_gap c.args.input.now _ read (omega arith))
]

pub returns : goal.returns
returns c =
    let text : c.text-text.result.now ≡ output_of c.args.input.now = c.text-text.ensures.value ∙ printed c in
    let copied : c.copy_from_slice.new.self ≡ output_of c.args.input.now = c.copy_from_slice.ensures.after ∙ text in
    record {
      answer = (ap length text, c.text-text.ensures.upper_bound);
      out = rw copied (part_store c.args.out.now (output_of c.args.input.now) 0 (length c.text-text.result.now) (sym (ap length text)) (omega (arith, ap length text)));
    }
