-- `exports::read_back` meets its contract: its answer and its counts are those of the entry's numbers, and the two buffers are as the entry
-- left them. Assumes nothing.
use mathlib.Core.Path.{refl, ap, ◌∙◌}
use Rattle.read_back.specs.ReadBack.{ReadBackNumbers, counts_after}
use Rattle.exports.proofs.read_back.Goals as goal

pub returns : goal.returns
returns c =
    let read = c.read_back.ensures in
    record {
      read = record { answer = refl; ops_left = read.ops_left; calls_left_lem = read.calls_left_lem };
      answer = c.read_back_numbers.ensures.answer ∙ ap (λ (n : ReadBackNumbers). n.answer) read.answer;
      counted = c.read_back_numbers.ensures.counts ∙ ap (λ (n : ReadBackNumbers). counts_after n c.args.counts.now) read.answer;
    }
