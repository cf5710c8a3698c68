-- `text::print::Printer::put_fields` meets its contract: a turn prints a tab and a number behind the fields so far. Assumes nothing.
use mathlib.Core.Path.{ap}
use native.Mathlib.Omega.{arith}
use lib.ListN.{length, length-append}
use Rattle.text.proofs.Written.{fields_more}
use Rattle.text.proofs.print.Printer.put_fields.Goals as goal

pub loop-n-preserved : goal.loop-n-preserved
loop-n-preserved g c =
    let more = fields_more c.args.self.now c.args.numbers.now c.loop-n.n-index (omega arith) in record {
      printed = cc;
      upper_bound = omega (arith, simp length-append at (ap length c.put.ensures));
    }
