-- `draws::Load::draw`: a product and a sum modulo 2^64 are one step. Assumes nothing.
use mathlib.Core.Path.{ap}
use Prim.Native.Nat.{◌%◌}
use Rattle.load.specs.declared.draws.Load.{Load}
use Rattle.load.proofs.Drawing.{stepped_once, drawn_once}
use Rattle.load.proofs.draws.Load.draw.Goals as goal

pub returns-clause-value : goal.returns-clause-value
returns-clause-value c = ap (λ x. x % c.args.limit) (drawn_once c.args.self.now.state _ (stepped_once c.args.self.now.state))

pub returns-clause-after : goal.returns-clause-after
returns-clause-after c =
    ap (λ x. let l : Load = record { state = x; index = c.args.self.now.index } in l) (stepped_once c.args.self.now.state)
