-- `draws::write_calls`: after k turns the first k calls are written, and the state, the index and the stamp are those before call k.
-- Assumes nothing.
use native.Mathlib.Omega.{arith}
use mathlib.Core.Path.{refl, ap, ◌∙◌}
use lib.ListN.{length}
use Rattle.load.proofs.Drawing.{index_small}
use Rattle.load.proofs.Loaded.{loaded_length, loaded_start, loaded_turn}
use Rattle.load.proofs.draws.write_calls.Goals as goal

pub loop-k-init : goal.loop-k-init
loop-k-init c = (refl, loaded_start _ _)

pub next_call-numbers-requires : goal.next_call-numbers-requires
next_call-numbers-requires c =
    let at = c.loop-k in
    omega (arith, at.invariant.1.at_index, index_small c.args.s at.k, c.requires.0)

pub loop-k-preserved : goal.loop-k-preserved
loop-k-preserved c =
    let call = c.next_call-numbers.ensures in
    let turn = loaded_turn c.args.s _ _ _ _ _ _ _ _ _ _ c.loop-k.invariant.1 call.numbers call.state call.index c.put_at.ensures in
    (ap length turn.written ∙ loaded_length c.args.s _ _, turn)
