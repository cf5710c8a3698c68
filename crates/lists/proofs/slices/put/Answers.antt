-- `lists::slices::put` meets its contract. Assumes nothing.
use mathlib.Core.Path.{◌≡◌, refl, sym, ◌∙◌}
use native.Mathlib.Omega.{arith}
use lib.ListN.{length, drop, length-set}
use Rattle.lists.proofs.Store.{store_all, store_turn, store_end}
use Rattle.lists.proofs.slices.put.Goals as goal

pub loop-i-init : goal.loop-i-init
loop-i-init c = (c.requires, store_all _ _ c.requires)

pub loop-i-preserved : goal.loop-i-preserved
loop-i-preserved c =
    let at = c.loop-i in
    (simp length-set at.invariant.0, store_turn at.dst c.args.src.now at.i at.i (omega arith) ∙ at.invariant.1)

pub returns : goal.returns
returns c =
    let at = c.loop-i in
    sym (store_end at.dst c.args.src.now at.i at.i (omega arith)) ∙ at.invariant.1
