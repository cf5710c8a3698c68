-- `exports::flat_registers::put_three` meets its contract: 32, 32 and 4 numbers, one behind the other, fill the list. Assumes nothing.
use mathlib.Core.Path.{ap, ◌∙◌}
use mathlib.Core.List.{List, ◌++◌}
use Prim.Native.Nat.{ℕ}
use native.Mathlib.Omega.{arith}
use lib.ListN.{length-append}
use borrow.Author.Rules.{rules}
use Rattle.lists.specs.Lists.{store}
use Rattle.lists.proofs.Store.{store_behind, store_all}
use Rattle.exports.proofs.flat_registers.put_three.Statement.{statement}
use Rattle.exports.proofs.flat_registers.put_three.Tie as tie

returns : tie.Need-returns
returns c =
    let third = c.before.before in
    let at_put_at_arg3 = third.before in
    let second = at_put_at_arg3.before.before.before in
    let at_put_at_arg2 = second.before in
    let first = at_put_at_arg2.before.before.before in
    let at_shared_slice_known2 = first.before.before.before in
    let start = at_shared_slice_known2.before.before.before in
    let l = start.args.flat.now in
    let x = start.args.values.now in
    let y = start.args.stamps.now in
    let z = start.args.rest.now in
    third.put_at-3.ensures
    ∙ ap (λ (t : List ℕ). store t 64 z) second.put_at-2.ensures
    ∙ store_behind _ 32 64 y z (omega arith)
    ∙ ap (λ (t : List ℕ). store t 32 (y ++ z)) first.put_at.ensures
    ∙ store_behind l 0 32 x (y ++ z) (omega arith)
    ∙ store_all l (x ++ (y ++ z)) (simp length-append (omega arith))

pub put_three_spec : {M : Type 1} → statement M
put_three_spec =
    tie.close (tie.spec (λ c κs. search rules) (λ c κs. search rules) (λ c κs. search rules) (λ c. search rules) returns)
