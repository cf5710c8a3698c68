-- `exports::flat_registers::put_part` meets its contract: the part that is lent is 32 numbers. Assumes nothing.
use Prim.Native.Nat.{ℕ, ◌+◌, ◌-◌}
use mathlib.Core.Path.{◌≡◌, ap, ◌∙◌}
use native.Mathlib.Omega.{arith}
use lib.ListN.{take, drop}
use borrow.Author.Rules.{rules}
use Rattle.exports.proofs.flat_registers.put_part.Statement.{statement}
use Rattle.exports.proofs.flat_registers.put_part.Tie as tie

returns : tie.Need-returns
returns c =
    let at_put = c.before.before in
    let at_shared_slice_known = at_put.before.before.before in
    let start = at_shared_slice_known.before.before in
    let a = start.args in
    let size : a.start + 32 - a.start ≡ 32 = omega arith in
    at_put.put.ensures ∙ ap (λ (n : ℕ). take n (drop a.start a.flat.now)) size

pub put_part_spec : {M : Type 1} → statement M
put_part_spec =
    tie.close
    (tie.spec
    (λ c. search rules) (λ c. search rules) (λ c. search rules) (λ c. search rules) (λ c. search rules)
    (λ c κs. search rules) (λ c. search rules)
    returns)
