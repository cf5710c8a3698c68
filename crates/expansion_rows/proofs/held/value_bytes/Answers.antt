-- `expansion_rows::held::value_bytes` meets its contract. The invariant: storing what is left of the eight values gives all of them.
-- Assumes nothing.
use borrow.Author.Rules.{rules}
use mathlib.Core.Path.{refl, sym, ap, ◌∙◌}
use Prim.Native.Nat.{ℕ, ◌+◌, ◌<◌}
use native.Mathlib.Omega.{arith}
use lib.ListN.{drop, set, replicate, length-set}
use Rattle.lists.specs.Lists.{store, eight_at}
use Rattle.lists.proofs.Store.{store_turn, store_end, store_all}
use Rattle.words.proofs.Digits.{below_at}
use Rattle.window.proofs.WindowLaws.{value_at_lem}
use Rattle.expansion_rows.proofs.held.value_bytes.Goals as goal

pub loop-i-init : goal.loop-i-init
loop-i-init c = (refl, store_all (replicate 8 0) (eight_at c.args.op.now 8) refl)

pub overflow_cast-out : goal.overflow_cast-out
overflow_cast-out c =
    let op = c.args.op.now in
    let i = c.loop-i.i in
    let h : i < 8 = omega arith in
    omega (arith, below_at 8 (eight_at op 8) i c.requires.1, value_at_lem op i h)

pub loop-i-preserved : goal.loop-i-preserved
loop-i-preserved c =
    let op = c.args.op.now in
    let l = c.loop-i in
    let h : l.i < 8 = omega arith in (
      simp length-set (search rules),
      ap (λ (x : ℕ). store (set l.out l.i x) (l.i + 1) (drop (l.i + 1) (eight_at op 8))) (sym (value_at_lem op l.i h))
          ∙ store_turn l.out (eight_at op 8) l.i l.i (omega arith)
          ∙ l.invariant.1,
    )

pub returns : goal.returns
returns c = sym (store_end c.loop-i.out (eight_at c.args.op.now 8) c.loop-i.i c.loop-i.i (omega arith)) ∙ c.loop-i.invariant.1
