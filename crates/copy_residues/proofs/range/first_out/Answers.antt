-- `range::first_out`: column c is out of range, or the search goes on. Assumes nothing.
use Rattle.std.proofs.Common.{ℕ, refl, sym, ap, ◌∙◌, List, get_or, arith, le-leb}
use borrow.Author.Tests.{lt-leb}
use Rattle.lists.proofs.First.{first_miss, first_hit, first_end}
use Rattle.copy_residues.specs.Range.{column_limits, first_out}
use Rattle.copy_residues.proofs.range.first_out.Goals as goal

pub loop-c-init : goal.loop-c-init
unfolding first_out
loop-c-init c = refl

pub returns-then-below-c : goal.returns-then-below-c
unfolding column_limits
returns-then-below-c c =
    let limit = ap (λ (l : List ℕ). get_or l c.loop-c.c 0) c.limits-below.ensures in
    sym (c.loop-c.invariant ∙ first_hit _ _ _ (omega arith) (le-leb _ _ (omega (arith, limit))))

pub loop-c-preserved : goal.loop-c-preserved
unfolding column_limits
loop-c-preserved c =
    let limit = ap (λ (l : List ℕ). get_or l c.loop-c.c 0) c.limits-below.ensures in
    c.loop-c.invariant ∙ first_miss _ _ _ (omega arith) (lt-leb _ _ (omega (arith, limit)))

pub returns : goal.returns
returns c = sym (c.loop-c.invariant ∙ first_end _ _ _ (omega arith) ∙ omega arith)
