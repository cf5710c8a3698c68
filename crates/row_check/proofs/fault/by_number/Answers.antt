-- `fault::by_number`: past the first two tests the row is of elements and in range, and the loop is the search for a residue that is not 0.
-- Assumes nothing.
use Rattle.std.proofs.Common.{ℕ, refl, sym, ap, ◌∙◌, arith}
use Rattle.std.specs.Prelude.{Err}
use Rattle.lists.proofs.First.{first_miss, first_hit, first_end}
use Rattle.field.proofs.FirstLarge.{elements}
use Rattle.copy_residues.specs.Residues.{residue}
use Rattle.copy_residues.specs.RowCheck.{first_residue}
use Rattle.copy_residues.specs.declared.faults.RowCheckRefusal.TheVariants.{NotZero}
use Rattle.copy_residues.proofs.ZeroResidues.{found, passed}
use Rattle.copy_residues.proofs.RowFaults.{not_zero_lem, fine}
use Rattle.row_check.proofs.fault.by_number.Goals as goal

pub invariant_of-parts_of-2 : goal.invariant_of-parts_of-2
invariant_of-parts_of-2 c = record { elements = elements _ _ c.requires.1 (omega (arith, c.first_large.ensures)) }

pub loop-i-init : goal.loop-i-init
unfolding first_residue
loop-i-init c = refl

pub returns : goal.returns
returns c =
    let last = c.loop-i.invariant ∙ first_end _ _ _ (omega arith) in
    sym (fine _ _ c.requires.1 (omega (arith, c.first_large.ensures)) (omega (arith, c.first_out.ensures)) (omega (arith, last)))

pub loop-i-preserved : goal.loop-i-preserved
loop-i-preserved c =
    let right = c.residue_with.ensures ∙ (λ i. residue (c.parts_of-parts.ensures.gap i) (c.parts_of-parts.ensures.row i) c.loop-i.i) in
    c.loop-i.invariant ∙ first_miss _ _ _ (omega arith) (passed right c.if-residue_with-ne0.false)

pub returns-2 : goal.returns-2
returns-2 c =
    let right = c.residue_with.ensures ∙ (λ i. residue (c.parts_of-parts.ensures.gap i) (c.parts_of-parts.ensures.row i) c.loop-i.i) in
    let lowest = c.loop-i.invariant ∙ first_hit _ _ _ (omega arith) (found right c.if-residue_with-ne0.true) in
    sym
    (not_zero_lem _ _ c.requires.1 (omega (arith, c.first_large.ensures)) (omega (arith, c.first_out.ensures)) (omega (arith, lowest))
    ∙ ap (λ (n : ℕ). Err (NotZero n)) lowest)
