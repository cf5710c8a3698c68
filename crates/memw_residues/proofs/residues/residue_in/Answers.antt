-- `residues::residue_in`: where nothing is refused the number is a residue's. Assumes nothing.
use Rattle.std.proofs.Common.{◌≡◌, ℕ, ◌<◌, List, ltb, ltb-true, ap, ◌∙◌, arith}
use Rattle.std.specs.Prelude.{Ok}
use Rattle.field.specs.Rows.{row_verdict}
use Rattle.field.proofs.Verdicts.{is_fine}
use Rattle.memw_residues.specs.Residues.{residue_count}
use Rattle.memw_residues.proofs.residues.residue_in.Goals as goal

below : (number count width : ℕ) (row : List ℕ) → row_verdict (ltb number count) width row ≡ Ok tt → number < count
below number count width row e = ltb-true _ _ (is_fine _ _ _ e).is_inside

pub memw_equation-residue-requires : goal.memw_equation-residue-requires
memw_equation-residue-requires c =
    let count = c.residue_count.ensures ∙ ap residue_count c.in-General.is in
    omega (arith, count, below _ _ _ _ c.in_ok-element_row-in-General.ensures.ok.1)

pub flag_residue-residue-requires : goal.flag_residue-residue-requires
flag_residue-residue-requires c =
    let count = c.residue_count.ensures ∙ ap residue_count c.in-Aligned.is in
    omega (arith, count, below _ _ _ _ c.in_ok-element_row-in-Aligned.ensures.ok.1)

pub register_equation-residue-requires : goal.register_equation-residue-requires
register_equation-residue-requires c =
    let count = c.residue_count.ensures ∙ ap residue_count c.in-Register.is in
    omega (arith, count, below _ _ _ _ c.in_ok-element_row-in-Register.ensures.ok.1)
