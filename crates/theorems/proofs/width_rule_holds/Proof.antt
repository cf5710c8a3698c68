-- `theorems::width_rule_holds` meets its contract, which is the theorem. Assumes nothing.
use mathlib.Core.Path.{refl}
use Rattle.expansion_rows.proofs.WidthRule.{width_rule, width_instances}
use Rattle.theorems.proofs.width_rule_holds.Statement.{statement}
use Rattle.theorems.proofs.width_rule_holds.Tie as tie

pub width_rule_holds_spec : {M : Type 1} → statement M
width_rule_holds_spec = tie.close (tie.spec (λ c. (refl, width_rule, width_instances)))
