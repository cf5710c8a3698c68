-- For what holds by computing: to unfold `computing` is to unfold every definition here and below that such an example runs through.
-- Assumes nothing.
use Rattle.lists.proofs.Computing as lists
use Rattle.field.specs.Field.{add_p, sub_p, mul_p, bit_p}
use Rattle.field.specs.Rows.{first_large}
use Rattle.field.specs.Carries.{carry_p, carry_low, carry_high}

unfoldable pub computing : Unit {0}
unfolding lists.computing first_large add_p sub_p mul_p bit_p carry_p carry_low carry_high
computing = tt
