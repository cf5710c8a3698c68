-- For what holds by computing: to unfold `computing` is to unfold every definition here and below that such an example runs through.
-- Assumes nothing.
use Rattle.window.specs.Window.{eight_cells, write_bytes, write_stamps}

unfoldable pub computing : Unit {0}
unfolding eight_cells write_bytes write_stamps
computing = tt
