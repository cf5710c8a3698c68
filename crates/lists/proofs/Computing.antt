-- For what holds by computing: to unfold `computing` is to unfold every definition here and below that such an example runs through.
-- Assumes nothing.
use mathlib.Core.List.{flat_map}
use Rattle.lists.specs.Lists.{same, kept, listed, store, flat, picked, counted, first}

unfoldable pub computing : Unit {0}
unfolding flat_map same kept listed store flat picked counted first
computing = tt
