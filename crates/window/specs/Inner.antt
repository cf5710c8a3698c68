-- The window as the code holds it: cited by the contracts of inner functions alone. Assumes nothing.
use Rattle.std.specs.Prelude.{◌≡◌}
use Rattle.window.specs.Window.{Window, window_of}
use Rattle.window.specs.declared.Window.{Window as Held}

-- the bytes and stamps of its cells
abbrev pub cells_of : Held → Window
cells_of w = window_of w.bytes.now w.stamps.now

-- it still holds the slices that it was given
abbrev pub SameSlices : Held → Held → Type 0
SameSlices before after = (after.bytes.ghost_name ≡ before.bytes.ghost_name) × (after.stamps.ghost_name ≡ before.stamps.ghost_name)
