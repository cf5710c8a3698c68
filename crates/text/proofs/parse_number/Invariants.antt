-- The loop of `text::parse_number`: the text's number is what reading on from `value` gives.
use mathlib.Core.Path.{◌≡◌}
use lib.ListN.{drop}
use Rattle.text.specs.Numbers.{number_of}
use Rattle.text.proofs.Numbers.{number_from}
use Rattle.text.proofs.parse_number.Given as goal

abbrev pub invariant-loop-b : goal.invariant-loop-b
invariant-loop-b l = number_of l.text ≡ number_from l.value (drop l.b-index l.text)
