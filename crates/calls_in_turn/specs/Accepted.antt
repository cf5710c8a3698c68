-- The calls of a list that the expansion accepts, and what they leave behind. Document 01: "Accepted means that the expansion refuses
-- nothing; a refused call leaves its window as it was and adds no record." Each call finds any slices. Assumes nothing.
use mathlib.Core.List.{List, [], ◌∷◌, flat_map}
use Rattle.std.specs.Prelude.{cond, ℕ, ◌*◌, eqb, take}
use Rattle.call.specs.Ops.{OP_WIDTH}
use Rattle.call.specs.Flat.{call_numbers}
use Rattle.expansion.specs.Tries.{Setting, Try}
use Rattle.expansion.specs.Refusals.{answered}
use Rattle.expansion.specs.Expansion.{lent_after}

-- the accepted ones, in the list's order
abbrev pub accepted_of : Setting → List Try → List Try
accepted_of s [] = []
accepted_of s (t ∷ tries) = cond (eqb (answered s t).number 0) (t ∷ accepted_of s tries) (accepted_of s tries)

-- the operation records that the expansion wrote: as many as it answers, from the front of its buffer
abbrev pub ops_written : Setting → Try → List ℕ
ops_written s t = take (OP_WIDTH * (answered s t).value) (lent_after s t).ops

-- "The accepted calls' operation records, joined in the list's order", and "each accepted call's kind, stamp, src, dst and count as
-- handed in"
abbrev pub accepted_ops : Setting → List Try → List ℕ
accepted_ops s tries = flat_map (ops_written s) (accepted_of s tries)

abbrev pub accepted_calls : Setting → List Try → List ℕ
accepted_calls s tries = flat_map (λ t. call_numbers t.call) (accepted_of s tries)
