-- The end of an end is an end: what several reads leave, one after the other. Assumes nothing.
use mathlib.Core.Path.{◌≡◌, sym, ap, ◌∙◌}
use mathlib.Core.List.{List}
use Prim.Native.Nat.{ℕ, ◌+◌, ◌-◌, ◌≤◌}
use native.Mathlib.Omega.{arith}
use lib.ListN.{length, drop}
use lib.Seq.{drop-drop}
use Rattle.std.proofs.Common.{length-drop}
use Rattle.replay.specs.Questions.{IsEnd}

shorter : (a b : List ℕ) → IsEnd a b → length b ≤ length a
shorter a b e = omega (arith, ap length e.end, length-drop (length a - length b) a)

pub end_then : (a b c : List ℕ) → IsEnd a b → IsEnd b c → IsEnd a c
end_then a b c e f =
    let total : (length a - length b) + (length b - length c) ≡ length a - length c = omega (arith, shorter a b e, shorter b c f) in
    record { end = f.end ∙ (ap (drop (length b - length c)) e.end ∙ (drop-drop (length b - length c) (length a - length b) a ∙ ap (λ n. drop n a) total)) }
