-- A row that does not wrap hands on what is left in plain sums. Assumes nothing.
use mathlib.Core.Path.{◌≡◌}
use Prim.Native.Nat.{◌+◌, ◌^◌, ◌≤◌, ◌<◌}
use Rattle.words.proofs.Wrap.{add_plain, sub_plain}
use Rattle.call.specs.Calls.{Op}
use Rattle.call.specs.Cuts.{rest}
use Rattle.copy_row.specs.Rows.{wrapped}

-- a row that does not wrap
pub unwrapped : (o : Op) → o.call.count < 2 ^ 64 → o.piece.width ≤ o.call.count
    → o.call.src + o.piece.width < 2 ^ 64 → o.call.dst + o.piece.width < 2 ^ 64
    → wrapped o ≡ rest o.call o.piece.width
unwrapped o fits enough src dst =
    let w = o.piece.width in
    λ i.
    record {
      kind = o.call.kind;
      stamp = o.call.stamp;
      src = add_plain o.call.src w src i;
      dst = add_plain o.call.dst w dst i;
      count = sub_plain o.call.count w fits enough i;
    }
