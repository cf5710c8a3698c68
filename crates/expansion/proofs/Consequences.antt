-- The consequences of specs/Consequences.antt, each from the file that shows it row by row. Assumes nothing.
use mathlib.Core.Path.{◌≡◌, ap, ◌∙◌, sym, subst}
use mathlib.Core.Bool.{cond, ◌&&◌}
use mathlib.Core.List.{List, flat_map}
use Prim.Native.Nat.{ℕ, ◌+◌, ◌-◌, ◌≤◌, ◌<◌}
use native.Mathlib.Omega.{arith}
use borrow.Author.Tests.{eq-eqb, ne_eqb}
use lib.Dec.{leb, ltb}
use lib.ListN.{length, take, drop, get_or}
use Rattle.lists.specs.Lists.{store}
use Rattle.call.specs.Calls.{Call, Op}
use Rattle.call.specs.Cuts.{CutInto}
use Rattle.window.specs.Window.{window_of}
use Rattle.expansion_rows.specs.Rows.{rows_by}
use Rattle.expansion_rows.specs.Turns.{row_ops, pass_bytes, pass_stamps}
use Rattle.expansion_rows.specs.Held.{held_all_bytes}
use Rattle.expansion_rows.proofs.Widths.{widths_cut}
use Rattle.expansion.specs.Tries.{Setting, lengths, Try}
use Rattle.expansion.specs.Expansion.{bytes_by, stamps_by}
use Rattle.expansion.specs.Refusals.{Accepts}
use Rattle.expansion.specs.Consequences.{InWindow, Outside, moved_bytes, place_in, AnyCut, Consequences}
use Rattle.expansion.proofs.Judged.{accepted_fair}
use Rattle.expansion.proofs.Moved.{some_ops}
use Rattle.expansion.proofs.Cut.{cut, fits, counts}
use Rattle.expansion.proofs.Kept.{pass_kept, deferred_kept, pass_stamps_kept, deferred_stamps_kept}
use Rattle.expansion.proofs.Copied.{pass_same, held_copy}
use Rattle.expansion.proofs.SetMoves.{moves_all, fills}

module _ (gap : ℕ) (c : Call) (ws bytes : List ℕ) (k : CutInto c.count ws) (inside : InWindow gap c (length bytes)) where
  bytes_kept : (i : ℕ) → i < length bytes → Outside c.dst c.count i → get_or (bytes_by c ws bytes) i 0 ≡ get_or bytes i 0
  unfolding bytes_by
  bytes_kept i h out = deferred_kept ws c bytes (pass_bytes (rows_by c 1 ws) bytes) i k out ∙ pass_kept ws c 1 bytes i k h out

  stamps_kept : (stamps : List ℕ) (i : ℕ) → Outside c.src c.count i → ((c.kind ≡ 2 → ⊥) → Outside c.dst c.count i)
      → get_or (stamps_by c ws (window_of bytes stamps)) i 0 ≡ get_or stamps i 0
  unfolding stamps_by
  stamps_kept stamps i source dest =
      deferred_stamps_kept ws c bytes (pass_stamps (rows_by c 1 ws) stamps) i k (λ copy. dest (λ q. omega arith))
      ∙ pass_stamps_kept ws c 1 stamps i k source (λ set. dest (λ q. omega arith))

  copied : c.kind ≡ 0 → bytes_by c ws bytes ≡ store bytes c.dst (take c.count (drop c.src bytes))
  unfolding bytes_by
  copied copy =
      rw (eq-eqb c.kind 0 copy)
      (ap (held_all_bytes (row_ops (rows_by c 1 ws) bytes)) (pass_same ws c 1 bytes k (λ q. omega arith) inside.source)
      ∙ held_copy ws c 1 bytes bytes k copy inside.source)

  written : c.kind ≡ 2 → bytes_by c ws bytes ≡ bytes
  unfolding bytes_by held_all_bytes
  written write = rw (ne_eqb c.kind 0 (λ q. omega arith)) (pass_same ws c 1 bytes k (λ q. omega arith) inside.source)

  module _ (set : c.kind ≡ 1) where
    dest_in : 0 < c.count → c.dst + c.count ≤ length bytes
    dest_in some = inside.dest some (λ q. omega arith)

    set_moves : (x : ℕ) → x < c.count
        → let moved = moved_bytes c ws bytes in
        get_or moved x 0 ≡ cond (leb gap x && ltb (place_in ws x) gap) (get_or moved (x - gap) 0) (get_or bytes (c.src + x) 0)
    set_moves x h =
        subst
        (λ (os : List Op).
        let moved = flat_map (λ (o : Op). take o.piece.width o.piece.value) os in
        get_or moved x 0 ≡ cond (leb gap x && ltb (place_in ws x) gap) (get_or moved (x - gap) 0) (get_or bytes (c.src + x) 0))
        (sym (some_ops ws c bytes k (omega arith)))
        (moves_all ws c bytes gap k set (inside.apart set) dest_in x h)

    set_fills : 8 ≤ gap → (x : ℕ) → x < c.count → get_or (bytes_by c ws bytes) (c.dst + x) 0 ≡ get_or (bytes_by c ws bytes) (c.src + x) 0
    unfolding bytes_by held_all_bytes
    set_fills far x h = rw (ne_eqb c.kind 0 (λ q. omega arith)) (fills ws c 1 bytes gap k set (inside.apart set) far dest_in x h)

  any_cut : AnyCut gap c ws bytes
  any_cut =
      record {
        bytes_kept = bytes_kept;
        stamps_kept = stamps_kept;
        copied = copied;
        written = written;
        set_moves = set_moves;
        set_fills = set_fills;
      }

accepted_inside : (s : Setting) (t : Try) → Accepts s t → InWindow s.gap t.call (length t.slices.bytes)
accepted_inside s t taken =
    let fair = (accepted_fair s t.call (lengths t.slices) taken).0 in
    record { source = fair.source; dest = fair.dest; apart = fair.apart }

pub consequences : Consequences
consequences = record { cut = cut; fits = fits; counts = counts; any_cut = any_cut; rule = widths_cut; inside = accepted_inside }
