-- One call of a load: its numbers fit their types, it lies in a window of 1,024 cells, and with room for its records it is accepted.
-- Assumes nothing.
use mathlib.Core.Path.{◌≡◌, refl, sym, ap, ◌∙◌}
use mathlib.Core.Bool.{Bool, true, false, cond}
use mathlib.Core.Logic.{inl, inr}
use mathlib.Core.List.{List, [], ◌∷◌}
use Prim.Native.Nat.{ℕ, zero, suc, ◌*◌, ◌^◌, ◌≤◌, ◌<◌}
use native.Mathlib.Omega.{arith}
use borrow.Author.Tests.{ltb-false, le-ltb}
use lib.Dec.{eqb, ltb}
use lib.ListN.{length}
use Rattle.lists.specs.Lists.{All, sum}
use Rattle.lists.proofs.Tests.{neither}
use Rattle.records.specs.Records.{LIMIT}
use Rattle.call.specs.Calls.{Call}
use Rattle.call.specs.Cuts.{OneOrEight, FitsTypes}
use Rattle.call.specs.Ops.{OP_WIDTH}
use Rattle.access.specs.Access.{ACCESS_WIDTH}
use Rattle.load.specs.Load.{load_call}
use Rattle.load.proofs.Drawing.{index_small}
use Rattle.load.proofs.LoadLaws.{call_index, call_set, call_copy, call_stamp, call_kind, call_count_lem, call_src}
use Rattle.expansion_rows.specs.Rows.{widths_of}
use Rattle.expansion_rows.proofs.Widths.{widths_cut}
use Rattle.expansion.specs.Tries.{Lent, Lengths, lengths, try_of}
use Rattle.expansion.specs.Refusals.{op_count, access_count, buffer_short}
use Rattle.expansion.proofs.Judged.{Fair, Room, fair_accepted}
use Rattle.expansion.proofs.RowNumbers.{plain_inside, plain_rows}
use Rattle.load_accepted.specs.LoadAccepted.{CELLS, load_setting, LoadWindow, LongEnough, Welcome, Small}
use Rattle.load_accepted.specs.LoadRows.{NoEdgeMet}

-- what 9 says of the buffers
room_of : (c : Call) (n : Lengths) → buffer_short (op_count c) (access_count c) n ≡ false → Room c n
room_of c n e =
    let both = neither (ltb n.ops (OP_WIDTH * op_count c)) (ltb n.accesses (ACCESS_WIDTH * access_count c)) e in
    record { ops = ltb-false n.ops _ both.0; accesses = ltb-false n.accesses _ both.1 }

pub long_enough : (c : Call) (l : Lent) → LoadWindow l → OP_WIDTH * op_count c ≤ length l.ops → ACCESS_WIDTH * access_count c ≤ length l.accesses
    → LongEnough (try_of c l)
long_enough c l w ops accesses =
    record {
      window = w;
      room = rw (le-ltb (length l.ops) (OP_WIDTH * op_count c) ops) (le-ltb (length l.accesses) (ACCESS_WIDTH * access_count c) accesses);
    }

-- A row moves a byte at least, so a call has at most as many rows as bytes

rows_few : (ws : List ℕ) → All OneOrEight ws → length ws ≤ sum ws
rows_few [] h = omega arith
rows_few (w ∷ ws) h = step h.0 (rows_few ws h.1)
  where
    step : OneOrEight w → length ws ≤ sum ws → length (w ∷ ws) ≤ sum (w ∷ ws)
    step (inl e) few = omega arith
    step (inr e) few = omega arith

widths_few : (c : Call) → length (widths_of c) ≤ c.count
widths_few c = let cut = widths_cut c in omega (arith, rows_few (widths_of c) cut.wide, cut.sums)

ops_few : (c : Call) → c.count ≤ 32 → op_count c ≤ 32
ops_few c h = step (eqb c.count 0)
  where
    step : (b : Bool) → cond b 1 (length (widths_of c)) ≤ 32
    step true = omega arith
    step false = omega (arith, widths_few c)

accesses_few : (c : Call) → c.count ≤ 32 → access_count c ≤ 64
accesses_few c h = step (eqb c.kind 2)
  where
    step : (b : Bool) → cond b (length (widths_of c)) (2 * length (widths_of c)) ≤ 64
    step true = omega (arith, widths_few c)
    step false = omega (arith, widths_few c)

-- Call k of a load

module _ (s k : ℕ) (h : k < LIMIT) where
  -- a Copy's or a Set's destination, and a Write's index
  dest : ((load_call s k).kind ≡ 2 → ⊥) → (load_call s k).dst < 908
  dest other = step (load_call s k).kind refl
    where
      step : (kind : ℕ) → (load_call s k).kind ≡ kind → (load_call s k).dst < 908
      step zero e = omega (arith, call_copy s k e)
      step (suc zero) e = omega (arith, call_set s k e, call_src s k)
      step (suc (suc zero)) e = absurd (other e)
      step (suc (suc (suc kind))) e = absurd (omega (arith, call_kind s k))

  index : (load_call s k).kind ≡ 2 → (load_call s k).dst ≤ 32 * LIMIT
  index write = omega (arith, call_index s k write, index_small s k)

  dst_small : (load_call s k).dst < 2 ^ 32
  dst_small = step (load_call s k).kind refl
    where
      step : (kind : ℕ) → (load_call s k).kind ≡ kind → (load_call s k).dst < 2 ^ 32
      step zero e = omega (arith, dest (λ w. omega arith))
      step (suc zero) e = omega (arith, dest (λ w. omega arith))
      step (suc (suc zero)) e = omega (arith, index e)
      step (suc (suc (suc kind))) e = absurd (omega (arith, call_kind s k))

  pub call_fits : FitsTypes (load_call s k)
  call_fits =
      record {
        kind = omega (arith, call_kind s k);
        stamp = omega (arith, call_stamp s k);
        src = omega (arith, call_src s k);
        dst = omega (arith, dst_small);
        count = omega (arith, call_count_lem s k);
      }

  call_fair : (l : Lent) → LoadWindow l → Fair load_setting (load_call s k) (lengths l)
  call_fair l w =
      record {
        narrow = omega arith;
        window = w.cells ∙ sym w.stamped;
        size = omega (arith, w.cells);
        stamp = λ e. omega (arith, call_stamp s k);
        apart = call_set s k;
        index = λ write. omega (arith, index write, call_count_lem s k);
        source = λ some. omega (arith, w.cells, call_src s k, call_count_lem s k);
        dest = λ some other. omega (arith, w.cells, dest other, call_count_lem s k);
      }

  pub call_enough : Small (load_call s k)
  call_enough l w ops accesses =
      let small : (load_call s k).count ≤ 32 = omega (arith, call_count_lem s k) in
      long_enough (load_call s k) l w (omega (arith, ops_few (load_call s k) small)) (omega (arith, accesses_few (load_call s k) small))

  pub call_accepted : Welcome (load_call s k)
  call_accepted l long =
      fair_accepted load_setting (load_call s k) (lengths l) (call_fair l long.window) (room_of (load_call s k) (lengths l) long.room)

  -- its window ends before the first edge
  pub call_rows : NoEdgeMet (load_call s k)
  call_rows =
      let c = load_call s k in
      let plain =
      plain_inside c CELLS (omega arith)
      (λ some. omega (arith, call_src s k, call_count_lem s k))
      (λ some other. omega (arith, dest other, call_count_lem s k)) in
      let rows = ap (λ (ws : List ℕ). length ws) plain in
      record { plain = plain; ten = omega (arith, rows, plain_rows c.count, call_count_lem s k) }
