-- The operation records of a call are a cut of it, and what is accepted is sound. The rows are cut as `rows_are_cut` says; an empty call
-- has no row, and its one record. Assumes nothing.
use mathlib.Core.Path.{◌≡◌, refl, ap, ◌∙◌}
use mathlib.Core.Logic.{inr}
use mathlib.Core.Bool.{Bool, true, false, cond}
use mathlib.Core.List.{List, [], ◌∷◌, flat_map}
use Prim.Native.Nat.{ℕ, ◌+◌, ◌*◌, ◌^◌, ◌<◌}
use native.Mathlib.Omega.{arith}
use borrow.Author.Tests.{eq-eqb, ne_eqb, eqb-true, eqb-false}
use lib.Dec.{eqb}
use lib.ListN.{length, length-append}
use Rattle.lists.specs.Lists.{All}
use Rattle.words.specs.Words.{Bytes}
use Rattle.call.specs.Calls.{Call}
use Rattle.call.specs.Ops.{op_record, OP_WIDTH}
use Rattle.call.specs.Cuts.{FitsTypes, CutInto, PieceOk, pieces_of, cut_from, Cut, Sound, Fits}
use Rattle.call.proofs.Cuts.{nothing_cut, first_pos, first_within, cut_single}
use Rattle.window.specs.Window.{Window}
use Rattle.expansion_rows.specs.Rows.{rows_by, widths_of}
use Rattle.expansion_rows.specs.Turns.{inverted, row_ops, pass_accesses}
use Rattle.expansion_rows.proofs.Widths.{widths_cut}
use Rattle.expansion_rows.proofs.RowList.{rows_length}
use Rattle.expansion_rows.proofs.HeldOps.{Eight, row_ops_eight, flat_ops_length}
use Rattle.expansion_rows.proofs.Lengths.{row_ops_length, held_accesses_length, pass_accesses_length}
use Rattle.expansion_rows.proofs.RowsCut.{zeros_ok, rows_are_cut}
use Rattle.expansion.specs.Refusals.{op_count, access_count, Accepts}
use Rattle.expansion.specs.Tries.{Setting, Lengths, lengths, Try}
use Rattle.expansion.specs.Expansion.{ops_by, deferred_by, accesses_by, call_ops, call_accesses}
use Rattle.expansion.specs.Consequences.{call_pieces, cut_call}
use Rattle.expansion.proofs.Judged.{Fair, accepted_fair, source_fits, dest_fits}

-- a call that is cut has bytes to move
some_left : {n w : ℕ} {ws : List ℕ} → CutInto n (w ∷ ws) → 0 < n
some_left k = omega (arith, first_pos k, first_within k)

-- The cut

pub ops_cut : (ws : List ℕ) (c : Call) (bytes : List ℕ) → CutInto c.count ws → Bytes bytes
    → let os = ops_by c ws bytes in (os ≡ cut_from c 1 (pieces_of os)) × Cut c.count (pieces_of os) × All PieceOk (pieces_of os)
unfolding ops_by rows_by row_ops
ops_cut [] c bytes k b = (refl, cut_single c.count _ (nothing_cut k) refl, (zeros_ok, tt))
ops_cut (w ∷ ws) c bytes k b = let r = rows_are_cut c (w ∷ ws) bytes k b (some_left k) in (r.records, r.cut, r.pieces)

pub cut : (c : Call) (bytes : List ℕ) → Bytes bytes → call_ops c bytes ≡ cut_from c 1 (call_pieces c bytes)
cut c bytes b = (ops_cut (widths_of c) c bytes (widths_cut c) b).0

-- Soundness

pub fair_sound : (s : Setting) (c : Call) (n : Lengths) → s.limit < 2 ^ 64 → FitsTypes c → Fair s c n → Sound s.gap c
fair_sound s c n small words f =
    record {
      words = words;
      reach = inr (source_fits s c n f small words.src, dest_fits s c n f small words.dst);
      gapped = f.apart;
    }

pub fits : (s : Setting) → s.limit < 2 ^ 64 → (t : Try) → FitsTypes t.call → Bytes t.slices.bytes → Accepts s t
    → Fits s.gap (cut_call t.call t.slices.bytes)
fits s small t words b e =
    let c = t.call in
    let parts = ops_cut (widths_of c) c t.slices.bytes (widths_cut c) b in
    let fair = (accepted_fair s c (lengths t.slices) e).0 in
    record { sound = fair_sound s c (lengths t.slices) small words fair; cut = parts.1; pieces = parts.2 }

-- Counts

ops_length : (ws : List ℕ) (c : Call) (bytes : List ℕ) → CutInto c.count ws → length (ops_by c ws bytes) ≡ cond (eqb c.count 0) 1 (length ws)
unfolding ops_by rows_by row_ops
ops_length [] c bytes k = rw (eq-eqb c.count 0 (nothing_cut k))
ops_length (w ∷ ws) c bytes k =
    let some = some_left k in
    row_ops_length (rows_by c 1 (w ∷ ws)) bytes ∙ rows_length (w ∷ ws) c 1 ∙ rw (ne_eqb c.count 0 (λ q. omega arith))

pub ops_count : (c : Call) (bytes : List ℕ) → length (call_ops c bytes) ≡ op_count c
ops_count c bytes = ops_length (widths_of c) c bytes (widths_cut c)

-- a call has a row
pub op_count_pos : (c : Call) → 0 < op_count c
op_count_pos c = go (widths_of c) (widths_cut c)
  where
    go : (ws : List ℕ) → CutInto c.count ws → 0 < cond (eqb c.count 0) 1 (length ws)
    go [] k = rw (eq-eqb c.count 0 (nothing_cut k)) (omega arith)
    go (w ∷ ws) k = let some = some_left k in rw (ne_eqb c.count 0 (λ q. omega arith)) (omega arith)

deferred_count : (ws : List ℕ) (c : Call) (bytes : List ℕ) → length (deferred_by c ws bytes) ≡ cond (eqb c.kind 0) (length ws) 0
deferred_count ws c bytes = step (eqb c.kind 0)
  where
    step : (b : Bool) → length (cond b (row_ops (rows_by c 1 ws) bytes) []) ≡ cond b (length ws) 0
    step true = row_ops_length (rows_by c 1 ws) bytes ∙ rows_length ws c 1
    step false = refl

accesses_length : (ws : List ℕ) (c : Call) (m : Window) → c.kind < 3
    → length (accesses_by c ws m) ≡ cond (eqb c.kind 2) (length ws) (2 * length ws)
unfolding accesses_by
accesses_length ws c m kind =
    length-append (pass_accesses (rows_by c 1 ws) m) _
    ∙ step (eqb c.kind 0) (inverted c) (eqb c.kind 2) refl refl refl (pass_accesses_length ws c 1 m)
    (held_accesses_length (deferred_by c ws m.bytes) _ ∙ deferred_count ws c m.bytes)
  where
    step : (x y z : Bool) → eqb c.kind 0 ≡ x → inverted c ≡ y → eqb c.kind 2 ≡ z → {a b : ℕ}
        → a ≡ cond y (2 * length ws) (length ws) → b ≡ cond x (length ws) 0 → a + b ≡ cond z (length ws) (2 * length ws)
    step true true z ex ey ez ea eb = absurd (omega (arith, eqb-true c.kind 0 ex, eqb-true c.kind 1 ey))
    step true false true ex ey ez ea eb = absurd (omega (arith, eqb-true c.kind 0 ex, eqb-true c.kind 2 ez))
    step true false false ex ey ez ea eb = omega arith
    step false true true ex ey ez ea eb = absurd (omega (arith, eqb-true c.kind 1 ey, eqb-true c.kind 2 ez))
    step false true false ex ey ez ea eb = omega arith
    step false false true ex ey ez ea eb = omega arith
    step false false false ex ey ez ea eb =
        absurd (omega (arith, eqb-false c.kind 0 ex, eqb-false c.kind 1 ey, eqb-false c.kind 2 ez))

pub counts : (c : Call) (m : Window) → c.kind < 3 → (length (call_ops c m.bytes) ≡ op_count c) × (length (call_accesses c m) ≡ access_count c)
counts c m kind = (ops_count c m.bytes, accesses_length (widths_of c) c m kind)

-- Numbers of the records

-- each has eight value numbers
pub ops_eight : (ws : List ℕ) (c : Call) (bytes : List ℕ) → All Eight (ops_by c ws bytes)
unfolding ops_by rows_by row_ops
ops_eight [] c bytes = (refl, tt)
ops_eight (w ∷ ws) c bytes = row_ops_eight (rows_by c 1 (w ∷ ws)) bytes

pub records_length : (c : Call) (bytes : List ℕ) → length (flat_map op_record (call_ops c bytes)) ≡ OP_WIDTH * op_count c
records_length c bytes = flat_ops_length (call_ops c bytes) (ops_eight (widths_of c) c bytes) ∙ ap (λ (n : ℕ). OP_WIDTH * n) (ops_count c bytes)
