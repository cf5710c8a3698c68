-- The deferred writes find again, in the operation records that the rows wrote, what the rows read: the records come back from the
-- numbers as they were, and each lies in the window. Assumes nothing.
use mathlib.Core.Path.{◌≡◌, refl, sym, ap, ap₂, ◌∙◌, subst}
use mathlib.Core.List.{List, [], ◌∷◌, flat_map, map}
use Prim.Native.Nat.{ℕ, ◌+◌, ◌*◌, ◌≤◌, ◌<◌}
use native.Mathlib.Nat.{zero-add}
use native.Mathlib.Omega.{arith}
use lib.ListN.{length, drop}
use Rattle.lists.specs.Lists.{store, All, listed}
use Rattle.lists.proofs.All.{all_mapped}
use Rattle.lists.proofs.Joined.{flat_map_length}
use Rattle.lists.proofs.Listed.{each_listed}
use Rattle.lists.proofs.Store.{store_eq}
use Rattle.words.specs.Words.{Bytes}
use Rattle.records.specs.Records.{record_at}
use Rattle.records.proofs.RecordList.{joined_front}
use Rattle.call.specs.Calls.{Call, Op}
use Rattle.call.specs.Ops.{op_record, op_of, OP_WIDTH}
use Rattle.call.specs.Cuts.{rest, CutInto}
use Rattle.call.proofs.Ops.{op_of_record, op_record_length}
use Rattle.call.proofs.Cuts.{first_eight, first_within, rest_cut}
use Rattle.window.proofs.WindowLaws.{length_cells}
use Rattle.window.proofs.Bytes.{cells_bytes}
use Rattle.expansion_rows.specs.Rows.{Row, row_with, rows_by}
use Rattle.expansion_rows.specs.Turns.{turn_bytes, row_op, row_ops}
use Rattle.expansion_rows.specs.Inner.{ops_in}
use Rattle.expansion_rows.specs.Inner.{CallInside, HeldInside}
use Rattle.expansion_rows.proofs.OneTurn.{read_bytes}

-- Records there and back

-- an operation record with eight value numbers
abbrev pub Eight : Op → Type 0
Eight o = length o.piece.value ≡ 8

pub row_ops_eight : (rs : List Row) (bytes : List ℕ) → All Eight (row_ops rs bytes)
unfolding row_ops
row_ops_eight [] bytes = tt
row_ops_eight (r ∷ rs) bytes =
    (length_cells bytes r.call.src r.width, row_ops_eight rs (turn_bytes r.call r.width bytes))

records_wide : (os : List Op) → All Eight os → All (λ (o : Op). length (op_record o) ≡ OP_WIDTH) os
records_wide [] eight = tt
records_wide (o ∷ os) eight = (op_record_length o eight.0, records_wide os eight.1)

pub flat_ops_length : (os : List Op) → All Eight os → length (flat_map op_record os) ≡ OP_WIDTH * length os
flat_ops_length os eight = flat_map_length OP_WIDTH op_record os (records_wide os eight)

back_again : (os : List Op) → All Eight os → map op_of (map op_record os) ≡ os
back_again [] eight = refl
back_again (o ∷ os) eight = ap₂ (λ (x : Op) (xs : List Op). x ∷ xs) (op_of_record o eight.0) (back_again os eight.1)

pub ops_back_lem : (l : List ℕ) (os : List Op) → All Eight os → length (flat_map op_record os) ≤ length l
    → ops_in (store l 0 (flat_map op_record os)) (length os) ≡ os
ops_back_lem l os eight fits =
    ap (λ (x : List ℕ). ops_in x (length os)) (store_eq l 0 (flat_map op_record os) (omega arith))
    ∙ ap (map op_of) (joined_front OP_WIDTH (omega arith) op_record os (drop (0 + length (flat_map op_record os)) l) (records_wide os eight))
    ∙ back_again os eight

-- what holds of all of them holds of each
pub each_op : (P : Op → Type 0) (l : List ℕ) (n : ℕ) → All P (ops_in l n) → (k : ℕ) → k < n → P (op_of (record_at OP_WIDTH l k))
each_op P l n all k h =
    subst (λ (j : ℕ). P (op_of (record_at OP_WIDTH l j))) (zero-add k)
    (each_listed (λ (r : List ℕ). P (op_of r)) (record_at OP_WIDTH l) 0 n (all_mapped P op_of (listed (record_at OP_WIDTH l) 0 n) all) k h)

-- A Copy's writes lie in its window, however it is cut

pub copy_held : (ws : List ℕ) (c : Call) (f : ℕ) (bytes : List ℕ) (t : ℕ) → CutInto c.count ws → CallInside c (length bytes) → c.kind ≡ 0
    → t ≡ c.stamp + 1 → Bytes bytes → All (HeldInside t (length bytes)) (row_ops (rows_by c f ws) bytes)
unfolding rows_by row_ops
copy_held [] c f bytes t cut inside copy e small = tt
copy_held (w ∷ ws) c f bytes t cut inside copy e small =
    let wide : w ≤ 8 = first_eight cut in
    let within : w ≤ c.count = first_within cut in
    let dest = inside.dest (λ q. omega arith) in
    let here : HeldInside t (length bytes) (row_op (row_with c w f) bytes) =
    record { wide = wide; dest = omega arith; stamp = rw (copy, e) (omega arith); bytes = cells_bytes bytes c.src w small } in
    let same : turn_bytes c w bytes ≡ bytes = read_bytes c w bytes [] (λ q. omega arith) wide (omega (arith, inside.source)) in
    let next : CallInside (rest c w) (length bytes) =
    record {
      source = omega (arith, inside.source);
      dest = λ q. omega arith;
      small = omega (arith, inside.small);
      later = inside.later;
    } in
    let later = copy_held ws (rest c w) 0 bytes t (rest_cut cut) next copy e small in
    (here, subst (λ (b : List ℕ). All (HeldInside t (length bytes)) (row_ops (rows_by (rest c w) 0 ws) b)) (sym same) later)
