-- What an accepted call leaves in the four slices, kind by kind, as the code leaves it; and that what is accepted is what the code that
-- moves bytes asks for. Over plain lists and numbers. Assumes nothing.
use mathlib.Core.Path.{◌≡◌, refl, sym, ap, ◌∙◌, subst}
use mathlib.Core.Bool.{Bool, true, false, cond}
use mathlib.Core.List.{List, [], ◌∷◌, ◌++◌, flat_map, append-nil}
use Prim.Native.Nat.{ℕ, ◌+◌, ◌-◌, ◌*◌, ◌^◌, ◌≤◌, ◌<◌}
use native.Mathlib.Omega.{arith}
use borrow.Author.Tests.{eq-eqb, ne_eqb, eqb-true}
use lib.Dec.{eqb}
use lib.ListN.{length, length-append}
use Rattle.lists.specs.Lists.{store, All}
use Rattle.lists.proofs.All.{all_append}
use Rattle.lists.proofs.Joined.{flat_map_append, flat_map_length}
use Rattle.lists.proofs.Store.{length_store, store_append}
use Rattle.words.specs.Words.{Bytes}
use Rattle.records.specs.Records.{record_at}
use Rattle.call.specs.Calls.{Call, Op}
use Rattle.call.specs.Ops.{op_record, op_of, OP_WIDTH}
use Rattle.call.specs.Cuts.{CutInto}
use Rattle.call.proofs.Cuts.{nothing_cut}
use Rattle.access.specs.Access.{Access, access_record, ACCESS_WIDTH}
use Rattle.window.specs.Window.{Window, window_of, read_access, write_access}
use Rattle.window.proofs.WindowLaws.{length_cells}
use Rattle.expansion_rows.specs.Rows.{Row, rows_by, widths_of}
use Rattle.expansion_rows.specs.Inner.{rows_of}
use Rattle.expansion_rows.specs.Turns.{inverted, read_stamp, write_stamp, value_at, turn_accesses, row_ops, pass_bytes, pass_stamps, pass_accesses}
use Rattle.expansion_rows.specs.Held.{held_all_bytes, held_all_stamps, held_accesses}
use Rattle.expansion_rows.specs.Inner.{ops_in}
use Rattle.expansion_rows.specs.Inner.{CallInside, PassInside, HeldInside}
use Rattle.expansion_rows.proofs.Widths.{widths_cut}
use Rattle.expansion_rows.proofs.RowList.{rows_length, rows_none}
use Rattle.expansion_rows.proofs.Lengths.{row_ops_length, pass_bytes_length, pass_accesses_length}
use Rattle.expansion_rows.proofs.HeldOps.{row_ops_eight, ops_back_lem, flat_ops_length, each_op, copy_held}
use Rattle.expansion.specs.Refusals.{op_count, access_count}
use Rattle.expansion.specs.Tries.{Setting, Lengths, Lent, lent}
use Rattle.expansion.specs.Expansion.{empty_op, ops_by, deferred_by, bytes_by, stamps_by, accesses_by, call_ops, expanded}
use Rattle.expansion.proofs.Judged.{Fair, dest_fits}

-- Access records have their width

abbrev Wide : Access → Type 0
Wide a = length (access_record a) ≡ ACCESS_WIDTH

turn_wide : (c : Call) (w : ℕ) (m : Window) → All Wide (turn_accesses c w m)
unfolding turn_accesses
turn_wide c w m =
    let v : length (value_at c w m.bytes) ≡ 8 = length_cells m.bytes c.src w in
    step (inverted c) (write_access m c.dst w (value_at c w m.bytes) (write_stamp c)) (read_access m c.src w (read_stamp c))
    (simp length-append (omega (arith, length_cells m.bytes c.dst w, length_cells m.stamps c.dst w)))
    (simp length-append (omega (arith, length_cells m.stamps c.src w)))
  where
    step : (b : Bool) (x y : Access) → Wide x → Wide y → All Wide (cond b (x ∷ []) [] ++ (y ∷ []))
    step true x y h k = (h, (k, tt))
    step false x y h k = (k, tt)

pass_wide : (rs : List Row) (m : Window) → All Wide (pass_accesses rs m)
unfolding pass_accesses
pass_wide [] m = tt
pass_wide (r ∷ rs) m = all_append Wide (turn_accesses r.call r.width m) _ (turn_wide r.call r.width m) (pass_wide rs _)

-- Room

module _ (c : Call) (some : 0 < c.count) where
  pub rows_count_lem : op_count c ≡ length (widths_of c)
  rows_count_lem = rw (ne_eqb c.count 0 (λ q. omega arith))

  pass_count : (m : Window) → length (pass_accesses (rows_of c) m) ≤ access_count c
  pass_count m = step (inverted c) (eqb c.kind 2) refl refl (pass_accesses_length (widths_of c) c 1 m)
    where
      step : (b d : Bool) → inverted c ≡ b → eqb c.kind 2 ≡ d
          → length (pass_accesses (rows_of c) m) ≡ cond b (2 * length (widths_of c)) (length (widths_of c))
          → length (pass_accesses (rows_of c) m) ≤ cond d (length (widths_of c)) (2 * length (widths_of c))
      step true true eb ed e = absurd (omega (arith, eqb-true c.kind 1 eb, eqb-true c.kind 2 ed))
      step true false eb ed e = omega arith
      step false true eb ed e = omega arith
      step false false eb ed e = omega arith

  pub pass_inside : (b s o a : List ℕ) → CallInside c (length b) → OP_WIDTH * op_count c ≤ length o
      → ACCESS_WIDTH * access_count c ≤ length a → PassInside c b s o a
  pass_inside b s o a inside room space =
      record {
        call = inside;
        room = omega (arith, rows_count_lem);
        space = omega (arith, pass_count (window_of b s));
      }

-- A fair call lies in the window

pub fair_inside : (s : Setting) (c : Call) (n : Lengths) → Fair s c n → s.limit < 2 ^ 64 → c.stamp < 2 ^ 64 → c.dst < 2 ^ 64
    → 0 < c.count → CallInside c n.cells
fair_inside s c n f small stamp dst some =
    let last : c.stamp ≡ 2 ^ 64 - 1 → ⊥ = f.stamp in
    record {
      source = f.source some;
      dest = f.dest some;
      small = dest_fits s c n f small dst;
      later = omega (arith, last);
    }

-- An empty call

module _ (c : Call) (l : Lent) (none : c.count ≡ 0) where
  no_rows : rows_of c ≡ []
  no_rows = rows_none c 1 none

  no_writes : deferred_by c (widths_of c) l.bytes ≡ []
  unfolding row_ops
  no_writes = ap (λ (rs : List Row). cond (eqb c.kind 0) (row_ops rs l.bytes) []) no_rows ∙ step (eqb c.kind 0)
    where
      step : (b : Bool) → ◌≡◌ {A = List Op} (cond b [] []) []
      step true = refl
      step false = refl

  pub expanded_empty : lent l.bytes l.stamps (store l.ops 0 (op_record (empty_op c))) l.accesses ≡ expanded c l
  unfolding expanded ops_by bytes_by stamps_by accesses_by row_ops pass_bytes pass_stamps pass_accesses held_all_bytes held_all_stamps held_accesses flat_map store
  expanded_empty =
      rw (no_writes, no_rows)
      (ap (λ (x : List ℕ). lent l.bytes l.stamps (store l.ops 0 x) l.accesses) (sym (append-nil (op_record (empty_op c)))))

-- A call of some bytes

pub some_ops : (ws : List ℕ) (c : Call) (bytes : List ℕ) → CutInto c.count ws → 0 < c.count → ops_by c ws bytes ≡ row_ops (rows_by c 1 ws) bytes
unfolding ops_by rows_by row_ops
some_ops [] c bytes k some = absurd (omega (arith, nothing_cut k))
some_ops (w ∷ ws) c bytes k some = refl

call_ops_lem : (c : Call) (bytes : List ℕ) → 0 < c.count → call_ops c bytes ≡ row_ops (rows_of c) bytes
call_ops_lem c bytes some = some_ops (widths_of c) c bytes (widths_cut c) some

module _ (c : Call) (l : Lent) (some : 0 < c.count) where
  -- no Copy: what the turns leave
  pub expanded_pass : (c.kind ≡ 0 → ⊥)
      → lent (pass_bytes (rows_of c) l.bytes) (pass_stamps (rows_of c) l.stamps) (store l.ops 0 (flat_map op_record (row_ops (rows_of c) l.bytes)))
      (store l.accesses 0 (flat_map access_record (pass_accesses (rows_of c) (window_of l.bytes l.stamps))))
      ≡ expanded c l
  unfolding expanded bytes_by stamps_by accesses_by held_all_bytes held_all_stamps held_accesses
  expanded_pass other =
      rw (call_ops_lem c l.bytes some, ne_eqb c.kind 0 other)
      (ap
      (λ (x : List Access).
      lent (pass_bytes (rows_of c) l.bytes) (pass_stamps (rows_of c) l.stamps) (store l.ops 0 (flat_map op_record (row_ops (rows_of c) l.bytes)))
      (store l.accesses 0 (flat_map access_record x)))
      (sym (append-nil (pass_accesses (rows_of c) (window_of l.bytes l.stamps)))))

-- A Copy of some bytes: b₁ to a₁ are what the turns leave
module _
    (c : Call) (b s o a : List ℕ) (copy : c.kind ≡ 0) (some : 0 < c.count) (inside : CallInside c (length b))
    (rows : ℕ) (rows_are : rows ≡ op_count c) (room : OP_WIDTH * op_count c ≤ length o) (space : ACCESS_WIDTH * access_count c ≤ length a)
    (small : Bytes b) (b₁ s₁ o₁ a₁ : List ℕ)
    (eb : b₁ ≡ pass_bytes (rows_of c) b) (es : s₁ ≡ pass_stamps (rows_of c) s)
    (eo : o₁ ≡ store o 0 (flat_map op_record (row_ops (rows_of c) b)))
    (ea : a₁ ≡ store a 0 (flat_map access_record (pass_accesses (rows_of c) (window_of b s)))) where
  abbrev os : List Op
  os = row_ops (rows_of c) b

  count : length os ≡ rows
  count = row_ops_length (rows_of c) b ∙ rows_length (widths_of c) c 1 ∙ sym (rows_count_lem c some) ∙ sym rows_are

  -- the operation records come back from the buffer
  back : ops_in o₁ rows ≡ os
  back =
      let n = flat_ops_length os (row_ops_eight (rows_of c) b) in
      ap (λ (x : List ℕ). ops_in x rows) eo
      ∙ ap (λ (k : ℕ). ops_in (store o 0 (flat_map op_record os)) k) (sym count)
      ∙ ops_back_lem o os (row_ops_eight (rows_of c) b) (omega (arith, n, count, rows_are, room))

  same_b : length b₁ ≡ length b
  same_b = ap length eb ∙ pass_bytes_length (rows_of c) b

  double : access_count c ≡ 2 * length (widths_of c)
  double = rw (ne_eqb c.kind 2 (λ q. omega arith))

  pub write_inside : ((k : ℕ) → k < rows → HeldInside (c.stamp + 1) (length b₁) (op_of (record_at OP_WIDTH o₁ k)))
      × (OP_WIDTH * rows ≤ length o₁)
      × (ACCESS_WIDTH * (rows + rows) ≤ length a₁)
  write_inside =
      let held = copy_held (widths_of c) c 1 b (c.stamp + 1) (widths_cut c) inside copy refl small in
      let held₁ : All (HeldInside (c.stamp + 1) (length b₁)) (ops_in o₁ rows) =
      subst (λ (xs : List Op). All (HeldInside (c.stamp + 1) (length b₁)) xs) (sym back)
      (subst (λ (n : ℕ). All (HeldInside (c.stamp + 1) n) os) (sym same_b) held) in (
        each_op (HeldInside (c.stamp + 1) (length b₁)) o₁ rows held₁,
        omega (arith, room, rows_are, ap length eo ∙ length_store o 0 (flat_map op_record os)),
        omega (arith, space, double, rows_are, rows_count_lem c some, ap length ea ∙ length_store a 0 _),
      )

  pub expanded_copy : (b₂ s₂ a₂ : List ℕ)
      → b₂ ≡ held_all_bytes (ops_in o₁ rows) b₁ → s₂ ≡ held_all_stamps (ops_in o₁ rows) s₁
      → a₂ ≡ store a₁ (ACCESS_WIDTH * rows) (flat_map access_record (held_accesses (ops_in o₁ rows) (window_of b₁ s₁)))
      → lent b₂ s₂ o₁ a₂ ≡ expanded c (lent b s o a)
  unfolding expanded bytes_by stamps_by accesses_by
  expanded_copy b₂ s₂ a₂ fb fs fa =
      let reads = pass_accesses (rows_of c) (window_of b s) in
      let m₁ = window_of (pass_bytes (rows_of c) b) (pass_stamps (rows_of c) s) in
      let n = flat_map_length ACCESS_WIDTH access_record reads (pass_wide (rows_of c) (window_of b s)) in
      let reads_count : length reads ≡ length (widths_of c) =
      pass_accesses_length (widths_of c) c 1 (window_of b s) ∙ rw (ne_eqb c.kind 1 (λ q. omega arith)) in
      let z : ACCESS_WIDTH * rows ≡ 0 + length (flat_map access_record reads) = omega (arith, n, reads_count, rows_are, rows_count_lem c some) in
      let accesses_are : a₂ ≡ store a 0 (flat_map access_record (reads ++ held_accesses os m₁)) =
      fa
      ∙ ap (λ (x : ℕ). store a₁ x (flat_map access_record (held_accesses (ops_in o₁ rows) (window_of b₁ s₁)))) z
      ∙ cc (back, eb, es, ea)
      ∙ sym (store_append a 0 (flat_map access_record reads) (flat_map access_record (held_accesses os m₁)))
      ∙ ap (λ (x : List ℕ). store a 0 x) (sym (flat_map_append access_record reads (held_accesses os m₁))) in
      rw (call_ops_lem c b some, eq-eqb c.kind 0 copy) (cc (fb, fs, back, eb, es, eo, accesses_are))

pub empty_room : (c : Call) {n : ℕ} → c.count ≡ 0 → OP_WIDTH * op_count c ≤ n → OP_WIDTH ≤ n
empty_room c none room = rw (eq-eqb c.count 0 none) at room
