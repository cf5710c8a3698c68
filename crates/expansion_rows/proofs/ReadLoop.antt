-- The loop of `read_pass`, over plain lists and numbers: what holds at its head, and that one turn keeps it. The invariant says of each
-- slice that going on from here gives what the whole pass gives, so it starts by refl and ends where no row is left. Assumes nothing.
use mathlib.Core.Path.{◌≡◌, refl, sym, ap, ◌∙◌, subst}
use mathlib.Core.List.{List, [], ◌∷◌, ◌++◌, flat_map}
use Prim.Native.Nat.{ℕ, ◌+◌, ◌-◌, ◌*◌, ◌^◌, ◌≤◌, ◌<◌}
use native.Mathlib.Omega.{arith}
use lib.Dec.{eqb}
use lib.ListN.{length, take, drop, length-append}
use Rattle.lists.specs.Lists.{store}
use Rattle.lists.proofs.Joined.{flat_map_append, flat_map_more}
use Rattle.lists.proofs.Store.{store_none, lent_back, part_turn, part_length}
use Rattle.words.specs.Words.{bit}
use Rattle.call.specs.Calls.{Call}
use Rattle.call.specs.Ops.{OP_WIDTH, op_record}
use Rattle.call.specs.Cuts.{rest}
use Rattle.call.proofs.Cuts.{width_pos, width_eight}
use Rattle.access.specs.Access.{ACCESS_WIDTH, access_record}
use Rattle.window.specs.Window.{Window, window_of}
use Rattle.expansion_rows.specs.Rows.{Row, row_with, copy_row_width, widths_of}
use Rattle.expansion_rows.specs.Inner.{rows_of}
use Rattle.expansion_rows.specs.Turns.{inverted, turn_bytes, turn_stamps, turn_accesses, row_op, row_ops, pass_bytes, pass_stamps, pass_accesses}
use Rattle.expansion_rows.specs.Inner.{PassInside}
use Rattle.expansion_rows.proofs.Width.{width_cases, width_within}
use Rattle.expansion_rows.proofs.Widths.{widths_next}
use Rattle.expansion_rows.proofs.RowList.{rows_from, rows_none, rows_next}
use Rattle.expansion_rows.proofs.Lengths.{turn_bytes_length, turn_stamps_length, turn_accesses_length}

-- The first of the rows that are left, and those behind it

module _ (c : Call) (w f : ℕ) (e : w ≡ copy_row_width c) (some : 0 < c.count) where
  next : rows_from c f ≡ row_with c w f ∷ rows_from (rest c w) 0
  next = rows_next c w f e some

  rows_step : length (widths_of c) ≡ 1 + length (widths_of (rest c w))
  rows_step = ap (λ (ws : List ℕ). length ws) (widths_next c w e some) ∙ omega arith

  ops_step : (b : List ℕ)
      → flat_map op_record (row_ops (rows_from c f) b)
      ≡ op_record (row_op (row_with c w f) b) ++ flat_map op_record (row_ops (rows_from (rest c w) 0) (turn_bytes c w b))
  unfolding row_ops
  ops_step b = ap (λ (rs : List Row). flat_map op_record (row_ops rs b)) next ∙ flat_map_more op_record _ _

  bytes_step : (b : List ℕ) → pass_bytes (rows_from c f) b ≡ pass_bytes (rows_from (rest c w) 0) (turn_bytes c w b)
  unfolding pass_bytes
  bytes_step b = ap (λ (rs : List Row). pass_bytes rs b) next

  stamps_step : (s : List ℕ) → pass_stamps (rows_from c f) s ≡ pass_stamps (rows_from (rest c w) 0) (turn_stamps c w s)
  unfolding pass_stamps
  stamps_step s = ap (λ (rs : List Row). pass_stamps rs s) next

  accesses_step : (b s : List ℕ)
      → pass_accesses (rows_from c f) (window_of b s)
      ≡ turn_accesses c w (window_of b s) ++ pass_accesses (rows_from (rest c w) 0) (window_of (turn_bytes c w b) (turn_stamps c w s))
  unfolding pass_accesses
  accesses_step b s = ap (λ (rs : List Row). pass_accesses rs (window_of b s)) next

  count_step : (b s : List ℕ)
      → length (pass_accesses (rows_from c f) (window_of b s))
      ≡ (1 + bit (inverted c)) + length (pass_accesses (rows_from (rest c w) 0) (window_of (turn_bytes c w b) (turn_stamps c w s)))
  count_step b s =
      ap length (accesses_step b s)
      ∙ length-append (turn_accesses c w (window_of b s)) _
      ∙ ap (λ (n : ℕ). n + length (pass_accesses (rows_from (rest c w) 0) (window_of (turn_bytes c w b) (turn_stamps c w s))))
      (turn_accesses_length c w (window_of b s))

-- What holds at the head of the loop

pub record PassAt
    (c₀ : Call) (bytes₀ stamps₀ ops₀ accesses₀ : List ℕ) (per : ℕ) (bytes stamps ops accesses : List ℕ) (c : Call) (f k j : ℕ)
    : Type 0 where
  pub kind : c.kind ≡ c₀.kind
  pub stamp : c.stamp ≡ c₀.stamp
  pub src_end : c.src + c.count ≡ c₀.src + c₀.count
  pub dst_end : c.dst + c.count ≡ c₀.dst + c₀.count
  pub per_is : per ≡ 1 + bit (inverted c₀)
  pub bytes_same : length bytes ≡ length bytes₀
  pub stamps_same : length stamps ≡ length bytes₀
  pub ops_same : length ops ≡ length ops₀
  pub accesses_same : length accesses ≡ length accesses₀
  pub rows_left : k + length (widths_of c) ≡ length (widths_of c₀)
  pub accesses_left : j + length (pass_accesses (rows_from c f) (window_of bytes stamps)) ≡ length (pass_accesses (rows_of c₀) (window_of bytes₀ stamps₀))
  pub bytes_go : pass_bytes (rows_from c f) bytes ≡ pass_bytes (rows_of c₀) bytes₀
  pub stamps_go : pass_stamps (rows_from c f) stamps ≡ pass_stamps (rows_of c₀) stamps₀
  pub ops_go : store ops (OP_WIDTH * k) (flat_map op_record (row_ops (rows_from c f) bytes)) ≡ store ops₀ 0 (flat_map op_record (row_ops (rows_of c₀) bytes₀))
  pub accesses_go : store accesses (ACCESS_WIDTH * j) (flat_map access_record (pass_accesses (rows_from c f) (window_of bytes stamps)))
      ≡ store accesses₀ 0 (flat_map access_record (pass_accesses (rows_of c₀) (window_of bytes₀ stamps₀)))

pub pass_start : (c₀ : Call) (bytes stamps ops accesses : List ℕ) (per : ℕ) → length stamps ≡ length bytes
    → per ≡ 1 + bit (inverted c₀) → PassAt c₀ bytes stamps ops accesses per bytes stamps ops accesses c₀ 1 0 0
pass_start c₀ bytes stamps ops accesses per same e =
    record {
      kind = refl;
      stamp = refl;
      src_end = refl;
      dst_end = refl;
      per_is = e;
      bytes_same = refl;
      stamps_same = same;
      ops_same = refl;
      accesses_same = refl;
      rows_left = omega arith;
      accesses_left = omega arith;
      bytes_go = refl;
      stamps_go = refl;
      ops_go = refl;
      accesses_go = refl;
    }

-- what a turn may count on
pub record Ahead (per : ℕ) (bytes stamps ops accesses : List ℕ) (c : Call) (k j w : ℕ) : Type 0 where
  pub pos : 0 < w
  pub within : w ≤ c.count
  pub wide : w ≤ 8
  pub source : c.src + c.count ≤ length bytes
  pub dest : c.kind ≡ 1 → c.dst + w ≤ length bytes
  pub small : c.dst + c.count < 2 ^ 64
  pub later : c.stamp + 1 < 2 ^ 64
  pub window : length stamps ≡ length bytes
  pub op_room : OP_WIDTH * k + OP_WIDTH ≤ length ops
  pub access_room : ACCESS_WIDTH * (j + per) ≤ length accesses
  pub access_part : ACCESS_WIDTH * (j + per) - ACCESS_WIDTH * j ≡ ACCESS_WIDTH * (1 + bit (inverted c))

module _
    (c₀ : Call) (bytes₀ stamps₀ ops₀ accesses₀ : List ℕ) (per : ℕ) (bytes stamps ops accesses : List ℕ) (c : Call) (f k j : ℕ)
    (at : PassAt c₀ bytes₀ stamps₀ ops₀ accesses₀ per bytes stamps ops accesses c f k j) where
  -- the end
  module _ (none : c.count ≡ 0) where
    over : rows_from c f ≡ []
    over = rows_none c f none

    bytes_end : bytes ≡ pass_bytes (rows_of c₀) bytes₀
    unfolding pass_bytes
    bytes_end = sym (ap (λ (rs : List Row). pass_bytes rs bytes) over) ∙ at.bytes_go

    stamps_end : stamps ≡ pass_stamps (rows_of c₀) stamps₀
    unfolding pass_stamps
    stamps_end = sym (ap (λ (rs : List Row). pass_stamps rs stamps) over) ∙ at.stamps_go

    ops_end : ops ≡ store ops₀ 0 (flat_map op_record (row_ops (rows_of c₀) bytes₀))
    unfolding row_ops flat_map
    ops_end =
        sym (ap (λ (rs : List Row). store ops (OP_WIDTH * k) (flat_map op_record (row_ops rs bytes))) over ∙ store_none ops (OP_WIDTH * k)) ∙ at.ops_go

    accesses_end : accesses ≡ store accesses₀ 0 (flat_map access_record (pass_accesses (rows_of c₀) (window_of bytes₀ stamps₀)))
    unfolding pass_accesses flat_map
    accesses_end =
        sym
        (ap (λ (rs : List Row). store accesses (ACCESS_WIDTH * j) (flat_map access_record (pass_accesses rs (window_of bytes stamps)))) over
        ∙ store_none accesses (ACCESS_WIDTH * j))
        ∙ at.accesses_go

    pub pass_end : (bytes ≡ pass_bytes (rows_of c₀) bytes₀)
        × ((stamps ≡ pass_stamps (rows_of c₀) stamps₀)
        × ((ops ≡ store ops₀ 0 (flat_map op_record (row_ops (rows_of c₀) bytes₀)))
        × (accesses ≡ store accesses₀ 0 (flat_map access_record (pass_accesses (rows_of c₀) (window_of bytes₀ stamps₀))))))
    pass_end = (bytes_end, (stamps_end, (ops_end, accesses_end)))

  -- one turn
  module _ (p : PassInside c₀ bytes₀ stamps₀ ops₀ accesses₀) (some : 0 < c.count) (w : ℕ) (e : w ≡ copy_row_width c) where
    per_here : per ≡ 1 + bit (inverted c)
    per_here = at.per_is ∙ ap (λ (n : ℕ). 1 + bit (eqb n 1)) (sym at.kind)

    dest_here : c.kind ≡ 1 → c.dst + w ≤ length bytes
    dest_here set =
        let not_write : c₀.kind ≡ 2 → ⊥ = λ q. omega (arith, at.kind) in
        let same = at.dst_end in
        omega (arith, p.call.dest not_write, width_within c some)

    pub ahead : Ahead per bytes stamps ops accesses c k j w
    ahead =
        let n = rows_step c w f e some in
        let m = count_step c w f e some bytes stamps in
        let q = per_here in
        record {
          pos = omega (arith, width_pos (width_cases c));
          within = omega (arith, width_within c some);
          wide = omega (arith, width_eight (width_cases c));
          source = omega (arith, p.call.source);
          dest = dest_here;
          small = omega (arith, p.call.small);
          later = omega (arith, p.call.later);
          window = omega arith;
          op_room = omega (arith, p.room);
          access_room = omega (arith, p.space);
          access_part = omega arith;
        }

    -- where the row's records go
    abbrev op_from : ℕ
    op_from = OP_WIDTH * k

    abbrev op_to : ℕ
    op_to = OP_WIDTH * k + OP_WIDTH

    abbrev access_from : ℕ
    access_from = ACCESS_WIDTH * j

    abbrev access_to : ℕ
    access_to = ACCESS_WIDTH * (j + per)

    pub pass_turn : (bytes' stamps' op access : List ℕ) (c' : Call)
        → bytes' ≡ turn_bytes c w bytes → stamps' ≡ turn_stamps c w stamps → op ≡ op_record (row_op (row_with c w f) bytes)
        → access ≡ flat_map access_record (turn_accesses c w (window_of bytes stamps)) → c' ≡ rest c w
        → length op ≡ length (take (op_to - op_from) (drop op_from ops))
        → length access ≡ length (take (access_to - access_from) (drop access_from accesses))
        → PassAt c₀ bytes₀ stamps₀ ops₀ accesses₀ per bytes' stamps' (lent_back ops op_from op_to op) (lent_back accesses access_from access_to access)
        c' 0 (k + 1) (j + per)
    pass_turn bytes' stamps' op access c' eb es eo ea ec lo la =
        let lb : length bytes' ≡ length bytes = ap length eb ∙ turn_bytes_length c w bytes in
        let ls : length stamps' ≡ length stamps = ap length es ∙ turn_stamps_length c w stamps in
        let a = ahead in
        let q = per_here in
        let n = rows_step c w f e some in
        let m = count_step c w f e some bytes stamps in
        let left = rows_from (rest c w) 0 in
        let window = window_of (turn_bytes c w bytes) (turn_stamps c w stamps) in
        let m' : window_of bytes' stamps' ≡ window = cc (eb, es) in
        let len : length (pass_accesses left (window_of bytes' stamps')) ≡ length (pass_accesses left window) =
        ap (λ (x : Window). length (pass_accesses left x)) m' in
        let one_more : OP_WIDTH * (k + 1) ≡ op_to = omega arith in
        let os = flat_map op_record (row_ops left bytes') in
        let rs = flat_map access_record (pass_accesses left (window_of bytes' stamps')) in
        let op_back = lent_back ops op_from op_to op in
        let access_back = lent_back accesses access_from access_to access in
        subst (λ (x : Call). PassAt c₀ bytes₀ stamps₀ ops₀ accesses₀ per bytes' stamps' op_back access_back x 0 (k + 1) (j + per)) (sym ec)
        record {
          kind = at.kind;
          stamp = at.stamp;
          src_end = omega (arith, at.src_end);
          dst_end = omega (arith, at.dst_end);
          per_is = at.per_is;
          bytes_same = lb ∙ at.bytes_same;
          stamps_same = ls ∙ at.stamps_same;
          ops_same = part_length ops op op_from op_to (omega arith) a.op_room lo ∙ at.ops_same;
          accesses_same = part_length accesses access access_from access_to (omega arith) a.access_room la ∙ at.accesses_same;
          rows_left = omega (arith, at.rows_left);
          accesses_left = omega (arith, at.accesses_left);
          bytes_go = ap (λ (x : List ℕ). pass_bytes left x) eb ∙ sym (bytes_step c w f e some bytes) ∙ at.bytes_go;
          stamps_go = ap (λ (x : List ℕ). pass_stamps left x) es ∙ sym (stamps_step c w f e some stamps) ∙ at.stamps_go;
          ops_go =
              ap (λ (x : ℕ). store op_back x os) one_more
              ∙ part_turn ops op op_from op_to (omega arith) a.op_room lo os
              ∙ ap (λ (l : List ℕ). store ops op_from l) (cc (eo, eb, ops_step c w f e some bytes))
              ∙ at.ops_go;
          accesses_go =
              part_turn accesses access access_from access_to (omega arith) a.access_room la rs
              ∙ ap (λ (l : List ℕ). store accesses access_from l)
              (cc (
                ea,
                m',
                accesses_step c w f e some bytes stamps,
                flat_map_append access_record (turn_accesses c w (window_of bytes stamps)) (pass_accesses left window),
              ))
              ∙ at.accesses_go;
        }
