-- The chain property from the row check's half and the link check's half, which are arguments here: of residues and links nothing else is
-- cited. A list that passes is rows that passed and links that are not refused; the halves make that linked live steps, then dead rows;
-- and such records are exactly those of sound cut calls. Assumes nothing.
use mathlib.Core.Path.{◌≡◌, refl, sym, ap, ◌∙◌, subst, subst₂}
use mathlib.Core.Bool.{Bool, true, false}
use mathlib.Core.List.{List, [], ◌∷◌, ◌++◌, map}
use mathlib.Core.Logic.{◌⊎◌, inl, inr}
use mathlib.Core.Option.{Option, none, some}
use Prim.Native.Nat.{ℕ, zero, suc, ◌+◌, ◌*◌, ◌%◌, ◌^◌, ◌≤◌, ◌<◌}
use native.Mathlib.Omega.{arith}
use borrow.Author.Tests.{eqb-true, eqb-false}
use lib.Dec.{lit≤, eqb}
use lib.ListN.{length, get_or}
use Rattle.std.specs.Prelude.{Ok}
use Rattle.lists.specs.Lists.{at, All}
use Rattle.records.proofs.RecordList.{records_whole}
use Rattle.words.specs.Words.{bit}
use Rattle.call.specs.Calls.{Call, Op}
use Rattle.call.specs.Cuts.{CutCall, ops_of, Fits}
use Rattle.copy_row.specs.Columns.{MU, COLUMNS}
use Rattle.copy_row.specs.Rows.{wrapped, row_of, table_row}
use Rattle.copy_row.proofs.Rows.{row_wide}
use Rattle.copy_residues.specs.Residues.{residue, RESIDUES}
use Rattle.copy_residues.specs.RowCheck.{row_fault}
use Rattle.copy_meaning.specs.Steps.{LiveStep, RowStep}
use Rattle.copy_meaning.specs.ReadRow.{op_at}
use Rattle.copy_meaning.specs.RowIff.{BesidesDstRes, DependsOnDstRes, CallRow}
use Rattle.copy_meaning.proofs.DstRes.{same_op}
use Rattle.copy_meaning.proofs.ReadBack.{mu_back, op_back}
use Rattle.call_chain.specs.OpChain.{unless_end, next, Chain}
use Rattle.call_chain.proofs.Parse.{parse}
use Rattle.call_chain.proofs.Chained.{chain}
use Rattle.chain.specs.Chain.{table_rows}
use Rattle.read_back.specs.ReadBack.{live_rows}
use Rattle.whole_calls.specs.Demand.{Passes, DeadRow, Each, WholeCalls}
use Rattle.whole_calls.specs.Halves.{PassedRow, RowHalf, compared, Links, FromHalves}
use Rattle.whole_calls.proofs.BothHalves.{Wide, both_halves}
use Rattle.whole_calls.proofs.LiveRows.{steps, Still, live_rows_lem}

-- Linked live steps are a chain

-- a kind is told by its two bits
kind_bits : (kind : ℕ) → kind ≤ 2 → bit (eqb kind 1) + 2 * bit (eqb kind 2) ≡ kind
kind_bits zero h = refl
kind_bits (suc zero) h = refl
kind_bits (suc (suc zero)) h = refl
kind_bits (suc (suc (suc kind))) h = absurd (omega arith)

-- so what a link compares is the call
compared_same : (a b : Call) → a.kind ≤ 2 → b.kind ≤ 2 → compared a ≡ compared b → a ≡ b
compared_same a b ha hb e =
    let kind : a.kind ≡ b.kind = sym (kind_bits a.kind ha) ∙ ap (λ l. get_or l 1 0 + 2 * get_or l 2 0) e ∙ kind_bits b.kind hb in
    λ i.
    record {
      kind = kind i;
      stamp = ap (λ l. get_or l 0 0) e i;
      src = ap (λ l. get_or l 3 0) e i;
      dst = ap (λ l. get_or l 4 0) e i;
      count = ap (λ l. get_or l 5 0) e i;
    }

abbrev KindFits : Option Call → Type 0
KindFits none = Unit {0}
KindFits (some c) = c.kind ≤ 2

next_fits : (gap : ℕ) (o : Op) → LiveStep gap o → KindFits (next o)
next_fits gap o s = go o.end
  where
    go : (end : ℕ) → KindFits (unless_end end (wrapped o))
    go zero = s.words.kind
    go (suc end) = tt

module _ (gap : ℕ) where
  links_chain : (left : Option Call) (os : List Op) → KindFits left → All (LiveStep gap) os → Links left os → Chain gap left os
  links_chain none [] fits s links = tt
  links_chain (some c) [] fits s links = absurd links
  links_chain none (o ∷ os) fits s links = (links.0, s.0, links_chain (next o) os (next_fits gap o s.0) s.1 links.1)
  links_chain (some c) (o ∷ os) fits s links = (
    (links.0.0, compared_same o.call c s.0.words.kind fits links.0.1),
    s.0,
    links_chain (next o) os (next_fits gap o s.0) s.1 links.1,
  )

  chain_links : (left : Option Call) (os : List Op) → Chain gap left os → Links left os
  chain_links none [] c = tt
  chain_links (some x) [] c = absurd c
  chain_links none (o ∷ os) c = (c.0, chain_links (next o) os c.2)
  chain_links (some x) (o ∷ os) c = ((c.0.0, ap compared c.0.1), chain_links (next o) os c.2)

-- Rows, by the row check's half

module _ (half : RowHalf) (gap : ℕ) (g : gap < 2 ^ 32) where
  -- the row of a live step passes
  live_passed : (o : Op) → LiveStep gap o → PassedRow gap (table_row o)
  live_passed o s =
      record {
        wide = row_wide 1 o;
        fine =
            (half.says gap g (table_row o) (row_wide 1 o)).1
            (subst₂ (λ (mu : ℕ) (read : Op). (table_row o ≡ row_of mu read) × RowStep gap mu read) (sym (mu_back 1 o))
            (sym (op_back 1 o s.words s.piece)) (refl, s));
      }

  -- and the record that a row shows which passed is one
  passed_live : (o : Op) → PassedRow gap (table_row o) → op_at (table_row o) ≡ o → LiveStep gap o
  passed_live o passed shows =
      subst₂ (λ (mu : ℕ) (read : Op). RowStep gap mu read) (mu_back 1 o) shows ((half.says gap g (table_row o) passed.wide).0 passed.fine).1

  pub dead_row_lem : (row : List ℕ) → PassedRow gap row → at row MU ≡ 0 → DeadRow gap row
  dead_row_lem row passed still =
      let clean = (half.judges gap row passed.wide).0 passed.fine in
      record { dead = still; range = clean.0; zeroes = clean.1 }

  dead_passed : (row : List ℕ) → length row ≡ COLUMNS → DeadRow gap row → PassedRow gap row
  dead_passed row wide d = record { wide = wide; fine = (half.judges gap row wide).1 (d.range, d.zeroes) }

  pub all_still : (rows : List (List ℕ)) → All (DeadRow gap) rows → All Still rows
  all_still [] d = tt
  all_still (row ∷ rows) d = (d.0.dead, all_still rows d.1)

  -- a call's row is its table row. Were it free in DST_RES, its residues would be those of the table row, all 0; so it passes, and a row
  -- that passes is the row of its record, which does not look at DST_RES
  free_is : (o : Op) (row : List ℕ) → LiveStep gap o → CallRow gap o row → BesidesDstRes row (table_row o)
      → ((i : ℕ) → i < RESIDUES → DependsOnDstRes gap row i → ⊥) → row ≡ table_row o
  free_is o row s call besides free =
      ((half.says gap g row call.wide).0 fine).0
      ∙ (λ i. row_of (mu i) (read i))
    where
      made : PassedRow gap (table_row o)
      made = live_passed o s

      clean : (i : ℕ) → i < RESIDUES → residue gap (table_row o) i ≡ 0
      clean = ((half.judges gap (table_row o) made.wide).0 made.fine).1

      zeroes : (i : ℕ) → i < RESIDUES → residue gap row i ≡ 0
      zeroes i h = go (eqb (residue gap row i) 0) refl
        where
          go : (t : Bool) → eqb (residue gap row i) 0 ≡ t → residue gap row i ≡ 0
          go true e = eqb-true _ _ e
          go false e =
              absurd
              (free i h
              (record {
                other = table_row o;
                wide = made.wide;
                range = ((half.judges gap (table_row o) made.wide).0 made.fine).0;
                besides = besides;
                differs = λ same. eqb-false _ _ e (same ∙ clean i h);
              }))

      fine : row_fault gap row ≡ Ok tt
      fine = (half.judges gap row call.wide).1 (call.range, zeroes)

      mu : at row MU ≡ 1
      mu = besides MU (inr (lit≤ tt)) ∙ mu_back 1 o

      read : op_at row ≡ o
      read = same_op row (table_row o) besides ∙ op_back 1 o s.words s.piece

  call_is : (o : Op) (row : List ℕ) → LiveStep gap o → CallRow gap o row → row ≡ table_row o
  call_is o row s call = go call.same
    where
      go : (row ≡ table_row o) ⊎ (BesidesDstRes row (table_row o) × ((i : ℕ) → i < RESIDUES → DependsOnDstRes gap row i → ⊥)) → row ≡ table_row o
      go (inl e) = e
      go (inr e) = free_is o row s call e.0 e.1

  calls_are : (os : List Op) (rows : List (List ℕ)) → All (LiveStep gap) os → Each (CallRow gap) os rows → rows ≡ map table_row os
  calls_are [] [] s each = refl
  calls_are [] (row ∷ rows) s each = absurd each
  calls_are (o ∷ os) [] s each = absurd each
  calls_are (o ∷ os) (row ∷ rows) s each = λ i. call_is o row s.0 each.0 i ∷ calls_are os rows s.1 each.1 i

  made_calls : (os : List Op) → All (LiveStep gap) os → Each (CallRow gap) os (map table_row os)
  made_calls [] s = tt
  made_calls (o ∷ os) s =
      let passed = live_passed o s.0 in (
        record { wide = passed.wide; range = ((half.judges gap (table_row o) passed.wide).0 passed.fine).0; same = inl refl },
        made_calls os s.1,
      )

  -- Lists of rows

  lives : (os : List Op) (others : List (List ℕ)) → All (PassedRow gap) (map table_row os ++ others) → All (λ (o : Op). op_at (table_row o) ≡ o) os
      → All (LiveStep gap) os
  lives [] others passed shows = tt
  lives (o ∷ os) others passed shows = (passed_live o passed.0 shows.0, lives os others passed.1 shows.1)

  deads : (os : List Op) (others : List (List ℕ)) → All (PassedRow gap) (map table_row os ++ others) → All Still others → All (DeadRow gap) others
  deads (o ∷ os) others passed still = deads os others passed.1 still
  deads [] [] passed still = tt
  deads [] (row ∷ rows) passed still = (dead_row_lem row passed.0 still.0, deads [] rows passed.1 still.1)

  all_passed : (os : List Op) (others : List (List ℕ)) → All Wide (map table_row os ++ others) → All (LiveStep gap) os → All (DeadRow gap) others
      → All (PassedRow gap) (map table_row os ++ others)
  all_passed (o ∷ os) others wide s dead = (live_passed o s.0, all_passed os others wide.1 s.1 dead)
  all_passed [] [] wide s dead = tt
  all_passed [] (row ∷ rows) wide s dead = (dead_passed row wide.0 dead.0, all_passed [] rows wide.1 s dead.1)

  all_shown : (os : List Op) → All (LiveStep gap) os → All (λ (o : Op). op_at (table_row o) ≡ o) os
  all_shown [] s = tt
  all_shown (o ∷ os) s = (op_back 1 o s.0.words s.0.piece, all_shown os s.1)

  -- rows of cut calls that fit, then dead rows
  pub whole_calls : (l : List ℕ) → length l % COLUMNS ≡ 0 → (ks : List CutCall) → All (Fits gap) ks → (others : List (List ℕ))
      → All (DeadRow gap) others → table_rows l ≡ map table_row (ops_of ks) ++ others → WholeCalls gap l ks
  whole_calls l whole ks fits others dead same =
      let live : live_rows (table_rows l) ≡ map table_row (ops_of ks) = ap live_rows same ∙ live_rows_lem (ops_of ks) others (all_still others dead) in
      record {
        rows = whole;
        sound = fits;
        live =
            subst (λ (rows : List (List ℕ)). Each (CallRow gap) (ops_of ks) rows) (sym live)
            (made_calls (ops_of ks) (steps gap none (ops_of ks) (chain gap ks fits)));
        others = others;
        last = same ∙ ap (λ rows. rows ++ others) (sym live);
        dead = dead;
      }

  module _ (l : List ℕ) (ks : List CutCall) (w : WholeCalls gap l ks) where
    live_steps : All (LiveStep gap) (ops_of ks)
    live_steps = steps gap none (ops_of ks) (chain gap ks w.sound)

    -- the list's rows are the table rows of the calls, then the others
    pub calls_rows : table_rows l ≡ map table_row (ops_of ks) ++ w.others
    calls_rows = w.last ∙ ap (λ rows. rows ++ w.others) (calls_are (ops_of ks) (live_rows (table_rows l)) live_steps w.live)

    calls_passed : All (PassedRow gap) (map table_row (ops_of ks) ++ w.others)
    calls_passed =
        all_passed (ops_of ks) w.others (subst (All Wide) calls_rows (records_whole COLUMNS (omega arith) l w.rows)) live_steps w.dead

-- Both halves

pub from_halves : FromHalves
from_halves half link_half gap g l = (to_calls, λ w. from_calls w.0 w.1)
  where
    to_calls : Passes gap l → (ks : List CutCall) × WholeCalls gap l ks
    to_calls e =
        let both = (both_halves gap g l).0 e in
        let linked = (link_half gap g (table_rows l) both.1).0 both.2 in
        let passed = subst (All (PassedRow gap)) linked.same both.1 in
        let live = lives half gap g linked.ops linked.others passed linked.shows in
        let parsed = parse gap none linked.ops (links_chain gap none linked.ops tt live linked.links) in (
          parsed.0,
          whole_calls half gap g l both.0 parsed.0 parsed.1 linked.others (deads half gap g linked.ops linked.others passed linked.dead)
              (linked.same ∙ ap (λ os. map table_row os ++ linked.others) parsed.2),
        )

    from_calls : (ks : List CutCall) → WholeCalls gap l ks → Passes gap l
    from_calls ks w =
        let is = calls_rows half gap g l ks w in
        let passed = subst (All (PassedRow gap)) (sym is) (calls_passed half gap g l ks w) in
        (both_halves gap g l).1 (
          w.rows,
          passed,
          (link_half gap g (table_rows l) passed).1
              (record {
                ops = ops_of ks;
                others = w.others;
                same = is;
                shows = all_shown half gap g (ops_of ks) (live_steps half gap g l ks w);
                links = chain_links gap none (ops_of ks) (chain gap ks w.sound);
                dead = all_still half gap g w.others w.dead;
              }),
        )
