-- The link check's half: over rows that passed, no link is refused exactly where the live rows are the rows of linked operation records
-- and the others are dead and last. Each row is the row of the record read off it, so the link test is an equation of calls. Assumes
-- nothing.
use mathlib.Core.Path.{◌≡◌, refl, sym, ap, ap₂, ◌∙◌, subst}
use mathlib.Core.Bool.{Bool, true, false, cond, false≢true}
use mathlib.Core.List.{List, [], ◌∷◌, ◌++◌, map}
use mathlib.Core.Option.{Option, none, some}
use mathlib.Core.Logic.{◌⊎◌, inl, inr}
use Prim.Native.Nat.{ℕ, zero, suc, ◌+◌, ◌*◌, ◌^◌, ◌<◌}
use borrow.Author.Tests.{eqb-true, eq-eqb}
use lib.Dec.{eqb}
use lib.ListN.{get_or}
use Rattle.std.specs.Prelude.{Result, Ok, Err}
use Rattle.lists.specs.Lists.{at, All, same}
use Rattle.lists.proofs.Same.{same_eq, eq_same}
use Rattle.words.specs.Words.{bit}
use Rattle.call.specs.Calls.{Call, Op}
use Rattle.copy_row.specs.Columns.{END, MU}
use Rattle.copy_row.specs.Rows.{wrapped, row_of, table_row}
use Rattle.copy_meaning.specs.Steps.{empty, ends, more, LiveStep, RowStep}
use Rattle.copy_meaning.specs.ReadRow.{op_at, next_at}
use Rattle.copy_meaning.proofs.RowIff.{row_iff}
use Rattle.copy_meaning.proofs.ReadBack.{mu_back, call_back, next_back}
use Rattle.call_chain.specs.OpChain.{unless_end, next}
use Rattle.chain.specs.Link.{Before, closed, unended, dead, shown, handed_on, live_linked, dead_linked, linked, before_of, Unbroken}
use Rattle.chain.specs.declared.LinkRefusal.{LinkRefusal}
use Rattle.chain.specs.declared.LinkRefusal.TheVariants.{Broken}
use Rattle.whole_calls.specs.Halves.{PassedRow, compared, Follows, Links, LinkedRows, LinkHalf}

abbrev Still : List ℕ → Type 0
Still row = at row MU ≡ 0

abbrev linked_fault : Result (Unit {0}) LinkRefusal → Bool
linked_fault (Ok linked) = true
linked_fault (Err why) = false

link_true : (t : Bool) → ◌≡◌ {A = Result (Unit {0}) LinkRefusal} (cond t (Ok tt) (Err Broken)) (Ok tt) → t ≡ true
link_true true e = refl
link_true false e = absurd (false≢true (ap linked_fault e))

-- what is left to go on with after what stands before
abbrev LinkedAfter : Before → List (List ℕ) → Type 0
LinkedAfter closed rows = LinkedRows none rows
LinkedAfter (unended previous) rows = LinkedRows (some (next_at previous)) rows
LinkedAfter dead rows = All Still rows

ended_or_not : (gap : ℕ) (o : Op) → LiveStep gap o → (o.end ≡ 1) ⊎ (o.end ≡ 0)
ended_or_not gap o s =
    elim s.move [ empty c first end ↦ inl end | ends end c src dst ↦ inl end | more end c src dst ↦ inr end ]

-- the call in the list that a link compares
call_in : List ℕ → Call
call_in l = record { kind = get_or l 2 0 + 2 * get_or l 3 0; stamp = get_or l 1 0; src = get_or l 4 0; dst = get_or l 5 0; count = get_or l 6 0 }

linked_follows : (previous row : List ℕ) → same (shown row) (handed_on previous) ≡ true → Follows (some (next_at previous)) (op_at row)
linked_follows previous row t =
    let e = same_eq (shown row) (handed_on previous) t in
    let call : (op_at row).call ≡ next_at previous = unfold call_in in ap call_in e in
    (ap (λ l. get_or l 0 0) e, ap compared call)

module _ (gap : ℕ) (g : gap < 2 ^ 32) where
  -- What a row that passed says

  module _ (row : List ℕ) (passed : PassedRow gap row) where
    means : (row ≡ row_of (at row MU) (op_at row)) × RowStep gap (at row MU) (op_at row)
    means = (row_iff gap g row passed.wide).0 passed.fine

    live_or_dead : (at row MU ≡ 1) ⊎ (at row MU ≡ 0)
    live_or_dead = go (at row MU) means.1
      where
        go : (mu : ℕ) → RowStep gap mu (op_at row) → (mu ≡ 1) ⊎ (mu ≡ 0)
        go zero s = inr refl
        go (suc zero) s = inl refl
        go (suc (suc mu)) s = absurd s

    live_means : at row MU ≡ 1 → (row ≡ table_row (op_at row)) × LiveStep gap (op_at row)
    live_means live = subst (λ (mu : ℕ). (row ≡ row_of mu (op_at row)) × RowStep gap mu (op_at row)) live means

  -- From the links to the records

  with_row : (left : Option Call) (row : List ℕ) (rows : List (List ℕ)) → row ≡ table_row (op_at row) → Follows left (op_at row)
      → LinkedRows (next (op_at row)) rows → LinkedRows left (row ∷ rows)
  with_row left row rows made follows later =
      record {
        ops = op_at row ∷ later.ops;
        others = later.others;
        same = λ i. made i ∷ later.same i;
        shows = (ap op_at (sym made), later.shows);
        links = (follows, later.links);
        dead = later.dead;
      }

  -- what stands before the rows after a live row is what its record hands on
  after_live : (row : List ℕ) (rows : List (List ℕ)) → at row MU ≡ 1 → row ≡ table_row (op_at row) → LiveStep gap (op_at row)
      → LinkedAfter (before_of row) rows → LinkedRows (next (op_at row)) rows
  unfolding before_of
  after_live row rows live made s later = go (ended_or_not gap (op_at row) s)
    where
      go : (at row END ≡ 1) ⊎ (at row END ≡ 0) → LinkedRows (next (op_at row)) rows
      go (inl end) = rw end (rw (live, end) at later)
      go (inr end) =
          let after : LinkedRows (some (next_at row)) rows = rw (live, end) at later in
          let handed : next_at row ≡ wrapped (op_at row) = ap next_at made ∙ next_back 1 (op_at row) s.words in
          subst (λ (x : ℕ). LinkedRows (unless_end x (wrapped (op_at row))) rows) (sym end)
          (subst (λ (c : Call). LinkedRows (some c) rows) handed after)

  live_linked_lem : (b : Before) (row : List ℕ) (rows : List (List ℕ)) → PassedRow gap row → at row MU ≡ 1 → live_linked b row ≡ true
      → LinkedAfter (before_of row) rows → LinkedAfter b (row ∷ rows)
  live_linked_lem closed row rows passed live t later =
      let m = live_means row passed live in
      with_row none row rows m.0 (eqb-true _ _ t) (after_live row rows live m.0 m.1 later)
  live_linked_lem (unended previous) row rows passed live t later =
      let m = live_means row passed live in
      with_row (some (next_at previous)) row rows m.0 (linked_follows previous row t) (after_live row rows live m.0 m.1 later)
  live_linked_lem dead row rows passed live t later = absurd (false≢true t)

  dead_linked_lem : (b : Before) (row : List ℕ) (rows : List (List ℕ)) → Still row → dead_linked b ≡ true → All Still rows → LinkedAfter b (row ∷ rows)
  dead_linked_lem closed row rows still t later = record { ops = []; others = row ∷ rows; same = refl; shows = tt; links = tt; dead = (still, later) }
  dead_linked_lem (unended previous) row rows still t later = absurd (false≢true t)
  dead_linked_lem dead row rows still t later = (still, later)

  unbroken_linked : (b : Before) (rows : List (List ℕ)) → All (PassedRow gap) rows → Unbroken b rows → LinkedAfter b rows
  unfolding linked before_of
  unbroken_linked closed [] passed u = record { ops = []; others = []; same = refl; shows = tt; links = tt; dead = tt }
  unbroken_linked (unended previous) [] passed u = absurd (false≢true (ap linked_fault u))
  unbroken_linked dead [] passed u = tt
  unbroken_linked b (row ∷ rows) passed u =
      go (live_or_dead row passed.0) (link_true (linked b row) u.0) (unbroken_linked (before_of row) rows passed.1 u.1)
    where
      go : (at row MU ≡ 1) ⊎ (at row MU ≡ 0) → linked b row ≡ true → LinkedAfter (before_of row) rows → LinkedAfter b (row ∷ rows)
      go (inl live) t later = live_linked_lem b row rows passed.0 live (rw live at t) later
      go (inr still) t later = dead_linked_lem b row rows still (rw still at t) (rw still at later)

  -- From the records to the links

  shown_row : (o : Op) → LiveStep gap o → shown (table_row o) ≡ o.first ∷ compared o.call
  unfolding row_of
  shown_row o s =
      let e = call_back 1 o s.words in
      λ i. o.first ∷ (e i).stamp ∷ bit (eqb o.call.kind 1) ∷ bit (eqb o.call.kind 2) ∷ (e i).src ∷ (e i).dst ∷ (e i).count ∷ []

  handed_row : (o : Op) → LiveStep gap o → handed_on (table_row o) ≡ 0 ∷ compared (wrapped o)
  unfolding row_of
  handed_row o s =
      let e = next_back 1 o s.words in
      λ i. 0 ∷ (e i).stamp ∷ bit (eqb o.call.kind 1) ∷ bit (eqb o.call.kind 2) ∷ (e i).src ∷ (e i).dst ∷ (e i).count ∷ []

  -- what stands before a row is what is left to go on with
  Agree : Before → Option Call → Type 0
  Agree closed none = Unit {0}
  Agree closed (some c) = ⊥
  Agree (unended previous) none = ⊥
  Agree (unended previous) (some c) = handed_on previous ≡ 0 ∷ compared c
  Agree dead left = ⊥

  follows_linked : (b : Before) (left : Option Call) (o : Op) → Agree b left → Follows left o → LiveStep gap o → live_linked b (table_row o) ≡ true
  unfolding Agree
  follows_linked closed none o a follows s = unfold row_of in eq-eqb o.first 1 follows
  follows_linked closed (some c) o a follows s = absurd a
  follows_linked (unended previous) none o a follows s = absurd a
  follows_linked (unended previous) (some c) o a follows s =
      eq_same (shown (table_row o)) (handed_on previous) (shown_row o s ∙ ap₂ (λ (x : ℕ) (l : List ℕ). x ∷ l) follows.0 follows.1 ∙ sym a)
  follows_linked dead left o a follows s = absurd a

  agrees : (o : Op) → LiveStep gap o → Agree (before_of (table_row o)) (next o)
  unfolding row_of before_of Agree
  agrees o s = go (ended_or_not gap o s)
    where
      go : (o.end ≡ 1) ⊎ (o.end ≡ 0) → Agree (before_of (table_row o)) (next o)
      go (inl end) = rw end tt
      go (inr end) =
          subst (λ (x : ℕ). Agree (cond (eqb x 1) closed (unended (table_row o))) (unless_end x (wrapped o))) (sym end) (handed_row o s)

  -- the record of a row that passed is a live step
  step_of : (o : Op) → PassedRow gap (table_row o) → op_at (table_row o) ≡ o → LiveStep gap o
  step_of o passed shows = subst (LiveStep gap) shows (live_means (table_row o) passed (mu_back 1 o)).1

  dead_unbroken : (b : Before) (rows : List (List ℕ)) → dead_linked b ≡ true → All Still rows → Unbroken b rows
  unfolding linked before_of
  dead_unbroken closed [] t still = refl
  dead_unbroken (unended previous) [] t still = absurd (false≢true t)
  dead_unbroken dead [] t still = refl
  dead_unbroken b (row ∷ rows) t still = rw (still.0, t) (refl, dead_unbroken dead rows refl still.1)

  linked_unbroken : (b : Before) (left : Option Call) (os : List Op) (others : List (List ℕ)) → Agree b left → Links left os
      → All (λ (o : Op). op_at (table_row o) ≡ o) os → All Still others → All (PassedRow gap) (map table_row os ++ others)
      → Unbroken b (map table_row os ++ others)
  unfolding linked before_of Agree
  linked_unbroken closed none [] others a links shows still passed = dead_unbroken closed others refl still
  linked_unbroken closed (some x) [] others a links shows still passed = absurd links
  linked_unbroken (unended previous) none [] others a links shows still passed = absurd a
  linked_unbroken (unended previous) (some x) [] others a links shows still passed = absurd links
  linked_unbroken dead left [] others a links shows still passed = absurd a
  linked_unbroken b left (o ∷ os) others a links shows still passed =
      let s = step_of o passed.0 shows.0 in
      let later = linked_unbroken (before_of (table_row o)) (next o) os others (agrees o s) links.1 shows.1 still passed.1 in
      rw (mu_back 1 o, follows_linked b left o a links.0 s) (refl, rw (mu_back 1 o) at later)

pub link_half : LinkHalf
unfolding Agree
link_half gap g rows passed = (
  unbroken_linked gap g closed rows passed,
  λ l.
      subst (λ (rows : List (List ℕ)). Unbroken closed rows) (sym l.same)
      (linked_unbroken gap g closed none l.ops l.others tt l.links l.shows l.dead (subst (All (PassedRow gap)) l.same passed)),
)
