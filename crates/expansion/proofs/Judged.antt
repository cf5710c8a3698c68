-- What it takes to be accepted, both ways: an answer of number 0 says that the call is fair and has room, and a fair call with room is
-- accepted. Assumes nothing.
use mathlib.Core.Path.{◌≡◌, refl, ap}
use mathlib.Core.Bool.{Bool, true, false, not, ◌&&◌}
use Prim.Native.Nat.{ℕ, zero, suc, ◌+◌, ◌-◌, ◌*◌, ◌^◌, ◌≤◌, ◌<◌}
use native.Mathlib.Omega.{arith}
use borrow.Author.Tests.{le-ltb, ltb-false, leb-false, lt-leb, eq-eqb, ne_eqb, eqb-true, eqb-false, not-true, not-false}
use lib.Dec.{eqb, ltb}
use Rattle.answer.specs.Numbers.{accepted, refused}
use Rattle.answer.proofs.Refusals.{none_of, given_of}
use Rattle.lists.proofs.Tests.{same_test, neither}
use Rattle.call.specs.Calls.{Call}
use Rattle.call.specs.Ops.{OP_WIDTH}
use Rattle.access.specs.Access.{ACCESS_WIDTH}
use Rattle.expansion.specs.Tries.{Setting, Lengths}
use Rattle.expansion.specs.Refusals.{op_count, access_count, gap_too_large, bad_window, last_stamp, not_gap_apart, past_index, outside_window}
use Rattle.expansion.specs.Refusals.{buffer_short, refusals, answer_by}

-- Tests

-- a plain sum that is missed, by a difference
pub apart_by_difference : (dst src gap : ℕ) → gap ≤ dst → eqb (dst - gap) src ≡ eqb dst (src + gap)
apart_by_difference dst src gap h =
    same_test (eqb (dst - gap) src) (eqb dst (src + gap))
    (λ e. let l : dst - gap ≡ src = eqb-true (dst - gap) src e in eq-eqb dst (src + gap) (omega arith))
    (λ e. let l : dst ≡ src + gap = eqb-true dst (src + gap) e in eq-eqb (dst - gap) src (omega arith))

and_fails : (a b : Bool) → (a && b) ≡ false → a ≡ true → b ≡ false
and_fails true b e q = e
and_fails false b e q = let z : ◌≡◌ {A = ℕ} 0 1 = cc in absurd (omega arith)

fails_and : (a b : Bool) → (a ≡ true → b ≡ false) → (a && b) ≡ false
fails_and true b h = h refl
fails_and false b h = refl

-- What a call is that only the buffers may refuse

pub record Fair (s : Setting) (c : Call) (n : Lengths) : Type 0 where
  pub narrow : s.gap < 2 ^ 32
  pub window : n.cells ≡ n.stamped
  pub size : n.cells ≤ s.limit
  pub stamp : c.stamp ≡ 2 ^ 64 - 1 → ⊥
  pub apart : c.kind ≡ 1 → c.dst ≡ c.src + s.gap
  pub index : c.kind ≡ 2 → c.dst + c.count ≤ 2 ^ 32 - 1
  pub source : 0 < c.count → c.src + c.count ≤ n.cells
  pub dest : 0 < c.count → (c.kind ≡ 2 → ⊥) → c.dst + c.count ≤ n.cells

-- and one that they do not refuse either
pub record Room (c : Call) (n : Lengths) : Type 0 where
  pub ops : OP_WIDTH * op_count c ≤ n.ops
  pub accesses : ACCESS_WIDTH * access_count c ≤ n.accesses

-- what the tests but that of the buffers say of it
abbrev pub Passes : Setting → Call → Lengths → Type 0
Passes s c n =
    (gap_too_large s.gap ≡ false)
    × (bad_window s.limit n ≡ false)
    × (last_stamp c ≡ false)
    × (not_gap_apart s.gap c ≡ false)
    × (past_index c ≡ false)
    × (outside_window c n.cells ≡ false)

module _ (s : Setting) (c : Call) (n : Lengths) where
  pub passes_fair : Passes s c n → Fair s c n
  passes_fair p =
      let window = neither (not (eqb n.cells n.stamped)) (ltb s.limit n.cells) p.1 in
      let some : 0 < c.count → not (eqb c.count 0) ≡ true = λ h. rw (ne_eqb c.count 0 (λ q. omega arith)) in
      let cells : 0 < c.count
      → (ltb n.cells (c.src + c.count) ≡ false) × ((not (eqb c.kind 2) && ltb n.cells (c.dst + c.count)) ≡ false) =
      λ h. neither (ltb n.cells (c.src + c.count)) _ (and_fails _ _ p.5 (some h)) in
      let not_write : (c.kind ≡ 2 → ⊥) → not (eqb c.kind 2) ≡ true = λ other. rw (ne_eqb c.kind 2 other) in
      record {
        narrow = leb-false (2 ^ 32) s.gap p.0;
        window = eqb-true n.cells n.stamped (not-false (eqb n.cells n.stamped) window.0);
        size = ltb-false s.limit n.cells window.1;
        stamp = eqb-false c.stamp (2 ^ 64 - 1) p.2;
        apart = λ set. eqb-true c.dst (c.src + s.gap) (not-false _ (and_fails _ _ p.3 (eq-eqb c.kind 1 set)));
        index = λ write. ltb-false (2 ^ 32 - 1) (c.dst + c.count) (and_fails _ _ p.4 (eq-eqb c.kind 2 write));
        source = λ h. ltb-false n.cells (c.src + c.count) (cells h).0;
        dest = λ h other. ltb-false n.cells (c.dst + c.count) (and_fails _ _ (cells h).1 (not_write other));
      }

  pub fair_passes : Fair s c n → Passes s c n
  fair_passes f = (
    lt-leb (2 ^ 32) s.gap f.narrow,
    rw (eq-eqb n.cells n.stamped f.window) (le-ltb s.limit n.cells f.size),
    ne_eqb c.stamp (2 ^ 64 - 1) f.stamp,
    fails_and _ _ (λ e. ap not (eq-eqb c.dst (c.src + s.gap) (f.apart (eqb-true c.kind 1 e)))),
    fails_and _ _ (λ e. le-ltb _ _ (f.index (eqb-true c.kind 2 e))),
    fails_and _ _
        (λ e.
        let some : 0 < c.count = omega (arith, eqb-false c.count 0 (not-true _ e)) in
        rw (le-ltb n.cells (c.src + c.count) (f.source some))
        (fails_and _ _ (λ o. le-ltb _ _ (f.dest some (eqb-false c.kind 2 (not-true _ o)))))),
  )

  -- the answer to a fair call, by its room
  pub fair_short : Fair s c n → buffer_short (op_count c) (access_count c) n ≡ true → answer_by s c n ≡ refused 9 0
  unfolding answer_by refusals
  fair_short f e = let p = fair_passes f in rw (p.0, p.1, p.2, p.3, p.4, p.5, e)

  pub fair_accepted : Fair s c n → Room c n → answer_by s c n ≡ accepted (op_count c)
  unfolding answer_by refusals
  fair_accepted f r =
      let p = fair_passes f in
      let room : buffer_short (op_count c) (access_count c) n ≡ false =
      rw (le-ltb n.ops (OP_WIDTH * op_count c) r.ops) (le-ltb _ _ r.accesses) in
      given_of (refusals s c n) (accepted (op_count c)) (search (p, room))

  -- and what an answer of number 0 says
  pub accepted_fair : (answer_by s c n).number ≡ 0 → Fair s c n × Room c n
  unfolding answer_by refusals
  accepted_fair e =
      let h = none_of (refusals s c n) (accepted (op_count c)) (refl, (refl, (refl, (refl, (refl, (refl, (refl, tt))))))) e in
      let passes : Passes s c n = search h in
      let short : buffer_short (op_count c) (access_count c) n ≡ false = search h in
      let room = neither (ltb n.ops (OP_WIDTH * op_count c)) (ltb n.accesses (ACCESS_WIDTH * access_count c)) short in
      (passes_fair passes, record { ops = ltb-false n.ops _ room.0; accesses = ltb-false n.accesses _ room.1 })

-- Counts and sums that fit, with a count of 0 too

module _ (s : Setting) (c : Call) (n : Lengths) (f : Fair s c n) (small : s.limit < 2 ^ 64) where
  pub count_fits : c.count ≤ s.limit
  count_fits = step c.count refl
    where
      step : (k : ℕ) → c.count ≡ k → c.count ≤ s.limit
      step zero e = omega arith
      step (suc k) e = omega (arith, f.source (omega arith), f.size)

  pub source_fits : c.src < 2 ^ 64 → c.src + c.count < 2 ^ 64
  source_fits h = step c.count refl
    where
      step : (k : ℕ) → c.count ≡ k → c.src + c.count < 2 ^ 64
      step zero e = omega arith
      step (suc k) e = omega (arith, f.source (omega arith), f.size)

  pub dest_fits : c.dst < 2 ^ 64 → c.dst + c.count < 2 ^ 64
  dest_fits h = step c.count refl (eqb c.kind 2) refl
    where
      step : (k : ℕ) → c.count ≡ k → (b : Bool) → eqb c.kind 2 ≡ b → c.dst + c.count < 2 ^ 64
      step zero e b q = omega arith
      step (suc k) e true q = omega (arith, f.index (eqb-true c.kind 2 q))
      step (suc k) e false q = omega (arith, f.dest (omega arith) (eqb-false c.kind 2 q), f.size)
