-- The answer of the lookups: what it is by what routing's pass says of the records, and what one that is no refusal says of the list.
-- Assumes nothing.
use mathlib.Core.Path.{◌≡◌, refl, sym, ap, ◌∙◌}
use mathlib.Core.Bool.{Bool, true, false, cond, true≢false}
use mathlib.Core.List.{List}
use Prim.Native.Nat.{ℕ, ◌*◌, ◌≤◌, ◌<◌}
use Rattle.std.specs.Prelude.{Ok, Err}
use Rattle.std.specs.Result.{IsErr}
use native.Mathlib.Omega.{arith}
use borrow.Author.Tests.{lt-ltb, le-ltb, lt-leb, le-leb, ltb-false, leb-true}
use lib.Dec.{ltb, leb}
use Rattle.records.specs.Records.{record_count, record_at}
use Rattle.access.specs.Access.{ACCESS_WIDTH}
use Rattle.routing.specs.Routing.{counts_of, RouteAnswer, record_refusal, first_refused, routed}
use Rattle.routing.specs.Inner.{judged}
use Rattle.routing.specs.declared.RouteRefusal.{RouteRefusal}
use Rattle.routing.specs.declared.RouteRefusal.TheVariants.{TooManyRecords, BufferShort}
use Rattle.routing.specs.declared.split.Counts.{Counts}
use Rattle.lookups.specs.Lookups.{PAIR_WIDTH, pair_count, LookupAnswer, lookup_answer, lookups_after}

-- what a buffer of `room` numbers makes of routing's answer
abbrev roomed : ℕ → RouteAnswer → LookupAnswer
roomed room (Ok c) = cond (leb (PAIR_WIDTH * c.register) room) (Ok c.register) (Err BufferShort)
roomed room (Err why) = Err why

module _ (limit : ℕ) (l : List ℕ) (room : ℕ) where
  pub answer_over : limit < record_count ACCESS_WIDTH l → Err TooManyRecords ≡ lookup_answer limit l room
  unfolding lookup_answer
  answer_over h = rw (lt-ltb limit (record_count ACCESS_WIDTH l) h)

  answer_is : record_count ACCESS_WIDTH l ≤ limit → (a : RouteAnswer) → judged l ≡ a → roomed room a ≡ lookup_answer limit l room
  unfolding lookup_answer judged
  answer_is h a e = ap (roomed room) (sym e) ∙ rw (le-ltb limit (record_count ACCESS_WIDTH l) h) (step (ltb (first_refused l) (record_count ACCESS_WIDTH l)))
    where
      step : (b : Bool) → let refusal = record_refusal (record_at ACCESS_WIDTH l (first_refused l)) (first_refused l) in
          roomed room (cond b (Err refusal) (routed (counts_of l))) ≡ cond b (Err refusal) (roomed room (routed (counts_of l)))
      step true = refl
      step false = refl

  pub answer_refused : (why : RouteRefusal) → record_count ACCESS_WIDTH l ≤ limit → judged l ≡ Err why → Err why ≡ lookup_answer limit l room
  answer_refused why h e = answer_is h (Err why) e

  pub answer_fits : (c : Counts) → record_count ACCESS_WIDTH l ≤ limit → judged l ≡ Ok c → PAIR_WIDTH * c.register ≤ room
      → Ok c.register ≡ lookup_answer limit l room
  answer_fits c h e fit = sym (ap (λ b. cond b (Ok c.register) (Err BufferShort)) (le-leb (PAIR_WIDTH * c.register) room fit)) ∙ answer_is h (Ok c) e

  pub answer_short : (c : Counts) → record_count ACCESS_WIDTH l ≤ limit → judged l ≡ Ok c → room < PAIR_WIDTH * c.register
      → Err BufferShort ≡ lookup_answer limit l room
  answer_short c h e short = sym (ap (λ b. cond b (Ok c.register) (Err BufferShort)) (lt-leb (PAIR_WIDTH * c.register) room short)) ∙ answer_is h (Ok c) e

  -- a list whose lookups are written
  pub record WrittenFacts (pairs : ℕ) : Type 0 where
    pub allowed : record_count ACCESS_WIDTH l ≤ limit
    pub fine : record_count ACCESS_WIDTH l ≤ first_refused l
    pub counted : pairs ≡ pair_count l
    pub fits : PAIR_WIDTH * pair_count l ≤ room

  pub written_facts : (pairs : ℕ) → lookup_answer limit l room ≡ Ok pairs → WrittenFacts pairs
  unfolding lookup_answer
  written_facts pairs e = step _ _ _ refl refl refl e
    where
      step : (x y z : Bool) → ltb limit (record_count ACCESS_WIDTH l) ≡ x → ltb (first_refused l) (record_count ACCESS_WIDTH l) ≡ y
          → leb (PAIR_WIDTH * pair_count l) room ≡ z
          → let refusal = record_refusal (record_at ACCESS_WIDTH l (first_refused l)) (first_refused l) in
          cond x (Err TooManyRecords) (cond y (Err refusal) (cond z (Ok (pair_count l)) (Err BufferShort))) ≡ Ok pairs
          → WrittenFacts pairs
      step true y z hx hy hz e = absurd (let q : ◌≡◌ {A = ℕ} 0 1 = cc in omega arith)
      step false true z hx hy hz e = absurd (let q : ◌≡◌ {A = ℕ} 0 1 = cc in omega arith)
      step false false false hx hy hz e = absurd (let q : ◌≡◌ {A = ℕ} 0 1 = cc in omega arith)
      step false false true hx hy hz e = record { allowed = ltb-false _ _ hx; fine = ltb-false _ _ hy; counted = cc; fits = leb-true _ _ hz }

-- a refusal writes nothing
pub refused_keeps : (l lookups : List ℕ) (a : LookupAnswer) → IsErr a → lookups ≡ lookups_after l a lookups
unfolding lookups_after
refused_keeps l lookups (Ok pairs) h = absurd (true≢false (sym h))
refused_keeps l lookups (Err why) h = refl
