-- The answer of the join, case by case, and what one that is no refusal says of both lists. Assumes nothing.
use mathlib.Core.Path.{◌≡◌, refl, sym}
use mathlib.Core.Bool.{Bool, true, false, cond, true≢false}
use mathlib.Core.List.{List}
use Prim.Native.Nat.{ℕ, ◌+◌, ◌*◌, ◌≤◌, ◌<◌}
use Rattle.std.specs.Prelude.{Ok, Err}
use Rattle.std.specs.Result.{IsErr}
use native.Mathlib.Omega.{arith}
use borrow.Author.Tests.{lt-ltb, le-ltb, ltb-false, le-leb, lt-leb, leb-true}
use lib.Dec.{ltb, leb}
use Rattle.call.specs.Flat.{HANDED_WIDTH}
use Rattle.call_join.specs.Join.{call_count, first_bad_call, first_below, JoinAnswer, join_answer, joined_after}
use Rattle.call_join.specs.declared.JoinRefusal.TheVariants.{TooManyRecords, BadRecord, OutOfOrder, BufferShort}

module _ (limit : ℕ) (first second : List ℕ) (room : ℕ) where
  pub over_first : limit < call_count first → Err TooManyRecords ≡ join_answer limit first second room
  unfolding join_answer
  over_first h = rw (lt-ltb limit (call_count first) h)

  pub over_second : call_count first ≤ limit → limit < call_count second → Err TooManyRecords ≡ join_answer limit first second room
  unfolding join_answer
  over_second a h = rw (le-ltb limit (call_count first) a, lt-ltb limit (call_count second) h)

  -- neither list is too long
  module _ (a : call_count first ≤ limit) (b : call_count second ≤ limit) where
    pub bad_first : first_bad_call first < call_count first → Err (BadRecord (first_bad_call first)) ≡ join_answer limit first second room
    unfolding join_answer
    bad_first h = rw (le-ltb limit (call_count first) a, le-ltb limit (call_count second) b, lt-ltb (first_bad_call first) (call_count first) h)

    pub bad_second : call_count first ≤ first_bad_call first → first_bad_call second < call_count second
        → Err (BadRecord (first_bad_call second)) ≡ join_answer limit first second room
    unfolding join_answer
    bad_second c h =
        rw (
          le-ltb limit (call_count first) a,
          le-ltb limit (call_count second) b,
          le-ltb (first_bad_call first) (call_count first) c,
          lt-ltb (first_bad_call second) (call_count second) h,
        )

    -- and all calls are good
    module _ (c : call_count first ≤ first_bad_call first) (d : call_count second ≤ first_bad_call second) where
      judged : join_answer limit first second room
          ≡ cond (ltb (first_below first) (call_count first)) (Err (OutOfOrder (first_below first)))
          (cond (ltb (first_below second) (call_count second)) (Err (OutOfOrder (first_below second)))
          (cond (leb (HANDED_WIDTH * (call_count first + call_count second)) room) (Ok (call_count first + call_count second)) (Err BufferShort)))
      unfolding join_answer
      judged =
          rw (
            le-ltb limit (call_count first) a,
            le-ltb limit (call_count second) b,
            le-ltb (first_bad_call first) (call_count first) c,
            le-ltb (first_bad_call second) (call_count second) d,
          )

      pub below_first : first_below first < call_count first → Err (OutOfOrder (first_below first)) ≡ join_answer limit first second room
      below_first h = rw (judged, lt-ltb (first_below first) (call_count first) h)

      pub below_second : call_count first ≤ first_below first → first_below second < call_count second
          → Err (OutOfOrder (first_below second)) ≡ join_answer limit first second room
      below_second e h = rw (judged, le-ltb (first_below first) (call_count first) e, lt-ltb (first_below second) (call_count second) h)

      -- and both are in order
      module _ (e : call_count first ≤ first_below first) (f : call_count second ≤ first_below second) where
        pub joined_fits : HANDED_WIDTH * (call_count first + call_count second) ≤ room
            → Ok (call_count first + call_count second) ≡ join_answer limit first second room
        joined_fits h =
            rw (
              judged,
              le-ltb (first_below first) (call_count first) e,
              le-ltb (first_below second) (call_count second) f,
              le-leb (HANDED_WIDTH * (call_count first + call_count second)) room h,
            )

        pub joined_short : room < HANDED_WIDTH * (call_count first + call_count second) → Err BufferShort ≡ join_answer limit first second room
        joined_short h =
            rw (
              judged,
              le-ltb (first_below first) (call_count first) e,
              le-ltb (first_below second) (call_count second) f,
              lt-leb (HANDED_WIDTH * (call_count first + call_count second)) room h,
            )

  -- lists that are joined
  pub record JoinedFacts (calls : ℕ) : Type 0 where
    pub few_first : call_count first ≤ limit
    pub few_second : call_count second ≤ limit
    pub good_first : call_count first ≤ first_bad_call first
    pub good_second : call_count second ≤ first_bad_call second
    pub order_first : call_count first ≤ first_below first
    pub order_second : call_count second ≤ first_below second
    pub counted : calls ≡ call_count first + call_count second
    pub fits : HANDED_WIDTH * (call_count first + call_count second) ≤ room

  pub joined_facts : (calls : ℕ) → join_answer limit first second room ≡ Ok calls → JoinedFacts calls
  unfolding join_answer
  joined_facts calls e = step _ _ _ _ _ _ _ refl refl refl refl refl refl refl e
    where
      step : (s t u v x y z : Bool) → ltb limit (call_count first) ≡ s → ltb limit (call_count second) ≡ t
          → ltb (first_bad_call first) (call_count first) ≡ u → ltb (first_bad_call second) (call_count second) ≡ v
          → ltb (first_below first) (call_count first) ≡ x → ltb (first_below second) (call_count second) ≡ y
          → leb (HANDED_WIDTH * (call_count first + call_count second)) room ≡ z
          → cond s (Err TooManyRecords)
          (cond t (Err TooManyRecords)
          (cond u (Err (BadRecord (first_bad_call first)))
          (cond v (Err (BadRecord (first_bad_call second)))
          (cond x (Err (OutOfOrder (first_below first)))
          (cond y (Err (OutOfOrder (first_below second))) (cond z (Ok (call_count first + call_count second)) (Err BufferShort)))))))
          ≡ Ok calls
          → JoinedFacts calls
      step true t u v x y z hs ht hu hv hx hy hz e = absurd (let q : ◌≡◌ {A = ℕ} 0 1 = cc in omega arith)
      step false true u v x y z hs ht hu hv hx hy hz e = absurd (let q : ◌≡◌ {A = ℕ} 0 1 = cc in omega arith)
      step false false true v x y z hs ht hu hv hx hy hz e = absurd (let q : ◌≡◌ {A = ℕ} 0 1 = cc in omega arith)
      step false false false true x y z hs ht hu hv hx hy hz e = absurd (let q : ◌≡◌ {A = ℕ} 0 1 = cc in omega arith)
      step false false false false true y z hs ht hu hv hx hy hz e = absurd (let q : ◌≡◌ {A = ℕ} 0 1 = cc in omega arith)
      step false false false false false true z hs ht hu hv hx hy hz e = absurd (let q : ◌≡◌ {A = ℕ} 0 1 = cc in omega arith)
      step false false false false false false false hs ht hu hv hx hy hz e = absurd (let q : ◌≡◌ {A = ℕ} 0 1 = cc in omega arith)
      step false false false false false false true hs ht hu hv hx hy hz e =
          record {
            few_first = ltb-false _ _ hs;
            few_second = ltb-false _ _ ht;
            good_first = ltb-false _ _ hu;
            good_second = ltb-false _ _ hv;
            order_first = ltb-false _ _ hx;
            order_second = ltb-false _ _ hy;
            counted = cc;
            fits = leb-true _ _ hz;
          }

-- a refusal writes nothing
pub refused_keeps : (first second joined : List ℕ) (a : JoinAnswer) → IsErr a → joined ≡ joined_after first second a joined
unfolding joined_after
refused_keeps first second joined (Ok calls) h = absurd (true≢false (sym h))
refused_keeps first second joined (Err why) h = refl
