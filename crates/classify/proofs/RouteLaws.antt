-- The laws of the route that is answered, as specs/RouteLaws states them, and what they stand on: which tests lead to it, and which numbers
-- tell it. Assumes nothing.
use mathlib.Core.Path.{◌≡◌, refl, ap}
use mathlib.Core.Bool.{Bool, true, false, cond}
use mathlib.Core.List.{List}
use Prim.Native.Nat.{ℕ}
use Rattle.std.specs.Prelude.{Result, Ok, Err}
use native.Mathlib.Omega.{arith}
use Rattle.lists.specs.Lists.{first, at}
use Rattle.access.specs.Access.{TIMESTAMP, OLD_TIMESTAMP}
use Rattle.classify.specs.Classify.{delta_in_range, delta_less_one, is_register_op, stamps_agree, is_aligned_op, classify}
use Rattle.classify.specs.Classify.{carrying, access_route, memw_route, access_numbers, classify_numbers}
use Rattle.classify.specs.RouteLaws.{RouteLaws, RouteInstances}
use Rattle.classify.specs.declared.AccessNumbers.{AccessNumbers}
use Rattle.classify.specs.declared.AccessRoute.{AccessRoute}
use Rattle.classify.specs.declared.AccessRoute.TheVariants as answered
use Rattle.classify.specs.declared.BadRecord.{BadRecord}
use Rattle.classify.specs.declared.MemwRoute.{MemwRoute}
use Rattle.classify.specs.declared.MemwRoute.TheVariants.{Register, Aligned, General}
use Rattle.classify.proofs.Stamps.{delta_bounds, register_delta}

-- The route

pub without_carried : (t : MemwRoute) (d : ℕ) → memw_route (carrying t d) ≡ t
without_carried Register d = refl
without_carried Aligned d = refl
without_carried General d = refl

-- a route to the register table is one whose first test is met
pub register_first : (a b : Bool) → cond a Register (cond b Aligned General) ≡ Register → a ≡ true
register_first true b e = refl
register_first false true e = absurd (let q : ◌≡◌ {A = ℕ} 0 1 = cc in omega arith)
register_first false false e = absurd (let q : ◌≡◌ {A = ℕ} 0 1 = cc in omega arith)

pub register_by : (r : List ℕ) → classify r ≡ Register → is_register_op r ≡ true
unfolding classify
register_by r e = register_first (is_register_op r) (is_aligned_op r) e

module _ (r : List ℕ) (d : ℕ) (e : access_route r ≡ answered.Register d) where
  both : (t : MemwRoute) → carrying t (delta_less_one (at r TIMESTAMP) (at r OLD_TIMESTAMP)) ≡ answered.Register d
      → (t ≡ Register) × (d ≡ delta_less_one (at r TIMESTAMP) (at r OLD_TIMESTAMP))
  both Register h = (refl, cc)
  both Aligned h = absurd (let q : ◌≡◌ {A = ℕ} 0 1 = cc in omega arith)
  both General h = absurd (let q : ◌≡◌ {A = ℕ} 0 1 = cc in omega arith)

  -- what a register answer says of its record
  pub register_answered : classify r ≡ Register
  register_answered = (both (classify r) e).0

  pub carries_delta : d ≡ delta_less_one (at r TIMESTAMP) (at r OLD_TIMESTAMP)
  carries_delta = (both (classify r) e).1

  pub answered_delta : delta_in_range (at r TIMESTAMP) (at r OLD_TIMESTAMP) ≡ true
  answered_delta = register_delta r (register_by r register_answered)

-- The numbers

pub routes_told : (x y : AccessRoute) → access_numbers x ≡ access_numbers y → x ≡ y
routes_told x y e = step x y (ap (λ (n : AccessNumbers). n.answer.value) e) (ap (λ (n : AccessNumbers). n.delta_less_one) e)
  where
    step : (x y : AccessRoute) → (access_numbers x).answer.value ≡ (access_numbers y).answer.value
        → (access_numbers x).delta_less_one ≡ (access_numbers y).delta_less_one → x ≡ y
    step (answered.Register d) (answered.Register b) v c = ap answered.Register c
    step (answered.Register d) answered.Aligned v c = absurd (omega arith)
    step (answered.Register d) answered.General v c = absurd (omega arith)
    step answered.Aligned (answered.Register d) v c = absurd (omega arith)
    step answered.Aligned answered.Aligned v c = refl
    step answered.Aligned answered.General v c = absurd (omega arith)
    step answered.General (answered.Register d) v c = absurd (omega arith)
    step answered.General answered.Aligned v c = absurd (omega arith)
    step answered.General answered.General v c = refl

answers_told : (a b : Result AccessRoute BadRecord) → classify_numbers a ≡ classify_numbers b → a ≡ b
answers_told (Ok x) (Ok y) e = ap Ok (routes_told x y e)
answers_told (Ok x) (Err why) e = absurd (omega (arith, ap (λ (n : AccessNumbers). n.answer.number) e))
answers_told (Err why) (Ok y) e = absurd (omega (arith, ap (λ (n : AccessNumbers). n.answer.number) e))
answers_told (Err why) (Err same) e = refl

pub route_laws : RouteLaws
route_laws =
    record {
      without = λ r. without_carried (classify r) _;
      difference = λ r d e. omega (arith, carries_delta r d e, delta_bounds _ _ (answered_delta r d e));
      in_range = λ r d e. omega (arith, carries_delta r d e, delta_bounds _ _ (answered_delta r d e));
      told = answers_told;
    }

pub route_instances : RouteInstances
unfolding classify is_register_op is_aligned_op stamps_agree delta_in_range first
route_instances = record { least = refl; most = refl; low_words = refl; past = refl }
