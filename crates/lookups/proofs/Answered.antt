-- The pair of one record: a route that is answered says whether there is one and what it is made of. Assumes nothing.
use mathlib.Core.Path.{◌≡◌, refl, sym, ap}
use mathlib.Core.Bool.{true, true≢false}
use mathlib.Core.List.{List}
use Prim.Native.Nat.{ℕ}
use Rattle.lists.specs.Lists.{at}
use Rattle.words.specs.Words.{digits}
use Rattle.access.specs.Access.{TIMESTAMP, OLD_TIMESTAMP}
use Rattle.classify.specs.Classify.{delta_less_one, classify, carrying, access_route, memw_route, carried, table_of}
use Rattle.classify.specs.declared.MemwRoute.{MemwRoute}
use Rattle.classify.specs.declared.MemwRoute.TheVariants.{Register, Aligned, General}
use Rattle.classify.proofs.RouteLaws.{without_carried}
use Rattle.lookups.specs.Lookups.{pair_of}
use Rattle.lookups.specs.Inner.{is_wanted, wanted}

module _ (r : List ℕ) where
  pub answered_wanted : is_wanted (table_of (memw_route (access_route r))) ≡ wanted r
  answered_wanted = ap (λ t. is_wanted (table_of t)) (without_carried (classify r) _)

  -- a record that has a pair goes to the register table
  pub wanted_register : wanted r ≡ true → classify r ≡ Register
  wanted_register e = step (classify r) e
    where
      step : (t : MemwRoute) → is_wanted (table_of t) ≡ true → t ≡ Register
      step Register e = refl
      step Aligned e = absurd (true≢false (sym e))
      step General e = absurd (true≢false (sym e))

  pub answered_pair : wanted r ≡ true → digits 8 2 (carried (access_route r)) ≡ pair_of r
  answered_pair e = ap (λ t. digits 8 2 (carried (carrying t (delta_less_one (at r TIMESTAMP) (at r OLD_TIMESTAMP))))) (wanted_register e)
