-- The route of the record that the six inputs make is found by the stamps and the address alone, and it is Register exactly if the stamps
-- are in range; then the answer, case by case, and what tells it. Assumes nothing.
use mathlib.Core.Path.{◌≡◌, refl, sym, ap, ◌∙◌}
use mathlib.Core.Bool.{Bool, true, false, cond, and-true}
use mathlib.Core.List.{List}
use Prim.Native.Nat.{ℕ, ◌%◌}
use Rattle.std.specs.Prelude.{Result, Ok, Err}
use native.Mathlib.Omega.{arith}
use borrow.Author.Tests.{eq-eqb}
use lib.Dec.{eqb}
use lib.ListN.{replicate}
use Rattle.lists.specs.Lists.{first, at}
use Rattle.words.specs.Words.{low_word}
use Rattle.access.specs.Access.{BASE_ADDRESS, ACCESS_WIDTH}
use Rattle.classify.specs.Classify.{delta_in_range, delta_less_one, is_register_op, stamps_agree, is_aligned_op, classify, table_of}
use Rattle.classify.specs.Classify.{carrying, access_route, memw_route}
use Rattle.classify.specs.TableRecord.{address_fits}
use Rattle.classify.specs.declared.AccessNumbers.{AccessNumbers}
use Rattle.classify.specs.declared.AccessRoute.{AccessRoute}
use Rattle.classify.specs.declared.MemwRoute.TheVariants.{Register, Aligned, General}
use Rattle.classify.proofs.RouteLaws.{without_carried, register_first, routes_told}
use Rattle.reg_access.specs.RegAccess.{built, with_zeros, pushed, push_numbers, route_of, RegisterExactly}
use Rattle.reg_access.specs.declared.BadAddress.{BadAddress}
use Rattle.reg_access.specs.declared.RegAccess.{RegAccess}

module _ (address : ℕ) (val old : List ℕ) (timestamp old_timestamp : ℕ) (is_read : Bool) where
  built_register : is_register_op (built address val old timestamp old_timestamp is_read) ≡ delta_in_range timestamp old_timestamp
  unfolding built is_register_op
  built_register = rw (eq-eqb old_timestamp old_timestamp refl)

  built_aligned : is_aligned_op (built address val old timestamp old_timestamp is_read) ≡ eqb (low_word address % 2) 0
  unfolding built is_aligned_op stamps_agree first
  built_aligned = rw (eq-eqb old_timestamp old_timestamp refl) (and-true (eqb (low_word address % 2) 0))

  pub built_route : classify (built address val old timestamp old_timestamp is_read) ≡ route_of address timestamp old_timestamp
  unfolding classify
  built_route = λ i. cond (built_register i) Register (cond (built_aligned i) Aligned General)

  -- and what it carries by the stamps alone
  pub built_carries : access_route (built address val old timestamp old_timestamp is_read)
      ≡ carrying (route_of address timestamp old_timestamp) (delta_less_one timestamp old_timestamp)
  unfolding built
  built_carries = ap (λ t. carrying t (delta_less_one timestamp old_timestamp)) built_route

  pub register_exactly : RegisterExactly address val old timestamp old_timestamp is_read
  register_exactly =
      record {
        same_route = built_route;
        register_in_range = λ e. register_first (delta_in_range timestamp old_timestamp) (eqb (low_word address % 2) 0) (sym built_route ∙ e);
        in_range_register = λ h. built_route ∙ (λ i. cond (h i) Register (cond (eqb (low_word address % 2) 0) Aligned General));
        carries = built_carries;
      }

-- The answer for a record of route t

module _ (r : List ℕ) (t : AccessRoute) (e : access_route r ≡ t) where
  abbrev refusal : RegAccess
  refusal = record { answer = Err (record {}); written = replicate ACCESS_WIDTH 0 }

  pushed_by : pushed r
      ≡ cond (address_fits (table_of (memw_route t)) (at r BASE_ADDRESS)) (record { answer = Ok t; written = with_zeros (table_of (memw_route t)) r })
      refusal
  unfolding pushed
  pushed_by =
      let same : classify r ≡ memw_route t = sym (without_carried (classify r) _) ∙ ap memw_route e in
      λ i. cond (address_fits (table_of (same i)) (at r BASE_ADDRESS)) (record { answer = Ok (e i); written = with_zeros (table_of (same i)) r }) refusal

  pub pushed_fits : address_fits (table_of (memw_route t)) (at r BASE_ADDRESS) ≡ true
      → ◌≡◌ {A = RegAccess} (record { answer = Ok t; written = with_zeros (table_of (memw_route t)) r }) (pushed r)
  pushed_fits h = sym (pushed_by ∙ rw h)

  pub pushed_not : address_fits (table_of (memw_route t)) (at r BASE_ADDRESS) ≡ false → refusal ≡ pushed r
  pushed_not h = sym (pushed_by ∙ rw h)

-- What tells it

pub pushes_told : (a b : Result AccessRoute BadAddress) → push_numbers a ≡ push_numbers b → a ≡ b
pushes_told (Ok x) (Ok y) e = ap Ok (routes_told x y e)
pushes_told (Ok x) (Err why) e = absurd (omega (arith, ap (λ (n : AccessNumbers). n.answer.number) e))
pushes_told (Err why) (Ok y) e = absurd (omega (arith, ap (λ (n : AccessNumbers). n.answer.number) e))
pushes_told (Err why) (Err same) e = refl
