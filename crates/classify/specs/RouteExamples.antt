-- The starred examples on routes, computed over the definitions: "Stamps 65,537 over 1: register; 65,538 over 1, equal stamps, or 2^32
-- over 2^32 − 1: aligned (even address)." `starred_examples_hold` in examples carries them. Assumes nothing.
use Rattle.std.specs.Prelude.{◌≡◌, [], ◌∷◌, ℕ, ◌-◌, ◌^◌}
use Rattle.access.specs.Access.{access_record}
use Rattle.access.specs.RegisterAccess.{register_access}
use Rattle.classify.specs.Classify.{classify}
use Rattle.classify.specs.declared.MemwRoute.{MemwRoute}
use Rattle.classify.specs.declared.MemwRoute.TheVariants.{Register, Aligned}

-- the route of a read of x10, which holds 7 since the old stamp
abbrev pub route_over : ℕ → ℕ → MemwRoute
route_over timestamp old = classify (access_record (register_access 20 (7 ∷ 0 ∷ []) (7 ∷ 0 ∷ []) timestamp old 1))

pub record RouteExamples : Type 0 where
  pub in_range : route_over 65537 1 ≡ Register
  pub past_range : route_over 65538 1 ≡ Aligned
  pub equal_stamps : route_over 65537 65537 ≡ Aligned
  pub high_words_differ : route_over (2 ^ 32) (2 ^ 32 - 1) ≡ Aligned
