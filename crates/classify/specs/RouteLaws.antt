-- The route that is answered, in document 02's words: it is the Rust's with one number more, which its numbers tell. `route_laws_hold` in
-- theorems carries them. Assumes nothing.
use Rattle.std.specs.Prelude.{◌≡◌, List, [], ◌∷◌, ℕ, ◌+◌, ◌^◌, ◌≤◌, Result}
use Rattle.lists.specs.Lists.{at}
use Rattle.words.specs.Words.{low_word}
use Rattle.access.specs.Access.{TIMESTAMP, OLD_TIMESTAMP, access_record}
use Rattle.access.specs.RegisterAccess.{register_access}
use Rattle.classify.specs.Classify.{classify, access_route, memw_route, classify_numbers}
use Rattle.classify.specs.declared.AccessRoute.{AccessRoute}
use Rattle.classify.specs.declared.AccessRoute.TheVariants.{Register, Aligned}
use Rattle.classify.specs.declared.BadRecord.{BadRecord}

pub record RouteLaws : Type 0 where
  -- "the Rust's route is the answer without it"
  pub without : (r : List ℕ) → memw_route (access_route r) ≡ classify r
  -- "the low stamp difference less one"
  pub difference : (r : List ℕ) (d : ℕ) → access_route r ≡ Register d → low_word (at r OLD_TIMESTAMP) + d + 1 ≡ low_word (at r TIMESTAMP)
  -- "0 to 65,535"
  pub in_range : (r : List ℕ) (d : ℕ) → access_route r ≡ Register d → d ≤ 65535
  -- the numbers of an answer leave nothing of it free
  pub told : (a b : Result AccessRoute BadRecord) → classify_numbers a ≡ classify_numbers b → a ≡ b

-- what is answered for a read of x10, which holds 7 since the old stamp
abbrev pub answered_over : ℕ → ℕ → AccessRoute
answered_over timestamp old = access_route (access_record (register_access 20 (7 ∷ 0 ∷ []) (7 ∷ 0 ∷ []) timestamp old 1))

pub record RouteInstances : Type 0 where
  -- both ends of the range, and stamps past 2^32
  pub least : answered_over 2 1 ≡ Register 0
  pub most : answered_over 65537 1 ≡ Register 65535
  pub low_words : answered_over (2 ^ 32 + 258) (2 ^ 32) ≡ Register 257
  -- one more is no register access
  pub past : answered_over 65538 1 ≡ Aligned
