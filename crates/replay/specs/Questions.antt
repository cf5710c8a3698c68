-- How a list stands among the recorded numbers: its length, and then its numbers. Assumes nothing.
use Rattle.std.specs.Prelude.{ℕ, ◌≡◌, ◌-◌, List, [], ◌∷◌, length, take, drop}

-- The list that numbers begin with: all that are left where they are too few.
abbrev pub first_list : List ℕ → List ℕ
first_list [] = []
first_list (size ∷ follow) = take size follow

-- The numbers that follow that list.
abbrev pub after_list : List ℕ → List ℕ
after_list [] = []
after_list (size ∷ follow) = drop size follow

-- What reading leaves of the numbers: their end, so that nothing else is put in their place.
pub record IsEnd (before after : List ℕ) : Type 0 where
  pub end : after ≡ drop (length before - length after) before
