-- Small loads and their answers, computed over the definitions. `load_laws_hold` in theorems carries them. Assumes nothing.
use Rattle.std.specs.Prelude.{◌≡◌, ℕ, ◌-◌, ◌*◌, ◌^◌, replicate}
use mathlib.Core.List.{List, [], ◌∷◌, ◌++◌, flat_map}
use Rattle.answer.specs.Numbers.{accepted, refused}
use Rattle.call.specs.Flat.{HANDED_WIDTH, handed_numbers}
use Rattle.load.specs.Load.{load_calls, load_answer, load_after}

-- the numbers of the first n calls
abbrev pub numbers_of : ℕ → ℕ → List ℕ
numbers_of s n = flat_map handed_numbers (load_calls s n)

pub record Instances : Type 0 where
  -- the first six calls of s 0
  pub six : numbers_of 0 6
      ≡ (1 ∷ 0 ∷ 374 ∷ 382 ∷ 31 ∷ [])
      ++ (1 ∷ 4 ∷ 268 ∷ 276 ∷ 7 ∷ [])
      ++ (1 ∷ 8 ∷ 806 ∷ 814 ∷ 16 ∷ [])
      ++ (1 ∷ 12 ∷ 360 ∷ 368 ∷ 11 ∷ [])
      ++ (0 ∷ 16 ∷ 863 ∷ 267 ∷ 3 ∷ [])
      ++ (0 ∷ 20 ∷ 375 ∷ 677 ∷ 1 ∷ [])
  -- the first four of s 89: a Write of 11 bytes, a Set, a Copy, and a Write at index 11
  pub four : numbers_of 89 4
      ≡ (2 ∷ 0 ∷ 576 ∷ 0 ∷ 11 ∷ [])
      ++ (1 ∷ 4 ∷ 179 ∷ 187 ∷ 18 ∷ [])
      ++ (0 ∷ 8 ∷ 312 ∷ 502 ∷ 2 ∷ [])
      ++ (2 ∷ 12 ∷ 121 ∷ 11 ∷ 21 ∷ [])
  -- 65,536 calls are served; one more is 19, be the buffer long enough or empty
  pub most : load_answer 65536 (HANDED_WIDTH * 65536) ≡ accepted 65536
  pub over : load_answer 65537 (HANDED_WIDTH * 65537) ≡ refused 19 0
  pub over_first : load_answer 65537 0 ≡ refused 19 0
  pub top : load_answer (2 ^ 64 - 1) 0 ≡ refused 19 0
  -- a buffer one number short is 9; none at all is long enough for no call
  pub short : load_answer 65536 (HANDED_WIDTH * 65536 - 1) ≡ refused 9 0
  pub none : load_answer 0 0 ≡ accepted 0
  -- numbers past the calls keep their values, and a refusal writes nothing
  pub past : load_after 0 1 (replicate 7 9) ≡ 1 ∷ 0 ∷ 374 ∷ 382 ∷ 31 ∷ 9 ∷ 9 ∷ []
  pub kept : load_after 0 2 (replicate 9 9) ≡ replicate 9 9
