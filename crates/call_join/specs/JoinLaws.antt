-- The join in document 02's own words, beside the definition that computes it, both ways: what is joined has every property that is asked
-- for, and any list that has them is this one. Calls are told apart by their places, so that equal ones count. `join_laws_hold` in theorems
-- carries these. Assumes nothing.
use Rattle.std.specs.Prelude.{◌≡◌, Bool, true, false, not, cond, List, [], ◌∷◌, map, ℕ, suc, ◌+◌, ◌*◌, ◌≤◌, ◌<◌, length, take, get_or, Ok, Err}
use Rattle.lists.specs.Lists.{All}
use Rattle.call.specs.Flat.{HANDED_WIDTH, good_call}
use Rattle.call_join.specs.Join.{stamp_of, joined_calls, call_records, call_count, join_answer, joined_after, join_numbers}
use Rattle.call_join.specs.declared.JoinRefusal.TheVariants.{OutOfOrder, BufferShort}

-- Lists of calls

-- the stamp of call k
abbrev pub stamp_in : List (List ℕ) → ℕ → ℕ
stamp_in zs k = stamp_of (get_or zs k [])

-- "in order of stamp, equal stamps allowed": no call is stamped below the one before it
abbrev pub StampsInOrder : List (List ℕ) → Type 0
StampsInOrder zs = (k : ℕ) → suc k < length zs → stamp_in zs k ≤ stamp_in zs (suc k)

-- call `place` is "the first call stamped below the one before it"
pub record FirstBelow (zs : List (List ℕ)) (place : ℕ) : Type 0 where
  pub before : ℕ
  pub later : place ≡ suc before
  pub inside : place < length zs
  pub below : stamp_in zs place < stamp_in zs before
  pub none_earlier : (k : ℕ) → suc k < place → stamp_in zs k ≤ stamp_in zs (suc k)

-- of zs, the calls whose place is marked, in their order
abbrev pub marked : List Bool → List (List ℕ) → List (List ℕ)
marked [] zs = []
marked (m ∷ ms) [] = []
marked (m ∷ ms) (z ∷ zs) = cond m (z ∷ marked ms zs) (marked ms zs)

-- zs is xs and ys, joined
pub record IsJoined (xs ys zs : List (List ℕ)) : Type 0 where
  -- of each call, whether it is one of xs
  pub of_first : List Bool
  pub each : length of_first ≡ length zs
  -- "has each call of both once and no other, keeps each list's own order"
  pub all_first : marked of_first zs ≡ xs
  pub all_second : marked (map not of_first) zs ≡ ys
  -- "The joined list is in order"
  pub order : StampsInOrder zs
  -- "puts the first list's call ahead at equal stamps": none of the second stands before one of the first with the same stamp
  pub ahead : (i j : ℕ) → i < j → j < length zs → get_or of_first i true ≡ false → get_or of_first j false ≡ true → stamp_in zs i ≡ stamp_in zs j → ⊥

-- What is answered

-- a list that neither 8 nor 10 refuses
pub record Admitted (limit : ℕ) (l : List ℕ) : Type 0 where
  pub few : call_count l ≤ limit
  pub good : All (λ r. good_call r ≡ true) (call_records l)

-- the answer for two such lists and a buffer of so many numbers: 20 exactly if one of them is out of order, the first judged first
pub record OrderJudged (limit : ℕ) (first second : List ℕ) (room : ℕ) : Type 0 where
  pub of_first_lem : (place : ℕ) → FirstBelow (call_records first) place → join_answer limit first second room ≡ Err (OutOfOrder place)
  pub of_second : (place : ℕ) → StampsInOrder (call_records first) → FirstBelow (call_records second) place
      → join_answer limit first second room ≡ Err (OutOfOrder place)
  -- and else the join, if it fits, or 9
  pub served : StampsInOrder (call_records first) → StampsInOrder (call_records second)
      → HANDED_WIDTH * (call_count first + call_count second) ≤ room
      → join_answer limit first second room ≡ Ok (call_count first + call_count second)
  pub short : StampsInOrder (call_records first) → StampsInOrder (call_records second)
      → room < HANDED_WIDTH * (call_count first + call_count second) → join_answer limit first second room ≡ Err BufferShort

-- so many calls `written` at the front of the buffer
pub record JoinWritten (limit : ℕ) (first second written : List ℕ) (calls : ℕ) : Type 0 where
  pub counted : calls ≡ call_count first + call_count second
  pub admitted : Admitted limit first × Admitted limit second
  -- they are the two lists, joined, and any list that is the two, joined, is these
  pub is : IsJoined (call_records first) (call_records second) (call_records written)
  pub only : (zs : List (List ℕ)) → IsJoined (call_records first) (call_records second) zs → zs ≡ call_records written

pub record JoinLaws : Type 0 where
  -- of the definition: lists in order are joined, and joined lists are no other
  pub is : (xs ys : List (List ℕ)) → StampsInOrder xs → StampsInOrder ys → IsJoined xs ys (joined_calls xs ys)
  pub only : (xs ys zs : List (List ℕ)) → IsJoined xs ys zs → zs ≡ joined_calls xs ys
  -- of what is answered
  pub order : (limit : ℕ) (first second : List ℕ) (room : ℕ) → Admitted limit first → Admitted limit second → OrderJudged limit first second room
  -- of what is written
  pub written : (limit : ℕ) (first second joined : List ℕ) (calls : ℕ) → join_answer limit first second (length joined) ≡ Ok calls
      → JoinWritten limit first second (take (HANDED_WIDTH * calls) (joined_after first second (Ok calls) joined)) calls
  -- the join judges no call as the expansion or the register step do: it never answers 1 to 7
  pub never : (limit : ℕ) (first second : List ℕ) (room : ℕ) → let n = (join_numbers 8 (join_answer limit first second room)).number in
      1 ≤ n → n ≤ 7 → ⊥
