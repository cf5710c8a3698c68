-- The lent buffer, call by call, and the answer by the two tests. Assumes nothing.
use mathlib.Core.Path.{◌≡◌, refl, sym, ap, ◌∙◌}
use mathlib.Core.Bool.{true, false}
use mathlib.Core.List.{List, ◌++◌, flat_map}
use Prim.Native.Nat.{ℕ, ◌+◌, ◌*◌}
use native.Mathlib.Omega.{arith}
use lib.Dec.{ltb}
use lib.ListN.{length}
use Rattle.answer.specs.Numbers.{accepted, refused}
use Rattle.lists.specs.Lists.{store, listed}
use Rattle.lists.proofs.Store.{store_none, store_behind, length_store}
use Rattle.lists.proofs.Flat.{flat_more, flat_length}
use Rattle.lists.proofs.Listed.{flat_listed}
use Rattle.records.specs.Records.{LIMIT}
use Rattle.call.specs.Flat.{HANDED_WIDTH, handed_numbers}
use Rattle.load.specs.Load.{state_after, kind_drawn, count_drawn, indexed, index_at, load_call, load_calls}
use Rattle.load.specs.Load.{load_answer, loaded, load_after, LoadDone}
use Rattle.load.specs.Inner.{drawn_call}
use Rattle.load.proofs.Drawing.{state_next, call_drawn, index_next}

-- The calls written so far

loaded_none : (s : ℕ) (calls : List ℕ) → loaded s 0 calls ≡ calls
unfolding loaded listed flat_map
loaded_none s calls = store_none calls 0

pub loaded_length : (s n : ℕ) (calls : List ℕ) → length (loaded s n calls) ≡ length calls
unfolding loaded
loaded_length s n calls = length_store calls 0 (flat_map handed_numbers (load_calls s n))

module _ (s k : ℕ) where
  abbrev part : ℕ → List ℕ
  part j = handed_numbers (load_call s j)

  abbrev parts : ℕ → List ℕ
  parts n = flat_map handed_numbers (load_calls s n)

  parts_more : parts k ++ part k ≡ parts (k + 1)
  parts_more =
      ap (λ l. l ++ part k) (sym (flat_listed handed_numbers (load_call s) k))
      ∙ sym (flat_more part k)
      ∙ flat_listed handed_numbers (load_call s) (k + 1)

  parts_length : HANDED_WIDTH * k ≡ 0 + length (parts k)
  parts_length = omega (arith, ap length (flat_listed handed_numbers (load_call s) k), flat_length HANDED_WIDTH part k (λ j _. wide j))
    where
      wide : (j : ℕ) → length (part j) ≡ HANDED_WIDTH
      wide j = omega arith

  loaded_next : (calls₀ calls numbers : List ℕ) → calls ≡ loaded s k calls₀ → numbers ≡ part k
      → store calls (HANDED_WIDTH * k) numbers ≡ loaded s (k + 1) calls₀
  unfolding loaded
  loaded_next calls₀ calls numbers q e =
      (λ i. store (q i) (HANDED_WIDTH * k) (e i))
      ∙ store_behind calls₀ 0 (HANDED_WIDTH * k) (parts k) (part k) parts_length
      ∙ ap (store calls₀ 0) parts_more

-- The loop: k calls are written, and the state, the index and the stamp are those before call k

pub record LoadedAt (s : ℕ) (calls₀ calls : List ℕ) (state index stamp k : ℕ) : Type 0 where
  pub at_state : state ≡ state_after s (4 * k)
  pub at_index : index ≡ index_at s k
  pub at_stamp : stamp ≡ 4 * k
  pub written : calls ≡ loaded s k calls₀

pub loaded_start : (s : ℕ) (calls : List ℕ) → LoadedAt s calls calls s 0 0 0
unfolding state_after index_at
loaded_start s calls = record { at_state = refl; at_index = refl; at_stamp = refl; written = sym (loaded_none s calls) }

pub loaded_turn : (s : ℕ) (calls₀ calls after numbers : List ℕ) (state index stamp k later next : ℕ) → LoadedAt s calls₀ calls state index stamp k
    → numbers ≡ handed_numbers (drawn_call state index stamp) → later ≡ state_after state 4
    → next ≡ index + indexed (kind_drawn state 0) (count_drawn state 0) → after ≡ store calls (HANDED_WIDTH * k) numbers
    → LoadedAt s calls₀ after later next (stamp + 4) (k + 1)
loaded_turn s calls₀ calls after numbers state index stamp k later next at e f g h =
    let drawn : numbers ≡ handed_numbers (load_call s k) =
    e
    ∙ (λ i. handed_numbers (drawn_call (at.at_state i) (at.at_index i) (at.at_stamp i)))
    ∙ ap handed_numbers (call_drawn s k) in
    record {
      at_state = f ∙ ap (λ x. state_after x 4) at.at_state ∙ state_next s k;
      at_index = g ∙ (λ i. at.at_index i + indexed (kind_drawn (at.at_state i) 0) (count_drawn (at.at_state i) 0)) ∙ index_next s k;
      at_stamp = omega (arith, at.at_stamp);
      written = h ∙ loaded_next s k calls₀ calls numbers at.written drawn;
    }

-- The answer

module _ (s n : ℕ) (calls : List ℕ) where
  pub too_many_lem : ltb LIMIT n ≡ true → LoadDone s n calls (refused 19 0) calls
  unfolding load_answer load_after
  too_many_lem over = record { answer = rw over; written = rw over }

  pub too_short : ltb LIMIT n ≡ false → ltb (length calls) (HANDED_WIDTH * n) ≡ true → LoadDone s n calls (refused 9 0) calls
  unfolding load_answer load_after
  too_short few short = record { answer = rw (few, short); written = rw (few, short) }

  pub all_written : ltb LIMIT n ≡ false → ltb (length calls) (HANDED_WIDTH * n) ≡ false → LoadDone s n calls (accepted n) (loaded s n calls)
  unfolding load_answer load_after
  all_written few room = record { answer = rw (few, room); written = rw (few, room) }
