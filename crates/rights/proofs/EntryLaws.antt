-- What is refused of entries: the loop that looks for one past the window, the answer case by case, that the ends of accepted entries fit 64
-- bits, and that one entry over a whole window is accepted. Assumes nothing.
use mathlib.Core.Path.{◌≡◌, refl, sym, ◌∙◌}
use mathlib.Core.Bool.{Bool, true, false}
use mathlib.Core.List.{List, [], ◌∷◌}
use Prim.Native.Nat.{ℕ, zero, suc, ◌-◌, ◌^◌, ◌≤◌, ◌<◌}
use native.Mathlib.Nat.{sub-zero, le_of_suc-le-suc}
use native.Mathlib.Omega.{arith}
use borrow.Author.Tests.{ltb-false, lt-ltb, le-ltb}
use lib.Dec.{ltb}
use lib.ListN.{get_or}
use Rattle.lists.specs.Lists.{at, first}
use Rattle.lists.proofs.First.{first_hit, first_end, first_none_lem, first_all}
use Rattle.records.proofs.Records.{within_all, none_bad}
use Rattle.call.specs.Entries.{LAST_PARTY}
use Rattle.call.specs.Entries.{ENTRY_WIDTH, entry_limits, good_entry}
use Rattle.rights.specs.Entries.{entry_at, end_of, entry_count, whole_entries, MOST_ENTRIES, too_many, past_window, bad_entries, first_bad_entry, has_bad_entry}
use Rattle.rights.specs.Inner.{claim_answer, EndsFit}
use Rattle.rights.specs.declared.ClaimRefusal.TheVariants.{BadEntries, BadField}
use Rattle.std.specs.Prelude.{Ok, Err}

-- An entry past the window

module _ (entries : List ℕ) (cells : ℕ) where
  abbrev pub ends_past : ℕ → Bool
  ends_past k = ltb cells (end_of (entry_at entries k))

  -- the lowest one is the lowest from k on
  abbrev pub PastFrom : ℕ → Type 0
  PastFrom k = first ends_past 0 (whole_entries entries) ≡ first ends_past k (whole_entries entries - k)

  -- a loop that is at k
  pub past_start : PastFrom 0
  past_start = rw sub-zero

  pub past_found : (k : ℕ) → k < whole_entries entries → PastFrom k → ends_past k ≡ true → true ≡ past_window entries cells
  unfolding past_window
  past_found k h from e =
      let found : first ends_past 0 (whole_entries entries) ≡ k = from ∙ first_hit ends_past k (whole_entries entries) h e in
      sym (lt-ltb (first ends_past 0 (whole_entries entries)) (whole_entries entries) (omega arith))

  pub past_end : (k : ℕ) → whole_entries entries ≤ k → PastFrom k → false ≡ past_window entries cells
  unfolding past_window
  past_end k h from =
      let found : first ends_past 0 (whole_entries entries) ≡ k = from ∙ first_end ends_past k (whole_entries entries) h in
      sym (le-ltb (first ends_past 0 (whole_entries entries)) (whole_entries entries) (omega arith))

  -- none is past it where each ends inside, and where none is, each does
  past_none : ((k : ℕ) → k < whole_entries entries → end_of (entry_at entries k) ≤ cells) → past_window entries cells ≡ false
  unfolding past_window
  past_none h =
      let all = first_all ends_past 0 (whole_entries entries) (λ j a b. le-ltb cells (end_of (entry_at entries j)) (h j (omega arith))) in
      le-ltb (first ends_past 0 (whole_entries entries)) (whole_entries entries) (omega arith)

  ends_within : past_window entries cells ≡ false → (k : ℕ) → k < whole_entries entries → end_of (entry_at entries k) ≤ cells
  unfolding past_window
  ends_within e k h =
      let none : whole_entries entries ≤ first ends_past 0 (whole_entries entries) = ltb-false _ _ e in
      ltb-false cells (end_of (entry_at entries k))
      (first_none_lem ends_past 0 (whole_entries entries) k (omega arith) (omega arith) (omega arith))

-- the ends of entries that end in a window fit 64 bits
pub ends_fit : (entries : List ℕ) (cells : ℕ) → cells < 2 ^ 64 → past_window entries cells ≡ false → EndsFit entries
ends_fit entries cells h e k l = omega (arith, ends_within entries cells e k l)

-- The answer, case by case

module _ (party : ℕ) (entries : List ℕ) (cells : ℕ) where
  pub answer_many : MOST_ENTRIES < entry_count entries → Err BadEntries ≡ claim_answer party entries cells
  unfolding claim_answer
  answer_many h = let many : too_many entries ≡ true = lt-ltb MOST_ENTRIES (entry_count entries) h in rw many

  -- there are few enough
  module _ (few : entry_count entries ≤ MOST_ENTRIES) where
    pub answer_past : past_window entries cells ≡ true → Err BadEntries ≡ claim_answer party entries cells
    unfolding claim_answer
    answer_past e = rw (le-ltb MOST_ENTRIES (entry_count entries) few, e)

    -- and each ends in the window
    module _ (inside : past_window entries cells ≡ false) where
      pub answer_party : LAST_PARTY < party → Err (BadField 0) ≡ claim_answer party entries cells
      unfolding claim_answer
      answer_party h = rw (le-ltb MOST_ENTRIES (entry_count entries) few, inside, lt-ltb LAST_PARTY party h)

      -- and the party is one
      module _ (one : party ≤ LAST_PARTY) where
        pub answer_entry : first_bad_entry entries < entry_count entries → Err (BadField (first_bad_entry entries)) ≡ claim_answer party entries cells
        unfolding claim_answer
        answer_entry h =
            rw (
              le-ltb MOST_ENTRIES (entry_count entries) few,
              inside,
              le-ltb LAST_PARTY party one,
              lt-ltb (first_bad_entry entries) (entry_count entries) h,
            )

        pub answer_good : entry_count entries ≤ first_bad_entry entries → Ok tt ≡ claim_answer party entries cells
        unfolding claim_answer
        answer_good h =
            rw (
              le-ltb MOST_ENTRIES (entry_count entries) few,
              inside,
              le-ltb LAST_PARTY party one,
              le-ltb (first_bad_entry entries) (entry_count entries) h,
            )

-- One entry over a whole window

module _ (cells : ℕ) where
  abbrev whole : List ℕ
  whole = 0 ∷ 0 ∷ cells ∷ 1 ∷ 1 ∷ []

  whole_inside : past_window whole cells ≡ false
  whole_inside = past_none whole cells each
    where
      each : (k : ℕ) → k < whole_entries whole → end_of (entry_at whole k) ≤ cells
      each zero h = omega arith
      each (suc k) h = absurd (omega arith)

  pub whole_not_past : bad_entries (0 ∷ 0 ∷ cells ∷ 1 ∷ 1 ∷ []) cells ≡ false
  whole_not_past = whole_inside

  whole_good : cells < 2 ^ 64 → good_entry whole ≡ true
  unfolding entry_limits
  whole_good w = within_all entry_limits whole refl each
    where
      each : (i : ℕ) → i < ENTRY_WIDTH → at whole i ≤ get_or entry_limits i 0
      each zero h = omega arith
      each (suc zero) h = omega arith
      each (suc (suc zero)) h = le_of_suc-le-suc w
      each (suc (suc (suc zero))) h = omega arith
      each (suc (suc (suc (suc zero)))) h = omega arith
      each (suc (suc (suc (suc (suc i))))) h = absurd (omega arith)

  whole_first_bad : cells < 2 ^ 64 → first_bad_entry whole ≡ entry_count whole
  whole_first_bad w = none_bad ENTRY_WIDTH good_entry whole each
    where
      each : (k : ℕ) → k < entry_count whole → good_entry (entry_at whole k) ≡ true
      each zero h = whole_good w
      each (suc k) h = absurd (omega arith)

  pub whole_none_bad : cells < 2 ^ 64 → has_bad_entry (0 ∷ 0 ∷ cells ∷ 1 ∷ 1 ∷ []) ≡ false
  whole_none_bad w = le-ltb (first_bad_entry whole) (entry_count whole) (omega (arith, whole_first_bad w))

  pub whole_entry_good : cells < 2 ^ 64 → claim_answer 0 (0 ∷ 0 ∷ cells ∷ 1 ∷ 1 ∷ []) cells ≡ Ok tt
  whole_entry_good w = sym (answer_good 0 whole cells (omega arith) whole_inside (omega arith) (omega (arith, whole_first_bad w)))
