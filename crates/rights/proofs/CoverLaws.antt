-- Rights over bytes and ranges: an entry by its test and in words, which bytes of a range have the right, what a walk from a byte to the end
-- of its entry leaves, and what a call lacks. Assumes nothing.
use mathlib.Core.Path.{◌≡◌, refl, sym, ap, ◌∙◌, subst}
use mathlib.Core.Logic.{◌⊎◌, inl, inr, ⊎_elim, ◌↔◌}
use mathlib.Core.Bool.{Bool, true, false, not, ◌&&◌, true≢false, and-eq-true_iff, or-true}
use mathlib.Core.List.{List, [], ◌∷◌}
use Prim.Native.Nat.{ℕ, ◌+◌, ◌-◌, ◌≤◌, ◌<◌}
use native.Mathlib.Nat.{sub-zero}
use native.Mathlib.Omega.{arith}
use borrow.Author.Tests.{ltb-true, ltb-false, lt-ltb, leb-true, le-leb, lt-leb, eqb-true, eqb-false, eq-eqb, ne_eqb, not-false}
use lib.Dec.{eqb, leb, ltb}
use Rattle.lists.specs.Lists.{at, first}
use Rattle.lists.proofs.Tests.{same_test, neither}
use Rattle.lists.proofs.First.{first_lowest, first_none_lem, first_all}
use Rattle.words.proofs.Wrap.{past_by_difference}
use Rattle.call.specs.Calls.{Call}
use Rattle.rights.specs.Entries.{PARTY, START, LENGTH, MAY_READ, MAY_WRITE, entry_at, end_of, whole_entries}
use Rattle.rights.specs.Rights.{gives, giver, may, covered, lacks_right}
use Rattle.rights.specs.RightsLaws.{May}

-- Tests

true_unless : (b : Bool) → (b ≡ false → ⊥) → b ≡ true
true_unless true h = refl
true_unless false h = absurd (h refl)

pub false_unless : (b : Bool) → (b ≡ true → ⊥) → b ≡ false
false_unless true h = absurd (h refl)
false_unless false h = refl

below_or_from : {P : Type 0} (x y : ℕ) → (x < y → P) → (y ≤ x → P) → P
below_or_from {P} x y below from = go (ltb x y) refl
  where
    go : (b : Bool) → ltb x y ≡ b → P
    go true e = below (ltb-true x y e)
    go false e = from (ltb-false x y e)

-- An entry that gives the right for byte x

module _ (party right x : ℕ) (entry : List ℕ) where
  abbrev Given : Type 0
  Given = (at entry PARTY ≡ party) × (at entry right ≡ 1) × (at entry START ≤ x) × (x < end_of entry)

  gives_facts : gives party right x entry ≡ true → Given
  gives_facts e =
      let a = (and-eq-true_iff (eqb (at entry PARTY) party) _).0 e in
      let b = (and-eq-true_iff (eqb (at entry right) 1) _).0 a.1 in
      let c = (and-eq-true_iff (leb (at entry START) x) (ltb x (end_of entry))).0 b.1 in
      (eqb-true _ _ a.0, eqb-true _ _ b.0, leb-true _ _ c.0, ltb-true _ _ c.1)

  facts_give : Given → gives party right x entry ≡ true
  facts_give h = rw (eq-eqb _ _ h.0, eq-eqb _ _ h.1, le-leb _ _ h.2, lt-ltb _ _ h.3)

  -- the tests in their order, the last one by a difference
  pub other_party : (at entry PARTY ≡ party → ⊥) → false ≡ gives party right x entry
  other_party h = rw (ne_eqb (at entry PARTY) party h)

  module _ (own : at entry PARTY ≡ party) where
    pub no_right : (at entry right ≡ 1 → ⊥) → false ≡ gives party right x entry
    no_right h = rw (eq-eqb (at entry PARTY) party own, ne_eqb (at entry right) 1 h)

    module _ (has : at entry right ≡ 1) where
      pub starts_above : x < at entry START → false ≡ gives party right x entry
      starts_above h = rw (eq-eqb (at entry PARTY) party own, eq-eqb (at entry right) 1 has, lt-leb (at entry START) x h)

      pub by_difference : at entry START ≤ x → ltb (x - at entry START) (at entry LENGTH) ≡ gives party right x entry
      by_difference h =
          rw (eq-eqb (at entry PARTY) party own, eq-eqb (at entry right) 1 has, le-leb (at entry START) x h)
          (past_by_difference x (at entry START) (at entry LENGTH) h)

-- A byte that has the right

module _ (entries : List ℕ) (party right x : ℕ) where
  abbrev pub gives_at : ℕ → Bool
  gives_at k = gives party right x (entry_at entries k)

  -- a loop that looks for the giver
  pub giver_start : giver entries party right x ≡ first gives_at 0 (whole_entries entries - 0)
  unfolding giver
  giver_start = rw sub-zero

  giver_gives : giver entries party right x < whole_entries entries → gives_at (giver entries party right x) ≡ true
  unfolding giver
  giver_gives h =
      let inside : first gives_at 0 (whole_entries entries) < whole_entries entries = h in
      (first_lowest gives_at 0 (whole_entries entries)).meets (omega arith)

  given_may : (k : ℕ) → k < whole_entries entries → Given party right x (entry_at entries k) → May entries party right x
  given_may k h f = record { index = k; whole = h; its_party = f.0; has_right = f.1; from = f.2; below = f.3 }

  -- it has not where there is no giver
  pub none_may : whole_entries entries ≤ giver entries party right x → May entries party right x → ⊥
  unfolding giver
  none_may h m =
      let past : whole_entries entries ≤ first gives_at 0 (whole_entries entries) = h in
      let missed = first_none_lem gives_at 0 (whole_entries entries) m.index (omega arith) (omega arith) (omega (arith, m.whole)) in
      let given = facts_give party right x (entry_at entries m.index) (m.its_party, m.has_right, m.from, m.below) in
      true≢false (sym given ∙ missed)

  may_entry : may entries party right x ≡ true → May entries party right x
  may_entry e =
      let inside : giver entries party right x < whole_entries entries = ltb-true _ _ e in
      given_may (giver entries party right x) inside
      (gives_facts party right x (entry_at entries (giver entries party right x)) (giver_gives inside))

  pub entry_may : May entries party right x → may entries party right x ≡ true
  entry_may m = true_unless (may entries party right x) (λ e. none_may (ltb-false _ _ e) m)

  pub may_iff : (may entries party right x ≡ true) ↔ May entries party right x
  may_iff = (may_entry, entry_may)

-- A range of bytes

module _ (entries : List ℕ) (party right : ℕ) where
  abbrev pub is_without : ℕ → Bool
  is_without x = not (may entries party right x)

module _ (entries : List ℕ) (party right a n : ℕ) where
  pub covered_may : covered entries party right a n ≡ true → (x : ℕ) → a ≤ x → x < a + n → May entries party right x
  unfolding covered
  covered_may e x h l =
      let all : first (is_without entries party right) a n ≡ a + n = eqb-true _ _ e in
      may_entry entries party right x (not-false _ (first_none_lem (is_without entries party right) a n x (omega arith) h l))

  pub may_covered : ((x : ℕ) → a ≤ x → x < a + n → May entries party right x) → covered entries party right a n ≡ true
  unfolding covered
  may_covered f =
      eq-eqb _ _ (first_all (is_without entries party right) a n (λ x h l. ap not (entry_may entries party right x (f x h l))))

  -- no byte lacks it where there is none
  pub covered_empty : n ≡ 0 → covered entries party right a n ≡ true
  covered_empty e = may_covered (λ x h l. absurd (omega arith))

  -- where the first byte has no giver
  pub covered_none : 0 < n → whole_entries entries ≤ giver entries party right a → covered entries party right a n ≡ false
  covered_none pos h =
      false_unless (covered entries party right a n) (λ e. none_may entries party right a h (covered_may e a (omega arith) (omega arith)))

-- A walk that is at byte `a`: to the end of the entry that gives it

module _ (entries : List ℕ) (party right a n k end : ℕ)
    (found : k ≡ giver entries party right a) (inside : k < whole_entries entries) (ends : end ≡ end_of (entry_at entries k)) where
  given : Given party right a (entry_at entries k)
  given =
      gives_facts party right a (entry_at entries k)
      (subst (λ (j : ℕ). gives_at entries party right a j ≡ true) (sym found) (giver_gives entries party right a (omega arith)))

  pub ends_ahead : a < end
  ends_ahead = omega (arith, given.3)

  reached : (x : ℕ) → a ≤ x → x < end → May entries party right x
  reached x h l = given_may entries party right x k inside (given.0, given.1, omega (arith, given.2), omega arith)

  -- the range ends in the entry
  pub covered_within : n ≤ end - a → covered entries party right a n ≡ true
  covered_within h = may_covered entries party right a n (λ x l b. reached x l (omega (arith, ends_ahead)))

  -- it goes on behind it
  pub covered_beyond : end - a < n → covered entries party right a n ≡ covered entries party right end (n - (end - a))
  covered_beyond h =
      same_test (covered entries party right a n) (covered entries party right end (n - (end - a)))
      (λ e. may_covered entries party right end (n - (end - a))
      (λ x l b. covered_may entries party right a n e x (omega (arith, ends_ahead)) (omega (arith, ends_ahead))))
      (λ e. may_covered entries party right a n
      (λ x l b. below_or_from x end (reached x l)
      (λ past. covered_may entries party right end (n - (end - a)) e x past (omega (arith, ends_ahead)))))

-- What a call lacks

write_passes : (b w : Bool) → b ≡ false → not b && not w ≡ false → w ≡ true
write_passes true w p e = absurd (true≢false p)
write_passes false w p e = not-false w e

module _ (c : Call) (party : ℕ) (entries : List ℕ) where
  abbrev pub reads : Bool
  reads = covered entries party MAY_READ c.src c.count

  abbrev pub writes : Bool
  writes = covered entries party MAY_WRITE c.dst c.count

  pub lacks_read : reads ≡ false → lacks_right c party entries ≡ true
  lacks_read e = rw e

  pub lacks_write : (c.kind ≡ 2 → ⊥) → writes ≡ false → lacks_right c party entries ≡ true
  lacks_write h e = rw (ne_eqb c.kind 2 h, e) (or-true (not reads))

  pub lacks_none : reads ≡ true → ((c.kind ≡ 2 → ⊥) → writes ≡ true) → lacks_right c party entries ≡ false
  lacks_none r w = rw r (no_write (eqb c.kind 2) refl)
    where
      no_write : (b : Bool) → eqb c.kind 2 ≡ b → not b && not writes ≡ false
      no_write true e = refl
      no_write false e = ap not (w (eqb-false c.kind 2 e))

  -- the source has its rights, and the call is no Write: the destination decides
  pub lacks_target : reads ≡ true → (c.kind ≡ 2 → ⊥) → not writes ≡ lacks_right c party entries
  lacks_target r h = rw (r, ne_eqb c.kind 2 h)

  pub has_rights : lacks_right c party entries ≡ false
      → (covered entries party MAY_READ c.src c.count ≡ true)
      × ((c.kind ≡ 2 → ⊥) → covered entries party MAY_WRITE c.dst c.count ≡ true)
  has_rights e =
      let both = neither (not reads) (not (eqb c.kind 2) && not writes) e in
      (not-false reads both.0, λ h. write_passes (eqb c.kind 2) writes (ne_eqb c.kind 2 h) both.1)

-- One entry over a whole window gives party 0 all of it

abbrev whole : ℕ → List ℕ
whole cells = 0 ∷ 0 ∷ cells ∷ 1 ∷ 1 ∷ []

pub whole_covered : (cells right a n : ℕ) → (right ≡ MAY_READ) ⊎ (right ≡ MAY_WRITE) → (0 < n → a + n ≤ cells)
    → covered (0 ∷ 0 ∷ cells ∷ 1 ∷ 1 ∷ []) 0 right a n ≡ true
whole_covered cells right a n one fits =
    may_covered (whole cells) 0 right a n
    (λ x h l. record { index = 0; whole = omega arith; its_party = refl; has_right = has; from = omega arith; below = omega (arith, fits (omega arith)) })
  where
    has : at (whole cells) right ≡ 1
    has = ⊎_elim (λ (q : right ≡ MAY_READ). ap (at (whole cells)) q) (λ (q : right ≡ MAY_WRITE). ap (at (whole cells)) q) one

pub whole_lacks_none : (cells : ℕ) (c : Call) → (0 < c.count → c.src + c.count ≤ cells)
    → (0 < c.count → (c.kind ≡ 2 → ⊥) → c.dst + c.count ≤ cells)
    → lacks_right c 0 (0 ∷ 0 ∷ cells ∷ 1 ∷ 1 ∷ []) ≡ false
whole_lacks_none cells c source target =
    lacks_none c 0 _
    (whole_covered cells MAY_READ c.src c.count (inl refl) source)
    (λ h. whole_covered cells MAY_WRITE c.dst c.count (inr refl) (λ pos. target pos h))
