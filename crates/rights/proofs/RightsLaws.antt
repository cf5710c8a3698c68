-- The laws of the rights hold. A range that is not covered has a lowest byte without the right; and an entry that two lists share gives the
-- same bytes in both. Assumes nothing.
use mathlib.Core.Path.{◌≡◌, refl, sym, ap, ◌∙◌, subst}
use mathlib.Core.Logic.{◌⊎◌, inl, inr, ⊎_elim}
use mathlib.Core.Bool.{Bool, true, false, not, ◌&&◌, ◌||◌, true≢false, and-eq-true_iff}
use mathlib.Core.List.{List}
use Prim.Native.Nat.{ℕ, ◌+◌, ◌≤◌, ◌<◌}
use native.Mathlib.Nat.{eq-or-lt_of_le}
use borrow.Author.Tests.{eqb-false, not-true}
use lib.Dec.{eqb}
use Rattle.lists.specs.Lists.{at, first}
use Rattle.lists.proofs.Tests.{same_test}
use Rattle.lists.proofs.First.{first_lowest}
use Rattle.call.specs.Calls.{Call}
use Rattle.rights.specs.Entries.{PARTY, START, MAY_READ, MAY_WRITE, end_of}
use Rattle.rights.specs.Rights.{covered, lacks_right}
use Rattle.rights.specs.RightsLaws.{May, ByteLacks, CallLacks, OwnIn, RightsLaws}
use Rattle.rights.proofs.CoverLaws.{false_unless, entry_may, is_without, covered_may, may_covered, covered_empty}
use Rattle.rights.proofs.CoverLaws.{reads, writes, lacks_read, lacks_write, lacks_none}

-- A byte without the right

module _ (entries : List ℕ) (party right a n : ℕ) where
  byte_lacks : covered entries party right a n ≡ false → ByteLacks entries party right a n
  unfolding covered
  byte_lacks e =
      let without = is_without entries party right in
      let l = first_lowest without a n in
      ⊎_elim (λ (q : first without a n ≡ a + n). absurd (eqb-false _ _ e q))
      (λ (below : first without a n < a + n).
      record {
        byte = first without a n;
        from = l.least;
        below = below;
        none = λ m. true≢false (sym (entry_may entries party right _ m) ∙ not-true _ (l.meets below));
      })
      (eq-or-lt_of_le l.most)

  lacks_byte : ByteLacks entries party right a n → covered entries party right a n ≡ false
  lacks_byte b =
      false_unless (covered entries party right a n)
      (λ e. b.none (covered_may entries party right a n e b.byte b.from b.below))

either : (a b : Bool) → a || b ≡ true → (a ≡ true) ⊎ (b ≡ true)
either true b e = inl refl
either false b e = inr e

module _ (c : Call) (party : ℕ) (entries : List ℕ) where
  call_lacks : lacks_right c party entries ≡ true → CallLacks c party entries
  call_lacks e =
      ⊎_elim (λ (r : not (reads c party entries) ≡ true). inl (byte_lacks entries party MAY_READ c.src c.count (not-true _ r)))
      (λ (w : not (eqb c.kind 2) && not (writes c party entries) ≡ true).
      let both = (and-eq-true_iff (not (eqb c.kind 2)) (not (writes c party entries))).0 w in
      inr
      (eqb-false c.kind 2 (not-true _ both.0), byte_lacks entries party MAY_WRITE c.dst c.count (not-true _ both.1)))
      (either (not (reads c party entries)) (not (eqb c.kind 2) && not (writes c party entries)) e)

  lacks_call : CallLacks c party entries → lacks_right c party entries ≡ true
  lacks_call l =
      ⊎_elim (λ b. lacks_read c party entries (lacks_byte entries party MAY_READ c.src c.count b))
      (λ b. lacks_write c party entries b.0 (lacks_byte entries party MAY_WRITE c.dst c.count b.1))
      l

-- Two lists that have the same entries of the party

moved : (entries others : List ℕ) (party right x : ℕ) → OwnIn party entries others → May entries party right x → May others party right x
moved entries others party right x own m =
    let there = own m.index m.whole m.its_party in
    let same = there.2 in
    record {
      index = there.0;
      whole = there.1;
      its_party = ap (λ (e : List ℕ). at e PARTY) same ∙ m.its_party;
      has_right = ap (λ (e : List ℕ). at e right) same ∙ m.has_right;
      from = subst (λ (e : List ℕ). at e START ≤ x) (sym same) m.from;
      below = subst (λ (e : List ℕ). x < end_of e) (sym same) m.below;
    }

module _ (party : ℕ) (entries others : List ℕ) (there : OwnIn party entries others) (back : OwnIn party others entries) where
  same_covered : (right a n : ℕ) → covered entries party right a n ≡ covered others party right a n
  same_covered right a n =
      same_test (covered entries party right a n) (covered others party right a n)
      (λ e. may_covered others party right a n
      (λ x h l. moved entries others party right x there (covered_may entries party right a n e x h l)))
      (λ e. may_covered entries party right a n
      (λ x h l. moved others entries party right x back (covered_may others party right a n e x h l)))

  same_lacks : (c : Call) → lacks_right c party entries ≡ lacks_right c party others
  same_lacks c =
      let read = same_covered MAY_READ c.src c.count in
      let write = same_covered MAY_WRITE c.dst c.count in
      λ i. not (read i) || (not (eqb c.kind 2) && not (write i))

pub rights_laws : RightsLaws
rights_laws =
    record {
      bytes = λ entries party right a n. (covered_may entries party right a n, may_covered entries party right a n);
      lacks = λ c party entries. (call_lacks c party entries, lacks_call c party entries);
      empty = λ c party entries e.
          lacks_none c party entries (covered_empty entries party MAY_READ c.src c.count e)
          (λ h. covered_empty entries party MAY_WRITE c.dst c.count e);
      own_only = λ c party entries others there back. same_lacks party entries others there back c;
    }
