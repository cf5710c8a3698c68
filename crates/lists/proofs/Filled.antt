-- A loop that counts, or writes behind one another, the parts of those rows that meet a test. Document 01: "one operation record for each
-- live row and five numbers for each call". Assumes nothing.
use mathlib.Core.Path.{◌≡◌, refl, sym, ap, ◌∙◌}
use mathlib.Core.Bool.{Bool, true, false}
use mathlib.Core.List.{List}
use Prim.Native.Nat.{ℕ, ◌+◌, ◌*◌, ◌≤◌, ◌<◌}
use native.Mathlib.Omega.{arith}
use lib.ListN.{length}
use Rattle.lists.specs.Lists.{store, picked, counted}
use Rattle.lists.specs.Inner.{one_more, placed}
use Rattle.lists.proofs.Store.{store_none, length_store, store_append}
use Rattle.lists.proofs.Flat.{picked_none, picked_yes, picked_no, picked_length, counted_none, counted_more, counted_yes, counted_mono, row_within}

pub count_next : (test : ℕ → Bool) (k j next : ℕ) → j ≡ counted test k → next ≡ one_more (test k) j → next ≡ counted test (k + 1)
count_next test k j next e more = more ∙ ap (λ (x : ℕ). one_more (test k) x) e ∙ sym (counted_more test k)

-- after k rows the buffer has the j parts of those that meet the test
pub record Filled (test : ℕ → Bool) (g : ℕ → List ℕ) (buffer₀ buffer : List ℕ) (j k : ℕ) : Type 0 where
  pub same : length buffer ≡ length buffer₀
  pub count : j ≡ counted test k
  pub filled : buffer ≡ store buffer₀ 0 (picked test g k)

pub filled_start : (test : ℕ → Bool) (g : ℕ → List ℕ) (buffer₀ : List ℕ) → Filled test g buffer₀ buffer₀ 0 0
filled_start test g buffer₀ =
    record {
      same = refl;
      count = sym (counted_none test);
      filled = sym (ap (store buffer₀ 0) (picked_none test g) ∙ store_none buffer₀ 0);
    }

-- parts of v numbers, as far as they were looked at
module _ (v : ℕ) (test : ℕ → Bool) (g : ℕ → List ℕ) (buffer₀ buffer : List ℕ) (j k : ℕ) (wide : (i : ℕ) → i < k → length (g i) ≡ v)
    (f : Filled test g buffer₀ buffer j k) where
  scaled : v * j ≡ v * counted test k
  scaled = ap (λ (n : ℕ). v * n) f.count

  pub filled_next : (next : List ℕ) (more : ℕ) → more ≡ one_more (test k) j → next ≡ placed (test k) v j (g k) buffer
      → Filled test g buffer₀ next more (k + 1)
  filled_next next more e next_is =
      record { same = ap length whole ∙ length_store buffer₀ 0 (picked test g (k + 1)); count = count_next test k j more f.count e; filled = whole }
    where
      step : (b : Bool) → test k ≡ b → placed b v j (g k) buffer ≡ store buffer₀ 0 (picked test g (k + 1))
      step true h =
          let z : v * j ≡ 0 + length (picked test g k) = omega (arith, scaled, picked_length v test g k wide) in
          (λ i. store (f.filled i) (z i) (g k))
          ∙ sym (store_append buffer₀ 0 (picked test g k) (g k))
          ∙ ap (store buffer₀ 0) (sym (picked_yes test g k h))
      step false h = f.filled ∙ ap (store buffer₀ 0) (sym (picked_no test g k h))

      whole : next ≡ store buffer₀ 0 (picked test g (k + 1))
      whole = next_is ∙ step (test k) refl

  -- the part of row k fits
  pub filled_room : (n : ℕ) → k < n → v * counted test n ≤ length buffer₀ → test k ≡ true → v * j + v ≤ length buffer
  filled_room n h fits wanted =
      omega (
        arith,
        scaled,
        f.same,
        fits,
        row_within v (counted test k) (counted test n) (omega (arith, counted_yes test k wanted, counted_mono test n (k + 1) (omega arith))),
      )
