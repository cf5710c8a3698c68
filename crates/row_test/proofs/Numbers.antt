-- Each test on numbers holds exactly where its fact does. Assumes nothing.
use mathlib.Core.Path.{◌≡◌, refl, sym, ap, ◌∙◌}
use mathlib.Core.Bool.{true, ◌&&◌, ◌||◌, or_assoc}
use mathlib.Core.Logic.{◌↔◌}
use Prim.Native.Nat.{ℕ, zero, suc, ◌+◌, ◌-◌, ◌*◌, ◌^◌, ◌≤◌, ◌<◌}
use native.Mathlib.Omega.{arith}
use lib.Dec.{eqb, ltb, leb}
use borrow.Author.Tests.{eqb-true, eqb-false, leb-true, ltb-true, eq-eqb, le-leb, lt-ltb}
use Rattle.words.specs.Words.{wrap_add, wrap_sub}
use Rattle.words.proofs.Wrap.{sub_plain}
use Rattle.copy_meaning.specs.Plain.{Free, Last, PlainFlags, PlainMoves, PlainCounts}
use Rattle.copy_meaning.proofs.Decrement.{decr_back, decr_of}
use Rattle.row_test.proofs.Booleans.{eq_iff, le_iff, and_iff, ◌and◌, or_iff}

pub product_below : (x bit : ℕ) → bit < 2 → x < 2 ^ 64 → x * bit < 2 ^ 64
product_below x zero h l = omega arith
product_below x (suc zero) h l = omega arith
product_below x (suc (suc bit)) h l = absurd (omega arith)

-- the flags; n is 1 where nothing is left, and the products are worked out
pub flags_iff : (first end single set write first_write mu mu_com wide_mu_com count n opening gate wide : ℕ)
    → n ≡ 1 - count → opening ≡ first * write → gate ≡ (1 - n) * write → wide ≡ mu_com * (1 - single)
    → (((((((leb first mu && leb end mu) && leb (set + write) mu) && eqb first_write opening) && leb n first) && leb n end) && eqb mu_com gate)
    && eqb wide_mu_com wide ≡ true)
    ↔ PlainFlags first end single set write first_write mu mu_com wide_mu_com count
flags_iff first end single set write first_write mu mu_com wide_mu_com count n opening gate wide e f g h =
    let test =
    le_iff first first mu refl
    and le_iff end end mu refl
    and le_iff (set + write) (set + write) mu refl
    and eq_iff first_write opening (first * write) f
    and le_iff n (1 - count) first e
    and le_iff n (1 - count) end e
    and eq_iff mu_com gate ((1 - (1 - count)) * write) (g ∙ ap (λ x. (1 - x) * write) e)
    and eq_iff wide_mu_com wide (mu_com * (1 - single)) h in (
      λ t.
          let r = test.0 t in
          record {
            first_live = r.0.0.0.0.0.0.0;
            end_live = r.0.0.0.0.0.0.1;
            kinds = r.0.0.0.0.0.1;
            first_write_lem = r.0.0.0.0.1;
            empty_first = r.0.0.0.1;
            empty_end = r.0.0.1;
            mu_com_lem = r.0.1;
            mu_com_wide = r.1;
          },
      λ q.
          test.1
          (((((((q.first_live, q.end_live), q.kinds), q.first_write_lem), q.empty_first), q.empty_end), q.mu_com_lem), q.mu_com_wide),
    )

-- an address and its increment d: it does not wrap, or nothing moves
pub moves_iff : (w mu count x next d : ℕ) → 0 < w → w < 9 → mu < 2 → x < 2 ^ 64 → d ≡ wrap_add x w
    → (eqb next d && ((eqb mu 0 || eqb count 0) || ltb x next) ≡ true) ↔ PlainMoves w mu count x next
moves_iff w mu count x next d hw hl hm hx e =
    (λ h. let t = test.0 h in record { sum = t.0; free = t.1 }, λ q. test.1 (q.sum, q.free))
  where
    test : (eqb next d && ((eqb mu 0 || eqb count 0) || ltb x next) ≡ true) ↔ ((next ≡ wrap_add x w) × Free w mu count x)
    test =
        rw (or_assoc (eqb mu 0) (eqb count 0) (ltb x next))
        (and_iff _ _ (eq_iff next d (wrap_add x w) e)
        (λ sum.
        or_iff (eqb mu 0) _ (λ z. omega (arith, eqb-true mu 0 z))
        (λ z.
        or_iff (eqb count 0) _ (λ y. omega (arith, eqb-true count 0 y))
        (λ y. (
          λ l. omega (arith, ltb-true x next l),
          λ f. lt-ltb x next (omega (arith, eqb-false mu 0 z, eqb-false count 0 y)),
        )))))

-- the count is 0 or enough for the width
enough_iff : (w count : ℕ) → w ≤ 8 → (eqb count 0 || leb w count ≡ true) ↔ (w ≤ count + 2 ^ 64 * (1 - count))
enough_iff w count h =
    or_iff (eqb count 0) _ (λ z. omega (arith, eqb-true count 0 z))
    (λ z. (λ l. omega (arith, leb-true w count l), λ q. le-leb w count (omega (arith, eqb-false count 0 z))))

-- the count and its decrement d
module _ (w end count next d : ℕ) (hc : count < 2 ^ 64) (hw : (0 < w) × (w ≤ 8)) (he : end < 2) (less : d ≡ wrap_sub count w) where
  sum_iff : (eqb next d && (eqb count 0 || leb w count) ≡ true) ↔ (next + w ≡ count + 2 ^ 64 * (1 - count))
  sum_iff =
      let test = eq_iff next d (wrap_sub count w) less and enough_iff w count hw.1 in (
        λ h. let t = test.0 h in ap (λ x. x + w) t.0 ∙ decr_back count w hc hw t.1,
        λ q. test.1 (decr_of count next w hc hw q, omega (arith, q)),
      )

  pub counts_iff : ((eqb next d && (eqb count 0 || leb w count)) && (eqb end 0 || leb count w) ≡ true) ↔ PlainCounts w end count next
  counts_iff = (λ h. let t = test.0 h in record { sum = t.0; last = t.1 }, λ q. test.1 (q.sum, q.last))
    where
      last : (eqb end 0 || leb count w ≡ true) ↔ Last w end count
      last =
          or_iff (eqb end 0) _ (λ z. omega (arith, eqb-true end 0 z))
          (λ z. (λ l. omega (arith, leb-true count w l), λ q. le-leb count w (omega (arith, eqb-false end 0 z))))

      test : ((eqb next d && (eqb count 0 || leb w count)) && (eqb end 0 || leb count w) ≡ true)
          ↔ ((next + w ≡ count + 2 ^ 64 * (1 - count)) × Last w end count)
      test = sum_iff and last

-- the gap of a Set; d is what dst is above src
pub gapped_iff : (gap set src dst d : ℕ) → set < 2 → dst < 2 ^ 64 → d ≡ wrap_sub dst src
    → (eqb set 0 || (leb src dst && eqb d gap) ≡ true) ↔ (set ≡ 1 → dst ≡ src + gap)
gapped_iff gap set src dst d hs hd e =
    or_iff (eqb set 0) _ (λ z one. absurd (omega (arith, eqb-true set 0 z)))
    (λ z. (
      λ h one. let r = test.0 h in omega (arith, r.1),
      λ q. let f = q (omega (arith, eqb-false set 0 z)) in test.1 (omega arith, omega arith),
    ))
  where
    test : (leb src dst && eqb d gap ≡ true) ↔ ((src ≤ dst) × (dst - src ≡ gap))
    test =
        and_iff _ _ (le_iff src src dst refl)
        (λ l.
        let f = e ∙ sub_plain dst src hd l in
        (λ h. sym f ∙ eqb-true d gap h, λ h. eq-eqb d gap (f ∙ h)))
