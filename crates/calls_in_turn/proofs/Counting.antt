-- The loop of `count`, over plain lists and numbers: what holds at its head, that one record keeps it, and what it ends with. Assumes
-- nothing.
use mathlib.Core.Path.{◌≡◌, sym, ap, ◌∙◌}
use mathlib.Core.List.{List, ◌∷◌}
use Prim.Native.Nat.{ℕ, ◌+◌, ◌-◌, ◌*◌, ◌≤◌, ◌<◌}
use native.Mathlib.Nat.{sub-zero}
use native.Mathlib.Omega.{arith}
use lib.Dec.{ltb}
use Rattle.words.specs.Words.{bit}
use Rattle.words.proofs.Bits.{bit_small}
use Rattle.lists.specs.Lists.{listed}
use Rattle.lists.proofs.Listed.{listed_left, listed_over}
use Rattle.records.specs.Records.{record_count, record_at, records_in}
use Rattle.call.specs.Ops.{OP_WIDTH}
use Rattle.call.specs.Flat.{HANDED_WIDTH}
use Rattle.expansion.specs.Tries.{Setting, Lengths}
use Rattle.calls_in_turn.specs.InTurn.{calls_from, calls_in}
use Rattle.calls_in_turn.specs.Counts.{behind, all_records, all_calls}
use Rattle.calls_in_turn.specs.Inner.{added_by}
use Rattle.calls_in_turn.proofs.Records.{behind_none, behind_more, records_step, calls_step}

-- the records from number k on, of n
abbrev pub left : List ℕ → ℕ → ℕ → List (List ℕ)
left calls n k = listed (record_at HANDED_WIDTH calls) k (n - k)

pub left_all : (calls : List ℕ) → left calls (record_count HANDED_WIDTH calls) 0 ≡ records_in HANDED_WIDTH calls
unfolding records_in
left_all calls = ap (listed (record_at HANDED_WIDTH calls) 0) (sub-zero (record_count HANDED_WIDTH calls))

pub record CountAt (s : Setting) (n₀ : Lengths) (calls : List ℕ) (n ops accepted k : ℕ) : Type 0 where
  pub whole : n ≡ record_count HANDED_WIDTH calls
  pub upto : k ≤ n
  pub fits : OP_WIDTH * ops ≤ n₀.ops
  pub few : accepted ≤ k
  pub ops_go : ops + all_records s (calls_from (left calls n k)) (behind n₀ ops) ≡ all_records s (calls_in calls) n₀
  pub calls_go : accepted + all_calls s (calls_from (left calls n k)) (behind n₀ ops) ≡ all_calls s (calls_in calls) n₀

module _ (s : Setting) (n₀ : Lengths) (calls : List ℕ) where
  pub count_start : (n : ℕ) → n ≡ record_count HANDED_WIDTH calls → CountAt s n₀ calls n 0 0 0
  count_start n whole =
      let all : left calls n 0 ≡ records_in HANDED_WIDTH calls = ap (λ m. left calls m 0) whole ∙ left_all calls in
      record {
        whole = whole;
        upto = omega arith;
        fits = omega arith;
        few = omega arith;
        ops_go = rw (all, behind_none n₀) (omega arith);
        calls_go = rw (all, behind_none n₀) (omega arith);
      }

  module _ (n ops accepted k : ℕ) (at : CountAt s n₀ calls n ops accepted k) where
    pub count_turn : k < n → (r : List ℕ) → r ≡ record_at HANDED_WIDTH calls k → (added accepted' : ℕ) → added ≡ added_by s r (behind n₀ ops)
        → OP_WIDTH * added ≤ n₀.ops - OP_WIDTH * ops → accepted' ≡ accepted + bit (ltb 0 added)
        → CountAt s n₀ calls n (ops + added) accepted' (k + 1)
    count_turn h r e added accepted' is room one =
        let rs = left calls n (k + 1) in
        let front : left calls n k ≡ r ∷ rs = listed_left (record_at HANDED_WIDTH calls) n k h ∙ ap (λ x. x ∷ rs) (sym e) in
        let place : behind (behind n₀ ops) (added_by s r (behind n₀ ops)) ≡ behind n₀ (ops + added) =
        ap (behind (behind n₀ ops)) (sym is) ∙ behind_more n₀ ops added in
        let ops_step : all_records s (calls_from (left calls n k)) (behind n₀ ops) ≡ added + all_records s (calls_from rs) (behind n₀ (ops + added)) =
        ap (λ x. all_records s (calls_from x) (behind n₀ ops)) front
        ∙ records_step s r rs (behind n₀ ops)
        ∙ (λ i. sym is i + all_records s (calls_from rs) (place i)) in
        let calls_step : all_calls s (calls_from (left calls n k)) (behind n₀ ops) ≡ bit (ltb 0 added) + all_calls s (calls_from rs) (behind n₀ (ops + added)) =
        ap (λ x. all_calls s (calls_from x) (behind n₀ ops)) front
        ∙ calls_step s r rs (behind n₀ ops)
        ∙ (λ i. bit (ltb 0 (sym is i)) + all_calls s (calls_from rs) (place i)) in
        record {
          whole = at.whole;
          upto = omega arith;
          fits = omega (arith, at.fits);
          few = omega (arith, at.few, bit_small (ltb 0 added));
          ops_go = omega (arith, at.ops_go);
          calls_go = omega (arith, at.calls_go);
        }

    pub count_end : n ≤ k → (ops ≡ all_records s (calls_in calls) n₀) × (accepted ≡ all_calls s (calls_in calls) n₀)
    unfolding all_records all_calls calls_from
    count_end h =
        let none = listed_over (record_at HANDED_WIDTH calls) n k h in
        let ops_none : all_records s (calls_from (left calls n k)) (behind n₀ ops) ≡ 0 = ap (λ x. all_records s (calls_from x) (behind n₀ ops)) none in
        let calls_none : all_calls s (calls_from (left calls n k)) (behind n₀ ops) ≡ 0 = ap (λ x. all_calls s (calls_from x) (behind n₀ ops)) none in
        (omega (arith, at.ops_go), omega (arith, at.calls_go))
