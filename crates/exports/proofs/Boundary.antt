-- The cases of the definitions in specs/Exports, by what an exported function has tested. Assumes nothing.
use mathlib.Core.Path.{◌≡◌, ap, ◌∙◌}
use mathlib.Core.List.{List, [], ◌∷◌}
use Prim.Native.Nat.{ℕ}
use borrow.Author.Tests.{eq-eqb, ne_eqb}
use Rattle.answer.specs.Numbers.{accepted, refused}
use Rattle.routing.specs.declared.RouteNumbers.{RouteNumbers}
use Rattle.exports.specs.Exports.{routed_numbers, routed_counts}

module _ (n m : RouteNumbers) (same : n ≡ m) where
  pub refused_routed : (records : ℕ) → (n.number ≡ 0 → ⊥) → refused n.number n.place ≡ routed_numbers records m
  refused_routed records other =
      let here : refused n.number n.place ≡ routed_numbers records n = rw (ne_eqb n.number 0 other) in
      here ∙ ap (routed_numbers records) same

  pub refused_counts : (counts : List ℕ) → (n.number ≡ 0 → ⊥) → counts ≡ routed_counts m counts
  refused_counts counts other =
      let here : counts ≡ routed_counts n counts = rw (ne_eqb n.number 0 other) in
      here ∙ ap (λ (k : RouteNumbers). routed_counts k counts) same

  pub accepted_routed : (records : ℕ) → n.number ≡ 0 → accepted records ≡ routed_numbers records m
  accepted_routed records none =
      let here : accepted records ≡ routed_numbers records n = rw (eq-eqb n.number 0 none) in
      here ∙ ap (routed_numbers records) same

  pub accepted_counts :
      (counts : List ℕ) → n.number ≡ 0 → n.register ∷ n.aligned ∷ n.general ∷ [] ≡ routed_counts m counts
  accepted_counts counts none =
      let here : n.register ∷ n.aligned ∷ n.general ∷ [] ≡ routed_counts n counts = rw (eq-eqb n.number 0 none) in
      here ∙ ap (λ (k : RouteNumbers). routed_counts k counts) same
