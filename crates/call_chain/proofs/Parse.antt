-- A chain of operation records is whole calls. Read from the end: a record with END closes a call, one without END goes in front of the
-- rest of its call, which has a byte left since only an empty call's one record moves none. Assumes nothing.
use mathlib.Core.Path.{◌≡◌, refl, subst, subst₂}
use mathlib.Core.List.{List, [], ◌∷◌, ◌++◌}
use mathlib.Core.Option.{Option, none, some}
use mathlib.Core.Logic.{◌⊎◌, inl, inr}
use Prim.Native.Nat.{ℕ, ◌+◌, ◌-◌, ◌^◌, ◌≤◌, ◌<◌}
use native.Mathlib.Omega.{arith}
use Rattle.lists.specs.Lists.{All}
use Rattle.call.specs.Calls.{Call, Piece, Op}
use Rattle.call.specs.Cuts.{CutCall, rest, cut_from, ops_of, Cut, Fits}
use Rattle.call.proofs.Cuts.{width_pos, whole, single, cut_none, cut_ways, cut_whole, cut_single}
use Rattle.copy_row.specs.Rows.{wrapped}
use Rattle.copy_meaning.specs.Steps.{Move, empty, ends, more, LiveStep}
use Rattle.call_chain.specs.OpChain.{next, Opens, Chain}
use Rattle.call_chain.proofs.Unwrapped.{unwrapped}

-- the records are those of the call c, whose first one has FIRST f, and of whole calls after it
pub record Parsed (gap : ℕ) (c : Call) (f : ℕ) (os : List Op) : Type 0 where
  pub pieces : List Piece
  pub others : List CutCall
  pub fits : Fits gap (record { call = c; pieces = pieces })
  pub others_fit : All (Fits gap) others
  pub same : os ≡ cut_from c f pieces ++ ops_of others

-- what the records after e are: whole calls, or what is left of a call, not nothing, and whole calls
abbrev pub Result : ℕ → Option Call → List Op → Type 0
Result gap none os = (ks : List CutCall) × All (Fits gap) ks × (os ≡ ops_of ks)
Result gap (some c) os = Parsed gap c 0 os × (0 < c.count)

module _ (gap : ℕ) where
  -- a record with END, and the whole calls after it
  last : (o : Op) (os : List Op) → LiveStep gap o → o.end ≡ 1
      → (o.call.count ≡ 0) ⊎ ((o.call.src + o.call.count < 2 ^ 64) × (o.call.dst + o.call.count < 2 ^ 64))
      → Cut o.call.count (o.piece ∷ []) → Result gap none os → Parsed gap o.call o.first (o ∷ os)
  last o os step end reach cut (ks, fit, same) =
      record {
        pieces = o.piece ∷ [];
        others = ks;
        fits =
            record {
              sound = record { words = step.words; reach = reach; gapped = step.gapped };
              cut = cut;
              pieces = (step.piece, tt);
            };
        others_fit = fit;
        same = λ i. record { call = o.call; piece = o.piece; first = o.first; end = end i } ∷ same i;
      }

  -- a record without END, and what is left of its call after it
  longer : (o : Op) (os : List Op) → LiveStep gap o → o.end ≡ 0 → o.piece.width ≤ o.call.count
      → Parsed gap (rest o.call o.piece.width) 0 os → 0 < o.call.count - o.piece.width
      → Parsed gap o.call o.first (o ∷ os)
  longer o os step end enough r left = go r.pieces r.fits r.same
    where
      go : (pieces : List Piece) → Fits gap (record { call = rest o.call o.piece.width; pieces = pieces })
          → os ≡ cut_from (rest o.call o.piece.width) 0 pieces ++ ops_of r.others → Parsed gap o.call o.first (o ∷ os)
      go [] fits same = absurd (cut_none (o.call.count - o.piece.width) fits.cut)
      go (piece ∷ pieces) fits same =
          record {
            pieces = o.piece ∷ piece ∷ pieces;
            others = r.others;
            fits =
                record {
                  sound =
                      record {
                        words = step.words;
                        reach = elim fits.sound.reach [ inl z ↦ absurd (omega arith) | inr z ↦ inr (omega arith, omega arith) ];
                        gapped = step.gapped;
                      };
                  cut =
                      elim
                      (cut_ways (o.call.count - o.piece.width) piece pieces fits.cut) [
                        | whole e z ↦ cut_whole o.call.count (o.piece ∷ piece ∷ pieces) (omega arith) (omega arith)
                        | single e z ↦ absurd (omega arith)
                      ];
                  pieces = (step.piece, fits.pieces);
                };
            others_fit = r.others_fit;
            same = λ i. record { call = o.call; piece = o.piece; first = o.first; end = end i } ∷ same i;
          }

  headed : (o : Op) (os : List Op) → LiveStep gap o → Result gap (next o) os → Parsed gap o.call o.first (o ∷ os)
  headed o os step r = go step.move
    where
      go : Move o → Parsed gap o.call o.first (o ∷ os)
      go (empty zero-count first end) =
          last o os step end (inl zero-count) (cut_single o.call.count (o.piece ∷ []) zero-count refl) (rw end at r)
      go (ends end all src dst) =
          let pos = width_pos step.piece.wide in
          last o os step end (inr (omega arith, omega arith)) (cut_whole o.call.count (o.piece ∷ []) (omega arith) (omega arith)) (rw end at r)
      go (more end enough src dst) =
          let after : Result gap (some (wrapped o)) os = rw end at r in
          let plain = subst (λ (c : Call). Result gap (some c) os) (unwrapped o step.words.count enough src dst) after in
          longer o os step end enough plain.0 plain.1

  -- a record without FIRST moves a byte
  moves : (o : Op) → LiveStep gap o → o.first ≡ 0 → 0 < o.call.count
  moves o step z =
      let pos = width_pos step.piece.wide in
      elim
      step.move [
        | empty zero-count first end ↦ absurd (omega arith)
        | ends end all src dst ↦ omega arith
        | more end enough src dst ↦ omega arith
      ]

  placed : (e : Option Call) (o : Op) (os : List Op) → Opens e o → LiveStep gap o → Parsed gap o.call o.first (o ∷ os)
      → Result gap e (o ∷ os)
  placed none o os first step r =
      let q = subst (λ (f : ℕ). Parsed gap o.call f (o ∷ os)) first r in
      (record { call = o.call; pieces = q.pieces } ∷ q.others, (q.fits, q.others_fit), q.same)
  placed (some c) o os (first, same) step r =
      (subst₂ (λ (d : Call) (f : ℕ). Parsed gap d f (o ∷ os)) same first r, rw same at (moves o step first))

  pub parse : (e : Option Call) (os : List Op) → Chain gap e os → Result gap e os
  parse none [] chain = ([], tt, refl)
  parse (some c) [] chain = absurd chain
  parse e (o ∷ os) chain = placed e o os chain.0 chain.1 (headed o os chain.1 (parse (next o) os chain.2))
