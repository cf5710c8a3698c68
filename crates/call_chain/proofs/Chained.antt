-- The operation records of sound cut calls are a chain: each piece but the last leaves a byte, so no row wraps and what it hands on is
-- what is left. With `parse`, a chain is exactly that. Assumes nothing.
use mathlib.Core.Path.{◌≡◌, refl, sym, subst}
use mathlib.Core.List.{List, [], ◌∷◌, ◌++◌, cons≢nil}
use mathlib.Core.Option.{Option, none, some}
use mathlib.Core.Logic.{◌⊎◌, inl, inr}
use Prim.Native.Nat.{ℕ, ◌+◌, ◌-◌, ◌^◌, ◌≤◌, ◌<◌}
use native.Mathlib.Omega.{arith}
use Rattle.lists.specs.Lists.{All}
use Rattle.call.specs.Calls.{Call, Piece, Op}
use Rattle.call.specs.Cuts.{CutCall, rest, is_last, cut_from, ops_of, total, Fits}
use Rattle.call.proofs.Cuts.{width_pos, Ways, whole, single, cut_none, cut_ways, cut_whole}
use Rattle.copy_row.specs.Rows.{wrapped}
use Rattle.copy_meaning.specs.Steps.{Move, empty, ends, more, LiveStep}
use Rattle.call_chain.specs.OpChain.{Opens, Chain, ChainIff}
use Rattle.call_chain.proofs.Parse.{parse}
use Rattle.call_chain.proofs.Unwrapped.{unwrapped}

-- a piece stands first, or a byte is left
abbrev Marked : ℕ → ℕ → Type 0
Marked f n = (f ≡ 1) ⊎ ((f ≡ 0) × (0 < n))

marked_bit : (f n : ℕ) → Marked f n → f ≤ 1
marked_bit f n m = elim m [ inl e ↦ omega arith | inr e ↦ omega arith ]

module _ (gap : ℕ) where
  last_step : (c : Call) (f : ℕ) (piece : Piece) → Marked f c.count → Fits gap (record { call = c; pieces = piece ∷ [] })
      → LiveStep gap (record { call = c; piece = piece; first = f; end = 1 })
  last_step c f piece m fits =
      record {
        words = fits.sound.words;
        gapped = fits.sound.gapped;
        piece = fits.pieces.0;
        bits = marked_bit f c.count m;
        move = go fits.sound.reach (cut_ways c.count piece [] fits.cut) m;
      }
    where
      go : (c.count ≡ 0) ⊎ ((c.src + c.count < 2 ^ 64) × (c.dst + c.count < 2 ^ 64)) → Ways c.count piece [] → Marked f c.count
          → Move (record { call = c; piece = piece; first = f; end = 1 })
      go (inl z) (whole e pos) m = absurd (omega arith)
      go (inr r) (whole e pos) m = ends refl (omega arith) (omega arith) (omega arith)
      go r (single z e) (inl first) = empty z first refl
      go r (single z e) (inr later) = absurd (omega arith)

  -- of a call with more than one piece: the widths sum to the count, and nothing wraps
  pub record Inner (c : Call) (piece following : Piece) (pieces : List Piece) : Type 0 where
    pub sum : piece.width + (following.width + total pieces) ≡ c.count
    pub src : c.src + c.count < 2 ^ 64
    pub dst : c.dst + c.count < 2 ^ 64
    pub left : 0 < c.count - piece.width

  inner : (c : Call) (piece following : Piece) (pieces : List Piece) → Fits gap (record { call = c; pieces = piece ∷ following ∷ pieces })
      → Inner c piece following pieces
  inner c piece following pieces fits = go (cut_ways c.count piece (following ∷ pieces) fits.cut) fits.sound.reach
    where
      go : Ways c.count piece (following ∷ pieces) → (c.count ≡ 0) ⊎ ((c.src + c.count < 2 ^ 64) × (c.dst + c.count < 2 ^ 64))
          → Inner c piece following pieces
      go (single z e) r = absurd (cons≢nil e)
      go (whole e pos) (inl z) = absurd (omega arith)
      go (whole e pos) (inr r) =
          let wide = width_pos fits.pieces.1.0.wide in
          record { sum = e; src = r.0; dst = r.1; left = omega arith }

  inner_step : (c : Call) (f : ℕ) (piece following : Piece) (pieces : List Piece) → f ≤ 1
      → Fits gap (record { call = c; pieces = piece ∷ following ∷ pieces })
      → LiveStep gap (record { call = c; piece = piece; first = f; end = 0 })
  inner_step c f piece following pieces bits fits =
      let n = inner c piece following pieces fits in
      record {
        words = fits.sound.words;
        gapped = fits.sound.gapped;
        piece = fits.pieces.0;
        bits = bits;
        move = more refl (omega arith) (omega arith) (omega arith);
      }

  rest_fits : (c : Call) (piece following : Piece) (pieces : List Piece) → Fits gap (record { call = c; pieces = piece ∷ following ∷ pieces })
      → Fits gap (record { call = rest c piece.width; pieces = following ∷ pieces })
  rest_fits c piece following pieces fits =
      let n = inner c piece following pieces fits in
      let w = fits.sound.words in
      record {
        sound =
            record {
              words = record { kind = w.kind; stamp = w.stamp; src = omega arith; dst = omega arith; count = omega arith };
              reach = inr (omega arith, omega arith);
              gapped = λ set. let g = fits.sound.gapped set in omega arith;
            };
        cut = cut_whole (c.count - piece.width) (following ∷ pieces) n.left (omega arith);
        pieces = fits.pieces.1;
      }

  chained : (e : Option Call) (c : Call) (f : ℕ) (piece : Piece) (pieces : List Piece) (t : List Op)
      → Opens e (record { call = c; piece = piece; first = f; end = is_last pieces }) → Marked f c.count
      → Fits gap (record { call = c; pieces = piece ∷ pieces }) → Chain gap none t → Chain gap e (cut_from c f (piece ∷ pieces) ++ t)
  chained e c f piece [] t opens m fits after = (opens, last_step c f piece m fits, after)
  chained e c f piece (following ∷ pieces) t opens m fits after =
      let o : Op = record { call = c; piece = piece; first = f; end = 0 } in
      let n = inner c piece following pieces fits in
      let step = inner_step c f piece following pieces (marked_bit f c.count m) fits in
      let plain = unwrapped o fits.sound.words.count (omega arith) (omega arith) (omega arith) in
      let later = rest_fits c piece following pieces fits in
      (opens, step, chained (some (wrapped o)) (rest c piece.width) 0 following pieces t (refl, sym plain) (inr (refl, n.left)) later after)

  pub chain : (ks : List CutCall) → All (Fits gap) ks → Chain gap none (ops_of ks)
  chain [] fits = tt
  chain (k ∷ ks) fits = go k.pieces fits.0 (chain ks fits.1)
    where
      go : (pieces : List Piece) → Fits gap (record { call = k.call; pieces = pieces }) → Chain gap none (ops_of ks)
          → Chain gap none (cut_from k.call 1 pieces ++ ops_of ks)
      go [] fits after = absurd (cut_none k.call.count fits.cut)
      go (piece ∷ pieces) fits after = chained none k.call 1 piece pieces (ops_of ks) refl (inl refl) fits after

pub chain_iff : ChainIff
chain_iff gap os = (parse gap none os, λ w. subst (λ (t : List Op). Chain gap none t) (sym w.2) (chain gap w.0 w.1))
