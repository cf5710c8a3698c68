-- Cut calls are read back from their operation records, sound or not: `group` is a left inverse of `ops_of`, and the records with FIRST
-- have the calls as they were handed in. Assumes nothing.
use mathlib.Core.Path.{◌≡◌, refl, ap}
use mathlib.Core.List.{List, [], ◌∷◌, ◌++◌}
use Prim.Native.Nat.{ℕ, ◌<◌}
use native.Mathlib.Omega.{arith}
use lib.ListN.{length}
use Rattle.call.specs.Calls.{Call, Piece, Op}
use Rattle.call.specs.Cuts.{rest, cut_from, ops_of, calls_of}
use Rattle.call_chain.specs.OpChain.{with_next, group, GroupIs, firsts, FirstsAre}

group_from : (c : Call) (f : ℕ) (piece : Piece) (pieces : List Piece) (t : List Op)
    → group (cut_from c f (piece ∷ pieces) ++ t) ≡ record { call = c; pieces = piece ∷ pieces } ∷ group t
group_from c f piece [] t = refl
group_from c f piece (following ∷ pieces) t =
    ap
    (with_next 0 (record { call = c; piece = piece; first = f; end = 0 }))
    (group_from (rest c piece.width) 0 following pieces t)

pub group_is : GroupIs
group_is [] rows = refl
group_is (k ∷ ks) rows = go k.pieces rows.0 (group_is ks rows.1)
  where
    go : (pieces : List Piece) → 0 < length pieces → group (ops_of ks) ≡ ks
        → group (cut_from k.call 1 pieces ++ ops_of ks) ≡ record { call = k.call; pieces = pieces } ∷ ks
    go [] row e = absurd (omega arith)
    go (piece ∷ pieces) row e = rw (group_from k.call 1 piece pieces (ops_of ks), e)

-- the records after a call's first have no FIRST
firsts_after : (c : Call) (pieces : List Piece) (t : List Op) → firsts (cut_from c 0 pieces ++ t) ≡ firsts t
firsts_after c [] t = refl
firsts_after c (piece ∷ pieces) t = firsts_after (rest c piece.width) pieces t

pub firsts_are : FirstsAre
firsts_are [] rows = refl
firsts_are (k ∷ ks) rows = go k.pieces rows.0 (firsts_are ks rows.1)
  where
    go : (pieces : List Piece) → 0 < length pieces → firsts (ops_of ks) ≡ calls_of ks
        → firsts (cut_from k.call 1 pieces ++ ops_of ks) ≡ k.call ∷ calls_of ks
    go [] row e = absurd (omega arith)
    go (piece ∷ pieces) row e = rw (firsts_after (rest k.call piece.width) pieces (ops_of ks), e)
