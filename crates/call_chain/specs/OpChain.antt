-- The chain of operation records: what each must be after the one before it. A chain is exactly the operation records of sound cut
-- calls, and these are read back from it: `chain_is_whole_calls_holds` in theorems. No row and no residue stands here. Assumes nothing.
use Rattle.std.specs.Prelude.{◌≡◌, ◌↔◌, List, [], ◌∷◌, ℕ, zero, suc}
use Rattle.std.proofs.Math.Option.{Option, none, some}
use Rattle.lists.specs.Lists.{All}
use Rattle.call.specs.Calls.{Call, Op}
use Rattle.call.specs.Cuts.{HasRow, calls_of, CutCall, ops_of, Fits}
use Rattle.copy_row.specs.Rows.{wrapped}
use Rattle.copy_meaning.specs.Steps.{LiveStep}

-- what the record after one with this END must go on with: nothing after END
abbrev pub unless_end : ℕ → Call → Option Call
unless_end zero c = some c
unless_end (suc n) c = none

abbrev pub next : Op → Option Call
next o = unless_end o.end (wrapped o)

-- o stands where e is gone on with: FIRST where e is nothing, otherwise FIRST 0 and the call as it was left
abbrev pub Opens : Option Call → Op → Type 0
Opens none o = o.first ≡ 1
Opens (some c) o = (o.first ≡ 0) × (o.call ≡ c)

-- live steps, each linked to the one before it, the last with END
abbrev pub Chain : ℕ → Option Call → List Op → Type 0
Chain gap none [] = Unit {0}
Chain gap (some c) [] = ⊥
Chain gap e (o ∷ os) = Opens e o × LiveStep gap o × Chain gap (next o) os

-- a chain is whole calls, and whole calls are a chain
abbrev pub ChainIff : Type 0
ChainIff = (gap : ℕ) (os : List Op) → Chain gap none os ↔ ((ks : List CutCall) × All (Fits gap) ks × (os ≡ ops_of ks))

-- the cut calls of a list of operation records: a record goes with those after it up to END
abbrev pub with_next : ℕ → Op → List CutCall → List CutCall
with_next (suc n) o ks = record { call = o.call; pieces = o.piece ∷ [] } ∷ ks
with_next zero o [] = record { call = o.call; pieces = o.piece ∷ [] } ∷ []
with_next zero o (k ∷ ks) = record { call = o.call; pieces = o.piece ∷ k.pieces } ∷ ks

abbrev pub group : List Op → List CutCall
group [] = []
group (o ∷ os) = with_next o.end o (group os)

-- whatever cut calls a list of operation records is made of, sound or not, `group` gives them
abbrev pub GroupIs : Type 0
GroupIs = (ks : List CutCall) → All HasRow ks → group (ops_of ks) ≡ ks

-- the calls alone: those of the records with FIRST
abbrev pub if_first : ℕ → Call → List Call → List Call
if_first zero c cs = cs
if_first (suc n) c cs = c ∷ cs

abbrev pub firsts : List Op → List Call
firsts [] = []
firsts (o ∷ os) = if_first o.first o.call (firsts os)

abbrev pub FirstsAre : Type 0
FirstsAre = (ks : List CutCall) → All HasRow ks → firsts (ops_of ks) ≡ calls_of ks
