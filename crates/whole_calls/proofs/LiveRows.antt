-- Live rows: those of the records of a chain, dead rows behind them or not. Assumes nothing.
use mathlib.Core.Path.{◌≡◌, refl, ap}
use mathlib.Core.List.{List, [], ◌∷◌, ◌++◌, map}
use mathlib.Core.Option.{Option, none, some}
use Prim.Native.Nat.{ℕ}
use Rattle.lists.specs.Lists.{at, All, kept}
use Rattle.call.specs.Calls.{Call, Op}
use Rattle.copy_row.specs.Columns.{MU}
use Rattle.copy_row.specs.Rows.{table_row}
use Rattle.copy_meaning.specs.Steps.{LiveStep}
use Rattle.copy_meaning.proofs.ReadBack.{mu_back}
use Rattle.call_chain.specs.OpChain.{next, Chain}
use Rattle.read_back.specs.ReadBack.{live_rows}

-- every record of a chain is a live step
pub steps : (gap : ℕ) (e : Option Call) (os : List Op) → Chain gap e os → All (LiveStep gap) os
steps gap none [] c = tt
steps gap (some x) [] c = absurd c
steps gap e (o ∷ os) c = (c.1, steps gap (next o) os c.2)

abbrev pub Still : List ℕ → Type 0
Still row = at row MU ≡ 0

live_none : (rows : List (List ℕ)) → All Still rows → live_rows rows ≡ []
unfolding kept
live_none [] still = refl
live_none (row ∷ rows) still = rw still.0 (live_none rows still.1)

pub live_rows_lem : (os : List Op) (others : List (List ℕ)) → All Still others → live_rows (map table_row os ++ others) ≡ map table_row os
unfolding kept
live_rows_lem [] others still = live_none others still
live_rows_lem (o ∷ os) others still = rw (mu_back 1 o) (ap (λ t. table_row o ∷ t) (live_rows_lem os others still))
