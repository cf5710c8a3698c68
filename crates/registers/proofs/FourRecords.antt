-- Four records stored one behind the other fill the list. Assumes nothing.
use mathlib.Core.Path.{◌≡◌, ◌∙◌}
use mathlib.Core.List.{List, ◌++◌}
use Prim.Native.Nat.{ℕ, ◌*◌}
use native.Mathlib.Omega.{arith}
use lib.ListN.{length, length-append}
use Rattle.lists.specs.Lists.{store}
use Rattle.lists.proofs.Store.{store_behind, store_all}
use Rattle.access.specs.Access.{ACCESS_WIDTH}

pub four_stored : (l x y z u : List ℕ) → length l ≡ 4 * ACCESS_WIDTH → length x ≡ ACCESS_WIDTH → length y ≡ ACCESS_WIDTH
    → length z ≡ ACCESS_WIDTH → length u ≡ ACCESS_WIDTH
    → store (store (store (store l 0 x) ACCESS_WIDTH y) (2 * ACCESS_WIDTH) z) (3 * ACCESS_WIDTH) u ≡ x ++ (y ++ (z ++ u))
four_stored l x y z u hl hx hy hz hu =
    store_behind _ (2 * ACCESS_WIDTH) (3 * ACCESS_WIDTH) z u (omega arith)
    ∙ store_behind _ ACCESS_WIDTH (2 * ACCESS_WIDTH) y (z ++ u) (omega arith)
    ∙ store_behind l 0 ACCESS_WIDTH x (y ++ (z ++ u)) (omega arith)
    ∙ store_all l (x ++ (y ++ (z ++ u))) (simp length-append (omega arith))
