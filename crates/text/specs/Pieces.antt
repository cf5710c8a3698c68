-- The pieces of a text: what stands before and after the first separator. A text without the separator
-- is its own first piece and leaves nothing after it, so a line with too few fields has empty ones and needs no case of its own.
-- Document 01: "call lines, tab-parted". Assumes nothing.
use Rattle.std.specs.Prelude.{ℕ, suc, ◌+◌, cond, List, [], ◌∷◌, take, drop, eqb}

-- the index of the first byte b of a text, its length where there is none
unfoldable pub index_of : ℕ → List ℕ → ℕ
index_of b [] = 0
index_of b (x ∷ xs) = cond (eqb x b) 0 (suc (index_of b xs))

-- what stands before the first b
unfoldable pub before : ℕ → List ℕ → List ℕ
before b l = take (index_of b l) l

-- what stands after the first b, nothing where there is none
unfoldable pub after : ℕ → List ℕ → List ℕ
after b l = drop (index_of b l + 1) l
