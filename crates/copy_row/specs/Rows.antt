-- The copy row of an operation record. Document 01: "INCR, DECR and RES are sums taken modulo 2^64, as the Rust's wrapping calls",
-- "Padding: 8 in COUNT_0, SRC_INCR_0, DST_INCR_0, else 0". Assumes nothing.
use Rattle.std.specs.Prelude.{ℕ, Bool, cond, not, ◌&&◌, List, [], ◌∷◌, ◌++◌, eqb, replicate}
use Rattle.lists.specs.Lists.{eight_at}
use Rattle.words.specs.Words.{words, halves, wrap_add, wrap_sub, bit}
use Rattle.call.specs.Calls.{Call, Op}

-- what the row after this one goes on with: SRC_INCR, DST_INCR and COUNT_DECR
abbrev pub wrapped : Op → Call
wrapped o =
    record {
      kind = o.call.kind;
      stamp = o.call.stamp;
      src = wrap_add o.call.src o.piece.width;
      dst = wrap_add o.call.dst o.piece.width;
      count = wrap_sub o.call.count o.piece.width;
    }

-- DST_RES: dst + count for a Write, else dst
abbrev pub dst_res : Call → ℕ
dst_res c = cond (eqb c.kind 2) (wrap_add c.dst c.count) c.dst

-- MU_COM: a Write that moves bytes
abbrev pub mu_com : Call → Bool
mu_com c = eqb c.kind 2 && not (eqb c.count 0)

-- the 41 columns of operation record o with MU mu
unfoldable pub row_of : ℕ → Op → List ℕ
row_of mu o =
    words o.call.stamp
    ++ eight_at o.piece.value 0
    ++ words o.call.src
    ++ halves (wrapped o).src
    ++ words o.call.dst
    ++ halves (wrapped o).dst
    ++ words o.call.count
    ++ halves (wrapped o).count
    ++ halves (dst_res o.call)
    ++ (o.first
    ∷ o.end
    ∷ bit (eqb o.piece.width 1)
    ∷ bit (eqb o.call.kind 1)
    ∷ bit (eqb o.call.kind 2)
    ∷ cond (eqb o.call.kind 2) o.first 0
    ∷ mu
    ∷ bit (mu_com o.call)
    ∷ bit (mu_com o.call && eqb o.piece.width 8)
    ∷ [])

-- the table's row of an operation record: MU is 1
abbrev pub table_row : Op → List ℕ
table_row o = row_of 1 o

-- a padding row
unfoldable pub padding_row : List ℕ
padding_row = replicate 12 0 ++ (8 ∷ replicate 5 0) ++ (8 ∷ replicate 3 0) ++ (8 ∷ replicate 18 0)
