-- The text that `callcheck` prints. Document 01: "for each live row: word, row, stamp, src, dst, remaining count, width, first, end,
-- kind; then verdict and row count", and for a refusal "`refused`, tab, number, tab, line number". Tab is byte 9, newline byte 10.
-- Assumes nothing.
use Rattle.std.specs.Prelude.{ℕ, zero, suc, ◌+◌, ◌/◌, ◌%◌, cond, List, [], ◌∷◌, ◌++◌, take, drop, ltb, eqb}
use Rattle.call.specs.Calls.{Op}
use Rattle.call.specs.Ops.{op_of, OP_WIDTH}

-- the decimal digits of n, at most f of them
unfoldable pub digits_by : ℕ → ℕ → List ℕ
digits_by zero n = []
digits_by (suc f) n = cond (ltb n 10) ((48 + n) ∷ []) (digits_by f (n / 10) ++ ((48 + n % 10) ∷ []))

-- a number below 2^64 in base ten, no leading zeros; it has at most 20 digits
unfoldable pub decimal_text : ℕ → List ℕ
decimal_text n = digits_by 20 n

-- a tab before each number
unfoldable pub fields_text : List ℕ → List ℕ
fields_text [] = []
fields_text (n ∷ ns) = 9 ∷ (decimal_text n ++ fields_text ns)

-- tab, the word of a kind's number (0 `copy`, 1 `set`, 2 `write`), newline
unfoldable pub kind_text : ℕ → List ℕ
kind_text n =
    cond (eqb n 0) (9 ∷ 99 ∷ 111 ∷ 112 ∷ 121 ∷ 10 ∷ [])
    (cond (eqb n 1) (9 ∷ 115 ∷ 101 ∷ 116 ∷ 10 ∷ [])
    (9 ∷ 119 ∷ 114 ∷ 105 ∷ 116 ∷ 101 ∷ 10 ∷ []))

-- the numbers of an operation record that its line shows
abbrev pub row_fields : Op → List ℕ
row_fields o =
    o.call.stamp ∷ o.call.src ∷ o.call.dst ∷ o.call.count ∷ o.piece.width ∷ o.first ∷ o.end ∷ []

-- `row`, the row's number k, the numbers of its operation record, its kind
unfoldable pub row_text : ℕ → List ℕ → List ℕ
row_text k op =
    (114 ∷ 111 ∷ 119 ∷ [])
    ++ (fields_text (k ∷ [])
    ++ (fields_text (row_fields (op_of op))
    ++ kind_text (op_of op).call.kind))

-- the lines of n rows, numbered from k on; their operation records stand one after the other
unfoldable pub rows_text : ℕ → ℕ → List ℕ → List ℕ
rows_text k zero ops = []
rows_text k (suc n) ops = row_text k (take OP_WIDTH ops) ++ rows_text (k + 1) n (drop OP_WIDTH ops)

-- `passed`, tab, the row count, newline
unfoldable pub passed_text : ℕ → List ℕ
passed_text n = (112 ∷ 97 ∷ 115 ∷ 115 ∷ 101 ∷ 100 ∷ []) ++ (fields_text (n ∷ []) ++ (10 ∷ []))

-- `refused`, tab, the refusal's number, tab, the line number, newline
unfoldable pub refused_text : ℕ → ℕ → List ℕ
refused_text n line = (114 ∷ 101 ∷ 102 ∷ 117 ∷ 115 ∷ 101 ∷ 100 ∷ []) ++ (fields_text (n ∷ line ∷ []) ++ (10 ∷ []))
