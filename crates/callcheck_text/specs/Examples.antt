-- Inputs with their outputs, computed over the definition. `output_laws_hold` carries them. Assumes nothing.
use Rattle.std.specs.Prelude.{◌≡◌, List, ◌++◌, ℕ, length, replicate}
use mathlib.Core.List as list
use Prim.Native.Char.{code}
use Prim.Native.String.{String, [], ◌∷◌}
use Rattle.call.specs.Calls.{Op}
use Rattle.call.specs.Ops.{op_record}
use Rattle.expansion.specs.Tries.{under}
use Rattle.chain.specs.Chain.{table_rows}
use Rattle.read_back.specs.ReadBack.{live_rows}
use Rattle.text.specs.Lines.{lines}
use Rattle.callcheck_text.specs.Run.{done, lines_from}
use Rattle.callcheck_text.specs.Output.{checked_rows, start, output_of, row_lines}

-- the bytes of a text in ASCII
abbrev pub ascii : String → List ℕ
ascii [] = list.[]
ascii (c ∷ cs) = list.◌∷◌ (code c) (ascii cs)

-- the operation records of document 01's input: a Copy with stamp 4, of zero bytes
abbrev pub copy_op : (src dst count width first end : ℕ) → Op
copy_op src dst count width first end =
    record {
      call = record { kind = 0; stamp = 4; src = src; dst = dst; count = count };
      piece = record { width = width; value = replicate 8 0 };
      first = first;
      end = end;
    }

abbrev pub nine_records : List ℕ
nine_records = op_record (copy_op 0 16 9 8 1 0) ++ op_record (copy_op 8 24 1 1 0 1)

pub record Examples : Type 0 where
  -- document 01's
  pub nine_bytes : output_of (ascii "gap\t8\ncopy\t4\t0\t16\t9\n")
      ≡ ascii "row\t0\t4\t0\t16\t9\t8\t1\t0\tcopy\nrow\t1\t4\t8\t24\t1\t1\t0\t1\tcopy\npassed\t4\n"
  -- its records, and the table made of them: four rows, and the lines of the live ones
  pub nine_records_lem : lines_from (under 8) 2 (lines (ascii "copy\t4\t0\t16\t9\n")) start ≡ done nine_records
  pub nine_rows : length (table_rows (checked_rows nine_records)) ≡ 4
  pub nine_live : row_lines 0 (live_rows (table_rows (checked_rows nine_records)))
      ≡ ascii "row\t0\t4\t0\t16\t9\t8\t1\t0\tcopy\nrow\t1\t4\t8\t24\t1\t1\t0\t1\tcopy\n"
  -- every kind, an empty call, and a last newline that is missing
  pub kinds : output_of (ascii "gap\t8\nset\t5\t0\t8\t9\nwrite\t6\t0\t3\t2\ncopy\t7\t5\t9\t0")
      ≡ ascii "row\t0\t5\t0\t8\t9\t8\t1\t0\tset\nrow\t1\t5\t8\t16\t1\t1\t0\t1\tset\n"
      ++ ascii "row\t2\t6\t0\t3\t2\t1\t1\t0\twrite\nrow\t3\t6\t1\t4\t1\t1\t0\t1\twrite\n"
      ++ ascii "row\t4\t7\t5\t9\t0\t1\t1\t1\tcopy\npassed\t8\n"
  -- a gap line alone; a number of 20 digits
  pub no_call_lem : output_of (ascii "gap\t00000000000000000008\n") ≡ ascii "passed\t4\n"
  -- no line 1, a number of 21 digits, a number past 2^64 - 1
  pub nothing : output_of (ascii "") ≡ ascii "refused\t10\t1\n"
  pub digits : output_of (ascii "gap\t000000000000000000008\n") ≡ ascii "refused\t10\t1\n"
  pub large : output_of (ascii "gap\t18446744073709551616\n") ≡ ascii "refused\t10\t1\n"
  -- 7, where a later line is of another form
  pub gap_too_large_lem : output_of (ascii "gap\t4294967296\ncopy\n") ≡ ascii "refused\t7\t1\n"
  -- lines of another form: an empty one, one with too few fields, one with too many
  pub empty_line : output_of (ascii "gap\t8\n\n") ≡ ascii "refused\t10\t2\n"
  pub few_fields : output_of (ascii "gap\t8\ncopy\t4\t0\t16\n") ≡ ascii "refused\t10\t2\n"
  pub many_fields : output_of (ascii "gap\t8\ncopy\t4\t0\t16\t9\t1\n") ≡ ascii "refused\t10\t2\n"
  -- the expansion's refusals, unchanged; the lowest line is named
  pub last_stamp_lem : output_of (ascii "gap\t8\ncopy\t18446744073709551615\t0\t16\t9\n") ≡ ascii "refused\t1\t2\n"
  pub outside : output_of (ascii "gap\t8\ncopy\t4\t1016\t0\t9\ncopy\n") ≡ ascii "refused\t2\t2\n"
  pub not_gap_apart_lem : output_of (ascii "gap\t8\ncopy\t4\t0\t16\t9\nset\t5\t0\t9\t1\n") ≡ ascii "refused\t3\t3\n"
  pub past_index_lem : output_of (ascii "gap\t8\nwrite\t4\t0\t4294967295\t1\n") ≡ ascii "refused\t5\t2\n"
  -- 33 rows: in one call, and with one more after 32
  pub rows_33 : output_of (ascii "gap\t8\ncopy\t4\t0\t512\t264\n") ≡ ascii "refused\t9\t2\n"
  pub row_33 : output_of (ascii "gap\t8\ncopy\t4\t0\t512\t256\ncopy\t5\t0\t0\t0\n") ≡ ascii "refused\t9\t3\n"
