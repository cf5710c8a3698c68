-- The examples hold, by computing. Assumes nothing.
use mathlib.Core.Path.{refl}
use Rattle.lists.specs.Lists.{kept}
use Rattle.calls_in_turn.proofs.Computing as made
use Rattle.chain.proofs.Computing as judged
use Rattle.text.proofs.Computing as text
use Rattle.callcheck_text.specs.Run.{lines_from}
use Rattle.callcheck_text.specs.Output.{checked_rows, verdict_of, ending_text, output_of, row_lines}
use Rattle.callcheck_text.specs.Examples.{Examples}

pub examples : Examples
unfolding made.computing judged.computing text.computing lines_from checked_rows verdict_of ending_text output_of row_lines kept
examples =
    record {
      nine_bytes = refl;
      nine_records_lem = refl;
      nine_rows = refl;
      nine_live = refl;
      kinds = refl;
      no_call_lem = refl;
      nothing = refl;
      digits = refl;
      large = refl;
      gap_too_large_lem = refl;
      empty_line = refl;
      few_fields = refl;
      many_fields = refl;
      last_stamp_lem = refl;
      outside = refl;
      not_gap_apart_lem = refl;
      past_index_lem = refl;
      rows_33 = refl;
      row_33 = refl;
    }
