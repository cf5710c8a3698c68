-- For what holds by computing: to unfold `computing` is to unfold every definition here and below that such an example runs through.
-- Assumes nothing.
use Rattle.call.proofs.Computing as call
use Rattle.text.specs.Pieces.{index_of, before, after}
use Rattle.text.specs.Numbers.{is_digit, all_digits, decimal_from, is_number, number_of}
use Rattle.text.specs.Inner.{digit_of}
use Rattle.text.specs.Lines.{onto, lines, word_of, gap_of, call_line}
use Rattle.text.specs.RowLines.{digits_by, decimal_text, fields_text, kind_text, row_text, rows_text, passed_text, refused_text}

unfoldable pub computing : Unit {0}
unfolding call.computing index_of before after is_digit all_digits decimal_from is_number number_of digit_of onto lines word_of gap_of call_line digits_by
    decimal_text fields_text kind_text row_text rows_text passed_text refused_text
computing = tt
