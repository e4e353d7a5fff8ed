-- Both texts hold: antt computes them.
use mathlib.Core.Path.{refl}
use Rattle.scan.specs.Run.{run_length}
use Rattle.scan.specs.Separated.{separated_length}
use Rattle.scan.specs.Text.{has, same_text}
use Rattle.scan.specs.Byte.{is_within, lowered, is_in, is_alpha, is_space, is_alpha_numeric, is_word, is_line, is_quote}
use Rattle.utf8.specs.Table.{fits, size_in, char_length}
use Rattle.utf8.specs.Text.{chars_past, size_of, begun_in, char_number}
use Rattle.utf8.specs.Answers.{validity_of, admitted}
use Rattle.utf8.specs.Code.{code_of}
use Rattle.scan.specs.Sign.{is_sign}
use Rattle.writing.specs.Decimal.{digit_for, digits_within, decimal_text}
use Rattle.token.specs.Words.{words, kind_in, keyword_of}
use Rattle.numeral.specs.Numeral.{is_hex, fraction_end, exponent_end, number_end, is_unit, stop_of, turn_of, duration_from, numeral_of}
use Rattle.quoted.specs.Quoted.{quoted_from, is_raw}
use Rattle.munch.specs.Word.{is_word_start, is_fill, rule_by, kind_by}
use Rattle.munch.specs.Munch.{number_step, quoted_step, word_step, end_step, outside_table, bracket_table, step_in, munched}
use Rattle.lex.specs.Outcome.{steps_past, read_from}
use Rattle.lex.specs.Lex.{answer_by, measured, lexed}
use Rattle.listing.specs.Listing.{refusal, lexemes_text, printed_by, printed}
use Rattle.listing.specs.laws.Cases.{AllPrinted}

pub all_printed : AllPrinted
unfolding printed printed_by lexemes_text refusal lexed measured answer_by steps_past read_from munched step_in outside_table bracket_table is_word_start is_quote word_step number_step quoted_step end_step rule_by kind_by is_fill keyword_of words kind_in numeral_of number_end exponent_end fraction_end is_hex is_unit duration_from turn_of stop_of quoted_from is_raw is_sign admitted validity_of chars_past size_of char_number begun_in char_length size_in fits code_of is_within is_in is_space is_alpha is_alpha_numeric is_word is_line lowered run_length separated_length same_text has decimal_text digits_within digit_for
all_printed = (refl, refl)
