-- Every row of the table holds: both sides compute to the same.
use mathlib.Core.List.{List, [], ◌∷◌, ◌++◌}
use mathlib.Core.Path.{◌≡◌, refl}
use lib.Count.{count_trailing_zeros}
use lib.Ieee.{round, size, span, climb, units as float_units, odd, lt, le}
use Rattle.std.specs.Prelude.{Err, Ok}
use Rattle.scan.specs.Ascii.{ascii}
use Rattle.scan.specs.Run.{run_length}
use Rattle.scan.specs.Separated.{separated_length}
use Rattle.scan.specs.Text.{has, same_text}
use Rattle.scan.specs.Byte.{is_within, is_hex_digit, digit_of, is_digit_in, lowered, is_in, is_alpha, is_quote}
use Rattle.utf8.specs.Table.{fits, size_in, char_length}
use Rattle.utf8.specs.Text.{chars_past, size_of}
use Rattle.utf8.specs.Answers.{validity_of, admitted, at_start}
use Rattle.utf8.specs.Code.{is_scalar, encoded, six_bits, code_of}
use Rattle.string.specs.Letters.{looked_up, letter_value}
use Rattle.string.specs.Tile.{amount_from, is_allowed, numbered, escape_of, begins_escape, tile_of}
use Rattle.string.specs.Tiles.{tiles_past, has_bad, piece_bytes, bytes_of}
use Rattle.string.specs.Literal.{has_newline, fault_of}
use Rattle.scan.specs.Sign.{is_sign}
use Rattle.decimal.specs.Grammar.{has_digits, exponent_has_digits, is_numeral, is_infinite, is_nan}
use Rattle.decimal.specs.Value.{is_scaled, is_some, is_exact_range, is_in_exact, numeral_read, decimal_in, decimal_of}
use Rattle.duration.specs.Units.{is_part, behind, sum_by, counted, has_oversized, is_unit_text, units_of}
use Rattle.duration.specs.Duration.{duration_read, timing_by, timing_of}
use Rattle.writing.specs.Decimal.{digit_for, digits_within, decimal_text}
use Rattle.duration.specs.Display.{count_text, part_text, rest_of, duration_text}
use Rattle.scan.specs.Byte.{is_space, is_alpha_numeric, is_word, is_line}
use Rattle.scan.specs.Digits.{value_from}
use Rattle.utf8.specs.Text.{begun_in, char_number}
use Rattle.token.specs.Words.{words, kind_in, keyword_of}
use Rattle.numeral.specs.Numeral.{is_hex, fraction_end, exponent_end, number_end, is_unit, stop_of, turn_of, duration_from, numeral_of}
use Rattle.quoted.specs.Quoted.{comment_end}
use Rattle.munch.specs.Word.{is_word_start, is_fill, rule_by, is_or, brace_rule, kind_by}
use Rattle.munch.specs.Munch.{deeper, number_step, comment_step, word_step, right_paren_step, end_step, brace_word, colon_step, outside_table, brace_table, bracket_table, step_in, munched}
use Rattle.lex.specs.Outcome.{steps_past, read_from}
use Rattle.lex.specs.Lex.{answer_by, measured}
use Rattle.cases.specs.laws.Cases.{Case, queries, texts, elapsed, days, Shown, Each, AllShown}

pub queries_shown : Each Shown queries
unfolding measured answer_by steps_past read_from munched step_in outside_table brace_table bracket_table is_word_start is_quote word_step brace_word number_step comment_step right_paren_step end_step colon_step deeper rule_by brace_rule kind_by is_fill is_or keyword_of words kind_in numeral_of number_end exponent_end fraction_end is_hex is_unit duration_from turn_of stop_of comment_end is_sign admitted validity_of chars_past size_of char_number begun_in char_length size_in fits code_of is_within is_in is_space is_alpha is_alpha_numeric is_word is_line lowered run_length separated_length same_text has
queries_shown = ((refl, refl), ((refl, refl), ((refl, refl), (refl, ((refl, refl), ((refl, refl), ((refl, refl), (refl, tt))))))))

-- the durations that are read
timed_zero : timing_of (ascii "0") ≡ Err (at_start 51)
unfolding timing_by duration_read admitted validity_of chars_past size_of char_length size_in fits code_of is_within same_text
timed_zero = refl

timed_none : timing_of (ascii "00") ≡ Ok (elapsed 0 0)
unfolding timing_by duration_read admitted validity_of chars_past size_of char_length size_in fits code_of is_within same_text decimal_of decimal_in is_infinite is_nan is_numeral has_digits exponent_has_digits is_sign lowered is_in run_length digit_of value_from numeral_read is_in_exact is_exact_range is_some is_scaled round size span climb float_units odd count_trailing_zeros lt le
timed_none = refl

timed_decimal_holds : timing_of (ascii "0.0009765625") ≡ Ok (elapsed 0 976562)
unfolding timing_by duration_read admitted validity_of chars_past size_of char_length size_in fits code_of is_within same_text decimal_of decimal_in is_infinite is_nan is_numeral has_digits exponent_has_digits is_sign lowered is_in run_length digit_of value_from numeral_read is_in_exact is_exact_range is_some is_scaled round size span climb float_units odd count_trailing_zeros lt le
timed_decimal_holds = refl

timed_units : timing_of (ascii "1d5000000000ms") ≡ Ok (days 1)
unfolding timing_by duration_read admitted validity_of chars_past size_of char_length size_in fits code_of is_within same_text decimal_of decimal_in is_infinite is_nan is_numeral has_digits exponent_has_digits is_sign lowered is_in is_alpha run_length digit_of value_from units_of is_unit_text behind sum_by has_oversized is_part counted
timed_units = refl

-- and those that are written
written_days : duration_text (days 90) ≡ ascii "90d"
unfolding duration_text part_text rest_of count_text decimal_text digits_within digit_for
written_days = refl

written_weeks : duration_text (days 14) ≡ ascii "2w"
unfolding duration_text part_text rest_of count_text decimal_text digits_within digit_for
written_weeks = refl

pub texts_shown : Each Shown texts
unfolding is_within is_hex_digit digit_of is_scalar encoded six_bits letter_value looked_up is_digit_in amount_from is_allowed numbered escape_of begins_escape tile_of tiles_past has_bad piece_bytes bytes_of is_quote fault_of has has_newline
texts_shown = ((refl, refl), ((refl, refl), (timed_zero, (timed_none, (timed_decimal_holds, (timed_units, (written_days, (written_weeks, tt))))))))

-- what holds of each row of two tables holds of each of both
pub each_both : (P : Case → Type 0) (cs ds : List Case) → Each P cs → Each P ds → Each P (cs ++ ds)
each_both P [] ds p q = q
each_both P (c ∷ cs) ds p q = (p.0, each_both P cs ds p.1 q)

pub all_shown : AllShown
all_shown = each_both Shown queries texts queries_shown texts_shown
