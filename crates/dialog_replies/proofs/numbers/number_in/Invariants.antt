use Rattle.std.proofs.Common.{◌<◌, ◌^◌, ◌≡◌, drop}
use Rattle.std.specs.{Char.is_ascii_digit, List.list_all, Str.Parse.digits_value, Str.Parse.digits_value_after}
use Rattle.dialog_replies.proofs.numbers.number_in.Given as goal

abbrev pub invariant-loop-digit : goal.invariant-loop-digit
invariant-loop-digit l = record {
  value : digits_value_after 10 l.number (drop l.digit-index l.word) ≡ digits_value 10 l.word;
  digits : list_all is_ascii_digit (drop l.digit-index l.word) ≡ list_all is_ascii_digit l.word;
  below : l.number < 10 ^ l.digit-index;
}
