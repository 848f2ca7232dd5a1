use Rattle.std.proofs.Common.{◌≡◌, ◌<◌, ◌^◌, true, take}
use Rattle.std.specs.List.{list_all}
use Rattle.std.specs.Char.{is_ascii_digit}
use Rattle.std.specs.Str.Parse.{digits_value}
use Rattle.tatp_text.proofs.number.value_of.Given as goal

-- what is read so far is digits, and `value` is theirs
abbrev pub invariant-loop-digit : goal.invariant-loop-digit
invariant-loop-digit l = record {
  digits : list_all is_ascii_digit (take l.digit-index l.text) ≡ true;
  value : l.value ≡ digits_value 10 (take l.digit-index l.text);
  fits : l.value < 2 ^ 64;
}
