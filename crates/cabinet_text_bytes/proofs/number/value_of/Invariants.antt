use Rattle.std.proofs.Common.{◌≡◌, ◌<◌, ◌^◌, take}
use Rattle.std.specs.Str.Parse.{AllDigits, digits_value}
use Rattle.cabinet_text_bytes.proofs.number.value_of.Given as goal

-- what was passed is digits, and has the value
abbrev pub invariant-loop-byte : goal.invariant-loop-byte
invariant-loop-byte l = record {
  below : l.value < 2 ^ 64;
  digits : AllDigits 10 (take l.byte-index l.digits);
  value : digits_value 10 (take l.byte-index l.digits) ≡ l.value;
}
