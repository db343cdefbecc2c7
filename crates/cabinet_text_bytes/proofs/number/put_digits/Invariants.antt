use Rattle.std.proofs.Common.{◌≡◌, ◌+◌, ◌<◌, ◌≤◌, ◌++◌, ◌^◌, length, drop}
use Rattle.std.specs.Fmt.{decimal}
use Rattle.cabinet_text_bytes.proofs.number.put_digits.Given as goal

-- the digits of the rest, then those that are written already, are the number's
abbrev pub invariant-loop-rest : goal.invariant-loop-rest
invariant-loop-rest l = record {
  below : l.rest < 2 ^ 64;
  long : length l.bytes ≡ 21;
  start : l.start ≤ 20;
  room : length (decimal l.rest) ≤ l.start;
  digits : decimal l.rest ++ drop (l.start + 1) l.bytes ≡ decimal l.fn.number;
}

abbrev pub decreases-loop-rest : goal.decreases-loop-rest
decreases-loop-rest l = l.rest
