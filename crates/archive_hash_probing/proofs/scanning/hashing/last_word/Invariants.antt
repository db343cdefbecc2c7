use Rattle.std.proofs.Common.{◌≡◌, ◌≤◌, length, drop}
use Rattle.std.specs.Int.{w64, from_le_bytes}
use Rattle.archive_hash_probing.proofs.scanning.hashing.last_word.Given as goal

abbrev pub invariant-loop-end : goal.invariant-loop-end
invariant-loop-end l = record {
  word_is : l.word ≡ from_le_bytes w64 (drop l.end l.bytes);
  after_start : l.at ≤ l.end;
  within : l.end ≤ length l.bytes;
}

abbrev pub decreases-loop-end : goal.decreases-loop-end
decreases-loop-end l = l.end
