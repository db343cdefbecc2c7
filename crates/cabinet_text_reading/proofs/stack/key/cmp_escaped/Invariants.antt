use Rattle.std.proofs.Common.{◌≡◌, ℕ, List, length}
use Rattle.std.specs.Ordering.{nat_cmp}
use Rattle.std.specs.Cmp.Lexicographic.{slice_cmp}
use Rattle.cabinet_text_grammar.specs.Spelling.{escaped}
use Rattle.cabinet_text_reading.proofs.stack.key.cmp_escaped.Given as goal

-- what is left of the text compares to what is left of the key as the text does to the key
abbrev pub invariant-loop-byte : goal.invariant-loop-byte
invariant-loop-byte l = (t : List ℕ) → l.fn.argument ≡ escaped t → (u : List ℕ) × (l.rest ≡ escaped u) × (slice_cmp nat_cmp t l.fn.key ≡ slice_cmp nat_cmp u l.left)

abbrev pub decreases-loop-byte : goal.decreases-loop-byte
decreases-loop-byte l = length l.rest
