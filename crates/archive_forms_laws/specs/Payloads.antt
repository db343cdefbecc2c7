-- How a value after a tag is archived, as that of a result or of a variant of an enum.
use Rattle.std.specs.Prelude.{ℕ, ◌+◌}
use Rattle.archive_shape_layout.specs.Value.Value.{chosen}
use Rattle.archive_shape_layout.specs.Value.Values.{no_values, more_values}
use Rattle.archive_forms_laws.specs.Spelling.{Spelling}
use Rattle.archive_forms_laws.specs.Options.{tagged_bytes}

-- a value after a tag: at an offset, in `size` bytes
abbrev pub payload_spelling : {A R : Type 0} → (tag offset size : ℕ) → Spelling A R → Spelling A R
payload_spelling tag offset size w = record {
  value = λ x st. chosen tag (more_values (w.value x st) no_values);
  plain = λ x. chosen tag (more_values (w.plain x) no_values);
  piece = w.piece;
  resolver = w.resolver;
  met = w.met;
  own = λ x r pos. tagged_bytes tag offset size (w.own x r (pos + offset));
  piece_fits = w.piece_fits;
  piece_refused = w.piece_refused;
  own_fits = λ x r pos. w.own_fits x r (pos + offset);
  own_refused = λ x r pos e. w.own_refused x r (pos + offset) e;
  suits = w.suits;
}
