-- What is required of a call that writes the own bytes of a borrowed key and value at their place, and what it ensures.
use Rattle.std.specs.Prelude.{ℕ, List, Result}
use denote.Ref.{MutBor}
use Rattle.archive_shape_layout.specs.Shape.{Shape}
use Rattle.archive_shape_layout.specs.declared.error.Error.{Error}
use Rattle.archive_shape.specs.declared.references.place.Place.{Place}
use Rattle.archive_forms_values.specs.Tuples.{tuple2}
use Rattle.archive_forms_laws.specs.Spelling.{Spelling}
use Rattle.archive_forms_laws.specs.Serializing.{CanResolveAt, ResolvesAt}
use Rattle.archive_forms_writing.specs.Entries.{entry_spelling}
use Rattle.archive_forms_writing.specs.declared.collections.entry.EntryAdapter.{EntryAdapter}
use Rattle.archive_forms_writing.specs.declared.collections.entry.EntryResolver.{EntryResolver}

module _ {A B R Q T : Type 0} (s : Shape) (w : Spelling A R) (t : Shape) (u : Spelling B Q) where
  abbrev pub CanResolveEntry : EntryAdapter A B → EntryResolver R Q → Place T → Type 0
  CanResolveEntry x r out = CanResolveAt (entry_spelling s w t u) (tuple2 s t) x r out

  -- as an entry
  abbrev pub ResolvesEntry : {E : Type 0} → EntryAdapter A B → EntryResolver R Q → Place T → MutBor (List ℕ) × E → Result (Unit {0}) Error → Type 0
  ResolvesEntry x r out end result = ResolvesAt (entry_spelling s w t u) (tuple2 s t) x r out end result
