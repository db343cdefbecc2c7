-- What calls that write the data of a value ensure, of the members of the value's type under a bound `Archive`.
use Rattle.std.specs.Prelude.{Result}
use Rattle.archive_shape_layout.specs.Writing.{WriterMembers}
use Rattle.archive_shape_layout.specs.declared.error.Error.{Error}
use Rattle.archive_forms_laws.specs.Serializing.{Serializes}
use Rattle.archive_forms_writing.specs.declared.archive.Archive.{Ghosts}

-- the data of a value is written as its type archives it, and the result is the resolver
abbrev pub WritesData : {A D R W : Type 0} → Ghosts A D R → WriterMembers W → A → W → W → Result R Error → Type 0
WritesData archive members x old new result = Serializes archive.spelling members x old new result
