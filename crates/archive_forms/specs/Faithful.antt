-- When what is read back is what was archived.
use Rattle.archive_shape_layout.specs.Value.{Value}
use Rattle.archive_forms_laws.specs.Spelling.{Spelling}
use Rattle.archive_forms_writing.specs.declared.archive.Archive.{Ghosts}
use Rattle.archive_forms.specs.Reading.{reads_as}
use Rattle.archive_forms.specs.Calls.Forms.{ReadMembers}

-- a value that is read back is archived as the one that it is read of
abbrev pub IsFaithful : {A R : Type 0} → Spelling A R → (Value → A → Type 0) → Type 0
IsFaithful {A = A} w reads = (v : Value) (x : A) → reads v x → reads_as w v x

-- the same of a type that is archived and of its archived form, each given by its members
abbrev pub AreFaithful : {A D R : Type 0} → Ghosts A D R → ReadMembers A → Type 0
AreFaithful archived form = IsFaithful archived.spelling form.reads
