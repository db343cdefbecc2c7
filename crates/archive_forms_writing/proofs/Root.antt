-- What is written where nothing was written before is the one archive of a value.
use Rattle.std.proofs.Common.{ℕ, [], ◌∷◌, ◌++◌, ap, ◌∙◌, Ok, Err}
use Rattle.std.specs.Prelude.{Result, OnOk}
use Rattle.archive_shape_layout.specs.Shape.{Shape}
use Rattle.archive_shape_layout.specs.Content.{Names}
use Rattle.archive_shape_canonical.specs.Settled.{Fit}
use Rattle.archive_shape_layout.specs.Writing.{WriterMembers}
use Rattle.archive_shape_layout.specs.declared.error.Error.{Error}
use Rattle.archive_forms_laws.specs.State.{initial}
use Rattle.archive_forms_laws.specs.Spelling.{Spelling}
use Rattle.archive_forms_laws.specs.Spells.{Spells}
use Rattle.archive_forms_laws.specs.Regions.{region_piece}
use Rattle.archive_forms_laws.specs.Pointers.{box_spelling}
use Rattle.archive_forms_laws.specs.Serializing.{Serializes}
use Rattle.archive_forms_laws.proofs.Written.{is_written}
use Rattle.archive_forms_writing.specs.Root.{MakesArchive}

-- a value that was written after its data, before all else
pub makes_archive : {A R W : Type 0} (s : Shape) (knows : Names → Type 0) (w : Spelling A R) (m : WriterMembers W) (x : A) (old new : W) (result : Result ℕ Error)
    → ((fit : Fit) → Spells fit s knows w)
    → Serializes (box_spelling s w) m x old new result
    → OnOk result (MakesArchive s knows w m x old new)
makes_archive s knows w m x old new (Ok to) spells h = λ told empty at fit names keys known keyed one.
    let l = h initial at in
    is_written fit s knows w x names keys (m.contents new) (spells fit) known keyed one l.1.1 (l.0.gains told ∙ ap (λ bytes. bytes ++ region_piece w s (x ∷ []) initial) empty)
makes_archive s knows w m x old new (Err e) spells h = tt
