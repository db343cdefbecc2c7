-- What a refusal to open states about the bytes.
use Rattle.std.specs.Prelude.{◌≡◌, ◌≢◌}
use Rattle.archive_shape_layout.specs.declared.error.Error.{Error}
use Rattle.archive_shape_layout.specs.declared.error.Error.TheVariants as error
use Rattle.cabinet_documents.specs.Audit as audit
use Rattle.cabinet_archives.specs.declared.opening.refusal.OpenRefusal.{OpenRefusal}
use Rattle.cabinet_archives.specs.declared.opening.refusal.OpenRefusal.TheVariants.{Access, TooDeep, KeysNotAscending, WrongTag, NotFound, OutOfMemory}

abbrev pub refusal_of : OpenRefusal → audit.Refusal
refusal_of (Access e) = audit.access e
refusal_of TooDeep = audit.unsound audit.too_deep
refusal_of KeysNotAscending = audit.unsound audit.keys_not_ascending
refusal_of WrongTag = audit.unsound audit.wrong_tag
refusal_of NotFound = audit.unsound audit.not_found
refusal_of OutOfMemory = audit.out_of_memory

-- an access fails because an allocation failed, or otherwise because of the bytes
pub data IsRefusalFor (e : Error) (r : OpenRefusal) : Type 0 where
  for_memory : e ≡ error.OutOfMemory → r ≡ OutOfMemory → IsRefusalFor e r
  for_access : e ≢ error.OutOfMemory → r ≡ Access e → IsRefusalFor e r
