-- What a writer holds that held nothing before.
use Rattle.std.specs.Prelude.{◌≡◌, [], IsTrue}
use Rattle.archive_shape_layout.specs.Shape.{Shape}
use Rattle.archive_shape_layout.specs.Content.{Names}
use Rattle.archive_shape_canonical.specs.Settled.{Fit}
use Rattle.archive_shape_layout.specs.Writing.{WriterMembers}
use Rattle.archive_forms_laws.specs.State.{Keys, AreOneToOne, initial}
use Rattle.archive_forms_laws.specs.Spelling.{Spelling}
use Rattle.archive_forms_laws.specs.Serializing.{IsAt}
use Rattle.archive_forms_laws.specs.Written.{IsWritten}

-- a writer that held nothing, at position 0 and with no known key, holds the one archive of a value
abbrev pub MakesArchive : {A R W : Type 0} → Shape → (Names → Type 0) → Spelling A R → WriterMembers W → A → W → W → Type 0
MakesArchive s knows w members x old new =
    IsTrue members.OBSERVABLE
    → members.contents old ≡ []
    → IsAt members.pos members.known old initial
    → (fit : Fit) (names : Names) (keys : Keys)
    → knows names
    → w.suits fit keys x
    → AreOneToOne keys
    → IsWritten s w x fit names (members.contents new)
