-- The texts that an iterator over keys yields.
use Rattle.std.specs.Prelude.{ℕ, List, Option}
use Rattle.std.specs.Iterator.{AlwaysYields}
use Rattle.std.specs.List.{AllZip}
use Rattle.archive_shape.specs.declared.references.refs.Ref.{Ref}
use Rattle.archive_forms_values.specs.declared.text.string.ArchivedString.{ArchivedString}
use Rattle.archive_forms_laws.specs.Text.{IsText}

-- every run of calls yields references to these texts, in order
abbrev pub YieldsTexts : {S : Type 0} → (S → Option (Ref ArchivedString) → S → Type 0) → S → List (List ℕ) → Type 0
YieldsTexts steps s ts = (refs : List (Ref ArchivedString)) × AlwaysYields steps (λ r. r) s refs × AllZip (λ r t. IsText r.bytes.now r.pos t) refs ts
