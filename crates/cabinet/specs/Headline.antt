-- Working in the bytes of a saved document, compared with working on the document.
use Rattle.std.specs.Prelude.{ℕ, Bool, List, Result}
use Rattle.cabinet_text_grammar.specs.Tree.{Tree}
use Rattle.cabinet_text.specs.Session.{lines_in_place}
use Rattle.cabinet_text.specs.Working.{WorksAsDocument}
use Rattle.cabinet_text.specs.declared.session.Count.{Count}
use Rattle.cabinet_text.specs.declared.session.RunFault.{RunFault}
use Rattle.cabinet_documents.specs.Image.{Image}

-- the answers are those of the document, and the bytes are the image of the document after the lines, up to the end of the
-- input, or up to the first fault and with its condition
abbrev pub WorksInPlace : (counts : Bool) → Tree → (input left old new bytes : List ℕ) → Result Count RunFault → Type 0
WorksInPlace counts t input left old new bytes result =
    WorksAsDocument lines_in_place (λ u. Image u bytes) counts t input left old new result
