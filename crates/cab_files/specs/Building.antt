-- The results of building an archive.
use Rattle.std.specs.Prelude.{◌≡◌, ℕ, ◌<◌, ◌⊎◌, List, Result, Ok, Err, String, string_bytes, string_len, codes}
use Rattle.std.specs.declared.alloc.Global.{Global}
use Rattle.cabinet_text_grammar.specs.Tree.{Tree}
use Rattle.cabinet_text_grammar.specs.Spelling.{text_of}
use Rattle.cabinet_text_grammar.specs.Fault.{FirstFault}
use Rattle.cabinet_documents.specs.Image.{Image}
use Rattle.cabinet_archives.specs.Saving.{HasNoImageFor}
use Rattle.cabinet.specs.declared.fault.Fault.{Fault}
use Rattle.cabinet.specs.declared.fault.Fault.TheVariants.{Usage, CannotRead, CannotWrite, Text, Save, Open, Run}

-- the bytes are an image of the document that has the text
pub record Builds (text archive : List ℕ) : Type 0 where
  pub document : Tree
  pub text_is : text ≡ text_of document
  pub is_image : Image document archive

-- why there is no image: the text's first fault, a document past the limits, or an allocation that failed
abbrev pub RefusesText : List ℕ → Fault → Type 0
RefusesText text (Text refusal) = FirstFault text refusal.line refusal.cause
RefusesText text (Save refusal) = (t : Tree) × (text ≡ text_of t) × HasNoImageFor t refusal
RefusesText text _ = ⊥

-- how building an archive file ends: bytes are an image of a text, or a fault says why there is none; which bytes, no contract
-- can name; what is printed goes to no file with a name
abbrev pub EndsBuild : (text archive : String Global) → Result (Unit {0}) Fault → Type 0
EndsBuild text archive (Ok done) = (bytes : List ℕ) × (image : List ℕ) × Builds bytes image
EndsBuild text archive (Err (CannotRead path)) = path ≡ text
EndsBuild text archive (Err (Text refusal)) = (bytes : List ℕ) × FirstFault bytes refusal.line refusal.cause
EndsBuild text archive (Err (Save refusal)) = (t : Tree) × HasNoImageFor t refusal
EndsBuild text archive (Err (CannotWrite path)) = (path ≡ archive) ⊎ (0 < string_len text → string_bytes path ≡ codes "-")
EndsBuild text archive (Err Usage) = ⊥
EndsBuild text archive (Err (Open refusal)) = ⊥
EndsBuild text archive (Err (Run fault)) = ⊥
