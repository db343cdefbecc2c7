-- How texts and documents correspond, as statements.
use Rattle.std.specs.Prelude.{◌≡◌, ◌≢◌, ◌⊎◌, ℕ, List}
use Rattle.cabinet_text_grammar.specs.Tree.{Tree}
use Rattle.cabinet_text_grammar.specs.Wholes.{IsDocument}
use Rattle.cabinet_text_grammar.specs.Spelling.{text_of}
use Rattle.cabinet_text_grammar.specs.Memory.{TextTakesMemory}
use Rattle.cabinet_text_grammar.specs.Fault.{FirstFault}
use Rattle.cabinet_text_grammar.specs.Laws.{SameFault}
use Rattle.cabinet_text_grammar.specs.declared.cause.Cause.{Cause}
use Rattle.cabinet_text_grammar.specs.declared.cause.Cause.TheVariants.{OutOfMemory}

-- the input is the text of this document and of no other, and the only fault that can be found is OutOfMemory, where
-- reading takes memory
pub record IsText (input : List ℕ) (t : Tree) : Type 0 where
  pub document : IsDocument t
  pub text_is : input ≡ text_of t
  pub alone : (s : Tree) → IsDocument s → input ≡ text_of s → s ≡ t
  pub faultless : (line : ℕ) (cause : Cause) → FirstFault input line cause → (cause ≡ OutOfMemory) × TextTakesMemory t

-- the input has this first fault and, except for OutOfMemory, no other, and is the text of no document
pub record IsFaulty (input : List ℕ) (line : ℕ) (cause : Cause) : Type 0 where
  pub first : FirstFault input line cause
  pub not_memory : cause ≢ OutOfMemory
  pub alone : (other : ℕ) (reason : Cause) → FirstFault input other reason → reason ≢ OutOfMemory → SameFault other line reason cause
  pub no_text : (t : Tree) → IsDocument t → input ≢ text_of t

-- the text of a document is that of no other
abbrev pub ReadBack : Type 0
ReadBack = (t : Tree) → IsDocument t → IsText (text_of t) t

-- each input is the text of one document or has one first fault
abbrev pub TextOrFault : Type 0
TextOrFault = (input : List ℕ) → ((t : Tree) × IsText input t) ⊎ ((line : ℕ) × (cause : Cause) × IsFaulty input line cause)
