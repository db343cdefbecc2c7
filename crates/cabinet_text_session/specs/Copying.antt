-- The errors of copying a text.
use Rattle.std.specs.Prelude.{ℕ, List, ⊤}
use Rattle.cabinet_text_grammar.specs.Fault.{FirstFault}
use Rattle.cabinet_text_session.specs.declared.copying.Fault.{Fault}
use Rattle.cabinet_text_session.specs.declared.copying.Fault.TheVariants.{Text, Write}

-- the text's first fault; or the copy was not written because an allocation failed
abbrev pub Refuses : List ℕ → Fault → Type 0
Refuses text (Text refusal) = FirstFault text refusal.line refusal.cause
Refuses text (Write error) = ⊤
