use Rattle.std.proofs.Common.{refl}
use Rattle.std.specs.Fmt.{digits}
use Rattle.cabinet_text_grammar.proofs.restructuring.lines_that_edit.Goals as goal

-- by computation
pub returns : goal.returns
unfolding digits
returns c = ((refl, refl), (refl, refl), (refl, refl), (refl, refl), (refl, refl), (refl, refl))
