use Rattle.std.proofs.Common.{⊎_elim}
use Rattle.cabinet_text_reading.proofs.Paths.{key_tells, key_tells_not, place_step, inside_step}
use Rattle.cabinet_text_reading.proofs.lines.path.is_step.Goals as goal

pub returns-in-Key-clause-yes : goal.returns-in-Key-clause-yes
returns-in-Key-clause-yes c = key_tells c.is_escaped.result c.args.step c.in-Key.argument c.in-Key.is c.is_escaped.ensures.yes

pub returns-in-Key-clause-no : goal.returns-in-Key-clause-no
returns-in-Key-clause-no c = key_tells_not c.is_escaped.result c.args.step c.in-Key.argument c.in-Key.is c.is_escaped.ensures.no

pub returns-in-Place-clause-yes : goal.returns-in-Place-clause-yes
returns-in-Place-clause-yes c = ⊎_elim (λ p. place_step c.args.step p.0 p.1 c.requires) (λ e. inside_step c.args.step e) c.in-Place.is
