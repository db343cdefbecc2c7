use Rattle.std.proofs.Common.{◌+◌, min, sym, ap, ◌∙◌}
use Rattle.archive_core_tests.specs.declared.rc.tower.Tower.{Tower}
use Rattle.archive_core_tests.proofs.Towers.{levels_on, first_read}
use Rattle.archive_core_tests.proofs.rc.tower.tower_on.Goals as goal

pub returns-in_default : goal.returns-in_default
returns-in_default c = λ elements h. first_read (λ (t : Tower). t.levels) c.args.pointers.now elements h ∙ ap (levels_on (λ (t : Tower). t.levels)) (sym c.in_default.ensures.value)

pub returns : goal.returns
returns c = λ elements h.
    first_read (λ (t : Tower). t.levels) c.args.pointers.now elements h ∙ ap (levels_on (λ (t : Tower). t.levels)) (sym c.in-Some.ensures.value)
    ∙ ap (λ (t : Tower). min (t.levels + 1) 255) (sym c.deref.ensures) ∙ sym c.saturating_add.ensures
