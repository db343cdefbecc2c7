use Rattle.std.proofs.Common.{◌+◌, ◌≤◌, [], length, All, refl, sym, ap, subst}
use Rattle.archive_shape_layout.specs.Holds.{Region}
use Rattle.archive_shape_layout.proofs.Rooted.{inside_high}
use Rattle.archive_forms_laws.specs.Text.{HasText}
use Rattle.archive_forms_laws.proofs.Held.{held_is_text_law}
use Rattle.archive_forms_tests.proofs.text.checked.checked.Goals as goal

pub returns-clause-there : goal.returns-clause-there
returns-clause-there c =
    let passes = (c.in_ok-check.ensures.exact [] tt [] [] (λ pos. refl)).passes in
    let ascends = inside_high c.new-context.result.start c.new-context.result.end passes.regions passes.accepts.ascends in
    let within : All (λ (r : Region). r.start + r.size ≤ length c.args.bytes.now) passes.regions =
    subst (λ n. All (λ (r : Region). r.start + r.size ≤ n) passes.regions) c.new-context.ensures.end ascends in
    let there = (held_is_text_law [] c.args.bytes.now _ [] c.args.pos passes.value passes.regions [] passes.after c.requires within passes.accepts.holds).stands.there in
    let same_bytes = subst (λ bytes. HasText bytes c.args.pos) (sym (ap (λ bytes. bytes.now) c.new.ensures.bytes)) there in
    subst (HasText c.new.result.bytes.now) (sym c.new.ensures.pos) same_bytes
