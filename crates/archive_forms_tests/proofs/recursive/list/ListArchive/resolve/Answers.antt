use Rattle.std.proofs.Common.{rules, arith, ℕ, ◌+◌, ◌≤◌, length, refl, sym, subst}
use Rattle.archive_shape_layout.specs.Shape.Shape.{box, option}
use Rattle.archive_shape_layout.specs.Shape.Pointee.{sized}
use Rattle.archive_shape.specs.Bytes.{HasBytes, zeros}
use Rattle.archive_forms_laws.specs.Levels.{levels_spelling}
use Rattle.archive_forms_laws.specs.Options.{option_spelling}
use Rattle.archive_forms_laws.proofs.Levels.{option_box_sized}
use Rattle.archive_forms_laws.proofs.Resolved.{resolved_as}
use Rattle.archive_forms_writing.proofs.Options.{value_place, some_resolved, none_resolved}
use Rattle.archive_forms_tests.specs.Recursive.{list_shape}
use Rattle.archive_forms_tests.specs.Lists.{list_next, links, linked_spelling, list_level, no_list}
use Rattle.archive_forms_tests.proofs.Lists.{none_is, next_is, box_resolved}
use Rattle.archive_forms_tests.proofs.recursive.list.ListArchive.resolve.Goals as goal

pub returns-in_default : goal.returns-in_default
returns-in_default c =
    let w = linked_spelling (levels_spelling list_level no_list (links c.args.self.now)) in
    let P : ℕ → Type 0 = λ n. HasBytes c.args.out.out.now c.args.out.start (zeros n) in
    none_resolved (box (sized list_shape)) w (λ x r pos f. refl) c.args.out.out.now c.args.out.start c.args.out.pos (list_next c.args.self.now) c.args.resolver
    (none_is c.args.self.now c.in_default.is) (subst P (sym (option_box_sized list_shape)) c.requires.blank)

pub returns : goal.returns
returns c =
    let w = linked_spelling (levels_spelling list_level no_list (links c.args.self.now)) in
    let P : ℕ → Type 0 = λ n. HasBytes c.args.out.out.now c.args.out.start (zeros n) in
    let Q : ℕ → Type 0 = λ n. c.args.out.start + n ≤ length c.args.out.out.now in
    resolved_as (option_spelling (box (sized list_shape)) w) (option (box (sized list_shape))) (list_next c.args.self.now) c.args.resolver list_shape c.args.out.pos c.args.out.start c.args.out.out.now _ c.resolve_from_raw_parts.result (option_box_sized list_shape)
    (some_resolved (box (sized list_shape)) w (λ x r pos f. refl) 4 (value_place (box (sized list_shape)) 4 refl (omega arith))
    c.args.out.out.now c.within-place.result.out.now c.resolve_from_raw_parts.new.out.0 _ c.args.out.start c.args.out.pos c.within-place.result.start c.within-place.result.pos (list_next c.args.self.now) c.args.resolver
    c.in-Some.field-0.value c.in-Some-resolver.kept c.resolve_from_raw_parts.result (next_is c.args.self.now c.in-Some.field-0 c.in-Some.is) c.in-Some-resolver.is
    (subst Q (sym (option_box_sized list_shape)) c.requires.room) (subst P (sym (option_box_sized list_shape)) c.requires.blank)
    c.within-place.ensures.bytes c.within-place.ensures.start c.within-place.ensures.pos (search rules)
    (box_resolved (levels_spelling list_level no_list (links c.args.self.now)) c.in-Some.field-0.value c.in-Some-resolver.kept _ _ _ _ c.resolve_from_raw_parts.result c.resolve_from_raw_parts.ensures))
