use Rattle.std.proofs.Common.{rules, arith, ℕ, ◌+◌, ◌≤◌, [], length, refl, sym, ap, subst}
use Rattle.archive_shape.specs.Bytes.{HasBytes, zeros}
use Rattle.archive_forms_laws.proofs.Levels.{option_box_sized}
use Rattle.archive_forms_writing.proofs.Options.{value_place, some_resolved, none_resolved}
use Rattle.cabinet_documents.specs.Node.{node_shape}
use Rattle.cabinet_documents.specs.Spelling.{boxed_shape, boxed_spelling, node_spelling}
use Rattle.cabinet_archived.specs.Archived.{tree_within}
use Rattle.cabinet_text_nodes.specs.View.{node_tree}
use Rattle.cabinet_archived.proofs.Resolved.{box_resolved, unkept_resolved}
use Rattle.cabinet_archived.proofs.resolving.resolve_maybe.Goals as goal

pub returns-in_default : goal.returns-in_default
returns-in_default c = λ wholes.
    let P : ℕ → Type 0 = λ n. HasBytes c.args.out.out.now c.args.out.start (zeros n) in
    none_resolved boxed_shape (boxed_spelling (node_spelling wholes)) (λ x r pos f. refl) c.args.out.out.now c.args.out.start c.args.out.pos (tree_within wholes c.args.content.now) c.args.resolver
    (ap (tree_within wholes) c.in_default.is) (subst P (sym (option_box_sized node_shape)) c.requires.blank)

pub returns-in_default-resolver : goal.returns-in_default-resolver
returns-in_default-resolver c = λ wholes.
    unkept_resolved (node_spelling wholes) (tree_within wholes c.args.content.now) c.args.resolver c.args.out.out.now c.args.out.start c.args.out.pos c.in_default-resolver.is c.requires.blank

pub returns : goal.returns
returns c = λ wholes.
    let P : ℕ → Type 0 = λ n. HasBytes c.args.out.out.now c.args.out.start (zeros n) in
    let Q : ℕ → Type 0 = λ n. c.args.out.start + n ≤ length c.args.out.out.now in
    some_resolved boxed_shape (boxed_spelling (node_spelling wholes)) (λ x r pos f. refl) 4 (value_place boxed_shape 4 refl (omega arith))
    c.args.out.out.now c.within-place.result.out.now c.resolve_from_raw_parts.new.out.0 _ c.args.out.start c.args.out.pos c.within-place.result.start c.within-place.result.pos (tree_within wholes c.args.content.now) c.args.resolver
    (node_tree wholes c.in-Some.field-0.value) c.in-Some-resolver.kept c.resolve_from_raw_parts.result (ap (tree_within wholes) c.in-Some.is) c.in-Some-resolver.is
    (subst Q (sym (option_box_sized node_shape)) c.requires.room) (subst P (sym (option_box_sized node_shape)) c.requires.blank)
    c.within-place.ensures.bytes c.within-place.ensures.start c.within-place.ensures.pos (search rules)
    (box_resolved (node_spelling wholes) (node_tree wholes c.in-Some.field-0.value) c.in-Some-resolver.kept _ _ _ _ c.resolve_from_raw_parts.result c.resolve_from_raw_parts.ensures)
