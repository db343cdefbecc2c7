use Rattle.std.proofs.Common.{rules, arith, refl, true}
use Rattle.std.specs.Int.{w64}
use Rattle.archive_shape_layout.specs.Shape.Shape.{number, truth, text}
use Rattle.archive_forms_laws.specs.State.{initial}
use Rattle.archive_forms_writing.proofs.Joining.{payload_place}
use Rattle.archive_forms_writing.proofs.Results.{payload_can}
use Rattle.archive_forms_writing.specs.Owned.{string_spelling as archived_text}
use Rattle.cabinet_documents.specs.Spelling.{truth_spelling, number_spelling}
use Rattle.cabinet_archived.specs.Archived.{table_in}
use Rattle.cabinet_archived.proofs.Resolved.{truth_place, number_place, text_place, truth_resolved, number_resolved, text_resolved, shared_resolved, maybe_resolved, list_resolved, ordered_resolved, hashed_resolved, kept_resolved, whole_resolved, text_made}
use Rattle.cabinet_archived.proofs.resolving.resolve_node.Goals as goal

pub resolve-requires : goal.resolve-requires
resolve-requires c =
    payload_can truth_spelling truth 0 1 24 truth_place.first truth_place.fits c.args.out.out.now _ c.args.out.start c.args.out.pos _ _ c.in-Bool.value tt
    c.requires.room c.requires.stands c.requires.blank c.within.ensures.bytes c.within.ensures.start c.within.ensures.pos (initial, refl)

pub resolve-requires-in-Int : goal.resolve-requires-in-Int
resolve-requires-in-Int c =
    payload_can number_spelling (number w64 true) 1 8 24 number_place.first number_place.fits c.args.out.out.now _ c.args.out.start c.args.out.pos _ _ c.in-Int.number tt
    c.requires.room c.requires.stands c.requires.blank c.within-in-Int.ensures.bytes c.within-in-Int.ensures.start c.within-in-Int.ensures.pos (initial, refl)

pub resolve-requires-in-Text : goal.resolve-requires-in-Text
resolve-requires-in-Text c =
    payload_can archived_text text 2 4 24 text_place.first text_place.fits c.args.out.out.now _ c.args.out.start c.args.out.pos _ _ c.in-Text.text c.text_kept.result
    c.requires.room c.requires.stands c.requires.blank c.within-place.ensures.bytes c.within-place.ensures.start c.within-place.ensures.pos
    (text_made (table_in c.args.node) c.args.node.node.now c.in-Text.text c.args.resolver c.text_kept.result c.in-Text.is c.text_kept.ensures c.requires.made)

pub resolve_maybe-requires-clause-blank : goal.resolve_maybe-requires-clause-blank
resolve_maybe-requires-clause-blank c =
    rw (c.within-place-in-Maybe.ensures.bytes, c.within-place-in-Maybe.ensures.start)
    (payload_place 4 24 8 (omega arith) (omega arith) c.args.out.out.now c.args.out.start 4 c.requires.room c.requires.blank)

pub returns-in-Bool : goal.returns-in-Bool
returns-in-Bool c =
    truth_resolved (table_in c.args.node) c.args.resolver c.args.out.out.now c.within.result.out.now c.resolve.new.out.0 _ c.args.out.start c.args.out.pos c.within.result.start c.within.result.pos c.resolve.result
    c.requires.room c.requires.blank (search rules) c.args.node.node.now c.in-Bool.value c.in-Bool.is c.within.ensures.bytes c.within.ensures.start c.within.ensures.pos c.resolve.ensures

pub returns-in-Int : goal.returns-in-Int
returns-in-Int c =
    number_resolved (table_in c.args.node) c.args.resolver c.args.out.out.now c.within-in-Int.result.out.now c.resolve-in-Int.new.out.0 _ c.args.out.start c.args.out.pos c.within-in-Int.result.start c.within-in-Int.result.pos c.resolve-in-Int.result
    c.requires.room c.requires.blank (search rules) c.args.node.node.now c.in-Int.number c.in-Int.is c.within-in-Int.ensures.bytes c.within-in-Int.ensures.start c.within-in-Int.ensures.pos c.resolve-in-Int.ensures

pub returns-in-Text : goal.returns-in-Text
returns-in-Text c =
    text_resolved (table_in c.args.node) c.args.resolver c.args.out.out.now c.within-place.result.out.now c.resolve-in-Text.new.out.0 _ c.args.out.start c.args.out.pos c.within-place.result.start c.within-place.result.pos c.resolve-in-Text.result
    c.requires.room c.requires.blank (search rules) c.args.node.node.now c.in-Text.text c.in-Text.is c.within-place.ensures.bytes c.within-place.ensures.start c.within-place.ensures.pos c.text_kept.result c.text_kept.ensures c.resolve-in-Text.ensures

pub returns-in-Shared : goal.returns-in-Shared
returns-in-Shared c =
    shared_resolved (table_in c.args.node) c.args.resolver c.args.out.out.now c.within-place-in-Shared.result.out.now c.resolve_shared.new.out.0 _ c.args.out.start c.args.out.pos c.within-place-in-Shared.result.start c.within-place-in-Shared.result.pos c.resolve_shared.result
    c.requires.room c.requires.blank (search rules) c.args.node.node.now c.in-Shared.text c.in-Shared.is c.within-place-in-Shared.ensures.bytes c.within-place-in-Shared.ensures.start c.within-place-in-Shared.ensures.pos c.shared_kept.result c.shared_kept.ensures c.resolve_shared.ensures

pub returns-in-Maybe : goal.returns-in-Maybe
returns-in-Maybe c =
    maybe_resolved (table_in c.args.node) c.args.resolver c.args.out.out.now c.within-place-in-Maybe.result.out.now c.resolve_maybe.new.out.0 _ c.args.out.start c.args.out.pos c.within-place-in-Maybe.result.start c.within-place-in-Maybe.result.pos c.resolve_maybe.result
    c.requires.room c.requires.blank (search rules) c.args.node.node.now c.in-Maybe.content c.in-Maybe.is c.within-place-in-Maybe.ensures.bytes c.within-place-in-Maybe.ensures.start c.within-place-in-Maybe.ensures.pos c.maybe_kept.result c.maybe_kept.ensures (c.resolve_maybe.ensures (table_in c.args.node))

pub returns-in-List : goal.returns-in-List
returns-in-List c =
    list_resolved (table_in c.args.node) c.args.resolver c.args.out.out.now c.within-place-in-List.result.out.now c.resolve_list.new.out.0 _ c.args.out.start c.args.out.pos c.within-place-in-List.result.start c.within-place-in-List.result.pos c.resolve_list.result
    c.requires.room c.requires.blank (search rules) c.args.node.node.now c.in-List.nodes c.in-List.is c.within-place-in-List.ensures.bytes c.within-place-in-List.ensures.start c.within-place-in-List.ensures.pos c.list_kept.result c.list_kept.ensures (c.resolve_list.ensures (table_in c.args.node))

pub returns-in-Ordered : goal.returns-in-Ordered
returns-in-Ordered c =
    ordered_resolved (table_in c.args.node) c.args.resolver c.args.out.out.now c.within-place-in-Ordered.result.out.now c.resolve_ordered.new.out.0 _ c.args.out.start c.args.out.pos c.within-place-in-Ordered.result.start c.within-place-in-Ordered.result.pos c.resolve_ordered.result
    c.requires.room c.requires.blank (search rules) c.args.node.node.now c.in-Ordered.map c.in-Ordered.is c.within-place-in-Ordered.ensures.bytes c.within-place-in-Ordered.ensures.start c.within-place-in-Ordered.ensures.pos c.ordered_kept.result c.ordered_kept.ensures (c.resolve_ordered.ensures (table_in c.args.node))

pub returns-in-Hashed : goal.returns-in-Hashed
returns-in-Hashed c =
    hashed_resolved (table_in c.args.node) c.args.resolver c.args.out.out.now c.within-place-in-Hashed.result.out.now c.resolve_hashed.new.out.0 _ c.args.out.start c.args.out.pos c.within-place-in-Hashed.result.start c.within-place-in-Hashed.result.pos c.resolve_hashed.result
    c.requires.room c.requires.blank (search rules) c.args.node.node.now c.in-Hashed.map c.in-Hashed.is c.within-place-in-Hashed.ensures.bytes c.within-place-in-Hashed.ensures.start c.within-place-in-Hashed.ensures.pos c.hashed_kept.result c.hashed_kept.ensures (c.resolve_hashed.ensures (table_in c.args.node))

pub returns-in-Kept : goal.returns-in-Kept
returns-in-Kept c =
    kept_resolved (table_in c.args.node) c.args.resolver c.args.out.out.now c.within-place-in-Kept.result.out.now c.resolve_kept.new.out.0 _ c.args.out.start c.args.out.pos c.within-place-in-Kept.result.start c.within-place-in-Kept.result.pos c.resolve_kept.result
    c.requires.room c.requires.blank (search rules) c.args.node.node.now c.in-Kept.pairs c.in-Kept.is c.within-place-in-Kept.ensures.bytes c.within-place-in-Kept.ensures.start c.within-place-in-Kept.ensures.pos c.index_kept.result c.index_kept.ensures (c.resolve_kept.ensures (table_in c.args.node))

pub returns-in-Whole : goal.returns-in-Whole
returns-in-Whole c =
    whole_resolved (table_in c.args.node) c.args.resolver c.args.out.out.now c.within-place-in-Whole.result.out.now c.resolve_whole.new.out.0 _ c.args.out.start c.args.out.pos c.within-place-in-Whole.result.start c.within-place-in-Whole.result.pos c.resolve_whole.result
    c.requires.room c.requires.blank (search rules) c.args.node.node.now c.in-Whole.field-0 c.in-Whole.is c.within-place-in-Whole.ensures.bytes c.within-place-in-Whole.ensures.start c.within-place-in-Whole.ensures.pos c.whole_kept.result c.whole_kept.ensures (c.resolve_whole.ensures (table_in c.args.node))
