use Rattle.std.proofs.Common.{◌≡◌, ◌∙◌, rules, arith, Ok, Err, [], map, sym, ap, ap₂, subst, refl, inl, inr, append-nil}
use Rattle.archive_shape_layout.specs.Shape.Pointee.{sized}
use Rattle.archive_shape.specs.Bytes.{zeros}
use Rattle.archive_shape.specs.Sharing.{progress_of}
use Rattle.archive_shape_layout.specs.Writing.{WriterMembers}
use Rattle.archive_shape_layout.specs.Progress.{Starts, Finishes}
use Rattle.archive_shape_layout.specs.Progress.Progress.{unmet, begun, ended}
use Rattle.archive_forms_laws.specs.State.{with_begun}
use Rattle.archive_forms_laws.specs.Serializing.{Serializes}
use Rattle.archive_forms_laws.specs.Shared.{shared_padding}
use Rattle.archive_forms_laws.specs.Pointers.{box_spelling, slice_spelling}
use Rattle.archive_forms_writing.specs.Steps.{IsElement}
use Rattle.archive_core_serializing.proofs.Once.{Untouched, found, pending, at_then, stopped_in_data, filled, finished}
use Rattle.cabinet_text_grammar.specs.Tree.{depth}
use Rattle.cabinet_text_grammar.specs.Wholes.{numbered, IsNumbered, IsTable}
use Rattle.cabinet_documents.specs.Node.{node_shape}
use Rattle.cabinet_documents.specs.SharedKeys.{key_of_number, key_of_whole}
use Rattle.cabinet_documents.specs.Spelling.{node_spelling}
use Rattle.cabinet_text_nodes.specs.View.{node_tree, table_of}
use Rattle.cabinet_archived.specs.Archived.{archived_as, table_in, tree_numbered}
use Rattle.cabinet_archived.specs.declared.node_in.NodeIn.{NodeIn}
use Rattle.cabinet_archived.proofs.Wholes.{some_numbered, some_written, some_stopped, maybe_numbered, list_numbered, ordered_numbered, hashed_numbered, kept_numbered, maybe_deep, list_deep, ordered_deep, hashed_deep, kept_deep, whole_within, whole_deep, number_is, entry_is, entry_numbered, no_padding, wrote_none}
use Rattle.cabinet_archived.proofs.Written.{depth_within, box_written, list_written, list_stopped, pairs_written, table_written, element_below, pair_below, element_numbered, pair_numbered, only_element, text_wrote, shared_wrote, shared_refused, maybe_wrote, maybe_refused, list_wrote, list_refused, ordered_wrote, ordered_refused, hashed_wrote, hashed_refused, index_written, kept_wrote, kept_refused, whole_wrote, whole_refused}
use Rattle.cabinet_archived.proofs.writing.+serialize.Goals as goal

pub serialize_list-serialize_slice_with_each-returns-in_err-resolver : goal.serialize_list-serialize_slice_with_each-returns-in_err-resolver
serialize_list-serialize_slice_with_each-returns-in_err-resolver g t c = λ st at.
    let is : c.from_residual.result ≡ Err c.in_err-resolver.field-0.0 = search rules in
    rw is (c.in_err-resolver.ensures st at)

pub serialize_list-serialize_slice_with_each-requires-clause-takes : goal.serialize_list-serialize_slice_with_each-requires-clause-takes
serialize_list-serialize_slice_with_each-requires-clause-takes g t c = λ x s element room state.
    let is = subst (λ ns. IsElement ns x.now) c.as_slice.ensures.value element in
    let below = element_below (table_of c.args.wholes.now) c.args.nodes.now.items x.now is in
    let known = element_numbered (table_of c.args.wholes.now) c.args.nodes.now.items x.now c.requires.numbered is in
    search (rules, below, known)

pub serialize_list-returns : goal.serialize_list-returns
serialize_list-returns g t c =
    let m : WriterMembers g.row.S.Denot = record { known = g.S.Registry.known; pos = g.S.Positional.pos; OBSERVABLE = g.S.Writer.OBSERVABLE; COUNTS = g.S.Writer.COUNTS; contents = g.S.Writer.contents; failures = g.S.Writer.failures; last_error = g.S.Writer.last_error } in
    let h = subst (λ ns. Serializes (slice_spelling node_shape (archived_as (table_of c.args.wholes.now))) m ns c.args.serializer.now c.serialize_slice_with_each.new.serializer (Ok c.in_ok-pos.pos)) c.as_slice.ensures.value c.in_ok-pos.ensures in
    list_written (table_of c.args.wholes.now) m c.args.nodes.now.items c.args.serializer.now c.serialize_slice_with_each.new.serializer c.in_ok-pos.pos h

pub serialize_list-returns-in_err-pos : goal.serialize_list-returns-in_err-pos
serialize_list-returns-in_err-pos g t c =
    let m : WriterMembers g.row.S.Denot = record { known = g.S.Registry.known; pos = g.S.Positional.pos; OBSERVABLE = g.S.Writer.OBSERVABLE; COUNTS = g.S.Writer.COUNTS; contents = g.S.Writer.contents; failures = g.S.Writer.failures; last_error = g.S.Writer.last_error } in
    let h = subst (λ ns. Serializes (slice_spelling node_shape (archived_as (table_of c.args.wholes.now))) m ns c.args.serializer.now c.serialize_slice_with_each.new.serializer (Err c.in_err-pos.field-0.0)) c.as_slice.ensures.value c.in_err-pos.ensures in
    let is : c.from_residual.result ≡ Err c.in_err-pos.field-0.0 = search rules in
    rw is (list_stopped (table_of c.args.wholes.now) m c.args.nodes.now.items c.args.serializer.now c.serialize_slice_with_each.new.serializer c.in_err-pos.field-0.0 h)

pub serialize_maybe-serialize_one_each-returns-in_err-resolver : goal.serialize_maybe-serialize_one_each-returns-in_err-resolver
serialize_maybe-serialize_one_each-returns-in_err-resolver g t c = λ st at.
    let is : c.from_residual.result ≡ Err c.in_err-resolver.field-0.0 = search rules in
    rw is (c.in_err-resolver.ensures st at)

pub serialize_maybe-serialize_one_each-requires-clause-takes : goal.serialize_maybe-serialize_one_each-requires-clause-takes
serialize_maybe-serialize_one_each-requires-clause-takes g t c = λ x s element room state.
    let is = only_element _ x.now element in
    let at : node_tree (table_of c.args.wholes.now) c.deref.result.now ≡ node_tree (table_of c.args.wholes.now) c.in-Some.inner.value = ap (node_tree (table_of c.args.wholes.now)) c.deref.ensures in
    let same : node_tree (table_in x.now) x.now.node.now ≡ node_tree (table_of c.args.wholes.now) c.in-Some.inner.value = ap (λ (y : NodeIn). node_tree (table_in y) y.node.now) is ∙ at in
    let table : IsTable (table_in x.now) = subst (λ (y : NodeIn). IsTable (table_in y)) (sym is) c.requires.table in
    let known : IsNumbered (table_in x.now) (node_tree (table_in x.now) x.now.node.now) =
    subst (λ (y : NodeIn). IsNumbered (table_in y) (node_tree (table_in y) y.node.now)) (sym is) (subst (IsNumbered (table_of c.args.wholes.now)) (sym at) (some_numbered (table_of c.args.wholes.now) c.args.content.now c.in-Some.inner c.in-Some.is c.requires.numbered)) in
    let deep : depth_within (table_of c.args.wholes.now) c.args.content.now ≡ depth (node_tree (table_of c.args.wholes.now) c.in-Some.inner.value) = ap (depth_within (table_of c.args.wholes.now)) c.in-Some.is in
    (search (rules, arith, deep), ((λ life among. among), (same, (table, (known, (room, state))))))

pub serialize_maybe-returns : goal.serialize_maybe-returns
serialize_maybe-returns g t c =
    let m : WriterMembers g.row.S.Denot = record { known = g.S.Registry.known; pos = g.S.Positional.pos; OBSERVABLE = g.S.Writer.OBSERVABLE; COUNTS = g.S.Writer.COUNTS; contents = g.S.Writer.contents; failures = g.S.Writer.failures; last_error = g.S.Writer.last_error } in
    some_written (table_of c.args.wholes.now) m c.args.content.now c.in-Some.inner c.deref.result.now c.args.serializer.now c.serialize_one_each.new.serializer c.in_ok-pos.pos c.in-Some.is c.deref.ensures c.in_ok-pos.ensures

pub serialize_maybe-returns-in_err-pos : goal.serialize_maybe-returns-in_err-pos
serialize_maybe-returns-in_err-pos g t c =
    let m : WriterMembers g.row.S.Denot = record { known = g.S.Registry.known; pos = g.S.Positional.pos; OBSERVABLE = g.S.Writer.OBSERVABLE; COUNTS = g.S.Writer.COUNTS; contents = g.S.Writer.contents; failures = g.S.Writer.failures; last_error = g.S.Writer.last_error } in
    let is : c.from_residual.result ≡ Err c.in_err-pos.field-0.0 = search rules in
    rw is (some_stopped (table_of c.args.wholes.now) m c.args.content.now c.in-Some.inner c.deref.result.now c.args.serializer.now c.serialize_one_each.new.serializer c.in_err-pos.field-0.0 c.in-Some.is c.deref.ensures c.in_err-pos.ensures)

pub serialize_node-returns-in_ok-serialize-in-Text : goal.serialize_node-returns-in_ok-serialize-in-Text
serialize_node-returns-in_ok-serialize-in-Text g t c =
    let m : WriterMembers g.row.S.Denot = record { known = g.S.Registry.known; pos = g.S.Positional.pos; OBSERVABLE = g.S.Writer.OBSERVABLE; COUNTS = g.S.Writer.COUNTS; contents = g.S.Writer.contents; failures = g.S.Writer.failures; last_error = g.S.Writer.last_error } in
    text_wrote (table_in c.args.node) m c.args.node.node.now c.args.serializer.now c.serialize.new.serializer c.in-Text.text c.in_ok-serialize-in-Text.field-0 c.in-Text.is c.in_ok-serialize-in-Text.ensures

pub serialize_node-returns-in_ok-pos-in-Shared : goal.serialize_node-returns-in_ok-pos-in-Shared
serialize_node-returns-in_ok-pos-in-Shared g t c =
    let m : WriterMembers g.row.S.Denot = record { known = g.S.Registry.known; pos = g.S.Positional.pos; OBSERVABLE = g.S.Writer.OBSERVABLE; COUNTS = g.S.Writer.COUNTS; contents = g.S.Writer.contents; failures = g.S.Writer.failures; last_error = g.S.Writer.last_error } in
    shared_wrote (table_in c.args.node) m c.args.node.node.now c.args.serializer.now c.serialize_text.new.self c.in-Shared.text c.as_str.result.now c.in_ok-pos-in-Shared.pos c.in-Shared.is c.as_str.ensures.value c.in_ok-pos-in-Shared.ensures

pub serialize_node-returns-in_err-pos-in-Shared : goal.serialize_node-returns-in_err-pos-in-Shared
serialize_node-returns-in_err-pos-in-Shared g t c =
    let m : WriterMembers g.row.S.Denot = record { known = g.S.Registry.known; pos = g.S.Positional.pos; OBSERVABLE = g.S.Writer.OBSERVABLE; COUNTS = g.S.Writer.COUNTS; contents = g.S.Writer.contents; failures = g.S.Writer.failures; last_error = g.S.Writer.last_error } in
    let is : c.from_residual-in_err-pos-in-Shared.result ≡ Err c.in_err-pos-in-Shared.field-0.0 = search rules in
    rw is (shared_refused (table_in c.args.node) m c.args.node.node.now c.args.serializer.now c.serialize_text.new.self c.in-Shared.text c.as_str.result.now c.in_err-pos-in-Shared.field-0.0 c.in-Shared.is c.as_str.ensures.value c.in_err-pos-in-Shared.ensures)

pub serialize_node-returns-in_ok-kept-in-Maybe : goal.serialize_node-returns-in_ok-kept-in-Maybe
serialize_node-returns-in_ok-kept-in-Maybe g t c =
    let m : WriterMembers g.row.S.Denot = record { known = g.S.Registry.known; pos = g.S.Positional.pos; OBSERVABLE = g.S.Writer.OBSERVABLE; COUNTS = g.S.Writer.COUNTS; contents = g.S.Writer.contents; failures = g.S.Writer.failures; last_error = g.S.Writer.last_error } in
    maybe_wrote (table_in c.args.node) m c.args.node.node.now c.args.serializer.now c.serialize_maybe.new.serializer c.in-Maybe.content c.in_ok-kept-in-Maybe.kept c.in-Maybe.is c.in_ok-kept-in-Maybe.ensures

pub serialize_node-returns-in_err-kept-in-Maybe : goal.serialize_node-returns-in_err-kept-in-Maybe
serialize_node-returns-in_err-kept-in-Maybe g t c =
    let m : WriterMembers g.row.S.Denot = record { known = g.S.Registry.known; pos = g.S.Positional.pos; OBSERVABLE = g.S.Writer.OBSERVABLE; COUNTS = g.S.Writer.COUNTS; contents = g.S.Writer.contents; failures = g.S.Writer.failures; last_error = g.S.Writer.last_error } in
    let is : c.from_residual-in_err-kept-in-Maybe.result ≡ Err c.in_err-kept-in-Maybe.field-0.0 = search rules in
    rw is (maybe_refused (table_in c.args.node) m c.args.node.node.now c.args.serializer.now c.serialize_maybe.new.serializer c.in-Maybe.content c.in_err-kept-in-Maybe.field-0.0 c.in-Maybe.is c.in_err-kept-in-Maybe.ensures)

pub serialize_node-returns-in_ok-kept-in-List : goal.serialize_node-returns-in_ok-kept-in-List
serialize_node-returns-in_ok-kept-in-List g t c =
    let m : WriterMembers g.row.S.Denot = record { known = g.S.Registry.known; pos = g.S.Positional.pos; OBSERVABLE = g.S.Writer.OBSERVABLE; COUNTS = g.S.Writer.COUNTS; contents = g.S.Writer.contents; failures = g.S.Writer.failures; last_error = g.S.Writer.last_error } in
    list_wrote (table_in c.args.node) m c.args.node.node.now c.args.serializer.now c.serialize_list.new.serializer c.in-List.nodes c.in_ok-kept-in-List.kept c.in-List.is c.in_ok-kept-in-List.ensures

pub serialize_node-returns-in_err-kept-in-List : goal.serialize_node-returns-in_err-kept-in-List
serialize_node-returns-in_err-kept-in-List g t c =
    let m : WriterMembers g.row.S.Denot = record { known = g.S.Registry.known; pos = g.S.Positional.pos; OBSERVABLE = g.S.Writer.OBSERVABLE; COUNTS = g.S.Writer.COUNTS; contents = g.S.Writer.contents; failures = g.S.Writer.failures; last_error = g.S.Writer.last_error } in
    let is : c.from_residual-in_err-kept-in-List.result ≡ Err c.in_err-kept-in-List.field-0.0 = search rules in
    rw is (list_refused (table_in c.args.node) m c.args.node.node.now c.args.serializer.now c.serialize_list.new.serializer c.in-List.nodes c.in_err-kept-in-List.field-0.0 c.in-List.is c.in_err-kept-in-List.ensures)

pub serialize_ordered-serialize_entries_with_each+arg5-returns-in_err-resolver : goal.serialize_ordered-serialize_entries_with_each+arg5-returns-in_err-resolver
serialize_ordered-serialize_entries_with_each+arg5-returns-in_err-resolver g t c = λ st at.
    let is : c.from_residual.result ≡ Err c.in_err-resolver.field-0.0 = search rules in
    rw is (c.in_err-resolver.ensures st at)

pub serialize_ordered-serialize_entries_with_each-requires-clause-takes_value : goal.serialize_ordered-serialize_entries_with_each-requires-clause-takes_value
serialize_ordered-serialize_entries_with_each-requires-clause-takes_value g t c = λ x s element room state.
    let below = pair_below (table_of c.args.wholes.now) c.args.map.now.entries x.now element in
    let known = pair_numbered (table_of c.args.wholes.now) c.args.map.now.entries x.now c.requires.numbered element in
    search (rules, below, known)

pub serialize_ordered-returns : goal.serialize_ordered-returns
serialize_ordered-returns g t c = pairs_written (table_of c.args.wholes.now) _ c.args.map.now.entries _ _ _ c.serialize_entries_with_each.ensures

pub serialize_node-returns-in_ok-kept-in-Ordered : goal.serialize_node-returns-in_ok-kept-in-Ordered
serialize_node-returns-in_ok-kept-in-Ordered g t c =
    let m : WriterMembers g.row.S.Denot = record { known = g.S.Registry.known; pos = g.S.Positional.pos; OBSERVABLE = g.S.Writer.OBSERVABLE; COUNTS = g.S.Writer.COUNTS; contents = g.S.Writer.contents; failures = g.S.Writer.failures; last_error = g.S.Writer.last_error } in
    ordered_wrote (table_in c.args.node) m c.args.node.node.now c.args.serializer.now c.serialize_ordered.new.serializer c.in-Ordered.map c.in_ok-kept-in-Ordered.kept c.in-Ordered.is c.in_ok-kept-in-Ordered.ensures

pub serialize_node-returns-in_err-kept-in-Ordered : goal.serialize_node-returns-in_err-kept-in-Ordered
serialize_node-returns-in_err-kept-in-Ordered g t c =
    let m : WriterMembers g.row.S.Denot = record { known = g.S.Registry.known; pos = g.S.Positional.pos; OBSERVABLE = g.S.Writer.OBSERVABLE; COUNTS = g.S.Writer.COUNTS; contents = g.S.Writer.contents; failures = g.S.Writer.failures; last_error = g.S.Writer.last_error } in
    let is : c.from_residual-in_err-kept-in-Ordered.result ≡ Err c.in_err-kept-in-Ordered.field-0.0 = search rules in
    rw is (ordered_refused (table_in c.args.node) m c.args.node.node.now c.args.serializer.now c.serialize_ordered.new.serializer c.in-Ordered.map c.in_err-kept-in-Ordered.field-0.0 c.in-Ordered.is c.in_err-kept-in-Ordered.ensures)

pub serialize_hashed-serialize_entries_with_each+arg5-returns-in_err-resolver : goal.serialize_hashed-serialize_entries_with_each+arg5-returns-in_err-resolver
serialize_hashed-serialize_entries_with_each+arg5-returns-in_err-resolver g t c = λ st at.
    let is : c.from_residual.result ≡ Err c.in_err-resolver.field-0.0 = search rules in
    rw is (c.in_err-resolver.ensures st at)

pub serialize_hashed-serialize_entries_with_each-requires-clause-takes_value : goal.serialize_hashed-serialize_entries_with_each-requires-clause-takes_value
serialize_hashed-serialize_entries_with_each-requires-clause-takes_value g t c = λ x s element room state.
    let below = pair_below (table_of c.args.wholes.now) c.args.map.now.entries x.now element in
    let known = pair_numbered (table_of c.args.wholes.now) c.args.map.now.entries x.now c.requires.numbered element in
    search (rules, below, known)

pub serialize_hashed-returns : goal.serialize_hashed-returns
serialize_hashed-returns g t c = table_written (table_of c.args.wholes.now) _ c.args.map.now.entries _ _ _ c.serialize_entries_with_each.ensures

pub serialize_node-returns-in_ok-kept-in-Hashed : goal.serialize_node-returns-in_ok-kept-in-Hashed
serialize_node-returns-in_ok-kept-in-Hashed g t c =
    let m : WriterMembers g.row.S.Denot = record { known = g.S.Registry.known; pos = g.S.Positional.pos; OBSERVABLE = g.S.Writer.OBSERVABLE; COUNTS = g.S.Writer.COUNTS; contents = g.S.Writer.contents; failures = g.S.Writer.failures; last_error = g.S.Writer.last_error } in
    hashed_wrote (table_in c.args.node) m c.args.node.node.now c.args.serializer.now c.serialize_hashed.new.serializer c.in-Hashed.map c.in_ok-kept-in-Hashed.kept c.in-Hashed.is c.in_ok-kept-in-Hashed.ensures

pub serialize_node-returns-in_err-kept-in-Hashed : goal.serialize_node-returns-in_err-kept-in-Hashed
serialize_node-returns-in_err-kept-in-Hashed g t c =
    let m : WriterMembers g.row.S.Denot = record { known = g.S.Registry.known; pos = g.S.Positional.pos; OBSERVABLE = g.S.Writer.OBSERVABLE; COUNTS = g.S.Writer.COUNTS; contents = g.S.Writer.contents; failures = g.S.Writer.failures; last_error = g.S.Writer.last_error } in
    let is : c.from_residual-in_err-kept-in-Hashed.result ≡ Err c.in_err-kept-in-Hashed.field-0.0 = search rules in
    rw is (hashed_refused (table_in c.args.node) m c.args.node.node.now c.args.serializer.now c.serialize_hashed.new.serializer c.in-Hashed.map c.in_err-kept-in-Hashed.field-0.0 c.in-Hashed.is c.in_err-kept-in-Hashed.ensures)

pub serialize_kept-serialize_entries_with_each+arg5-returns-in_err-resolver : goal.serialize_kept-serialize_entries_with_each+arg5-returns-in_err-resolver
serialize_kept-serialize_entries_with_each+arg5-returns-in_err-resolver g t c = λ st at.
    let is : c.from_residual.result ≡ Err c.in_err-resolver.field-0.0 = search rules in
    rw is (c.in_err-resolver.ensures st at)

pub serialize_kept-serialize_entries_with_each-requires-clause-takes_value : goal.serialize_kept-serialize_entries_with_each-requires-clause-takes_value
serialize_kept-serialize_entries_with_each-requires-clause-takes_value g t c = λ x s element room state.
    let is = subst (λ ps. IsElement (map (λ e. e.1) ps) x.now) c.as_slice.ensures.value element in
    let below = pair_below (table_of c.args.wholes.now) c.args.pairs.now.items x.now is in
    let known = pair_numbered (table_of c.args.wholes.now) c.args.pairs.now.items x.now c.requires.numbered is in
    search (rules, below, known)

pub serialize_kept-returns : goal.serialize_kept-returns
serialize_kept-returns g t c = index_written (table_of c.args.wholes.now) _ c.args.pairs.now.items _ _ _ (rw (sym c.as_slice.ensures.value) c.serialize_entries_with_each.ensures)

pub serialize_node-returns-in_ok-kept-in-Kept : goal.serialize_node-returns-in_ok-kept-in-Kept
serialize_node-returns-in_ok-kept-in-Kept g t c =
    let m : WriterMembers g.row.S.Denot = record { known = g.S.Registry.known; pos = g.S.Positional.pos; OBSERVABLE = g.S.Writer.OBSERVABLE; COUNTS = g.S.Writer.COUNTS; contents = g.S.Writer.contents; failures = g.S.Writer.failures; last_error = g.S.Writer.last_error } in
    kept_wrote (table_in c.args.node) m c.args.node.node.now c.args.serializer.now c.serialize_kept.new.serializer c.in-Kept.pairs c.in_ok-kept-in-Kept.kept c.in-Kept.is c.in_ok-kept-in-Kept.ensures

pub serialize_node-returns-in_err-kept-in-Kept : goal.serialize_node-returns-in_err-kept-in-Kept
serialize_node-returns-in_err-kept-in-Kept g t c =
    let m : WriterMembers g.row.S.Denot = record { known = g.S.Registry.known; pos = g.S.Positional.pos; OBSERVABLE = g.S.Writer.OBSERVABLE; COUNTS = g.S.Writer.COUNTS; contents = g.S.Writer.contents; failures = g.S.Writer.failures; last_error = g.S.Writer.last_error } in
    let is : c.from_residual-in_err-kept-in-Kept.result ≡ Err c.in_err-kept-in-Kept.field-0.0 = search rules in
    rw is (kept_refused (table_in c.args.node) m c.args.node.node.now c.args.serializer.now c.serialize_kept.new.serializer c.in-Kept.pairs c.in_err-kept-in-Kept.field-0.0 c.in-Kept.is c.in_err-kept-in-Kept.ensures)

pub serialize_node-serialize_maybe-requires : goal.serialize_node-serialize_maybe-requires
serialize_node-serialize_maybe-requires g t c =
    let known = maybe_numbered (table_in c.args.node) c.args.node.node.now c.requires.numbered c.in-Maybe.content c.in-Maybe.is in
    let deep = maybe_deep (table_in c.args.node) c.args.node.node.now c.in-Maybe.content c.in-Maybe.is in
    search (rules, arith, known, deep)

pub serialize_node-serialize_list-requires : goal.serialize_node-serialize_list-requires
serialize_node-serialize_list-requires g t c =
    let known = list_numbered (table_in c.args.node) c.args.node.node.now c.requires.numbered c.in-List.nodes c.in-List.is in
    let deep = list_deep (table_in c.args.node) c.args.node.node.now c.in-List.nodes c.in-List.is in
    search (rules, arith, known, deep)

pub serialize_node-serialize_ordered-requires : goal.serialize_node-serialize_ordered-requires
serialize_node-serialize_ordered-requires g t c =
    let known = ordered_numbered (table_in c.args.node) c.args.node.node.now c.requires.numbered c.in-Ordered.map c.in-Ordered.is in
    let deep = ordered_deep (table_in c.args.node) c.args.node.node.now c.in-Ordered.map c.in-Ordered.is in
    search (rules, arith, known, deep)

pub serialize_node-serialize_hashed-requires : goal.serialize_node-serialize_hashed-requires
serialize_node-serialize_hashed-requires g t c =
    let known = hashed_numbered (table_in c.args.node) c.args.node.node.now c.requires.numbered c.in-Hashed.map c.in-Hashed.is in
    let deep = hashed_deep (table_in c.args.node) c.args.node.node.now c.in-Hashed.map c.in-Hashed.is in
    search (rules, arith, known, deep)

pub serialize_node-serialize_kept-requires : goal.serialize_node-serialize_kept-requires
serialize_node-serialize_kept-requires g t c =
    let known = kept_numbered (table_in c.args.node) c.args.node.node.now c.requires.numbered c.in-Kept.pairs c.in-Kept.is in
    let deep = kept_deep (table_in c.args.node) c.args.node.node.now c.in-Kept.pairs c.in-Kept.is in
    search (rules, arith, known, deep)

pub serialize_node-serialize_whole-requires : goal.serialize_node-serialize_whole-requires
serialize_node-serialize_whole-requires g t c =
    let within = whole_within c.args.node.wholes.now c.requires.table c.args.node.node.now c.in-Whole.number c.in-Whole.is c.requires.numbered in
    let deep = whole_deep (table_in c.args.node) c.args.node.node.now c.in-Whole.number c.in-Whole.is in
    search (rules, arith, within, deep)

pub serialize_node-returns-in_ok-pos-in-Whole : goal.serialize_node-returns-in_ok-pos-in-Whole
serialize_node-returns-in_ok-pos-in-Whole g t c =
    let m : WriterMembers g.row.S.Denot = record { known = g.S.Registry.known; pos = g.S.Positional.pos; OBSERVABLE = g.S.Writer.OBSERVABLE; COUNTS = g.S.Writer.COUNTS; contents = g.S.Writer.contents; failures = g.S.Writer.failures; last_error = g.S.Writer.last_error } in
    whole_wrote (table_in c.args.node) m c.args.node.node.now c.args.serializer.now c.serialize_whole.new.serializer c.in-Whole.number c.in_ok-pos-in-Whole.pos c.in-Whole.is c.in_ok-pos-in-Whole.ensures

pub serialize_node-returns-in_err-pos-in-Whole : goal.serialize_node-returns-in_err-pos-in-Whole
serialize_node-returns-in_err-pos-in-Whole g t c =
    let m : WriterMembers g.row.S.Denot = record { known = g.S.Registry.known; pos = g.S.Positional.pos; OBSERVABLE = g.S.Writer.OBSERVABLE; COUNTS = g.S.Writer.COUNTS; contents = g.S.Writer.contents; failures = g.S.Writer.failures; last_error = g.S.Writer.last_error } in
    let is : c.from_residual-in_err-pos-in-Whole.result ≡ Err c.in_err-pos-in-Whole.field-0.0 = search rules in
    rw is (whole_refused (table_in c.args.node) m c.args.node.node.now c.args.serializer.now c.serialize_whole.new.serializer c.in-Whole.number c.in_err-pos-in-Whole.field-0.0 c.in-Whole.is c.in_err-pos-in-Whole.ensures)

pub serialize_whole-serialize_one_each-returns-in_err-resolver : goal.serialize_whole-serialize_one_each-returns-in_err-resolver
serialize_whole-serialize_one_each-returns-in_err-resolver g t c = λ st at.
    let is : c.from_residual.result ≡ Err c.in_err-resolver.field-0.0 = search rules in
    rw is (c.in_err-resolver.ensures st at)

pub serialize_whole-returns-in-Pending : goal.serialize_whole-returns-in-Pending
serialize_whole-returns-in-Pending g t c = λ st at.
    let m : WriterMembers g.row.S.Denot = record { known = g.S.Registry.known; pos = g.S.Positional.pos; OBSERVABLE = g.S.Writer.OBSERVABLE; COUNTS = g.S.Writer.COUNTS; contents = g.S.Writer.contents; failures = g.S.Writer.failures; last_error = g.S.Writer.last_error } in
    let q = sized node_shape in
    let wholes = table_of c.args.wholes.now in
    let x = tree_numbered (numbered wholes c.args.number) in
    let k = key_of_whole wholes x in
    let w = box_spelling node_shape (node_spelling wholes) in
    let old = c.args.serializer.now in
    let mid = c.start_whole.new.self in
    let u : Untouched q (λ y. 1) k w m x old mid = record { contents = c.start_whole.ensures.contents; pos = c.start_whole.ensures.pos; failures = c.start_whole.ensures.failures } in
    let key : key_of_number c.args.number ≡ k = ap key_of_number (sym (number_is c.args.wholes.now c.requires.table c.args.number c.requires.within)) in
    let starts : Starts (m.known old) (m.known mid) k begun = subst (λ n. Starts (m.known old) (m.known mid) n begun) key (subst (λ s. Starts (m.known old) (m.known mid) (key_of_number c.args.number) (progress_of s)) c.in-Pending.is c.in_ok-start_whole.ensures.starts) in
    pending q (λ y. 1) k w m x old mid u st at starts

pub serialize_whole-returns-in-Finished : goal.serialize_whole-returns-in-Finished
serialize_whole-returns-in-Finished g t c = λ st at.
    let m : WriterMembers g.row.S.Denot = record { known = g.S.Registry.known; pos = g.S.Positional.pos; OBSERVABLE = g.S.Writer.OBSERVABLE; COUNTS = g.S.Writer.COUNTS; contents = g.S.Writer.contents; failures = g.S.Writer.failures; last_error = g.S.Writer.last_error } in
    let q = sized node_shape in
    let wholes = table_of c.args.wholes.now in
    let x = tree_numbered (numbered wholes c.args.number) in
    let k = key_of_whole wholes x in
    let w = box_spelling node_shape (node_spelling wholes) in
    let old = c.args.serializer.now in
    let mid = c.start_whole.new.self in
    let u : Untouched q (λ y. 1) k w m x old mid = record { contents = c.start_whole.ensures.contents; pos = c.start_whole.ensures.pos; failures = c.start_whole.ensures.failures } in
    let key : key_of_number c.args.number ≡ k = ap key_of_number (sym (number_is c.args.wholes.now c.requires.table c.args.number c.requires.within)) in
    let starts : Starts (m.known old) (m.known mid) k (ended c.in-Finished.pos) = subst (λ n. Starts (m.known old) (m.known mid) n (ended c.in-Finished.pos)) key (subst (λ s. Starts (m.known old) (m.known mid) (key_of_number c.args.number) (progress_of s)) c.in-Finished.is c.in_ok-start_whole.ensures.starts) in
    found q (λ y. 1) k w m x old mid u st at c.in-Finished.pos starts

pub serialize_whole-returns-in_err-start_whole : goal.serialize_whole-returns-in_err-start_whole
serialize_whole-returns-in_err-start_whole g t c = λ st at.
    let m : WriterMembers g.row.S.Denot = record { known = g.S.Registry.known; pos = g.S.Positional.pos; OBSERVABLE = g.S.Writer.OBSERVABLE; COUNTS = g.S.Writer.COUNTS; contents = g.S.Writer.contents; failures = g.S.Writer.failures; last_error = g.S.Writer.last_error } in
    let is : c.from_residual.result ≡ Err c.in_err-start_whole.field-0.0 = search rules in
    rw is (inr (record {
      is_cut = λ tells. record { written = []; lost = _; new_is = c.in_err-start_whole.ensures.contents ∙ sym (append-nil (m.contents c.args.serializer.now)); piece_is = refl };
      is_quiet = c.in_err-start_whole.ensures.failures;
      reason = inl c.in_err-start_whole.ensures.starts.0;
    }))

pub serialize_whole-serialize_one_each-requires-clause-state : goal.serialize_whole-serialize_one_each-requires-clause-state
serialize_whole-serialize_one_each-requires-clause-state g t c =
    let m : WriterMembers g.row.S.Denot = record { known = g.S.Registry.known; pos = g.S.Positional.pos; OBSERVABLE = g.S.Writer.OBSERVABLE; COUNTS = g.S.Writer.COUNTS; contents = g.S.Writer.contents; failures = g.S.Writer.failures; last_error = g.S.Writer.last_error } in
    let q = sized node_shape in
    let wholes = table_of c.args.wholes.now in
    let x = tree_numbered (numbered wholes c.args.number) in
    let k = key_of_whole wholes x in
    let w = box_spelling node_shape (node_spelling wholes) in
    let old = c.args.serializer.now in
    let mid = c.start_whole.new.self in
    let u : Untouched q (λ y. 1) k w m x old mid = record { contents = c.start_whole.ensures.contents; pos = c.start_whole.ensures.pos; failures = c.start_whole.ensures.failures } in
    let key : key_of_number c.args.number ≡ k = ap key_of_number (sym (number_is c.args.wholes.now c.requires.table c.args.number c.requires.within)) in
    let starts : Starts (m.known old) (m.known mid) k unmet = subst (λ n. Starts (m.known old) (m.known mid) n unmet) key (subst (λ s. Starts (m.known old) (m.known mid) (key_of_number c.args.number) (progress_of s)) c.in-Started.is c.in_ok-start_whole.ensures.starts) in
    let was = c.requires.state in
    record { state = with_begun k was.state; is_at = at_then q (λ y. 1) k w m x old mid u was.state was.is_at starts }

pub serialize_whole-serialize_one_each-requires-clause-takes : goal.serialize_whole-serialize_one_each-requires-clause-takes
serialize_whole-serialize_one_each-requires-clause-takes g t c = λ x s element room state.
    let is = only_element _ x.now element in
    let same : node_tree (table_in x.now) x.now.node.now ≡ node_tree (table_of c.args.wholes.now) c.index-wholes-number.result = ap (λ (y : NodeIn). node_tree (table_in y) y.node.now) is in
    let table : IsTable (table_in x.now) = subst (λ (y : NodeIn). IsTable (table_in y)) (sym is) c.requires.table in
    let known : IsNumbered (table_in x.now) (node_tree (table_in x.now) x.now.node.now) =
    subst (λ (y : NodeIn). IsNumbered (table_in y) (node_tree (table_in y) y.node.now)) (sym is) (entry_numbered c.args.wholes.now c.requires.table c.args.number c.index-wholes-number.result c.requires.within c.index-wholes-number.is) in
    let deep = ap depth (entry_is c.args.wholes.now c.requires.table c.args.number c.index-wholes-number.result c.requires.within c.index-wholes-number.is) in
    (search (rules, arith, deep), ((λ life among. among), (same, (table, (known, (room, state))))))

pub serialize_whole-returns-in_err-pos : goal.serialize_whole-returns-in_err-pos
serialize_whole-returns-in_err-pos g t c = λ st at.
    let m : WriterMembers g.row.S.Denot = record { known = g.S.Registry.known; pos = g.S.Positional.pos; OBSERVABLE = g.S.Writer.OBSERVABLE; COUNTS = g.S.Writer.COUNTS; contents = g.S.Writer.contents; failures = g.S.Writer.failures; last_error = g.S.Writer.last_error } in
    let q = sized node_shape in
    let wholes = table_of c.args.wholes.now in
    let x = tree_numbered (numbered wholes c.args.number) in
    let k = key_of_whole wholes x in
    let w = box_spelling node_shape (node_spelling wholes) in
    let old = c.args.serializer.now in
    let mid = c.start_whole.new.self in
    let u : Untouched q (λ y. 1) k w m x old mid = record { contents = c.start_whole.ensures.contents; pos = c.start_whole.ensures.pos; failures = c.start_whole.ensures.failures } in
    let key : key_of_number c.args.number ≡ k = ap key_of_number (sym (number_is c.args.wholes.now c.requires.table c.args.number c.requires.within)) in
    let starts : Starts (m.known old) (m.known mid) k unmet = subst (λ n. Starts (m.known old) (m.known mid) n unmet) key (subst (λ s. Starts (m.known old) (m.known mid) (key_of_number c.args.number) (progress_of s)) c.in-Started.is c.in_ok-start_whole.ensures.starts) in
    let there = entry_is c.args.wholes.now c.requires.table c.args.number c.index-wholes-number.result c.requires.within c.index-wholes-number.is in
    let mid1 = c.serialize_one_each.new.serializer in
    let is : c.from_residual-in_err-pos.result ≡ Err c.in_err-pos.field-0.0 = search rules in
    rw is (stopped_in_data q (λ y. 1) k w m x old mid u st at starts mid1 c.in_err-pos.field-0.0
    (box_written wholes m c.index-wholes-number.result x mid mid1 (Err c.in_err-pos.field-0.0) there c.in_err-pos.ensures (with_begun k st) (at_then q (λ y. 1) k w m x old mid u st at starts)))

pub serialize_whole-returns : goal.serialize_whole-returns
serialize_whole-returns g t c = λ st at.
    let m : WriterMembers g.row.S.Denot = record { known = g.S.Registry.known; pos = g.S.Positional.pos; OBSERVABLE = g.S.Writer.OBSERVABLE; COUNTS = g.S.Writer.COUNTS; contents = g.S.Writer.contents; failures = g.S.Writer.failures; last_error = g.S.Writer.last_error } in
    let q = sized node_shape in
    let wholes = table_of c.args.wholes.now in
    let x = tree_numbered (numbered wholes c.args.number) in
    let k = key_of_whole wholes x in
    let w = box_spelling node_shape (node_spelling wholes) in
    let old = c.args.serializer.now in
    let mid = c.start_whole.new.self in
    let u : Untouched q (λ y. 1) k w m x old mid = record { contents = c.start_whole.ensures.contents; pos = c.start_whole.ensures.pos; failures = c.start_whole.ensures.failures } in
    let key : key_of_number c.args.number ≡ k = ap key_of_number (sym (number_is c.args.wholes.now c.requires.table c.args.number c.requires.within)) in
    let starts : Starts (m.known old) (m.known mid) k unmet = subst (λ n. Starts (m.known old) (m.known mid) n unmet) key (subst (λ s. Starts (m.known old) (m.known mid) (key_of_number c.args.number) (progress_of s)) c.in-Started.is c.in_ok-start_whole.ensures.starts) in
    let there = entry_is c.args.wholes.now c.requires.table c.args.number c.index-wholes-number.result c.requires.within c.index-wholes-number.is in
    let mid1 = c.serialize_one_each.new.serializer in
    let new = c.finish_whole.new.self in
    let pos = c.in_ok-pos.pos in
    let done = box_written wholes m c.index-wholes-number.result x mid mid1 (Ok pos) there c.in_ok-pos.ensures (with_begun k st) (at_then q (λ y. 1) k w m x old mid u st at starts) in
    let pad = ap₂ (λ a b. zeros (shared_padding a b)) done.1.0 done.1.2.stands ∙ no_padding wholes x (with_begun k st) done.1.1 in
    let all = filled q (λ y. 1) k w m x old mid u st at starts mid1 pos done.0 done.1.0 done.1.2 mid1 (wrote_none m mid1 _ pad) in
    let v : Untouched q (λ y. 1) k w m x mid1 new = record { contents = c.finish_whole.ensures.contents; pos = c.finish_whole.ensures.pos; failures = c.finish_whole.ensures.failures } in
    finished q (λ y. 1) k w m x old mid u st at starts mid1 new pos done.1.0 done.1.1 all v (Ok tt)
    (subst (λ n. Finishes (m.known mid1) (m.known new) n pos (Ok tt) (m.known mid1 n)) key c.in_ok-finish_whole.ensures.finishes)

pub serialize_whole-returns-in_err-finish_whole : goal.serialize_whole-returns-in_err-finish_whole
serialize_whole-returns-in_err-finish_whole g t c = λ st at.
    let m : WriterMembers g.row.S.Denot = record { known = g.S.Registry.known; pos = g.S.Positional.pos; OBSERVABLE = g.S.Writer.OBSERVABLE; COUNTS = g.S.Writer.COUNTS; contents = g.S.Writer.contents; failures = g.S.Writer.failures; last_error = g.S.Writer.last_error } in
    let q = sized node_shape in
    let wholes = table_of c.args.wholes.now in
    let x = tree_numbered (numbered wholes c.args.number) in
    let k = key_of_whole wholes x in
    let w = box_spelling node_shape (node_spelling wholes) in
    let old = c.args.serializer.now in
    let mid = c.start_whole.new.self in
    let u : Untouched q (λ y. 1) k w m x old mid = record { contents = c.start_whole.ensures.contents; pos = c.start_whole.ensures.pos; failures = c.start_whole.ensures.failures } in
    let key : key_of_number c.args.number ≡ k = ap key_of_number (sym (number_is c.args.wholes.now c.requires.table c.args.number c.requires.within)) in
    let starts : Starts (m.known old) (m.known mid) k unmet = subst (λ n. Starts (m.known old) (m.known mid) n unmet) key (subst (λ s. Starts (m.known old) (m.known mid) (key_of_number c.args.number) (progress_of s)) c.in-Started.is c.in_ok-start_whole.ensures.starts) in
    let there = entry_is c.args.wholes.now c.requires.table c.args.number c.index-wholes-number.result c.requires.within c.index-wholes-number.is in
    let mid1 = c.serialize_one_each.new.serializer in
    let new = c.finish_whole.new.self in
    let pos = c.in_ok-pos.pos in
    let done = box_written wholes m c.index-wholes-number.result x mid mid1 (Ok pos) there c.in_ok-pos.ensures (with_begun k st) (at_then q (λ y. 1) k w m x old mid u st at starts) in
    let pad = ap₂ (λ a b. zeros (shared_padding a b)) done.1.0 done.1.2.stands ∙ no_padding wholes x (with_begun k st) done.1.1 in
    let all = filled q (λ y. 1) k w m x old mid u st at starts mid1 pos done.0 done.1.0 done.1.2 mid1 (wrote_none m mid1 _ pad) in
    let v : Untouched q (λ y. 1) k w m x mid1 new = record { contents = c.finish_whole.ensures.contents; pos = c.finish_whole.ensures.pos; failures = c.finish_whole.ensures.failures } in
    let is : c.from_residual-in_err-finish_whole.result ≡ Err c.in_err-finish_whole.field-0.0 = search rules in
    rw is (finished q (λ y. 1) k w m x old mid u st at starts mid1 new pos done.1.0 done.1.1 all v (Err c.in_err-finish_whole.field-0.0)
    (subst (λ n. Finishes (m.known mid1) (m.known new) n pos (Err c.in_err-finish_whole.field-0.0) (m.known mid1 n)) key c.in_err-finish_whole.ensures.finishes))
