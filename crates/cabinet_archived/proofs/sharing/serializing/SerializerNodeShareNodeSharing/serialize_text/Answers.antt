use Rattle.std.proofs.Common.{◌≡◌, Err, refl, rules, subst, arith, ◌∙◌}
use Rattle.archive_shape_layout.specs.Writing.{WriterMembers}
use Rattle.archive_shape_layout.specs.Progress.{IsSet}
use Rattle.archive_shape_layout.specs.Progress.Progress.{ended}
use Rattle.archive_forms_writing.proofs.Laying.{Wrote, Fails}
use Rattle.archive_core_serializing.specs.declared.serializer.Serializer.{Serializer}
use Rattle.cabinet_text_grammar.specs.TextKey.{text_key}
use Rattle.cabinet_documents.specs.SharedKeys.{key_of_text}
use Rattle.archive_shape.specs.Bytes.{zeros}
use Rattle.archive_forms_laws.specs.Shared.{shared_padding}
use Rattle.cabinet_archived.specs.declared.sharing.node_share.NodeShare.{NodeShare}
use Rattle.cabinet_archived.proofs.Both.{of_text, text_set}
use Rattle.cabinet_archived.proofs.Registries.{texts_known, wholes_known, known_by}
use Rattle.cabinet_archived.proofs.SharingLemmas.{IsKept, found, at_then, stopped_in_text, stopped_in_pad, wrote}
use Rattle.cabinet_archived.proofs.sharing.serializing.SerializerNodeShareNodeSharing.serialize_text.Goals as goal

pub serialize_str-requires-clause-state : goal.serialize_str-requires-clause-state
serialize_str-requires-clause-state g c =
    let m : WriterMembers (Serializer g.row.W.Denot g.row.A.Denot NodeShare) = record { known = λ s. known_by s.sharing; pos = λ s. g.W.Positional.pos s.writer; OBSERVABLE = g.W.Writer.OBSERVABLE; COUNTS = g.W.Writer.COUNTS; contents = λ s. g.W.Writer.contents s.writer; failures = λ s. g.W.Writer.failures s.writer; last_error = λ s. g.W.Writer.last_error s.writer } in
    let old = c.args.self.now in
    let mid : Serializer g.row.W.Denot g.row.A.Denot NodeShare = record { writer = old.writer; allocator = old.allocator; sharing = record { texts = c.keep.new.self; wholes = old.sharing.wholes } } in
    let kept : IsKept m c.args.text.now old mid = record { contents = refl; pos = refl; failures = refl; set = subst (λ n. IsSet (m.known old) (m.known mid) (key_of_text c.args.text.now) (ended n)) c.pos-next.ensures (text_set (wholes_known old.sharing) (texts_known old.sharing) (texts_known mid.sharing) (text_key c.args.text.now) _ c.in_ok-keep.ensures) } in
    let was = c.requires.state in
    record { state = _; is_at = at_then m c.args.text.now old was.state was.is_at (of_text (texts_known old.sharing) (wholes_known old.sharing) (text_key c.args.text.now) ∙ c.in_default.ensures) mid kept }

pub returns-in-Some : goal.returns-in-Some
returns-in-Some g c = λ st at.
    let m : WriterMembers (Serializer g.row.W.Denot g.row.A.Denot NodeShare) = record { known = λ s. known_by s.sharing; pos = λ s. g.W.Positional.pos s.writer; OBSERVABLE = g.W.Writer.OBSERVABLE; COUNTS = g.W.Writer.COUNTS; contents = λ s. g.W.Writer.contents s.writer; failures = λ s. g.W.Writer.failures s.writer; last_error = λ s. g.W.Writer.last_error s.writer } in
    let old = c.args.self.now in
    found m c.args.text.now old st at c.in-Some.pos (of_text (texts_known old.sharing) (wholes_known old.sharing) (text_key c.args.text.now) ∙ c.in-Some.ensures)

pub returns-in_err-pos : goal.returns-in_err-pos
returns-in_err-pos g c = λ st at.
    let m : WriterMembers (Serializer g.row.W.Denot g.row.A.Denot NodeShare) = record { known = λ s. known_by s.sharing; pos = λ s. g.W.Positional.pos s.writer; OBSERVABLE = g.W.Writer.OBSERVABLE; COUNTS = g.W.Writer.COUNTS; contents = λ s. g.W.Writer.contents s.writer; failures = λ s. g.W.Writer.failures s.writer; last_error = λ s. g.W.Writer.last_error s.writer } in
    let old = c.args.self.now in
    let mid : Serializer g.row.W.Denot g.row.A.Denot NodeShare = record { writer = old.writer; allocator = old.allocator; sharing = record { texts = c.keep.new.self; wholes = old.sharing.wholes } } in
    let kept : IsKept m c.args.text.now old mid = record { contents = refl; pos = refl; failures = refl; set = subst (λ n. IsSet (m.known old) (m.known mid) (key_of_text c.args.text.now) (ended n)) c.pos-next.ensures (text_set (wholes_known old.sharing) (texts_known old.sharing) (texts_known mid.sharing) (text_key c.args.text.now) _ c.in_ok-keep.ensures) } in
    let e = c.in_err-pos.field-0.0 in
    let is : c.from_residual-in_err-pos.result ≡ Err e = search rules in
    rw is (stopped_in_text m c.args.text.now old st at (of_text (texts_known old.sharing) (wholes_known old.sharing) (text_key c.args.text.now) ∙ c.in_default.ensures) mid kept c.serialize_str.new.serializer e
    (c.in_err-pos.ensures _ (at_then m c.args.text.now old st at (of_text (texts_known old.sharing) (wholes_known old.sharing) (text_key c.args.text.now) ∙ c.in_default.ensures) mid kept)))

pub pad_empty-requires : goal.pad_empty-requires
pad_empty-requires g c =
    let m : WriterMembers (Serializer g.row.W.Denot g.row.A.Denot NodeShare) = record { known = λ s. known_by s.sharing; pos = λ s. g.W.Positional.pos s.writer; OBSERVABLE = g.W.Writer.OBSERVABLE; COUNTS = g.W.Writer.COUNTS; contents = λ s. g.W.Writer.contents s.writer; failures = λ s. g.W.Writer.failures s.writer; last_error = λ s. g.W.Writer.last_error s.writer } in
    let old = c.args.self.now in
    let mid : Serializer g.row.W.Denot g.row.A.Denot NodeShare = record { writer = old.writer; allocator = old.allocator; sharing = record { texts = c.keep.new.self; wholes = old.sharing.wholes } } in
    let kept : IsKept m c.args.text.now old mid = record { contents = refl; pos = refl; failures = refl; set = subst (λ n. IsSet (m.known old) (m.known mid) (key_of_text c.args.text.now) (ended n)) c.pos-next.ensures (text_set (wholes_known old.sharing) (texts_known old.sharing) (texts_known mid.sharing) (text_key c.args.text.now) _ c.in_ok-keep.ensures) } in
    let was = c.requires.state in
    let done = c.in_ok-pos.ensures _ (at_then m c.args.text.now old was.state was.is_at (of_text (texts_known old.sharing) (wholes_known old.sharing) (text_key c.args.text.now) ∙ c.in_default.ensures) mid kept) in
    let quiet = done.0.is_quiet in
    let room = c.requires.room in
    omega arith

pub returns : goal.returns
returns g c = λ st at.
    let m : WriterMembers (Serializer g.row.W.Denot g.row.A.Denot NodeShare) = record { known = λ s. known_by s.sharing; pos = λ s. g.W.Positional.pos s.writer; OBSERVABLE = g.W.Writer.OBSERVABLE; COUNTS = g.W.Writer.COUNTS; contents = λ s. g.W.Writer.contents s.writer; failures = λ s. g.W.Writer.failures s.writer; last_error = λ s. g.W.Writer.last_error s.writer } in
    let old = c.args.self.now in
    let mid : Serializer g.row.W.Denot g.row.A.Denot NodeShare = record { writer = old.writer; allocator = old.allocator; sharing = record { texts = c.keep.new.self; wholes = old.sharing.wholes } } in
    let kept : IsKept m c.args.text.now old mid = record { contents = refl; pos = refl; failures = refl; set = subst (λ n. IsSet (m.known old) (m.known mid) (key_of_text c.args.text.now) (ended n)) c.pos-next.ensures (text_set (wholes_known old.sharing) (texts_known old.sharing) (texts_known mid.sharing) (text_key c.args.text.now) _ c.in_ok-keep.ensures) } in
    let done = c.in_ok-pos.ensures _ (at_then m c.args.text.now old st at (of_text (texts_known old.sharing) (wholes_known old.sharing) (text_key c.args.text.now) ∙ c.in_default.ensures) mid kept) in
    let mid1 = c.serialize_str.new.serializer in
    let new : Serializer g.row.W.Denot g.row.A.Denot NodeShare = record { writer = c.pad_empty.new.writer; allocator = mid1.allocator; sharing = mid1.sharing } in
    let padded : Wrote m mid1 new (zeros (shared_padding c.in_ok-pos.pos (m.pos mid1))) = record { gains = c.in_ok-pad_empty.ensures.gains; moves = c.in_ok-pad_empty.ensures.moves; is_quiet = c.in_ok-pad_empty.ensures.is_quiet; keeps = λ k. refl } in
    wrote m c.args.text.now old st at (of_text (texts_known old.sharing) (wholes_known old.sharing) (text_key c.args.text.now) ∙ c.in_default.ensures) mid kept mid1 c.in_ok-pos.pos done.0 done.1.0 done.1.2 new done.1.1 padded

pub returns-in_err-pad_empty : goal.returns-in_err-pad_empty
returns-in_err-pad_empty g c = λ st at.
    let m : WriterMembers (Serializer g.row.W.Denot g.row.A.Denot NodeShare) = record { known = λ s. known_by s.sharing; pos = λ s. g.W.Positional.pos s.writer; OBSERVABLE = g.W.Writer.OBSERVABLE; COUNTS = g.W.Writer.COUNTS; contents = λ s. g.W.Writer.contents s.writer; failures = λ s. g.W.Writer.failures s.writer; last_error = λ s. g.W.Writer.last_error s.writer } in
    let old = c.args.self.now in
    let mid : Serializer g.row.W.Denot g.row.A.Denot NodeShare = record { writer = old.writer; allocator = old.allocator; sharing = record { texts = c.keep.new.self; wholes = old.sharing.wholes } } in
    let kept : IsKept m c.args.text.now old mid = record { contents = refl; pos = refl; failures = refl; set = subst (λ n. IsSet (m.known old) (m.known mid) (key_of_text c.args.text.now) (ended n)) c.pos-next.ensures (text_set (wholes_known old.sharing) (texts_known old.sharing) (texts_known mid.sharing) (text_key c.args.text.now) _ c.in_ok-keep.ensures) } in
    let done = c.in_ok-pos.ensures _ (at_then m c.args.text.now old st at (of_text (texts_known old.sharing) (wholes_known old.sharing) (text_key c.args.text.now) ∙ c.in_default.ensures) mid kept) in
    let mid1 = c.serialize_str.new.serializer in
    let new : Serializer g.row.W.Denot g.row.A.Denot NodeShare = record { writer = c.pad_empty.new.writer; allocator = mid1.allocator; sharing = mid1.sharing } in
    let e = c.in_err-pad_empty.field-0.0 in
    let is : c.from_residual-in_err-pad_empty.result ≡ Err e = search rules in
    let failed : Fails m mid1 new (zeros (shared_padding c.in_ok-pos.pos (m.pos mid1))) e = record { is_cut = c.in_err-pad_empty.ensures.is_cut; is_short = c.in_err-pad_empty.ensures.is_short; is_counted = c.in_err-pad_empty.ensures.is_counted; is_last = c.in_err-pad_empty.ensures.is_last; keeps = λ k. refl } in
    rw is (stopped_in_pad m c.args.text.now old st at (of_text (texts_known old.sharing) (wholes_known old.sharing) (text_key c.args.text.now) ∙ c.in_default.ensures) mid kept mid1 c.in_ok-pos.pos done.0 done.1.0 done.1.2 new e failed)
