use Rattle.std.proofs.Common.{◌≡◌, refl, rules, subst, Ok, Err, arith}
use Rattle.archive_shape.specs.Bytes.{zeros}
use Rattle.archive_shape_layout.specs.Writing.{WriterMembers}
use Rattle.archive_shape_layout.specs.Progress.{Starts}
use Rattle.archive_shape_layout.specs.Progress.Progress.{unmet, begun}
use Rattle.archive_shape.specs.Sharing.{progress_of}
use Rattle.archive_forms_laws.specs.State.{with_begun}
use Rattle.archive_forms_laws.specs.Shared.{shared_padding}
use Rattle.archive_forms_writing.proofs.Laying.{Wrote, Fails}
use Rattle.archive_core_serializing.specs.declared.serializer.Serializer.{Serializer}
use Rattle.archive_core_serializing.proofs.Once.{pending, at_then, stopped_in_data, filled, stopped_in_pad, finished}
use Rattle.archive_core_serializing.proofs.sharing.SerializerSharingExt.serialize_shared.Goals as goal

pub returns-in-Pending : goal.returns-in-Pending
returns-in-Pending g c = λ st at.
    let m : WriterMembers (Serializer g.row.W.Denot g.row.A.Denot g.row.S.Denot) = record { known = λ s. g.S.Registry.known s.sharing; pos = λ s. g.W.Positional.pos s.writer; OBSERVABLE = g.W.Writer.OBSERVABLE; COUNTS = g.W.Writer.COUNTS; contents = λ s. g.W.Writer.contents s.writer; failures = λ s. g.W.Writer.failures s.writer; last_error = λ s. g.W.Writer.last_error s.writer } in
    let q = g.U.Archived.ArchivePointee.pointee in
    let len = g.U.ArchiveUnsized.count in
    let w = g.U.ArchiveUnsized.pointed in
    let key = c.args.key in
    let x = c.args.value.now in
    let old = c.args.self.now in
    let mid : Serializer g.row.W.Denot g.row.A.Denot g.row.S.Denot = record { writer = old.writer; allocator = old.allocator; sharing = c.start_sharing.new.self } in
    let starts : Starts (g.S.Registry.known old.sharing) (g.S.Registry.known c.start_sharing.new.self) key begun =
    subst (λ s. Starts (g.S.Registry.known old.sharing) (g.S.Registry.known c.start_sharing.new.self) key (progress_of s)) c.in-Pending.is c.in_ok-start_sharing.ensures
    in
    pending q len key w m x old mid (record { contents = refl; pos = refl; failures = refl }) st at starts

pub serialize_unsized-requires-clause-state : goal.serialize_unsized-requires-clause-state
serialize_unsized-requires-clause-state g c =
    let m : WriterMembers (Serializer g.row.W.Denot g.row.A.Denot g.row.S.Denot) = record { known = λ s. g.S.Registry.known s.sharing; pos = λ s. g.W.Positional.pos s.writer; OBSERVABLE = g.W.Writer.OBSERVABLE; COUNTS = g.W.Writer.COUNTS; contents = λ s. g.W.Writer.contents s.writer; failures = λ s. g.W.Writer.failures s.writer; last_error = λ s. g.W.Writer.last_error s.writer } in
    let q = g.U.Archived.ArchivePointee.pointee in
    let len = g.U.ArchiveUnsized.count in
    let w = g.U.ArchiveUnsized.pointed in
    let key = c.args.key in
    let x = c.args.value.now in
    let old = c.args.self.now in
    let mid : Serializer g.row.W.Denot g.row.A.Denot g.row.S.Denot = record { writer = old.writer; allocator = old.allocator; sharing = c.start_sharing.new.self } in
    let starts : Starts (g.S.Registry.known old.sharing) (g.S.Registry.known c.start_sharing.new.self) key unmet =
    subst (λ s. Starts (g.S.Registry.known old.sharing) (g.S.Registry.known c.start_sharing.new.self) key (progress_of s)) c.in-Started.is c.in_ok-start_sharing.ensures
    in
    let was = c.requires.state in
    record { state = with_begun key was.state; is_at = at_then q len key w m x old mid (record { contents = refl; pos = refl; failures = refl }) was.state was.is_at starts }

pub returns-in_err-pos : goal.returns-in_err-pos
returns-in_err-pos g c = λ st at.
    let m : WriterMembers (Serializer g.row.W.Denot g.row.A.Denot g.row.S.Denot) = record { known = λ s. g.S.Registry.known s.sharing; pos = λ s. g.W.Positional.pos s.writer; OBSERVABLE = g.W.Writer.OBSERVABLE; COUNTS = g.W.Writer.COUNTS; contents = λ s. g.W.Writer.contents s.writer; failures = λ s. g.W.Writer.failures s.writer; last_error = λ s. g.W.Writer.last_error s.writer } in
    let q = g.U.Archived.ArchivePointee.pointee in
    let len = g.U.ArchiveUnsized.count in
    let w = g.U.ArchiveUnsized.pointed in
    let key = c.args.key in
    let x = c.args.value.now in
    let old = c.args.self.now in
    let mid : Serializer g.row.W.Denot g.row.A.Denot g.row.S.Denot = record { writer = old.writer; allocator = old.allocator; sharing = c.start_sharing.new.self } in
    let starts : Starts (g.S.Registry.known old.sharing) (g.S.Registry.known c.start_sharing.new.self) key unmet =
    subst (λ s. Starts (g.S.Registry.known old.sharing) (g.S.Registry.known c.start_sharing.new.self) key (progress_of s)) c.in-Started.is c.in_ok-start_sharing.ensures
    in
    let e = c.in_err-pos.field-0.0 in
    let is : c.from_residual-in_err-pos.result ≡ Err e = search rules in
    rw is (stopped_in_data q len key w m x old mid (record { contents = refl; pos = refl; failures = refl }) st at starts c.serialize_unsized.new.serializer e
    (c.in_err-pos.ensures (with_begun key st) (at_then q len key w m x old mid (record { contents = refl; pos = refl; failures = refl }) st at starts)))

pub pad_empty-requires : goal.pad_empty-requires
pad_empty-requires g c =
    let m : WriterMembers (Serializer g.row.W.Denot g.row.A.Denot g.row.S.Denot) = record { known = λ s. g.S.Registry.known s.sharing; pos = λ s. g.W.Positional.pos s.writer; OBSERVABLE = g.W.Writer.OBSERVABLE; COUNTS = g.W.Writer.COUNTS; contents = λ s. g.W.Writer.contents s.writer; failures = λ s. g.W.Writer.failures s.writer; last_error = λ s. g.W.Writer.last_error s.writer } in
    let q = g.U.Archived.ArchivePointee.pointee in
    let len = g.U.ArchiveUnsized.count in
    let w = g.U.ArchiveUnsized.pointed in
    let key = c.args.key in
    let x = c.args.value.now in
    let old = c.args.self.now in
    let mid : Serializer g.row.W.Denot g.row.A.Denot g.row.S.Denot = record { writer = old.writer; allocator = old.allocator; sharing = c.start_sharing.new.self } in
    let starts : Starts (g.S.Registry.known old.sharing) (g.S.Registry.known c.start_sharing.new.self) key unmet =
    subst (λ s. Starts (g.S.Registry.known old.sharing) (g.S.Registry.known c.start_sharing.new.self) key (progress_of s)) c.in-Started.is c.in_ok-start_sharing.ensures
    in
    let was = c.requires.state in
    let done = c.in_ok-pos.ensures (with_begun key was.state) (at_then q len key w m x old mid (record { contents = refl; pos = refl; failures = refl }) was.state was.is_at starts) in
    let quiet = done.0.is_quiet in
    let room = c.requires.room in
    omega arith

pub returns-in_err-pad_empty : goal.returns-in_err-pad_empty
returns-in_err-pad_empty g c = λ st at.
    let m : WriterMembers (Serializer g.row.W.Denot g.row.A.Denot g.row.S.Denot) = record { known = λ s. g.S.Registry.known s.sharing; pos = λ s. g.W.Positional.pos s.writer; OBSERVABLE = g.W.Writer.OBSERVABLE; COUNTS = g.W.Writer.COUNTS; contents = λ s. g.W.Writer.contents s.writer; failures = λ s. g.W.Writer.failures s.writer; last_error = λ s. g.W.Writer.last_error s.writer } in
    let q = g.U.Archived.ArchivePointee.pointee in
    let len = g.U.ArchiveUnsized.count in
    let w = g.U.ArchiveUnsized.pointed in
    let key = c.args.key in
    let x = c.args.value.now in
    let old = c.args.self.now in
    let mid : Serializer g.row.W.Denot g.row.A.Denot g.row.S.Denot = record { writer = old.writer; allocator = old.allocator; sharing = c.start_sharing.new.self } in
    let starts : Starts (g.S.Registry.known old.sharing) (g.S.Registry.known c.start_sharing.new.self) key unmet =
    subst (λ s. Starts (g.S.Registry.known old.sharing) (g.S.Registry.known c.start_sharing.new.self) key (progress_of s)) c.in-Started.is c.in_ok-start_sharing.ensures
    in
    let done = c.in_ok-pos.ensures (with_begun key st) (at_then q len key w m x old mid (record { contents = refl; pos = refl; failures = refl }) st at starts) in
    let mid1 = c.serialize_unsized.new.serializer in
    let mid2 : Serializer g.row.W.Denot g.row.A.Denot g.row.S.Denot = record { writer = c.pad_empty.new.writer; allocator = mid1.allocator; sharing = mid1.sharing } in
    let e = c.in_err-pad_empty.field-0.0 in
    let is : c.from_residual-in_err-pad_empty.result ≡ Err e = search rules in
    let failed : Fails m mid1 mid2 (zeros (shared_padding c.in_ok-pos.pos (m.pos mid1))) e =
    record { is_cut = c.in_err-pad_empty.ensures.is_cut; is_short = c.in_err-pad_empty.ensures.is_short; is_counted = c.in_err-pad_empty.ensures.is_counted; is_last = c.in_err-pad_empty.ensures.is_last; keeps = λ k. refl }
    in
    rw is (stopped_in_pad q len key w m x old mid (record { contents = refl; pos = refl; failures = refl }) st at starts mid1 c.in_ok-pos.pos done.0 done.1.0 done.1.2 mid2 e failed)

pub returns : goal.returns
returns g c = λ st at.
    let m : WriterMembers (Serializer g.row.W.Denot g.row.A.Denot g.row.S.Denot) = record { known = λ s. g.S.Registry.known s.sharing; pos = λ s. g.W.Positional.pos s.writer; OBSERVABLE = g.W.Writer.OBSERVABLE; COUNTS = g.W.Writer.COUNTS; contents = λ s. g.W.Writer.contents s.writer; failures = λ s. g.W.Writer.failures s.writer; last_error = λ s. g.W.Writer.last_error s.writer } in
    let q = g.U.Archived.ArchivePointee.pointee in
    let len = g.U.ArchiveUnsized.count in
    let w = g.U.ArchiveUnsized.pointed in
    let key = c.args.key in
    let x = c.args.value.now in
    let old = c.args.self.now in
    let mid : Serializer g.row.W.Denot g.row.A.Denot g.row.S.Denot = record { writer = old.writer; allocator = old.allocator; sharing = c.start_sharing.new.self } in
    let starts : Starts (g.S.Registry.known old.sharing) (g.S.Registry.known c.start_sharing.new.self) key unmet =
    subst (λ s. Starts (g.S.Registry.known old.sharing) (g.S.Registry.known c.start_sharing.new.self) key (progress_of s)) c.in-Started.is c.in_ok-start_sharing.ensures
    in
    let done = c.in_ok-pos.ensures (with_begun key st) (at_then q len key w m x old mid (record { contents = refl; pos = refl; failures = refl }) st at starts) in
    let mid1 = c.serialize_unsized.new.serializer in
    let mid2 : Serializer g.row.W.Denot g.row.A.Denot g.row.S.Denot = record { writer = c.pad_empty.new.writer; allocator = mid1.allocator; sharing = mid1.sharing } in
    let wrote : Wrote m mid1 mid2 (zeros (shared_padding c.in_ok-pos.pos (m.pos mid1))) = record { gains = c.in_ok-pad_empty.ensures.gains; moves = c.in_ok-pad_empty.ensures.moves; is_quiet = c.in_ok-pad_empty.ensures.is_quiet; keeps = λ k. refl } in
    let new : Serializer g.row.W.Denot g.row.A.Denot g.row.S.Denot = record { writer = mid2.writer; allocator = mid2.allocator; sharing = c.finish_sharing.new.self } in
    let all = filled q len key w m x old mid (record { contents = refl; pos = refl; failures = refl }) st at starts mid1 c.in_ok-pos.pos done.0 done.1.0 done.1.2 mid2 wrote in
    finished q len key w m x old mid (record { contents = refl; pos = refl; failures = refl }) st at starts mid2 new c.in_ok-pos.pos done.1.0 done.1.1 all (record { contents = refl; pos = refl; failures = refl }) (Ok c.in_ok-finish_sharing.field-0) c.in_ok-finish_sharing.ensures

pub returns-in_err-finish_sharing : goal.returns-in_err-finish_sharing
returns-in_err-finish_sharing g c = λ st at.
    let m : WriterMembers (Serializer g.row.W.Denot g.row.A.Denot g.row.S.Denot) = record { known = λ s. g.S.Registry.known s.sharing; pos = λ s. g.W.Positional.pos s.writer; OBSERVABLE = g.W.Writer.OBSERVABLE; COUNTS = g.W.Writer.COUNTS; contents = λ s. g.W.Writer.contents s.writer; failures = λ s. g.W.Writer.failures s.writer; last_error = λ s. g.W.Writer.last_error s.writer } in
    let q = g.U.Archived.ArchivePointee.pointee in
    let len = g.U.ArchiveUnsized.count in
    let w = g.U.ArchiveUnsized.pointed in
    let key = c.args.key in
    let x = c.args.value.now in
    let old = c.args.self.now in
    let mid : Serializer g.row.W.Denot g.row.A.Denot g.row.S.Denot = record { writer = old.writer; allocator = old.allocator; sharing = c.start_sharing.new.self } in
    let starts : Starts (g.S.Registry.known old.sharing) (g.S.Registry.known c.start_sharing.new.self) key unmet =
    subst (λ s. Starts (g.S.Registry.known old.sharing) (g.S.Registry.known c.start_sharing.new.self) key (progress_of s)) c.in-Started.is c.in_ok-start_sharing.ensures
    in
    let done = c.in_ok-pos.ensures (with_begun key st) (at_then q len key w m x old mid (record { contents = refl; pos = refl; failures = refl }) st at starts) in
    let mid1 = c.serialize_unsized.new.serializer in
    let mid2 : Serializer g.row.W.Denot g.row.A.Denot g.row.S.Denot = record { writer = c.pad_empty.new.writer; allocator = mid1.allocator; sharing = mid1.sharing } in
    let wrote : Wrote m mid1 mid2 (zeros (shared_padding c.in_ok-pos.pos (m.pos mid1))) = record { gains = c.in_ok-pad_empty.ensures.gains; moves = c.in_ok-pad_empty.ensures.moves; is_quiet = c.in_ok-pad_empty.ensures.is_quiet; keeps = λ k. refl } in
    let new : Serializer g.row.W.Denot g.row.A.Denot g.row.S.Denot = record { writer = mid2.writer; allocator = mid2.allocator; sharing = c.finish_sharing.new.self } in
    let all = filled q len key w m x old mid (record { contents = refl; pos = refl; failures = refl }) st at starts mid1 c.in_ok-pos.pos done.0 done.1.0 done.1.2 mid2 wrote in
    let e = c.in_err-finish_sharing.field-0.0 in
    let is : c.from_residual-in_err-finish_sharing.result ≡ Err e = search rules in
    rw is (finished q len key w m x old mid (record { contents = refl; pos = refl; failures = refl }) st at starts mid2 new c.in_ok-pos.pos done.1.0 done.1.1 all (record { contents = refl; pos = refl; failures = refl }) (Err e) c.in_err-finish_sharing.ensures)
