use Rattle.std.proofs.Common.{rules, Err, ◌≡◌, ◌+◌, arith, refl, ap, List, [], ◌∷◌, ◌++◌, Bool, true, false, if◌then◌else◌, None, map, inl}
use Rattle.archive_shape_layout.specs.Writing.{WriterMembers}
use Rattle.archive_shape_canonical.specs.FirstFit.{present}
use Rattle.archive_forms_laws.specs.Serializing.{of_data}
use Rattle.archive_forms_laws.specs.Regions.{pieces, pieces_refused}
use Rattle.archive_forms_writing.proofs.Laying.{stopped_before}
use Rattle.archive_hash_writing.specs.Standing.{standing}
use Rattle.archive_hash_writing.proofs.Present.{read_as}
use Rattle.archive_hash_writing.proofs.Presented.{presented_none, presented_as, presented_passed, next_item, presented_next, presented_stopped, presented_memory, presented_all}
use Rattle.archive_hash_writing.proofs.data.serialize_present_each.Goals.{in-Some+in_ok-resolver+else-is_err, in_default-place}
use Rattle.archive_hash_writing.proofs.data.serialize_present_each.Goals as goal

pushed : {A : Type 0} (b : Bool) (x y z : List A) → x ≡ (if b then y else z) → b ≡ true → x ≡ y
pushed true x y z e t = e
pushed false x y z e t = absurd (cc)

pub returns-in_default : goal.returns-in_default
returns-in_default g c = λ st at.
    let w = g.A.ArchiveWith.spelling c.args.with.now in
    let s : WriterMembers g.row.S.Denot = record { known = g.S.Registry.known; pos = g.S.Positional.pos; OBSERVABLE = g.S.Writer.OBSERVABLE; COUNTS = g.S.Writer.COUNTS; contents = g.S.Writer.contents; failures = g.S.Writer.failures; last_error = g.S.Writer.last_error } in
    let xs = present (map standing c.args.table.now) in
    stopped_before (of_data s) c.args.serializer.now (pieces w xs st) (pieces_refused w xs st) _ (inl refl)

pub loop-place-init : goal.loop-place-init
loop-place-init g c = record { alike = refl; presented = presented_none _ _ _ _ _ c.in-Ok.ensures.items }

pub step-requires : goal.step-requires
step-requires g c =
    let is = read_as c.args.table.now c.loop-place.place-index _ _ c.place-item.is c.in-Some.is in
    let h = c.loop-place.invariant.presented in
    let r = h.reached c.requires.state.state c.requires.state.is_at in
    let item = next_item _ _ _ _ c.loop-place.place-index _ _ _ c.loop-place-test.true is h in
    c.requires.takes _ _ (_, item.0, item.1) (omega (arith, r.wrote.is_quiet, c.requires.room)) (record { state = r.left; is_at = r.is_at })

pub returns-in_err-resolver : goal.returns-in_err-resolver
returns-in_err-resolver g c =
    let failed : c.from_residual.result ≡ Err c.in_err-resolver.field-0.0 = search rules in
    rw failed
    (λ st at.
    let is = read_as c.args.table.now c.loop-place.place-index _ _ c.place-item.is c.in-Some.is in
    let h = c.loop-place.invariant.presented in
    let r = h.reached st at in
    presented_stopped _ _ _ _ c.loop-place.place-index _ _ _ c.loop-place-test.true is h _ _ st at
    (λ from there. c.requires.writes _ _ _ _ (omega (arith, r.wrote.is_quiet, c.requires.room)) (record { state = from; is_at = there }) c.in_err-resolver.ensures from there))

pub returns-then-is_err : goal.returns-then-is_err
returns-then-is_err g c = λ st at.
    let s : WriterMembers g.row.S.Denot = record { known = g.S.Registry.known; pos = g.S.Positional.pos; OBSERVABLE = g.S.Writer.OBSERVABLE; COUNTS = g.S.Writer.COUNTS; contents = g.S.Writer.contents; failures = g.S.Writer.failures; last_error = g.S.Writer.last_error } in
    let is = read_as c.args.table.now c.loop-place.place-index _ _ c.place-item.is c.in-Some.is in
    let h = c.loop-place.invariant.presented in
    let r = h.reached st at in
    let next = presented_next (g.A.ArchiveWith.spelling c.args.with.now) s c.args.table.now c.args.serializer.now c.loop-place.place-index _ _ _ c.loop-place-test.true is h c.step.new.arg3 c.in_ok-resolver.field-0.0 _ refl
    (λ from there. c.requires.writes _ _ _ _ (omega (arith, r.wrote.is_quiet, c.requires.room)) (record { state = from; is_at = there }) c.in_ok-resolver.ensures from there) in
    presented_memory _ _ _ _ (c.loop-place.place-index + 1) _ _ next st at

pub loop-place-preserved : goal.loop-place-preserved
loop-place-preserved g c =
    let s : WriterMembers g.row.S.Denot = record { known = g.S.Registry.known; pos = g.S.Positional.pos; OBSERVABLE = g.S.Writer.OBSERVABLE; COUNTS = g.S.Writer.COUNTS; contents = g.S.Writer.contents; failures = g.S.Writer.failures; last_error = g.S.Writer.last_error } in
    let table = c.args.table.now in
    let i = c.loop-place.place-index in
    let h = c.loop-place.invariant.presented in
    let r = h.reached c.requires.state.state c.requires.state.is_at in
    elim c.match-place.branch [
      | in-Some+in_ok-resolver+else-is_err w ↦
          (let is = read_as table i _ _ c.place-item.is w.in-Some.is in
          let items : w.push.new.self.items ≡ c.loop-place.all.items ++ (w.in_ok-resolver.field-0.0 ∷ []) = pushed _ _ _ _ w.push.ensures.items w.if-is_err.ensures.negation in
          let next = presented_next (g.A.ArchiveWith.spelling c.args.with.now) s table c.args.serializer.now i _ _ _ c.loop-place-test.true is h w.step.new.arg3 w.in_ok-resolver.field-0.0 _ items
          (λ from there. c.requires.writes _ _ _ _ (omega (arith, r.wrote.is_quiet, c.requires.room)) (record { state = from; is_at = there }) w.in_ok-resolver.ensures from there) in
          record { alike = refl; presented = presented_as _ _ _ _ (i + 1) _ _ _ _ next w.serializer-is (ap (λ v. v.items) w.all-is) })
      | in_default-place w ↦
          (let is = read_as table i _ None c.place-item.is w.in_default-place.is in
          record { alike = refl; presented = presented_as _ _ _ _ (i + 1) _ _ _ _ (presented_passed (g.A.ArchiveWith.spelling c.args.with.now) s table c.args.serializer.now i _ _ c.loop-place-test.true is h) w.serializer-is (ap (λ v. v.items) w.all-is) })
    ]

pub returns : goal.returns
returns g c = λ st at.
    let all = presented_all _ _ _ _ c.loop-place.place-index _ _ c.loop-place-test.false c.loop-place.invariant.presented st at in
    (all.wrote, (all.kept_is, all.fits, all.is_at))
