use Rattle.std.proofs.Common.{rules, ◌≡◌, Err, arith, ◌<◌, ◌≤◌, ◌+◌, List, sym, ap, ◌∙◌, ◌∷◌, [], ◌++◌, subst, length, length-set, take, take_all, get_or}
use Rattle.std.proofs.lemmas.List.{length-replicate}
use Rattle.archive_shape_layout.specs.Writing.{WriterMembers}
use Rattle.archive_forms_writing.proofs.Loops.{Reached, next_of, none_left, reached_first, first_stopped, reached_next, reached_stopped, reached_all}
use Rattle.archive_forms_writing.proofs.Arrays.{take_set, take_one, all_at}
use Rattle.archive_forms_writing.proofs.array.serialize_array_each.Goals as goal

pub returns-in_err-first : goal.returns-in_err-first
returns-in_err-first g c = λ st at.
    let some : 0 < length c.args.items.now = omega (arith, c.if-this-eq0.false, c.type_inv.items) in
    let e = next_of c.args.items.now 0 _ some (ap (λ y. get_or c.args.items.now 0 y) c.index-items-0.is) in
    let s : WriterMembers g.row.S.Denot = record { known = g.S.Registry.known; pos = g.S.Positional.pos; OBSERVABLE = g.S.Writer.OBSERVABLE; COUNTS = g.S.Writer.COUNTS; contents = g.S.Writer.contents; failures = g.S.Writer.failures; last_error = g.S.Writer.last_error } in
    let h = c.requires.writes _ _ _ _ c.requires.room c.requires.state c.in_err-first.ensures st at in
    let passed : c.from_residual.result ≡ Err c.in_err-first.field-0.0 = search rules in
    rw passed (first_stopped g.T.Archive.spelling s c.args.items.now _ st _ _ _ e at h)

pub loop-i-init : goal.loop-i-init
loop-i-init g c =
    let some : 0 < length c.args.items.now = omega (arith, c.if-this-eq0.false, c.type_inv.items) in
    let more : 0 < g.row.N = omega (arith, c.if-this-eq0.false) in
    let e = next_of c.args.items.now 0 _ some (ap (λ y. get_or c.args.items.now 0 y) c.index-items-0.is) in
    let s : WriterMembers g.row.S.Denot = record { known = g.S.Registry.known; pos = g.S.Positional.pos; OBSERVABLE = g.S.Writer.OBSERVABLE; COUNTS = g.S.Writer.COUNTS; contents = g.S.Writer.contents; failures = g.S.Writer.failures; last_error = g.S.Writer.last_error } in
    record {
      whole = length-replicate _ _;
      reached = λ st at.
          let P : List g.row.T-Resolver.Denot → Type 0 = λ l. Reached g.T.Archive.spelling s c.args.items.now c.args.serializer.now st 1 c.step.new.arg3 l in
          let l = c.requires.writes _ _ _ _ c.requires.room c.requires.state c.in_ok-first.ensures st at in
          let z = reached_first g.T.Archive.spelling s c.args.items.now _ st _ _ e at l.0 l.1.1 l.1.2 in
          subst P (sym (take_one g.row.N c.in_ok-first.field-0.0 more ∙ ap (λ q. q ∷ []) l.1.0)) z;
    }

pub step-requires-in-loop-i : goal.step-requires-in-loop-i
step-requires-in-loop-i g c =
    let r = c.loop-i.invariant.reached c.requires.state.state c.requires.state.is_at in
    let less : c.loop-i.i < length c.args.items.now = omega (arith, c.loop-i-test.true, c.type_inv.items) in
    c.requires.takes _ _ (c.loop-i.i, less, ap (λ y. get_or c.args.items.now c.loop-i.i y) c.index-items-i.is) (omega (arith, r.wrote.is_quiet, c.requires.room)) (record { state = r.left; is_at = r.is_at })

pub returns-in_err-kept : goal.returns-in_err-kept
returns-in_err-kept g c = λ st at.
    let r = c.loop-i.invariant.reached st at in
    let less : c.loop-i.i < length c.args.items.now = omega (arith, c.loop-i-test.true, c.type_inv.items) in
    let h = c.requires.writes _ _ _ _ (omega (arith, r.wrote.is_quiet, c.requires.room)) (record { state = r.left; is_at = r.is_at }) c.in_err-kept.ensures r.left r.is_at in
    let passed : c.from_residual-in_err-kept.result ≡ Err c.in_err-kept.field-0.0 = search rules in
    rw passed (reached_stopped _ _ _ _ _ c.loop-i.i _ _ _ _ _ (next_of c.args.items.now c.loop-i.i _ less (ap (λ y. get_or c.args.items.now c.loop-i.i y) c.index-items-i.is)) r h)

pub loop-i-preserved : goal.loop-i-preserved
loop-i-preserved g c =
    let less : c.loop-i.i < length c.args.items.now = omega (arith, c.loop-i-test.true, c.type_inv.items) in
    let inside : c.loop-i.i < length c.loop-i.kept = omega (arith, c.loop-i-test.true, c.loop-i.invariant.whole) in
    let e = next_of c.args.items.now c.loop-i.i _ less (ap (λ y. get_or c.args.items.now c.loop-i.i y) c.index-items-i.is) in
    let before = take c.loop-i.i c.loop-i.kept in
    record {
      whole = length-set _ _ _ ∙ c.loop-i.invariant.whole;
      reached = λ st at.
          let P : List g.row.T-Resolver.Denot → Type 0 = λ l. Reached g.T.Archive.spelling (record { known = g.S.Registry.known; pos = g.S.Positional.pos; OBSERVABLE = g.S.Writer.OBSERVABLE; COUNTS = g.S.Writer.COUNTS; contents = g.S.Writer.contents; failures = g.S.Writer.failures; last_error = g.S.Writer.last_error }) c.args.items.now c.args.serializer.now st (c.loop-i.i + 1) c.step-in-loop-i.new.arg3 l in
          let r = c.loop-i.invariant.reached st at in
          let l = c.requires.writes _ _ _ _ (omega (arith, r.wrote.is_quiet, c.requires.room)) (record { state = r.left; is_at = r.is_at }) c.in_ok-kept.ensures r.left r.is_at in
          let z = reached_next _ _ _ _ _ c.loop-i.i _ _ _ _ e r l.0 l.1.1 l.1.2 in
          subst P (sym (take_set c.loop-i.kept c.loop-i.i c.in_ok-kept.field-0.0 inside ∙ ap (λ q. before ++ (q ∷ [])) l.1.0)) z;
    }

pub returns : goal.returns
returns g c = λ st at.
    let end : length c.args.items.now ≤ c.loop-i.i = omega (arith, c.loop-i-test.false, c.type_inv.items) in
    let full : length c.loop-i.kept ≤ c.loop-i.i = omega (arith, c.loop-i-test.false, c.loop-i.invariant.whole) in
    let all = reached_all _ _ _ _ _ c.loop-i.i _ _ (none_left _ _ end) (c.loop-i.invariant.reached st at) in
    (all.wrote, (sym (take_all c.loop-i.i c.loop-i.kept full) ∙ all.kept_is, (c.type_inv.items, all.fits), all_at g.T.Archive.spelling g.T.Archived.Portable.shape c.args.items.now st _ _ _ all.is_at))
