use Rattle.std.proofs.Common.{rules, Err, arith, ◌≡◌, ◌+◌, List, sym, ap, ◌∙◌, ◌∷◌, refl, subst, Bool, true, false, ◌++◌, [], if◌then◌else◌}
use Rattle.archive_forms_writing.proofs.Loops.{Reached, next_of, none_left, reached_none, reached_next, reached_stopped, reached_memory, reached_all}
use Rattle.archive_forms_writing.proofs.elements.serialize_data_each.Goals as goal

pushed : {A : Type 0} (b : Bool) (x y z : List A) → x ≡ (if b then y else z) → b ≡ true → x ≡ y
pushed true x y z e t = e
pushed false x y z e t = absurd (cc)

pub loop-item-init : goal.loop-item-init
loop-item-init g c = record {
  alike = refl;
  reached = λ st at.
      let P : List g.row.A-Resolver.Denot → Type 0 = λ l. Reached (g.A.ArchiveWith.spelling c.args.with.now) (record { known = g.S.Registry.known; pos = g.S.Positional.pos; OBSERVABLE = g.S.Writer.OBSERVABLE; COUNTS = g.S.Writer.COUNTS; contents = g.S.Writer.contents; failures = g.S.Writer.failures; last_error = g.S.Writer.last_error }) c.args.items.now c.args.serializer.now st 0 c.args.serializer.now l in
      subst P (sym c.in-Ok.ensures.items) (reached_none _ _ _ _ _ at);
}

pub step-requires : goal.step-requires
step-requires g c =
    let at = c.requires.state.is_at in
    let r = c.loop-item.invariant.reached c.requires.state.state at in
    c.requires.takes _ _ (c.loop-item.item-index, c.loop-item-test.true, c.item-item.is) (omega (arith, r.wrote.is_quiet, c.requires.room)) (record { state = r.left; is_at = r.is_at })

pub returns-in_err-resolver : goal.returns-in_err-resolver
returns-in_err-resolver g c = λ st at.
    let r = c.loop-item.invariant.reached st at in
    let h = c.requires.writes _ _ _ _ (omega (arith, r.wrote.is_quiet, c.requires.room)) (record { state = r.left; is_at = r.is_at }) c.in_err-resolver.ensures r.left r.is_at in
    let passed : c.from_residual.result ≡ Err c.in_err-resolver.field-0.0 = search rules in
    rw passed (reached_stopped _ _ _ _ _ c.loop-item.item-index _ _ _ _ _ (next_of _ _ _ c.loop-item-test.true c.item-item.is) r h)

pub returns-then-is_err : goal.returns-then-is_err
returns-then-is_err g c = λ st at.
    let r = c.loop-item.invariant.reached st at in
    let l = c.requires.writes _ _ _ _ (omega (arith, r.wrote.is_quiet, c.requires.room)) (record { state = r.left; is_at = r.is_at }) c.in_ok-resolver.ensures r.left r.is_at in
    let e = next_of _ _ _ c.loop-item-test.true c.item-item.is in
    reached_memory _ _ _ _ _ (c.loop-item.item-index + 1) _ _ (reached_next _ _ _ _ _ c.loop-item.item-index _ _ _ _ e r l.0 l.1.1 l.1.2)

pub loop-item-preserved : goal.loop-item-preserved
loop-item-preserved g c =
    let e = next_of _ _ _ c.loop-item-test.true c.item-item.is in
    let items : c.push.new.self.items ≡ c.loop-item.all.items ++ (c.in_ok-resolver.field-0.0 ∷ []) = pushed _ _ _ _ c.push.ensures.items c.if-is_err.ensures.negation in
    record {
      alike = refl;
      reached = λ st at.
          let P : List g.row.A-Resolver.Denot → Type 0 = λ l. Reached (g.A.ArchiveWith.spelling c.args.with.now) (record { known = g.S.Registry.known; pos = g.S.Positional.pos; OBSERVABLE = g.S.Writer.OBSERVABLE; COUNTS = g.S.Writer.COUNTS; contents = g.S.Writer.contents; failures = g.S.Writer.failures; last_error = g.S.Writer.last_error }) c.args.items.now c.args.serializer.now st (c.loop-item.item-index + 1) c.step.new.arg3 l in
          let r = c.loop-item.invariant.reached st at in
          let l = c.requires.writes _ _ _ _ (omega (arith, r.wrote.is_quiet, c.requires.room)) (record { state = r.left; is_at = r.is_at }) c.in_ok-resolver.ensures r.left r.is_at in
          let z = reached_next _ _ _ _ _ c.loop-item.item-index _ _ _ _ e r l.0 l.1.1 l.1.2 in
          subst P (sym (items ∙ ap (λ q. c.loop-item.all.items ++ (q ∷ [])) l.1.0)) z;
    }

pub returns : goal.returns
returns g c = λ st at.
    let all = reached_all _ _ _ _ _ c.loop-item.item-index _ _ (none_left _ _ c.loop-item-test.false) (c.loop-item.invariant.reached st at) in
    (all.wrote, (all.kept_is, all.fits, all.is_at))
