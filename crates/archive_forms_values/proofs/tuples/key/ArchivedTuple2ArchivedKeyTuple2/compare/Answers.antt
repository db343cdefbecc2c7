use Rattle.std.proofs.Common.{sym, ap, ◌∙◌}
use Rattle.std.specs.Ordering.{ordering_then}
use Rattle.archive_forms_values.proofs.Keys.{pair_held, pair_stands, there_too}
use Rattle.archive_forms_values.proofs.tuples.key.ArchivedTuple2ArchivedKeyTuple2.compare.Goals as goal

pub compare-first-requires : goal.compare-first-requires
compare-first-requires g c =
    there_too g.A.ArchivedKey.is_key (ap (λ b. b.now) c.first.ensures.bytes) c.first.ensures.pos
    (g.met.A.ArchivedKey.held_is_key _ _ _ (pair_held g.A.Portable.shape g.B.Portable.shape g.A.Portable.knows g.B.Portable.knows c.args.this.now.bytes.now c.args.this.now.pos c.requires.value c.requires.held).0)

pub compare-second-requires : goal.compare-second-requires
compare-second-requires g c =
    there_too g.B.ArchivedKey.is_key (ap (λ b. b.now) c.second.ensures.bytes) c.second.ensures.pos
    (g.met.B.ArchivedKey.held_is_key _ _ _ (pair_held g.A.Portable.shape g.B.Portable.shape g.A.Portable.knows g.B.Portable.knows c.args.this.now.bytes.now c.args.this.now.pos c.requires.value c.requires.held).1)

pub returns : goal.returns
returns g c =
    let p = c.compare-first.ensures in
    let q = c.compare-second.ensures in (
      (p.0, q.0),
      pair_stands g.A.Portable.shape g.B.Portable.shape g.A.Portable.knows g.B.Portable.knows c.args.this.now.bytes.now c.args.this.now.pos c.requires
          (λ v h. g.met.A.ArchivedKey.held_stands_for _ _ v h p.0 (there_too (λ bs n. g.A.ArchivedKey.key_of bs n p.0) (sym (ap (λ b. b.now) c.first.ensures.bytes)) (sym c.first.ensures.pos) p.1))
          (λ v h. g.met.B.ArchivedKey.held_stands_for _ _ v h q.0 (there_too (λ bs n. g.B.ArchivedKey.key_of bs n q.0) (sym (ap (λ b. b.now) c.second.ensures.bytes)) (sym c.second.ensures.pos) q.1)),
      c.then.ensures ∙ ap (λ o. ordering_then o c.compare-second.result) p.2 ∙ ap (ordering_then (g.A.ArchivedKey.order p.0 c.args.query.now.0)) q.2,
    )
