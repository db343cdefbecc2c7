use Rattle.std.proofs.Common.{sym, ap, ◌∙◌, ◌&&◌}
use Rattle.std.specs.Cmp.{both_tied}
use Rattle.archive_forms_values.proofs.Keys.{pair_held, pair_stands, there_too}
use Rattle.archive_forms_values.proofs.tuples.key.ArchivedTuple2ArchivedKeyTuple2.same.Goals as goal

pub same-first-requires : goal.same-first-requires
same-first-requires g c =
    there_too g.A.ArchivedKey.is_key (ap (λ b. b.now) c.first.ensures.bytes) c.first.ensures.pos
    (g.met.A.ArchivedKey.held_is_key _ _ _ (pair_held g.A.Portable.shape g.B.Portable.shape g.A.Portable.knows g.B.Portable.knows c.args.this.now.bytes.now c.args.this.now.pos c.requires.value c.requires.held).0)

pub same-second-requires : goal.same-second-requires
same-second-requires g c =
    there_too g.B.ArchivedKey.is_key (ap (λ b. b.now) c.second.ensures.bytes) c.second.ensures.pos
    (g.met.B.ArchivedKey.held_is_key _ _ _ (pair_held g.A.Portable.shape g.B.Portable.shape g.A.Portable.knows g.B.Portable.knows c.args.this.now.bytes.now c.args.this.now.pos c.requires.value c.requires.held).1)

pub returns-then-first : goal.returns-then-first
returns-then-first g c =
    let p = c.same-first.ensures in
    let q = c.same-second.ensures in (
      (p.0, q.0),
      pair_stands g.A.Portable.shape g.B.Portable.shape g.A.Portable.knows g.B.Portable.knows c.args.this.now.bytes.now c.args.this.now.pos c.requires
          (λ v h. g.met.A.ArchivedKey.held_stands_for _ _ v h p.0 (there_too (λ bs n. g.A.ArchivedKey.key_of bs n p.0) (sym (ap (λ b. b.now) c.first.ensures.bytes)) (sym c.first.ensures.pos) p.1))
          (λ v h. g.met.B.ArchivedKey.held_stands_for _ _ v h q.0 (there_too (λ bs n. g.B.ArchivedKey.key_of bs n q.0) (sym (ap (λ b. b.now) c.second.ensures.bytes)) (sym c.second.ensures.pos) q.1)),
      ap (λ b. b && c.same-second.result) (sym c.if-first.true) ∙ both_tied _ _ _ _ p.2 q.2,
    )

pub returns-else-first : goal.returns-else-first
returns-else-first g c =
    let p = c.same-first.ensures in
    let q = c.same-second.ensures in (
      (p.0, q.0),
      pair_stands g.A.Portable.shape g.B.Portable.shape g.A.Portable.knows g.B.Portable.knows c.args.this.now.bytes.now c.args.this.now.pos c.requires
          (λ v h. g.met.A.ArchivedKey.held_stands_for _ _ v h p.0 (there_too (λ bs n. g.A.ArchivedKey.key_of bs n p.0) (sym (ap (λ b. b.now) c.first.ensures.bytes)) (sym c.first.ensures.pos) p.1))
          (λ v h. g.met.B.ArchivedKey.held_stands_for _ _ v h q.0 (there_too (λ bs n. g.B.ArchivedKey.key_of bs n q.0) (sym (ap (λ b. b.now) c.second.ensures.bytes)) (sym c.second.ensures.pos) q.1)),
      c.if-first.false ∙ ap (λ b. b && c.same-second.result) (sym c.if-first.false) ∙ both_tied _ _ _ _ p.2 q.2,
    )
