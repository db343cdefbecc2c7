use Rattle.std.proofs.Common.{◌∙◌, true, [], ◌∷◌, All, Contains, inr, refl, sym, subst, arith}
use Rattle.std.proofs.lemmas.List.Elements.{All-nil, All-cons, All-head, All-tail, Contains-append_right}
use Rattle.archive_forms_values.specs.Parts.{HasValue}
use Rattle.archive_shape.specs.declared.references.refs.Ref.{Ref}
use Rattle.archive_hash_maps.specs.Equal.{KeyHashesTo, HasEqual}
use Rattle.archive_hash_maps.proofs.map.map.ArchivedHashMap.equals.Goals as goal

pub loop-entry-init : goal.loop-entry-init
loop-entry-init g c =
    let gives = c.into_iter-entry-iterator.ensures.into_iter_gives in
    record {
      there = subst (All (λ e. HasValue g.K.Portable.shape g.K.Portable.knows e.0.bytes.now e.0.pos × HasValue g.V.Portable.shape g.V.Portable.knows e.1.bytes.now e.1.pos)) (sym gives) c.iter-entry-items.ensures.there;
      decide = λ b x is other all. subst (All (λ (e : Ref g.row.K.Denot × Ref g.row.V.Denot). HasEqual (KeyHashesTo {K = g.row.K.Denot} g.H.Default.is_default g.H.Hasher.write g.H.Hasher.finish g.K.Portable.shape g.K.Portable.knows g.K.ArchivedHash.hashed) g.K.Portable.shape g.V.Portable.shape g.K.Portable.knows g.V.Portable.knows g.K.ArchivedEq.equal g.V.ArchivedEq.equal c.args.other.bytes.now x e true)) (gives ∙ c.iter-entry-items.ensures.entries b is) all;
      among = λ b is e within. subst (λ s. Contains s e) (gives ∙ c.iter-entry-items.ensures.entries b is) within;
    }

pub has_equal-requires-clause-key : goal.has_equal-requires-clause-key
has_equal-requires-clause-key g c = (All-head (λ e. HasValue g.K.Portable.shape g.K.Portable.knows e.0.bytes.now e.0.pos × HasValue g.V.Portable.shape g.V.Portable.knows e.1.bytes.now e.1.pos) c.in-Some.entry c.next.new.self (subst (All (λ e. HasValue g.K.Portable.shape g.K.Portable.knows e.0.bytes.now e.0.pos × HasValue g.V.Portable.shape g.V.Portable.knows e.1.bytes.now e.1.pos)) c.in-Some.ensures.steps c.loop-entry.invariant.there)).0

pub has_equal-requires-clause-value : goal.has_equal-requires-clause-value
has_equal-requires-clause-value g c = (All-head (λ e. HasValue g.K.Portable.shape g.K.Portable.knows e.0.bytes.now e.0.pos × HasValue g.V.Portable.shape g.V.Portable.knows e.1.bytes.now e.1.pos) c.in-Some.entry c.next.new.self (subst (All (λ e. HasValue g.K.Portable.shape g.K.Portable.knows e.0.bytes.now e.0.pos × HasValue g.V.Portable.shape g.V.Portable.knows e.1.bytes.now e.1.pos)) c.in-Some.ensures.steps c.loop-entry.invariant.there)).1

pub returns-then-not-has_equal-clause-unequal : goal.returns-then-not-has_equal-clause-unequal
returns-then-not-has_equal-clause-unequal g c b x is other e =
    let entry : Ref g.row.K.Denot × Ref g.row.V.Denot = c.in-Some.entry in
    inr (
      entry,
      c.loop-entry.invariant.among b is entry (subst (λ s. Contains s entry) (sym c.in-Some.ensures.steps) (0, omega arith, refl)),
      subst (HasEqual (KeyHashesTo {K = g.row.K.Denot} g.H.Default.is_default g.H.Hasher.write g.H.Hasher.finish g.K.Portable.shape g.K.Portable.knows g.K.ArchivedHash.hashed) g.K.Portable.shape g.V.Portable.shape g.K.Portable.knows g.V.Portable.knows g.K.ArchivedEq.equal g.V.ArchivedEq.equal c.args.other.bytes.now x entry) c.if-not-has_equal.true (c.has_equal.ensures x other),
    )

pub loop-entry-preserved : goal.loop-entry-preserved
loop-entry-preserved g c =
    let entry : Ref g.row.K.Denot × Ref g.row.V.Denot = c.in-Some.entry in
    record {
      there = All-tail (λ e. HasValue g.K.Portable.shape g.K.Portable.knows e.0.bytes.now e.0.pos × HasValue g.V.Portable.shape g.V.Portable.knows e.1.bytes.now e.1.pos) c.in-Some.entry c.next.new.self (subst (All (λ e. HasValue g.K.Portable.shape g.K.Portable.knows e.0.bytes.now e.0.pos × HasValue g.V.Portable.shape g.V.Portable.knows e.1.bytes.now e.1.pos)) c.in-Some.ensures.steps c.loop-entry.invariant.there);
      decide = λ b x is other all.
          let P : Ref g.row.K.Denot × Ref g.row.V.Denot → Type 0 = λ e. HasEqual (KeyHashesTo {K = g.row.K.Denot} g.H.Default.is_default g.H.Hasher.write g.H.Hasher.finish g.K.Portable.shape g.K.Portable.knows g.K.ArchivedHash.hashed) g.K.Portable.shape g.V.Portable.shape g.K.Portable.knows g.V.Portable.knows g.K.ArchivedEq.equal g.V.ArchivedEq.equal c.args.other.bytes.now x e true in
          c.loop-entry.invariant.decide b x is other (subst (All P) (sym c.in-Some.ensures.steps) (All-cons P entry c.next.new.self (subst (HasEqual (KeyHashesTo {K = g.row.K.Denot} g.H.Default.is_default g.H.Hasher.write g.H.Hasher.finish g.K.Portable.shape g.K.Portable.knows g.K.ArchivedHash.hashed) g.K.Portable.shape g.V.Portable.shape g.K.Portable.knows g.V.Portable.knows g.K.ArchivedEq.equal g.V.ArchivedEq.equal c.args.other.bytes.now x entry) c.if-not-has_equal.false (c.has_equal.ensures x other)) all));
      among = λ b is e within. c.loop-entry.invariant.among b is e (subst (λ s. Contains s e) (sym c.in-Some.ensures.steps) (Contains-append_right (entry ∷ []) c.next.new.self e within));
    }

pub returns-clause-equal : goal.returns-clause-equal
returns-clause-equal g c b x is other e =
    let P : Ref g.row.K.Denot × Ref g.row.V.Denot → Type 0 = λ p. HasEqual (KeyHashesTo {K = g.row.K.Denot} g.H.Default.is_default g.H.Hasher.write g.H.Hasher.finish g.K.Portable.shape g.K.Portable.knows g.K.ArchivedHash.hashed) g.K.Portable.shape g.V.Portable.shape g.K.Portable.knows g.V.Portable.knows g.K.ArchivedEq.equal g.V.ArchivedEq.equal c.args.other.bytes.now x p true in
    (sym (c.len.ensures b is) ∙ c.if-len.false ∙ c.len-2.ensures x other, c.loop-entry.invariant.decide b x is other (subst (All P) (sym c.in-None.ensures.steps.0) (All-nil P)))
