use Rattle.std.proofs.Common.{◌≡◌, ◌∙◌, All, inl, length, sym, ap, subst, arith}
use Rattle.std.proofs.lemmas.List.Elements.{All-head, All-tail}
use Rattle.archive_shape.specs.declared.references.refs.Ref.{Ref}
use Rattle.archive_btree_maps.specs.Refs.{IsThere}
use Rattle.archive_btree_maps.specs.StdMaps.{IsPairSame, MayCallValue}
use Rattle.archive_btree_maps.proofs.Compared.{first_ended}
use Rattle.archive_btree_maps.proofs.Same.{at_start, all_same, first_other, first_same, may_first, may_others}
use Rattle.archive_btree_maps.proofs.map.std_map.same_entries.Goals as goal

pub returns-then-len : goal.returns-then-len
returns-then-len g c = inl (λ e. omega (arith, e, c.if-len.true, c.len.ensures.value, c.len-2.ensures.len))

pub loop-this-init : goal.loop-this-init
loop-this-init g c =
    let first : c.into_iter-this-iterator.result.a ≡ c.args.these = ap (λ z. z.a) c.into_iter-this-iterator.ensures.into_iter_gives ∙ c.zip-this-items.ensures.first in
    let second : c.into_iter-this-iterator.result.b ≡ c.args.others.now.entries = ap (λ z. z.b) c.into_iter-this-iterator.ensures.into_iter_gives ∙ c.zip-this-items.ensures.second ∙ c.iter.ensures.rest in
    let lengths : length c.args.these ≡ length c.args.others.now.entries = sym c.len.ensures.value ∙ c.if-len.false ∙ c.len-2.ensures.len in
    record {
      rest = at_start (IsPairSame g.K.ArchivedKey.key_of g.K.ArchivedKey.order (goal.F-post g c.args.equal.now)) _ c.args.these _ c.args.others.now.entries first second;
      there = subst (All (IsThere g.K.Portable.shape g.V.Portable.shape g.K.Portable.knows g.V.Portable.knows)) (sym first) c.requires.there;
      callable =
          subst (λ es. All (λ e. MayCallValue (goal.F-pre g c.args.equal.now) c.into_iter-this-iterator.result.b e.1) es) (sym first)
          (subst (λ ps. All (λ e. MayCallValue (goal.F-pre g c.args.equal.now) ps e.1) c.args.these) (sym second) c.requires.callable);
      as_many = ap length first ∙ lengths ∙ sym (ap length second);
    }

pub same_pair-requires : goal.same_pair-requires
same_pair-requires g c =
    record {
      there =
          All-head (IsThere g.K.Portable.shape g.V.Portable.shape g.K.Portable.knows g.V.Portable.knows) c.in-Some.this c.next.new.self.a
          (subst (All (IsThere g.K.Portable.shape g.V.Portable.shape g.K.Portable.knows g.V.Portable.knows)) c.in-Some.ensures.steps.0 c.loop-this.invariant.there);
      callable =
          may_first (goal.F-pre g c.args.equal.now) c.in-Some.this.1 c.in-Some.other.0.now c.in-Some.other.1 c.loop-this.this-iterator.b c.next.new.self.b c.in-Some.ensures.steps.1
          (All-head (λ e. MayCallValue (goal.F-pre g c.args.equal.now) c.loop-this.this-iterator.b e.1) c.in-Some.this c.next.new.self.a
          (subst (All (λ e. MayCallValue (goal.F-pre g c.args.equal.now) c.loop-this.this-iterator.b e.1)) c.in-Some.ensures.steps.0 c.loop-this.invariant.callable));
    }

pub returns-then-not-same_pair : goal.returns-then-not-same_pair
returns-then-not-same_pair g c =
    first_other (IsPairSame g.K.ArchivedKey.key_of g.K.ArchivedKey.order (goal.F-post g c.args.equal.now)) _ _ _ _ c.loop-this.invariant.rest
    c.in-Some.this (c.in-Some.other.0.now, c.in-Some.other.1.now) _ _ c.in-Some.ensures.steps.0 c.in-Some.ensures.steps.1 c.same_pair.result c.same_pair.ensures c.if-not-same_pair.true

pub loop-this-preserved : goal.loop-this-preserved
loop-this-preserved g c =
    let first = ap length c.in-Some.ensures.steps.0 in
    let second = ap length c.in-Some.ensures.steps.1 in
    record {
      rest =
          first_same (IsPairSame g.K.ArchivedKey.key_of g.K.ArchivedKey.order (goal.F-post g c.args.equal.now)) _ _ _ _ c.loop-this.invariant.rest
          c.in-Some.this (c.in-Some.other.0.now, c.in-Some.other.1.now) _ _ c.in-Some.ensures.steps.0 c.in-Some.ensures.steps.1 c.same_pair.result c.same_pair.ensures c.if-not-same_pair.false;
      there =
          All-tail (IsThere g.K.Portable.shape g.V.Portable.shape g.K.Portable.knows g.V.Portable.knows) c.in-Some.this c.next.new.self.a
          (subst (All (IsThere g.K.Portable.shape g.V.Portable.shape g.K.Portable.knows g.V.Portable.knows)) c.in-Some.ensures.steps.0 c.loop-this.invariant.there);
      callable =
          may_others (goal.F-pre g c.args.equal.now) (c.in-Some.other.0.now, c.in-Some.other.1.now) c.loop-this.this-iterator.b c.next.new.self.b c.in-Some.ensures.steps.1 c.next.new.self.a
          (All-tail (λ e. MayCallValue (goal.F-pre g c.args.equal.now) c.loop-this.this-iterator.b e.1) c.in-Some.this c.next.new.self.a
          (subst (All (λ e. MayCallValue (goal.F-pre g c.args.equal.now) c.loop-this.this-iterator.b e.1)) c.in-Some.ensures.steps.0 c.loop-this.invariant.callable));
      as_many = omega (arith, first, second, c.loop-this.invariant.as_many);
    }

pub returns : goal.returns
returns g c =
    let many = c.loop-this.invariant.as_many in
    let ends = first_ended (Ref g.row.K.Denot × Ref g.row.V.Denot) (g.row.Q.Denot × g.row.W.Denot) c.loop-this.this-iterator.a c.loop-this.this-iterator.b c.in-None.ensures.steps many in
    all_same (IsPairSame g.K.ArchivedKey.key_of g.K.ArchivedKey.order (goal.F-post g c.args.equal.now)) _ _ _ _ c.loop-this.invariant.rest ends (sym many ∙ ends)
