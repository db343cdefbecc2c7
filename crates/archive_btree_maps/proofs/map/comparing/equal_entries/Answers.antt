use Rattle.std.proofs.Common.{◌≡◌, ◌∙◌, length, sym, ap, arith}
use Rattle.std.specs.Cmp.Lexicographic.{unequal}
use Rattle.archive_shape.specs.declared.references.refs.Ref.{Ref}
use Rattle.archive_btree_maps.specs.MapComparing.{pair_equality}
use Rattle.archive_btree_maps.proofs.Compared.{pairs_counted, at_start, stepped, this_stands, other_stands, unequal_first, equal_first, all_equal, first_ended}
use Rattle.archive_btree_maps.proofs.map.comparing.equal_entries.Goals as goal

pub returns-then-len : goal.returns-then-len
returns-then-len g c = λ ps qs h k.
    let p = pairs_counted _ _ _ _ _ ps h in
    let q = pairs_counted _ _ _ _ _ qs k in
    sym (unequal (pair_equality g.K.ArchivedEq.equal g.V.ArchivedEq.equal) ps qs (λ e. omega (arith, e, p, q, c.if-len.true, c.len.ensures.value, c.len-2.ensures.value)))

pub loop-this-init : goal.loop-this-init
loop-this-init g c =
    let first : c.into_iter-this-iterator.result.a ≡ c.args.these = ap (λ z. z.a) c.into_iter-this-iterator.ensures.into_iter_gives ∙ c.zip-this-items.ensures.first in
    let second : c.into_iter-this-iterator.result.b ≡ c.args.others = ap (λ z. z.b) c.into_iter-this-iterator.ensures.into_iter_gives ∙ c.zip-this-items.ensures.second in
    let lengths : length c.args.these ≡ length c.args.others = sym c.len.ensures.value ∙ c.if-len.false ∙ c.len-2.ensures.value in
    record {
      rest = at_start _ _ _ _ _ _ c.args.these c.args.others _ _ first second;
      as_many = ap length first ∙ lengths ∙ sym (ap length second);
    }

pub equal_pair-requires-clause-this : goal.equal_pair-requires-clause-this
equal_pair-requires-clause-this g c =
    this_stands _ _ _ _ _ _ c.args.these c.args.others c.requires.these c.requires.others c.in-Some.this c.in-Some.other c.next.new.self.a c.next.new.self.b
    (stepped _ _ _ _ _ _ c.args.these c.args.others _ _ _ _ _ _ c.in-Some.ensures.steps.0 c.in-Some.ensures.steps.1 c.loop-this.invariant.rest)

pub equal_pair-requires-clause-other : goal.equal_pair-requires-clause-other
equal_pair-requires-clause-other g c =
    other_stands _ _ _ _ _ _ c.args.these c.args.others c.requires.these c.requires.others c.in-Some.this c.in-Some.other c.next.new.self.a c.next.new.self.b
    (stepped _ _ _ _ _ _ c.args.these c.args.others _ _ _ _ _ _ c.in-Some.ensures.steps.0 c.in-Some.ensures.steps.1 c.loop-this.invariant.rest)

pub returns-then-not-equal_pair : goal.returns-then-not-equal_pair
returns-then-not-equal_pair g c = λ ps qs h i.
    let left = stepped _ _ _ _ _ _ c.args.these c.args.others _ _ _ _ _ _ c.in-Some.ensures.steps.0 c.in-Some.ensures.steps.1 c.loop-this.invariant.rest in
    unequal_first _ _ _ _ _ _ c.in-Some.this c.in-Some.other _ _ ps qs c.equal_pair.result c.equal_pair.ensures (left ps qs h i) c.if-not-equal_pair.true

pub loop-this-preserved : goal.loop-this-preserved
loop-this-preserved g c =
    let left = stepped _ _ _ _ _ _ c.args.these c.args.others _ _ _ _ _ _ c.in-Some.ensures.steps.0 c.in-Some.ensures.steps.1 c.loop-this.invariant.rest in
    let first = ap length c.in-Some.ensures.steps.0 in
    let second = ap length c.in-Some.ensures.steps.1 in
    record {
      rest = λ ps qs h i. equal_first _ _ _ _ _ _ c.in-Some.this c.in-Some.other _ _ ps qs c.equal_pair.result c.equal_pair.ensures (left ps qs h i) c.if-not-equal_pair.false;
      as_many = omega (arith, first, second, c.loop-this.invariant.as_many);
    }

pub returns : goal.returns
returns g c = λ ps qs h i.
    let many = c.loop-this.invariant.as_many in
    let ends = first_ended (Ref g.row.K.Denot × Ref g.row.V.Denot) (Ref g.row.K.Denot × Ref g.row.V.Denot) c.loop-this.this-iterator.a c.loop-this.this-iterator.b c.in-None.ensures.steps many in
    all_equal _ _ _ _ _ _ _ _ ps qs ends (sym many ∙ ends) (c.loop-this.invariant.rest ps qs h i)
