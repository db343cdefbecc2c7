use Rattle.std.proofs.Common.{◌≡◌, ◌∙◌, length, All, false, true, ◌∷◌, refl, sym, ap, subst, arith}
use Rattle.std.proofs.lemmas.List.Elements.{All-head, All-tail}
use Rattle.std.proofs.lemmas.Slice.Zip.{AllZip-long}
use Rattle.archive_shape.specs.declared.references.refs.Ref.{Ref}
use Rattle.archive_btree_layout.specs.Tree.{items}
use Rattle.archive_btree_maps.proofs.Compared.{first_ended}
use Rattle.archive_btree_maps.proofs.Held.{keys_are}
use Rattle.archive_btree_maps.proofs.Matched.{IsEqualAt, moved, none_left, equal_at, unequal_at, decided}
use Rattle.archive_btree_maps.proofs.set.comparing.eq_btree_set.Goals as goal

pub returns-then-len : goal.returns-then-len
returns-then-len g c t h =
    decided g.row.K.Denot g.K.ArchivedKey.key_of g.K.ArchivedKey.order c.args.this.now.bytes false c.iter-keys.result _ (items t) _ (c.iter-keys.ensures t h) refl
    (λ y. absurd cc)
    (λ z. absurd (c.if-len.true (c.len.ensures.value ∙ sym (AllZip-long (IsEqualAt g.K.ArchivedKey.key_of g.K.ArchivedKey.order) c.iter-keys.result c.args.other.now.keys z) ∙ sym c.len-2.ensures.len)))

pub loop-key-init : goal.loop-key-init
loop-key-init g c =
    let first : c.into_iter-key-iterator.result.a ≡ c.iter-keys.result = ap (λ z. z.a) c.into_iter-key-iterator.ensures.into_iter_gives ∙ c.zip-key-items.ensures.first in
    let second : c.into_iter-key-iterator.result.b ≡ c.args.other.now.keys = ap (λ z. z.b) c.into_iter-key-iterator.ensures.into_iter_gives ∙ c.zip-key-items.ensures.second ∙ c.iter.ensures.rest in
    let lengths : length c.iter-keys.result ≡ length c.args.other.now.keys = sym c.len.ensures.value ∙ c.if-len.false ∙ c.len-2.ensures.len in
    record {
      are_keys =
          subst (All (λ r. g.K.ArchivedKey.is_key r.bytes.now r.pos)) (sym first)
          (keys_are c.args.this.now.bytes (λ r. g.K.ArchivedKey.is_key r.bytes.now r.pos) (λ r v. g.met.K.ArchivedKey.held_is_key r.bytes.now r.pos v.value v.held) c.requires.has c.iter-keys.result
          c.iter-keys.ensures);
      as_many = ap length first ∙ lengths ∙ sym (ap length second);
      from = λ z. z;
      back = λ z. z;
    }

pub same-requires : goal.same-requires
same-requires g c =
    All-head (λ r. g.K.ArchivedKey.is_key r.bytes.now r.pos) c.in-Some.key _
    (subst (All (λ r. g.K.ArchivedKey.is_key r.bytes.now r.pos)) c.in-Some.ensures.steps.0 c.loop-key.invariant.are_keys)

pub returns-then-not-same : goal.returns-then-not-same
returns-then-not-same g c t h =
    let first : c.into_iter-key-iterator.result.a ≡ c.iter-keys.result = ap (λ z. z.a) c.into_iter-key-iterator.ensures.into_iter_gives ∙ c.zip-key-items.ensures.first in
    let second : c.into_iter-key-iterator.result.b ≡ c.args.other.now.keys = ap (λ z. z.b) c.into_iter-key-iterator.ensures.into_iter_gives ∙ c.zip-key-items.ensures.second ∙ c.iter.ensures.rest in
    decided g.row.K.Denot g.K.ArchivedKey.key_of g.K.ArchivedKey.order c.args.this.now.bytes false c.into_iter-key-iterator.result.a c.into_iter-key-iterator.result.b (items t)
    c.args.other.now.keys (first ∙ c.iter-keys.ensures t h) second (λ y. absurd cc)
    (λ z.
    let left =
    moved g.K.ArchivedKey.key_of g.K.ArchivedKey.order c.loop-key.key-iterator.a (c.in-Some.key ∷ c.next.new.self.a) c.loop-key.key-iterator.b
    (c.in-Some.query.now ∷ c.next.new.self.b) c.in-Some.ensures.steps.0 c.in-Some.ensures.steps.1 (c.loop-key.invariant.from z)
    in
    absurd (unequal_at g.K.ArchivedKey.key_of g.K.ArchivedKey.order g.met.K.ArchivedKey.one_key c.in-Some.key c.in-Some.query.now c.same.result c.same.ensures c.if-not-same.true left.0))

pub loop-key-preserved : goal.loop-key-preserved
loop-key-preserved g c =
    let i = c.loop-key.invariant in
    let steps = c.in-Some.ensures.steps in
    let first = ap length steps.0 in
    let second = ap length steps.1 in
    record {
      are_keys = All-tail (λ r. g.K.ArchivedKey.is_key r.bytes.now r.pos) c.in-Some.key _ (subst (All (λ r. g.K.ArchivedKey.is_key r.bytes.now r.pos)) steps.0 i.are_keys);
      as_many = omega (arith, first, second, i.as_many);
      from = λ z.
          (moved g.K.ArchivedKey.key_of g.K.ArchivedKey.order c.loop-key.key-iterator.a (c.in-Some.key ∷ c.next.new.self.a) c.loop-key.key-iterator.b
          (c.in-Some.query.now ∷ c.next.new.self.b) steps.0 steps.1 (i.from z)).1;
      back = λ z.
          i.back
          (moved g.K.ArchivedKey.key_of g.K.ArchivedKey.order (c.in-Some.key ∷ c.next.new.self.a) c.loop-key.key-iterator.a (c.in-Some.query.now ∷ c.next.new.self.b)
          c.loop-key.key-iterator.b (sym steps.0) (sym steps.1)
          (equal_at g.K.ArchivedKey.key_of g.K.ArchivedKey.order c.in-Some.key c.in-Some.query.now c.same.result c.same.ensures c.if-not-same.false, z));
    }

pub returns : goal.returns
returns g c t h =
    let first : c.into_iter-key-iterator.result.a ≡ c.iter-keys.result = ap (λ z. z.a) c.into_iter-key-iterator.ensures.into_iter_gives ∙ c.zip-key-items.ensures.first in
    let second : c.into_iter-key-iterator.result.b ≡ c.args.other.now.keys = ap (λ z. z.b) c.into_iter-key-iterator.ensures.into_iter_gives ∙ c.zip-key-items.ensures.second ∙ c.iter.ensures.rest in
    let many = c.loop-key.invariant.as_many in
    let ends = first_ended (Ref g.row.K.Denot) g.row.Q.Denot c.loop-key.key-iterator.a c.loop-key.key-iterator.b c.in-None.ensures.steps many in
    decided g.row.K.Denot g.K.ArchivedKey.key_of g.K.ArchivedKey.order c.args.this.now.bytes true c.into_iter-key-iterator.result.a c.into_iter-key-iterator.result.b (items t)
    c.args.other.now.keys (first ∙ c.iter-keys.ensures t h) second
    (λ y. c.loop-key.invariant.back (none_left g.K.ArchivedKey.key_of g.K.ArchivedKey.order c.loop-key.key-iterator.a c.loop-key.key-iterator.b ends (sym many ∙ ends)))
    (λ z. refl)
