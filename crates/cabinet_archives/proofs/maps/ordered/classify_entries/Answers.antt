use Rattle.std.proofs.Common.{◌≡◌, true, MatchOption, refl, sym, ap, subst, ◌∙◌, ◌∷◌, ◌&&◌, map}
use Rattle.std.specs.Prelude.{All}
use Rattle.std.proofs.lemmas.List.Elements.{All-head, All-tail}
use Rattle.cabinet_documents.specs.Order.{ascend, is_below}
use Rattle.cabinet_archives.proofs.Texts.{text_is}
use Rattle.cabinet_archives.proofs.Ascending.{IsEntryThere, key_of, before, ascend_behind, next_above, next_not_above, are_leaves, next_leaf, entries_there, all_ascend, one_descends, all_lead}
use Rattle.cabinet_archives.proofs.maps.ordered.classify_entries.Goals as goal

pub loop-key-init : goal.loop-key-init
loop-key-init c = record {
  there = subst (All IsEntryThere) (sym c.into_iter-key-iterator.ensures.into_iter_gives) (entries_there c.args.map.bytes c.args.map.pos c.requires _ c.iter-key-items.ensures);
  rest = refl;
  leaves = refl;
}

pub as_str-text-requires : goal.as_str-text-requires
as_str-text-requires c = (All-head IsEntryThere _ _ (subst (All IsEntryThere) c.in-Some.ensures.steps c.loop-key.invariant.there)).0

pub is_leaf-leaves-requires : goal.is_leaf-leaves-requires
is_leaf-leaves-requires c = (All-head IsEntryThere _ _ (subst (All IsEntryThere) c.in-Some.ensures.steps c.loop-key.invariant.there)).1

pub returns-then-not-is_above : goal.returns-then-not-is_above
returns-then-not-is_above c = λ depth v walk h.
    let last = before c.loop-key.last in
    let key = text_is c.in-Some.key.bytes.now c.in-Some.key.pos c.as_str-text.result.now c.as_str-text.ensures in
    let says = subst (λ t. MatchOption last (c.is_above.result ≡ true) (λ k. c.is_above.result ≡ is_below k t)) key c.is_above.ensures in
    one_descends c.args.map.bytes c.args.map.pos c.requires c.into_iter-key-iterator.result (λ t is. c.into_iter-key-iterator.ensures.into_iter_gives ∙ c.iter-key-items.ensures t is) h last
    c.loop-key.invariant.rest c.in-Some.ensures.steps
    (next_not_above c.is_above.result (key_of (c.in-Some.key, c.in-Some.node)) (map key_of c.next.new.self) last says c.if-not-is_above.true)

pub loop-key-preserved : goal.loop-key-preserved
loop-key-preserved c =
    let last = before c.loop-key.last in
    let key = text_is c.in-Some.key.bytes.now c.in-Some.key.pos c.as_str-text.result.now c.as_str-text.ensures in
    let says = subst (λ t. MatchOption last (c.is_above.result ≡ true) (λ k. c.is_above.result ≡ is_below k t)) key c.is_above.ensures in
    record {
      there = All-tail IsEntryThere _ _ (subst (All IsEntryThere) c.in-Some.ensures.steps c.loop-key.invariant.there);
      rest =
          ap (λ k. ascend (k ∷ map key_of c.next.new.self)) key
          ∙ next_above c.is_above.result (key_of (c.in-Some.key, c.in-Some.node)) (map key_of c.next.new.self) last says c.if-not-is_above.false
          ∙ sym (ap (λ es. ascend_behind last (map key_of es)) c.in-Some.ensures.steps)
          ∙ c.loop-key.invariant.rest;
      leaves =
          next_leaf c.loop-key.leaves c.is_leaf-leaves.result (c.in-Some.key, c.in-Some.node) c.next.new.self c.is_leaf-leaves.ensures
          ∙ sym (ap (λ es. c.loop-key.leaves && are_leaves es) c.in-Some.ensures.steps)
          ∙ c.loop-key.invariant.leaves;
    }

pub returns-then-leaves : goal.returns-then-leaves
returns-then-leaves c = λ depth v walk h. (
  all_ascend c.args.map.bytes c.args.map.pos c.requires c.into_iter-key-iterator.result (λ t is. c.into_iter-key-iterator.ensures.into_iter_gives ∙ c.iter-key-items.ensures t is) h (before c.loop-key.last)
      c.loop-key.invariant.rest c.in-None.ensures.steps.0,
  all_lead c.args.map.bytes c.args.map.pos c.requires c.into_iter-key-iterator.result (λ t is. c.into_iter-key-iterator.ensures.into_iter_gives ∙ c.iter-key-items.ensures t is) h c.loop-key.leaves
      c.in-None.ensures.steps.0 c.loop-key.invariant.leaves ∙ c.if-leaves.true,
)

pub returns-else-leaves : goal.returns-else-leaves
returns-else-leaves c = λ depth v walk h. (
  all_ascend c.args.map.bytes c.args.map.pos c.requires c.into_iter-key-iterator.result (λ t is. c.into_iter-key-iterator.ensures.into_iter_gives ∙ c.iter-key-items.ensures t is) h (before c.loop-key.last)
      c.loop-key.invariant.rest c.in-None.ensures.steps.0,
  all_lead c.args.map.bytes c.args.map.pos c.requires c.into_iter-key-iterator.result (λ t is. c.into_iter-key-iterator.ensures.into_iter_gives ∙ c.iter-key-items.ensures t is) h c.loop-key.leaves
      c.in-None.ensures.steps.0 c.loop-key.invariant.leaves ∙ c.if-leaves.false,
)
