use Rattle.std.proofs.Common.{◌≡◌, [], ◌∷◌, ◌∙◌, ap, sym, subst, rules}
use Rattle.cabinet_text_grammar.specs.Frame as spec
use Rattle.cabinet_text_grammar.specs.Frame.{AreOpen}
use Rattle.cabinet_text_grammar.specs.Tree as tree
use Rattle.cabinet_text_grammar.specs.Machine.{plug, going}
use Rattle.cabinet_text_nodes.specs.View.{node_tree, node_pairs}
use Rattle.cabinet_text_reading.specs.View.{entries_of, keyed_kind, keyed_entries, key_of, stack_of}
use Rattle.cabinet_text_reading.specs.declared.stack.frame.Frame.TheVariants as frame
use Rattle.cabinet_text_reading.proofs.Stacks.{opened, stack_of-push, list_full, list_more, pairs_full, pairs_more, counted_items}
use Rattle.cabinet_text_reading.proofs.stack.taking.close_with.Goals as goal
use Rattle.cabinet_text_nodes.proofs.Views.{node_tree-list, node_tree-some}

pub loop-frame-preserved-in-Maybe : goal.loop-frame-preserved-in-Maybe
loop-frame-preserved-in-Maybe c table around opens =
    let i = c.loop-frame.invariant table around opens in
    let outer = c.pop.new.self.items in
    let here = opened table c.loop-frame.stack.items outer c.in-Some.frame frame.Maybe c.in-Some.ensures.items c.in-Maybe.is in
    let are = subst (AreOpen table around) here i.1 in (
      ap (λ t. plug t (stack_of table outer)) (node_tree-some table c.in_ok-new-in-Maybe.field-0) ∙ ap (λ n. plug (tree.just (node_tree table n)) (stack_of table outer)) c.in_ok-new-in-Maybe.ensures.ok ∙ ap (plug (node_tree table c.loop-frame.node)) (sym here) ∙ i.0,
      are.2,
    )

pub loop-frame-preserved-then-len-count : goal.loop-frame-preserved-then-len-count
loop-frame-preserved-then-len-count c table around opens =
    let i = c.loop-frame.invariant table around opens in
    let outer = c.pop.new.self.items in
    let here = opened table c.loop-frame.stack.items outer c.in-Some.frame (frame.List c.in-List.count c.in-List.nodes) c.in-Some.ensures.items c.in-List.is in
    let are = subst (AreOpen table around) here i.1 in (
      ap (λ t. plug t (stack_of table outer)) (node_tree-list table c.push.new.self) ∙ list_full table c.in-List.nodes.items c.push.new.self.items c.loop-frame.node c.in-List.count (stack_of table outer) c.in_ok-push-in-List.ensures.items (counted_items c.push.new.self ∙ sym c.len.ensures ∙ c.if-len-count.true) ∙ ap (plug (node_tree table c.loop-frame.node)) (sym here) ∙ i.0,
      are.2,
    )

pub returns-else-len-count : goal.returns-else-len-count
returns-else-len-count c table around opens =
    let i = c.loop-frame.invariant table around opens in
    let outer = c.pop.new.self.items in
    let here = opened table c.loop-frame.stack.items outer c.in-Some.frame (frame.List c.in-List.count c.in-List.nodes) c.in-Some.ensures.items c.in-List.is in
    let pushed = frame.List c.in-List.count c.push.new.self in
    ap going (ap (stack_of table) c.in_ok-push-in-List-2.ensures.items ∙ stack_of-push table outer pushed)
    ∙ list_more table c.in-List.nodes.items c.push.new.self.items c.loop-frame.node c.in-List.count (stack_of table outer) c.in_ok-push-in-List.ensures.items (λ e. c.if-len-count.false (c.len.ensures ∙ sym (counted_items c.push.new.self) ∙ e))
    ∙ ap (plug (node_tree table c.loop-frame.node)) (sym here)
    ∙ i.0

pub loop-frame-preserved : goal.loop-frame-preserved
loop-frame-preserved c table around opens =
    let i = c.loop-frame.invariant table around opens in
    let outer = c.pop.new.self.items in
    let old = c.in-Value.pairs in
    let pairs = c.in_ok-pairs-in-Value.pairs in
    let here = opened table c.loop-frame.stack.items outer c.in-Some.frame (frame.Value c.in-Value.count old) c.in-Some.ensures.items c.in-Value.is in
    let are = subst (AreOpen table around) here i.1 in
    let more = c.in_ok-pairs-in-Value.ensures.pairs in (
      ap (λ t. plug t (stack_of table outer)) (c.in_ok-node-in-Value.ensures.node table ∙ ap (λ kind. tree.map kind (node_pairs table (entries_of pairs))) c.in_ok-pairs-in-Value.ensures.kind) ∙ pairs_full table (keyed_kind old) (keyed_entries old) (entries_of pairs) (key_of old) c.loop-frame.node c.in-Value.count (stack_of table outer) more (sym c.len-in-Value.ensures ∙ c.if-len-count-2.true) ∙ ap (plug (node_tree table c.loop-frame.node)) (sym here) ∙ i.0,
      are.2,
    )

pub returns-else-len-count-2 : goal.returns-else-len-count-2
returns-else-len-count-2 c table around opens =
    let i = c.loop-frame.invariant table around opens in
    let outer = c.pop.new.self.items in
    let old = c.in-Value.pairs in
    let pairs = c.in_ok-pairs-in-Value.pairs in
    let here = opened table c.loop-frame.stack.items outer c.in-Some.frame (frame.Value c.in-Value.count old) c.in-Some.ensures.items c.in-Value.is in
    let are = subst (AreOpen table around) here i.1 in
    let more = c.in_ok-pairs-in-Value.ensures.pairs in
    ap (λ kind. going (spec.at_key kind c.in-Value.count (node_pairs table (entries_of pairs)) ∷ stack_of table outer)) c.in_ok-pairs-in-Value.ensures.kind
    ∙ pairs_more table (keyed_kind old) (keyed_entries old) (entries_of pairs) (key_of old) c.loop-frame.node c.in-Value.count (stack_of table outer) more (λ e. c.if-len-count-2.false (c.len-in-Value.ensures ∙ e))
    ∙ ap (plug (node_tree table c.loop-frame.node)) (sym here)
    ∙ i.0

pub returns : goal.returns
returns c table around opens =
    let i = c.loop-frame.invariant table around opens in
    let none : c.loop-frame.stack.items ≡ [] = search rules in
    sym (ap (λ fs. plug (node_tree table c.loop-frame.node) (stack_of table fs)) none) ∙ i.0
