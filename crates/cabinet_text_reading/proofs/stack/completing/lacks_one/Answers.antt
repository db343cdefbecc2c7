use Rattle.std.proofs.Common.{◌≡◌, suc, subst, sym, ◌∙◌}
use Rattle.std.specs.Bool.{Decides}
use Rattle.cabinet_text_grammar.specs.Completing.{LacksOne}
use Rattle.cabinet_text_nodes.proofs.Views.{count-node_trees, pair_count-node_pairs}
use Rattle.cabinet_text_reading.specs.View.{frame_of, keyed_entries}
use Rattle.cabinet_text_reading.proofs.Stacks.{counted_items}
use Rattle.cabinet_text_reading.proofs.stack.completing.lacks_one.Goals as goal

pub returns-in-List : goal.returns-in-List
returns-in-List c table =
    let counted = c.len.ensures ∙ sym (counted_items c.in-List.nodes) ∙ sym (count-node_trees table c.in-List.nodes.items) in
    subst (λ f. Decides c.is_one_less.result (LacksOne (frame_of table f))) (sym c.in-List.is)
    (subst (λ m. Decides c.is_one_less.result (suc m ≡ c.in-List.count)) counted c.is_one_less.ensures)

pub returns-in-Value : goal.returns-in-Value
returns-in-Value c table =
    let counted = c.len-in-Value.ensures ∙ sym (pair_count-node_pairs table (keyed_entries c.in-Value.pairs)) in
    subst (λ f. Decides c.is_one_less-in-Value.result (LacksOne (frame_of table f))) (sym c.in-Value.is)
    (subst (λ m. Decides c.is_one_less-in-Value.result (suc m ≡ c.in-Value.count)) counted c.is_one_less-in-Value.ensures)
