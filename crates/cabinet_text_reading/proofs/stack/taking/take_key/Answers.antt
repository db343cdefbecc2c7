use Rattle.std.proofs.Common.{◌∷◌, ◌∙◌, ap, string_bytes}
use Rattle.cabinet_text_grammar.specs.Frame as spec
use Rattle.cabinet_text_grammar.specs.Item.{key_item}
use Rattle.cabinet_text_grammar.specs.Machine.{going}
use Rattle.cabinet_text_nodes.specs.View.{node_pairs}
use Rattle.cabinet_text_reading.specs.View.{kind_of, key_due, keyed_entries, key_of, stack_of}
use Rattle.cabinet_text_reading.specs.declared.stack.frame.Frame.TheVariants as frame
use Rattle.cabinet_text_reading.proofs.Causes.{memory_first}
use Rattle.cabinet_text_reading.proofs.Stacks.{stack_of-push}
use Rattle.cabinet_text_reading.proofs.stack.taking.take_key.Goals as goal

pub returns-clause-taken : goal.returns-clause-taken
returns-clause-taken c =
    let keyed = c.in_ok-pairs.pairs in
    let told = c.in_ok-pairs.ensures in
    let old = c.args.stack.now.items in
    let key = string_bytes (key_of keyed) in (
      key,
      told.key,
      told.admitted,
      λ table. ap going (ap (stack_of table) c.in-Ok.ensures.items ∙ stack_of-push table old (frame.Value c.args.map.count keyed))
          ∙ ap (λ kind. going (spec.at_value kind c.args.map.count (node_pairs table (keyed_entries keyed)) key ∷ stack_of table old)) told.kind
          ∙ ap (λ ps. going (spec.at_value (kind_of c.args.map.pairs) c.args.map.count (node_pairs table ps) key ∷ stack_of table old)) told.pairs,
    )

pub returns-in_default-clause-fault : goal.returns-in_default-clause-fault
returns-in_default-clause-fault c =
    let told = c.in_ok-pairs.ensures in
    rw told.key (memory_first (key_due c.args.map.pairs) (key_item (string_bytes (key_of c.in_ok-pairs.pairs))) told.admitted tt)
