use Rattle.std.proofs.Common.{sym, ap, subst, ◌∙◌}
use Rattle.std.proofs.IntoIterSteps.{All-taken}
use Rattle.std.specs.Prelude.{string_cmp}
use Rattle.std.specs.BTreeMap.{IsFromIterResult}
use Rattle.cabinet_text_nodes.specs.View.{node_pairs}
use Rattle.cabinet_text_reading.specs.Ascending.{Ascends, stored_pairs}
use Rattle.cabinet_text_reading.proofs.Ascending.{made_of_ascending}
use Rattle.cabinet_text_reading.proofs.stack.store.PairStore.into_map.Goals as goal

pub returns-in_ok-from_iter-in-Many-2-clause-pairs : goal.returns-in_ok-from_iter-in-Many-2-clause-pairs
returns-in_ok-from_iter-in-Many-2-clause-pairs c table =
    let made = c.in_ok-from_iter-in-Many-2.field-0 in
    let h = c.in_ok-from_iter-in-Many-2.ensures.ran in
    let of_all = subst (λ ps. IsFromIterResult string_cmp ps made) (All-taken h.0 h.1 ((h.3.2 tt).0, (h.3.0, h.3.1, (h.3.2 tt).1)) ∙ h.2.0) h.4 in
    made_of_ascending table c.in-Many.pairs.items made (subst (λ s. Ascends (stored_pairs s)) c.in-Many.is c.requires) of_all
    ∙ ap (λ s. node_pairs table (stored_pairs s)) (sym c.in-Many.is)
