use Rattle.std.proofs.Common.{[], ◌∷◌, ◌++◌, sym, ap, subst, ◌∙◌}
use Rattle.cabinet_text_reading.specs.Ascending.{AscendsTo, stored_pairs}
use Rattle.cabinet_text_reading.proofs.Ascending.{insert_behind}
use Rattle.cabinet_text_reading.proofs.stack.store.PairStore.with_pair.Goals as goal

pub returns-in_ok-insert-in-Few : goal.returns-in_ok-insert-in-Few
returns-in_ok-insert-in-Few c =
    c.in_ok-insert-in-Few.ensures.entries
    ∙ insert_behind c.in-Few.pairs.entries c.args.key c.args.node (subst (λ s. AscendsTo (stored_pairs s) c.args.key) c.in-Few.is c.requires)
    ∙ ap (λ s. stored_pairs s ++ (c.args.key, c.args.node) ∷ []) (sym c.in-Few.is)
