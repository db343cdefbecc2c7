use Rattle.std.proofs.Common.{◌∙◌, ap, sym}
use Rattle.archive_btree_maps.specs.SearchingNodes.{place_of}
use Rattle.archive_btree_maps.specs.Ranges.{before_key}
use Rattle.archive_btree_maps.proofs.Ranged.{key_later, option_differs}
use Rattle.archive_btree_maps.proofs.nodes.searching.walk.pass_before.Goals as goal

pub returns-clause-items : goal.returns-clause-items
returns-clause-items c =
    ap (before_key c.args.end) c.in_ok-entry.ensures.items
    ∙ key_later c.args.end (place_of c.in_ok-entry.entry) _ (λ e. option_differs c.args.end c.in_ok-entry.entry.key (sym c.eq.ensures ∙ c.if-eq.false) e)
