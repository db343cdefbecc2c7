use Rattle.std.proofs.Common.{ap, sym}
use Rattle.archive_btree_layout.specs.Tree.{items}
use Rattle.archive_btree_maps.proofs.Stepped.{left_is}
use Rattle.archive_btree_maps.proofs.Roots.{tree_of_value}
use Rattle.archive_btree_maps.proofs.walking.root.entry_walk_at.Goals as goal

pub new-requires : goal.new-requires
new-requires g c =
    let m = tree_of_value c.requires.has in
    record { tree = (m.search_tree, c.in-Some.ensures.tree m.search_tree m.map) }

pub returns-in-Some : goal.returns-in-Some
returns-in-Some g c t h =
    record {
      layout = c.in-Some.root.layout;
      root = c.in-Some.root.pos;
      leads = λ some. c.in-Some.ensures.leads;
      left = c.new.ensures t (c.in-Some.ensures.tree t h);
    }

pub returns-in-None : goal.returns-in-None
returns-in-None g c t h =
    record {
      layout = c.of.result;
      root = 0;
      leads = λ some. absurd (some c.in-None.ensures.leads);
      left = left_is c.args.bytes.now c.of.result 0 c.empty.result (c.empty.ensures c.args.bytes.now 0) (sym (ap items (c.in-None.ensures.tree t h)));
    }
