use Rattle.std.proofs.Common.{[], ap, refl, sym}
use Rattle.std.specs.Range.Bound.{bound_map}
use Rattle.archive_btree_layout.specs.Tree.{items}
use Rattle.archive_btree_maps.proofs.Ranged.{no_run}
use Rattle.archive_btree_maps.proofs.Stepped.{left_is}
use Rattle.archive_btree_maps.specs.Bounds.{is_before, is_behind, items_between}
use Rattle.archive_btree_maps.proofs.Between.{tells_before, tells_behind, stays_from, stays_behind}
use Rattle.archive_btree_maps.proofs.Roots.{tree_of_value}
use Rattle.archive_btree_maps.proofs.walking.range.walk_between.Goals as goal

pub returns-in_default-clause-within : goal.returns-in_default-clause-within
returns-in_default-clause-within g c t h = (
  [],
  record { layout = c.of.result; root = 0; leads = λ some. absurd (some c.in_default.ensures.leads); left = c.empty.ensures c.args.bytes.now 0 },
  no_run [] (items t) refl,
)

pub returns-in_default-clause-between : goal.returns-in_default-clause-between
returns-in_default-clause-between g c t order h queries =
    record {
      layout = c.of.result;
      root = 0;
      leads = λ some. absurd (some c.in_default.ensures.leads);
      left =
          left_is c.args.bytes.now c.of.result 0 c.empty.result (c.empty.ensures c.args.bytes.now 0)
          (ap (λ x. items_between order (bound_map (λ q. q.now) c.args.start) (bound_map (λ q. q.now) c.args.end) (items x)) (sym (c.in_default.ensures.tree t h)));
    }

pub between-requires : goal.between-requires
between-requires g c =
    let m = tree_of_value c.requires.has in
    record {
      tree = (
        m.search_tree,
        c.in-Some.ensures.tree m.search_tree m.map,
        λ k d below. (c.requires.callable m.search_tree m.map k d below).0,
        λ k d below. (c.requires.callable m.search_tree m.map k d below).1,
      );
    }

pub returns-clause-within : goal.returns-clause-within
returns-clause-within g c t h =
    let w = c.between.ensures.within t (c.in-Some.ensures.tree t h) in
    (w.0, record { layout = c.in-Some.root.layout; root = c.in-Some.root.pos; leads = λ some. c.in-Some.ensures.leads; left = w.1 }, w.2)

pub returns-clause-between : goal.returns-clause-between
returns-clause-between g c t order h queries =
    record {
      layout = c.in-Some.root.layout;
      root = c.in-Some.root.pos;
      leads = λ some. c.in-Some.ensures.leads;
      left =
          c.between.ensures.between t (is_before order (bound_map (λ q. q.now) c.args.start)) (is_behind order (bound_map (λ q. q.now) c.args.end)) (c.in-Some.ensures.tree t h)
          (tells_before (goal.C-post g) c.args.compare.now (λ q. q.now) order (items t) c.args.start queries.0)
          (tells_behind (goal.C-post g) c.args.compare.now (λ q. q.now) order (items t) c.args.end queries.1)
          (stays_from (goal.C-post g) c.args.compare.now (λ q. q.now) order (items t) c.args.start queries.0)
          (stays_behind (goal.C-post g) c.args.compare.now (λ q. q.now) order (items t) c.args.end queries.1);
    }
