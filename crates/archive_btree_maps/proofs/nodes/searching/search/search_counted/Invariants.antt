use Rattle.std.proofs.Common.{◌≡◌, ◌+◌, ◌-◌, ◌^◌, ◌*◌, ◌≤◌, ℕ, min, Option}
use Rattle.std.specs.Prelude.{All, Contains}
use Rattle.std.specs.declared.cmp.Ordering.{Ordering}
use Rattle.archive_btree_layout.specs.Tree.{Tree, items}
use Rattle.archive_btree_layout.specs.Descent.{descend, met}
use Rattle.archive_btree_layout.specs.Reading.{Place}
use Rattle.archive_btree_maps.specs.Descents.{DescendsTo}
use Rattle.archive_btree_maps.specs.SearchingLayout.{IsTreeAt}
use Rattle.archive_btree_maps.specs.Searching.{Orders}
use Rattle.archive_btree_maps.proofs.nodes.searching.search.search_counted.Given as goal

abbrev pub invariant-loop-level : goal.invariant-loop-level
invariant-loop-level g l =
    record {
      stands : (u : Tree Place) × IsTreeAt l.bytes l.layout (l._level + 1) l.pos u × All (λ e. goal.F-pre g l.compare e.key) (items u);
      among :
          (t : Tree Place) → IsTreeAt l.bytes l.layout 1 l.root t
          → (u : Tree Place) × IsTreeAt l.bytes l.layout (l._level + 1) l.pos u × All (λ e. Contains (items t) e) (items u);
      descends :
          (t : Tree Place) → IsTreeAt l.bytes l.layout 1 l.root t
          → (u : Tree Place) × IsTreeAt l.bytes l.layout (l._level + 1) l.pos u
          × ((found : Option Place) → DescendsTo (λ e r. goal.F-post g l.compare e.key r) u found → DescendsTo (λ e r. goal.F-post g l.compare e.key r) t found);
      leads :
          (t : Tree Place) (order : Place → Ordering) → IsTreeAt l.bytes l.layout 1 l.root t → Orders (goal.F-post g) l.compare order (items t)
          → (u : Tree Place) × (n : ℕ) × IsTreeAt l.bytes l.layout (l._level + 1) l.pos u × Orders (goal.F-post g) l.compare order (items u) × (descend order t ≡ descend order u)
          × (met order t ≡ n + met order u) × (l.compared ≡ min n (2 ^ 64 - 1));
      few : l.compared ≤ l._level * l.layout.entries;
    }
