use Rattle.std.proofs.Common.{All, sym, subst}
use Rattle.std.proofs.lemmas.List.Elements.{All-map}
use Rattle.archive_btree_layout.specs.Tree.{items}
use Rattle.archive_forms_values.specs.Parts.{HasValue}
use Rattle.archive_btree_maps.specs.Refs.{entry_at}
use Rattle.archive_btree_maps.proofs.HeldKeys.{entries_are}
use Rattle.archive_btree_maps.proofs.Roots.{tree_of_value}
use Rattle.archive_btree_maps.proofs.Runs.{all_there}
use Rattle.archive_btree_maps.specs.StdMaps.{IsPairSame, AreSame, MayCallValue}
use Rattle.archive_btree_maps.proofs.Same.{of_made}
use Rattle.archive_btree_maps.proofs.map.std_map.eq_btree_map_with.Goals as goal

pub same_entries-requires : goal.same_entries-requires
same_entries-requires g c =
    let bytes = c.args.this.now.bytes in
    let t = (tree_of_value c.requires.has).search_tree in
    let is = (tree_of_value c.requires.has).map in
    let held =
    entries_are g.K.Portable.shape g.V.Portable.shape g.K.Portable.knows g.V.Portable.knows bytes.now (λ e. HasValue g.V.Portable.shape g.V.Portable.knows bytes.now e.value)
    (λ e u w held other. record { value = w; held = other }) g.row.E c.args.this.now.pos c.requires.has t is
    in
    record {
      there = all_there g.row.K.Denot g.row.V.Denot g.K.Portable.shape g.V.Portable.shape g.K.Portable.knows g.V.Portable.knows bytes g.row.E c.args.this.now.pos c.requires.has c.iter.result c.iter.ensures;
      callable =
          subst (All (λ e. MayCallValue (goal.F-pre g c.args.equal.now) c.args.other.now.entries e.1)) (sym (c.iter.ensures t is))
          (All-map (λ e. MayCallValue (goal.F-pre g c.args.equal.now) c.args.other.now.entries e.1) (entry_at bytes {K = g.row.K.Denot} {V = g.row.V.Denot}) (items t) (λ k d below. c.requires.callable t is k d below (held k d below)));
    }

pub returns : goal.returns
returns g c t is =
    of_made (IsPairSame g.K.ArchivedKey.key_of g.K.ArchivedKey.order (goal.F-post g c.args.equal.now)) (entry_at c.args.this.now.bytes {K = g.row.K.Denot} {V = g.row.V.Denot}) (items t) c.args.other.now.entries c.same_entries.result
    (subst (λ es. AreSame (IsPairSame g.K.ArchivedKey.key_of g.K.ArchivedKey.order (goal.F-post g c.args.equal.now)) es c.args.other.now.entries c.same_entries.result) (c.iter.ensures t is) c.same_entries.ensures)
