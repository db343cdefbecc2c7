use Rattle.std.proofs.Common.{◌∙◌, sym}
use Rattle.std.proofs.lemmas.Option.{IfSome_then}
use Rattle.archive_btree_layout.specs.Tree.{items}
use Rattle.archive_btree_maps.specs.Lookups.{IsEqualKey}
use Rattle.archive_btree_maps.proofs.HeldKeys.{entries_are}
use Rattle.archive_btree_maps.proofs.Refs.{finds_called, reversed_equal}
use Rattle.archive_btree_maps.proofs.walking.lookup.search_key.Goals as goal

pub search_map-requires-clause-callable : goal.search_map-requires-clause-callable
search_map-requires-clause-callable g c t h =
    entries_are g.K.Portable.shape g.V.Portable.shape g.K.Portable.knows g.V.Portable.knows c.args.bytes.now _
    (λ e u w held other. g.met.K.ArchivedKey.held_is_key c.args.bytes.now e.key u held) g.row.E c.args.pos c.requires.has t h

pub returns-clause-found : goal.returns-clause-found
returns-clause-found g c t h =
    finds_called (IsEqualKey g.K.ArchivedKey.key_of g.K.ArchivedKey.order c.args.bytes.now c.args.query.now) (items t) c.search_map.result.0
    (IfSome_then c.search_map.result.0 (c.search_map.ensures.found t h) (λ e p. (p.0, (p.1.0, p.1.1, reversed_equal _ p.1.2))))

pub returns-clause-answers : goal.returns-clause-answers
returns-clause-answers g c t order h q = c.search_map.ensures.answers t order h (λ i d less r p. p.2 ∙ sym (q i d less p.0 p.1))

pub returns-clause-descends : goal.returns-clause-descends
returns-clause-descends g c t h = c.search_map.ensures.descends t h
