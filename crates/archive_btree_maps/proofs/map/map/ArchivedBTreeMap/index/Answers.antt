use Rattle.std.proofs.Common.{◌∙◌, Some, IfSome, sym, subst}
use Rattle.archive_btree_layout.specs.Tree.{items}
use Rattle.archive_btree_maps.specs.Lookups.{Finds, IsEqualKey, LooksUp}
use Rattle.archive_forms_values.specs.Parts.{HasValue}
use Rattle.archive_btree_maps.specs.Refs.{value_at}
use Rattle.archive_btree_maps.proofs.LookedUp.{one_entry}
use Rattle.archive_btree_maps.proofs.Refs.{some_mapped}
use Rattle.archive_btree_maps.proofs.map.map.ArchivedBTreeMap.index.Goals as goal

pub unwrap-requires : goal.unwrap-requires
unwrap-requires g c =
    let p = c.requires.present in
    let found = c.get.ensures.looks_up p.search_tree p.map in
    let same = one_entry g.K.ArchivedKey.key_of g.K.ArchivedKey.order c.args.this.bytes.now c.args.query.now (g.met.K.ArchivedKey.one_key c.args.this.bytes.now) p.search_tree found.0 (Some p.entry) found.1 p.found in
    some_mapped (value_at c.args.this.bytes {V = g.row.V.Denot}) _ found.0 p.entry found.2 same

pub returns-clause-looks_up : goal.returns-clause-looks_up
returns-clause-looks_up g c t h =
    subst (λ o. LooksUp (value_at c.args.this.bytes {V = g.row.V.Denot}) g.K.ArchivedKey.key_of g.K.ArchivedKey.order c.args.this.bytes.now c.args.query.now t o) c.unwrap.ensures (c.get.ensures.looks_up t h)

pub returns-clause-answers : goal.returns-clause-answers
returns-clause-answers g c t order h q = sym c.unwrap.ensures ∙ c.get.ensures.answers t order h q

pub returns-clause-found : goal.returns-clause-found
returns-clause-found g c t h = subst (λ o. Finds (value_at c.args.this.bytes {V = g.row.V.Denot}) (IsEqualKey g.K.ArchivedKey.key_of g.K.ArchivedKey.order c.args.this.bytes.now c.args.query.now) (items t) o) c.unwrap.ensures (c.get.ensures.found t h)

pub returns-clause-there : goal.returns-clause-there
returns-clause-there g c = subst (λ o. IfSome o (λ r. HasValue g.V.Portable.shape g.V.Portable.knows r.bytes.now r.pos)) c.unwrap.ensures c.get.ensures.there
