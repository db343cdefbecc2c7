use Rattle.std.proofs.Common.{◌∙◌, refl, sym}
use Rattle.std.specs.Option.{option_map}
use Rattle.archive_btree_maps.specs.SearchingNodes.{place_of}
use Rattle.archive_btree_maps.proofs.Refs.{same_some, found_some}
use Rattle.archive_btree_maps.proofs.map.map.ArchivedBTreeMap.contains_key.Goals as goal

pub returns-clause-answers : goal.returns-clause-answers
returns-clause-answers g c t order h q = c.is_some.ensures ∙ same_some _ _ (c.search_key.ensures.answers t order h q).0

pub returns-clause-found : goal.returns-clause-found
returns-clause-found g c t h y = found_some c.search_key.result.0 _ _ (sym c.is_some.ensures ∙ y) (c.search_key.ensures.found t h)

pub returns-clause-looks_up : goal.returns-clause-looks_up
returns-clause-looks_up g c t h =
    let entry = option_map place_of c.search_key.result.0 in
    (entry, c.search_key.ensures.descends t h, c.is_some.ensures ∙ same_some _ _ refl)
