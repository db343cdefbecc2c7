use Rattle.std.specs.Prelude.{⊤}
use Rattle.std.proofs.Common.{refl}
use Rattle.archive_forms_laws.specs.Sample.{number_shape}
use Rattle.archive_btree_maps.specs.Walks.{BegunMap}
use Rattle.archive_btree_maps.proofs.Roots.{tree_of_value}
use Rattle.archive_btree_tests.proofs.cursors.entry_between.Goals as goal

pub lent_between-requires : goal.lent_between-requires
lent_between-requires c =
    let m = tree_of_value c.requires in
    let begun : BegunMap 5 number_shape number_shape (λ _. ⊤) (λ _. ⊤) =
    record { bytes = c.args.map.bytes.now; pos = c.args.map.pos; search_tree = m.search_tree; has = c.requires; map = m.map }
    in
    let w = c.range_seal_with.ensures.within begun refl refl in
    (begun, w.0, w.1, w.2)
