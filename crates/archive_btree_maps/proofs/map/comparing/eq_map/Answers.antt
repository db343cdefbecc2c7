use Rattle.archive_forms_laws.specs.Views.{elements_of}
use Rattle.archive_btree_maps.proofs.Compared.{value_stands}
use Rattle.archive_btree_maps.proofs.map.comparing.eq_map.Goals as goal

pub equal_entries-requires-clause-these : goal.equal_entries-requires-clause-these
equal_entries-requires-clause-these g c =
    record { pairs = elements_of c.requires.this.value; stand = value_stands _ _ _ _ _ _ _ _ _ c.requires.this.value _ c.iter.ensures c.requires.this.held }

pub equal_entries-requires-clause-others : goal.equal_entries-requires-clause-others
equal_entries-requires-clause-others g c =
    record { pairs = elements_of c.requires.other.value; stand = value_stands _ _ _ _ _ _ _ _ _ c.requires.other.value _ c.iter-2.ensures c.requires.other.held }

pub returns : goal.returns
returns g c = λ v w h i.
    c.equal_entries.ensures (elements_of v) (elements_of w) (value_stands _ _ _ _ _ _ _ _ _ v _ c.iter.ensures h) (value_stands _ _ _ _ _ _ _ _ _ w _ c.iter-2.ensures i)
