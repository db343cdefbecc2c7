use Rattle.archive_forms_values.specs.Tuples.{tuple2}
use Rattle.archive_forms_values.specs.Parts.{both}
use Rattle.archive_hash_maps.specs.Maps.{KeySays}
use Rattle.archive_hash_maps.proofs.Lookups.{found_there}
use Rattle.archive_hash_maps.proofs.Entries.{entries_there}
use Rattle.archive_hash_maps.proofs.LookedUp.{same_position}
use Rattle.archive_hash_maps.proofs.walking.keyed.search_key.Goals as goal

pub search_table-requires : goal.search_table-requires
search_table-requires g c =
    record {
      has = c.requires.has;
      callable = λ b is i d less.
          let parts = entries_there g.K.Portable.shape g.V.Portable.shape g.K.Portable.knows g.V.Portable.knows c.args.bytes.now c.args.pos c.requires.has b is i d less in
          g.met.K.ArchivedKey.held_is_key c.args.bytes.now _ parts.key.value parts.key.held;
    }

pub returns-clause-there : goal.returns-clause-there
returns-clause-there g c =
    found_there (tuple2 g.K.Portable.shape g.V.Portable.shape) (both g.K.Portable.knows g.V.Portable.knows) c.args.bytes.now c.args.pos
    (KeySays g.K.ArchivedKey.key_of g.K.ArchivedKey.order c.args.bytes.now c.args.query.now) c.requires.has c.search_table.result.0 c.search_table.ensures.accepted

pub returns-clause-answers : goal.returns-clause-answers
returns-clause-answers g c b is =
    let f = c.search_table.ensures in
    record {
      hash = c.hash_value.result;
      strides = c.search_table.result.1;
      is_hash = c.hash_value.ensures;
      answers =
          record {
            position = c.search_table.result.0;
            is = same_position c.search_table.result.0;
            looks_up = f.answers b is;
            accepted = f.accepted b is;
            only = f.findable b is;
            few = f.few b is;
          };
    }
