use Rattle.archive_core_tests.specs.declared.rc.tower.Tower.{Tower}
use Rattle.archive_core_tests.proofs.Named.{tower_has}
use Rattle.archive_core_tests.proofs.Towers.{tower_read}
use Rattle.archive_core_tests.proofs.rc.tower.+read.Goals as goal

pub deserialize_tower-deserialize_vec_each-pointers-requires-clause-there :
    goal.deserialize_tower-deserialize_vec_each-pointers-requires-clause-there
deserialize_tower-deserialize_vec_each-pointers-requires-clause-there g t c = tower_has c.args.bytes.now c.args.pos c.requires.there

pub deserialize_tower-returns-in-Ok-clause-value : goal.deserialize_tower-returns-in-Ok-clause-value
deserialize_tower-returns-in-Ok-clause-value g t c =
    tower_read (λ (t : Tower). t.levels) c.args.bytes.now c.args.pos c.in-Ok.pointers _ c.tower_on.result c.as_slice.ensures.value c.in-Ok.ensures.value c.tower_on.ensures
