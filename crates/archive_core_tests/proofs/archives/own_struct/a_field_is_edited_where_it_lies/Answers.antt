use Rattle.std.proofs.Common.{◌≡◌, [], refl, arith}
use Rattle.archive_shape_layout.specs.Bytes.{align_up}
use Rattle.archive_shape_layout.specs.Shape.{size_of}
use Rattle.archive_example_player.specs.Player.{player_shape}
use Rattle.archive_core_tests.proofs.archives.own_struct.a_field_is_edited_where_it_lies.Goals as goal

-- the level is the first of the 24 bytes
pub write-requires : goal.write-requires
unfolding align_up
write-requires g c =
    let root = c.in_ok-root.ensures in
    let within = (root.value [] (tt, tt, tt)).held.own_within in
    let size : size_of player_shape ≡ 24 = refl in
    rw (c.level_seal.ensures.bytes, c.level_seal.ensures.pos, root.bytes, root.position) (omega (arith, within, size))

pub accessed_and_read-requires : goal.accessed_and_read-requires
accessed_and_read-requires g c = ([], (tt, tt, tt))
