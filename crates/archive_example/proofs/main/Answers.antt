use Rattle.std.proofs.Common.{◌≡◌, [], refl, arith}
use Rattle.archive_shape_layout.specs.Bytes.{align_up}
use Rattle.archive_shape_layout.specs.Shape.{size_of}
use Rattle.archive_example_player.specs.Player.{player_shape}
use Rattle.archive_example.proofs.main.Goals as goal

pub print_fields-requires : goal.print_fields-requires
print_fields-requires c = rw (c.in_ok-access.ensures.bytes, c.in_ok-access.ensures.position) (c.in_ok-access.ensures.value [] (tt, tt, tt))

-- the level is the first of the 24 bytes
pub write-requires : goal.write-requires
unfolding align_up
write-requires c =
    let root = c.in_ok-root.ensures in
    let within = (root.value [] (tt, tt, tt)).held.own_within in
    let size : size_of player_shape ≡ 24 = refl in
    rw (c.level_seal.ensures.bytes, c.level_seal.ensures.pos, root.bytes, root.position) (omega (arith, within, size))

pub print_fields-requires-2 : goal.print_fields-requires-2
print_fields-requires-2 c = rw (c.in_ok-access-2.ensures.bytes, c.in_ok-access-2.ensures.position) (c.in_ok-access-2.ensures.value [] (tt, tt, tt))

pub from_bytes-requires : goal.from_bytes-requires
from_bytes-requires c = record { named = ([], (tt, tt, tt)) }
