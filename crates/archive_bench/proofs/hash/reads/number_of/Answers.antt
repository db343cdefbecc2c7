use Rattle.archive_bench.proofs.HashRead.{value_there}
use Rattle.archive_bench.proofs.hash.reads.number_of.Goals as goal

pub native_of-requires : goal.native_of-requires
native_of-requires c = value_there c.value.result _ _ c.value.ensures.bytes c.value.ensures.pos c.requires
