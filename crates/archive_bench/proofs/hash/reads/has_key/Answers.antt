use Rattle.archive_bench.specs.HashTexts.{known}
use Rattle.archive_bench.proofs.HashRead.{key_there}
use Rattle.archive_bench.proofs.hash.reads.has_key.Goals as goal
use Rattle.archive_bench.proofs.Held.{text_there}

pub as_str-requires : goal.as_str-requires
as_str-requires c = text_there known _ _ (key_there c.key.result _ _ c.key.ensures.bytes c.key.ensures.pos c.requires)
