use Rattle.archive_bench.specs.BtreeTexts.{known}
use Rattle.archive_bench.proofs.Held.{text_there}
use Rattle.archive_bench.proofs.btree.reads.weight.Goals as goal

pub as_str-requires : goal.as_str-requires
as_str-requires c = text_there known c.args.key.bytes.now c.args.key.pos c.requires.key
