use Rattle.archive_forms_values.proofs.Inside.{some_says}
use Rattle.cabinet_archives.proofs.KeptEntries.{entry_some}
use Rattle.cabinet_archives.proofs.maps.kept.entry_of.Goals as goal

pub unwrap-requires : goal.unwrap-requires
unwrap-requires c = let map = c.args.map in entry_some map.bytes.now map.pos c.requires.has c.args.index c.requires.within _ c.get_index.result c.get_index.ensures.answers

pub returns : goal.returns
returns c = λ m stands. (some_says _ _ c.get_index.result c.unwrap.result (c.get_index.ensures.answers m stands) c.unwrap.ensures).1
