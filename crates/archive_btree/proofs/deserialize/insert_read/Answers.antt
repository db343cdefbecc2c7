use Rattle.std.proofs.Common.{rules, ◌≡◌}
use Rattle.std.specs.BTreeMap.{insert_entry}
use Rattle.archive_btree.proofs.deserialize.insert_read.Goals as goal

pub returns-else-is_err-clause-value : goal.returns-else-is_err-clause-value
returns-else-is_err-clause-value g c =
    let key = c.requires.reads_key _ _ _ _ c.requires.has_key c.requires.kept c.in_ok-key.ensures in
    let value = c.requires.reads_value _ _ _ _ c.requires.has_value key.1 c.in_ok-value.ensures in
    let entries : c.insert.new.self.entries ≡ insert_entry g.K.Ord.cmp c.args.map.now.entries c.in_ok-key.field-0.0 c.in_ok-value.field-0.0 = search rules in
    ((c.in_ok-key.field-0.0, c.in_ok-value.field-0.0), key.0, value.0, entries)
