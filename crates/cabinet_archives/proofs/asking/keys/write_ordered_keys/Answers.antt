use Rattle.std.proofs.Common.{map, refl, sym, ◌∙◌}
use Rattle.cabinet_archives.proofs.Ascending.{text_of, all_there}
use Rattle.cabinet_archives.proofs.KeysYielded.{one_yield, yields_texts, yield_counted}
use Rattle.cabinet_archives.proofs.MapKeys.{ordered_count, ordered_texts}
use Rattle.cabinet_archives.proofs.asking.keys.write_ordered_keys.Goals as goal

pub write_keys-requires : goal.write_keys-requires
write_keys-requires g c = λ κ.
    let m = c.args.map in
    let counted = yield_counted c.keys.result c.len.result (ordered_count m.bytes m.pos c.requires.there c.keys.result c.keys.ensures c.len.result c.len.ensures) in
    ((refl, tt), ((tt, tt), ((map text_of c.keys.result, yields_texts c.keys.result (all_there m.bytes m.pos c.requires.there c.keys.result c.keys.ensures)), (counted, c.requires.room))))

pub returns-clause-written : goal.returns-clause-written
returns-clause-written g c = λ v h.
    let m = c.args.map in
    let w = c.write_keys.ensures.written in
    rw (sym (one_yield c.keys.result w.0 w.1 ∙ ordered_texts m.bytes m.pos c.keys.result c.keys.ensures v h)) w.2
