use Rattle.std.proofs.Common.{ap}
use Rattle.cabinet_archives.proofs.KeptEntries.{entry_bytes}
use Rattle.cabinet_archives.proofs.KeptLeading.{leads, leads_nowhere, leads_by_number, leads_soundly, searches}
use Rattle.cabinet_archives.proofs.maps.kept.get_counted.Goals as goal

pub returns-in-Some-clause-leads : goal.returns-in-Some-clause-leads
returns-in-Some-clause-leads g c =
    let map = c.args.map in
    λ v h. (
      (entry_bytes map.bytes map.pos c.requires.has c.in-Some.index c.entry_of.result c.entry_of.ensures).1,
      leads map.bytes.now map.pos c.args.key.now c.hash_text.result c.search-found.result.0 c.hash_text.ensures c.hash_text.type_inv (λ m stands. (c.search-found.result.1, c.search-found.ensures.answers m stands)) c.requires.sound c.in-Some.index c.in-Some.is c.entry_of.result.1.pos (λ m stands. ap (λ e. e.1.pos) (c.entry_of.ensures m stands)) v h,
    )

pub returns-in-Some-clause-way : goal.returns-in-Some-clause-way
returns-in-Some-clause-way g c =
    let map = c.args.map in
    leads_by_number map.bytes.now map.pos c.args.key.now c.hash_text.result c.search-found.result.0 c.hash_text.ensures c.hash_text.type_inv (λ m stands. (c.search-found.result.1, c.search-found.ensures.answers m stands)) c.requires.sound c.in-Some.index c.in-Some.is c.entry_of.result.1.pos (λ m stands. ap (λ e. e.1.pos) (c.entry_of.ensures m stands)) c.requires.has

pub returns-in-Some-clause-sound : goal.returns-in-Some-clause-sound
returns-in-Some-clause-sound g c =
    let map = c.args.map in
    leads_soundly map.bytes.now map.pos c.args.key.now c.hash_text.result c.search-found.result.0 c.hash_text.ensures c.hash_text.type_inv (λ m stands. (c.search-found.result.1, c.search-found.ensures.answers m stands)) c.requires.sound c.in-Some.index c.in-Some.is c.entry_of.result.1.pos (λ m stands. ap (λ e. e.1.pos) (c.entry_of.ensures m stands)) c.requires.has

pub returns-in-None-clause-leads : goal.returns-in-None-clause-leads
returns-in-None-clause-leads g c =
    let map = c.args.map in
    leads_nowhere map.bytes.now map.pos c.args.key.now c.hash_text.result c.search-found.result.0 c.hash_text.ensures c.hash_text.type_inv (λ m stands. (c.search-found.result.1, c.search-found.ensures.answers m stands)) c.requires.sound c.in-None.is

pub returns-in-Some-clause-searches : goal.returns-in-Some-clause-searches
returns-in-Some-clause-searches g c =
    searches c.args.map.bytes.now c.args.map.pos c.args.key.now c.hash_text.result c.search-found.result.0 c.search-found.result.1 c.hash_text.ensures c.hash_text.type_inv c.search-found.ensures.answers

pub returns-in-None-clause-searches : goal.returns-in-None-clause-searches
returns-in-None-clause-searches g c =
    searches c.args.map.bytes.now c.args.map.pos c.args.key.now c.hash_text.result c.search-found.result.0 c.search-found.result.1 c.hash_text.ensures c.hash_text.type_inv c.search-found.ensures.answers
