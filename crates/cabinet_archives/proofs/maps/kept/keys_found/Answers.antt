use Rattle.std.proofs.Common.{refl, arith}
use Rattle.cabinet_archives.specs.declared.opening.refusal.OpenRefusal.TheVariants as refusal
use Rattle.cabinet_archives.proofs.IndexAudit.{all_keys, keys_none, keys_lost, keys_left}
use Rattle.cabinet_archives.proofs.KeptEntries.{key_stands}
use Rattle.cabinet_archives.proofs.maps.kept.keys_found.Goals as goal

pub loop-index-init : goal.loop-index-init
loop-index-init g c = all_keys c.args.map.bytes c.args.map.pos

pub key_of-own-requires-clause-within : goal.key_of-own-requires-clause-within
key_of-own-requires-clause-within g c = λ m stands. omega (arith, c.loop-index-test.true, c.len-index-end.ensures m stands, c.loop-index.auto.index-end)

pub returns-then-not-is_found_at : goal.returns-then-not-is_found_at
returns-then-not-is_found_at g c =
    let map = c.args.map in
    keys_lost map.bytes map.pos c.requires c.loop-index.index (λ m stands. omega (arith, c.loop-index-test.true, c.len-index-end.ensures m stands, c.loop-index.auto.index-end)) c.loop-index.invariant
    c.key_of-own.result.1.now (key_stands map.bytes.now map.pos c.loop-index.index c.key_of-own.result.0 c.key_of-own.result.1.now c.key_of-own.ensures.position c.key_of-own.ensures.text) c.hash_text.result c.hash_text.ensures c.hash_text.type_inv c.is_found_at.result c.search_own.result.0 (λ m stands. (c.search_own.result.1, c.search_own.ensures m stands)) c.is_found_at.ensures c.if-not-is_found_at.true refusal.NotFound refl

pub loop-index-preserved : goal.loop-index-preserved
loop-index-preserved g c =
    let map = c.args.map in
    keys_left map.bytes map.pos c.requires c.loop-index.index (λ m stands. omega (arith, c.loop-index-test.true, c.len-index-end.ensures m stands, c.loop-index.auto.index-end)) c.loop-index.invariant
    c.key_of-own.result.1.now (key_stands map.bytes.now map.pos c.loop-index.index c.key_of-own.result.0 c.key_of-own.result.1.now c.key_of-own.ensures.position c.key_of-own.ensures.text) c.hash_text.result c.hash_text.ensures c.hash_text.type_inv c.is_found_at.result c.search_own.result.0 (λ m stands. (c.search_own.result.1, c.search_own.ensures m stands)) c.is_found_at.ensures c.if-not-is_found_at.false

pub returns : goal.returns
returns g c =
    keys_none c.args.map.bytes c.args.map.pos c.loop-index.index (λ m stands. omega (arith, c.loop-index-test.false, c.len-index-end.ensures m stands, c.loop-index.auto.index-end)) c.requires c.loop-index.invariant
