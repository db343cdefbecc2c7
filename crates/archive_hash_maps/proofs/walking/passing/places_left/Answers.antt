use Rattle.std.proofs.Common.{◌∙◌, ap, sym, refl, length, arith}
use Rattle.archive_hash_maps.specs.Tables.{full_places}
use Rattle.archive_hash_maps.proofs.Roots.{table_count}
use Rattle.archive_hash_maps.proofs.Passed.{starts, table_here, written_here}
use Rattle.archive_hash_maps.proofs.walking.passing.places_left.Goals as goal

pub returns-in-Some : goal.returns-in-Some
returns-in-Some g c m e f =
    let here = table_here m c.args.bytes.now c.args.pos e f in
    let r = c.in-Some.ensures m.buckets here in
    (starts m _ (sym (ap (λ b. b.target) r.0)) (sym (ap (λ b. b.cap) r.0)) r.2 refl (c.number_at.ensures.value ∙ table_count here), written_here m c.args.bytes.now e)

pub returns-in-None : goal.returns-in-None
returns-in-None g c m e f =
    let none = c.in-None.ensures m.buckets (table_here m c.args.bytes.now c.args.pos e f) in
    (starts m _ (sym (ap (λ b. b.target) none)) (sym (ap (λ b. b.cap) none)) (omega arith) refl (sym (ap (λ b. length (full_places b)) none)), written_here m c.args.bytes.now e)
