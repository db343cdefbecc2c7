use Rattle.std.proofs.Common.{Some, None, refl, subst}
use Rattle.archive_forms_values.specs.Tuples.{tuple2}
use Rattle.archive_hash_maps.specs.Maps.{KeySays, value_at}
use Rattle.archive_hash_maps.proofs.LookedUp.{looks_up_as}
use Rattle.archive_hash_maps.proofs.Same.{found_in}
use Rattle.archive_hash_maps.proofs.set.std_map.leads_to.Goals as goal

pub same-requires : goal.same-requires
same-requires g c = let h = c.in-Some.ensures.there in g.met.V.ArchivedKey.held_is_key c.in-Some.found.bytes.now c.in-Some.found.pos h.value h.held

pub returns-in-Some : goal.returns-in-Some
returns-in-Some g c b is =
    let k = g.K.Portable.shape in
    let v = g.V.Portable.shape in
    let looks = c.in-Some.ensures.answers b is in
    let bytes = found_in {V = g.row.V.Denot} c.args.this.bytes k v c.in-Some.found looks.answers.position looks.answers.is in
    record {
      found = Some c.in-Some.found.pos;
      looks_up = looks_up_as _ _ (value_at {V = g.row.V.Denot} c.args.this.bytes k v) (λ r. r.pos) (tuple2 k v) b (Some c.in-Some.found) (Some c.in-Some.found.pos) refl looks;
      says = subst (λ bs. KeySays g.V.ArchivedKey.key_of g.V.ArchivedKey.order bs.now c.args.value.now c.in-Some.found.pos c.same.result) bytes c.same.ensures;
    }

pub returns-in-None : goal.returns-in-None
returns-in-None g c b is =
    let k = g.K.Portable.shape in
    let v = g.V.Portable.shape in
    record {
      found = None;
      looks_up = looks_up_as _ _ (value_at {V = g.row.V.Denot} c.args.this.bytes k v) (λ r. r.pos) (tuple2 k v) b None None refl (c.in-None.ensures.answers b is);
      says = refl;
    }
