use Rattle.std.proofs.Common.{◌∙◌, sym}
use Rattle.archive_hash_maps.proofs.Read.{buckets_are}
use Rattle.archive_hash_maps.proofs.Roots.{places_of_value, table_some, read_as, controls_read}
use Rattle.archive_hash_maps.proofs.walking.buckets.buckets_at.Goals as goal

pub target_of-target-requires-clause-leads : goal.target_of-target-requires-clause-leads
target_of-target-requires-clause-leads g c =
    let b = places_of_value c.requires in
    (b.buckets.target, (table_some (λ e. c.if-number_at-eq0.false (c.number_at.ensures.value ∙ e)) b.table).leads)

pub controls_at-requires : goal.controls_at-requires
controls_at-requires g c =
    let b = places_of_value c.requires in
    let p = table_some (λ e. c.if-number_at-eq0.false (c.number_at.ensures.value ∙ e)) b.table in
    record {
      small = c.number_at-capacity.ensures.bound;
      fits = (read_as c.target_of-target.result c.number_at-capacity.result p c.target_of-target.ensures c.number_at-capacity.ensures.value).within;
    }

pub returns : goal.returns
returns g c b is =
    let p = table_some (λ e. c.if-number_at-eq0.false (c.number_at.ensures.value ∙ e)) is in
    let r = read_as c.target_of-target.result c.number_at-capacity.result p c.target_of-target.ensures c.number_at-capacity.ensures.value in (
      buckets_are (sym r.target) (sym r.cap) (sym (c.controls_at.ensures.bytes ∙ controls_read c.target_of-target.result c.number_at-capacity.result p r)),
      λ e. c.if-number_at-eq0.false (c.number_at.ensures.value ∙ e),
      c.number_at-capacity.ensures.bound,
      c.target_of-target.type_inv,
    )
