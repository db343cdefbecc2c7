use Rattle.std.proofs.Common.{rules, arith, ap, subst, sym, ◌∙◌, ◌*◌, ◌-◌, ◌^◌, min}
use Rattle.archive_shape_layout.specs.Shape.{size_of}
use Rattle.archive_shape_layout.specs.Shape.Pointee.{slice}
use Rattle.archive_shape_layout.specs.Content.Part.{behind}
use Rattle.archive_shape.specs.Checks.{Checks}
use Rattle.archive_forms_values.proofs.Claimed.{elements_cut}
use Rattle.archive_hash_maps.specs.Heads.{HasHead}
use Rattle.archive_hash_maps.proofs.HeadChecks.{head_some, head_none}
use Rattle.archive_index.proofs.IndexChecks.{map_empty, head_refused, table_refused, entries_astray, entries_decide}
use Rattle.archive_index.proofs.check.check_index_map_each.Goals as goal

pub returns-in_err-head-clause-exact : goal.returns-in_err-head-clause-exact
returns-in_err-head-clause-exact g c names k v known pair =
    head_refused names c.args.bytes.now c.args.pos k v (g.C.ArchiveContext.kept c.args.context.now) (g.C.ArchiveContext.kept c.args.context.now) _ c.in_err-head.field-0.0 (search rules)
    (c.in_err-head.ensures _ 16 (omega arith))

pub returns-in_default-clause-exact : goal.returns-in_default-clause-exact
returns-in_default-clause-exact g c names k v known pair =
    map_empty names c.args.bytes.now c.args.pos k v (g.C.ArchiveContext.kept c.args.context.now)
    (head_none c.args.bytes.now c.args.pos _ c.in_default.is (c.in_ok-head.ensures))

pub returns-in_err-check_place_buckets-clause-exact : goal.returns-in_err-check_place_buckets-clause-exact
returns-in_err-check_place_buckets-clause-exact g c names k v known pair =
    let head : HasHead c.args.bytes.now c.args.pos c.in-Some.head = head_some c.args.bytes.now c.args.pos _ _ c.in-Some.is (c.in_ok-head.ensures) in
    table_refused names c.args.bytes.now c.args.pos k v c.in-Some.head head (g.C.ArchiveContext.kept c.args.context.now) _ (g.C.ArchiveContext.kept c.check_place_buckets.new.context) _
    c.in_err-check_place_buckets.field-0.0 (search rules) (c.in_err-check_place_buckets.ensures.exact names)

pub returns-in_default-read_target-clause-exact : goal.returns-in_default-read_target-clause-exact
returns-in_default-read_target-clause-exact g c names k v known pair =
    let head : HasHead c.args.bytes.now c.args.pos c.in-Some.head = head_some c.args.bytes.now c.args.pos _ _ c.in-Some.is (c.in_ok-head.ensures) in
    let size = elements_cut c.saturating_mul-size.result c.in-Some.head.len c.SIZE.result (size_of g.T.Portable.shape) c.saturating_mul-size.ensures (c.SIZE.ensures ∙ g.met.T.Portable.sized) in
    entries_astray names c.args.bytes.now c.args.pos k v c.in-Some.head head (g.C.ArchiveContext.kept c.args.context.now) (g.C.ArchiveContext.kept c.check_place_buckets.new.context)
    (c.in_ok-check_place_buckets.ensures.exact names) (g.C.ArchiveContext.kept c.check_place_buckets.new.context) c.saturating_mul-size.result (sym c.in_default-read_target.ensures)
    (size ∙ ap (λ s. min (c.in-Some.head.len * size_of s) (2 ^ 64 - 1)) pair)

pub returns-clause-exact : goal.returns-clause-exact
returns-clause-exact g c names k v known pair =
    let kept = g.C.ArchiveContext.kept in
    let head : HasHead c.args.bytes.now c.args.pos c.in-Some.head = head_some c.args.bytes.now c.args.pos _ _ c.in-Some.is (c.in_ok-head.ensures) in
    entries_decide names c.args.bytes.now c.args.pos k v c.in-Some.head head (kept c.args.context.now) (kept c.check_place_buckets.new.context)
    (c.in_ok-check_place_buckets.ensures.exact names) c.in-Some-read_target.entries (kept c.check_elements_behind.new.context) c.check_elements_behind.result (sym c.in-Some-read_target.ensures)
    (subst (λ s. Checks names c.args.bytes.now (behind c.in-Some-read_target.entries (slice s) c.in-Some.head.len) (kept c.check_place_buckets.new.context) c.check_elements_behind.result (kept c.check_elements_behind.new.context)) pair
    (c.check_elements_behind.ensures.exact names known))
