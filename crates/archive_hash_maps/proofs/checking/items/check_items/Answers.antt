use Rattle.std.proofs.Common.{rules, arith, ◌≡◌, ◌+◌, ◌-◌, ◌*◌, ◌≤◌, length, Ok, Err, refl, sym, subst}
use Rattle.archive_shape_layout.specs.Shape.{size_of}
use Rattle.archive_shape_layout.specs.Content.{item, tagged_items}
use Rattle.archive_shape.specs.Kept.{Advances}
use Rattle.archive_shape.proofs.Ordered.{all_refused, advances_then, advances_within, advances_narrow, all_left, first_fault, none_left}
use Rattle.archive_hash_maps.proofs.ItemChecks.{BucketBelow, bucket_below, item_next, items_none, LeftFrom, place_checked, place_passed}
use Rattle.archive_hash_maps.proofs.checking.items.check_items.Goals.{then-controls-place-lt128+in_ok-step, else-controls-place-lt128}
use Rattle.archive_hash_maps.proofs.checking.items.check_items.Goals as goal

pub loop-place-init : goal.loop-place-init
loop-place-init g c =
    record {
      advances = record { begins = omega arith; ordered = c.requires.range.ordered; frame = refl };
      bucket = omega arith;
      left = λ names known inside before records. record { mid = before; records = records; left = all_left names c.args.bytes.now inside before _ _ _ refl };
    }

pub overflow_sub-bucket : goal.overflow_sub-bucket
overflow_sub-bucket g c =
    let below : BucketBelow c.loop-place.place (size_of g.T.Portable.shape) c.args.target c.loop-place.bucket = bucket_below _ _ _ _ _ c.loop-place-test.true c.requires.below c.loop-place.invariant.bucket in
    omega (arith, c.SIZE-size.ensures, g.met.T.Portable.sized, below.room)

pub step-requires : goal.step-requires
step-requires g c =
    let s = g.T.Portable.shape in
    let below : BucketBelow c.loop-place.place (size_of s) c.args.target c.loop-place.bucket = bucket_below _ _ _ _ _ c.loop-place-test.true c.requires.below c.loop-place.invariant.bucket in
    let size : c.SIZE-size.result ≡ size_of s = omega (arith, c.SIZE-size.ensures, g.met.T.Portable.sized, below.room) in
    c.requires.takes _ _ (advances_narrow c.loop-place.invariant.advances) (omega (arith, size, below.within, c.requires.fits))

pub returns-in_err-step-clause-moves : goal.returns-in_err-step-clause-moves
returns-in_err-step-clause-moves g c =
    let passed : c.from_residual.result ≡ Err c.in_err-step.field-0.0 = search rules in
    rw passed tt

pub returns-clause-moves : goal.returns-clause-moves
returns-clause-moves g c = c.loop-place.invariant.advances

pub returns-in_err-step-clause-exact : goal.returns-in_err-step-clause-exact
returns-in_err-step-clause-exact g c names known =
    let s = g.T.Portable.shape in
    let held = c.loop-place.invariant in
    let below : BucketBelow c.loop-place.place (size_of s) c.args.target c.loop-place.bucket = bucket_below _ _ _ _ _ c.loop-place-test.true c.requires.below held.bucket in
    let size : c.SIZE-size.result ≡ size_of s = omega (arith, c.SIZE-size.ensures, g.met.T.Portable.sized, below.room) in
    let here : c.loop-place.bucket - c.SIZE-size.result ≡ c.args.target - (c.loop-place.place + 1) * size_of s = omega (arith, below.is_next) in
    let fits : c.loop-place.bucket - c.SIZE-size.result + size_of s ≤ length c.args.bytes.now = omega (arith, below.within, c.requires.fits) in
    let checks = c.requires.checks _ _ _ (Err c.in_err-step.field-0.0) (advances_within _ c.requires.range held.advances) fits c.in_err-step.ensures in
    all_refused names c.args.bytes.now (tagged_items c.args.target (item s) 0 c.args.controls.now) (g.C.ArchiveContext.kept c.args.context.now) _ _ c.in_err-step.field-0.0 (search rules)
    (λ inside before records other.
    let mid = held.left names known inside before records in
    first_fault names c.args.bytes.now inside before (tagged_items c.args.target (item s) 0 c.args.controls.now) (g.C.ArchiveContext.kept c.args.context.now) mid.left
    (item_next c.args.target (item s) c.args.controls.now c.loop-place.place _ c.loop-place-test.true c.if-controls-place-lt128.true here) (checks.1 names known inside mid.mid mid.records other))

pub loop-place-preserved : goal.loop-place-preserved
loop-place-preserved g c =
    let s = g.T.Portable.shape in
    let kept = g.C.ArchiveContext.kept in
    let old = kept c.args.context.now in
    let held = c.loop-place.invariant in
    let below : BucketBelow c.loop-place.place (size_of s) c.args.target c.loop-place.bucket = bucket_below _ _ _ _ _ c.loop-place-test.true c.requires.below held.bucket in
    let size : c.SIZE-size.result ≡ size_of s = omega (arith, c.SIZE-size.ensures, g.met.T.Portable.sized, below.room) in
    let here : c.loop-place.bucket - c.SIZE-size.result ≡ c.args.target - (c.loop-place.place + 1) * size_of s = omega (arith, below.is_next) in
    let fits : c.loop-place.bucket - c.SIZE-size.result + size_of s ≤ length c.args.bytes.now = omega (arith, below.within, c.requires.fits) in
    elim c.if-controls-place-lt128.branch [
      | then-controls-place-lt128+in_ok-step w ↦
          let checks = c.requires.checks _ _ _ (Ok tt) (advances_within _ c.requires.range held.advances) fits w.in_ok-step.ensures in
          record {
            advances = subst (λ x. Advances old (kept x)) (sym w.context-is) (advances_then held.advances checks.0);
            bucket = here;
            left = λ names known inside before records.
                subst (λ x. LeftFrom c.args.target (item s) c.args.controls.now names c.args.bytes.now inside before old (c.loop-place.place + 1) (kept x)) (sym w.context-is)
                (place_checked c.args.target (item s) c.args.controls.now names c.args.bytes.now inside before old _ _ (held.left names known inside before records) c.loop-place-test.true _ _ w.if-controls-place-lt128.true here (checks.1 names known));
          }
      | else-controls-place-lt128 w ↦
          record {
            advances = subst (λ x. Advances old (kept x)) (sym w.context-is) held.advances;
            bucket = here;
            left = λ names known inside before records.
                subst (λ x. LeftFrom c.args.target (item s) c.args.controls.now names c.args.bytes.now inside before old (c.loop-place.place + 1) (kept x)) (sym w.context-is)
                (place_passed c.args.target (item s) c.args.controls.now names c.args.bytes.now inside before old _ _ (held.left names known inside before records) c.loop-place-test.true w.if-controls-place-lt128.false);
          }
    ]

pub returns-clause-exact : goal.returns-clause-exact
returns-clause-exact g c names known inside before records =
    let mid = c.loop-place.invariant.left names known inside before records in
    none_left names c.args.bytes.now inside before (tagged_items c.args.target (item g.T.Portable.shape) 0 c.args.controls.now) (g.C.ArchiveContext.kept c.args.context.now) mid.left
    (items_none c.args.target (item g.T.Portable.shape) c.args.controls.now c.loop-place.place c.loop-place-test.false) mid.records
