use Rattle.std.proofs.Common.{rules, arith, ◌≡◌, ◌+◌, ◌-◌, ◌*◌, refl}
use Rattle.archive_shape_layout.specs.Content.{place, tagged_items}
use Rattle.archive_shape.proofs.Ordered.{all_refused, all_left, first_fault, none_left}
use Rattle.archive_hash_maps.proofs.ItemChecks.{item_next, items_none, place_checked, place_passed}
use Rattle.archive_hash_maps.proofs.checking.places.check_numbers.Goals.{then-controls-place-lt128+in_ok-check_number, else-controls-place-lt128}
use Rattle.archive_hash_maps.proofs.checking.places.check_numbers.Goals as goal

pub loop-place-init : goal.loop-place-init
loop-place-init c =
    record {
      bucket = omega arith;
      left = λ names kept inside before records. record { mid = before; records = records; left = all_left names c.args.bytes.now inside before _ _ _ refl };
    }

pub returns-in_err-check_number : goal.returns-in_err-check_number
returns-in_err-check_number c names kept =
    let held = c.loop-place.invariant in
    let here : c.loop-place.bucket - 4 ≡ c.args.target - (c.loop-place.place + 1) * 4 = omega (arith, held.bucket) in
    all_refused names c.args.bytes.now (tagged_items c.args.target (place c.args.limit) 0 c.args.controls.now) kept kept _ c.in_err-check_number.field-0.0 (search rules)
    (λ inside before records other.
    let mid = held.left names kept inside before records in
    first_fault names c.args.bytes.now inside before (tagged_items c.args.target (place c.args.limit) 0 c.args.controls.now) kept mid.left
    (item_next c.args.target (place c.args.limit) c.args.controls.now c.loop-place.place _ c.loop-place-test.true c.if-controls-place-lt128.true here) (c.in_err-check_number.ensures names kept inside mid.mid mid.records other))

pub loop-place-preserved : goal.loop-place-preserved
loop-place-preserved c =
    let held = c.loop-place.invariant in
    let here : c.loop-place.bucket - 4 ≡ c.args.target - (c.loop-place.place + 1) * 4 = omega (arith, held.bucket) in
    elim c.if-controls-place-lt128.branch [
      | then-controls-place-lt128+in_ok-check_number w ↦
          record {
            bucket = here;
            left = λ names kept inside before records.
                place_checked c.args.target (place c.args.limit) c.args.controls.now names c.args.bytes.now inside before kept _ kept (held.left names kept inside before records) c.loop-place-test.true _ kept w.if-controls-place-lt128.true here (w.in_ok-check_number.ensures names kept);
          }
      | else-controls-place-lt128 w ↦
          record {
            bucket = here;
            left = λ names kept inside before records.
                place_passed c.args.target (place c.args.limit) c.args.controls.now names c.args.bytes.now inside before kept _ kept (held.left names kept inside before records) c.loop-place-test.true w.if-controls-place-lt128.false;
          }
    ]

pub returns : goal.returns
returns c names kept inside before records =
    let mid = c.loop-place.invariant.left names kept inside before records in
    none_left names c.args.bytes.now inside before (tagged_items c.args.target (place c.args.limit) 0 c.args.controls.now) kept mid.left
    (items_none c.args.target (place c.args.limit) c.args.controls.now c.loop-place.place c.loop-place-test.false) mid.records
