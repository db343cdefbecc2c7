use Rattle.std.proofs.Common.{rules, arith, ◌≡◌, suc, ◌+◌, ◌-◌, ◌*◌, ◌≤◌, length, refl, ◌∙◌, sym, ap, ap₂, subst, ◌∷◌}
use Rattle.archive_shape_layout.specs.Shape.{size_of}
use Rattle.archive_shape_layout.specs.Content.{entries}
use Rattle.archive_shape_layout.specs.Content.Part.{entry}
use Rattle.archive_shape.proofs.Ordered.{all_refused, advances_then, checked_records, all_left, one_less, first_fault, none_left, element_fits}
use Rattle.archive_btree_maps.proofs.Entered.{entries_next, entries_none}
use Rattle.archive_btree_maps.proofs.nodes.checking.entries.check_entries.Goals as goal

pub loop-i-init : goal.loop-i-init
loop-i-init g c =
    let whole : c.args.count - 0 ≡ c.args.count = omega arith in
    let k = g.K.Portable.shape in
    let v = g.V.Portable.shape in
    let keys = c.requires.keys_fit in
    let values = c.requires.values_fit in
    record {
      advances = record { begins = omega arith; ordered = c.requires.range.ordered; frame = refl };
      keys_fit = subst (λ n. c.args.key_pos + n * size_of k ≤ length c.args.bytes.now) (sym whole) keys;
      values_fit = subst (λ n. c.args.value_pos + n * size_of v ≤ length c.args.bytes.now) (sym whole) values;
      left = λ names known_key known_value inside before records. (before, records, all_left names c.args.bytes.now inside before _ _ _ (ap (λ n. entries n k c.args.key_pos v c.args.value_pos) whole));
    }

pub returns-in_err-check_entry-clause-exact : goal.returns-in_err-check_entry-clause-exact
returns-in_err-check_entry-clause-exact g c names known_key known_value =
    let k = g.K.Portable.shape in
    let v = g.V.Portable.shape in
    let held = c.loop-i.invariant in
    let next : c.args.count - c.loop-i.i ≡ suc (c.args.count - (c.loop-i.i + 1)) = omega (arith, c.loop-i-test.true) in
    all_refused names c.args.bytes.now (entries c.args.count k c.args.key_pos v c.args.value_pos) _ _ _ c.in_err-check_entry.field-0.0 (search rules)
    (λ inside before records other.
    let mid = held.left names known_key known_value inside before records in
    first_fault names c.args.bytes.now inside before (entries c.args.count k c.args.key_pos v c.args.value_pos) (g.C.ArchiveContext.kept c.args.context.now) mid.2 (entries_next _ _ k _ v _ next) (c.in_err-check_entry.ensures.exact names known_key known_value inside mid.0 mid.1 other))

pub loop-i-preserved : goal.loop-i-preserved
loop-i-preserved g c =
    let k = g.K.Portable.shape in
    let v = g.V.Portable.shape in
    let held = c.loop-i.invariant in
    let rest = c.args.count - (c.loop-i.i + 1) in
    let next : c.args.count - c.loop-i.i ≡ suc rest = omega (arith, c.loop-i-test.true) in
    let key_fits = element_fits _ _ _ _ _ next held.keys_fit in
    let value_fits = element_fits _ _ _ _ _ next held.values_fit in
    let key_size : c.SIZE-key_size.result ≡ size_of k = omega (arith, c.SIZE-key_size.ensures, g.met.K.Portable.sized, key_fits.0) in
    let value_size : c.SIZE-value_size.result ≡ size_of v = omega (arith, c.SIZE-value_size.ensures, g.met.V.Portable.sized, value_fits.0) in
    let checks = c.in_ok-check_entry.ensures in
    record {
      advances = advances_then held.advances checks.moves;
      keys_fit = subst (λ n. c.loop-i.key + n + rest * size_of k ≤ length c.args.bytes.now) (sym key_size) key_fits.1;
      values_fit = subst (λ n. c.loop-i.value + n + rest * size_of v ≤ length c.args.bytes.now) (sym value_size) value_fits.1;
      left = λ names known_key known_value inside before records.
          let mid = held.left names known_key known_value inside before records in
          let here = checks.exact names known_key known_value inside mid.0 mid.1 in (
            here.passes.after,
            checked_records names c.args.bytes.now inside mid.0 here,
            one_less names c.args.bytes.now inside before (entries c.args.count k c.args.key_pos v c.args.value_pos) (g.C.ArchiveContext.kept c.args.context.now) mid.2
                (entries_next _ _ k _ v _ next ∙ ap₂ (λ x y. entry k c.loop-i.key v c.loop-i.value ∷ entries rest k (c.loop-i.key + x) v (c.loop-i.value + y)) (sym key_size) (sym value_size)) here,
          );
    }

pub returns-clause-exact : goal.returns-clause-exact
returns-clause-exact g c names known_key known_value inside before records =
    let none : c.args.count - c.loop-i.i ≡ 0 = omega (arith, c.loop-i.auto.i-end, c.loop-i-test.false) in
    let mid = c.loop-i.invariant.left names known_key known_value inside before records in
    none_left names c.args.bytes.now inside before (entries c.args.count g.K.Portable.shape c.args.key_pos g.V.Portable.shape c.args.value_pos) (g.C.ArchiveContext.kept c.args.context.now) mid.2 (entries_none _ _ _ _ _ none) mid.1
