use Rattle.std.proofs.Common.{rules, arith, Ok, Err}
use Rattle.archive_shape.proofs.Ordered.{advances_narrow, advances_within}
use Rattle.archive_btree_maps.proofs.Entered.{moves_then, key_refused, value_decides}
use Rattle.archive_btree_maps.proofs.nodes.checking.entries.check_entry.Goals as goal

pub key_step-requires : goal.key_step-requires
key_step-requires g c =
    c.requires.takes_key _ _ (record { begins = omega arith; ends = omega arith; ordered = c.requires.range.ordered }) c.requires.key_fits

pub returns-in_err-key_step-clause-exact : goal.returns-in_err-key_step-clause-exact
returns-in_err-key_step-clause-exact g c names known_key known_value =
    let checks = c.requires.checks_key _ _ _ (Err c.in_err-key_step.field-0.0) c.requires.range c.requires.key_fits c.in_err-key_step.ensures in
    key_refused names c.args.bytes.now g.K.Portable.shape g.V.Portable.shape c.args.key_pos c.args.value_pos _ _ _ c.in_err-key_step.field-0.0 (search rules) (checks.1 names known_key)

pub value_step-requires : goal.value_step-requires
value_step-requires g c =
    let checks = c.requires.checks_key _ _ _ (Ok tt) c.requires.range c.requires.key_fits c.in_ok-key_step.ensures in
    c.requires.takes_value _ _ (advances_narrow checks.0) c.requires.value_fits

pub returns : goal.returns
returns g c =
    let one = c.requires.checks_key _ _ _ (Ok tt) c.requires.range c.requires.key_fits c.in_ok-key_step.ensures in
    let other = c.requires.checks_value _ _ _ c.value_step.result (advances_within _ c.requires.range one.0) c.requires.value_fits c.value_step.ensures in
    record {
      moves = moves_then _ _ _ _ one.0 other.0;
      exact = λ names known_key known_value. value_decides names c.args.bytes.now g.K.Portable.shape g.V.Portable.shape c.args.key_pos c.args.value_pos _ _ _ _ (one.1 names known_key) (other.1 names known_value);
    }
