use Rattle.std.proofs.Common.{rules, arith, ℕ, List, refl, ap, subst}
use Rattle.archive_forms.specs.Deserializing.{IsReadAt}
use Rattle.archive_forms.proofs.Counted.{rc_has, rc_before, rc_read}
use Rattle.archive_forms.proofs.deserializing.shared.deserialize_rc_each.Goals as goal

pub read_value_once-requires-clause-there : goal.read_value_once-requires-clause-there
read_value_once-requires-clause-there g c =
    rw c.get-target.ensures.bytes (rc_has g.A.Portable.shape g.A.Portable.knows c.args.this.bytes.now c.args.this.pos _ c.get-target.ensures.value c.requires.there)

pub read_value_once-requires-clause-takes : goal.read_value_once-requires-clause-takes
read_value_once-requires-clause-takes g c = rw c.get-target.ensures.bytes (λ d pos ends there kept.
    let before = rc_before g.A.Portable.shape g.A.Portable.knows c.args.this.bytes.now c.args.this.pos _ c.get-target.ensures.value c.requires.there in
    c.requires.takes d pos (omega (arith, ends, before)) there kept)

pub returns-clause-value : goal.returns-clause-value
returns-clause-value g c =
    let P : List ℕ → Type 0 = λ bytes. IsReadAt g.A.ReadBack.reads g.A.Portable.shape g.A.Portable.knows bytes c.get-target.result.pos c.in_ok-value.value.value in
    rc_read g.A.Portable.shape g.A.Portable.knows c.args.this.bytes.now c.args.this.pos _ c.get-target.ensures.value g.A.ReadBack.reads _ _ refl
    (subst P (ap (λ bytes. bytes.now) c.get-target.ensures.bytes) c.in_ok-value.ensures.value)

pub returns-clause-key : goal.returns-clause-key
returns-clause-key g c = search rules

pub returns-clause-pooled : goal.returns-clause-pooled
returns-clause-pooled g c = search rules

pub returns-clause-unread : goal.returns-clause-unread
returns-clause-unread g c = search rules
