use Rattle.std.proofs.Common.{arith, ℕ, List, refl, ap, subst}
use Rattle.std.specs.Rc.{rc_slice_items}
use Rattle.archive_forms.specs.Deserializing.{AreReadFrom}
use Rattle.archive_forms.proofs.Counted.{rc_slice_has, rc_slice_before, rc_slice_read}
use Rattle.archive_forms.proofs.deserializing.shared_slice.deserialize_rc_slice_each.Goals as goal

pub read_elements_once-requires-clause-there : goal.read_elements_once-requires-clause-there
read_elements_once-requires-clause-there g c =
    rw c.get-items.ensures.bytes (rc_slice_has g.A.Portable.shape g.A.Portable.knows c.args.this.bytes.now c.args.this.pos _ _ c.get-items.ensures.elements c.requires.there)

pub read_elements_once-requires-clause-takes : goal.read_elements_once-requires-clause-takes
read_elements_once-requires-clause-takes g c = rw c.get-items.ensures.bytes (λ d pos ends there kept.
    let before = rc_slice_before g.A.Portable.shape g.A.Portable.knows c.args.this.bytes.now c.args.this.pos _ _ c.get-items.ensures.elements c.requires.there in
    c.requires.takes d pos (omega (arith, ends, before)) there kept)

pub returns-clause-value : goal.returns-clause-value
returns-clause-value g c =
    let P : List ℕ → Type 0 = λ bytes. AreReadFrom g.A.ReadBack.reads g.A.Portable.shape g.A.Portable.knows bytes c.get-items.result.pos (rc_slice_items c.in_ok-value.value) in
    rc_slice_read g.A.Portable.shape g.A.Portable.knows c.args.this.bytes.now c.args.this.pos _ _ c.get-items.ensures.elements g.A.ReadBack.reads _ _ refl
    c.in_ok-value.ensures.values.0 (subst P (ap (λ bytes. bytes.now) c.get-items.ensures.bytes) c.in_ok-value.ensures.values.1)
