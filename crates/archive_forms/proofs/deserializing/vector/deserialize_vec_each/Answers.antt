use Rattle.std.proofs.Common.{arith, List, ℕ, ap, sym, subst}
use Rattle.archive_shape_layout.specs.Shape.Shape.{vector}
use Rattle.archive_forms_values.specs.Parts.{HasElements}
use Rattle.archive_forms.specs.Deserializing.{DeserializesAll}
use Rattle.archive_forms.proofs.Read.{vec_has, elements_read}
use Rattle.archive_forms.proofs.deserializing.vector.deserialize_vec_each.Goals as goal

pub deserialize_elements_each-requires-clause-there : goal.deserialize_elements_each-requires-clause-there
deserialize_elements_each-requires-clause-there g c =
    let same = ap (λ bytes. bytes.now) c.as_slice.ensures.bytes in
    let P : List ℕ → Type 0 = λ bytes. HasElements g.A.Portable.shape g.A.Portable.knows bytes c.as_slice.result.pos c.as_slice.result.len in
    subst P (sym same) (vec_has g.A.Portable.shape g.A.Portable.knows c.args.this.bytes.now c.args.this.pos _ _ c.as_slice.ensures.elements c.requires.there)

pub deserialize_elements_each-requires-clause-takes : goal.deserialize_elements_each-requires-clause-takes
deserialize_elements_each-requires-clause-takes g c = rw c.as_slice.ensures.bytes (λ d pos ends there kept.
    let before = c.as_slice.ensures.elements.before c.requires.there in
    c.requires.takes d pos (omega (arith, ends, before)) there kept)

pub returns-clause-value : goal.returns-clause-value
returns-clause-value g c =
    let same = ap (λ bytes. bytes.now) c.as_slice.ensures.bytes in
    let P : List ℕ → Type 0 = λ bytes. DeserializesAll g.A.ReadBack.reads g.A.Portable.shape g.A.Portable.knows bytes c.as_slice.result.pos c.as_slice.result.len (λ all. all.items) c.deserialize_elements_each.result in
    elements_read g.A.ReadBack.reads g.A.Portable.shape g.A.Portable.knows c.args.this.bytes.now (vector g.A.Portable.shape) c.args.this.pos _ _ _ c.as_slice.ensures.elements.value (subst P same c.deserialize_elements_each.ensures.values)
