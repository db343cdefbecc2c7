use Rattle.std.proofs.Common.{arith, ◌≡◌, ◌*◌, List, ℕ, length, ap, sym, subst, ◌∙◌}
use Rattle.archive_shape_layout.specs.Shape.{size_of}
use Rattle.archive_forms_values.specs.Parts.{HasElements}
use Rattle.archive_forms_values.proofs.Arrays.{array_has}
use Rattle.archive_forms.specs.Deserializing.{AreReadFrom}
use Rattle.archive_forms.proofs.Read.{array_read, ok_says}
use Rattle.archive_forms.proofs.deserializing.array.deserialize_array_each.Goals as goal

pub deserialize_elements_each-requires-clause-there : goal.deserialize_elements_each-requires-clause-there
deserialize_elements_each-requires-clause-there g c =
    let same = ap (λ bytes. bytes.now) c.array_slice.ensures.bytes in
    let at = c.array_slice.ensures.stands in
    let s = g.A.Portable.shape in
    let knows = g.A.Portable.knows in
    let P : List ℕ → Type 0 = λ bytes. HasElements s knows bytes c.array_slice.result.pos c.array_slice.result.len in
    let Q : ℕ → Type 0 = λ pos. HasElements s knows c.args.this.bytes.now pos c.array_slice.result.len in
    let R : ℕ → Type 0 = λ n. HasElements s knows c.args.this.bytes.now c.args.this.pos n in
    subst P (sym same) (subst Q (sym at.0) (subst R (sym at.1) (array_has g.row.N s knows c.args.this.bytes.now c.args.this.pos c.requires.there)))

pub deserialize_elements_each-requires-clause-takes : goal.deserialize_elements_each-requires-clause-takes
deserialize_elements_each-requires-clause-takes g c = rw c.array_slice.ensures.bytes (λ d pos ends there kept.
    let at = c.array_slice.ensures.stands in
    let limit = ap (λ n. n * size_of g.A.Portable.shape) at.1 in
    c.requires.takes d pos (omega (arith, ends, at.0, limit)) there kept)

pub returns-clause-value : goal.returns-clause-value
returns-clause-value g c =
    let w = g.A.ReadBack.reads in
    let s = g.A.Portable.shape in
    let knows = g.A.Portable.knows in
    let same = ap (λ bytes. bytes.now) c.array_slice.ensures.bytes in
    let at = c.array_slice.ensures.stands in
    let items : c.unwrap.result ≡ c.in_ok-all.all.items = (ok_says _ _ c.try_from.result c.unwrap.result c.try_from.ensures c.unwrap.ensures).0 in
    let P : List ℕ → Type 0 = λ bytes. AreReadFrom w s knows bytes c.array_slice.result.pos c.in_ok-all.all.items in
    let Q : ℕ → Type 0 = λ pos. AreReadFrom w s knows c.args.this.bytes.now pos c.in_ok-all.all.items in
    let R : List g.row.T.Denot → Type 0 = λ xs. AreReadFrom w s knows c.args.this.bytes.now c.args.this.pos xs in
    array_read w s knows c.args.this.bytes.now g.row.N c.args.this.pos c.unwrap.result c.array_slice.ensures.elements
    (ap length items ∙ c.in_ok-all.ensures.values.0 ∙ at.1) (subst R (sym items) (subst Q at.0 (subst P same c.in_ok-all.ensures.values.1)))
