use Rattle.std.proofs.Common.{◌∙◌, arith, List, ℕ, ap, subst}
use Rattle.std.specs.Prelude.{⊤}
use Rattle.archive_forms_values.specs.Tuples.{tuple2}
use Rattle.archive_forms_values.specs.Parts.{AreElements, both}
use Rattle.archive_forms.specs.Deserializing.{DeserializesAll}
use Rattle.archive_forms.specs.Reading.{reads_key}
use Rattle.archive_forms.proofs.Read.{elements_read}
use Rattle.archive_index.proofs.Standing.{entries_before}
use Rattle.archive_index.specs.Sets.{set_shape, unit_shape}
use Rattle.archive_index.proofs.set.deserialize.deserialize_index_set_each.Goals as goal

pub deserialize_elements_each-requires-clause-takes : goal.deserialize_elements_each-requires-clause-takes
deserialize_elements_each-requires-clause-takes g c =
    let map = simp c.as_map.ensures at c.entries-entries.ensures.map in
    let before = entries_before g.A.Portable.shape unit_shape g.A.Portable.knows (λ _. ⊤) c.args.this.bytes.now c.args.this.pos c.requires.there _ _ map in
    rw (c.entries-entries.ensures.bytes ∙ ap (λ r. r.bytes) c.as_map.ensures) (λ d at ends there kept. (
      there,
      (kept, ((λ e p low has keeps. c.requires.takes_key e p (omega (arith, low, ends, before)) has keeps), c.requires.reads_key)),
    ))

pub returns-clause-value : goal.returns-clause-value
returns-clause-value g c =
    let entry = tuple2 g.A.Portable.shape unit_shape in
    let knows = both g.A.Portable.knows (λ _. ⊤) in
    let reads = reads_key g.A.ReadBack.reads in
    let elements = simp c.as_map.ensures at c.entries-entries.ensures.elements in
    let same = ap (λ bytes. bytes.now) (c.entries-entries.ensures.bytes ∙ ap (λ r. r.bytes) c.as_map.ensures) in
    let P : List ℕ → Type 0 = λ bytes. DeserializesAll reads entry knows bytes c.entries-entries.result.pos c.entries-entries.result.len (λ all. all.items) c.deserialize_elements_each.result in
    elements_read reads entry knows c.args.this.bytes.now (set_shape g.A.Portable.shape) c.args.this.pos _ _ _
    (λ value held. subst (λ (bytes : List ℕ). AreElements entry knows bytes c.entries-entries.result.pos c.entries-entries.result.len value) same (elements value held))
    (subst P same c.deserialize_elements_each.ensures.values)
