use Rattle.std.proofs.Common.{arith, List, ℕ, ap, subst}
use Rattle.archive_shape_layout.specs.Shape.Shape.{index_map}
use Rattle.archive_forms_values.specs.Tuples.{tuple2}
use Rattle.archive_forms_values.specs.Parts.{AreElements, both}
use Rattle.archive_forms.specs.Deserializing.{DeserializesAll}
use Rattle.archive_forms.specs.Reading.{reads_tuple2}
use Rattle.archive_forms.proofs.Read.{elements_read}
use Rattle.archive_index.proofs.Standing.{entries_before}
use Rattle.archive_index.proofs.map.deserialize.deserialize_index_map_each.Goals as goal

pub deserialize_elements_each-requires-clause-takes : goal.deserialize_elements_each-requires-clause-takes
deserialize_elements_each-requires-clause-takes g c =
    let before = entries_before g.A.Portable.shape g.B.Portable.shape g.A.Portable.knows g.B.Portable.knows c.args.this.bytes.now c.args.this.pos c.requires.there _ _ c.entries-entries.ensures.map in
    rw c.entries-entries.ensures.bytes (λ d at ends there kept. (
      there,
      (
        kept,
        (
          (λ e p low has keeps. c.requires.takes_key e p (omega (arith, low, ends, before)) has keeps),
          (
            c.requires.reads_key,
            (
              (λ e p low has keeps. c.requires.takes_value e p (omega (arith, low, ends, before)) has keeps),
              c.requires.reads_value,
            ),
          ),
        ),
      ),
    ))

pub returns-clause-value : goal.returns-clause-value
returns-clause-value g c =
    let k = g.A.Portable.shape in
    let v = g.B.Portable.shape in
    let knows = both g.A.Portable.knows g.B.Portable.knows in
    let reads = reads_tuple2 g.A.ReadBack.reads g.B.ReadBack.reads in
    let same = ap (λ bytes. bytes.now) c.entries-entries.ensures.bytes in
    let P : List ℕ → Type 0 = λ bytes. DeserializesAll reads (tuple2 k v) knows bytes c.entries-entries.result.pos c.entries-entries.result.len (λ all. all.items) c.deserialize_elements_each.result in
    elements_read reads (tuple2 k v) knows c.args.this.bytes.now (index_map k v) c.args.this.pos _ _ _
    (λ value held. subst (λ (bytes : List ℕ). AreElements (tuple2 k v) knows bytes c.entries-entries.result.pos c.entries-entries.result.len value) same (c.entries-entries.ensures.elements value held))
    (subst P same c.deserialize_elements_each.ensures.values)
