use Rattle.std.proofs.Common.{rules, ◌≡◌, ◌∙◌, [], map, sym, ap, subst}
use Rattle.std.specs.List.{IsDistinct}
use Rattle.std.specs.Prelude.{⊤}
use Rattle.archive_shape_layout.specs.Shape.Shape.{tuple}
use Rattle.archive_shape_layout.specs.Shape.Shapes.{no_shapes}
use Rattle.archive_forms_laws.specs.Fields.{unit_spelling}
use Rattle.archive_forms.specs.Reading.{reads_as}
use Rattle.archive_hash_maps.specs.Maps.{entry_at}
use Rattle.archive_hash.specs.Owned.{key_entries}
use Rattle.archive_hash.proofs.Items.{next_position, none_left, next_has, reading_begun, next_read, reading_ended}
use Rattle.archive_forms.proofs.Plain.{unit_read}
use Rattle.archive_forms.proofs.AlikeParts.{keys_back}
use Rattle.archive_hash.proofs.StdMaps.{key_put}
use Rattle.archive_hash.proofs.read_set.deserialize_hash_set_each.Goals as goal

pub loop-key-init : goal.loop-key-init
loop-key-init g c =
    let once = subst (IsDistinct g.K.PartialEq.eq) (sym (keys_back c.new-set.result.keys)) c.new-set.ensures.unique in
    let b = reading_begun g.A.ReadBack.reads (reads_as unit_spelling) g.A.Portable.shape (tuple no_shapes) g.A.Portable.knows (λ _. ⊤) c.args.this.bytes.now g.met.K.Eq.laws c.args.this.pos (key_entries c.new-set.result.keys) c.requires.there (ap key_entries c.new-set.ensures.empty) once in
    (b.0, c.iter-entries.ensures.entries b.1.0 b.1.1 ∙ ap (map (entry_at c.args.this.bytes g.A.Portable.shape (tuple no_shapes))) (sym b.1.2), b.2, c.requires.kept)

pub read_key-requires : goal.read_key-requires
read_key-requires g c =
    let i = c.loop-key.invariant in
    let n = next_position g.A.Portable.shape (tuple no_shapes) c.args.this.bytes i.0 c.in-Some.key c.in-Some._value c.loop-key.entries _ i.1 c.in-Some.ensures.steps in
    let has = next_has g.A.ReadBack.reads (reads_as unit_spelling) g.A.Portable.shape (tuple no_shapes) g.A.Portable.knows (λ _. ⊤) c.args.this.bytes.now g.K.PartialEq.eq c.args.this.pos c.args.this.bytes i.0 c.in-Some.key c.in-Some._value _ (key_entries c.loop-key.set.keys) i.2 n in
    c.requires.takes_key _ _ has.0.held.own_within has.0 i.3

pub returns-in_err-key-clause-value : goal.returns-in_err-key-clause-value
returns-in_err-key-clause-value g c =
    let i = c.loop-key.invariant in
    let n = next_position g.A.Portable.shape (tuple no_shapes) c.args.this.bytes i.0 c.in-Some.key c.in-Some._value c.loop-key.entries _ i.1 c.in-Some.ensures.steps in
    let has = next_has g.A.ReadBack.reads (reads_as unit_spelling) g.A.Portable.shape (tuple no_shapes) g.A.Portable.knows (λ _. ⊤) c.args.this.bytes.now g.K.PartialEq.eq c.args.this.pos c.args.this.bytes i.0 c.in-Some.key c.in-Some._value _ (key_entries c.loop-key.set.keys) i.2 n in
    let is = (c.requires.reads_key _ _ _ _ has.0 i.3 c.in_err-key.ensures).0 in
    search rules

pub loop-key-preserved : goal.loop-key-preserved
loop-key-preserved g c =
    let i = c.loop-key.invariant in
    let n = next_position g.A.Portable.shape (tuple no_shapes) c.args.this.bytes i.0 c.in-Some.key c.in-Some._value c.loop-key.entries _ i.1 c.in-Some.ensures.steps in
    let has = next_has g.A.ReadBack.reads (reads_as unit_spelling) g.A.Portable.shape (tuple no_shapes) g.A.Portable.knows (λ _. ⊤) c.args.this.bytes.now g.K.PartialEq.eq c.args.this.pos c.args.this.bytes i.0 c.in-Some.key c.in-Some._value _ (key_entries c.loop-key.set.keys) i.2 n in
    let key = c.requires.reads_key _ _ _ _ has.0 i.3 c.in_ok-key.ensures in
    let value = unit_read (λ _. ⊤) c.args.this.bytes.now c.in-Some._value.pos in
    let put = key_put g.K.PartialEq.eq c.loop-key.set c.insert.new.self c.in_ok-key.field-0.0 c.insert.result (search rules) c.insert.ensures.added c.insert.ensures.keys c.insert.ensures.updates in
    let once = subst (IsDistinct g.K.PartialEq.eq) (sym (keys_back c.insert.new.self.keys)) c.insert.ensures.unique in
    (n.more, n.rest_is, next_read g.A.ReadBack.reads (reads_as unit_spelling) g.A.Portable.shape (tuple no_shapes) g.A.Portable.knows (λ _. ⊤) c.args.this.bytes.now g.met.K.Eq.laws c.args.this.pos c.args.this.bytes i.0 c.in-Some.key c.in-Some._value _ (key_entries c.loop-key.set.keys) (key_entries c.insert.new.self.keys) (c.in_ok-key.field-0.0, tt {0}) put.old i.2 n key.0 value put.is put.put put.leads once, key.1)

pub returns-clause-value : goal.returns-clause-value
returns-clause-value g c =
    let i = c.loop-key.invariant in
    let none : c.loop-key.entries ≡ [] = search rules in
    reading_ended g.A.ReadBack.reads (reads_as unit_spelling) g.A.Portable.shape (tuple no_shapes) g.A.Portable.knows (λ _. ⊤) c.args.this.bytes.now g.K.PartialEq.eq c.args.this.pos i.0 (key_entries c.loop-key.set.keys) (none_left g.A.Portable.shape (tuple no_shapes) c.args.this.bytes i.0 c.loop-key.entries i.1 none) i.2
