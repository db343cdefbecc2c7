use Rattle.std.proofs.Common.{ap, ◌∙◌}
use Rattle.archive_shape_layout.specs.Shape.Shape.{text}
use Rattle.archive_shape_layout.specs.Shape.Shapes.{no_shapes}
use Rattle.archive_forms_values.specs.Fields.{field_position}
use Rattle.cabinet_documents.specs.Node.{node_shape}
use Rattle.cabinet_archives.proofs.HashedLeading.{leads, leads_nowhere, leads_by_bucket, leads_soundly, searches}
use Rattle.cabinet_archives.proofs.maps.hashed.get_counted.Goals as goal

pub returns-in-Some-clause-leads : goal.returns-in-Some-clause-leads
returns-in-Some-clause-leads g c =
    let map = c.args.map in
    let place = c.value.ensures.pos ∙ ap (field_position text no_shapes node_shape) c.new.ensures.pos in
    λ v h. (
      c.value.ensures.bytes ∙ c.new.ensures.bytes,
      leads map.bytes.now map.pos c.args.key.now c.hash_text.result c.search-found.result.0 c.hash_text.ensures c.hash_text.type_inv (λ b table. (c.search-found.result.1, c.search-found.ensures.answers b table)) c.requires.sound c.in-Some.at c.in-Some.is c.value.result.pos place v h,
    )

pub returns-in-Some-clause-way : goal.returns-in-Some-clause-way
returns-in-Some-clause-way g c =
    let map = c.args.map in
    let place = c.value.ensures.pos ∙ ap (field_position text no_shapes node_shape) c.new.ensures.pos in
    leads_by_bucket map.bytes.now map.pos c.args.key.now c.hash_text.result c.search-found.result.0 c.hash_text.ensures c.hash_text.type_inv (λ b table. (c.search-found.result.1, c.search-found.ensures.answers b table)) c.requires.sound c.in-Some.at c.in-Some.is c.value.result.pos place c.requires.has

pub returns-in-Some-clause-sound : goal.returns-in-Some-clause-sound
returns-in-Some-clause-sound g c =
    let map = c.args.map in
    let place = c.value.ensures.pos ∙ ap (field_position text no_shapes node_shape) c.new.ensures.pos in
    leads_soundly map.bytes.now map.pos c.args.key.now c.hash_text.result c.search-found.result.0 c.hash_text.ensures c.hash_text.type_inv (λ b table. (c.search-found.result.1, c.search-found.ensures.answers b table)) c.requires.sound c.in-Some.at c.in-Some.is c.value.result.pos place c.requires.has

pub returns-in-None-clause-leads : goal.returns-in-None-clause-leads
returns-in-None-clause-leads g c =
    let map = c.args.map in
    leads_nowhere map.bytes.now map.pos c.args.key.now c.hash_text.result c.search-found.result.0 c.hash_text.ensures c.hash_text.type_inv (λ b table. (c.search-found.result.1, c.search-found.ensures.answers b table)) c.requires.sound c.in-None.is

pub returns-in-Some-clause-searches : goal.returns-in-Some-clause-searches
returns-in-Some-clause-searches g c =
    searches c.args.map.bytes.now c.args.map.pos c.args.key.now c.hash_text.result c.search-found.result.0 c.search-found.result.1 c.hash_text.ensures c.hash_text.type_inv c.search-found.ensures.answers c.search-found.ensures.few

pub returns-in-None-clause-searches : goal.returns-in-None-clause-searches
returns-in-None-clause-searches g c =
    searches c.args.map.bytes.now c.args.map.pos c.args.key.now c.hash_text.result c.search-found.result.0 c.search-found.result.1 c.hash_text.ensures c.hash_text.type_inv c.search-found.ensures.answers c.search-found.ensures.few
