use Rattle.std.specs.String.{string_bytes}
use Rattle.archive_shape_layout.specs.Shape.Shape.{text}
use Rattle.archive_forms_writing.specs.Owned.{string_spelling}
use Rattle.archive_btree.specs.Answering.{HasEntry}
use Rattle.archive_example_stock.specs.Stock.{any}
use Rattle.archive_example_stock.proofs.Found.{value_found, value_missing, text_told}
use Rattle.archive_example_stock.proofs.Held.{text_there}
use Rattle.archive_example_stock.proofs.texts.text_of.Goals as goal

pub as_str-requires : goal.as_str-requires
as_str-requires g c = text_there _ _ c.in-Some.ensures.there

pub returns-in-Some : goal.returns-in-Some
returns-in-Some g c es answers =
    let looked = c.in-Some.ensures.looks_up answers.search_tree answers.map in
    value_found _ (HasEntry g.row.E g.K.Archived.Portable.shape text g.K.Archived.Portable.knows any g.K.Archive.spelling string_spelling c.args.map.bytes.now)
    (λ e. string_bytes e.1) _ looked.0 c.in-Some.name c.as_str.result.now looked.2 (answers.found c.args.query.now looked.0 looked.1)
    (λ at e same h. text_told _ c.in-Some.name same c.as_str.result.now e.1 c.as_str.ensures h.value_held)

pub returns-in-None : goal.returns-in-None
returns-in-None g c es answers =
    let looked = c.in-None.ensures.looks_up answers.search_tree answers.map in
    value_missing _ (HasEntry g.row.E g.K.Archived.Portable.shape text g.K.Archived.Portable.knows any g.K.Archive.spelling string_spelling c.args.map.bytes.now)
    (λ e. string_bytes e.1) _ looked.0 looked.2 (answers.found c.args.query.now looked.0 looked.1)
