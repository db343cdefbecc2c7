use Rattle.std.proofs.Common.{◌∙◌, arith}
use Rattle.std.proofs.lemmas.Result.{err_from_is_err_and}
use Rattle.archive_shape_layout.specs.Writing.{WriterMembers}
use Rattle.cabinet_archives.proofs.LoadedRoot.{root_tree, tree_as}
use Rattle.cabinet_archives.proofs.RootMapped.{node_failed, region_failed, map_written}
use Rattle.cabinet_archives.proofs.mapping.map.write_map.Goals as goal

pub map_node-requires-clause-there : goal.map_node-requires-clause-there
map_node-requires-clause-there g c =
    let t = root_tree c.args.bytes.now (λ i. omega (arith, c.type_inv.bytes i)) (omega (arith, c.well_formed)) c.requires.accepted in
    tree_as c.new.ensures.bytes (c.new.ensures.pos ∙ c.root_position-root.ensures) t

pub write_region-requires-clause-fits : goal.write_region-requires-clause-fits
write_region-requires-clause-fits g c =
    let t = root_tree c.args.bytes.now (λ i. omega (arith, c.type_inv.bytes i)) (omega (arith, c.well_formed)) c.requires.accepted in
    omega (arith, t.held.own_within, c.root_position-root.ensures, c.well_formed)

pub returns-in_err-map_node : goal.returns-in_err-map_node
returns-in_err-map_node g c = λ listed m.
    let w : WriterMembers g.row.W.Denot = record {
      known = g.W.Registry.known;
      pos = g.W.Positional.pos;
      OBSERVABLE = g.W.Writer.OBSERVABLE;
      COUNTS = g.W.Writer.COUNTS;
      contents = g.W.Writer.contents;
      failures = g.W.Writer.failures;
      last_error = g.W.Writer.last_error;
    } in
    let p = err_from_is_err_and c.from_residual.result c.from_residual.ensures.1 in
    rw (p.1, p.2)
    (node_failed w c.new.ensures.bytes c.new.ensures.pos c.root_position-root.ensures c.new-tally.ensures m
    c.map_node.new.tally c.args.writer.now c.map_node.new.writer _ c.in_err-map_node.ensures.mapped)

pub returns-in_err-write_region : goal.returns-in_err-write_region
returns-in_err-write_region g c = λ listed m.
    let w : WriterMembers g.row.W.Denot = record {
      known = g.W.Registry.known;
      pos = g.W.Positional.pos;
      OBSERVABLE = g.W.Writer.OBSERVABLE;
      COUNTS = g.W.Writer.COUNTS;
      contents = g.W.Writer.contents;
      failures = g.W.Writer.failures;
      last_error = g.W.Writer.last_error;
    } in
    let p = err_from_is_err_and c.from_residual-in_err-write_region.result c.from_residual-in_err-write_region.ensures.1 in
    rw (p.1, p.2)
    (region_failed w c.new.ensures.bytes c.new.ensures.pos c.root_position-root.ensures c.new-tally.ensures m
    c.map_node.new.tally c.args.writer.now c.map_node.new.writer c.write_region.new.writer _
    c.in_ok-map_node.ensures.mapped c.in_err-write_region.ensures.written)

pub returns : goal.returns
returns g c = λ listed m.
    let w : WriterMembers g.row.W.Denot = record {
      known = g.W.Registry.known;
      pos = g.W.Positional.pos;
      OBSERVABLE = g.W.Writer.OBSERVABLE;
      COUNTS = g.W.Writer.COUNTS;
      contents = g.W.Writer.contents;
      failures = g.W.Writer.failures;
      last_error = g.W.Writer.last_error;
    } in
    map_written w c.new.ensures.bytes c.new.ensures.pos c.root_position-root.ensures c.new-tally.ensures m
    c.map_node.new.tally c.write_region.new.tally c.args.writer.now c.map_node.new.writer c.write_region.new.writer
    c.write_end.new.writer c.write_end.result
    c.in_ok-map_node.ensures.mapped (c.in_ok-write_region.ensures.written, c.in_ok-write_region.ensures.tally) c.write_end.ensures
