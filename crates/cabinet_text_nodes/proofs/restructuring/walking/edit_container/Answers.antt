use Rattle.std.proofs.Common.{subst}
use Rattle.cabinet_text_grammar.specs.Tree.{depth}
use Rattle.cabinet_text_nodes.specs.Restructures.{HasNew, HasLegalNew, TakesMemory}
use Rattle.cabinet_text_nodes.specs.View.{node_tree, table_of, step_of}
use Rattle.cabinet_text_nodes.proofs.RestructuresCounts.{put_step-counted, insert_step-counted}
use Rattle.cabinet_text_nodes.proofs.RestructuresDepths.{new_fits, put_step-limited, insert_step-limited, remove_step-unlimited}
use Rattle.cabinet_text_nodes.proofs.restructuring.walking.edit_container.Goals as goal

pub returns-in-Put-clause-edits : goal.returns-in-Put-clause-edits
returns-in-Put-clause-edits c table legal shallow new =
    let t = table_of c.args.wholes.now in
    let is_new = subst HasNew c.in-Put.is new in
    let fits = new_fits t c.args.outer c.saturating_add.result c.fits_inside-fits.result c.in-Put.new (depth (node_tree t c.args.node.now)) is_new
    shallow c.saturating_add.ensures c.fits_inside-fits.ensures in
    rw (
      c.in-Put.is,
      put_step-limited c.args.outer (node_tree t c.in-Put.new) (node_tree t c.args.node.now) (step_of c.args.step.now)
          c.fits_inside-fits.result shallow fits,
    ) (c.put_step.ensures.puts table legal)

pub returns-in-Insert-clause-edits : goal.returns-in-Insert-clause-edits
returns-in-Insert-clause-edits c table legal shallow new =
    let t = table_of c.args.wholes.now in
    let is_new = subst HasNew c.in-Insert.is new in
    let fits = new_fits t c.args.outer c.saturating_add-in-Insert.result c.fits_inside-fits-in-Insert.result c.in-Insert.new
    (depth (node_tree t c.args.node.now)) is_new shallow c.saturating_add-in-Insert.ensures c.fits_inside-fits-in-Insert.ensures in
    rw (
      c.in-Insert.is,
      insert_step-limited c.args.outer (node_tree t c.in-Insert.new) (node_tree t c.args.node.now) (step_of c.args.step.now)
          c.fits_inside-fits-in-Insert.result shallow fits,
    ) (c.insert_step.ensures.inserts t)

pub returns-in-Remove-clause-edits : goal.returns-in-Remove-clause-edits
returns-in-Remove-clause-edits c table legal shallow new =
    let t = table_of c.args.wholes.now in
    rw (c.in-Remove.is, remove_step-unlimited c.args.outer (node_tree t c.args.node.now) (step_of c.args.step.now) shallow)
    (c.remove_step.ensures table legal)

pub returns-in-Put-clause-counted : goal.returns-in-Put-clause-counted
returns-in-Put-clause-counted c table legal new takes =
    let t = table_of c.args.wholes.now in
    let is_new = subst HasLegalNew c.in-Put.is new in
    put_step-counted t c.in-Put.new is_new (node_tree t c.args.node.now) (node_tree t c.put_step.new.node) (step_of c.args.step.now)
    c.fits_inside-fits.result c.put_step.result legal (c.put_step.ensures.counted t) (c.put_step.ensures.puts table legal)

pub returns-in-Insert-clause-counted : goal.returns-in-Insert-clause-counted
returns-in-Insert-clause-counted c table legal new takes =
    let t = table_of c.args.wholes.now in
    let is_new = subst HasLegalNew c.in-Insert.is new in
    insert_step-counted t c.in-Insert.new is_new (node_tree t c.args.node.now) (node_tree t c.insert_step.new.node) (step_of c.args.step.now)
    c.fits_inside-fits-in-Insert.result c.insert_step.result legal (c.insert_step.ensures.counted t) (c.insert_step.ensures.inserts t)

pub returns-in-Remove-clause-counted : goal.returns-in-Remove-clause-counted
returns-in-Remove-clause-counted c table legal new takes = absurd (subst TakesMemory c.in-Remove.is takes)
