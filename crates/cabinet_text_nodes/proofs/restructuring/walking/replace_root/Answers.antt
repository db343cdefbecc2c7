use Rattle.std.proofs.Common.{◌+◌, ap, arith, sym, ◌∙◌}
use Rattle.std.specs.Prelude.{nat_le}
use Rattle.cabinet_text_grammar.specs.Tree.{depth}
use Rattle.cabinet_text_nodes.specs.View.{node_tree, table_of}
use Rattle.cabinet_text_nodes.proofs.NewNodes.{new_alone}
use Rattle.cabinet_text_nodes.proofs.RestructuresDepths.{in_place_of-limited}
use Rattle.cabinet_text_nodes.proofs.restructuring.walking.replace_root.Goals as goal

pub returns : goal.returns
returns c table legal new =
    let t = table_of c.args.wholes.now in
    let fits = c.fits_inside-fits.ensures (omega (arith, new.1)) ∙ ap (λ u. nat_le (0 + depth u) 64) (sym (new_alone t c.args.new new.0)) in
    rw (in_place_of-limited (node_tree t c.args.root.now) (node_tree t c.args.new) c.fits_inside-fits.result fits) (c.replace.ensures table legal)
