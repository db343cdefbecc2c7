use Rattle.std.proofs.Common.{refl, arith}
use Rattle.cabinet_text_nodes.proofs.Restructures.{insert_element-before, insert_element-past}
use Rattle.cabinet_text_nodes.proofs.restructuring.inserting.insert_element.Goals as goal

pub returns : goal.returns
returns c table =
    rw (
      c.if-not-fits.false,
      insert_element-before table c.args.elements.now.items c.args.place c.args.new
          (omega (arith, c.if-place-len.false, c.len.ensures)),
      c.in_ok-insert.ensures.items,
    ) refl

pub returns-then-place-len : goal.returns-then-place-len
returns-then-place-len c table =
    rw (insert_element-past table c.args.elements.now.items c.args.place c.args.new (omega (arith, c.if-place-len.true, c.len.ensures))) refl

pub returns-then-not-fits : goal.returns-then-not-fits
returns-then-not-fits c table =
    rw (
      c.if-not-fits.true,
      insert_element-before table c.args.elements.now.items c.args.place c.args.new
          (omega (arith, c.if-place-len.false, c.len.ensures)),
    ) refl
