use Rattle.std.proofs.Common.{refl, sym, ap, ◌∙◌, arith, Some, ◌<◌, ◌≡◌, length}
use Rattle.std.proofs.lemmas.Option.{slice_get-get_or}
use Rattle.cabinet_text_nodes.specs.View.{table_of}
use Rattle.cabinet_text_nodes.proofs.Paths.{legal_element}
use Rattle.cabinet_text_nodes.proofs.Restructures.{puts_element, put_element-last, put_element-past}
use Rattle.cabinet_text_nodes.proofs.restructuring.putting.put_element.Goals as goal

pub returns : goal.returns
returns c table legal =
    let is : c.args.place ≡ length c.args.elements.now.items = omega
    (arith, c.if-place-len.false, c.if-place-len-2.false, c.len.ensures, c.len-2.ensures) in
    rw (
      c.if-not-fits.false,
      put_element-last (table_of c.args.wholes.now) c.args.elements.now.items c.args.place c.args.new is,
      c.in_ok-push.ensures.items,
    ) refl

pub returns-then-place-len : goal.returns-then-place-len
returns-then-place-len c table legal =
    let ns = c.args.elements.now.items in
    let within : c.args.place < length ns = omega (arith, c.if-place-len.true, c.len.ensures) in
    let there = slice_get-get_or ns c.args.place c.index_mut.result.now within ∙ ap Some (sym c.index_mut.ensures.value) in
    puts_element (table_of c.args.wholes.now) ns c.args.place c.index_mut.result.now c.args.new c.replace.new.node c.args.fits c.replace.result there
    (c.replace.ensures table (legal_element (table_of c.args.wholes.now) ns c.args.place c.index_mut.result.now legal there))

pub returns-then-place-len-2 : goal.returns-then-place-len-2
returns-then-place-len-2 c table legal =
    rw (put_element-past (table_of c.args.wholes.now) c.args.elements.now.items c.args.place c.args.new
    (omega (arith, c.if-place-len-2.true, c.len-2.ensures))) refl

pub returns-then-not-fits : goal.returns-then-not-fits
returns-then-not-fits c table legal =
    let is : c.args.place ≡ length c.args.elements.now.items = omega
    (arith, c.if-place-len.false, c.if-place-len-2.false, c.len.ensures, c.len-2.ensures) in
    rw (c.if-not-fits.true, put_element-last (table_of c.args.wholes.now) c.args.elements.now.items c.args.place c.args.new is) refl
