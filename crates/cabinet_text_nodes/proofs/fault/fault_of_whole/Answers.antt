use Rattle.std.proofs.Common.{ℕ, ◌<◌, Bor, sym, arith, length, Some}
use Rattle.std.proofs.lemmas.Bool.{ltb-true, ltb-false}
use Rattle.cabinet_text_nodes.proofs.Paths.{item_found}
use Rattle.cabinet_text_nodes.proofs.NodeFaults.{whole_unknown, whole_deep, whole_fits}
use Rattle.cabinet_text_nodes.proofs.fault.fault_of_whole.Goals as goal

pub returns-in-None : goal.returns-in-None
returns-in-None c =
    whole_unknown c.args.depths.now c.args.room c.args.number (ltb-false c.args.number (length c.args.depths.now) (sym c.in-None.ensures.lookup.0))

pub returns-in-Some : goal.returns-in-Some
returns-in-Some c =
    let there = sym (item_found (λ (x : Bor ℕ). x.now) c.args.depths.now c.args.number (Some c.in-Some.depth) c.in-Some.ensures.lookup) in
    whole_deep c.args.depths.now c.args.room c.args.number c.in-Some.depth.now (ltb-true c.args.number (length c.args.depths.now) (sym c.in-Some.ensures.lookup.0)) there c.if-depth-room.true

pub returns-in-Some-2 : goal.returns-in-Some-2
returns-in-Some-2 c =
    let there = sym (item_found (λ (x : Bor ℕ). x.now) c.args.depths.now c.args.number (Some c.in-Some.depth) c.in-Some.ensures.lookup) in
    let fits : c.in-Some.depth.now < c.args.room = omega (arith, c.if-depth-room.false) in
    whole_fits c.args.depths.now c.args.room c.args.number c.in-Some.depth.now (ltb-true c.args.number (length c.args.depths.now) (sym c.in-Some.ensures.lookup.0)) there fits
