use Rattle.std.proofs.Common.{rules, ◌≡◌, ◌<◌, List, [], length, length-set, map, take, refl, ap, ◌∙◌, subst, sym, arith}
use Rattle.std.proofs.lemmas.List.{length-map, length-replicate, length-take}
use Rattle.std.specs.Iterator.{Yields}
use Rattle.archive_shape_layout.specs.Writing.{WriterMembers}
use Rattle.archive_shape_layout.specs.declared.error.Error.TheVariants.{IteratorLengthMismatch}
use Rattle.archive_btree_spelling.specs.Maps.{packed_spelling}
use Rattle.archive_btree_writing.proofs.Taken.{Yields-more, Yields-as, came_may_come, take_set, on_err}
use Rattle.archive_btree_writing.proofs.Closing.{ended_before, leaf_built, leaf_cut}
use Rattle.archive_btree_writing.proofs.Stepping.{takes_all}
use Rattle.archive_btree_writing.proofs.building.tree.build_leaf.Goals as goal
use Rattle.archive_forms_writing.proofs.Arrays.{take_one}

pub returns-in_err-first-clause-built : goal.returns-in_err-first-clause-built
returns-in_err-first-clause-built g c = λ above.
    let t = c.in_err-first.ensures.taken in
    on_err _ _ c.from_residual.result c.in_err-first.field-0.0 (search rules)
    (ended_before _ _ _ _ _ _ _ _ [] c.args.source.now.entries _ _ refl c.requires.some t.0 (t.1 ∙ ap (λ z. IteratorLengthMismatch c.args.source.now.claimed z) (omega arith)))

pub loop-i-init : goal.loop-i-init
loop-i-init g c =
    let t = c.in_ok-first.ensures.taken in
    let more : 0 < g.row.E = omega (arith, c.requires.some, c.requires.few) in
    let P : List g.row.T.Denot → Type 0 = λ l. Yields g.I.Iterator.next_gives c.args.source.now.entries l c.take_entry.new.source.entries in
    record {
      whole = length-replicate g.row.E c.in_ok-first.first;
      within = c.requires.some;
      claims = t.1;
      counts = t.2;
      calls = t.3;
      came = subst P (sym (take_one g.row.E c.in_ok-first.first more)) (c.take_entry.new.source.entries, t.0, refl);
    }

pub returns-in_err-own-clause-built : goal.returns-in_err-own-clause-built
returns-in_err-own-clause-built g c = λ above.
    let t = c.in_err-own.ensures.taken in
    let inv = c.loop-i.invariant in
    let items = take c.loop-i.i c.loop-i.own in
    let seen = map g.N.NodeStep.parts items in
    let size : length seen ≡ c.loop-i.i = length-map items _ ∙ length-take c.loop-i.i c.loop-i.own ∙ omega (arith, inv.whole, c.loop-i-test.true, c.requires.few) in
    on_err _ _ c.from_residual-in_err-own.result c.in_err-own.field-0.0 (search rules)
    (ended_before _ _ _ _ _ _ _ _ seen c.loop-i.source.entries _ _ (Yields-as g.N.NodeStep.parts g.I.Iterator.next_gives _ _ items inv.came) (omega (arith, size, c.loop-i-test.true)) t.0
    (t.1 ∙ ap (λ z. IteratorLengthMismatch z c.loop-i.source.taken) inv.claims ∙ ap (λ z. IteratorLengthMismatch c.args.source.now.claimed z) (omega (arith, inv.counts, size))))

pub loop-i-preserved : goal.loop-i-preserved
loop-i-preserved g c =
    let t = c.in_ok-own.ensures.taken in
    let inv = c.loop-i.invariant in
    let inside : c.loop-i.i < length c.loop-i.own = omega (arith, inv.whole, c.loop-i-test.true, c.requires.few) in
    let P : List g.row.T.Denot → Type 0 = λ l. Yields g.I.Iterator.next_gives c.args.source.now.entries l c.take_entry-in-loop-i.new.source.entries in
    record {
      whole = length-set _ _ _ ∙ inv.whole;
      within = omega (arith, c.loop-i-test.true);
      claims = t.1 ∙ inv.claims;
      counts = t.2 ∙ omega (arith, inv.counts);
      calls = t.3;
      came = subst P (sym (take_set c.loop-i.own c.loop-i.i c.in_ok-own.field-0 inside)) (Yields-more g.I.Iterator.next_gives _ _ _ _ _ inv.came t.0);
    }

pub write_leaf-requires : goal.write_leaf-requires
write_leaf-requires g c =
    let inv = c.loop-i.invariant in
    let items = take c.args.count c.loop-i.own in
    let end : c.loop-i.i ≡ c.args.count = omega (arith, c.loop-i-test.false, inv.within) in
    let size : length items ≡ c.args.count = length-take c.args.count c.loop-i.own ∙ omega (arith, inv.whole, c.requires.few) in
    let came : Yields g.I.Iterator.next_gives c.args.source.now.entries items c.loop-i.source.entries = rw end at inv.came in
    record {
      some = omega (arith, size, c.requires.some);
      few = (omega (arith, size, c.requires.few), c.requires.few.1);
      taken = takes_all g.I.Iterator.next_gives (g.N.NodeStep.takes c.args.nodes.now) c.args.source.now.entries c.requires.takes items (came_may_come g.I.Iterator.next_gives _ _ items came);
      room = c.requires.room;
      state = c.requires.state;
    }

pub returns-clause-built : goal.returns-clause-built
returns-clause-built g c = λ above.
    let inv = c.loop-i.invariant in
    let items = take c.args.count c.loop-i.own in
    let end : c.loop-i.i ≡ c.args.count = omega (arith, c.loop-i-test.false, inv.within) in
    let size : length items ≡ c.args.count = length-take c.args.count c.loop-i.own ∙ omega (arith, inv.whole, c.requires.few) in
    let came : Yields g.I.Iterator.next_gives c.args.source.now.entries items c.loop-i.source.entries = rw end at inv.came in
    let m = g.N.NodeStep in
    let s : WriterMembers g.row.S.Denot = record { known = g.S.Registry.known; pos = g.S.Positional.pos; OBSERVABLE = g.S.Writer.OBSERVABLE; COUNTS = g.S.Writer.COUNTS; contents = g.S.Writer.contents; failures = g.S.Writer.failures; last_error = g.S.Writer.last_error } in
    let w = packed_spelling g.row.E m.key_shape m.value_shape m.keys (m.values c.args.nodes.now) above in
    leaf_built g.row.E m.key_shape m.value_shape m.keys (m.values c.args.nodes.now) s m.parts g.I.Iterator.next_gives w c.args.source.now.entries c.args.serializer.now c.args.count c.requires.few.0 c.requires.some
    (map m.parts items) c.loop-i.source.entries (Yields-as m.parts g.I.Iterator.next_gives _ _ items came) (length-map items m.parts ∙ size) c.write_leaf.new.serializer c.in_ok-pos.pos c.in_ok-pos.ensures

pub returns-in_err-pos-clause-built : goal.returns-in_err-pos-clause-built
returns-in_err-pos-clause-built g c = λ above.
    let inv = c.loop-i.invariant in
    let items = take c.args.count c.loop-i.own in
    let end : c.loop-i.i ≡ c.args.count = omega (arith, c.loop-i-test.false, inv.within) in
    let size : length items ≡ c.args.count = length-take c.args.count c.loop-i.own ∙ omega (arith, inv.whole, c.requires.few) in
    let came : Yields g.I.Iterator.next_gives c.args.source.now.entries items c.loop-i.source.entries = rw end at inv.came in
    let m = g.N.NodeStep in
    let s : WriterMembers g.row.S.Denot = record { known = g.S.Registry.known; pos = g.S.Positional.pos; OBSERVABLE = g.S.Writer.OBSERVABLE; COUNTS = g.S.Writer.COUNTS; contents = g.S.Writer.contents; failures = g.S.Writer.failures; last_error = g.S.Writer.last_error } in
    let w = packed_spelling g.row.E m.key_shape m.value_shape m.keys (m.values c.args.nodes.now) above in
    on_err _ _ c.from_residual-in_err-pos.result c.in_err-pos.field-0.0 (search rules)
    (leaf_cut g.row.E m.key_shape m.value_shape m.keys (m.values c.args.nodes.now) s m.parts g.I.Iterator.next_gives w c.args.source.now.entries c.args.serializer.now c.args.count c.requires.few.0 c.requires.some
    (map m.parts items) c.loop-i.source.entries (Yields-as m.parts g.I.Iterator.next_gives _ _ items came) (length-map items m.parts ∙ size) c.write_leaf.new.serializer c.args.source.now.claimed c.args.source.now.taken c.in_err-pos.field-0.0 c.in_err-pos.ensures)
