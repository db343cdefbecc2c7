use Rattle.std.proofs.Common.{◌∙◌, inl, refl, sym, arith}
use Rattle.std.proofs.lemmas.Iterator.Consumers.{YieldsList-from_first, count_from_yields_List}
use Rattle.std.specs.List.{filter}
use Rattle.std.proofs.lemmas.Result.{err_from_is_err_and}
use Rattle.archive_shape_layout.specs.Content.{members}
use Rattle.cabinet_text_grammar.specs.Answering.{lies_within}
use Rattle.cabinet_documents.specs.Table.{item_keys}
use Rattle.cabinet_text_nodes.proofs.Pieces.{keys_appended, keys_head_failed, keys_failed}
use Rattle.cabinet_archives.proofs.Within.{run_counted, within_counted}
use Rattle.cabinet_archives.proofs.asking.keys.write_keys_within.Goals as goal

pub count-count-requires-clause-fits : goal.count-count-requires-clause-fits
count-count-requires-clause-fits g c =
    let few = run_counted c.args.map.bytes c.args.map.pos c.len-all.result c.len-all.ensures c.requires.there c.range.result (λ t m. let r = c.range.ensures.within t m in (r.before, r.after, r.is)) in
    inl (omega (arith, few, c.len-all.type_inv))

pub returns-in_err-write_keys_head-clause-written : goal.returns-in_err-write_keys_head-clause-written
returns-in_err-write_keys_head-clause-written g c = λ v h.
    let p = err_from_is_err_and c.from_residual.result c.from_residual.ensures.1 in
    let counted = count_from_yields_List _ c.count-count.result c.count-count.ensures.ran (YieldsList-from_first (λ x. x) (λ xs. xs) c.range.result refl) in
    let same = sym (within_counted c.args.map.bytes c.args.map.pos c.args.low c.args.high c.requires.sound c.range.result c.range.ensures.between v h) ∙ sym counted in
    rw (p.1, p.2) (keys_head_failed c.count-count.result (filter (lies_within c.args.low.now c.args.high.now) (item_keys (members v))) same c.in_err-write_keys_head.ensures)

pub returns-in_err-write_each_within-clause-written : goal.returns-in_err-write_each_within-clause-written
returns-in_err-write_each_within-clause-written g c = λ v h.
    let p = err_from_is_err_and c.from_residual-in_err-write_each_within.result c.from_residual-in_err-write_each_within.ensures.1 in
    let counted = count_from_yields_List _ c.count-count.result c.count-count.ensures.ran (YieldsList-from_first (λ x. x) (λ xs. xs) c.range.result refl) in
    let same = sym (within_counted c.args.map.bytes c.args.map.pos c.args.low c.args.high c.requires.sound c.range.result c.range.ensures.between v h) ∙ sym counted in
    rw (p.1, p.2)
    (keys_failed c.count-count.result (filter (lies_within c.args.low.now c.args.high.now) (item_keys (members v))) same c.in_ok-write_keys_head.ensures (c.in_err-write_each_within.ensures.written v h))

pub returns-clause-written : goal.returns-clause-written
returns-clause-written g c = λ v h.
    let counted = count_from_yields_List _ c.count-count.result c.count-count.ensures.ran (YieldsList-from_first (λ x. x) (λ xs. xs) c.range.result refl) in
    let same = sym (within_counted c.args.map.bytes c.args.map.pos c.args.low c.args.high c.requires.sound c.range.result c.range.ensures.between v h) ∙ sym counted in
    keys_appended c.write.new.self c.count-count.result (filter (lies_within c.args.low.now c.args.high.now) (item_keys (members v))) c.write.result same c.in_ok-write_keys_head.ensures (c.in_ok-write_each_within.ensures.written v h) c.write.ensures
