use Rattle.std.proofs.Common.{ap, sym, subst, ◌∙◌, flat_map}
use Rattle.std.specs.Prelude.{⊤, All}
use Rattle.std.proofs.lemmas.List.Elements.{All-head, All-tail}
use Rattle.std.proofs.lemmas.Result.{err_from_is_err_and}
use Rattle.archive_shape_layout.specs.Shape.Shape.{text}
use Rattle.archive_btree_maps.specs.Refs.{IsThere}
use Rattle.cabinet_documents.specs.Node.{node_shape, KnowsNode}
use Rattle.cabinet_text_nodes.proofs.Pieces.{none_before, one_more, one_failed, all_written}
use Rattle.cabinet_archives.proofs.Payloads.{text_has}
use Rattle.cabinet_archives.proofs.Texts.{text_is}
use Rattle.cabinet_archives.proofs.Within.{entry_piece, within_pieces}
use Rattle.cabinet_archives.proofs.asking.keys.write_each_within.Goals as goal

pub loop-key-init : goal.loop-key-init
loop-key-init g c = record {
  there = subst (All (IsThere text node_shape (λ _. ⊤) KnowsNode)) (sym c.into_iter-key-iterator.ensures.into_iter_gives) c.range-key-items.ensures.there;
  written = none_before entry_piece _ c.into_iter-key-iterator.result;
}

pub as_str-requires : goal.as_str-requires
as_str-requires g c =
    let first = All-head (IsThere text node_shape (λ _. ⊤) KnowsNode) _ _ (subst (All (IsThere text node_shape (λ _. ⊤) KnowsNode)) c.in-Some.ensures.steps c.loop-key.invariant.there) in
    text_has (λ _. ⊤) c.in-Some.key.bytes.now c.in-Some.key.pos first.0

pub returns-in_err-write_key-clause-written : goal.returns-in_err-write_key-clause-written
returns-in_err-write_key-clause-written g c = λ v h.
    let p = err_from_is_err_and c.from_residual.result c.from_residual.ensures.1 in
    let failed = rw (text_is c.in-Some.key.bytes.now c.in-Some.key.pos c.as_str.result.now c.as_str.ensures) at c.in_err-write_key.ensures in
    let all =
    ap (flat_map entry_piece) c.into_iter-key-iterator.ensures.into_iter_gives
    ∙ within_pieces c.args.map.bytes c.args.map.pos c.args.low c.args.high c.requires.sound c.range-key-items.result c.range-key-items.ensures.between v h in
    rw (p.1, p.2) (one_failed entry_piece (c.in-Some.key, c.in-Some.field-0-1) c.next.new.self all c.in-Some.ensures.steps c.loop-key.invariant.written failed)

pub loop-key-preserved : goal.loop-key-preserved
loop-key-preserved g c =
    let written = rw (text_is c.in-Some.key.bytes.now c.in-Some.key.pos c.as_str.result.now c.as_str.ensures) at c.in_ok-write_key.ensures in
    record {
      there = All-tail (IsThere text node_shape (λ _. ⊤) KnowsNode) _ _ (subst (All (IsThere text node_shape (λ _. ⊤) KnowsNode)) c.in-Some.ensures.steps c.loop-key.invariant.there);
      written = one_more entry_piece (c.in-Some.key, c.in-Some.field-0-1) c.next.new.self c.in-Some.ensures.steps c.loop-key.invariant.written written;
    }

pub returns-clause-written : goal.returns-clause-written
returns-clause-written g c = λ v h.
    let all =
    ap (flat_map entry_piece) c.into_iter-key-iterator.ensures.into_iter_gives
    ∙ within_pieces c.args.map.bytes c.args.map.pos c.args.low c.args.high c.requires.sound c.range-key-items.result c.range-key-items.ensures.between v h in
    all_written entry_piece all c.in-None.ensures.steps.0 c.loop-key.invariant.written
