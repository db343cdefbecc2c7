use Rattle.std.proofs.Common.{sym, subst}
use Rattle.std.specs.Iterator.{AlwaysYields}
use Rattle.std.proofs.lemmas.Result.{err_from_is_err_and}
use Rattle.cabinet_text_nodes.proofs.Pieces.{none_before, one_more, one_failed, all_written}
use Rattle.cabinet_archives.specs.Keys.{YieldsTexts}
use Rattle.cabinet_archives.proofs.KeysYielded.{all_left, next_left, none_left, texts_pieces}
use Rattle.cabinet_archives.proofs.Texts.{text_is}
use Rattle.cabinet_archives.proofs.Within.{key_piece}
use Rattle.cabinet_archives.proofs.asking.keys.write_each.Goals as goal

pub loop-key-init : goal.loop-key-init
loop-key-init g c =
    let steps = g.I.Iterator.next_gives in
    let y = c.requires.yields in
    let same = sym c.into_iter-key-iterator.ensures.into_iter_gives in
    let all = all_left steps c.into_iter-key-iterator.result y.0 (y.1.0, subst (λ s. AlwaysYields steps (λ r. r) s y.1.0) same y.1.1, y.1.2) in
    (y.1.0, y.1.0, all, all, none_before key_piece _ _)

pub as_str-requires : goal.as_str-requires
as_str-requires g c =
    let i = c.loop-key.invariant in
    (next_left g.I.Iterator.next_gives _ _ c.in-Some.key i.1 i.3 c.in-Some.ensures.steps).text

pub returns-in_err-write_key-clause-written : goal.returns-in_err-write_key-clause-written
returns-in_err-write_key-clause-written g c =
    let i = c.loop-key.invariant in
    let p = err_from_is_err_and c.from_residual.result c.from_residual.ensures.1 in
    let next = next_left g.I.Iterator.next_gives _ _ c.in-Some.key i.1 i.3 c.in-Some.ensures.steps in
    let failed = rw (text_is c.in-Some.key.bytes.now c.in-Some.key.pos c.as_str.result.now c.as_str.ensures) at c.in_err-write_key.ensures in
    let same = c.into_iter-key-iterator.ensures.into_iter_gives in
    (i.2.texts, subst (λ s. YieldsTexts g.I.Iterator.next_gives s i.2.texts) same (i.0, i.2.yields, i.2.are), rw (p.1, p.2) (one_failed key_piece c.in-Some.key next.others (texts_pieces i.0 i.2.texts i.2.are) next.is i.4 failed))

pub loop-key-preserved : goal.loop-key-preserved
loop-key-preserved g c =
    let i = c.loop-key.invariant in
    let next = next_left g.I.Iterator.next_gives _ _ c.in-Some.key i.1 i.3 c.in-Some.ensures.steps in
    let written = rw (text_is c.in-Some.key.bytes.now c.in-Some.key.pos c.as_str.result.now c.as_str.ensures) at c.in_ok-write_key.ensures in
    (i.0, next.others, i.2, next.left, one_more key_piece c.in-Some.key next.others next.is i.4 written)

pub returns-clause-written : goal.returns-clause-written
returns-clause-written g c =
    let i = c.loop-key.invariant in
    let none = none_left g.I.Iterator.next_gives _ _ i.1 i.3 c.in-None.ensures.steps in
    let same = c.into_iter-key-iterator.ensures.into_iter_gives in
    (i.2.texts, subst (λ s. YieldsTexts g.I.Iterator.next_gives s i.2.texts) same (i.0, i.2.yields, i.2.are), all_written key_piece (texts_pieces i.0 i.2.texts i.2.are) none i.4)
