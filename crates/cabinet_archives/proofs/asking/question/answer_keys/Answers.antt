use Rattle.std.proofs.Common.{Bor, List, ℕ, sym, subst}
use Rattle.std.proofs.lemmas.Result.{err_from_is_err_and, IfOk-weaker}
use Rattle.archive_shape.specs.Key.{HeldAt}
use Rattle.cabinet_text_nodes.specs.Answers.{Tells}
use Rattle.cabinet_archives.specs.Kept.{index_shape}
use Rattle.cabinet_archives.specs.Keyed.{knows_pairs}
use Rattle.cabinet_archives.specs.Ordered.{map_shape}
use Rattle.cabinet_archives.proofs.KeysAsked.{ordered_keys, kept_keys, keyless_kind}
use Rattle.cabinet_archives.proofs.asking.question.answer_keys.Goals as goal

pub returns-in_err-write_ordered_keys-in-Ordered-clause-written : goal.returns-in_err-write_ordered_keys-in-Ordered-clause-written
returns-in_err-write_ordered_keys-in-Ordered-clause-written g c = λ v t h d.
    let e = err_from_is_err_and c.from_residual.result c.from_residual.ensures.1 in
    let is = c.in-Ordered.ensures in
    let p = is.2.payload v h in
    let held = subst (λ (b : Bor (List ℕ)). HeldAt map_shape knows_pairs b.now c.in-Ordered.map.pos p.payload) (sym is.0) p.held in
    rw (e.1, e.2, ordered_keys p.is d) (c.in_err-write_ordered_keys-in-Ordered.ensures.written p.payload held)

pub returns-in_ok-write_ordered_keys-in-Ordered-clause-written : goal.returns-in_ok-write_ordered_keys-in-Ordered-clause-written
returns-in_ok-write_ordered_keys-in-Ordered-clause-written g c = λ v t h d.
    let is = c.in-Ordered.ensures in
    let p = is.2.payload v h in
    let held = subst (λ (b : Bor (List ℕ)). HeldAt map_shape knows_pairs b.now c.in-Ordered.map.pos p.payload) (sym is.0) p.held in
    rw (ordered_keys p.is d) (c.in_ok-write_ordered_keys-in-Ordered.ensures.written p.payload held)

pub returns-in_ok-write_ordered_keys-in-Ordered-clause-asked : goal.returns-in_ok-write_ordered_keys-in-Ordered-clause-asked
returns-in_ok-write_ordered_keys-in-Ordered-clause-asked g c = λ v t h d. let p = c.in-Ordered.ensures.2.payload v h in rw (ordered_keys p.is d) tt

pub returns-in_err-write_kept_keys-in-Kept-clause-written : goal.returns-in_err-write_kept_keys-in-Kept-clause-written
returns-in_err-write_kept_keys-in-Kept-clause-written g c = λ v t h d.
    let e = err_from_is_err_and c.from_residual-in_err-write_kept_keys-in-Kept.result c.from_residual-in_err-write_kept_keys-in-Kept.ensures.1 in
    let is = c.in-Kept.ensures in
    let p = is.2.payload v h in
    let held = subst (λ (b : Bor (List ℕ)). HeldAt index_shape knows_pairs b.now c.in-Kept.map.pos p.payload) (sym is.0) p.held in
    rw (e.1, e.2, kept_keys p.is d) (c.in_err-write_kept_keys-in-Kept.ensures.written p.payload held)

pub returns-in_ok-write_kept_keys-in-Kept-clause-written : goal.returns-in_ok-write_kept_keys-in-Kept-clause-written
returns-in_ok-write_kept_keys-in-Kept-clause-written g c = λ v t h d.
    let is = c.in-Kept.ensures in
    let p = is.2.payload v h in
    let held = subst (λ (b : Bor (List ℕ)). HeldAt index_shape knows_pairs b.now c.in-Kept.map.pos p.payload) (sym is.0) p.held in
    rw (kept_keys p.is d) (c.in_ok-write_kept_keys-in-Kept.ensures.written p.payload held)

pub returns-in_ok-write_kept_keys-in-Kept-clause-asked : goal.returns-in_ok-write_kept_keys-in-Kept-clause-asked
returns-in_ok-write_kept_keys-in-Kept-clause-asked g c = λ v t h d. let p = c.in-Kept.ensures.2.payload v h in rw (kept_keys p.is d) tt

pub returns-in_default-clause-written : goal.returns-in_default-clause-written
returns-in_default-clause-written g c = λ v t h d.
    let none = keyless_kind c.args.node.bytes c.args.node.pos c.kind.result c.kind.ensures c.in_default.not-Ordered c.in_default.not-Kept in
    rw (none v t h d) c.answer_wrong.ensures.written

pub returns-in_default-clause-asked : goal.returns-in_default-clause-asked
returns-in_default-clause-asked g c =
    let none = keyless_kind c.args.node.bytes c.args.node.pos c.kind.result c.kind.ensures c.in_default.not-Ordered c.in_default.not-Kept in
    IfOk-weaker c.answer_wrong.result _ _ (λ asked says v t h d. subst (Tells asked) (sym (none v t h d)) says) c.answer_wrong.ensures.asked
