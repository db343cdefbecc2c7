use Rattle.std.proofs.Common.{Bor, List, ℕ, sym, subst, arith}
use Rattle.std.proofs.lemmas.Result.{err_from_is_err_and, IfOk-weaker}
use Rattle.archive_shape.specs.Key.{HeldAt}
use Rattle.cabinet_text_nodes.specs.Answers.{Tells}
use Rattle.cabinet_archives.specs.Keyed.{knows_pairs}
use Rattle.cabinet_archives.specs.Ordered.{map_shape}
use Rattle.archive_shape_layout.specs.Content.Part.{at}
use Rattle.cabinet_archives.specs.Sound.{IsSoundPart}
use Rattle.std.proofs.Math.Logic.{∥∥₁_map}
use Rattle.cabinet_archives.proofs.Soundness.{payload_sound}
use Rattle.cabinet_archives.proofs.KeysAsked.{ordered_range, rangeless_kind}
use Rattle.cabinet_archives.proofs.asking.question.answer_range.Goals as goal

pub write_keys_within-requires-clause-sound : goal.write_keys_within-requires-clause-sound
write_keys_within-requires-clause-sound g c =
    let is = c.in-Ordered.ensures in
    let map = c.in-Ordered.map in
    subst (λ (b : Bor (List ℕ)). IsSoundPart b.now (at map.pos map_shape)) (sym is.0)
    (subst (λ n. IsSoundPart c.args.node.bytes.now (at n map_shape)) (sym is.1) (∥∥₁_map c.requires.sound (λ walk. payload_sound c.args.node.bytes.now c.requires.there walk (omega arith) is.2)))

pub returns-in_err-write_keys_within-in-Ordered-clause-written : goal.returns-in_err-write_keys_within-in-Ordered-clause-written
returns-in_err-write_keys_within-in-Ordered-clause-written g c = λ v t h d.
    let e = err_from_is_err_and c.from_residual.result c.from_residual.ensures.1 in
    let is = c.in-Ordered.ensures in
    let p = is.2.payload v h in
    let held = subst (λ (b : Bor (List ℕ)). HeldAt map_shape knows_pairs b.now c.in-Ordered.map.pos p.payload) (sym is.0) p.held in
    rw (e.1, e.2, ordered_range p.is d c.args.low.now c.args.high.now) (c.in_err-write_keys_within-in-Ordered.ensures.written p.payload held)

pub returns-in_ok-write_keys_within-in-Ordered-clause-written : goal.returns-in_ok-write_keys_within-in-Ordered-clause-written
returns-in_ok-write_keys_within-in-Ordered-clause-written g c = λ v t h d.
    let is = c.in-Ordered.ensures in
    let p = is.2.payload v h in
    let held = subst (λ (b : Bor (List ℕ)). HeldAt map_shape knows_pairs b.now c.in-Ordered.map.pos p.payload) (sym is.0) p.held in
    rw (ordered_range p.is d c.args.low.now c.args.high.now) (c.in_ok-write_keys_within-in-Ordered.ensures.written p.payload held)

pub returns-in_ok-write_keys_within-in-Ordered-clause-asked : goal.returns-in_ok-write_keys_within-in-Ordered-clause-asked
returns-in_ok-write_keys_within-in-Ordered-clause-asked g c = λ v t h d. let p = c.in-Ordered.ensures.2.payload v h in rw (ordered_range p.is d c.args.low.now c.args.high.now) tt

pub returns-in_default-clause-written : goal.returns-in_default-clause-written
returns-in_default-clause-written g c = λ v t h d.
    let none = rangeless_kind c.args.node.bytes c.args.node.pos c.kind.result c.kind.ensures c.in_default.not-Ordered in
    rw (none v t h d c.args.low.now c.args.high.now) c.answer_wrong.ensures.written

pub returns-in_default-clause-asked : goal.returns-in_default-clause-asked
returns-in_default-clause-asked g c =
    let none = rangeless_kind c.args.node.bytes c.args.node.pos c.kind.result c.kind.ensures c.in_default.not-Ordered in
    IfOk-weaker c.answer_wrong.result _ _ (λ asked says v t h d. subst (Tells asked) (sym (none v t h d c.args.low.now c.args.high.now)) says) c.answer_wrong.ensures.asked
