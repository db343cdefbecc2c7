use Rattle.std.proofs.Common.{rules, Err, arith, ◌≡◌, ◌<◌, length, ap, ◌∙◌}
use Rattle.archive_shape_canonical.specs.FirstFit.{first_fit}
use Rattle.archive_forms_writing.proofs.Loops.{next_of, none_left, length-resolvers}
use Rattle.archive_forms_writing.proofs.Arrays.{laid_none, laid_can, laid_next, laid_refused, laid_all, size_whole}
use Rattle.archive_forms_writing.proofs.array.resolve_elements.Goals as goal

pub loop-i-init : goal.loop-i-init
loop-i-init g c = laid_none g.T.Archived.Portable.shape g.T.Archive.spelling _ _ _ _ _ c.requires.made.0 c.requires.made.1

pub resolve_element-requires : goal.resolve_element-requires
resolve_element-requires g c =
    let n : length c.args.kept.now ≡ length c.args.items.now = ap length c.requires.made.1 ∙ length-resolvers g.T.Archive.spelling c.args.items.now c.requires.made.0 in
    let less : c.loop-i.i < length c.args.kept.now = omega (arith, n, c.loop-i-test.true) in
    let e = next_of _ _ _ c.loop-i-test.true c.index-items-i.is in
    let f = next_of _ _ _ less c.index-kept-i.is in
    laid_can g.T.Archived.Portable.shape g.T.Archive.spelling c.args.items.now c.args.kept.now c.args.out.now c.args.start c.args.pos _ _ e f c.loop-i.invariant
    (length c.args.items.now) c.loop-i-test.true c.requires.room c.requires.stands c.requires.blank

pub returns-in_err-resolve_element : goal.returns-in_err-resolve_element
returns-in_err-resolve_element g c =
    let n : length c.args.kept.now ≡ length c.args.items.now = ap length c.requires.made.1 ∙ length-resolvers g.T.Archive.spelling c.args.items.now c.requires.made.0 in
    let less : c.loop-i.i < length c.args.kept.now = omega (arith, n, c.loop-i-test.true) in
    let e = next_of _ _ _ c.loop-i-test.true c.index-items-i.is in
    let f = next_of _ _ _ less c.index-kept-i.is in
    let passed : c.from_residual.result ≡ Err c.in_err-resolve_element.field-0.0 = search rules in
    rw passed (laid_refused g.T.Archived.Portable.shape g.T.Archive.spelling c.args.items.now c.args.kept.now c.args.out.now c.args.start c.args.pos _ _ e f c.loop-i.invariant
    (length c.args.items.now) c.loop-i-test.true c.requires.room _ c.in_err-resolve_element.ensures)

pub loop-i-preserved : goal.loop-i-preserved
loop-i-preserved g c =
    let n : length c.args.kept.now ≡ length c.args.items.now = ap length c.requires.made.1 ∙ length-resolvers g.T.Archive.spelling c.args.items.now c.requires.made.0 in
    let less : c.loop-i.i < length c.args.kept.now = omega (arith, n, c.loop-i-test.true) in
    let e = next_of _ _ _ c.loop-i-test.true c.index-items-i.is in
    let f = next_of _ _ _ less c.index-kept-i.is in
    let h = c.in_ok-resolve_element.ensures in
    laid_next g.T.Archived.Portable.shape g.T.Archive.spelling c.args.items.now c.args.kept.now c.args.out.now c.args.start c.args.pos _ _ e f c.loop-i.invariant
    (length c.args.items.now) c.SIZE-size.result _ (λ fit. (g.met.T.Archive.spells (first_fit (λ _. 0)) c.index-items-i.result).sized _ _ fit) c.loop-i-test.true c.requires.room
    (size_whole _ _ _ _ _ c.loop-i-test.true (c.SIZE-size.ensures ∙ g.met.T.Archived.Portable.sized) c.requires.stands) h.0 h.1

pub returns : goal.returns
returns g c = laid_all g.T.Archived.Portable.shape g.T.Archive.spelling _ _ _ _ _ (none_left _ _ c.loop-i-test.false) c.loop-i.invariant
