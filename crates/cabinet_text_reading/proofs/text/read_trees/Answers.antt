use Rattle.std.proofs.Common.{◌≡◌, ◌<◌, length, length-append, ◌∷◌, ap, sym, subst, arith}
use Rattle.std.proofs.lemmas.Result.{err_from_is_err_and}
use Rattle.cabinet_text_grammar.specs.Reading.{due_at, reading}
use Rattle.cabinet_text_grammar.specs.Fault.{IsFirstCause}
use Rattle.cabinet_text_grammar.proofs.Completed.{something_due}
use Rattle.cabinet_text_grammar.proofs.Steps.{few}
use Rattle.cabinet_text_nodes.specs.View.{node_tree}
use Rattle.cabinet_text_reading.specs.View.{open_at}
use Rattle.cabinet_text_reading.specs.Wholes.{table_in, reading_of}
use Rattle.cabinet_text_reading.proofs.ReadTo.{begun_within, begins_before, at_line, early_fault, fault_here, memory_refused, line_taken, added_fits, added_lines, whole_added, ok_holds, after_number, root_read}
use Rattle.cabinet_text_reading.proofs.text.read_trees.Goals as goal
use Rattle.cabinet_text_reading.proofs.text.read_trees.Goals.{then-count-gt0, else-count-gt0, in-Due-taken, in-Done-taken, in-Done-2+else-is_err}

pub loop-next-init : goal.loop-next-init
loop-next-init c =
    let line : (c.args.count ≡ 0 → c.if-count-gt0.line ≡ 1) × (0 < c.args.count → c.if-count-gt0.line ≡ 2) = elim c.if-count-gt0.branch [
      | then-count-gt0 x ↦ (λ none. absurd (omega (arith, none, x.if-count-gt0.true)), λ some. x.line-is)
      | else-count-gt0 x ↦ (λ none. x.line-is, λ some. absurd (omega (arith, some, x.if-count-gt0.false)))
    ] in
    rw c.requires.stack
    (after_number c.args.text.now c.args.rest c.args.count c.if-count-gt0.line c.len.result c.args.wholes.now c.ranges.count.fits c.requires.none c.requires.some line.0 line.1 c.len.ensures c.requires.reading c.requires.known)

pub overflow_sub-begin : goal.overflow_sub-begin
overflow_sub-begin c = omega (arith, c.len.ensures, begun_within c.args.text.now c.args.rest c.args.count c.requires.none c.requires.some)

pub returns-in-Done-clause-document : goal.returns-in-Done-clause-document
returns-in-Done-clause-document c = (root_read _ (rw c.in-Done.is at c.loop-next.invariant)).document

pub returns-in-Done-clause-wholes : goal.returns-in-Done-clause-wholes
returns-in-Done-clause-wholes c = (root_read _ (rw c.in-Done.is at c.loop-next.invariant)).wholes

pub returns-in-Done-clause-line : goal.returns-in-Done-clause-line
returns-in-Done-clause-line c = (root_read _ (rw c.in-Done.is at c.loop-next.invariant)).line_is

pub returns-in-Done-clause-text : goal.returns-in-Done-clause-text
returns-in-Done-clause-text c = (root_read _ (rw c.in-Done.is at c.loop-next.invariant)).parts

pub returns-in_err-bytes-clause-fault : goal.returns-in_err-bytes-clause-fault
returns-in_err-bytes-clause-fault c =
    let w = c.loop-next.wholes in
    let r = reading_of w (open_at (table_in w) c.in-Due.due c.loop-next.stack.items) in
    let here = rw c.in-Due.is at c.loop-next.invariant in
    let p = err_from_is_err_and c.from_residual.result c.from_residual.ensures.1 in
    rw (p.1, p.2, c.in_err-bytes.ensures.line) (early_fault here c.in_err-bytes.field-0.0.cause c.in_err-bytes.ensures.early (c.in_err-bytes.ensures.fault (due_at r) (something_due r)))

pub part-lines-requires-clause-begin : goal.part-lines-requires-clause-begin
part-lines-requires-clause-begin c =
    let here = rw c.in-Due.is at c.loop-next.invariant in
    let bytes = c.in_ok-bytes.bytes.now in
    let after = c.in_ok-bytes.after in
    omega (arith, begins_before here, c.len-in-loop-next.ensures, ap length c.in_ok-bytes.ensures.parts, length-append bytes (10 ∷ after))

pub returns-in-Err-clause-fault : goal.returns-in-Err-clause-fault
returns-in-Err-clause-fault c =
    let w = c.loop-next.wholes in
    let r = reading_of w (open_at (table_in w) c.in-Due.due c.loop-next.stack.items) in
    let here = rw c.in-Due.is at c.loop-next.invariant in
    let bytes = c.in_ok-bytes.bytes.now in
    let after = c.in_ok-bytes.after in
    let at = at_line here bytes after c.part-lines.result.now c.len-in-loop-next.result c.len-in-loop-next.ensures c.in_ok-bytes.ensures.parts c.part-lines.ensures in
    fault_here here c.in-Err.cause (subst (λ p. IsFirstCause (reading r) p c.in-Err.cause) (sym c.in_ok-bytes.ensures.piece) (c.in-Err.ensures.fault at))

pub returns-then-is_err-clause-fault : goal.returns-then-is_err-clause-fault
returns-then-is_err-clause-fault c =
    let w = c.loop-next.wholes in
    let here = rw c.in-Due.is at c.loop-next.invariant in
    let bytes = c.in_ok-bytes.bytes.now in
    let after = c.in_ok-bytes.after in
    let at = at_line here bytes after c.part-lines.result.now c.len-in-loop-next.result c.len-in-loop-next.ensures c.in_ok-bytes.ensures.parts c.part-lines.ensures in
    let taken = rw c.in-Done-2.is at (c.in-Ok.ensures.taken at) in
    memory_refused here bytes after c.in_ok-bytes.ensures.parts (node_tree (table_in w) c.in-Done-2.tree) (omega (arith, c.if-wholes-eq0.false)) taken c.in_ok-bytes.ensures.piece

pub overflow_add-line : goal.overflow_add-line
overflow_add-line c =
    let bytes = c.in_ok-bytes.bytes.now in
    let after = c.in_ok-bytes.after in
    omega (arith, few c.args.text.now c.loop-next.rest _ c.loop-next.line c.loop-next.invariant.has_read, ap length c.in_ok-bytes.ensures.parts, length-append bytes (10 ∷ after))

pub loop-next-preserved : goal.loop-next-preserved
loop-next-preserved c =
    let w = c.loop-next.wholes in
    let here = rw c.in-Due.is at c.loop-next.invariant in
    let bytes = c.in_ok-bytes.bytes.now in
    let after = c.in_ok-bytes.after in
    let at = at_line here bytes after c.part-lines.result.now c.len-in-loop-next.result c.len-in-loop-next.ensures c.in_ok-bytes.ensures.parts c.part-lines.ensures in
    let taken = c.in-Ok.ensures.taken at in
    elim c.match-taken.branch [
      | in-Due-taken x ↦ rw (x.wholes-is, x.stack-is, x.begin-is, x.next-is) (line_taken here bytes after c.in_ok-bytes.ensures.parts _ (rw x.in-Due-taken.is at taken) (λ t is. cc))
      | in-Done-taken x ↦ rw (x.wholes-is, x.stack-is, x.begin-is, x.next-is) (line_taken here bytes after c.in_ok-bytes.ensures.parts _ (rw x.in-Done-taken.is at taken) (λ t is. omega (arith, x.if-wholes-eq0.true)))
      | in-Done-2+else-is_err x ↦
          let t = node_tree (table_in w) x.in-Done-taken.root in
          let some : 0 < w.lacking = omega (arith, x.if-wholes-eq0.false) in
          let next = c.in_ok-bytes.ensures.parts in
          let whole = rw x.in-Done-taken.is at taken in
          let fits = added_fits here bytes after next t some whole in
          let lines = added_lines here bytes after next t some whole c.part-lines.result.now c.len-in-loop-next.result c.len-in-loop-next.ensures c.part-lines.ensures in
          let ok = x.if-is_err.ensures.negation in
          rw (x.wholes-is, x.stack-is, x.begin-is, x.next-is, x.clear.ensures.items)
          (whole_added here bytes after next t some whole x.add.new.self x.len-in-Done-2.result x.len-in-Done-2.ensures (ok_holds x.add.result _ ok x.add.ensures.reading) (ok_holds x.add.result _ ok (x.add.ensures.known here.known fits.0 fits.1 lines)))
    ]

pub overflow_sub-text : goal.overflow_sub-text
overflow_sub-text c =
    let here = rw c.in-Due.is at c.loop-next.invariant in
    let bytes = c.in_ok-bytes.bytes.now in
    let after = c.in_ok-bytes.after in
    omega (arith, begins_before here, c.len-in-loop-next.ensures, ap length c.in_ok-bytes.ensures.parts, length-append bytes (10 ∷ after))

pub part-lines-requires-clause-end : goal.part-lines-requires-clause-end
part-lines-requires-clause-end c = omega arith

pub add-requires : goal.add-requires
add-requires c = omega (arith, c.if-wholes-eq0.false)

pub overflow_sub-begin-in-Done-2 : goal.overflow_sub-begin-in-Done-2
overflow_sub-begin-in-Done-2 c =
    let here = rw c.in-Due.is at c.loop-next.invariant in
    let bytes = c.in_ok-bytes.bytes.now in
    let after = c.in_ok-bytes.after in
    omega (arith, begins_before here, c.len-in-Done-2.ensures, ap length c.in_ok-bytes.ensures.parts, length-append bytes (10 ∷ after))

pub loop-next-smaller : goal.loop-next-smaller
loop-next-smaller c = omega (arith, ap length c.in_ok-bytes.ensures.parts, length-append c.in_ok-bytes.bytes.now (10 ∷ c.in_ok-bytes.after))
