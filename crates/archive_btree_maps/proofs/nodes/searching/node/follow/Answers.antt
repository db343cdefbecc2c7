use Rattle.std.proofs.Common.{◌^◌, ◌≤◌, sym, arith}
use Rattle.archive_shape_layout.specs.Bytes as layout
use Rattle.archive_btree_maps.proofs.Pointers.{leads_on, leads_back, is_behind, is_other}
use Rattle.archive_btree_maps.proofs.nodes.searching.node.follow.Goals as goal

pub overflow_sub-result-else-word : goal.overflow_sub-result-else-word
overflow_sub-result-else-word c =
    let r = c.requires.leads (λ e. c.if-word-eq1.false (rw c.read_word-word.ensures e)) in
    rw c.read_word-word.ensures (is_behind c.args.link (layout.word_at c.args.bytes.now c.args.link) r.0 (omega arith) r.1)

pub returns-then-word : goal.returns-then-word
returns-then-word c =
    let word = layout.word_at c.args.bytes.now c.args.link in
    rw (is_other word 1 (λ e. c.if-word-eq1.false (rw c.read_word-word.ensures e)), c.read_word-word.ensures) (sym (leads_on c.args.link word (omega arith)))

pub returns-else-word : goal.returns-else-word
returns-else-word c =
    let word = layout.word_at c.args.bytes.now c.args.link in
    let r = c.requires.leads (λ e. c.if-word-eq1.false (rw c.read_word-word.ensures e)) in
    let high : 2 ^ 31 ≤ word = omega arith in
    rw (is_other word 1 (λ e. c.if-word-eq1.false (rw c.read_word-word.ensures e)), c.read_word-word.ensures)
    (sym (leads_back c.args.link word high (is_behind c.args.link word r.0 high r.1)))
