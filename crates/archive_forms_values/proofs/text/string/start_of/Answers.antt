use Rattle.std.proofs.Common.{sym, ◌∙◌}
use Rattle.archive_forms_values.proofs.Placed.{inline_start, far_start}
use Rattle.archive_forms_values.proofs.text.string.start_of.Goals as goal

pub returns-then-is_inline : goal.returns-then-is_inline
returns-then-is_inline c =
    inline_start c.args.bytes.now c.args.pos c.requires c.own_bytes-own.result.now c.own_bytes-own.ensures.own (c.is_inline.ensures.0 c.if-is_inline.true)

pub returns : goal.returns
returns c =
    far_start c.args.bytes.now c.args.pos c.requires c.own_bytes-own.result.now c.own_bytes-own.ensures.own
    c.unwrap.result (λ i. let is_true = c.is_inline.ensures.1 i in let is_false = c.if-is_inline.false in absurd (cc)) (sym c.out_of_line_start.ensures ∙ c.unwrap.ensures)
