use Rattle.std.proofs.Common.{◌≡◌, ◌+◌, ◌-◌, take, drop, sym, ap, ◌∙◌, arith}
use Rattle.archive_forms_values.proofs.Placed.{inline_text, far_text}
use Rattle.archive_forms_values.proofs.text.repr.ArchivedStringRepr.as_bytes.Goals as goal

pub returns-then-is_inline : goal.returns-then-is_inline
returns-then-is_inline c =
    inline_text c.args.bytes.now c.args.pos c.requires c.own_bytes-own.result.now c.own_bytes-own.ensures.own
    c.before_filler.result.now (c.is_inline.ensures.0 c.if-is_inline.true) c.before_filler.ensures.bytes

pub returns : goal.returns
returns c =
    let same : c.unwrap-start.result + c.out_of_line_len-len.result - c.unwrap-start.result ≡ c.out_of_line_len-len.result = omega arith in
    far_text c.args.bytes.now c.args.pos c.requires c.own_bytes-own.result.now c.own_bytes-own.ensures.own
    c.unwrap-start.result c.out_of_line_len-len.result _ (λ i. let is_true = c.is_inline.ensures.1 i in let is_false = c.if-is_inline.false in absurd (cc)) c.out_of_line_len-len.ensures.length
    (sym c.out_of_line_start.ensures ∙ c.unwrap-start.ensures)
    (ap (λ n. take n (drop c.unwrap-start.result c.args.bytes.now)) same)
