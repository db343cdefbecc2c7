use Rattle.std.proofs.Common.{◌≡◌, ◌+◌, ◌-◌, take, drop, ap, ◌∙◌, arith}
use Rattle.archive_forms_values.proofs.boxed.boxed_str.ArchivedBoxedStr.get.Goals as goal

pub returns : goal.returns
returns c =
    let start = c.text_at-start.result.0 in
    let len = c.text_at-start.result.1 in
    let same : start + len - start ≡ len = omega arith in
    (start, len, c.text_at-start.ensures, c.from_utf8_unchecked.ensures ∙ ap (λ n. take n (drop start c.args.this.bytes.now)) same)
