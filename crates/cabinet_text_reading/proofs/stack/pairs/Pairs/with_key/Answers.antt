use Rattle.std.proofs.Common.{string_bytes}
use Rattle.std.proofs.lemmas.Result.{err_from_is_err_and}
use Rattle.std.proofs.lemmas.Str.{IsUtf8-string_bytes}
use Rattle.cabinet_text_grammar.specs.Keys.{ordered, hashed, kept}
use Rattle.cabinet_text_reading.proofs.Wrong.{refused_first}
use Rattle.cabinet_text_reading.proofs.stack.pairs.Pairs.with_key.Goals as goal

pub returns-in_err-with_key-in-Ordered-clause-fault : goal.returns-in_err-with_key-in-Ordered-clause-fault
returns-in_err-with_key-in-Ordered-clause-fault c =
    let p = err_from_is_err_and c.from_residual.result c.from_residual.ensures.1 in
    rw (p.1, p.2, c.in-Ordered.is) (refused_first ordered c.in-Ordered.pairs c.args.argument.now c.in_err-with_key-in-Ordered.field-0.0 c.requires c.in_err-with_key-in-Ordered.ensures.fault)

pub returns-in_err-with_key-in-Hashed-clause-fault : goal.returns-in_err-with_key-in-Hashed-clause-fault
returns-in_err-with_key-in-Hashed-clause-fault c =
    let p = err_from_is_err_and c.from_residual-in_err-with_key-in-Hashed.result c.from_residual-in_err-with_key-in-Hashed.ensures.1 in
    rw (p.1, p.2, c.in-Hashed.is) (refused_first hashed c.in-Hashed.pairs c.args.argument.now c.in_err-with_key-in-Hashed.field-0.0 c.requires c.in_err-with_key-in-Hashed.ensures.fault)

pub returns-in_err-with_key-in-Kept-clause-fault : goal.returns-in_err-with_key-in-Kept-clause-fault
returns-in_err-with_key-in-Kept-clause-fault c =
    let p = err_from_is_err_and c.from_residual-in_err-with_key-in-Kept.result c.from_residual-in_err-with_key-in-Kept.ensures.1 in
    rw (p.1, p.2, c.in-Kept.is) (refused_first kept c.in-Kept.pairs c.args.argument.now c.in_err-with_key-in-Kept.field-0.0 c.requires c.in_err-with_key-in-Kept.ensures.fault)

pub returns-in_ok-with_key-in-Ordered-clause-admitted : goal.returns-in_ok-with_key-in-Ordered-clause-admitted
returns-in_ok-with_key-in-Ordered-clause-admitted c =
    let k = c.in_ok-with_key-in-Ordered.field-0.1 in
    rw c.in-Ordered.is (IsUtf8-string_bytes k, c.in_ok-with_key-in-Ordered.ensures.after (string_bytes k) c.in_ok-with_key-in-Ordered.ensures.key)

pub returns-in_ok-with_key-in-Hashed-clause-admitted : goal.returns-in_ok-with_key-in-Hashed-clause-admitted
returns-in_ok-with_key-in-Hashed-clause-admitted c =
    let k = c.in_ok-with_key-in-Hashed.field-0.1 in
    rw c.in-Hashed.is (IsUtf8-string_bytes k, c.in_ok-with_key-in-Hashed.ensures.after (string_bytes k) c.in_ok-with_key-in-Hashed.ensures.key)

pub returns-in_ok-with_key-in-Kept-clause-admitted : goal.returns-in_ok-with_key-in-Kept-clause-admitted
returns-in_ok-with_key-in-Kept-clause-admitted c =
    let k = c.in_ok-with_key-in-Kept.field-0.1 in
    rw c.in-Kept.is (IsUtf8-string_bytes k, c.in_ok-with_key-in-Kept.ensures.after (string_bytes k) c.in_ok-with_key-in-Kept.ensures.key)
