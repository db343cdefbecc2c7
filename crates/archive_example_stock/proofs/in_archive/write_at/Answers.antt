use Rattle.std.proofs.Common.{◌+◌, ap, sym, rules}
use Rattle.archive_example_stock.specs.Edited.{with_count}
use Rattle.archive_example_stock.proofs.Edits.{answers_at}
use Rattle.archive_example_stock.proofs.in_archive.write_at.Goals as goal

pub returns-clause-answers : goal.returns-clause-answers
returns-clause-answers c es once answers =
    let edited = c.write_count.ensures.answers es once (rw (c.new.ensures.bytes, c.new.ensures.pos) answers) in
    answers_at _ _ _ _ _ _ _ _ _ _ _ _ _ _ (with_count c.args.shelf c.args.count es) (search rules) (ap (λ p. p + 12) (sym c.new.ensures.pos)) edited
