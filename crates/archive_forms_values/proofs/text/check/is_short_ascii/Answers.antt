use Rattle.std.proofs.Common.{◌==◌, ◌||◌, nat_lt}
use Rattle.archive_forms_values.proofs.Ascii.{all_of_eight}
use Rattle.archive_forms_values.proofs.text.check.is_short_ascii.Goals as goal

pub returns-in-len8 : goal.returns-in-len8
returns-in-len8 c =
    rw (c.is_ascii_or_filler.ensures, c.is_ascii_or_filler-in-len8.ensures, c.is_ascii_or_filler-in-len8-2.ensures, c.is_ascii_or_filler-in-len8-3.ensures, c.is_ascii_or_filler-in-len8-4.ensures, c.is_ascii_or_filler-in-len8-5.ensures, c.is_ascii_or_filler-in-len8-6.ensures, c.is_ascii_or_filler-in-len8-7.ensures)
    (all_of_eight (λ b. nat_lt b 128 || b == 255) c.args.own.now c.requires)
