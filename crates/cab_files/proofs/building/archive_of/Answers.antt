use Rattle.std.proofs.Common.{sym, ◌∙◌}
use Rattle.cab_files.proofs.building.archive_of.Goals as goal

pub returns-clause-built : goal.returns-clause-built
returns-clause-built c =
    let document = c.in-Ok.ensures.document in
    record { document = c.in-Ok.document; text_is = sym c.as_slice.ensures.value ∙ document; is_image = c.in-Ok-to_bytes.ensures.image }
