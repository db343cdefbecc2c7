use Rattle.std.proofs.Common.{ap}
use Rattle.archive_forms_laws.specs.Views.{option_of}
use Rattle.archive_forms_comparing.proofs.Seen.{option_matched, option_part}
use Rattle.archive_forms_comparing.proofs.parts.option_value.Goals as goal

pub returns : goal.returns
returns g c =
    option_matched _ _ _ _ c.as_ref.result (λ none v h. ap option_of (none v h))
    (λ r h. option_part g.T.Portable.shape g.T.Portable.knows c.args.this.now.bytes.now c.args.this.now.pos (ap (λ b. b.now) h.0) h.1 c.requires h.2)
    c.as_ref.ensures
