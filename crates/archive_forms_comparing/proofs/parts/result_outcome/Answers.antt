use Rattle.std.proofs.Common.{ap}
use Rattle.archive_forms_comparing.proofs.Seen.{result_matched, ok_part, err_part}
use Rattle.archive_forms_comparing.proofs.parts.result_outcome.Goals as goal

pub returns : goal.returns
returns g c =
    result_matched _ _ _ _ c.as_ref.result
    (λ r h. ok_part g.T.Portable.shape g.E.Portable.shape g.T.Portable.knows g.E.Portable.knows c.args.this.now.bytes.now c.args.this.now.pos (ap (λ b. b.now) h.0) h.1 c.requires h.2)
    (λ r h. err_part g.T.Portable.shape g.E.Portable.shape g.T.Portable.knows g.E.Portable.knows c.args.this.now.bytes.now c.args.this.now.pos (ap (λ b. b.now) h.0) h.1 c.requires h.2)
    c.as_ref.ensures
