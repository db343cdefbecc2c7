use Rattle.std.proofs.Common.{rules, ◌≡◌, length, ap, ◌∙◌}
use Rattle.std.proofs.lemmas.List.{length-replicate}
use Rattle.archive_shape_layout.specs.Shape.{size_of}
use Rattle.archive_shape_canonical.specs.FirstFit.{first_fit}
use Rattle.archive_forms_writing.proofs.Whole.{whole_resolved}
use Rattle.archive_forms_writing.proofs.placing.resolve_into.Goals as goal

pub returns : goal.returns
returns g c =
    let whole : length c.new.result.out.now ≡ size_of g.T.Archived.Portable.shape = ap length (c.new.ensures.bytes ∙ c.requires.blank) ∙ length-replicate _ _ in
    whole_resolved g.T.Archived.Portable.shape g.T.Archive.spelling c.args.value.now c.args.resolver (λ pos. (g.met.T.Archive.spells (first_fit (λ _. 0)) c.args.value.now).sized c.args.resolver pos)
    c.args.pos _ _ c.new.result.out.now c.resolve.new.out.0 _ c.resolve.result c.new.ensures.pos c.new.ensures.start whole (search rules) c.resolve.ensures
