use Rattle.std.proofs.Common.{arith, ◌≡◌, length}
use Rattle.std.proofs.lemmas.Grind.{common_steps}
use Rattle.archive_shape_layout.specs.Shape.{size_of}
use Rattle.archive_forms_writing.proofs.leaf.AnyArchive.resolve.Goals as goal

pub returns : goal.returns
returns g c =
    let stands = c.requires.stands in
    let sized = g.met.N.Archived.Portable.sized in
    let whole : length (g.N.Archived.ArchivedLeaf.bytes_of c.args.self.now) ≡ size_of g.N.Archived.Portable.shape = omega (arith, c.store_own.ensures.whole) in
    ((c.store_own.ensures.value, whole, c.store_own.ensures.small), grind (arith, common_steps))
