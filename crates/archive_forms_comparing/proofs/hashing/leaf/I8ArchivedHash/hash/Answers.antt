use Rattle.std.proofs.Common.{rules, ◌≡◌, ap}
use Rattle.std.specs.Hash as fed
use Rattle.archive_shape_layout.specs.Value.Value.{integer}
use Rattle.archive_forms_laws.specs.Views.{integer_of}
use Rattle.archive_forms_comparing.proofs.hashing.leaf.I8ArchivedHash.hash.Goals as goal

pub returns : goal.returns
returns g c = λ v h.
    let e : fed.i8 (integer_of (integer c.native_of.result)) ≡ fed.i8 (integer_of v) = ap (λ u. fed.i8 (integer_of u)) (c.native_of.ensures v h) in
    search (rules, e)
