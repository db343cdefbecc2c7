-- The law of a value that is archived by what stands beside it is the law of what archives it.
use Rattle.archive_shape_layout.specs.Shape.{Shape}
use Rattle.archive_shape_layout.specs.Content.{Names}
use Rattle.archive_shape_canonical.specs.Settled.{Fit}
use Rattle.archive_forms_laws.specs.Spelling.{Spelling}
use Rattle.archive_forms_laws.specs.Spells.{Spells}
use Rattle.archive_hash_writing.specs.Beside.{beside_spelling}

pub beside_spells : {A B R : Type 0} (fit : Fit) (s : Shape) (knows : Names → Type 0) (by : A → Spelling B R) → ((a : A) → Spells fit s knows (by a)) → Spells fit s knows (beside_spelling by)
beside_spells fit s knows by each x =
    let one = each x.0 x.1 in
    record {
      sized = one.sized;
      canonical = one.canonical;
      consistent = one.consistent;
      keyed = one.keyed;
      piece_bytes = one.piece_bytes;
      own_bytes = one.own_bytes;
      piece_exact = one.piece_exact;
      own_exact = one.own_exact;
      unshared = one.unshared;
    }
