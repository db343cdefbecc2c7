-- What is saved of a loaded document.
use Rattle.std.proofs.Common.{subst}
use Rattle.cabinet_documents.specs.Accepted.{Accepted}
use Rattle.cabinet_documents.specs.Image.{Image}
use Rattle.cabinet_documents.proofs.Imaged.{one_image_law}
use Rattle.cabinet.specs.Laws.{LoadedIsSaved, SavedAgainIsSame}

pub loaded_is_saved_law : LoadedIsSaved
loaded_is_saved_law bytes image t d a is i = subst (Accepted image) (is t a) i.accepted

pub saved_again_is_same_law : SavedAgainIsSame
saved_again_is_same_law image again d e i is j = one_image_law d again image (subst (λ t. Image t again) (is d i.accepted) j) i
