-- The results of saving a document.
use Rattle.std.specs.Prelude.{◌≡◌, ℕ, ◌+◌, ◌<◌, ◌⊎◌, true, false, List, ◌++◌, length, IsTrue, ⊤}
use Rattle.archive_shape_layout.specs.Writing.{WriterMembers}
use Rattle.archive_shape_layout.specs.declared.error.Error.{Error}
use Rattle.archive_shape_layout.specs.Value.{Value}
use Rattle.archive_shape_canonical.specs.FirstFit.{first_fit}
use Rattle.archive_shape_canonical.specs.Hash.{text_hash}
use Rattle.archive_shape_canonical.specs.Limits.{PastLimits}
use Rattle.cabinet_text_grammar.specs.Tree.{Tree}
use Rattle.cabinet_documents.specs.Node.{node_shape, node_names}
use Rattle.cabinet_documents.specs.Denotes.{Denotes}
use Rattle.cabinet_documents.specs.Fitted.{IsFitted}
use Rattle.cabinet_documents.specs.Image.{Image}
use Rattle.cabinet_archives.specs.declared.saving.saving.SaveRefusal.{SaveRefusal}
use Rattle.cabinet_archives.specs.declared.saving.saving.SaveRefusal.TheVariants.{Limit, Writer, OutOfMemory}

-- what a document's value stores exceeds a limit, which the error `e` reports, where the pairs of each hashed map are in
-- the order that first fit gives them
abbrev pub IsPast : Tree → Error → Type 0
IsPast t e = (v : Value) × Denotes v t × IsFitted v × PastLimits (first_fit text_hash) node_names node_shape v e

-- nothing in a document exceeds what archives can hold
abbrev pub IsWithinLimits : Tree → Type 0
IsWithinLimits t = (e : Error) → IsPast t e → ⊥

-- why a document has no image in memory: something in it exceeds what archives can hold, or an allocation failed
abbrev pub HasNoImageFor : Tree → SaveRefusal → Type 0
HasNoImageFor t (Limit e) = IsPast t e
HasNoImageFor t (Writer e) = ⊥
HasNoImageFor t OutOfMemory = ⊤

-- an image of the document was written
pub record Saved (t : Tree) (old new : List ℕ) : Type 0 where
  pub image : List ℕ
  pub is_image : Image t image
  pub written : new ≡ old ++ image

-- some of the document's image was not written
abbrev pub LosesImage : {W : Type 0} → WriterMembers W → Tree → (old new : W) → Type 0
LosesImage w t old new =
    (image : List ℕ) → Image t image → IsTrue w.OBSERVABLE → length (w.contents new) < length (w.contents old) + length image

-- why no image was written: something in the document exceeds what archives can hold, and the writer is unchanged; a
-- write failed with the writer's last error, and its count of failures rose by one; or an allocation failed, before
-- anything was written or in a writer that counts no failures, and some of the image was lost
abbrev pub IsUnsavedFor : {W : Type 0} → WriterMembers W
    → Tree → (old new : W) → SaveRefusal → Type 0
IsUnsavedFor w t old new (Limit e) = IsPast t e × (new ≡ old)
IsUnsavedFor w t old new (Writer e) = (w.COUNTS ≡ true) × (w.failures new ≡ w.failures old + 1) × (w.last_error new ≡ e)
IsUnsavedFor w t old new OutOfMemory = ((new ≡ old) ⊎ (w.COUNTS ≡ false)) × (w.failures new ≡ w.failures old) × LosesImage w t old new
