-- A document whose archive is made in memory, and written whole or in part.
use Rattle.std.proofs.Common.{◌≡◌, ℕ, Result, ◌+◌, ◌<◌, ◌≤◌, false, Ok, Err, List, [], ◌∷◌, ◌++◌, length, append-nil, ⊎_elim, inl, refl, sym, ap, subst, ◌∙◌, arith}
use Rattle.std.specs.Prelude.{IsTrue}
use Rattle.archive_shape_layout.specs.declared.error.Error.{Error}
use Rattle.archive_shape_layout.specs.declared.error.Error.TheVariants.{OutOfMemory}
use Rattle.archive_shape_layout.specs.Writing.{WriterMembers, Cut, IsCounted}
use Rattle.archive_shape_canonical.specs.FirstFit.{first_fit}
use Rattle.archive_shape_canonical.specs.Hash.{text_hash}
use Rattle.archive_forms_laws.specs.State.{initial}
use Rattle.archive_forms_laws.specs.Pointers.{box_spelling}
use Rattle.archive_forms_laws.specs.Serializing.{IsAt, Serializes}
use Rattle.cabinet_text_grammar.specs.Tree.{Tree}
use Rattle.cabinet_text_grammar.specs.Wholes.{wholes_of, IsNumbered, IsTable, IsDocument}
use Rattle.archive_shape_layout.specs.Holds.{root_position}
use Rattle.archive_forms_laws.proofs.Regions.{region_exact}
use Rattle.archive_forms_values.proofs.Rooted.{root_held}
use Rattle.cabinet_documents.specs.Node.{node_shape, node_names, KnowsNode}
use Rattle.cabinet_documents.specs.Image.{Image}
use Rattle.cabinet_documents.specs.Spelling.{node_spelling, node_value}
use Rattle.cabinet_documents.specs.SpellingLaws.{archive_of, ArchiveFits, ArchiveRefused}
use Rattle.cabinet_documents.proofs.Imaged.{one_image_law}
use Rattle.cabinet_documents.proofs.Levels.{node_spells_law}
use Rattle.cabinet_documents.proofs.SpellingDenoted.{value_denotes_law}
use Rattle.cabinet_documents.proofs.StoredNodes.{refused_is_past_law}
use Rattle.cabinet_archived.specs.Archived.{archived_as, archived_in, table_in}
use Rattle.cabinet_archived.specs.declared.node_in.NodeIn.{NodeIn}
use Rattle.cabinet_archived.proofs.Written.{box_written}
use Rattle.cabinet_text_grammar.proofs.Tables.{document_table, document_numbered}
use Rattle.cabinet_text_nodes.specs.View.{node_tree}
use Rattle.cabinet_archives.specs.declared.saving.saving.SaveRefusal.{SaveRefusal}
use Rattle.cabinet_archives.specs.declared.saving.saving.SaveRefusal.TheVariants as refusal
use Rattle.cabinet_archives.specs.Saving.{IsPast, IsWithinLimits, HasNoImageFor, LosesImage, IsUnsavedFor}

-- what is written of a document's root beside its wholes is written of the document
pub as_document : {S : Type 0} (m : WriterMembers S) (x : NodeIn) (t : Tree) (old new : S) (result : Result ℕ Error)
    → table_in x ≡ wholes_of t → node_tree (wholes_of t) x.node.now ≡ t
    → Serializes (box_spelling node_shape archived_in) m x old new result
    → Serializes (box_spelling node_shape (node_spelling (wholes_of t))) m t old new result
as_document m x t old new result table seen h =
    box_written (wholes_of t) m x.node.now t old new result seen
    (subst (λ w. Serializes (box_spelling node_shape (archived_as w)) m x.node.now old new result) table h)

-- the wholes of a document's root are in its table
pub root_in_table : (x : NodeIn) (t : Tree) → table_in x ≡ wholes_of t → node_tree (wholes_of t) x.node.now ≡ t → IsDocument t
    → IsTable (table_in x) × IsNumbered (table_in x) (node_tree (table_in x) x.node.now)
root_in_table x t table seen document =
    subst (λ w. IsTable w × IsNumbered w (node_tree w x.node.now)) (sym table)
    (document_table t document, subst (IsNumbered (wholes_of t)) (sym seen) (document_numbered t))

module _ {S : Type 0} (m : WriterMembers S) (t : Tree) (old new : S) (at : IsAt m.pos m.known old initial) where
  -- what was written where nothing was before is the archive
  pub archive_made :
      (pos : ℕ) (bytes : List ℕ) → IsTrue m.OBSERVABLE → m.contents old ≡ [] → m.contents new ≡ bytes
      → Serializes (box_spelling node_shape (node_spelling (wholes_of t))) m t old new (Ok pos)
      → ArchiveFits t × (bytes ≡ archive_of t)
  archive_made pos bytes tells none is h =
      let o = h initial at in
      (o.1.1, sym is ∙ o.0.gains tells ∙ ap (λ l. l ++ archive_of t) none)

  -- what was written exceeds no limit
  pub archive_fits : (pos : ℕ) → Serializes (box_spelling node_shape (node_spelling (wholes_of t))) m t old new (Ok pos) → ArchiveFits t
  archive_fits pos h = (h initial at).1.1

  -- a writer that counts no failures failed only because an allocation failed
  pub archive_past :
      (e : Error) → m.COUNTS ≡ false → (e ≡ OutOfMemory → ⊥)
      → Serializes (box_spelling node_shape (node_spelling (wholes_of t))) m t old new (Err e)
      → ArchiveRefused t e
  archive_past e uncounted other h =
      ⊎_elim
      (λ f. absurd (other (subst (λ b. IsCounted b (m.failures old) (m.failures new) e) uncounted f.is_counted).1))
      (λ q. ⊎_elim (λ z. absurd (other z)) (λ z. z) q.reason)
      (h initial at)

-- ---- a document

-- what was cut from an image was cut from each
pub cut_of : (t : Tree) (old new bytes image : List ℕ) → Image t bytes → Cut old new bytes → Image t image → Cut old new image
cut_of t old new bytes image made cut is_image = subst (Cut old new) (one_image_law t bytes image made is_image) cut

-- nothing was written
pub nothing_cut : (old image : List ℕ) → Cut old old image
nothing_cut old image = record { written = []; lost = image; new_is = sym (append-nil old); piece_is = refl }

-- what was lost of an image was lost of each
pub short_of : (t : Tree) (old new bytes image : List ℕ) → Image t bytes → length new < length old + length bytes → Image t image → length new < length old + length image
short_of t old new bytes image made short is_image =
    subst (λ l. length new < length old + length l) (one_image_law t bytes image made is_image) short

-- an image has a node, so all of it is lost where nothing was written
nothing_saved : {W : Type 0} (m : WriterMembers W) (t : Tree) (old : W) → LosesImage m t old old
nothing_saved m t old image is_image tells =
    let a = is_image.accepted in
    let pos = root_position (length image) node_shape in
    let room : pos + 24 ≤ length image = (root_held node_shape KnowsNode node_names image pos a.value a.regions a.visits refl a.root).own_within in
    omega (arith, room)

-- why there is no image in memory is why the document was not saved
pub unsaved : {W : Type 0} (m : WriterMembers W) (t : Tree) (old : W) (r : SaveRefusal) → HasNoImageFor t r → IsUnsavedFor m t old old r
unsaved m t old (refusal.Limit e) h = (h, refl)
unsaved m t old (refusal.Writer e) h = absurd h
unsaved m t old refusal.OutOfMemory h = (inl refl, refl, nothing_saved m t old)

-- why nothing was made of a document is why it has no image
pub past_of : (t : Tree) (e : Error) → IsDocument t → ArchiveRefused t e → IsPast t e
past_of t e document h =
    let of_value = value_denotes_law t document in
    (node_value t, of_value.0, of_value.1, (refused_is_past_law t (node_value t) e document of_value.0 of_value.1).0 h)

-- what fits exceeds no limit
pub none_past : (t : Tree) → IsDocument t → ArchiveFits t → IsWithinLimits t
none_past t document fits e past =
    let fit = first_fit text_hash in
    let table = wholes_of t in
    region_exact fit node_shape KnowsNode (node_spelling table) (t ∷ []) (node_spells_law table fit t, tt) initial e fits
    ((refused_is_past_law t past.0 e document past.1 past.2).1 past.3)
