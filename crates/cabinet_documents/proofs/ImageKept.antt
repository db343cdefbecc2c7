-- Writing a leaf over own bytes keeps the one archive of a document.
use Rattle.std.proofs.Common.{◌≡◌, ℕ, ◌+◌, ◌≤◌, ◌<◌, inl, List, [], ◌∷◌, ◌++◌, length, slice_index, IsUtf8, refl, sym, subst, ◌∙◌, arith, get_or-drop}
use Rattle.std.proofs.lemmas.List.{places}
use Rattle.archive_shape_layout.specs.Shape.{Shape, size_of}
use Rattle.archive_shape_layout.specs.Shape.Shape.{text as text_shape}
use Rattle.archive_shape_layout.specs.Value.{Value}
use Rattle.archive_shape_layout.specs.Value.Value.{string}
use Rattle.archive_shape_layout.specs.Content.{Content, made}
use Rattle.archive_shape_layout.specs.Content.Part.{at}
use Rattle.archive_shape_layout.specs.Content.Label.{written, leaf as leaf_label}
use Rattle.archive_shape_layout.specs.Content.Content.{plain}
use Rattle.archive_shape_layout.specs.Holds.{Region, Visit, root_position}
use Rattle.archive_shape_layout.specs.Path.{put_at}
use Rattle.archive_shape_canonical.specs.Clean.{IsFilled, field_size}
use Rattle.archive_shape_canonical.specs.Settled.{Fit}
use Rattle.archive_shape_canonical.specs.Canonical.{AreBytes, CanonicalArchive}
use Rattle.archive_shape_canonical.specs.FirstFit.{first_fit}
use Rattle.archive_shape_canonical.proofs.Cleanness.{clean_by}
use Rattle.archive_shape_canonical.proofs.Editing.{canonical_edit_of_leaf_law, canonical_edit_of_text_law}
use Rattle.archive_shape_canonical.proofs.Small.{small_append}
use Rattle.archive_shape_canonical.proofs.Windows.{window_bytes}
use Rattle.archive_shape.specs.Bytes.{overwrite}
use Rattle.archive_shape.specs.Sealing.{StandsInRoot}
use Rattle.archive_shape.proofs.Pieces.{window_byte}
use Rattle.archive_shape.proofs.Written.{length-overwrite, overwrite_spares_law}
use Rattle.archive_shape_canonical.specs.Hash.{text_hash}
use Rattle.cabinet_text_grammar.specs.Answering.{change}
use Rattle.cabinet_text_grammar.proofs.Changes.{change_keeps_document}
use Rattle.cabinet_documents.specs.Node.{node_names, node_shape, own_bytes}
use Rattle.cabinet_documents.specs.Laws.{payload_of, EditKeepsImage}
use Rattle.cabinet_documents.proofs.Changing.{leaf_put_law}
use Rattle.cabinet_documents.proofs.Places.{node_behind}
use Rattle.cabinet_documents.proofs.OwnWritten.{text_bytes, own_within, IsFixed, fixed_truth, fixed_number, leaf_written, inline_written, LeafWrites, InlineWrites, FarWrites, by_own}
use Rattle.cabinet_documents.proofs.EditKept.{node_is, payload_is, edited_root}
use Rattle.cabinet_documents.proofs.Standing.{sound_walk}
use Rattle.cabinet_documents.proofs.Leading.{ToLeaf}
use Rattle.cabinet_documents.proofs.Avoiding.{avoids, clean_at}

-- ---- the bytes with another leaf

overwritten_bytes : (bytes piece : List ℕ) (start : ℕ) → AreBytes bytes → AreBytes piece → AreBytes (overwrite bytes start piece)
overwritten_bytes bytes piece start small own =
    let before = window_bytes bytes 0 start small in
    let behind = λ (i : ℕ). subst (λ m. m < 256) (sym (get_or-drop (start + length piece) bytes i 0)) (small (start + length piece + i)) in
    (small_append (record { each = before }) (small_append (record { each = own }) (record { each = behind }))).each

byte_behind : (bytes piece : List ℕ) (start i : ℕ) → start + length piece ≤ length bytes → start + length piece ≤ i → slice_index (overwrite bytes start piece) i ≡ slice_index bytes i
byte_behind bytes piece start i h k = grind (arith, places)

-- a truth value and a number are fields
fixed_field : (s : Shape) → IsFixed s → field_size s ≡ size_of s
fixed_field s (fixed_truth e) = subst (λ x. field_size x ≡ size_of x) (sym e) refl
fixed_field s (fixed_number e) = subst (λ x. field_size x ≡ size_of x) (sym e) refl

fixed_filled : (bytes : List ℕ) (pos : ℕ) (s : Shape) (c : Content) → IsFixed s → IsFilled bytes (at pos s) c
fixed_filled bytes pos s c (fixed_truth e) = subst (λ x. IsFilled bytes (at pos x) c) (sym e) tt
fixed_filled bytes pos s c (fixed_number e) = subst (λ x. IsFilled bytes (at pos x) c) (sym e) tt

-- ---- the archive with another leaf

module _ (fit : Fit) (bytes : List ℕ) (pos : ℕ) (v : Value) (regions : List Region) (visits : List Visit) (path : List ℕ)
    (canonical : CanonicalArchive fit node_names bytes 0 pos node_shape v regions visits) (way : ToLeaf v path) where
  abbrev Kept : ℕ → List ℕ → Value → Type 0
  Kept start piece new = CanonicalArchive fit node_names (overwrite bytes start piece) 0 pos node_shape (put_at path new v) regions visits

  -- a truth value or a number
  leaf_kept : LeafWrites bytes pos v path Kept
  unfolding made
  leaf_kept s fixed piece start old new l stands was size room reads small =
      let others : List ℕ = overwrite bytes start piece in
      let written = leaf_written bytes s piece start new size room reads in
      let is = written.is in
      let field = fixed_field s fixed in
      let filled = fixed_filled others start s (plain (leaf_label new) []) fixed in
      canonical_edit_of_leaf_law fit node_names bytes others 0 pos node_shape v regions visits path start s old new l (leaf_label new) canonical stands
      (avoids bytes stands node_behind pos refl way)
      written.spares
      was
      is
      tt
      refl
      (clean_by node_names others (at start s) (plain (leaf_label new) []) is (λ i o. inl (subst (λ n. (start ≤ i) × (i < start + n)) (sym field) o)) filled)
      (overwritten_bytes bytes piece start canonical.bytes_are small)

  -- a text inline, which is filled with ff
  inline_kept : InlineWrites bytes pos v path Kept
  unfolding made
  inline_kept t start s old stands was size room utf8 =
      let others : List ℕ = overwrite bytes start t in
      let written_there = inline_written bytes t start s was size room utf8 in
      let is = written_there.is in
      let clean = clean_at fit node_names bytes 0 canonical.root.holds canonical.canonical refl stands in
      let was_filled : IsFilled bytes (at start text_shape) (plain (written s) []) = subst (IsFilled bytes (at start text_shape)) was clean.filled in
      canonical_edit_of_leaf_law fit node_names bytes others 0 pos node_shape v regions visits path start text_shape old (string t) (written s) (written t) canonical stands
      (avoids bytes stands node_behind pos refl way)
      written_there.spares
      was
      is
      utf8
      refl
      (clean_by node_names others (at start text_shape) (plain (written t) []) is (λ i o. inl o)
      (λ i low high.
      window_byte others start 8 i high ∙ byte_behind bytes t start (start + i) room (omega (arith, low)) ∙ sym (window_byte bytes start 8 i high) ∙ was_filled i (omega (arith, low, size)) high))
      (overwritten_bytes bytes t start canonical.bytes_are (text_bytes t utf8))

  -- a text out of line
  far_kept : FarWrites bytes pos v path Kept
  far_kept t start old stands room utf8 =
      let written = overwrite_spares_law bytes start t room in
      let others : List ℕ = overwrite bytes start t in
      subst (λ u. CanonicalArchive fit node_names others 0 pos node_shape (put_at path (string u) v) regions visits) written.stands
      (canonical_edit_of_text_law fit node_names bytes others 0 pos node_shape v regions visits path start (length t) old canonical stands
      (avoids bytes stands node_behind pos refl way)
      written.spares
      (subst IsUtf8 (sym written.stands) utf8)
      (overwritten_bytes bytes t start canonical.bytes_are (text_bytes t utf8)))

pub edit_keeps_image_law : EditKeepsImage
edit_keeps_image_law bytes t path new start i legal done o =
    let a = i.accepted in
    let pos = root_position (length bytes) node_shape in
    let fit = first_fit text_hash in
    let inner = o.inner ++ 0 ∷ [] in
    let room = own_within bytes pos a.value a.regions a.visits inner a.root o.stands o.own in
    let others = overwrite bytes start (own_bytes new) in
    let size : length others ≡ length bytes = length-overwrite bytes start (own_bytes new) room in
    let stands = subst (λ x. StandsInRoot node_names bytes pos node_shape a.value inner o.part x) (payload_is bytes done.old a o done.there) o.stands in
    let value = put_at inner (payload_of new) a.value in
    let node = node_is done.old o.leads a.document a.denotes done.there in
    let way : ToLeaf a.value inner = record { steps = path; inner = o.inner; node = o.node; leads = o.leads; leaf = done.old; is_leaf = node; is = refl } in
    let fixed = leaf_kept fit bytes pos a.value a.regions a.visits inner i.canonical way in
    let inline = inline_kept fit bytes pos a.value a.regions a.visits inner i.canonical way in
    let far = far_kept fit bytes pos a.value a.regions a.visits inner i.canonical way in
    let kept = by_own bytes pos a.value a.regions a.visits inner i.canonical.root (Kept fit bytes pos a.value a.regions a.visits inner i.canonical way) fixed inline far done.old new stands o.own refl done.fitting legal in
    let canonical = subst (λ n. CanonicalArchive fit node_names others 0 (root_position n node_shape) node_shape value a.regions a.visits) (sym size) kept in
    let denotes = leaf_put_law a.value o.node t path o.inner new o.leads a.document a.denotes done in
    let document = change_keeps_document t path new a.document legal in
    let tables = (edited_root a done o legal).tables in
    let walk = sound_walk others (change t path new) value a.regions a.visits canonical.root denotes document tables in
    record {
      accepted = record {
        value = value;
        regions = a.regions;
        visits = a.visits;
        root = canonical.root;
        denotes = denotes;
        document = document;
        walk = walk.walk;
        walked = walk.walked;
        sound = walk.sound;
      };
      canonical = canonical;
      low = i.low;
    }
