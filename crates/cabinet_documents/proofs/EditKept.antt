-- Writing a leaf over own bytes keeps the bytes an archive of a document.
use Rattle.std.proofs.Common.{◌≡◌, ℕ, List, [], ◌∷◌, ◌++◌, length, Option, Some, true, IsUtf8, refl, sym, ap, subst, ◌∙◌}
use Rattle.archive_shape_layout.specs.Shape.{Shape}
use Rattle.archive_shape_layout.specs.Shape.Shape.{text as text_shape}
use Rattle.archive_shape_layout.specs.Shape.Pointee.{sized}
use Rattle.archive_shape_layout.specs.Value.{Value}
use Rattle.archive_shape_layout.specs.Value.Value.{string}
use Rattle.archive_shape_layout.specs.Content.{Part, made}
use Rattle.archive_shape_layout.specs.Content.Part.{at, behind}
use Rattle.archive_shape_layout.specs.Content.Label.{written, leaf as leaf_label}
use Rattle.archive_shape_layout.specs.Holds.{Region, Visit, Ascends, HasRoot, root_position}
use Rattle.archive_shape_layout.specs.Path.{put_at, value_at, and_then}
use Rattle.archive_shape_layout.proofs.Stood.{stands_value}
use Rattle.archive_shape_canonical.specs.Laws.{AvoidsKeys}
use Rattle.archive_shape.specs.Bytes.{overwrite}
use Rattle.archive_shape.specs.Sealing.{StandsInRoot}
use Rattle.archive_shape.proofs.Written.{length-overwrite, overwrite_spares_law}
use Rattle.cabinet_text_grammar.specs.Tree.{Leaf, Tree, leaf, IsLeaf}
use Rattle.cabinet_text_grammar.specs.Wholes.{IsDocument}
use Rattle.cabinet_text_grammar.specs.Path.{Step, node_at}
use Rattle.cabinet_text_grammar.specs.Answering.{fits, change}
use Rattle.cabinet_text_grammar.proofs.Changes.{change_keeps_document}
use Rattle.cabinet_documents.specs.Node.{node_names, node_shape, own_bytes}
use Rattle.cabinet_documents.specs.Denotes.{Denotes, tagged_value}
use Rattle.cabinet_documents.specs.Done.{IsDone}
use Rattle.cabinet_documents.specs.Accepted.{Accepted}
use Rattle.cabinet_documents.specs.OwnBytes.{OwnBytes, LeadsTo, leads_here, leads_inside, leads_place, leads_key, IsOwn}
use Rattle.cabinet_documents.specs.Laws.{payload_of, EditKeepsAccepted}
use Rattle.cabinet_documents.proofs.Stops.{each_of}
use Rattle.cabinet_documents.proofs.Places.{node_behind}
use Rattle.cabinet_documents.proofs.HeldNodes.{none_seen, held}
use Rattle.cabinet_documents.proofs.Walkable.{walk_stands_law}
use Rattle.cabinet_documents.proofs.TableSound.{IsTableSound, MapSounds, sound_tables}
use Rattle.cabinet_documents.proofs.HeldTables.{TablesSound, OtherTables}
use Rattle.cabinet_documents.proofs.TableEdits.{leaf_edited, text_edited}
use Rattle.cabinet_documents.proofs.WalkedTables.{root_matches}
use Rattle.cabinet_documents.proofs.Changing.{reaches, leaf_put_law}
use Rattle.cabinet_documents.proofs.Known.{leaf_tag, LeafValue, leaf_value}
use Rattle.cabinet_documents.proofs.Leading.{ToLeaf}
use Rattle.cabinet_documents.proofs.Avoiding.{avoids}
use Rattle.cabinet_documents.proofs.OwnWritten.{own_within, IsFixed, fixed_truth, fixed_number, leaf_written, inline_written, LeafWrites, InlineWrites, FarWrites, by_own}
use Rattle.cabinet_documents.proofs.Standing.{HasTablesWalk, accepted_by}

-- the value at the payload's place
leads_value : {v w : Value} {path : List Step} {inner : List ℕ} (tag : ℕ) (x : Value) → LeadsTo v path inner w → w ≡ tagged_value tag x → value_at (inner ++ 0 ∷ []) v ≡ Some x
leads_value {v = v} tag x (leads_here e f g) h = ap (λ p. value_at (p ++ 0 ∷ []) v) g ∙ ap (value_at (0 ∷ [])) (e ∙ h)
leads_value {v = v} {inner = inner} tag x (leads_inside {more = more} e f g l) h =
    ap (λ p. value_at (p ++ 0 ∷ []) v) g ∙ ap (value_at (0 ∷ (0 ∷ (more ++ 0 ∷ [])))) e ∙ leads_value tag x l h
leads_value {v = v} tag x (leads_place {i = i} {more = more} e there f g l) h =
    ap (λ p. value_at (p ++ 0 ∷ []) v) g ∙ ap (value_at (0 ∷ (i ∷ (more ++ 0 ∷ [])))) e ∙ ap (λ o. and_then o (λ u. value_at (more ++ 0 ∷ []) u)) there ∙ leads_value tag x l h
leads_value {v = v} tag x (leads_key {i = i} {more = more} e high there f g l) h =
    ap (λ p. value_at (p ++ 0 ∷ []) v) g ∙ ap (value_at (0 ∷ (i ∷ (1 ∷ (more ++ 0 ∷ []))))) e ∙ ap (λ o. and_then o (λ u. value_at (1 ∷ (more ++ 0 ∷ [])) u)) there ∙ leads_value tag x l h

-- where a path leads to a leaf, the node there has its value
pub node_is : {v w : Value} {t : Tree} {path : List Step} {inner : List ℕ} (old : Leaf) → LeadsTo v path inner w → IsDocument t → Denotes v t → node_at t path ≡ Some (leaf old) → LeafValue w old
node_is {w = w} {t = t} old l document d there = leaf_value (reaches w (leaf old) l t document.0 d there).there old refl

pub payload_is : (bytes : List ℕ) {t : Tree} {path : List Step} (old : Leaf) {start size : ℕ} (a : Accepted bytes t) (o : OwnBytes bytes a.value path start size) → node_at t path ≡ Some (leaf old) → o.payload ≡ payload_of old
payload_is bytes {t = t} {path = path} old a o there =
    let node = node_is old o.leads a.document a.denotes there in
    let one = leads_value (leaf_tag old) (payload_of old) o.leads node in
    let two = stands_value node_names bytes o.part o.payload o.stands in
    let both : ◌≡◌ {A = Option Value} (Some o.payload) (Some (payload_of old)) = sym two ∙ one in
    cc

-- ---- the tables of the bytes with another leaf

pub accepted_tables : {bytes : List ℕ} {t : Tree} (a : Accepted bytes t) → TablesSound a.root.holds
accepted_tables {bytes = bytes} a =
    (root_matches bytes a.root a.walked).from
    (sound_tables bytes a.walk (each_of (MapSounds bytes) a.walk (λ s c. (a.sound s c).1)))

module _ (bytes : List ℕ) (v : Value) (regions : List Region) (visits : List Visit) (path : List ℕ) (pos : ℕ)
    (root : HasRoot node_names bytes pos node_shape v regions visits) (sound : TablesSound root.holds) (way : ToLeaf v path) where
  abbrev Kept : ℕ → List ℕ → Value → Type 0
  Kept start piece new = OtherTables bytes (overwrite bytes start piece) node_names 0 [] (behind pos (sized node_shape) 1) (put_at path new v) regions [] visits

  abbrev Free : {part : Part} {payload : Value} → StandsInRoot node_names bytes pos node_shape v path part payload → Type 0
  Free stands = AvoidsKeys stands

  free : {part : Part} {payload : Value} (stands : StandsInRoot node_names bytes pos node_shape v path part payload) → Free stands
  free stands = avoids bytes stands node_behind pos refl way

  fixed_sound : (others : List ℕ) (start : ℕ) (s : Shape) (new : Value) → IsFixed s → IsTableSound others (at start s) new
  fixed_sound others start s new (fixed_truth e) = subst (λ x. IsTableSound others (at start x) new) (sym e) tt
  fixed_sound others start s new (fixed_number e) = subst (λ x. IsTableSound others (at start x) new) (sym e) tt

  fixed_kept : LeafWrites bytes pos v path Kept
  unfolding made
  fixed_kept s fixed piece start old new l stands was size room reads small =
      let others : List ℕ = overwrite bytes start piece in
      let there = leaf_written bytes s piece start new size room reads in
      leaf_edited node_names bytes others pos node_shape v regions visits path root sound start s old new l (leaf_label new) stands (free stands) there.spares was there.is tt refl (fixed_sound others start s new fixed)

  inline_kept : InlineWrites bytes pos v path Kept
  unfolding made
  inline_kept t start s old stands was size room utf8 =
      let others : List ℕ = overwrite bytes start t in
      let there = inline_written bytes t start s was size room utf8 in
      leaf_edited node_names bytes others pos node_shape v regions visits path root sound start text_shape old (string t) (written s) (written t) stands (free stands) there.spares was there.is utf8 refl tt

  far_kept : FarWrites bytes pos v path Kept
  far_kept t start old stands room utf8 =
      let others : List ℕ = overwrite bytes start t in
      let there = overwrite_spares_law bytes start t room in
      subst (λ u. OtherTables bytes others node_names 0 [] (behind pos (sized node_shape) 1) (put_at path (string u) v) regions [] visits) there.stands
      (text_edited node_names bytes others pos node_shape v regions visits path root sound start (length t) old stands (free stands) there.spares (subst IsUtf8 (sym there.stands) utf8))

  pub tables_kept : {part : Part} {start size : ℕ} (old new : Leaf) → StandsInRoot node_names bytes pos node_shape v path part (payload_of old) → IsOwn bytes start size part
      → size ≡ length (own_bytes new) → fits old new ≡ true → IsLeaf new → Kept start (own_bytes new) (payload_of new)
  tables_kept = by_own bytes pos v regions visits path root Kept fixed_kept inline_kept far_kept

-- a root where it is in bytes of a length, whose tables are sound
record SoundRoot (others : List ℕ) (v : Value) (regions : List Region) (visits : List Visit) (n : ℕ) : Type 0 where
  root : HasRoot node_names others (root_position n node_shape) node_shape v regions visits
  sound : TablesSound root.holds

-- where an edit is done, the root of the other bytes, and a walk of it in which each table is sound
pub record EditedRoot (others : List ℕ) (v : Value) (regions : List Region) (visits : List Visit) : Type 0 where
  pub root : HasRoot node_names others (root_position (length others) node_shape) node_shape v regions visits
  pub tables : HasTablesWalk others v

pub edited_root : {bytes : List ℕ} {t : Tree} {path : List Step} {new : Leaf} {start : ℕ} (a : Accepted bytes t) → IsDone t path new → (o : OwnBytes bytes a.value path start (length (own_bytes new))) → IsLeaf new
    → EditedRoot (overwrite bytes start (own_bytes new)) (put_at (o.inner ++ 0 ∷ []) (payload_of new) a.value) a.regions a.visits
edited_root {bytes = bytes} {t = t} {path = path} {new = new} {start = start} a done o legal =
    let pos = root_position (length bytes) node_shape in
    let inner = o.inner ++ 0 ∷ [] in
    let value = put_at inner (payload_of new) a.value in
    let room = own_within bytes pos a.value a.regions a.visits inner a.root o.stands o.own in
    let others = overwrite bytes start (own_bytes new) in
    let size : length others ≡ length bytes = length-overwrite bytes start (own_bytes new) room in
    let stands = subst (λ x. StandsInRoot node_names bytes pos node_shape a.value inner o.part x) (payload_is bytes done.old a o done.there) o.stands in
    let node = node_is done.old o.leads a.document a.denotes done.there in
    let way : ToLeaf a.value inner = record { steps = path; inner = o.inner; node = o.node; leads = o.leads; leaf = done.old; is_leaf = node; is = refl } in
    let kept = tables_kept bytes a.value a.regions a.visits inner pos a.root (accepted_tables a) way done.old new stands o.own refl done.fitting legal in
    let ascends = subst (λ n. Ascends 0 n a.regions) (sym size) a.root.ascends in
    let r : SoundRoot others value a.regions a.visits (length others) = subst (SoundRoot others value a.regions a.visits) (sym size) (record { root = record { holds = kept.holds; ascends = ascends }; sound = kept.sound }) in
    let there = root_position (length others) node_shape in
    let acyclic = (held others r.root.holds node_behind there refl (none_seen others)).acyclic in
    let w = walk_stands_law node_names others 0 there node_shape value a.regions a.visits r.root acyclic in
    record { root = r.root; tables = record { walk = w.walk; walked = w.walked; sound = (root_matches others r.root w.walked).to r.sound } }

pub edit_keeps_accepted_law : EditKeepsAccepted
edit_keeps_accepted_law bytes t path new start a legal done o =
    let inner = o.inner ++ 0 ∷ [] in
    let e = edited_root a done o legal in
    accepted_by (overwrite bytes start (own_bytes new)) (change t path new) (put_at inner (payload_of new) a.value) a.regions a.visits
    e.root
    (leaf_put_law a.value o.node t path o.inner new o.leads a.document a.denotes done)
    (change_keeps_document t path new a.document legal)
    e.tables
