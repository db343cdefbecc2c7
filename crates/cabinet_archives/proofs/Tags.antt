-- The tag of a node is the byte at its position.
use Rattle.std.proofs.Common.{◌≡◌, ◌∙◌, ℕ, zero, suc, ◌+◌, ◌<◌, ◌≤◌, ◌↔◌, IsTrue, Bor, List, slice_index, refl, sym, ap, subst, arith}
use Rattle.std.specs.Prelude.{true, false, ⊤}
use Rattle.std.specs.Int.{w64}
use Rattle.archive_shape_layout.specs.Shape.{Shape}
use Rattle.archive_shape_layout.specs.Shape.Shape.{number, truth, text, shared, option, box, vector}
use Rattle.archive_shape_layout.specs.Shape.Pointee.{sized, str}
use Rattle.archive_shape_layout.specs.Value.{Value}
use Rattle.archive_shape_layout.specs.Content.{Names}
use Rattle.archive_forms_values.specs.Parts.{HasValue}
use Rattle.archive_forms_laws.proofs.Levels.{option_box_sized}
use Rattle.cabinet_documents.specs.Node.{node_shape, KnowsNode, whole_shape}
use Rattle.cabinet_documents.specs.Denotes.{tagged_value}
use Rattle.cabinet_archived.specs.Kind.{IsTagged, IsKindAt}
use Rattle.cabinet_archived.specs.declared.kind.ArchivedKind.{ArchivedKind}
use Rattle.cabinet_archived.proofs.Nodes.{tagged_at, is_whole}
use Rattle.cabinet_archives.specs.Keyed.{knows_pairs}
use Rattle.cabinet_archives.specs.Hashed.{table_shape}
use Rattle.cabinet_archives.specs.Kept.{index_shape}
use Rattle.cabinet_archives.specs.Ordered.{map_shape}

module _ (bytes : List ℕ) (pos : ℕ) (there : HasValue node_shape KnowsNode bytes pos) where
  abbrev HasTag : Type 0
  HasTag = (w : Value) × (there.value ≡ tagged_value (slice_index bytes pos) w)

  of_kind : (tag : ℕ) (s : Shape) (knows : Names → Type 0) (to : ℕ) → slice_index bytes pos ≡ tag → IsTagged bytes pos tag s knows to → HasTag
  of_kind tag s knows to e tagged = let p = tagged.payload there.value there.held in (p.payload, p.is ∙ ap (λ n. tagged_value n p.payload) (sym e))

  by_tag : (n : ℕ) → slice_index bytes pos ≡ n → HasTag
  by_tag zero e = of_kind 0 truth (λ _. ⊤) (pos + 1) e (tagged_at bytes pos there 0 truth (λ _. ⊤) _ refl e refl (omega arith) (omega arith) (λ names known. tt))
  by_tag (suc zero) e = of_kind 1 (number w64 true) (λ _. ⊤) (pos + 8) e (tagged_at bytes pos there 1 (number w64 true) (λ _. ⊤) _ refl e refl (omega arith) (omega arith) (λ names known. tt))
  by_tag (suc (suc zero)) e = of_kind 2 text (λ _. ⊤) (pos + 4) e (tagged_at bytes pos there 2 text (λ _. ⊤) _ refl e refl (omega arith) (omega arith) (λ names known. tt))
  by_tag (suc (suc (suc zero))) e = of_kind 3 (shared false str) (λ _. ⊤) (pos + 4) e (tagged_at bytes pos there 3 (shared false str) (λ _. ⊤) _ refl e refl (omega arith) (omega arith) (λ names known. tt))
  by_tag (suc (suc (suc (suc zero)))) e =
      of_kind 4 (option (box (sized node_shape))) KnowsNode (pos + 4) e
      (tagged_at bytes pos there 4 (option (box (sized node_shape))) KnowsNode _ refl e refl (omega arith) (omega (arith, option_box_sized node_shape)) (λ names known. known))
  by_tag (suc (suc (suc (suc (suc zero))))) e = of_kind 5 (vector node_shape) KnowsNode (pos + 4) e (tagged_at bytes pos there 5 (vector node_shape) KnowsNode _ refl e refl (omega arith) (omega arith) (λ names known. known))
  by_tag (suc (suc (suc (suc (suc (suc zero)))))) e = of_kind 6 map_shape knows_pairs (pos + 4) e (tagged_at bytes pos there 6 map_shape knows_pairs _ refl e refl (omega arith) (omega arith) (λ names known. (tt, known)))
  by_tag (suc (suc (suc (suc (suc (suc (suc zero))))))) e = of_kind 7 table_shape knows_pairs (pos + 4) e (tagged_at bytes pos there 7 table_shape knows_pairs _ refl e refl (omega arith) (omega arith) (λ names known. (tt, known)))
  by_tag (suc (suc (suc (suc (suc (suc (suc (suc zero)))))))) e = of_kind 8 index_shape knows_pairs (pos + 4) e (tagged_at bytes pos there 8 index_shape knows_pairs _ refl e refl (omega arith) (omega arith) (λ names known. (tt, known)))
  by_tag (suc (suc (suc (suc (suc (suc (suc (suc (suc n))))))))) e =
      let nine = is_whole bytes pos there (λ f. omega arith, λ f. omega arith, λ f. omega arith, λ f. omega arith, λ f. omega arith, λ f. omega arith, λ f. omega arith, λ f. omega arith, λ f. omega arith) in
      of_kind 9 whole_shape KnowsNode (pos + 4) nine (tagged_at bytes pos there 9 whole_shape KnowsNode _ refl nine refl (omega arith) (omega arith) (λ names known. known))

  -- of a node whose payload has a kind, it is the kind's
  pub tag_is : {tag : ℕ} {s : Shape} {knows : Names → Type 0} {to : ℕ} → IsTagged bytes pos tag s knows to → slice_index bytes pos ≡ tag
  tag_is tagged =
      let own = by_tag (slice_index bytes pos) refl in
      let p = tagged.payload there.value there.held in
      let same = sym own.1 ∙ p.is in
      cc

-- a reference to the payload is of the same kind as an equal one
pub kind_is : {k l : ArchivedKind} (bytes : Bor (List ℕ)) (pos : ℕ) → k ≡ l → IsKindAt bytes pos k → IsKindAt bytes pos l
kind_is bytes pos e is = subst (IsKindAt bytes pos) e is

-- a node is a leaf by its tag
module _ (bytes : List ℕ) (pos : ℕ) (there : HasValue node_shape KnowsNode bytes pos) {tag : ℕ} {s : Shape} {knows : Names → Type 0} {to : ℕ} where
  pub leaf_is : tag ≤ 3 → IsTagged bytes pos tag s knows to → IsTrue true ↔ (slice_index bytes pos ≤ 3)
  leaf_is low tagged = let is = tag_is bytes pos there tagged in (λ e. omega (arith, low, is), λ e. refl)

  pub container_is : 3 < tag → IsTagged bytes pos tag s knows to → IsTrue false ↔ (slice_index bytes pos ≤ 3)
  container_is high tagged = let is = tag_is bytes pos there tagged in (λ e. absurd (cc), λ e. absurd (omega (arith, high, is, e)))
