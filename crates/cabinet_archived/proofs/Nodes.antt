-- The node by its tag: what it is checked as, and what lies in it.
use Rattle.std.proofs.Common.{◌≡◌, ℕ, zero, suc, ◌+◌, ◌≤◌, ◌<◌, List, slice_index, Some, None, Err, Result, ◌⊎◌, inl, inr, refl, sym, subst, arith}
use Rattle.archive_shape_layout.specs.Bytes.{align_up}
use Rattle.archive_shape_layout.specs.Shape.{Shape, align_of, size_of}
use Rattle.archive_shape_layout.specs.Shape.Alignment.{eight}
use Rattle.archive_shape_layout.specs.Shape.Shape.{choice}
use Rattle.archive_shape_layout.specs.Value.{Value}
use Rattle.archive_shape_layout.specs.Content.{Names, shape_tagged}
use Rattle.archive_shape_layout.specs.Content.Part.{at}
use Rattle.archive_shape.specs.Kept.{Kept}
use Rattle.archive_shape.specs.Checks.{Checks}
use Rattle.archive_shape_layout.specs.declared.error.Error.{Error}
use Rattle.archive_shape_layout.specs.declared.error.Error.TheVariants.{InvalidTag}
use Rattle.archive_shape.specs.Key.{HeldAt}
use Rattle.archive_forms_laws.proofs.Sizes.{behind_tag}
use Rattle.archive_forms_values.proofs.Contents.{named_checked}
use Rattle.archive_forms_values.proofs.Tagged.{choice_checked, untagged_refused}
use Rattle.archive_forms_values.specs.Parts.{HasValue, HasPayload}
use Rattle.archive_forms_values.proofs.Named.{named_held}
use Rattle.archive_forms_values.proofs.Payloads.{choice_has, choice_at}
use Rattle.cabinet_documents.specs.Node.{node_shape, payloads, KnowsNode}
use Rattle.cabinet_archived.specs.Kind.{IsTagged}

node_sized : size_of (choice payloads) ≡ 24
unfolding align_up
node_sized = refl

-- none of the tags of the kinds before a whole
abbrev pub IsOther : ℕ → Type 0
IsOther n = (n ≡ 0 → ⊥) × (n ≡ 1 → ⊥) × (n ≡ 2 → ⊥) × (n ≡ 3 → ⊥) × (n ≡ 4 → ⊥) × (n ≡ 5 → ⊥) × (n ≡ 6 → ⊥) × (n ≡ 7 → ⊥) × (n ≡ 8 → ⊥)

-- such a tag is that of a whole, or it names none
others : (n : ℕ) → IsOther n → (n ≡ 9) ⊎ (shape_tagged n payloads ≡ None)
others zero h = absurd (h.0 refl)
others (suc zero) h = absurd (h.1 refl)
others (suc (suc zero)) h = absurd (h.2 refl)
others (suc (suc (suc zero))) h = absurd (h.3 refl)
others (suc (suc (suc (suc zero)))) h = absurd (h.4 refl)
others (suc (suc (suc (suc (suc zero))))) h = absurd (h.5 refl)
others (suc (suc (suc (suc (suc (suc zero)))))) h = absurd (h.6 refl)
others (suc (suc (suc (suc (suc (suc (suc zero))))))) h = absurd (h.7 refl)
others (suc (suc (suc (suc (suc (suc (suc (suc zero)))))))) h = absurd (h.8 refl)
others (suc (suc (suc (suc (suc (suc (suc (suc (suc zero))))))))) h = inl refl
others (suc (suc (suc (suc (suc (suc (suc (suc (suc (suc n)))))))))) h = inr refl

module _ (names : Names) (bytes : List ℕ) where
  -- ---- the check

  module _ (pos : ℕ) (known : KnowsNode names) (k l : Kept) where
    as_enum : (r : Result (Unit {0}) Error) → Checks names bytes (at pos (choice payloads)) k r l → Checks names bytes (at pos node_shape) k r l
    as_enum r h = named_checked (choice payloads) 0 24 eight node_sized refl names bytes pos k l r known h

    -- the check of a node is that of its payload
    pub payload_checked :
        (tag : ℕ) (s : Shape) (r : Result (Unit {0}) Error)
        → slice_index bytes pos ≡ tag
        → shape_tagged tag payloads ≡ Some s
        → 0 < align_of s
        → Checks names bytes (at (pos + align_of s) s) k r l
        → Checks names bytes (at pos node_shape) k r l
    payload_checked tag s r tag_is payload some h =
        as_enum r (choice_checked names bytes pos payloads tag s (align_of s) tag_is payload (behind_tag (align_of s) some) k l r h)

    -- tags of no kind are refused
    pub other_refused : IsOther (slice_index bytes pos) → (slice_index bytes pos ≡ 9 → ⊥) → Checks names bytes (at pos node_shape) k (Err InvalidTag) l
    other_refused other no_whole = by (others (slice_index bytes pos) other)
      where
        by : (slice_index bytes pos ≡ 9) ⊎ (shape_tagged (slice_index bytes pos) payloads ≡ None) → Checks names bytes (at pos node_shape) k (Err InvalidTag) l
        by (inl e) = absurd (no_whole e)
        by (inr e) = as_enum (Err InvalidTag) (untagged_refused names bytes pos payloads k l e)

-- ---- reading

module _ (bytes : List ℕ) (pos : ℕ) where
  module _ (v : Value) (h : HeldAt node_shape KnowsNode bytes pos v) where
    enum_held : HeldAt (choice payloads) KnowsNode bytes pos v
    enum_held = named_held (choice payloads) 0 24 eight node_sized refl KnowsNode (λ names known. known) bytes pos v h

    payload_at :
        (tag : ℕ) (s : Shape) (knows : Names → Type 0)
        → slice_index bytes pos ≡ tag
        → shape_tagged tag payloads ≡ Some s
        → 0 < align_of s
        → align_of s + size_of s ≤ 24
        → ((names : Names) → KnowsNode names → knows names)
        → HasPayload tag s knows bytes (pos + align_of s) v
    payload_at tag s knows tag_is payload some fits known =
        choice_at payloads KnowsNode bytes pos v enum_held tag s (align_of s) knows tag_is payload (behind_tag (align_of s) some) (omega (arith, fits, node_sized)) known

  module _ (there : HasValue node_shape KnowsNode bytes pos) where
    -- where a node has some value, the payload that its tag names lies after the tag
    pub tagged_at :
        (tag : ℕ) (s : Shape) (knows : Names → Type 0) (to : ℕ)
        → to ≡ pos + align_of s
        → slice_index bytes pos ≡ tag
        → shape_tagged tag payloads ≡ Some s
        → 0 < align_of s
        → align_of s + size_of s ≤ 24
        → ((names : Names) → KnowsNode names → knows names)
        → IsTagged bytes pos tag s knows to
    tagged_at tag s knows to behind tag_is payload some fits known =
        let all : (v : Value) → HeldAt node_shape KnowsNode bytes pos v → HasPayload tag s knows bytes to v =
        λ v h. subst (λ p. HasPayload tag s knows bytes p v) (sym behind) (payload_at v h tag s knows tag_is payload some fits known) in
        let one = all there.value there.held in
        record { there = record { value = one.payload; held = one.held }; payload = all }

    -- and a tag that is none of the others is that of a whole
    pub is_whole : IsOther (slice_index bytes pos) → slice_index bytes pos ≡ 9
    is_whole other = by (others (slice_index bytes pos) other)
      where
        by : (slice_index bytes pos ≡ 9) ⊎ (shape_tagged (slice_index bytes pos) payloads ≡ None) → slice_index bytes pos ≡ 9
        by (inl e) = e
        by (inr e) = absurd (choice_has payloads KnowsNode bytes pos there.value (enum_held there.value there.held) e)
