-- The keys that a question about a node asks for, by the node's value.
use Rattle.std.proofs.Common.{◌≡◌, ℕ, Bor, List, ◌∷◌, refl, sym, ap, ◌∙◌, arith}
use Rattle.std.specs.List.{filter}
use Rattle.archive_shape_layout.specs.Value.{Value, Values}
use Rattle.archive_shape_layout.specs.Shape.{Shape}
use Rattle.archive_shape_layout.specs.Content.{Names, members}
use Rattle.cabinet_text_grammar.specs.Tree.{Tree, Pairs}
use Rattle.cabinet_text_grammar.specs.Answering.{keys_in, keys_are, keys_of, keys_within, lies_within, wrong}
use Rattle.cabinet_documents.specs.Denotes.{Denotes, DenotePairs, tagged_value}
use Rattle.cabinet_documents.specs.Denotes.Denotes.{denotes_truth, denotes_number, denotes_text, denotes_shared, denotes_nothing, denotes_some, denotes_list, denotes_ordered, denotes_hashed, denotes_kept, denotes_whole}
use Rattle.cabinet_documents.specs.Denotes.DenotePairs.{denote_no_pairs, denote_pair}
use Rattle.cabinet_documents.specs.Table.{item_keys}
use Rattle.cabinet_archived.specs.Kind.{IsTagged, IsKindAt}
use Rattle.cabinet_archived.specs.declared.kind.ArchivedKind.{ArchivedKind}
use Rattle.cabinet_archived.specs.declared.kind.ArchivedKind.TheVariants as kind
use Rattle.cabinet_archives.specs.Found.{OfDocument}
use Rattle.cabinet_archives.proofs.Stepping.{map_by}

-- ---- of an ordered and of a kept map

pair_keys : {vs : Values} {ps : Pairs} → DenotePairs vs ps → keys_in ps ≡ item_keys vs
pair_keys (denote_no_pairs e f) = ap keys_in f ∙ sym (ap item_keys e)
pair_keys (denote_pair {k = k} e f d ds) = ap keys_in f ∙ ap (λ ks. k ∷ ks) (pair_keys ds) ∙ sym (ap item_keys e)

module _ {v w : Value} {t : Tree} where
  pub ordered_keys : v ≡ tagged_value 6 w → Denotes v t → keys_of t ≡ keys_are (item_keys (members w))
  ordered_keys e d = let o = map_by e (omega arith) (omega arith) d in ap keys_of o.is ∙ ap keys_are (pair_keys o.denotes)

  pub ordered_range : v ≡ tagged_value 6 w → Denotes v t → (low high : List ℕ) → keys_within low high t ≡ keys_are (filter (lies_within low high) (item_keys (members w)))
  ordered_range e d low high = let o = map_by e (omega arith) (omega arith) d in ap (keys_within low high) o.is ∙ ap (λ ks. keys_are (filter (lies_within low high) ks)) (pair_keys o.denotes)

  pub kept_keys : v ≡ tagged_value 8 w → Denotes v t → keys_of t ≡ keys_are (item_keys (members w))
  kept_keys e d = let o = map_by e (omega arith) (omega arith) d in ap keys_of o.is ∙ ap keys_are (pair_keys o.denotes)

-- ---- of other nodes

abbrev pub HasNoKeys : Tree → Type 0
HasNoKeys t = keys_of t ≡ wrong

abbrev pub HasNoRange : Tree → Type 0
HasNoRange t = (low high : List ℕ) → keys_within low high t ≡ wrong

no_range : {v w : Value} {t : Tree} {tag : ℕ} → v ≡ tagged_value tag w → (tag ≡ 6 → ⊥) → Denotes v t → HasNoRange t
no_range e other (denotes_truth f g) low high = ap (keys_within low high) g
no_range e other (denotes_number f g) low high = ap (keys_within low high) g
no_range e other (denotes_text f g) low high = ap (keys_within low high) g
no_range e other (denotes_shared f g) low high = ap (keys_within low high) g
no_range e other (denotes_nothing f g) low high = ap (keys_within low high) g
no_range e other (denotes_some f g d) low high = ap (keys_within low high) g
no_range e other (denotes_list f g d) low high = ap (keys_within low high) g
no_range {tag = tag} e other (denotes_ordered f g d) low high = let n : tag ≡ 6 = cc in absurd (other n)
no_range e other (denotes_hashed f g d) low high = ap (keys_within low high) g
no_range e other (denotes_kept f g d) low high = ap (keys_within low high) g
no_range e other (denotes_whole f g d) low high = ap (keys_within low high) g

no_keys : {v w : Value} {t : Tree} {tag : ℕ} → v ≡ tagged_value tag w → (tag ≡ 6 → ⊥) → (tag ≡ 8 → ⊥) → Denotes v t → HasNoKeys t
no_keys e other unkept (denotes_truth f g) = ap keys_of g
no_keys e other unkept (denotes_number f g) = ap keys_of g
no_keys e other unkept (denotes_text f g) = ap keys_of g
no_keys e other unkept (denotes_shared f g) = ap keys_of g
no_keys e other unkept (denotes_nothing f g) = ap keys_of g
no_keys e other unkept (denotes_some f g d) = ap keys_of g
no_keys e other unkept (denotes_list f g d) = ap keys_of g
no_keys {tag = tag} e other unkept (denotes_ordered f g d) = let n : tag ≡ 6 = cc in absurd (other n)
no_keys e other unkept (denotes_hashed f g d) = ap keys_of g
no_keys {tag = tag} e other unkept (denotes_kept f g d) = let n : tag ≡ 8 = cc in absurd (unkept n)
no_keys e other unkept (denotes_whole f g d) = ap keys_of g

module _ (bytes : Bor (List ℕ)) (pos : ℕ) where
  abbrev IsOther : ℕ → Type 0
  IsOther tag = (tag ≡ 6 → ⊥) × (tag ≡ 8 → ⊥)

  unordered : (tag : ℕ) {s : Shape} {knows : Names → Type 0} {to : ℕ} → (tag ≡ 6 → ⊥) → IsTagged bytes.now pos tag s knows to → OfDocument bytes.now pos HasNoRange
  unordered tag other tagged = λ v t h d. let p = tagged.payload v h in no_range p.is other d

  keyless : (tag : ℕ) {s : Shape} {knows : Names → Type 0} {to : ℕ} → IsOther tag → IsTagged bytes.now pos tag s knows to → OfDocument bytes.now pos HasNoKeys
  keyless tag other tagged = λ v t h d. let p = tagged.payload v h in no_keys p.is other.0 other.1 d

  pub keyless_kind : (k : ArchivedKind) → IsKindAt bytes pos k → ((r : _) → k ≡ kind.Ordered r → ⊥) → ((r : _) → k ≡ kind.Kept r → ⊥) → OfDocument bytes.now pos HasNoKeys
  keyless_kind (kind.Bool r) is other unkept = keyless 0 (λ e. absurd (omega (arith, e)), λ e. absurd (omega (arith, e))) is.2
  keyless_kind (kind.Int r) is other unkept = keyless 1 (λ e. absurd (omega (arith, e)), λ e. absurd (omega (arith, e))) is.2
  keyless_kind (kind.Text r) is other unkept = keyless 2 (λ e. absurd (omega (arith, e)), λ e. absurd (omega (arith, e))) is.2
  keyless_kind (kind.Shared r) is other unkept = keyless 3 (λ e. absurd (omega (arith, e)), λ e. absurd (omega (arith, e))) is.2
  keyless_kind (kind.Maybe r) is other unkept = keyless 4 (λ e. absurd (omega (arith, e)), λ e. absurd (omega (arith, e))) is.2
  keyless_kind (kind.List r) is other unkept = keyless 5 (λ e. absurd (omega (arith, e)), λ e. absurd (omega (arith, e))) is.2
  keyless_kind (kind.Ordered r) is other unkept = absurd (other r refl)
  keyless_kind (kind.Hashed r) is other unkept = keyless 7 (λ e. absurd (omega (arith, e)), λ e. absurd (omega (arith, e))) is.2
  keyless_kind (kind.Kept r) is other unkept = absurd (unkept r refl)
  keyless_kind (kind.Whole r) is other unkept = keyless 9 (λ e. absurd (omega (arith, e)), λ e. absurd (omega (arith, e))) is.2

  pub rangeless_kind : (k : ArchivedKind) → IsKindAt bytes pos k → ((r : _) → k ≡ kind.Ordered r → ⊥) → OfDocument bytes.now pos HasNoRange
  rangeless_kind (kind.Bool r) is other = unordered 0 (λ e. absurd (omega (arith, e))) is.2
  rangeless_kind (kind.Int r) is other = unordered 1 (λ e. absurd (omega (arith, e))) is.2
  rangeless_kind (kind.Text r) is other = unordered 2 (λ e. absurd (omega (arith, e))) is.2
  rangeless_kind (kind.Shared r) is other = unordered 3 (λ e. absurd (omega (arith, e))) is.2
  rangeless_kind (kind.Maybe r) is other = unordered 4 (λ e. absurd (omega (arith, e))) is.2
  rangeless_kind (kind.List r) is other = unordered 5 (λ e. absurd (omega (arith, e))) is.2
  rangeless_kind (kind.Ordered r) is other = absurd (other r refl)
  rangeless_kind (kind.Hashed r) is other = unordered 7 (λ e. absurd (omega (arith, e))) is.2
  rangeless_kind (kind.Kept r) is other = unordered 8 (λ e. absurd (omega (arith, e))) is.2
  rangeless_kind (kind.Whole r) is other = unordered 9 (λ e. absurd (omega (arith, e))) is.2
