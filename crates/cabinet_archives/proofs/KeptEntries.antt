-- The entries of a kept map, by what reads of them return.
use Rattle.std.proofs.Common.{◌≡◌, ℕ, ◌<◌, ◌≤◌, Bor, List, Option, Some, None, MatchOption, refl, sym, ap, subst, arith}
use Rattle.std.specs.Prelude.{⊤, IsSome}
use Rattle.archive_shape_layout.specs.Shape.Shape.{text}
use Rattle.archive_shape.specs.declared.references.refs.Ref.{Ref}
use Rattle.archive_forms_laws.specs.Text.{HasText, IsText}
use Rattle.archive_forms_values.specs.Parts.{HasValue}
use Rattle.cabinet_documents.specs.Node.{node_shape, KnowsNode}
use Rattle.archive_index.specs.Lookups.{pair_of}
use Rattle.archive_index.specs.Maps.{IndexMap, count_of}
use Rattle.archive_index.proofs.Standing.{entry_key}
use Rattle.cabinet_archives.specs.Kept.{OfKept, index_shape}
use Rattle.cabinet_archives.specs.Keyed.{knows_pairs}
use Rattle.cabinet_archives.proofs.IndexLookups.{position}
use Rattle.cabinet_archives.proofs.IndexPairs.{map_of_value}
use Rattle.cabinet_archives.proofs.Payloads.{text_has}

some_of : {A : Type 0} (Q : A → Type 0) (n i : ℕ) (o : Option A) → i < n → MatchOption o (n ≤ i) Q → IsSome o
some_of Q n i None less h = absurd (omega (arith, less, h))
some_of Q n i (Some x) less h = refl

module _ (bytes : List ℕ) (pos : ℕ) (has : HasValue index_shape knows_pairs bytes pos) (i : ℕ) (less : OfKept bytes pos (λ m. i < count_of m)) where
  -- an entry with the number of one is there
  pub entry_some : {A : Type 0} (Q : IndexMap → A → Type 0) (o : Option A) → OfKept bytes pos (λ m. MatchOption o (count_of m ≤ i) (Q m)) → IsSome o
  entry_some Q o says = let r = map_of_value bytes pos has.value has.held in some_of (Q r.map) (count_of r.map) i o (less r.map r.stands) (says r.map r.stands)

  -- its key is a text
  pub key_there : (at : ℕ) → OfKept bytes pos (λ m. at ≡ position bytes m i) → HasText bytes at
  key_there at is =
      let r = map_of_value bytes pos has.value has.held in
      let key = entry_key text node_shape (λ _. ⊤) KnowsNode bytes pos has r.map r.stands i (less r.map r.stands) in
      subst (HasText bytes) (sym (is r.map r.stands)) (text_has (λ _. ⊤) bytes (position bytes r.map i) key)

-- an entry is read in the map's bytes
pub entry_bytes : {K V : Type 0} (bytes : Bor (List ℕ)) (pos : ℕ) → HasValue index_shape knows_pairs bytes.now pos → (i : ℕ) (e : Ref K × Ref V) → OfKept bytes.now pos (λ m. e ≡ pair_of bytes text node_shape m i) → (e.0.bytes ≡ bytes) × (e.1.bytes ≡ bytes)
entry_bytes bytes pos has i e is = let r = map_of_value bytes.now pos has.value has.held in let same = is r.map r.stands in (ap (λ x. x.0.bytes) same, ap (λ x. x.1.bytes) same)

-- the text at the position of an entry is that of its key
pub key_stands : (bytes : List ℕ) (pos i at : ℕ) (key : List ℕ) → OfKept bytes pos (λ m. at ≡ position bytes m i) → IsText bytes at key → OfKept bytes pos (λ m. IsText bytes (position bytes m i) key)
key_stands bytes pos i at key is there m stands = subst (λ n. IsText bytes n key) (is m stands) there
