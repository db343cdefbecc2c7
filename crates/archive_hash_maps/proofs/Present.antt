-- Keys that a map has are found.
use Rattle.std.proofs.Common.{◌≡◌, ℕ, ◌<◌, Bool, true, false, Option, Some, None, slice_index, refl, subst, arith}
use Rattle.std.specs.Prelude.{List}
use Rattle.std.specs.Option.{option_map, is_some}
use Rattle.std.specs.Ordering.{is_eq}
use Rattle.std.specs.declared.cmp.Ordering.{Ordering}
use Rattle.archive_shape_layout.specs.Shape.{Shape}
use Rattle.archive_shape_canonical.specs.FirstFit.{hash_tag}
use Rattle.archive_forms_values.specs.Tuples.{tuple2}
use Rattle.archive_shape_canonical.specs.Reach.{Reaches}
use Rattle.archive_hash_probing.specs.Controls.{AreControls}
use Rattle.archive_hash_probing.specs.Search.{IsLookup}
use Rattle.archive_hash_probing.proofs.Findable.{only_is_found}
use Rattle.archive_hash_probing.proofs.Wrapping.{wraps_of, count_of}
use Rattle.archive_hash_maps.specs.Tables.{Buckets, IsTableAt, item_position}
use Rattle.archive_hash_maps.specs.Tables.IsTableAt.{has_none, has_buckets}
use Rattle.archive_hash_maps.specs.Places.{LooksUp}
use Rattle.archive_hash_maps.specs.Places.LooksUp.{has_no_places, has_places}
use Rattle.archive_hash_maps.specs.Maps.{HasKey, KeySays, LooksUpKey}
use Rattle.archive_hash_maps.proofs.Lookups.{none_reached, reaches_none}

-- a search does not miss an item that it reaches, that has its tag, and that is not refused
search_finds : (says : ℕ → Bool → Type 0) (controls : List ℕ) (cap hash place strides : ℕ) → 0 < cap → AreControls controls cap
    → Reaches controls hash cap place → slice_index controls place ≡ hash_tag hash → (says place false → ⊥)
    → IsLookup says controls cap hash None strides → ⊥
search_finds says controls cap hash place strides some are reached tag never answer =
    let found = only_is_found (λ p. ⊥) (λ p. says p false) controls hash cap (hash_tag hash) place None strides some answer (wraps_of controls cap are) (count_of controls cap are) reached tag never (λ q low full taken. absurd taken) in
    absurd cc

module _ (says : ℕ → Bool → Type 0) (s : Shape) (bytes : List ℕ) (pos : ℕ) (b : Buckets) (hash place strides : ℕ)
    (reached : Reaches b.controls hash b.cap place) (tag : slice_index b.controls place ≡ hash_tag hash) (never : says (item_position s b.target place) false → ⊥) where
  finds : IsTableAt bytes s pos b → LooksUp says s b hash None strides → ⊥
  finds table (has_no_places none e f) = reaches_none b.controls hash place (subst (λ c. Reaches b.controls hash c place) none reached)
  finds (has_none e f) (has_places found is answer) = none_reached b hash place f reached
  finds (has_buckets n d e fewer g h i are k) (has_places None is answer) =
      search_finds (λ p x. says (item_position s b.target p) x) b.controls b.cap hash place strides (omega (arith, fewer)) are reached tag never answer
  finds (has_buckets n d e fewer g h i are k) (has_places (Some q) is answer) = absurd cc

  finds_none : IsTableAt bytes s pos b → (o : Option ℕ) → o ≡ None → LooksUp says s b hash o strides → ⊥
  finds_none table o none h = finds table (subst (λ x. LooksUp says s b hash x strides) none h)

no_position : {A : Type 0} (item : ℕ → A) (o : Option ℕ) → None ≡ option_map item o → o ≡ None
no_position item None e = refl
no_position item (Some at) e = absurd cc

-- nor is a key that the map has missed
pub key_is_found :
    {A Q : Type 0} (hashes : ℕ → Type 0) (key_of : List ℕ → ℕ → Q → Type 0) (order : Q → Q → Ordering) (bytes : List ℕ) (k v : Shape) (pos : ℕ) (query : Q)
    (one : (at : ℕ) (a b : Q) → key_of bytes at a → key_of bytes at b → order a query ≡ order b query)
    (item : ℕ → A) (h : HasKey hashes key_of order bytes k v pos query) (found : Option A)
    → LooksUpKey hashes (KeySays key_of order bytes query) item k v h.buckets found
    → is_some found ≡ true
key_is_found hashes key_of order bytes k v pos query one item h (Some x) looks = refl
key_is_found hashes key_of order bytes k v pos query one item h None looks =
    let at = item_position (tuple2 k v) h.buckets.target h.place in
    let there = h.reached looks.hash looks.is_hash in
    let equal = h.equal in
    let never : KeySays key_of order bytes query at false → ⊥ = λ other.
    let same = one at equal.0 other.0 equal.1 other.1 in
    let yes : true ≡ is_eq (order equal.0 query) = equal.2 in
    let no : false ≡ is_eq (order other.0 query) = other.2 in
    absurd cc
    in
    absurd (finds_none (KeySays key_of order bytes query) (tuple2 k v) bytes pos h.buckets looks.hash h.place looks.strides there.0 there.1 never h.map looks.answers.position (no_position item looks.answers.position looks.answers.is) looks.answers.looks_up)
