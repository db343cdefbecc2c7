-- A map has a key that a look-up has found, where the query has one hash; and `FxHasher64` gives one.
use Rattle.std.proofs.Common.{◌≡◌, ℕ, ◌<◌, Bool, true, false, List, [], ◌∷◌, ◌++◌, slice_index, Option, Some, None, refl, sym, ap, subst, ◌∙◌, arith}
use Rattle.std.specs.List.{fold}
use Rattle.std.specs.Option.{option_map}
use Rattle.std.specs.declared.cmp.Ordering.{Ordering}
use Rattle.archive_shape_layout.specs.Shape.{Shape}
use Rattle.archive_forms_values.specs.Tuples.{tuple2}
use Rattle.archive_shape_canonical.specs.FirstFit.{hash_tag}
use Rattle.archive_shape_canonical.specs.Hash.{hash_words, words_of}
use Rattle.archive_shape_canonical.specs.Strides.{strides}
use Rattle.archive_shape_canonical.specs.Reach.{Reaches, searched}
use Rattle.archive_hash_probing.specs.declared.scanning.hashing.FxHasher64.{FxHasher64}
use Rattle.archive_hash_probing.specs.Controls.{AreControls}
use Rattle.archive_hash_probing.specs.Inputs.{input_hash}
use Rattle.archive_hash_probing.specs.Search.{IsLookup, IsFoundAmong}
use Rattle.archive_hash_probing.proofs.Counts.{own, found_reaches}
use Rattle.archive_hash_probing.proofs.Folded.{folded}
use Rattle.archive_hash_probing.proofs.Wrapping.{wraps_of, count_of}
use Rattle.archive_hash_maps.specs.Tables.{Buckets, no_buckets, IsTableAt, item_position}
use Rattle.archive_hash_maps.specs.Tables.IsTableAt.{has_none, has_buckets}
use Rattle.archive_hash_maps.specs.Places.{LooksUp}
use Rattle.archive_hash_maps.specs.Places.LooksUp.{has_no_places, has_places}
use Rattle.archive_hash_maps.specs.Maps.{HashesTo, HasKey, KeySays, LooksUpKey}
use Rattle.archive_hash_maps.proofs.Lookups.{no_strides}

no_middle : (xs ys : List ℕ) (y : ℕ) → [] ≡ xs ++ y ∷ ys → ⊥
no_middle [] ys y e = absurd cc
no_middle (x ∷ xs) ys y e = absurd cc

-- in a table without places nothing is found
none_found_in : (A R : ℕ → Type 0) (b : Buckets) (hash tag place n : ℕ) → b ≡ no_buckets
    → IsFoundAmong A R b.controls b.cap tag (searched b.controls (strides hash b.cap)) place n → ⊥
none_found_in A R b hash tag place n is a =
    let none : searched b.controls (strides hash b.cap) ≡ [] = ap (λ (c : Buckets). searched c.controls (strides hash c.cap)) is ∙ ap (searched []) (no_strides hash) in
    no_middle a.prior a.later a.stride (sym none ∙ a.strides_are)

pub none_looked_up : (says : ℕ → Bool → Type 0) (s : Shape) (hash n : ℕ) (found : Option ℕ) → LooksUp says s no_buckets hash found n → found ≡ None
none_looked_up says s hash n found (has_no_places e f g) = f
none_looked_up says s hash n found (has_places None is a) = is
none_looked_up says s hash n found (has_places (Some place) is a) =
    absurd (none_found_in (λ p. says (item_position s 0 p) true) (λ p. says (item_position s 0 p) false) no_buckets hash (hash_tag hash) place n refl a)

module _ {Q : Type 0} (hashes : ℕ → Type 0) (key_of : List ℕ → ℕ → Q → Type 0) (order : Q → Q → Ordering) (bytes : List ℕ) (k v : Shape) (pos : ℕ) (query : Q) where
  abbrev says : ℕ → Bool → Type 0
  says at x = KeySays key_of order bytes query at x

  -- a map has what is found
  has_found : (b : Buckets) (hash place n : ℕ) → ((other : ℕ) → hashes other → hash ≡ other) → IsTableAt bytes (tuple2 k v) pos b → 0 < b.cap → AreControls b.controls b.cap
      → IsLookup (λ p x. says (item_position (tuple2 k v) b.target p) x) b.controls b.cap hash (Some place) n
      → HasKey hashes key_of order bytes k v pos query
  has_found b hash place n one table some are a =
      let A : ℕ → Type 0 = λ p. says (item_position (tuple2 k v) b.target p) true in
      let R : ℕ → Type 0 = λ p. says (item_position (tuple2 k v) b.target p) false in
      let wraps = wraps_of b.controls b.cap are in
      let count = count_of b.controls b.cap are in
      let reached : Reaches b.controls hash b.cap place = found_reaches A R b.controls hash b.cap (hash_tag hash) some wraps count place n a in
      let tagged : slice_index b.controls place ≡ hash_tag hash = own A R b.controls hash b.cap (hash_tag hash) some wraps count place n a in
      record {
        buckets = b;
        place = place;
        map = table;
        reached = λ other is. (
          subst (λ h. Reaches b.controls h b.cap place) (one other is) reached,
          subst (λ h. slice_index b.controls place ≡ hash_tag h) (one other is) tagged,
        );
        equal = a.found.taken;
      }

  looked_up : (b : Buckets) (hash at n : ℕ) → ((other : ℕ) → hashes other → hash ≡ other) → IsTableAt bytes (tuple2 k v) pos b
      → LooksUp says (tuple2 k v) b hash (Some at) n
      → HasKey hashes key_of order bytes k v pos query
  looked_up b hash at n one table (has_no_places none e f) = absurd cc
  looked_up b hash at n one table (has_places None e a) = absurd cc
  looked_up b hash at n one (has_none e f) (has_places (Some place) is a) =
      absurd (none_found_in (λ p. says (item_position (tuple2 k v) b.target p) true) (λ p. says (item_position (tuple2 k v) b.target p) false) b hash (hash_tag hash) place n f a)
  looked_up b hash at n one (has_buckets m d e fewer g h i are l) (has_places (Some place) is a) =
      has_found b hash place n one (has_buckets m d e fewer g h i are l) (omega (arith, fewer)) are a

  pub found_is_present : {A : Type 0} (item : ℕ → A) (b : Buckets) (found : A) → ((hash other : ℕ) → hashes hash → hashes other → hash ≡ other)
      → IsTableAt bytes (tuple2 k v) pos b
      → LooksUpKey hashes says item k v b (Some found)
      → HasKey hashes key_of order bytes k v pos query
  found_is_present item b found one table looks = by_position looks.answers.position looks.answers.is looks.answers.looks_up
    where
      by_position : (o : Option ℕ) → Some found ≡ option_map item o → LooksUp says (tuple2 k v) b looks.hash o looks.strides → HasKey hashes key_of order bytes k v pos query
      by_position None is l = absurd cc
      by_position (Some at) is l = looked_up b looks.hash at looks.strides (λ other h. one looks.hash other looks.is_hash h) table l

-- `FxHasher64` starts with 0 as its state
pub fx_hash : (input : List (List ℕ)) (hash : ℕ)
    → HashesTo {H = FxHasher64} (λ h. h.state ≡ 0) (λ h bytes. record { state = hash_words h.state (words_of bytes) }) (λ h. h.state) input hash
    → hash ≡ input_hash input
unfolding input_hash
fx_hash input hash h = h.2 ∙ folded h.0 input ∙ ap (λ n. fold (λ k bytes. hash_words k (words_of bytes)) n input) h.1
