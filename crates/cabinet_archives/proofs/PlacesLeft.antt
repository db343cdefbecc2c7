-- The faults of a table that are left, place by place.
use Rattle.std.proofs.Common.{◌≡◌, ℕ, suc, ◌<◌, ◌==◌, Bool, Bor, true, false, List, [], ◌∷◌, ◌++◌, map, slice_index, Some, refl, sym, ap, ◌∙◌, eq-eqb}
use Rattle.std.specs.List.{flat_map, slice_get}
use Rattle.std.proofs.lemmas.Bool.{ne_eqb}
use Rattle.archive_shape.specs.declared.references.refs.Ref.{Ref}
use Rattle.archive_shape_canonical.specs.FirstFit.{hash_tag}
use Rattle.archive_shape_canonical.specs.Hash.{text_hash}
use Rattle.archive_hash_maps.specs.Tables.{Buckets, full_places}
use Rattle.archive_hash_maps.specs.Places.{full_place}
use Rattle.cabinet_documents.specs.Audit as audit
use Rattle.cabinet_documents.specs.Audit.{unless, tag_faults}
use Rattle.cabinet_documents.specs.Table.{Slot, Table}
use Rattle.cabinet_archives.proofs.SlotLookups.{full_low}

pub flat_read : {A B C : Type 0} (f : B → List C) (g : A → B) (xs : List A) → flat_map f (map g xs) ≡ flat_map (λ x. f (g x)) xs
flat_read f g [] = refl
flat_read f g (x ∷ xs) = ap (λ r. f (g x) ++ r) (flat_read f g xs)

no_fault_if : (b : Bool) (u : audit.Unsound) → b ≡ true → unless b u ≡ []
no_fault_if b u e = ap (λ x. unless x u) e

fault_if : (b : Bool) (u : audit.Unsound) → b ≡ false → unless b u ≡ u ∷ []
fault_if b u e = ap (λ x. unless x u) e

-- ---- the fault of a slot's control

module _ (t : Table) (s : Slot) (key : List ℕ) (is_key : key ≡ s.key) (tag control : ℕ) (is_tag : tag ≡ hash_tag (text_hash key)) (is_control : control ≡ slice_index t.controls s.place) where
  pub tag_is : tag ≡ control → tag_faults t s ≡ []
  tag_is e =
      no_fault_if (slice_index t.controls s.place == hash_tag (text_hash s.key)) audit.wrong_tag
      (eq-eqb (slice_index t.controls s.place) (hash_tag (text_hash s.key)) (sym is_control ∙ (sym e ∙ (is_tag ∙ ap (λ k. hash_tag (text_hash k)) is_key))))

  pub tag_is_wrong : (tag ≡ control → ⊥) → tag_faults t s ≡ audit.wrong_tag ∷ []
  tag_is_wrong not =
      fault_if (slice_index t.controls s.place == hash_tag (text_hash s.key)) audit.wrong_tag
      (ne_eqb (slice_index t.controls s.place) (hash_tag (text_hash s.key)) (λ e. not (is_tag ∙ (ap (λ k. hash_tag (text_hash k)) is_key ∙ (sym e ∙ sym is_control)))))

-- ---- the places that are left

-- what the iterator over full places gives
abbrev pub Full : Type 0 → Type 0
Full P = ℕ × ℕ × Ref P

module _ {P : Type 0} (bytes : Bor (List ℕ)) (b : Buckets) (size : ℕ) (all : List audit.Unsound) (faults_at : ℕ → List audit.Unsound) where
  abbrev pub full : ℕ → Full P
  full p = full_place bytes b.controls b.target size p

  -- places of the table are left, whose faults are all of its
  pub record ArePlacesLeft (left : List (Full P)) : Type 0 where
    pub places : List ℕ
    pub left_are : left ≡ map full places
    pub low : (i p : ℕ) → slice_get places i ≡ Some p → (p < b.cap) × (slice_index b.controls p < 128)
    pub faults_are : all ≡ flat_map faults_at places

  pub record FirstPlaceLeft (e : Full P) (rest : List (Full P)) : Type 0 where
    pub place : ℕ
    pub is : e ≡ full place
    pub low : (place < b.cap) × (slice_index b.controls place < 128)
    pub others : List audit.Unsound
    pub faults_are : all ≡ faults_at place ++ others
    pub left : faults_at place ≡ [] → ArePlacesLeft rest

  pub all_places : (left : List (Full P)) → left ≡ map full (full_places b) → all ≡ flat_map faults_at (full_places b) → ArePlacesLeft left
  all_places left e are = record {
    places = full_places b;
    left_are = e;
    low = λ i p f. full_low b i p f;
    faults_are = are;
  }

  pub first_place : (e : Full P) (rest : List (Full P)) → ArePlacesLeft (e ∷ rest) → FirstPlaceLeft e rest
  first_place e rest a = by a.places a.left_are a.low a.faults_are
    where
      by : (places : List ℕ) → e ∷ rest ≡ map full places → ((i p : ℕ) → slice_get places i ≡ Some p → (p < b.cap) × (slice_index b.controls p < 128)) → all ≡ flat_map faults_at places → FirstPlaceLeft e rest
      by [] are low faults = absurd (cc)
      by (p ∷ ps) are low faults = record {
        place = p;
        is = cc;
        low = low 0 p refl;
        others = flat_map faults_at ps;
        faults_are = faults;
        left = λ none. record { places = ps; left_are = cc; low = λ i q f. low (suc i) q f; faults_are = faults ∙ ap (λ x. x ++ flat_map faults_at ps) none };
      }

  pub no_places_left : ArePlacesLeft [] → all ≡ []
  no_places_left a = by a.places a.left_are a.faults_are
    where
      by : (places : List ℕ) → [] ≡ map full places → all ≡ flat_map faults_at places → all ≡ []
      by [] are faults = faults
      by (p ∷ ps) are faults = absurd (cc)
