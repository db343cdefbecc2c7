-- The faults of a hashed map's table that are left, place by place.
use Rattle.std.proofs.Common.{[], ◌≡◌, ℕ, ◌*◌, ◌^◌, ◌<◌, ◌≤◌, ◌==◌, Bool, Bor, false, true, List, ◌∷◌, ◌++◌, map, slice_index, Option, MatchOption, Result, Ok, Err, sym, ap, subst, ◌∙◌, arith, zero-mul}
use Rattle.std.specs.List.{flat_map}
use Rattle.archive_shape_layout.specs.Shape.{Shape, size_of}
use Rattle.archive_shape_layout.specs.Content.Part.{at}
use Rattle.archive_shape_layout.specs.Value.{Value}
use Rattle.archive_forms_laws.specs.Text.{IsText}
use Rattle.archive_forms_values.specs.Parts.{HasValue}
use Rattle.archive_shape_canonical.specs.FirstFit.{hash_tag}
use Rattle.archive_shape_canonical.specs.Hash.{text_hash}
use Rattle.archive_hash_maps.specs.Tables.{Buckets, full_places, IsTableAt}
use Rattle.archive_hash_maps.specs.Tables.IsTableAt.{has_none, has_buckets}
use Rattle.archive_hash_maps.specs.Places.{LooksUp}
use Rattle.archive_hash_maps.proofs.Roots.{places_of_value}
use Rattle.cabinet_documents.specs.Node.{node_names, pair_shape}
use Rattle.cabinet_documents.specs.Audit as audit
use Rattle.cabinet_documents.specs.Audit.{unless, tag_faults, search_faults, hashed_faults}
use Rattle.cabinet_documents.specs.Table.{entry_of, found, gives, hashed_at, table_of}
use Rattle.cabinet_documents.specs.Walk.{Stop, Walks}
use Rattle.cabinet_archives.specs.declared.opening.refusal.OpenRefusal.{OpenRefusal}
use Rattle.cabinet_archives.specs.Hashed.{table_shape}
use Rattle.cabinet_archives.specs.Keyed.{SaysKey, knows_pairs}
use Rattle.cabinet_archives.specs.Refused.{refusal_of}
use Rattle.cabinet_archives.specs.Sound.{Reports}
use Rattle.cabinet_archives.proofs.HashedLeading.{found_is}
use Rattle.cabinet_archives.proofs.PlacesLeft as places
use Rattle.cabinet_archives.proofs.PlacesLeft.{Full, flat_read, tag_is, tag_is_wrong}
use Rattle.cabinet_archives.proofs.TableLookups.{pair_at, text_of, text_slot, text_table, gives_is}
use Rattle.cabinet_archives.proofs.TablePairs.{table_faults}
use Rattle.cabinet_archives.proofs.Texts.{text_is}

pub room_of : (bytes : List ℕ) (s : Shape) (pos : ℕ) (b : Buckets) → IsTableAt bytes s pos b → b.cap * size_of s ≤ b.target
room_of bytes s pos b (has_none none is) = subst (λ (x : Buckets). x.cap * size_of s ≤ x.target) (sym is) (let z = zero-mul (size_of s) in omega (arith, z))
room_of bytes s pos b (has_buckets some leads places fewer controls within room are count) = room

abbrev pub HasPair : {P : Type 0} → Full P → Type 0
HasPair e = HasValue pair_shape knows_pairs e.2.bytes.now e.2.pos

module _ (bytes : List ℕ) (b : Buckets) where
  abbrev pub place_faults : ℕ → List audit.Unsound
  place_faults p = tag_faults (text_table bytes b) (text_slot bytes b p) ++ search_faults (text_table bytes b) (entry_of (text_slot bytes b p))

  all_faults : hashed_faults (text_table bytes b) ≡ flat_map place_faults (full_places b)
  all_faults = flat_read (λ s. tag_faults (text_table bytes b) s ++ search_faults (text_table bytes b) (entry_of s)) (text_slot bytes b) (full_places b)

  -- whether the pair that is found is the place's
  search_gives : (p : ℕ) (key : List ℕ) → key ≡ text_of bytes b p → (x : Bool) → gives (text_table bytes b) (found (text_table bytes b) key) p ≡ x → search_faults (text_table bytes b) (entry_of (text_slot bytes b p)) ≡ unless x audit.not_found
  search_gives p key is_key x e = ap (λ y. unless y audit.not_found) (ap (λ k. gives (text_table bytes b) (found (text_table bytes b) k) p) (sym is_key) ∙ e)

-- ---- the places that are left

module _ {P : Type 0} (bytes : Bor (List ℕ)) (b : Buckets) where
  -- pairs at places of the table are left, whose faults are all of its
  abbrev pub ArePlacesLeft : List (Full P) → Type 0
  ArePlacesLeft left = places.ArePlacesLeft bytes b (size_of pair_shape) (hashed_faults (text_table bytes.now b)) (place_faults bytes.now b) left

  abbrev pub FirstPlaceLeft : Full P → List (Full P) → Type 0
  FirstPlaceLeft e rest = places.FirstPlaceLeft bytes b (size_of pair_shape) (hashed_faults (text_table bytes.now b)) (place_faults bytes.now b) e rest

  pub all_places : (left : List (Full P)) → left ≡ map (places.full bytes b (size_of pair_shape) (hashed_faults (text_table bytes.now b)) (place_faults bytes.now b)) (full_places b) → ArePlacesLeft left
  all_places left e = places.all_places bytes b (size_of pair_shape) (hashed_faults (text_table bytes.now b)) (place_faults bytes.now b) left e (all_faults bytes.now b)

-- ---- the loop over all places

module _ (bytes : Bor (List ℕ)) (pos : ℕ) where
  abbrev pub PlacesLeft : {P : Type 0} → List (Full P) → Type 0
  PlacesLeft left = (b : Buckets) → IsTableAt bytes.now pair_shape pos b → ArePlacesLeft bytes b left

  abbrev pub Told : Result (Unit {0}) OpenRefusal → Type 0
  Told r = (depth : ℕ) (v : Value) (walk : List Stop) → Walks node_names bytes.now depth (at pos table_shape) v walk → Reports r (hashed_faults (table_of hashed_at bytes.now pos v))

  -- what is told of the table of the places is told of that of a walk
  told : (r : Result (Unit {0}) OpenRefusal) → HasValue table_shape knows_pairs bytes.now pos → ((b : Buckets) → IsTableAt bytes.now pair_shape pos b → Reports r (hashed_faults (text_table bytes.now b))) → Told r
  told r has each = λ depth v walk h.
      let m = places_of_value has in
      subst (Reports r) (sym (table_faults bytes.now m.table h)) (each m.buckets m.table)

  pub told_none : {P : Type 0} (left : List (Full P)) → left ≡ [] → HasValue table_shape knows_pairs bytes.now pos → PlacesLeft left → Told (Ok tt)
  told_none {P = P} left none has all = told (Ok tt) has (λ b table.
      places.no_places_left {P = P} bytes b (size_of pair_shape) (hashed_faults (text_table bytes.now b)) (place_faults bytes.now b) (subst (ArePlacesLeft bytes b) none (all b table)))

  -- ---- one place

  module _ {P : Type 0} (has : HasValue table_shape knows_pairs bytes.now pos) (e : Full P) (all rest : List (Full P)) (all_are : all ≡ e ∷ rest) (left : PlacesLeft all) (key : List ℕ) (is_key : IsText e.2.bytes.now e.2.pos key) where
    abbrev First : Buckets → Type 0
    First b = FirstPlaceLeft bytes b e rest

    first_of : (b : Buckets) → IsTableAt bytes.now pair_shape pos b → First b
    first_of b table = places.first_place bytes b (size_of pair_shape) (hashed_faults (text_table bytes.now b)) (place_faults bytes.now b) e rest (subst (ArePlacesLeft bytes b) all_are (left b table))

    key_of : (b : Buckets) (f : First b) → key ≡ text_of bytes.now b f.place
    key_of b f =
        let there = subst (λ (x : Full P). IsText x.2.bytes.now x.2.pos key) f.is is_key in
        text_is bytes.now (pair_at bytes.now b f.place) key there

    -- the key stands at its pair in the bytes of the map
    pub key_there : IsText bytes.now e.2.pos key
    key_there =
        let m = places_of_value has in
        let f = first_of m.buckets m.table in
        subst (λ (x : Bor (List ℕ)). IsText x.now e.2.pos key) (ap (λ (x : Full P). x.2.bytes) f.is) is_key

    control_of : (b : Buckets) (f : First b) → e.1 ≡ slice_index b.controls f.place
    control_of b f = ap (λ (x : Full P). x.1) f.is

    module _ (tag hash : ℕ) (is_hash : hash ≡ text_hash key) (is_tag : tag ≡ hash_tag hash) where
      abbrev key_tag : tag ≡ hash_tag (text_hash key)
      key_tag = is_tag ∙ ap hash_tag is_hash

      pub told_wrong : (tag ≡ e.1 → ⊥) → (r : OpenRefusal) → refusal_of r ≡ audit.unsound audit.wrong_tag → Told (Err r)
      told_wrong not r is = told (Err r) has one
        where
          one : (b : Buckets) → IsTableAt bytes.now pair_shape pos b → Reports (Err r) (hashed_faults (text_table bytes.now b))
          one b table =
              let f = first_of b table in
              let wrong = tag_is_wrong (text_table bytes.now b) (text_slot bytes.now b f.place) key (key_of b f) tag e.1 key_tag (control_of b f) not in
              (audit.wrong_tag, is, ap audit.first_of f.faults_are ∙ ap (λ x. audit.first_of ((x ++ search_faults (text_table bytes.now b) (entry_of (text_slot bytes.now b f.place))) ++ f.others)) wrong)

      module _ (right : tag ≡ e.1) (x : Bool) (result : Option ℕ) (low : hash < 2 ^ 64)
          (answers : (b : Buckets) → IsTableAt bytes.now pair_shape pos b → (strides : ℕ) × LooksUp (SaysKey bytes.now key) pair_shape b hash result strides)
          (says : MatchOption result (x ≡ false) (λ at. x ≡ (at == e.2.pos)))
        where
          faults_here : (b : Buckets) → IsTableAt bytes.now pair_shape pos b → (f : First b) → place_faults bytes.now b f.place ≡ unless x audit.not_found
          faults_here b table f =
              let is = found_is bytes.now pos key hash result is_hash low answers b table in
              let at_place = subst (λ n. MatchOption result (x ≡ false) (λ at. x ≡ (at == n))) (ap (λ (y : Full P). y.2.pos) f.is) says in
              let g = gives_is bytes.now b key (room_of bytes.now pair_shape pos b table) f.place f.low.0 x result is at_place in
              ap (λ us. us ++ search_faults (text_table bytes.now b) (entry_of (text_slot bytes.now b f.place))) (tag_is (text_table bytes.now b) (text_slot bytes.now b f.place) key (key_of b f) tag e.1 key_tag (control_of b f) right)
              ∙ search_gives bytes.now b f.place key (key_of b f) x g

          pub told_lost : x ≡ false → (r : OpenRefusal) → refusal_of r ≡ audit.unsound audit.not_found → Told (Err r)
          told_lost lost r is = told (Err r) has one
            where
              one : (b : Buckets) → IsTableAt bytes.now pair_shape pos b → Reports (Err r) (hashed_faults (text_table bytes.now b))
              one b table =
                  let f = first_of b table in
                  (audit.not_found, is, ap audit.first_of f.faults_are ∙ ap (λ us. audit.first_of (us ++ f.others)) (faults_here b table f ∙ ap (λ y. unless y audit.not_found) lost))

          pub rest_left : x ≡ true → PlacesLeft rest
          rest_left right_place b table =
              let f = first_of b table in
              f.left (faults_here b table f ∙ ap (λ y. unless y audit.not_found) right_place)
