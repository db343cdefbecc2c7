-- The faults of a kept map's table that are left: of its controls place by place, and of its keys one by one.
use Rattle.std.proofs.Common.{◌≡◌, ℕ, zero, suc, ◌+◌, ◌^◌, ◌<◌, ◌≤◌, ◌==◌, Bool, Bor, true, false, List, [], ◌∷◌, ◌++◌, length, drop, map, slice_index, Option, MatchOption, Result, Ok, Err, refl, sym, ap, subst, ◌∙◌, arith}
use Rattle.std.specs.Prelude.{⊤, slice_index_or}
use Rattle.std.specs.List.{flat_map}
use Rattle.std.proofs.lemmas.List.{length-map}
use Rattle.archive_shape_layout.specs.Bytes.{word_at}
use Rattle.archive_shape_layout.specs.Shape.{size_of}
use Rattle.archive_shape_layout.specs.Shape.Shape.{text}
use Rattle.archive_shape_layout.specs.Content.Part.{at}
use Rattle.archive_shape_layout.specs.Value.{Value}
use Rattle.archive_forms_laws.specs.Sample.{number_shape}
use Rattle.archive_forms_laws.specs.Text.{IsText}
use Rattle.archive_forms_values.specs.Parts.{HasValue}
use Rattle.archive_shape_canonical.specs.FirstFit.{hash_tag}
use Rattle.archive_shape_canonical.specs.Hash.{text_hash}
use Rattle.archive_hash_maps.specs.Tables.{full_places}
use Rattle.cabinet_documents.specs.Node.{node_names, node_shape}
use Rattle.cabinet_documents.specs.Audit as audit
use Rattle.cabinet_documents.specs.Audit.{unless, tag_faults, search_faults, kept_faults}
use Rattle.cabinet_documents.specs.Table.{Slot, Table, found, gives, kept_at, numbered, table_of}
use Rattle.cabinet_documents.specs.Walk.{Stop, Walks}
use Rattle.cabinet_documents.proofs.FoundTags.{tags_are_found}
use Rattle.archive_index.specs.Lookups.{AnswersEntry}
use Rattle.archive_index.specs.Maps.{IndexMap, IsMapAt, count_of}
use Rattle.cabinet_archives.specs.declared.opening.refusal.OpenRefusal.{OpenRefusal}
use Rattle.cabinet_archives.specs.Kept.{OfKept, index_shape, kept_search_faults, kept_tag_faults}
use Rattle.cabinet_archives.specs.Keyed.{SaysKey, knows_pairs}
use Rattle.cabinet_archives.specs.Refused.{refusal_of}
use Rattle.cabinet_archives.specs.Sound.{Reports}
use Rattle.cabinet_archives.proofs.Auditing.{refused_first}
use Rattle.cabinet_archives.proofs.IndexLookups.{position, key_texts, key_table, key_count, key_is, key_at, number_at, full_number, entry_there}
use Rattle.cabinet_archives.proofs.IndexPairs.{map_of_value, walked_table}
use Rattle.cabinet_archives.proofs.KeptLeading.{found_is}
use Rattle.cabinet_archives.proofs.PlacesLeft as places
use Rattle.cabinet_archives.proofs.PlacesLeft.{Full, flat_read, tag_is, tag_is_wrong}
use Rattle.cabinet_archives.proofs.SlotLookups.{number_given}
use Rattle.cabinet_archives.proofs.Tables.{slot_of}
use Rattle.cabinet_archives.proofs.Texts.{text_is}

abbrev pub HasNumber : {P : Type 0} → Full P → Type 0
HasNumber e = HasValue number_shape (λ _. ⊤) e.2.bytes.now e.2.pos

module _ (bytes : Bor (List ℕ)) (pos : ℕ) where
  abbrev pub Told : (Table → List audit.Unsound) → Result (Unit {0}) OpenRefusal → Type 0
  Told faults r = (depth : ℕ) (v : Value) (walk : List Stop) → Walks node_names bytes.now depth (at pos index_shape) v walk → Reports r (faults (table_of kept_at bytes.now pos v))

  -- what is told of the table of the entries is told of that of a walk
  told : (faults : Table → List audit.Unsound) (r : Result (Unit {0}) OpenRefusal) → HasValue index_shape knows_pairs bytes.now pos → OfKept bytes.now pos (λ m. Reports r (faults (key_table bytes.now m))) → Told faults r
  told faults r has each = λ depth v walk h.
      let m = map_of_value bytes.now pos has.value has.held in
      subst (λ t. Reports r (faults t)) (sym (walked_table bytes.now m.stands h)) (each m.map m.stands)

  -- the controls come first
  pub told_tags : (r : OpenRefusal) → Told kept_tag_faults (Err r) → Told kept_faults (Err r)
  told_tags r tags depth v walk h = let t = table_of kept_at bytes.now pos v in refused_first r (kept_tag_faults t) (kept_search_faults t) (tags depth v walk h)

  pub told_keys : (r : Result (Unit {0}) OpenRefusal) → Told kept_tag_faults (Ok tt) → Told kept_search_faults r → Told kept_faults r
  told_keys r tags keys depth v walk h = let t = table_of kept_at bytes.now pos v in subst (λ us. Reports r (us ++ kept_search_faults t)) (sym (tags depth v walk h)) (keys depth v walk h)

  -- where each key is found, each control is right
  pub told_found : HasValue index_shape knows_pairs bytes.now pos → Told kept_search_faults (Ok tt) → Told kept_faults (Ok tt)
  told_found has keys depth v walk h =
      let m = map_of_value bytes.now pos has.value has.held in
      let t = key_table bytes.now m.map in
      let same = walked_table bytes.now m.stands h in
      let none : kept_search_faults t ≡ [] = subst (λ x. kept_search_faults x ≡ []) same (keys depth v walk h) in
      let few = length-map (full_places m.map.buckets) (slot_of (number_at bytes.now m.map) (key_at bytes.now m.map)) in
      let tags = tags_are_found t (count_of m.map) (omega (arith, few)) (λ i less. (record { number = i; key = slice_index_or (key_texts bytes.now m.map) i [] }, entry_there bytes.now m.map i less, refl)) none in
      subst (λ x. kept_faults x ≡ []) (sym same) (ap (λ us. us ++ kept_search_faults t) tags ∙ none)

  -- ---- controls

  module _ (m : IndexMap) where
    abbrev slot : ℕ → Slot
    slot p = slot_of (number_at bytes.now m) (key_at bytes.now m) p

    abbrev pub tag_faults_at : ℕ → List audit.Unsound
    tag_faults_at p = tag_faults (key_table bytes.now m) (slot p)

    abbrev pub AreNumbersLeft : {P : Type 0} → List (Full P) → Type 0
    AreNumbersLeft left = places.ArePlacesLeft bytes m.buckets (size_of number_shape) (kept_tag_faults (key_table bytes.now m)) tag_faults_at left

    pub all_numbers : {P : Type 0} (left : List (Full P)) → left ≡ map (places.full bytes m.buckets (size_of number_shape) (kept_tag_faults (key_table bytes.now m)) tag_faults_at) (full_places m.buckets) → AreNumbersLeft left
    all_numbers left e =
        places.all_places bytes m.buckets (size_of number_shape) (kept_tag_faults (key_table bytes.now m)) tag_faults_at left e
        (flat_read (tag_faults (key_table bytes.now m)) slot (full_places m.buckets))

  abbrev pub NumbersLeft : {P : Type 0} → List (Full P) → Type 0
  NumbersLeft left = OfKept bytes.now pos (λ m. AreNumbersLeft m left)

  pub tags_none : {P : Type 0} (left : List (Full P)) → left ≡ [] → HasValue index_shape knows_pairs bytes.now pos → NumbersLeft left → Told kept_tag_faults (Ok tt)
  tags_none {P = P} left none has all = told kept_tag_faults (Ok tt) has (λ m stands.
      places.no_places_left {P = P} bytes m.buckets (size_of number_shape) (kept_tag_faults (key_table bytes.now m)) (tag_faults_at m) (subst (AreNumbersLeft m) none (all m stands)))

  module _ {P : Type 0} (has : HasValue index_shape knows_pairs bytes.now pos) (e : Full P) (all rest : List (Full P)) (all_are : all ≡ e ∷ rest) (left : NumbersLeft all) (n : ℕ) (n_is : n ≡ word_at e.2.bytes.now e.2.pos) where
    abbrev First : IndexMap → Type 0
    First m = places.FirstPlaceLeft bytes m.buckets (size_of number_shape) (kept_tag_faults (key_table bytes.now m)) (tag_faults_at m) e rest

    first_of : (m : IndexMap) → IsMapAt bytes.now text node_shape pos m → First m
    first_of m stands = places.first_place bytes m.buckets (size_of number_shape) (kept_tag_faults (key_table bytes.now m)) (tag_faults_at m) e rest (subst (AreNumbersLeft m) all_are (left m stands))

    number_is : (m : IndexMap) (f : First m) → n ≡ number_at bytes.now m f.place
    number_is m f = n_is ∙ ap (λ (x : Full P). word_at x.2.bytes.now x.2.pos) f.is

    -- it is the number of an entry
    pub number_low : OfKept bytes.now pos (λ m. n < count_of m)
    number_low m stands =
        let f = first_of m stands in
        subst (λ x. x < count_of m) (sym (number_is m f)) (full_number bytes.now m pos stands f.place f.low.0 f.low.1)

    module _ (key : List ℕ) (is_key : OfKept bytes.now pos (λ m. IsText bytes.now (position bytes.now m n) key)) (tag hash : ℕ) (is_hash : hash ≡ text_hash key) (is_tag : tag ≡ hash_tag hash) where
      abbrev key_tag : tag ≡ hash_tag (text_hash key)
      key_tag = is_tag ∙ ap hash_tag is_hash

      key_of : (m : IndexMap) → IsMapAt bytes.now text node_shape pos m → (f : First m) → key ≡ key_at bytes.now m f.place
      key_of m stands f =
          let low = number_low m stands in
          text_is bytes.now (position bytes.now m n) key (is_key m stands) ∙ (sym (key_is bytes.now m n low) ∙ ap (λ x. slice_index_or (key_texts bytes.now m) x []) (number_is m f))

      control_of : (m : IndexMap) (f : First m) → e.1 ≡ slice_index m.buckets.controls f.place
      control_of m f = ap (λ (x : Full P). x.1) f.is

      pub tags_wrong : (tag ≡ e.1 → ⊥) → (r : OpenRefusal) → refusal_of r ≡ audit.unsound audit.wrong_tag → Told kept_tag_faults (Err r)
      tags_wrong not r is = told kept_tag_faults (Err r) has one
        where
          one : OfKept bytes.now pos (λ m. Reports (Err r) (kept_tag_faults (key_table bytes.now m)))
          one m stands =
              let f = first_of m stands in
              let wrong = tag_is_wrong (key_table bytes.now m) (slot m f.place) key (key_of m stands f) tag e.1 key_tag (control_of m f) not in
              (audit.wrong_tag, is, ap audit.first_of f.faults_are ∙ ap (λ x. audit.first_of (x ++ f.others)) wrong)

      pub tags_left : tag ≡ e.1 → NumbersLeft rest
      tags_left right m stands =
          let f = first_of m stands in
          f.left (tag_is (key_table bytes.now m) (slot m f.place) key (key_of m stands f) tag e.1 key_tag (control_of m f) right)

  -- ---- keys

  -- the keys before number i are found
  abbrev pub KeysLeft : ℕ → Type 0
  KeysLeft i = OfKept bytes.now pos (λ m. kept_search_faults (key_table bytes.now m) ≡ flat_map (search_faults (key_table bytes.now m)) (numbered i (drop i (key_texts bytes.now m))))

  pub all_keys : KeysLeft 0
  all_keys m stands = refl

  past_keys : (ks : List (List ℕ)) (i : ℕ) → length ks ≤ i → drop i ks ≡ []
  past_keys [] zero most = refl
  past_keys [] (suc i) most = refl
  past_keys (k ∷ ks) zero most = absurd (omega (arith, most))
  past_keys (k ∷ ks) (suc i) most = past_keys ks i (omega (arith, most))

  next_key : (ks : List (List ℕ)) (i : ℕ) → i < length ks → drop i ks ≡ slice_index_or ks i [] ∷ drop (suc i) ks
  next_key [] i less = absurd (omega (arith, less))
  next_key (k ∷ ks) zero less = refl
  next_key (k ∷ ks) (suc i) less = next_key ks i (omega (arith, less))

  pub keys_none : (i : ℕ) → OfKept bytes.now pos (λ m. count_of m ≤ i) → HasValue index_shape knows_pairs bytes.now pos → KeysLeft i → Told kept_search_faults (Ok tt)
  keys_none i most has left = told kept_search_faults (Ok tt) has (λ m stands.
      let count = key_count bytes.now m in
      let past = most m stands in
      left m stands ∙ ap (λ ks. flat_map (search_faults (key_table bytes.now m)) (numbered i ks)) (past_keys (key_texts bytes.now m) i (omega (arith, count, past))))

  module _ (has : HasValue index_shape knows_pairs bytes.now pos) (i : ℕ) (less : OfKept bytes.now pos (λ m. i < count_of m)) (left : KeysLeft i)
      (key : List ℕ) (is_key : OfKept bytes.now pos (λ m. IsText bytes.now (position bytes.now m i) key)) (hash : ℕ) (is_hash : hash ≡ text_hash key) (low : hash < 2 ^ 64)
      (x : Bool) (result : Option ℕ) (answers : OfKept bytes.now pos (λ m. (strides : ℕ) × AnswersEntry bytes.now text node_shape m (SaysKey bytes.now key) (λ n. n) hash result strides))
      (says : MatchOption result (x ≡ false) (λ n. x ≡ (n == i)))
    where
      key_here : (m : IndexMap) → IsMapAt bytes.now text node_shape pos m → key ≡ slice_index_or (key_texts bytes.now m) i []
      key_here m stands = text_is bytes.now (position bytes.now m i) key (is_key m stands) ∙ sym (key_is bytes.now m i (less m stands))

      faults_here : (m : IndexMap) → IsMapAt bytes.now text node_shape pos m → search_faults (key_table bytes.now m) (record { number = i; key = slice_index_or (key_texts bytes.now m) i [] }) ≡ unless x audit.not_found
      faults_here m stands =
          let t = key_table bytes.now m in
          let is = found_is bytes.now pos key hash result is_hash low answers m stands in
          let given = number_given (number_at bytes.now m) (key_at bytes.now m) m.buckets t.entries key x i result is says in
          ap (λ y. unless y audit.not_found) (ap (λ k. gives t (found t k) i) (sym (key_here m stands)) ∙ given)

      faults_from : (m : IndexMap) → IsMapAt bytes.now text node_shape pos m
          → kept_search_faults (key_table bytes.now m) ≡ unless x audit.not_found ++ flat_map (search_faults (key_table bytes.now m)) (numbered (i + 1) (drop (i + 1) (key_texts bytes.now m)))
      faults_from m stands =
          let t = key_table bytes.now m in
          let count = key_count bytes.now m in
          let below = less m stands in
          let next : suc i ≡ i + 1 = omega arith in
          left m stands
          ∙ (ap (λ ks. flat_map (search_faults t) (numbered i ks)) (next_key (key_texts bytes.now m) i (omega (arith, count, below)))
          ∙ (ap (λ us. us ++ flat_map (search_faults t) (numbered (i + 1) (drop (suc i) (key_texts bytes.now m)))) (faults_here m stands)
          ∙ ap (λ n. unless x audit.not_found ++ flat_map (search_faults t) (numbered (i + 1) (drop n (key_texts bytes.now m)))) next))

      pub keys_lost : x ≡ false → (r : OpenRefusal) → refusal_of r ≡ audit.unsound audit.not_found → Told kept_search_faults (Err r)
      keys_lost lost r is = told kept_search_faults (Err r) has (λ m stands.
          let rest = flat_map (search_faults (key_table bytes.now m)) (numbered (i + 1) (drop (i + 1) (key_texts bytes.now m))) in
          (audit.not_found, is, ap audit.first_of (faults_from m stands) ∙ ap (λ y. audit.first_of (unless y audit.not_found ++ rest)) lost))

      pub keys_left : x ≡ true → KeysLeft (i + 1)
      keys_left right m stands =
          let rest = flat_map (search_faults (key_table bytes.now m)) (numbered (i + 1) (drop (i + 1) (key_texts bytes.now m))) in
          faults_from m stands ∙ ap (λ y. unless y audit.not_found ++ rest) right
