-- An archived index map has the entries that it was written of in their order, and answers their keys.
use Rattle.std.proofs.Common.{◌≡◌, ◌∙◌, ℕ, suc, ◌+◌, ◌*◌, ◌<◌, nat_lt, lt-ltb, cond, Bool, true, false, List, [], ◌∷◌, length, map, get_or, Option, Some, None, MatchOption, refl, ap, sym, subst, arith}
use Rattle.std.specs.Option.{IsSomeAnd, option_map}
use Rattle.std.specs.List.{AllZip, position, position_or_len}
use Rattle.std.specs.Ordering.{is_eq}
use Rattle.std.specs.declared.cmp.Ordering.{Ordering}
use Rattle.std.proofs.lemmas.List.{length-map, get_or_default}
use Rattle.std.proofs.lemmas.List.Sums.{position_or_len_is}
use Rattle.archive_shape_layout.specs.Bytes.{word_at}
use Rattle.archive_shape_layout.specs.Shape.{Shape, size_of}
use Rattle.archive_shape_layout.specs.Shape.Shape.{index_map}
use Rattle.archive_shape_layout.specs.Value.Value.{group}
use Rattle.archive_shape_layout.specs.Value.Values.{no_values}
use Rattle.archive_shape_layout.specs.Value.{count_values}
use Rattle.archive_shape_layout.specs.Content.{Names}
use Rattle.archive_shape_layout.specs.Holds.{root_position}
use Rattle.archive_shape.specs.Key.{HeldAt}
use Rattle.archive_forms_values.specs.Parts.{both}
use Rattle.archive_forms_values.specs.Tuples.{tuple2}
use Rattle.archive_forms_laws.specs.Sample.{number_shape}
use Rattle.archive_forms_laws.specs.State.{State}
use Rattle.archive_forms_laws.specs.Spelling.{Spelling}
use Rattle.archive_forms_laws.specs.Fields.{tuple2_spelling}
use Rattle.archive_hash_probing.specs.Inputs.{input_hash}
use Rattle.archive_hash_maps.specs.Tables.{Buckets, no_buckets, full_places, item_position, IsTableAt}
use Rattle.archive_hash_maps.specs.Tables.IsTableAt.{has_none, has_buckets}
use Rattle.archive_hash_maps.specs.Places.{LooksUp}
use Rattle.archive_hash_maps.specs.Places.LooksUp.{has_no_places, has_places}
use Rattle.archive_hash_maps.specs.Maps.{KeySays}
use Rattle.archive_hash_maps.proofs.Found.{none_looked_up}
use Rattle.archive_hash_writing.specs.Fitted.{places_of}
use Rattle.archive_hash_writing.proofs.SpellingFitting.{above}
use Rattle.archive_hash.specs.Answering.{HasEntry, first_with}
use Rattle.archive_hash.proofs.Answering.{entry_held, hashes_small, place_found}
use Rattle.archive_index.specs.Maps.{count_of, entry_position, adjacent}
use Rattle.archive_index.specs.Answering.{IsWrittenMap, FindsNumber, AnswersInOrder, first_number}
use Rattle.archive_index.proofs.Read.{map_is_read}
use Rattle.archive_index.proofs.Filled.{IsFilledMap, filled_map, root_map}

-- what holds of each element by its number holds of positions side by side
zip_side : {X : Type 0} (P : ℕ → X → Type 0) (size at : ℕ) (xs : List X) → ((i : ℕ) (d : X) → i < length xs → P (at + i * size) (get_or xs i d)) → AllZip P (adjacent size at (length xs)) xs
zip_side P size at [] h = tt
zip_side P size at (x ∷ xs) h =
    let first : at + 0 * size ≡ at = omega arith in (
      subst (λ a. P a x) first (h 0 x (omega arith)),
      zip_side P size (at + size) xs (λ i d l.
          let more : suc i * size ≡ i * size + size = omega arith in
          let next : at + suc i * size ≡ at + size + i * size = omega (arith, more) in
          subst (λ a. P a (get_or xs i d)) next (h (suc i) d (omega (arith, l)))),
    )

-- the first element that passes has this number
number_is : {X : Type 0} (p : X → Bool) (xs : List X) (i : ℕ) (d : X) → i < length xs → p (get_or xs i d) ≡ true → ((j : ℕ) → j < i → p (get_or xs j d) ≡ false)
    → position p xs ≡ Some i
number_is p xs i d within passes before =
    let first : position_or_len p xs ≡ i = position_or_len_is p xs i d (omega (arith, within)) before (λ l. passes) in
    ap (λ n. cond (nat_lt n (length xs)) (Some n) None) first ∙ ap (λ b. cond b (Some i) None) (lt-ltb i (length xs) within)

-- a map without entries has no places
no_places : (bytes : List ℕ) (pos : ℕ) (b : Buckets) → IsTableAt bytes number_shape pos b → length (full_places b) ≡ 0 → b ≡ no_buckets
no_places bytes pos b (has_none z is) none = is
no_places bytes pos b (has_buckets some target cap_is fewer shown within room are full) none = absurd (some (sym full ∙ none))

-- the layout has the map of entries at a position: where there are any, with each number at its place
abbrev pub HasMapOf : {A B R P : Type 0} (k v : Shape) (knows others : Names → Type 0) (keys : Spelling A R) (vals : Spelling B P) (bytes : List ℕ) (fed : A → List (List ℕ)) (pos : ℕ) → List (A × B) → Type 0
HasMapOf k v knows others keys vals bytes fed pos [] = HeldAt (index_map k v) (both knows others) bytes pos (group no_values)
HasMapOf k v knows others keys vals bytes fed pos (e ∷ es) =
    (most : ℕ) × (places : ℕ)
    × IsFilledMap k v knows others bytes (tuple2_spelling k keys v vals) most places (map (λ x. input_hash (fed x.0)) (e ∷ es)) pos (e ∷ es)

module _ {A B R P : Type 0} (k v : Shape) (knows others : Names → Type 0) (keys : Spelling A R) (vals : Spelling B P) (bytes : List ℕ)
    {Q : Type 0} (key : A → Q) (order : Q → Q → Ordering) (key_of : List ℕ → ℕ → Q → Type 0)
    (represents : (x : A) (st : State) (pos : ℕ) → HeldAt k knows bytes pos (keys.value x st) → key_of bytes pos (key x))
    (one_key : (pos : ℕ) (a b : Q) → key_of bytes pos a → key_of bytes pos b → (query : Q) → order a query ≡ order b query)
    (fed : A → List (List ℕ)) (query_fed : Q → List (List ℕ)) (fed_as_key : (x : A) → fed x ≡ query_fed (key x))
    (alike : (a b : Q) → is_eq (order a b) ≡ true → query_fed a ≡ query_fed b)
    (hashes : Q → ℕ → Type 0) (one : (query : Q) (hash : ℕ) → hashes query hash → hash ≡ input_hash (query_fed query)) where
  abbrev Entry : ℕ → A × B → Type 0
  Entry at e = HasEntry k v knows others keys vals bytes at e

  abbrev hash_of : A × B → ℕ
  hash_of e = input_hash (fed e.0)

  module _ (most places : ℕ) (d : A × B) (es : List (A × B)) (some : 0 < length es) (pos : ℕ)
      (t : IsFilledMap k v knows others bytes (tuple2_spelling k keys v vals) most places (map hash_of es) pos es) where
    abbrev Number : ℕ → ℕ
    Number p = item_position number_shape t.map.buckets.target p

    -- the position of the entry whose number lies at a place
    abbrev Position : ℕ → ℕ
    Position p = entry_position k v t.map (word_at bytes (Number p))

    abbrev Places : List ℕ
    Places = places_of most places (map hash_of es) es

    numbered_entry : (i : ℕ) (x : A × B) → i < length es → Entry (entry_position k v t.map i) (get_or es i x)
    numbered_entry i x l = entry_held k v knows others keys vals bytes (entry_position k v t.map i) (get_or es i x) (t.each i x l)

    entry_at : (i : ℕ) → i < length es → Entry (Position (get_or Places i 0)) (get_or es i d)
    entry_at i l = subst (λ n. Entry (entry_position k v t.map n) (get_or es i d)) (sym (t.numbered i l)) (numbered_entry i d l)

    module _ (query : Q) where
      abbrev Says : ℕ → Bool → Type 0
      Says at x = KeySays key_of order bytes query (entry_position k v t.map (word_at bytes at)) x

      found_by : (hash n : ℕ) (found place : Option ℕ) → hash ≡ input_hash (query_fed query) → found ≡ option_map Number place
          → Rattle.archive_hash_probing.specs.Search.IsLookup (λ p x. Says (Number p) x) t.map.buckets.controls t.map.buckets.cap hash place n
          → (o : Option (A × B)) → first_with k v knows others keys vals bytes key order query es ≡ o
          → MatchOption o (option_map (word_at bytes) found ≡ None)
          (λ e. (option_map (word_at bytes) found ≡ first_number k v knows others keys vals bytes key order query es)
          × IsSomeAnd (option_map (word_at bytes) found) (λ i. (i < length es) × (get_or es i e ≡ e) × Entry (entry_position k v t.map i) e))
      found_by hash n found place is_hash is a None none =
          let no = place_found k v knows others keys vals bytes key order key_of represents one_key fed query_fed fed_as_key alike hashes one
          most places d es some t.map.buckets.cap t.map.buckets.controls Position t.cap t.controls entry_at query hash n place is_hash a None none in
          ap (option_map (word_at bytes)) (is ∙ ap (option_map Number) no)
      found_by hash n found place is_hash is a (Some e) first =
          let f = place_found k v knows others keys vals bytes key order key_of represents one_key fed query_fed fed_as_key alike hashes one
          most places d es some t.map.buckets.cap t.map.buckets.controls Position t.cap t.controls entry_at query hash n place is_hash a (Some e) first in
          let i = f.0.index in
          let within = f.0.within in
          let entry_is : get_or es i e ≡ e = get_or_default es i e d within ∙ f.0.is in
          let there : Entry (entry_position k v t.map i) e = subst (Entry (entry_position k v t.map i)) f.0.is (numbered_entry i d within) in
          let number : option_map (word_at bytes) found ≡ Some i = ap (option_map (word_at bytes)) (is ∙ ap (option_map Number) f.1) ∙ ap Some (t.numbered i within) in
          let first_is = number_is (λ x. is_eq (order (key x.0) query)) es i d within f.0.passed f.0.before in (
            number ∙ sym first_is,
            subst (λ o. IsSomeAnd o (λ n. (n < length es) × (get_or es n e ≡ e) × Entry (entry_position k v t.map n) e)) (sym number) (within, entry_is, there),
          )

      looked_up : (hash n : ℕ) (found : Option ℕ) → hashes query hash → LooksUp Says number_shape t.map.buckets hash found n → FindsNumber k v knows others keys vals bytes key order t.map es query (option_map (word_at bytes) found)
      looked_up hash n found h (has_no_places none e f) = absurd (let more = above most places (map hash_of es) es (length-map es hash_of) some in let is = t.cap in omega (arith, none, more, is))
      looked_up hash n found h (has_places place is a) = found_by hash n found place (one query hash h) is a (first_with k v knows others keys vals bytes key order query es) refl

    map_answers_so : AnswersInOrder k v knows others keys vals bytes key order hashes key_of pos es
    map_answers_so = record {
      map = t.map;
      stands = t.stands;
      walks = subst (λ n. AllZip Entry (adjacent (size_of (tuple2 k v)) t.map.start n) es) (sym t.counted) (zip_side Entry (size_of (tuple2 k v)) t.map.start es numbered_entry);
      finds = λ query hash n found h looks. looked_up query hash n found h looks;
    }

  pub map_of_answers : (es : List (A × B)) (pos : ℕ) → HasMapOf k v knows others keys vals bytes fed pos es → AnswersInOrder k v knows others keys vals bytes key order hashes key_of pos es
  map_of_answers [] pos held =
      let r = map_is_read k v knows others bytes pos (group no_values) held in
      let none : count_of r.map ≡ 0 = sym r.entries.count ∙ ap count_values (no_elements r.entries.elements r.entries.is) in
      let empty : r.map.buckets ≡ no_buckets = no_places bytes pos r.map.buckets r.stands.table none in
      record {
        map = r.map;
        stands = r.stands;
        walks = subst (λ n. AllZip Entry (adjacent (size_of (tuple2 k v)) r.map.start n) []) (sym none) tt;
        finds = λ query hash n found h looks.
            let says : ℕ → Bool → Type 0 = λ at x. KeySays key_of order bytes query (entry_position k v r.map (word_at bytes at)) x in
            ap (option_map (word_at bytes)) (none_looked_up says number_shape hash n found (subst (λ (b : Buckets). LooksUp says number_shape b hash found n) empty looks));
      }
    where
      no_elements : (vs : Rattle.archive_shape_layout.specs.Value.Values) → (λ (x : Rattle.archive_shape_layout.specs.Value.Value). x) (group no_values) ≡ group vs → vs ≡ no_values
      no_elements vs e = cc
  map_of_answers (e ∷ es) pos filled = map_answers_so filled.0 filled.1 e (e ∷ es) (omega arith) pos filled.2

  pub map_answers : (es : List (A × B)) → IsWrittenMap k v knows others keys vals bytes fed es
      → AnswersInOrder k v knows others keys vals bytes key order hashes key_of (root_position (length bytes) (index_map k v)) es
  map_answers es m = map_of_answers es (root_position (length bytes) (index_map k v)) (fitted es m)
    where
      fitted : (xs : List (A × B)) → IsWrittenMap k v knows others keys vals bytes fed xs → HasMapOf k v knows others keys vals bytes fed (root_position (length bytes) (index_map k v)) xs
      fitted [] w = (root_map k v knows others bytes (tuple2_spelling k keys v vals) w.fit w.names w.start (root_position (length bytes) (index_map k v)) _ w.regions w.visits w.known w.archive).held
      fitted (x ∷ xs) w = (
        w.most,
        w.places,
        filled_map k v knows others bytes (tuple2_spelling k keys v vals) w.most w.places (map hash_of (x ∷ xs)) w.fit w.binds x xs (length-map (x ∷ xs) hash_of)
            (hashes_small k v knows others keys vals bytes key order key_of represents one_key fed query_fed fed_as_key alike hashes one (x ∷ xs)) w.suits.1
            (root_position (length bytes) (index_map k v)) _
            (root_map k v knows others bytes (tuple2_spelling k keys v vals) w.fit w.names w.start (root_position (length bytes) (index_map k v)) _ w.regions w.visits w.known w.archive) w.plain,
      )
