-- An archived map has the entries that it was written of, and answers their keys.
use Rattle.std.proofs.Common.{◌≡◌, ◌∙◌, ℕ, zero, suc, ◌^◌, ◌<◌, Bool, true, false, cond, List, [], ◌∷◌, length, map, get_or, slice_index, Option, Some, None, MatchOption, IsSome, inl, inr, refl, ap, sym, subst, arith}
use Rattle.std.specs.Option.{IsSomeAnd, option_map}
use Rattle.std.specs.List.{AllZip, find}
use Rattle.std.specs.Ordering.{is_eq}
use Rattle.std.specs.declared.cmp.Ordering.{Ordering}
use Rattle.std.proofs.lemmas.Bool.{cases_Bool, cases_lt}
use Rattle.std.proofs.lemmas.List.{length-map, get_or-map}
use Rattle.std.proofs.lemmas.List.Elements.{All-nil, All-cons}
use Rattle.std.proofs.lemmas.List.Sorted.{IsPermutation-refl}
use Rattle.archive_shape_layout.specs.Shape.{Shape}
use Rattle.archive_shape_layout.specs.Shape.Shape.{table}
use Rattle.archive_shape_layout.specs.Shape.Shapes.{no_shapes}
use Rattle.archive_shape_layout.specs.Value.{Value, Values}
use Rattle.archive_shape_layout.specs.Value.Value.{group}
use Rattle.archive_shape_layout.specs.Value.Values.{no_values, more_values}
use Rattle.archive_shape_layout.specs.Content.{Names}
use Rattle.archive_shape_layout.specs.Holds.{root_position}
use Rattle.archive_shape.specs.Key.{HeldAt}
use Rattle.archive_forms_values.specs.Tuples.{tuple2}
use Rattle.archive_forms_values.specs.Fields.{field, field_position}
use Rattle.archive_forms_values.specs.Parts.{both}
use Rattle.archive_forms_values.proofs.Held.{fields_at}
use Rattle.archive_forms_values.proofs.Rooted.{root_held}
use Rattle.archive_forms_laws.specs.State.{State}
use Rattle.archive_forms_laws.specs.Spelling.{Spelling, state_after}
use Rattle.archive_forms_laws.specs.Fields.{tuple2_spelling}
use Rattle.archive_shape_canonical.specs.FirstFit.{hash_tag, written_controls}
use Rattle.archive_shape_canonical.specs.Reach.{Reaches, searched}
use Rattle.archive_shape_canonical.specs.Strides.{strides}
use Rattle.archive_hash_probing.specs.Inputs.{input_hash}
use Rattle.archive_hash_probing.specs.Search.{IsAnswer, IsLookup}
use Rattle.archive_hash_probing.proofs.Counts.{none_accepted}
use Rattle.archive_hash_probing.proofs.FirstFits.{Tags}
use Rattle.archive_hash_probing.proofs.FirstHandedIn.{first_handed_in}
use Rattle.archive_hash_probing.proofs.Fit.{IsFirstFit}
use Rattle.archive_hash_probing.proofs.Reached.{written_reaches, written_tag}
use Rattle.archive_hash_probing.proofs.Small.{input_hash_small}
use Rattle.archive_hash_probing.proofs.Walks.{answer_as}
use Rattle.archive_hash_maps.specs.Tables.{Buckets, IsTableAt, no_buckets, item_position, item_positions}
use Rattle.archive_hash_maps.specs.Places.{LooksUp}
use Rattle.archive_hash_maps.specs.Places.LooksUp.{has_no_places, has_places}
use Rattle.archive_hash_maps.specs.Maps.{KeySays, HasKey}
use Rattle.archive_hash_maps.proofs.Found.{none_looked_up}
use Rattle.archive_hash_writing.specs.Fitted.{capacity_of, places_of, by_place, controls_of}
use Rattle.archive_hash_writing.proofs.SpellingFitting.{above, are_apart, by_place_moved, length-places, places_fit}
use Rattle.archive_hash_writing.proofs.WrittenItems.{HasItem, IsFilledTable, HasWrittenPlaces, root_places, filled_table, empty_table}
use Rattle.archive_hash.specs.Answering.{IsWrittenMap, HasEntry, AnswersKeys, first_with, map_spelling}

-- ---- the first element that passes

first_passes : {X : Type 0} (p : X → Bool) (y : X) (ys : List X) (d : X) (i : ℕ) → p y ≡ false → ((j : ℕ) → j < i → p (get_or ys j d) ≡ false)
    → (j : ℕ) → j < suc i → p (get_or (y ∷ ys) j d) ≡ false
first_passes p y ys d i fails before zero l = fails
first_passes p y ys d i fails before (suc j) l = before j (omega (arith, l))

first_found : {X : Type 0} (p : X → Bool) (d : X) (xs : List X) (x : X) → find p xs ≡ Some x
    → (i : ℕ) × (i < length xs) × (get_or xs i d ≡ x) × (p x ≡ true) × ((j : ℕ) → j < i → p (get_or xs j d) ≡ false)
first_found p d [] x e = absurd cc
first_found {X} p d (y ∷ ys) x e = elim (cases_Bool (p y)) [
  | inl t ↦
      let here : ◌≡◌ {A = Option X} (Some y) (Some x) = sym (ap (λ b. cond b (Some y) (find p ys)) t) ∙ e in
      let same : y ≡ x = cc in
      (0, omega arith, same, subst (λ z. p z ≡ true) same t, λ j l. absurd (omega (arith, l)))
  | inr f ↦
      let r = first_found p d ys x (sym (ap (λ b. cond b (Some y) (find p ys)) f) ∙ e) in
      let l = r.1 in
      (suc r.0, omega (arith, l), r.2, r.3, first_passes p y ys d r.0 f r.4)
]

none_passes : {X : Type 0} (p : X → Bool) (d : X) (xs : List X) → find p xs ≡ None → (i : ℕ) → i < length xs → p (get_or xs i d) ≡ false
none_passes p d [] e i l = absurd (omega (arith, l))
none_passes {X} p d (y ∷ ys) e i l = elim (cases_Bool (p y)) [
  | inl t ↦ absurd (let here : ◌≡◌ {A = Option X} (Some y) None = sym (ap (λ b. cond b (Some y) (find p ys)) t) ∙ e in cc)
  | inr f ↦ first_passes p y ys d (length ys) f (none_passes p d ys (sym (ap (λ b. cond b (Some y) (find p ys)) f) ∙ e)) i l
]

-- the values of a pair
pair_is : (a b x y : Value) (vs us ws : Values) → group (more_values a (more_values b no_values)) ≡ group vs → vs ≡ more_values x us → us ≡ more_values y ws → (x ≡ a) × (y ≡ b)
pair_is a b x y vs us ws e f g = (cc, cc)

module _ {A B R P : Type 0} (k v : Shape) (knows others : Names → Type 0) (keys : Spelling A R) (vals : Spelling B P) (bytes : List ℕ) where
  abbrev Item : ℕ → A × B → Type 0
  Item at e = HasItem (tuple2 k v) (both knows others) bytes (tuple2_spelling k keys v vals) at e

  abbrev Entry : ℕ → A × B → Type 0
  Entry at e = HasEntry k v knows others keys vals bytes at e

  -- an item is an entry
  pub entry_held : (at : ℕ) (e : A × B) → Item at e → Entry at e
  entry_held at e h =
      let parts = fields_at (field k knows ∷ field v others ∷ []) (both knows others) (λ names known. (known.0, (known.1, tt))) bytes at ((tuple2_spelling k keys v vals).value e h.0) h.1 in
      let first = parts.each in
      let second = first.rest in
      let are = pair_is (keys.value e.0 h.0) (vals.value e.1 (state_after keys e.0 h.0)) first.first second.first parts.values first.others second.others parts.is first.is second.is in
      record {
        state = h.0;
        key_held = subst (HeldAt k knows bytes at) are.0 first.held;
        value_held = subst (HeldAt v others bytes (field_position k no_shapes v at)) are.1 second.held;
      }

  all_held : (ps : List ℕ) (es : List (A × B)) → AllZip Item ps es → AllZip Entry ps es
  all_held [] [] h = tt
  all_held [] (e ∷ es) h = absurd h
  all_held (p ∷ ps) [] h = absurd h
  all_held (p ∷ ps) (e ∷ es) h = (entry_held p e h.0, all_held ps es h.1)

  -- the layout has the table of entries at a position, with the places and the controls that are written of them
  pub record IsEntryTable (fed : A → List (List ℕ)) (pos : ℕ) (es : List (A × B)) : Type 0 where
    pub most : ℕ
    pub places : ℕ
    pub state : State
    pub held : HeldAt (table (tuple2 k v)) (both knows others) bytes pos ((map_spelling k v knows others keys vals bytes most places fed).value es state)
    pub written : 0 < length es → HasWrittenPlaces (tuple2 k v) (both knows others) bytes (tuple2_spelling k keys v vals) most places (map (λ e. input_hash (fed e.0)) es) pos es state

  module _ {Q : Type 0} (key : A → Q) (order : Q → Q → Ordering) (key_of : List ℕ → ℕ → Q → Type 0)
      (represents : (x : A) (st : State) (pos : ℕ) → HeldAt k knows bytes pos (keys.value x st) → key_of bytes pos (key x))
      (one_key : (pos : ℕ) (a b : Q) → key_of bytes pos a → key_of bytes pos b → (query : Q) → order a query ≡ order b query) where
    abbrev Says : Q → ℕ → Bool → Type 0
    Says query at x = KeySays key_of order bytes query at x

    entry_key : (at : ℕ) (e : A × B) → Entry at e → key_of bytes at (key e.0)
    entry_key at e h = represents e.0 h.state at h.key_held

    -- the key of an entry is compared as the key that it was written of
    told : (at : ℕ) (e : A × B) → Entry at e → (query : Q) (x : Bool) → Says query at x → x ≡ is_eq (order (key e.0) query)
    told at e h query x s = s.2 ∙ ap is_eq (one_key at s.0 (key e.0) s.1 (entry_key at e h) query)

    module _ (fed : A → List (List ℕ)) (query_fed : Q → List (List ℕ)) (fed_as_key : (x : A) → fed x ≡ query_fed (key x))
        (alike : (a b : Q) → is_eq (order a b) ≡ true → query_fed a ≡ query_fed b)
        (hashes : Q → ℕ → Type 0) (one : (query : Q) (hash : ℕ) → hashes query hash → hash ≡ input_hash (query_fed query)) where
      abbrev hash_of : A × B → ℕ
      hash_of e = input_hash (fed e.0)

      pub hashes_small : (es : List (A × B)) → Tags (map hash_of es)
      hashes_small [] = All-nil (λ h. h < 2 ^ 64)
      hashes_small (e ∷ es) = All-cons (λ h. h < 2 ^ 64) (hash_of e) (map hash_of es) (input_hash_small (fed e.0)) (hashes_small es)

      -- of entries at their first fits: `Position` is where the entry of a place lies
      module _ (most places : ℕ) (d : A × B) (es : List (A × B)) (some : 0 < length es) (Cap : ℕ) (controls : List ℕ) (Position : ℕ → ℕ)
          (cap : Cap ≡ capacity_of most places (map hash_of es) es) (shown : controls ≡ controls_of most places (map hash_of es) es)
          (entry_at : (i : ℕ) → i < length es → Entry (Position (get_or (places_of most places (map hash_of es) es) i 0)) (get_or es i d)) where
        abbrev Hashes : List ℕ
        Hashes = map hash_of es

        abbrev Places : List ℕ
        Places = places_of most places Hashes es

        even : length Hashes ≡ length es
        even = length-map es hash_of

        some_places : 0 < Cap
        some_places = let more = above most places Hashes es even some in omega (arith, more, cap)

        fits : IsFirstFit Cap [] Hashes Places
        fits = subst (λ n. IsFirstFit n [] Hashes Places) (sym cap) (places_fit most places Hashes es even some)

        controls_are : controls ≡ written_controls Cap Hashes Places
        controls_are = shown ∙ ap (λ n. written_controls n Hashes Places) (sym cap)

        same_index : (i j : ℕ) → i < length es → j < length es → get_or Places i 0 ≡ get_or Places j 0 → i ≡ j
        same_index i j l m e =
            let long = length-places most places Hashes es even some in
            let apart = are_apart most places Hashes es even some in
            elim (cases_lt i j) [
              | inl less ↦ absurd (apart i j less (omega (arith, long, m)) e)
              | inr from ↦ elim (cases_lt j i) [
                | inl less ↦ absurd (apart j i less (omega (arith, long, l)) (sym e))
                | inr to ↦ omega (arith, from, to)
              ]
            ]

        module _ (query : Q) where
          abbrev equals : ℕ → Bool
          equals i = is_eq (order (key (get_or es i d).0) query)

          -- what is said of the entry at a place
          abbrev At : Bool → ℕ → Type 0
          At x p = (i : ℕ) → i < length es → get_or Places i 0 ≡ p → equals i ≡ x

          at_place : (x : Bool) (p : ℕ) → Says query (Position p) x → At x p
          at_place x p s i l is = sym (told (Position p) (get_or es i d) (subst (λ q. Entry (Position q) (get_or es i d)) is (entry_at i l)) query x s)

          not_both : (p i : ℕ) → i < length es → get_or Places i 0 ≡ p → At true p → At false p → ⊥
          not_both p i l is taken turned = let y = taken i l is in let n = turned i l is in absurd cc

          own_hash : (i : ℕ) → i < length es → equals i ≡ true → get_or Hashes i 0 ≡ input_hash (query_fed query)
          own_hash i l e = get_or-map hash_of es i d 0 l ∙ ap input_hash (fed_as_key (get_or es i d).0 ∙ alike (key (get_or es i d).0) query e)

          module _ (hash n : ℕ) (place : Option ℕ) (is_hash : hash ≡ input_hash (query_fed query))
              (a : IsLookup (λ p x. Says query (Position p) x) controls Cap hash place n) where
            answer : IsAnswer (At true) (At false) controls Cap (hash_tag hash) (searched controls (strides hash Cap)) place n
            answer =
                answer_as (λ p. Says query (Position p) true) (λ p. Says query (Position p) false) (At true) (At false) controls Cap (hash_tag hash)
                (searched controls (strides hash Cap)) place n (at_place true) (at_place false) a

            first_is : (j : ℕ) → j < length es → equals j ≡ true → ((i : ℕ) → i < j → equals i ≡ false) → place ≡ Some (get_or Places j 0)
            first_is j l passed before =
                first_handed_in (At true) (At false) controls Cap hash Hashes Places place n j some_places (hashes_small es) fits controls_are answer
                (λ i m y x. not_both (get_or Places i 0) i (omega (arith, m, even)) refl y x)
                (λ i m y. own_hash i (omega (arith, m, even)) (y i (omega (arith, m, even)) refl) ∙ sym is_hash)
                (omega (arith, l, even))
                (λ i m is. subst (λ x. equals x ≡ true) (sym (same_index i j m l is)) passed)
                (λ i less y. let no = before i less in let here = y i (omega (arith, less, l)) refl in absurd cc)

            none_is : ((i : ℕ) → i < length es → equals i ≡ false) → place ≡ None
            none_is none =
                none_accepted (At true) (At false) controls Cap hash (hash_tag hash) Hashes Places place n some_places (hashes_small es) fits controls_are answer
                (λ i m y. let no = none i (omega (arith, m, even)) in let here = y i (omega (arith, m, even)) refl in absurd cc)

          abbrev passes : A × B → Bool
          passes e = is_eq (order (key e.0) query)

          -- the first entry that passes
          pub record IsFirst (e : A × B) : Type 0 where
            pub index : ℕ
            pub within : index < length es
            pub is : get_or es index d ≡ e
            pub passed : equals index ≡ true
            pub before : (i : ℕ) → i < index → equals i ≡ false
            pub entry : Entry (Position (get_or Places index 0)) e

          pub first_entry : (e : A × B) → first_with k v knows others keys vals bytes key order query es ≡ Some e → IsFirst e
          first_entry e first =
              let f = first_found passes d es e first in
              record {
                index = f.0;
                within = f.1;
                is = f.2;
                passed = subst (λ x. passes x ≡ true) (sym f.2) f.3;
                before = f.4;
                entry = subst (Entry (Position (get_or Places f.0 0))) f.2 (entry_at f.0 f.1);
              }

          -- the place that a look-up finds
          pub place_found : (hash n : ℕ) (place : Option ℕ) → hash ≡ input_hash (query_fed query)
              → IsLookup (λ p x. Says query (Position p) x) controls Cap hash place n
              → (o : Option (A × B)) → first_with k v knows others keys vals bytes key order query es ≡ o
              → MatchOption o (place ≡ None) (λ e. (f : IsFirst e) × (place ≡ Some (get_or Places f.index 0)))
          place_found hash n place is_hash a None none = none_is hash n place is_hash a (none_passes passes d es none)
          place_found hash n place is_hash a (Some e) first =
              let f = first_entry e first in
              (f, first_is hash n place is_hash a f.index f.within f.passed f.before)

      -- what is found is told of the first entry with the key, and nothing is found if there is none
      abbrev pub FindsTold : (Told : ℕ → A × B → Type 0) → Q → List (A × B) → Option ℕ → Type 0
      FindsTold Told query es found = MatchOption (first_with k v knows others keys vals bytes key order query es) (found ≡ None) (λ e. IsSomeAnd found (λ at. Told at e))

      -- ---- a table of entries

      module _ (most places : ℕ) (d : A × B) (es : List (A × B)) (some : 0 < length es) (pos : ℕ)
          (t : IsFilledTable (tuple2 k v) (both knows others) bytes (tuple2_spelling k keys v vals) most places (map hash_of es) pos es) where
        abbrev Spot : ℕ → ℕ
        Spot p = item_position (tuple2 k v) t.buckets.target p

        held_at : (i : ℕ) → i < length es → Entry (Spot (get_or (places_of most places (map hash_of es) es) i 0)) (get_or es i d)
        held_at i l = entry_held (Spot (get_or (places_of most places (map hash_of es) es) i 0)) (get_or es i d) (t.each i d l)

        -- what is told of each entry at its position is told of what a look-up finds
        module _ (Told : ℕ → A × B → Type 0) (told_at : (i : ℕ) → i < length es → Told (Spot (get_or (places_of most places (map hash_of es) es) i 0)) (get_or es i d)) (query : Q) where
          found_by : (hash n : ℕ) (found place : Option ℕ) → hash ≡ input_hash (query_fed query) → found ≡ option_map Spot place
              → IsLookup (λ p x. Says query (Spot p) x) t.buckets.controls t.buckets.cap hash place n
              → (o : Option (A × B)) → first_with k v knows others keys vals bytes key order query es ≡ o
              → MatchOption o (found ≡ None) (λ e. IsSomeAnd found (λ at. Told at e))
          found_by hash n found place is_hash is a None none =
              is ∙ ap (option_map Spot) (place_found most places d es some t.buckets.cap t.buckets.controls Spot t.cap t.controls held_at query hash n place is_hash a None none)
          found_by hash n found place is_hash is a (Some e) first =
              let f = place_found most places d es some t.buckets.cap t.buckets.controls Spot t.cap t.controls held_at query hash n place is_hash a (Some e) first in
              subst (λ o. IsSomeAnd o (λ at. Told at e)) (sym (is ∙ ap (option_map Spot) f.1))
              (subst (Told (Spot (get_or (places_of most places (map hash_of es) es) f.0.index 0))) f.0.is (told_at f.0.index f.0.within))

          looked_up : (hash n : ℕ) (found : Option ℕ) → hashes query hash → LooksUp (Says query) (tuple2 k v) t.buckets hash found n → FindsTold Told query es found
          looked_up hash n found h (has_no_places none e f) = absurd (let more = above most places (map hash_of es) es (length-map es hash_of) some in let is = t.cap in omega (arith, none, more, is))
          looked_up hash n found h (has_places place is a) = found_by hash n found place (one query hash h) is a (first_with k v knows others keys vals bytes key order query es) refl

        module _ (query : Q) where
          -- the map has the key
          has_first : (o : Option (A × B)) → first_with k v knows others keys vals bytes key order query es ≡ o → IsSome o → HasKey (hashes query) key_of order bytes k v pos query
          has_first None none h = absurd cc
          has_first (Some e) first h =
              let Hashes : List ℕ = map hash_of es in
              let Places : List ℕ = places_of most places Hashes es in
              let Cap : ℕ = t.buckets.cap in
              let f = first_entry most places d es some Cap t.buckets.controls Spot t.cap t.controls held_at query e first in
              let own : get_or Hashes f.index 0 ≡ input_hash (query_fed query) = own_hash most places d es some Cap t.buckets.controls Spot t.cap t.controls held_at query f.index f.within f.passed in
              let place = get_or Places f.index 0 in
              let even = length-map es hash_of in
              let more = above most places Hashes es even some in
              let some_places : 0 < Cap = let is = t.cap in omega (arith, more, is) in
              let fits : IsFirstFit Cap [] Hashes Places = subst (λ n. IsFirstFit n [] Hashes Places) (sym t.cap) (places_fit most places Hashes es even some) in
              let controls_are : t.buckets.controls ≡ written_controls Cap Hashes Places = t.controls ∙ ap (λ n. written_controls n Hashes Places) (sym t.cap) in
              let low : f.index < length Hashes = let l = f.within in omega (arith, l, even) in
              record {
                buckets = t.buckets;
                place = place;
                map = t.table;
                reached = λ hash is.
                    let hash_is : get_or Hashes f.index 0 ≡ hash = own ∙ sym (one query hash is) in (
                      subst (λ x. Reaches t.buckets.controls x Cap place) hash_is
                          (subst (λ cs. Reaches cs (get_or Hashes f.index 0) Cap place) (sym controls_are) (written_reaches Cap Hashes Places f.index some_places (hashes_small es) fits low)),
                      ap (λ cs. slice_index cs place) controls_are ∙ written_tag Cap Hashes Places f.index some_places fits low ∙ ap hash_tag hash_is,
                    );
                equal = (key e.0, entry_key (Spot place) e f.entry, sym (subst (λ (x : A × B). is_eq (order (key x.0) query) ≡ true) f.is f.passed));
              }

        table_answers : AnswersKeys k v knows others keys vals bytes key order hashes key_of pos es
        table_answers = record {
          buckets = t.buckets;
          map = t.table;
          walked = by_place most places (map hash_of es) es;
          permuted = by_place_moved most places (map hash_of es) es (length-map es hash_of) some;
          walks = all_held (item_positions (tuple2 k v) t.buckets) (by_place most places (map hash_of es) es) t.all;
          finds = λ query hash n found h looks. looked_up Entry held_at query hash n found h looks;
          has = λ query some. has_first query (first_with k v knows others keys vals bytes key order query es) refl some;
        }

      pub table_of_entries_answers : (pos : ℕ) (es : List (A × B)) → IsEntryTable fed pos es → AnswersKeys k v knows others keys vals bytes key order hashes key_of pos es
      table_of_entries_answers pos [] t =
          record {
            buckets = no_buckets;
            map = empty_table (tuple2 k v) (both knows others) bytes (tuple2_spelling k keys v vals) pos t.held;
            walked = [];
            permuted = IsPermutation-refl [];
            walks = tt;
            finds = λ query hash n found h looks. none_looked_up (Says query) (tuple2 k v) hash n found looks;
            has = λ query some. absurd cc;
          }
      table_of_entries_answers pos (e ∷ es) t =
          table_answers t.most t.places e (e ∷ es) (omega arith) pos
          (filled_table (tuple2 k v) (both knows others) bytes (tuple2_spelling k keys v vals) t.most t.places (map hash_of (e ∷ es)) e es (length-map (e ∷ es) hash_of) (hashes_small (e ∷ es)) pos t.state t.held (t.written (omega arith)))

      -- look-ups in the table at a position find what this is told of
      pub record FindsIn (Told : ℕ → A × B → Type 0) (pos : ℕ) (es : List (A × B)) : Type 0 where
        pub buckets : Buckets
        pub there : IsTableAt bytes (tuple2 k v) pos buckets
        pub finds : (query : Q) (hash n : ℕ) (found : Option ℕ) → hashes query hash → LooksUp (Says query) (tuple2 k v) buckets hash found n → FindsTold Told query es found

      pub table_of_entries_finds : (Told : ℕ → A × B → Type 0) (pos : ℕ) (es : List (A × B)) (t : IsEntryTable fed pos es)
          → ((b : Buckets) → IsTableAt bytes (tuple2 k v) pos b → (i : ℕ) (d : A × B) → i < length es
          → Told (item_position (tuple2 k v) b.target (get_or (places_of t.most t.places (map hash_of es) es) i 0)) (get_or es i d))
          → FindsIn Told pos es
      table_of_entries_finds Told pos [] t each = record {
        buckets = no_buckets;
        there = empty_table (tuple2 k v) (both knows others) bytes (tuple2_spelling k keys v vals) pos t.held;
        finds = λ query hash n found h looks. none_looked_up (Says query) (tuple2 k v) hash n found looks;
      }
      table_of_entries_finds Told pos (e ∷ es) t each =
          let own = filled_table (tuple2 k v) (both knows others) bytes (tuple2_spelling k keys v vals) t.most t.places (map hash_of (e ∷ es)) e es (length-map (e ∷ es) hash_of) (hashes_small (e ∷ es)) pos t.state t.held (t.written (omega arith)) in
          record {
            buckets = own.buckets;
            there = own.table;
            finds = looked_up t.most t.places e (e ∷ es) (omega arith) pos own Told (λ i l. each own.buckets own.table i e l);
          }

      root_written : (es : List (A × B)) (m : IsWrittenMap k v knows others keys vals bytes fed es) → 0 < length es
          → HasWrittenPlaces (tuple2 k v) (both knows others) bytes (tuple2_spelling k keys v vals) m.most m.places (map hash_of es) (root_position (length bytes) (table (tuple2 k v))) es m.state
      root_written [] m some = absurd (omega (arith, some))
      root_written (e ∷ es) m some =
          root_places (tuple2 k v) (both knows others) bytes (tuple2_spelling k keys v vals) m.most m.places (map hash_of (e ∷ es)) m.fit m.binds e es (length-map (e ∷ es) hash_of) m.suits.1
          m.names m.start (root_position (length bytes) (table (tuple2 k v))) m.state m.regions m.visits m.archive m.plain

      pub map_answers : (es : List (A × B)) → IsWrittenMap k v knows others keys vals bytes fed es
          → AnswersKeys k v knows others keys vals bytes key order hashes key_of (root_position (length bytes) (table (tuple2 k v))) es
      map_answers es m =
          let s = table (tuple2 k v) in
          let pos = root_position (length bytes) s in
          table_of_entries_answers pos es (record {
            most = m.most;
            places = m.places;
            state = m.state;
            held = root_held s (both knows others) m.names bytes pos ((map_spelling k v knows others keys vals bytes m.most m.places fed).value es m.state) m.regions m.visits m.known m.archive.root;
            written = root_written es m;
          })
