-- A map of which the value of one entry is written over answers for the entries with the new value.
use Rattle.std.proofs.Common.{◌≡◌, ◌∙◌, ℕ, zero, suc, ◌+◌, ◌^◌, ◌<◌, ◌≤◌, Bool, true, false, cond, List, [], ◌∷◌, length, map, get_or, slice_index, Option, Some, None, MatchOption, IsSome, Contains, inl, inr, refl, ap, sym, subst, arith}
use Rattle.std.specs.Prelude.{count_by}
use Rattle.std.specs.Map.{set_value}
use Rattle.std.specs.Option.{IsSomeAnd, option_map}
use Rattle.std.specs.List.{AllZip, find, fold}
use Rattle.std.specs.Ordering.{is_eq}
use Rattle.std.specs.declared.cmp.Ordering.{Ordering}
use Rattle.std.proofs.lemmas.Bool.{cases_Bool, cases_lt}
use Rattle.std.proofs.lemmas.List.{get_or_default}
use Rattle.std.proofs.lemmas.List.Elements.{All-contains}
use Rattle.std.proofs.lemmas.List.Sorted.{IsPermutation-map, sum_by-IsPermutation}
use Rattle.std.proofs.lemmas.List.Sums.{sum_by-cons}
use Rattle.archive_shape_layout.specs.Edit.{Apart}
use Rattle.archive_shape_layout.specs.Shape.{Shape, size_of}
use Rattle.archive_shape_layout.specs.Shape.Shape.{table}
use Rattle.archive_shape_layout.specs.Shape.Shapes.{no_shapes}
use Rattle.archive_shape_layout.specs.Value.{Value}
use Rattle.archive_shape_layout.specs.Value.Value.{group}
use Rattle.archive_shape_layout.specs.Value.Values.{no_values, more_values}
use Rattle.archive_shape_layout.specs.Content.{Names}
use Rattle.archive_shape.specs.Key.{HeldAt}
use Rattle.archive_shape_canonical.specs.Hash.{hash_words, words_of}
use Rattle.archive_forms_laws.specs.State.{State}
use Rattle.archive_forms_laws.specs.Spelling.{Spelling, state_after}
use Rattle.archive_forms_values.specs.Tuples.{tuple2}
use Rattle.archive_forms_values.specs.Fields.{field, field_position}
use Rattle.archive_forms_values.specs.Parts.{HasValue, both}
use Rattle.archive_forms_values.proofs.Held.{fields_at}
use Rattle.archive_hash_probing.specs.declared.scanning.hashing.FxHasher64.{FxHasher64}
use Rattle.archive_hash_probing.proofs.FirstFits.{tag_below}
use Rattle.archive_hash.specs.Edits.{DiffersInValue, StaysBeside}
use Rattle.archive_hash_maps.specs.Maps.{HashesTo, KeySays}
use Rattle.archive_hash_maps.specs.Places.{LooksUp}
use Rattle.archive_hash_maps.specs.Tables.{IsTableAt, item_position, item_positions}
use Rattle.archive_hash_maps.specs.Walks.{BegunMap, IsKept}
use Rattle.archive_hash_maps.proofs.Apart.{items_descend}
use Rattle.archive_hash.proofs.Edits.{stays_beside, looks_up_alike, reached_item, found_is_item}
use Rattle.archive_hash_maps.proofs.Read.{one_table}
use Rattle.archive_hash.specs.Answering.{HasEntry, AnswersKeys, first_with}
use Rattle.archive_hash.specs.Edited.{HasOnce, HasOneValue}

-- ---- lists of entries

-- the elements at one place of two lists
zip_at : {X Y : Type 0} (R : X → Y → Type 0) (xs : List X) (ys : List Y) (i : ℕ) (d : X) (e : Y) → AllZip R xs ys → i < length xs → R (get_or xs i d) (get_or ys i e)
zip_at R [] ys i d e h l = absurd (omega (arith, l))
zip_at R (x ∷ xs) [] i d e h l = absurd h
zip_at R (x ∷ xs) (y ∷ ys) zero d e h l = h.0
zip_at R (x ∷ xs) (y ∷ ys) (suc i) d e h l = zip_at R xs ys i d e h.1 (omega (arith, l))

zip_long : {X Y : Type 0} (R : X → Y → Type 0) (xs : List X) (ys : List Y) → AllZip R xs ys → length xs ≡ length ys
zip_long R [] [] h = refl
zip_long R [] (y ∷ ys) h = absurd h
zip_long R (x ∷ xs) [] h = absurd h
zip_long R (x ∷ xs) (y ∷ ys) h = ap suc (zip_long R xs ys h.1)

-- what holds of each element holds of those beside it in another list, seen otherwise
zip_as : {X Y : Type 0} (R S : X → Y → Type 0) (f : Y → Y) (xs : List X) (ys : List Y) → AllZip R xs ys → ((i : ℕ) (d : X) (y : Y) → i < length xs → R (get_or xs i d) y → S (get_or xs i d) (f y)) → AllZip S xs (map f ys)
zip_as R S f [] [] h says = tt
zip_as R S f [] (y ∷ ys) h says = absurd h
zip_as R S f (x ∷ xs) [] h says = absurd h
zip_as R S f (x ∷ xs) (y ∷ ys) h says = (says 0 x y (omega arith) h.0, zip_as R S f xs ys h.1 (λ i d z l r. says (suc i) d z (omega (arith, l)) r))

module _ {X : Type 0} (p : X → Bool) where
  counted_one : (x : X) (xs : List X) → p x ≡ true → count_by p (x ∷ xs) ≡ 1 + count_by p xs
  counted_one x xs e = sum_by-cons (λ y. cond (p y) 1 0) x xs ∙ ap (λ b. cond b 1 0 + count_by p xs) e

  counted_none : (x : X) (xs : List X) → p x ≡ false → count_by p (x ∷ xs) ≡ count_by p xs
  counted_none x xs e =
      let same : count_by p (x ∷ xs) ≡ 0 + count_by p xs = sum_by-cons (λ y. cond (p y) 1 0) x xs ∙ ap (λ b. cond b 1 0 + count_by p xs) e in
      omega (arith, same)

  counted_more : (x : X) (xs : List X) → count_by p xs ≤ count_by p (x ∷ xs)
  counted_more x xs = elim (cases_Bool (p x)) [
    | inl y ↦ let e = counted_one x xs y in omega (arith, e)
    | inr n ↦ let e = counted_none x xs n in omega (arith, e)
  ]

  -- one that passes is counted
  counts_one : (xs : List X) (i : ℕ) (d : X) → i < length xs → p (get_or xs i d) ≡ true → 1 ≤ count_by p xs
  counts_one [] i d l e = absurd (omega (arith, l))
  counts_one (x ∷ xs) zero d l e = let c = counted_one x xs e in omega (arith, c)
  counts_one (x ∷ xs) (suc i) d l e = let c = counted_more x xs in let r = counts_one xs i d (omega (arith, l)) e in omega (arith, c, r)

  -- two that pass are two
  not_twice : (xs : List X) (i j : ℕ) (d : X) → i < j → j < length xs → p (get_or xs i d) ≡ true → p (get_or xs j d) ≡ true → count_by p xs ≤ 1 → ⊥
  not_twice [] i j d l m e f once = omega (arith, m)
  not_twice (x ∷ xs) i zero d l m e f once = omega (arith, l)
  not_twice (x ∷ xs) zero (suc j) d l m e f once = let c = counted_one x xs e in let r = counts_one xs j d (omega (arith, m)) f in omega (arith, c, r, once)
  not_twice (x ∷ xs) (suc i) (suc j) d l m e f once = let c = counted_more x xs in not_twice xs i j d (omega (arith, l)) (omega (arith, m)) e f (omega (arith, c, once))

  none_passes : (xs : List X) (f : X → X) → ((x : X) → p x ≡ false → f x ≡ x) → count_by p xs ≤ 0 → map f xs ≡ xs
  none_passes [] f same none = refl
  none_passes (x ∷ xs) f same none = elim (cases_Bool (p x)) [
    | inl y ↦ absurd (let c = counted_one x xs y in omega (arith, c, none))
    | inr n ↦ let c = counted_none x xs n in ap (λ y. y ∷ map f xs) (same x n) ∙ ap (λ l. x ∷ l) (none_passes xs f same (omega (arith, c, none)))
  ]

module _ {A B : Type 0} (test : A → Bool) (b : B) where
  -- an entry, with the value where it passes
  abbrev pub edited : A × B → A × B
  edited e = cond (test e.0) (e.0, b) e

  abbrev pub passes : A × B → Bool
  passes e = test e.0

  edited_yes : (e : A × B) → test e.0 ≡ true → edited e ≡ (e.0, b)
  edited_yes e y = ap (λ c. cond c (e.0, b) e) y

  edited_no : (e : A × B) → test e.0 ≡ false → edited e ≡ e
  edited_no e n = ap (λ c. cond c (e.0, b) e) n

  same_key : (e : A × B) → (edited e).0 ≡ e.0
  same_key e = elim (cases_Bool (test e.0)) [
    | inl y ↦ ap (λ (x : A × B). x.0) (edited_yes e y)
    | inr n ↦ ap (λ (x : A × B). x.0) (edited_no e n)
  ]

  -- the first entry that passes is the only one
  set_is_map : (es : List (A × B)) → HasOnce test es → set_value test es b ≡ map edited es
  set_is_map [] once = refl
  set_is_map (e ∷ es) once = elim (cases_Bool (test e.0)) [
    | inl y ↦
        let c = counted_one passes e es y in
        let few : count_by passes (e ∷ es) ≤ 1 = once in
        let rest : map edited es ≡ es = none_passes passes es edited edited_no (omega (arith, c, few)) in
        ap (λ t. cond t ((e.0, b) ∷ es) (e ∷ set_value test es b)) y ∙ ap (λ l. (e.0, b) ∷ l) (sym rest) ∙ ap (λ x. x ∷ map edited es) (sym (edited_yes e y))
    | inr n ↦
        let c = counted_none passes e es n in
        let few : count_by passes (e ∷ es) ≤ 1 = once in
        ap (λ t. cond t ((e.0, b) ∷ es) (e ∷ set_value test es b)) n ∙ ap (λ l. e ∷ l) (set_is_map es (omega (arith, c, few))) ∙ ap (λ x. x ∷ map edited es) (sym (edited_no e n))
  ]

  -- the first with a key is the first of those before, with the value where it passes
  first_edited : (other : A → Bool) (es : List (A × B)) → find (λ e. other e.0) (map edited es) ≡ option_map edited (find (λ e. other e.0) es)
  first_edited other [] = refl
  first_edited other (e ∷ es) =
      let key : other (edited e).0 ≡ other e.0 = ap other (same_key e) in
      let rest = first_edited other es in
      elim (cases_Bool (other e.0)) [
        | inl y ↦ ap (λ t. cond t (Some (edited e)) (find (λ x. other x.0) (map edited es))) (key ∙ y) ∙ sym (ap (λ t. option_map edited (cond t (Some e) (find (λ x. other x.0) es))) y)
        | inr n ↦ ap (λ t. cond t (Some (edited e)) (find (λ x. other x.0) (map edited es))) (key ∙ n) ∙ rest ∙ sym (ap (λ t. option_map edited (cond t (Some e) (find (λ x. other x.0) es))) n)
      ]

-- what is found passes
found_passes : {X : Type 0} (p : X → Bool) (xs : List X) (x : X) → find p xs ≡ Some x → p x ≡ true
found_passes p [] x e = absurd cc
found_passes {X} p (y ∷ ys) x e = elim (cases_Bool (p y)) [
  | inl t ↦
      let here : ◌≡◌ {A = Option X} (Some y) (Some x) = sym (ap (λ b. cond b (Some y) (find p ys)) t) ∙ e in
      let same : y ≡ x = cc in
      subst (λ z. p z ≡ true) same t
  | inr f ↦ found_passes p ys x (sym (ap (λ b. cond b (Some y) (find p ys)) f) ∙ e)
]

still_some : {X : Type 0} (f : X → X) (o : Option X) → IsSome (option_map f o) → IsSome o
still_some f None h = h
still_some f (Some x) h = refl

-- ---- entries that the bytes have

-- the parts of an entry
record IsPair (k v : Shape) (knows others : Names → Type 0) (bytes : List ℕ) (at : ℕ) (entry : Value) : Type 0 where
  first : Value
  second : Value
  is : entry ≡ group (more_values first (more_values second no_values))
  key : HeldAt k knows bytes at first
  value : HeldAt v others bytes (field_position k no_shapes v at) second

pair_of : (k v : Shape) (knows others : Names → Type 0) (bytes : List ℕ) (at : ℕ) (entry : Value) → HeldAt (tuple2 k v) (both knows others) bytes at entry → IsPair k v knows others bytes at entry
pair_of k v knows others bytes at entry h =
    let parts = fields_at (field k knows ∷ field v others ∷ []) (both knows others) (λ names known. (known.0, (known.1, tt))) bytes at entry h in
    let one = parts.each in
    let two = one.rest in
    record {
      first = one.first;
      second = two.first;
      is = parts.is ∙ ap group (one.is ∙ ap (more_values one.first) (two.is ∙ ap (more_values two.first) two.rest));
      key = one.held;
      value = two.held;
    }

pairs_same : (w a b x y : Value) → w ≡ group (more_values a (more_values b no_values)) → w ≡ group (more_values x (more_values y no_values)) → (x ≡ a) × (y ≡ b)
pairs_same w a b x y e f = (cc, cc)

module _ {A B R P : Type 0} (k v : Shape) (knows others : Names → Type 0) (keys : Spelling A R) (vals : Spelling B P) (one_key_value : HasOneValue k knows) (one_value : HasOneValue v others) (bytes out : List ℕ) where
  abbrev Was : ℕ → A × B → Type 0
  Was at e = HasEntry k v knows others keys vals bytes at e

  abbrev Is : ℕ → A × B → Type 0
  Is at e = HasEntry k v knows others keys vals out at e

  -- an entry that is kept is the same
  entry_stays : (at : ℕ) (e : A × B) → IsKept (tuple2 k v) (both knows others) bytes out at → Was at e → Is at e
  entry_stays at e kept h =
      let was = pair_of k v knows others bytes at kept.value kept.was in
      let is = pair_of k v knows others out at kept.value kept.is in
      let same = pairs_same kept.value was.first was.second is.first is.second was.is is.is in
      record {
        state = h.state;
        key_held = subst (HeldAt k knows out at) (same.0 ∙ one_key_value bytes at was.first (keys.value e.0 h.state) was.key h.key_held) is.key;
        value_held = subst (HeldAt v others out (field_position k no_shapes v at)) (same.1 ∙ one_value bytes (field_position k no_shapes v at) was.second (vals.value e.1 (state_after keys e.0 h.state)) was.value h.value_held) is.value;
      }

  -- so is a key
  key_stays : (at : ℕ) (e : A × B) → IsKept k knows bytes out at → (h : Was at e) → HeldAt k knows out at (keys.value e.0 h.state)
  key_stays at e kept h = subst (HeldAt k knows out at) (one_key_value bytes at kept.value (keys.value e.0 h.state) kept.was h.key_held) kept.is

  -- an entry has another value, where its key is kept
  entry_edited : (at : ℕ) (e : A × B) (b : B) → IsKept k knows bytes out at → ((state : State) → HeldAt v others out (field_position k no_shapes v at) (vals.value b state)) → Was at e → Is at (e.0, b)
  entry_edited at e b kept held h = record { state = h.state; key_held = key_stays at e kept h; value_held = held (state_after keys e.0 h.state) }

  module _ {Q : Type 0} (key : A → Q) (order : Q → Q → Ordering) (key_of : List ℕ → ℕ → Q → Type 0)
      (was_key : (x : A) (st : State) (at : ℕ) → HeldAt k knows bytes at (keys.value x st) → key_of bytes at (key x))
      (is_key : (x : A) (st : State) (at : ℕ) → HeldAt k knows out at (keys.value x st) → key_of out at (key x))
      (one_was : (at : ℕ) (a b : Q) → key_of bytes at a → key_of bytes at b → (query : Q) → order a query ≡ order b query)
      (one_is : (at : ℕ) (a b : Q) → key_of out at a → key_of out at b → (query : Q) → order a query ≡ order b query)
      (hashes : Q → ℕ → Type 0) (small : (query : Q) (hash : ℕ) → hashes query hash → hash < 2 ^ 64) (some_hash : (query : Q) → (hash : ℕ) × hashes query hash)
      (pos : ℕ) (es : List (A × B)) (query : Q) (b : B) (at : ℕ) (a : AnswersKeys k v knows others keys vals bytes key order hashes key_of pos es)
      (has : HasValue (table (tuple2 k v)) (both knows others) bytes pos) where
    abbrev test : Q → A → Bool
    test other x = is_eq (order (key x) other)

    abbrev S : ℕ
    S = size_of (tuple2 k v)

    abbrev items : List ℕ
    items = item_positions (tuple2 k v) a.buckets

    abbrev begun : BegunMap k v knows others
    begun = record { bytes = bytes; pos = pos; buckets = a.buckets; has = has; places = a.map }

    -- entries at one position have one key
    one_test : (p : ℕ) (e f : A × B) (other : Q) → Was p e → Was p f → test other e.0 ≡ test other f.0
    one_test p e f other h g = ap is_eq (one_was p (key e.0) (key f.0) (was_key e.0 h.state p h.key_held) (was_key f.0 g.state p g.key_held) other)

    module _ (once : HasOnce (test query) es) (e : A × B) (passed : test query e.0 ≡ true) (found : Was at e) (among : Contains items at)
        (stays : StaysBeside begun at out)
        (held : (state : State) → HeldAt v others out (field_position k no_shapes v at) (vals.value b state)) where
      abbrev f : A × B → A × B
      f x = edited (test query) b x

      abbrev has_query : A × B → Bool
      has_query x = test query x.0

      once_walked : count_by has_query a.walked ≤ 1
      once_walked =
          let same : count_by has_query a.walked ≡ count_by has_query es = sum_by-IsPermutation (λ (x : A × B). cond (has_query x) 1 0) es a.walked a.permuted in
          let few : count_by has_query es ≤ 1 = once in
          omega (arith, same, few)

      walked_at : (i : ℕ) (d : ℕ) → i < length items → Was (get_or items i d) (get_or a.walked i e)
      walked_at i d l = zip_at Was items a.walked i d e a.walks l

      -- the place that is written
      abbrev place : ℕ
      place = among.0

      there : (d : ℕ) → get_or items place d ≡ at
      there d = get_or_default items place d at among.1 ∙ among.2

      passes_there : test query (get_or a.walked place e).0 ≡ true
      passes_there = one_test at (get_or a.walked place e) e query (subst (λ p. Was p (get_or a.walked place e)) (there at) (walked_at place at among.1)) found ∙ passed

      long : length items ≡ length a.walked
      long = zip_long Was items a.walked a.walks

      -- an entry at another place does not pass, and does not overlap that one
      other_place : (i : ℕ) (d : ℕ) (x : A × B) → i < length items → Was (get_or items i d) x → (i ≡ place → ⊥) → (test query x.0 ≡ true → ⊥) × Apart (get_or items i d) S at S
      other_place i d x l h other =
          let same = one_test (get_or items i d) x (get_or a.walked i e) query h (walked_at i d l) in
          let less = among.1 in
          let even = long in
          let descends = items_descend (tuple2 k v) bytes pos a.buckets a.map in
          elim (cases_lt i place) [
            | inl before ↦ ((λ taken. not_twice has_query a.walked i place e before (omega (arith, less, even)) (sym same ∙ taken) passes_there once_walked), inr (subst (λ q. q + S ≤ get_or items i d) (there d) (descends i place d before less)))
            | inr from ↦
                let behind : place < i = omega (arith, from, other) in
                ((λ taken. not_twice has_query a.walked place i e behind (omega (arith, l, even)) passes_there (sym same ∙ taken) once_walked), inl (subst (λ q. get_or items i d + S ≤ q) (there d) (descends place i d behind l)))
          ]

      -- each entry is as before, with the value where it passes
      entry_after : (i : ℕ) (d : ℕ) (x : A × B) → i < length items → Was (get_or items i d) x → Is (get_or items i d) (f x)
      entry_after i d x l h = elim (cases_lt i place) [
        | inl before ↦ elsewhere (λ is. omega (arith, before, is))
        | inr from ↦ elim (cases_lt place i) [
          | inl behind ↦ elsewhere (λ is. omega (arith, behind, is))
          | inr to ↦ here (omega (arith, from, to))
        ]
      ]
        where
          elsewhere : (i ≡ place → ⊥) → Is (get_or items i d) (f x)
          elsewhere other =
              let o = other_place i d x l h other in
              elim (cases_Bool (test query x.0)) [
                | inl y ↦ absurd (o.0 y)
                | inr n ↦ subst (Is (get_or items i d)) (sym (edited_no (test query) b x n)) (entry_stays (get_or items i d) x (stays.entries i d l o.1) h)
              ]

          here : i ≡ place → Is (get_or items i d) (f x)
          here is =
              let at_is : get_or items i d ≡ at = ap (λ j. get_or items j d) is ∙ there d in
              let taken : test query x.0 ≡ true = one_test at x e query (subst (λ p. Was p x) at_is h) found ∙ passed in
              subst (Is (get_or items i d)) (sym (edited_yes (test query) b x taken))
              (subst (λ p. Is p (x.0, b)) (sym at_is) (entry_edited at x b (All-contains (IsKept k knows bytes out) items at stays.keys among) held (subst (λ p. Was p x) at_is h)))

      -- the same of an entry at the position of an item
      after_at : (p : ℕ) (x : A × B) → Contains items p → Was p x → Is p (f x)
      after_at p x c h = subst (λ q. Is q (f x)) c.2 (entry_after c.0 p x c.1 (subst (λ q. Was q x) (sym c.2) h))

      -- comparisons of items say what they said
      says_before : (other : Q) (p : ℕ) (x : Bool) → Contains items p → KeySays key_of order out other p x → KeySays key_of order bytes other p x
      says_before other p x c s =
          let y = get_or a.walked c.0 e in
          let was : Was p y = subst (λ q. Was q y) c.2 (walked_at c.0 p c.1) in
          let kept = key_stays p y (All-contains (IsKept k knows bytes out) items p stays.keys c) was in
          (key y.0, was_key y.0 was.state p was.key_held, s.2 ∙ ap is_eq (one_is p s.0 (key y.0) s.1 (is_key y.0 was.state p kept) other))

      says_after : (other : Q) (p : ℕ) (x : Bool) → Contains items p → KeySays key_of order bytes other p x → KeySays key_of order out other p x
      says_after other p x c s =
          let y = get_or a.walked c.0 e in
          let was : Was p y = subst (λ q. Was q y) c.2 (walked_at c.0 p c.1) in
          let kept = key_stays p y (All-contains (IsKept k knows bytes out) items p stays.keys c) was in
          (key y.0, is_key y.0 was.state p kept, s.2 ∙ ap is_eq (one_was p s.0 (key y.0) s.1 (was_key y.0 was.state p was.key_held) other))

      -- what a look-up finds is an item, so that its entry is as before, with the value where it passes
      finds_after : (other : Q) (o : Option ℕ) (first : Option (A × B)) → ((p : ℕ) → o ≡ Some p → Contains items p)
          → MatchOption first (o ≡ None) (λ x. IsSomeAnd o (λ p. Was p x)) → MatchOption (option_map f first) (o ≡ None) (λ x. IsSomeAnd o (λ p. Is p x))
      finds_after other o None item h = h
      finds_after other None (Some x) item h = h
      finds_after other (Some p) (Some x) item h = after_at p x (item p refl) h

      pub edited_answers : AnswersKeys k v knows others keys vals out key order hashes key_of pos (set_value (test query) es b)
      edited_answers =
          let is = set_is_map (test query) b es once in
          subst (AnswersKeys k v knows others keys vals out key order hashes key_of pos) (sym is)
          (record {
            buckets = a.buckets;
            map = stays.table;
            walked = map f a.walked;
            permuted = IsPermutation-map f es a.walked a.permuted;
            walks = zip_as Was Is f items a.walked a.walks entry_after;
            finds = λ other hash n o h looks.
                let before = looks_up_alike (KeySays key_of order out other) (KeySays key_of order bytes other) (tuple2 k v) out pos a.buckets hash n (tag_below hash (small other hash h)) (λ p x c s. says_before other p x c s) o stays.table looks in
                subst (λ first. MatchOption first (o ≡ None) (λ x. IsSomeAnd o (λ p. Is p x))) (sym (first_edited (test query) b (test other) es))
                (finds_after other o (first_with k v knows others keys vals bytes key order other es) (λ p is_found. found_is_item (KeySays key_of order bytes other) (tuple2 k v) bytes pos a.buckets hash n p a.map (subst (λ q. LooksUp (KeySays key_of order bytes other) (tuple2 k v) a.buckets hash q n) is_found before)) (a.finds other hash n o h before));
            has = λ other some.
                let had = a.has other (still_some f (first_with k v knows others keys vals bytes key order other es) (subst IsSome (first_edited (test query) b (test other) es) some)) in
                let one = one_table bytes (tuple2 k v) pos a.buckets had.buckets a.map had.map in
                let hash = some_hash other in
                let reached = had.reached hash.0 hash.1 in
                let tag = tag_below hash.0 (small other hash.0 hash.1) in
                let full : slice_index had.buckets.controls had.place < 128 = let is_tag = reached.1 in omega (arith, tag, is_tag) in
                let c = reached_item (tuple2 k v) bytes pos had.buckets hash.0 had.place had.map reached.0 full in
                record {
                  buckets = had.buckets;
                  place = had.place;
                  map = subst (IsTableAt out (tuple2 k v) pos) one stays.table;
                  reached = had.reached;
                  equal = says_after other (item_position (tuple2 k v) had.buckets.target had.place) true (subst (λ bs. Contains (item_positions (tuple2 k v) bs) (item_position (tuple2 k v) had.buckets.target had.place)) (sym one) c) had.equal;
                };
          })

    -- the entry that a look-up of the query finds has the value written over
    pub edit_answers : (hash n : ℕ) (o : Option ℕ) → hashes query hash → Some at ≡ option_map (λ p. p) o → LooksUp (KeySays key_of order bytes query) (tuple2 k v) a.buckets hash o n
        → HasOnce (test query) es → DiffersInValue k v at bytes out → ((state : State) → HeldAt v others out (field_position k no_shapes v at) (vals.value b state))
        → AnswersKeys k v knows others keys vals out key order hashes key_of pos (set_value (test query) es b)
    edit_answers hash n None h is looks once d held = absurd cc
    edit_answers hash n (Some p) h is looks once d held =
        let same : p ≡ at = (let e : Some at ≡ Some p = is in cc) in
        let here : LooksUp (KeySays key_of order bytes query) (tuple2 k v) a.buckets hash (Some at) n = subst (λ q. LooksUp (KeySays key_of order bytes query) (tuple2 k v) a.buckets hash (Some q) n) same looks in
        let among = found_is_item (KeySays key_of order bytes query) (tuple2 k v) bytes pos a.buckets hash n at a.map here in
        by_first among (stays_beside begun at out among d) (first_with k v knows others keys vals bytes key order query es) refl (a.finds query hash n (Some at) h here)
      where
        by_first : Contains items at → StaysBeside begun at out → (first : Option (A × B)) → first_with k v knows others keys vals bytes key order query es ≡ first
            → MatchOption first (Some at ≡ None) (λ x. IsSomeAnd (Some at) (λ q. Was q x))
            → AnswersKeys k v knows others keys vals out key order hashes key_of pos (set_value (test query) es b)
        by_first among stays None first found = absurd cc
        by_first among stays (Some e) first found = edited_answers once e (found_passes (λ (x : A × B). test query x.0) es e first) found among stays held

-- ---- the hashes of `FxHasher64`

abbrev fx_write : FxHasher64 → List ℕ → FxHasher64
fx_write h bytes = record { state = hash_words h.state (words_of bytes) }

abbrev fx_first : FxHasher64
fx_first = record { state = 0 }

abbrev pub fx_hashes : List (List ℕ) → ℕ → Type 0
fx_hashes input hash = HashesTo {H = FxHasher64} (λ h. h.state ≡ 0) fx_write (λ h. h.state) input hash

-- each input has one
pub fx_some : (input : List (List ℕ)) → (hash : ℕ) × fx_hashes input hash
fx_some input = ((fold fx_write fx_first input).state, (fx_first, refl, refl))
