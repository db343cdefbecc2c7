-- A written table: its places, its controls, and the item that lies at each place, at the root of an archive or anywhere.
use Rattle.std.proofs.Common.{◌≡◌, ◌∙◌, ℕ, zero, suc, ◌+◌, ◌^◌, ◌<◌, ◌≤◌, Bool, true, false, cond, Option, Some, None, List, [], ◌∷◌, length, map, filter, get_or, slice_index, inl, inr, refl, ap, sym, subst, arith, lt-ltb, ltb-true}
use Rattle.std.specs.Prelude.{nat_lt}
use Rattle.std.specs.List.{All, AllZip, range_with_len, cons_option}
use Rattle.std.proofs.lemmas.Bool.{cases_eq}
use Rattle.std.proofs.lemmas.List.{length-map}
use Rattle.archive_shape_layout.specs.Bytes.{word_at, target_from}
use Rattle.archive_shape_layout.specs.Shape.{Shape}
use Rattle.archive_shape_layout.specs.Shape.Shape.{table}
use Rattle.archive_shape_layout.specs.Value.{Value, Values, count_values}
use Rattle.archive_shape_layout.specs.Value.Value.{group}
use Rattle.archive_shape_layout.specs.Value.Values.{no_values, more_values}
use Rattle.archive_shape_layout.specs.Content.{Names, members}
use Rattle.archive_shape_layout.specs.Content.Item.{item}
use Rattle.archive_shape_layout.specs.Content.Part.{at, buckets}
use Rattle.archive_shape_layout.specs.Content.Label.{same}
use Rattle.archive_shape_layout.specs.Holds.{Region, Visit}
use Rattle.archive_shape.specs.Key.{HeldAt}
use Rattle.archive_shape_layout.proofs.Windows.{word_within}
use Rattle.archive_shape_canonical.proofs.Choosing.{choices, IsFilledAs, settled_chosen}
use Rattle.archive_shape_canonical.specs.FirstFit.{item_at, present, control_at}
use Rattle.archive_shape_canonical.specs.Seen.{keys_alone}
use Rattle.archive_shape_canonical.specs.Settled.{Fit, IsAsked, IsSettled}
use Rattle.archive_shape_canonical.specs.Sharing.{erased}
use Rattle.archive_shape_canonical.specs.Canonical.{CanonicalArchive}
use Rattle.archive_hash_probing.proofs.FirstFits.{written_low}
use Rattle.archive_forms_laws.specs.State.{State}
use Rattle.archive_forms_laws.specs.Spelling.{Spelling, state_after}
use Rattle.archive_forms_laws.specs.Regions.{values, plain_values}
use Rattle.archive_forms_values.proofs.Targets.{first_word}
use Rattle.archive_hash_maps.specs.Tables.{Buckets, no_buckets, full_places, item_position, item_positions, IsTableAt, AreItemsAt}
use Rattle.archive_hash_maps.specs.Tables.IsTableAt.{has_none, has_buckets}
use Rattle.archive_hash_maps.proofs.Read.{table_is_read}
use Rattle.archive_hash_writing.specs.Fitted.{capacity_of, places_of, by_place, controls_of}
use Rattle.archive_hash_writing.specs.Tables.{IsFilledBy, IsFilledSo}
use Rattle.archive_hash_writing.proofs.Rooted.{made_one, root_settled}
use Rattle.archive_hash_writing.proofs.SpellingPresent.{item_own}
use Rattle.archive_hash_writing.proofs.SpellingFitting.{length-by_place, length-places, places_below, are_apart}
use Rattle.archive_hash_writing.proofs.SpellingTables.{filled_content, count_of}
use Rattle.archive_hash_writing.proofs.Tagged.{IsTagOf, item_tagged}

-- ---- the item at each place

module _ {A R : Type 0} (s : Shape) (knows : Names → Type 0) (bytes : List ℕ) (w : Spelling A R) where
  -- an item lies at a position
  abbrev pub HasItem : ℕ → A → Type 0
  HasItem pos x = (st : State) × HeldAt s knows bytes pos (w.value x st)

  module _ (target : ℕ) (controls : List ℕ) (f : ℕ → Option A) where
    abbrev Full : ℕ → ℕ → List ℕ
    Full a n = filter (λ p. nat_lt (slice_index controls p) 128) (range_with_len a n)

    abbrev There : ℕ → ℕ → List A
    There a n = present (map f (range_with_len a n))

    -- from a place on: the item of each place lies there, and the positions of the full places are those of the items
    abbrev pub Lie : ℕ → ℕ → List ℕ → List A → Type 0
    Lie a n ps xs =
        ((p : ℕ) (x : A) → a ≤ p → p < a + n → f p ≡ Some x → HasItem (item_position s target p) x)
        × AllZip HasItem (map (item_position s target) ps) xs

    one_more : (a n : ℕ) (o : Option A) (b : Bool) → f a ≡ o → nat_lt (slice_index controls a) 128 ≡ b → IsTagOf o (slice_index controls a) → (st : State)
        → AreItemsAt s knows bytes (map (item_position s target) (cond b (a ∷ Full (a + 1) n) (Full (a + 1) n))) (values w (cons_option o (There (a + 1) n)) st)
        → ((later : State) → AreItemsAt s knows bytes (map (item_position s target) (Full (a + 1) n)) (values w (There (a + 1) n) later) → Lie (a + 1) n (Full (a + 1) n) (There (a + 1) n))
        → Lie a (suc n) (cond b (a ∷ Full (a + 1) n) (Full (a + 1) n)) (cons_option o (There (a + 1) n))
    one_more a n None true is full tag st items rest = absurd (let low = ltb-true (slice_index controls a) 128 full in omega (arith, low, tag))
    one_more a n None false is full tag st items rest =
        let r = rest st items in
        (λ p x from below e. r.0 p x (further p x from e) (omega arith) e, r.1)
      where
        further : (p : ℕ) (x : A) → a ≤ p → f p ≡ Some x → a + 1 ≤ p
        further p x from e =
            let other : p ≡ a → ⊥ = λ (same : p ≡ a). let here : f a ≡ Some x = ap f (sym same) ∙ e in absurd cc in
            omega (arith, from, other)
    one_more a n (Some y) true is full tag st items rest =
        let r = rest (state_after w y st) items.1 in
        let first : HasItem (item_position s target a) y = (st, items.0) in
        (λ p x from below e. at_place p x from below e first r.0, (first, r.1))
      where
        at_place : (p : ℕ) (x : A) → a ≤ p → p < a + suc n → f p ≡ Some x → HasItem (item_position s target a) y
            → ((q : ℕ) (z : A) → a + 1 ≤ q → q < a + 1 + n → f q ≡ Some z → HasItem (item_position s target q) z) → HasItem (item_position s target p) x
        at_place p x from below e first others = elim (cases_eq p a) [
          | inl at_first ↦
              let here : ◌≡◌ {A = Option A} (Some y) (Some x) = sym is ∙ ap f (sym at_first) ∙ e in
              let item_is : y ≡ x = cc in
              subst (λ q. HasItem (item_position s target q) x) (sym at_first) (subst (HasItem (item_position s target a)) item_is first)
          | inr other ↦ others p x (omega (arith, from, other)) (omega (arith, below)) e
        ]
    one_more a n (Some y) false is full tag st items rest = absurd (let t = lt-ltb (slice_index controls a) 128 tag in cc)

    pub items_lie : (n a : ℕ) (st : State) → ((p : ℕ) → a ≤ p → p < a + n → IsTagOf (f p) (slice_index controls p))
        → AreItemsAt s knows bytes (map (item_position s target) (Full a n)) (values w (There a n) st)
        → Lie a n (Full a n) (There a n)
    items_lie zero a st tags items = (λ p x from below e. absurd (omega (arith, from, below)), tt)
    items_lie (suc n) a st tags items =
        one_more a n (f a) (nat_lt (slice_index controls a) 128) refl refl (tags a (omega arith) (omega arith)) st items
        (λ later them. items_lie n (a + 1) later (λ p from below. tags p (omega (arith, from)) (omega (arith, below))) them)

-- ---- the table

module _ {A R : Type 0} (s : Shape) (knows : Names → Type 0) (bytes : List ℕ) (w : Spelling A R) where
  items_none : (vs : Values) → AreItemsAt s knows bytes [] vs → count_values vs ≡ 0
  items_none no_values h = refl
  items_none (more_values v vs) h = absurd h

  none_items : (ps : List ℕ) → AreItemsAt s knows bytes ps no_values → length ps ≡ 0
  none_items [] h = refl
  none_items (p ∷ ps) h = absurd h

  -- a table without items has no places
  no_table : (pos : ℕ) (b : Buckets) → IsTableAt bytes s pos b → AreItemsAt s knows bytes (item_positions s b) no_values → b ≡ no_buckets
  no_table pos b (has_none z is) items = is
  no_table pos b (has_buckets some leads cap_is fewer shown within room are count) items =
      absurd (some (sym count ∙ sym (length-map (full_places b) (item_position s b.target)) ∙ none_items (item_positions s b) items))

  pub empty_table : (pos : ℕ) → HeldAt (table s) knows bytes pos (group no_values) → IsTableAt bytes s pos no_buckets
  empty_table pos h = let r = table_is_read s knows bytes pos (group no_values) h in subst (IsTableAt bytes s pos) (no_table pos r.buckets r.table r.items) r.table

  module _ (most places : ℕ) (hashes : List ℕ) where
    -- each item lies at its place
    pub record IsFilledTable (pos : ℕ) (xs : List A) : Type 0 where
      pub buckets : Buckets
      pub table : IsTableAt bytes s pos buckets
      pub cap : buckets.cap ≡ capacity_of most places hashes xs
      pub controls : buckets.controls ≡ controls_of most places hashes xs
      pub each : (i : ℕ) (d : A) → i < length xs → HasItem s knows bytes w (item_position s buckets.target (get_or (places_of most places hashes xs) i 0)) (get_or xs i d)
      pub all : AllZip (HasItem s knows bytes w) (item_positions s buckets) (by_place most places hashes xs)

    -- the values of the items of a table, by ascending place
    abbrev Listed : List A → State → Values
    Listed xs st = values w (by_place most places hashes xs) st

    -- where a table has items, it has the places and the controls that are written of them
    abbrev pub HasWrittenPlaces : ℕ → List A → State → Type 0
    HasWrittenPlaces pos xs st =
        (b : Buckets) → IsTableAt bytes s pos b → AreItemsAt s knows bytes (item_positions s b) (Listed xs st)
        → (b.cap ≡ capacity_of most places hashes xs) × (b.controls ≡ controls_of most places hashes xs)

    -- as at the root of an archive, where a fit fills it
    module _ (fit : Fit) (binds : fit.binds ≡ true) (x : A) (xs : List A) (even : length hashes ≡ suc (length xs)) (filled_by : IsFilledBy most places s w hashes fit (x ∷ xs))
        (names : Names) (start pos : ℕ) (st : State) (regions : List Region) (visits : List Visit)
        (archive : CanonicalArchive fit names bytes start pos (table s) (group (Listed (x ∷ xs) st)) regions visits)
        (plain_is : erased (group (Listed (x ∷ xs) st)) ≡ group (plain_values w (by_place most places hashes (x ∷ xs)))) where
      filled : IsFilledSo most places s w hashes fit x xs
      filled = subst (λ b. IsAsked b (IsFilledSo most places s w hashes fit x xs)) binds filled_by

      count : count_values (Listed (x ∷ xs) st) ≡ length (x ∷ xs)
      count = count_of w (by_place most places hashes (x ∷ xs)) st ∙ length-by_place most places hashes (x ∷ xs) even (omega arith)

      pub root_places : HasWrittenPlaces pos (x ∷ xs) st
      root_places b (has_none z is) items =
          let none = items_none (Listed (x ∷ xs) st) (subst (λ (c : Buckets). AreItemsAt s knows bytes (item_positions s c) (Listed (x ∷ xs) st)) is items) in
          absurd (let some = count in omega (arith, none, some))
      root_places b (has_buckets some leads cap_is fewer shown within room are full) items =
          let len = word_at bytes (pos + 4) in
          let content =
          filled_content names bytes s pos len b.cap b.target (word_within bytes pos 12 4 (omega arith)) (word_within bytes pos 12 8 (omega arith) ∙ cap_is) (omega (arith, some)) fewer
          (ap (target_from pos) (first_word bytes pos 12 (omega arith)) ∙ leads)
          in
          let parts = buckets b.target len b.cap (item s) ∷ [] in
          let root = root_settled fit names bytes start pos (table s) (group (Listed (x ∷ xs) st)) regions visits same parts archive content in
          let one : root.vs ≡ more_values (group (Listed (x ∷ xs) st)) no_values = made_one root.vs (group (Listed (x ∷ xs) st)) root.is_made in
          let chosen : IsFilledAs (choices fit) bytes b.target len b.cap (more_values (group (Listed (x ∷ xs) st)) no_values) =
          settled_chosen fit binds bytes (at pos (table s)) parts (more_values (group (Listed (x ∷ xs) st)) no_values) (subst (IsSettled fit bytes (at pos (table s)) parts) one root.settled) in
          let len_is : len ≡ length (x ∷ xs) = sym chosen.0 ∙ count in (
            chosen.1 ∙ ap fit.capacity len_is ∙ filled.0,
            shown ∙ chosen.2 ∙ ap (λ (v : Value). fit.table_controls (keys_alone (members v))) plain_is ∙ filled.1,
          )

    module _ (x : A) (xs : List A) (even : length hashes ≡ suc (length xs)) (tags : All (λ h. h < 2 ^ 64) hashes) (pos : ℕ) (st : State)
        (held : HeldAt (table s) knows bytes pos (group (Listed (x ∷ xs) st))) (written : HasWrittenPlaces pos (x ∷ xs) st) where
      abbrev Cap : ℕ
      Cap = capacity_of most places hashes (x ∷ xs)

      abbrev Places : List ℕ
      Places = places_of most places hashes (x ∷ xs)

      pub filled_table : IsFilledTable pos (x ∷ xs)
      filled_table =
          let r = table_is_read s knows bytes pos (group (Listed (x ∷ xs) st)) held in
          let b = r.buckets in
          let is = written b r.table r.items in
          let tagged : (p : ℕ) → 0 ≤ p → p < 0 + Cap → IsTagOf (item_at (x ∷ xs) Places p) (slice_index b.controls p) = λ p from below.
          let control : slice_index b.controls p ≡ control_at hashes Places p = ap (λ cs. get_or cs p 0) is.1 ∙ written_low Cap hashes Places p (omega (arith, below)) in
          subst (IsTagOf (item_at (x ∷ xs) Places p)) (sym control) (item_tagged hashes (x ∷ xs) Places p even tags)
          in
          let places_full : ℕ → List ℕ = λ n. filter (λ p. nat_lt (slice_index b.controls p) 128) (range_with_len 0 n) in
          let there =
          items_lie s knows bytes w b.target b.controls (item_at (x ∷ xs) Places) Cap 0 st tagged
          (subst (λ n. AreItemsAt s knows bytes (map (item_position s b.target) (places_full n)) (Listed (x ∷ xs) st)) is.0 r.items)
          in
          record {
            buckets = b;
            table = r.table;
            cap = is.0;
            controls = is.1;
            each = λ i d l.
                let long = length-places most places hashes (x ∷ xs) even (omega arith) in
                there.0 (get_or Places i 0) (get_or (x ∷ xs) i d) (omega arith)
                (let low = places_below most places hashes (x ∷ xs) even (omega arith) i (omega (arith, long, l)) in omega (arith, low))
                (item_own (x ∷ xs) Places i d long (are_apart most places hashes (x ∷ xs) even (omega arith)) l);
            all = subst (λ n. AllZip (HasItem s knows bytes w) (map (item_position s b.target) (places_full n)) (by_place most places hashes (x ∷ xs))) (sym is.0) there.1;
          }
