-- An index map where it was written: the places and the controls of its table, the number at each place, and the entry of each number.
use Rattle.std.proofs.Common.{true, ◌≡◌, ◌∙◌, ℕ, zero, suc, ◌+◌, ◌^◌, ◌<◌, ◌≤◌, Some, List, [], ◌∷◌, length, map, filter, get_or, slice_index, nat_lt, refl, ap, sym, subst, arith}
use Rattle.std.specs.List.{All, range_with_len}
use Rattle.std.proofs.lemmas.List.FromFn.{length-range_with_len, get_or-range_with_len}
use Rattle.archive_forms_laws.specs.SpellingLaws.{KnowsAll}
use Rattle.archive_shape_layout.specs.Bytes.{word_at, target_from}
use Rattle.archive_shape_layout.specs.Shape.{Shape}
use Rattle.archive_shape_layout.specs.Shape.Shape.{index_map}
use Rattle.archive_shape_layout.specs.Shape.Pointee.{slice}
use Rattle.archive_shape_layout.specs.Value.{Value, Values, count_values}
use Rattle.archive_shape_layout.specs.Value.Value.{natural, group}
use Rattle.archive_shape_layout.specs.Value.Values.{no_values, more_values}
use Rattle.archive_shape_layout.specs.Content.{Names, Part, Label, content_of, made, members}
use Rattle.archive_shape_layout.specs.Content.Item.{place}
use Rattle.archive_shape_layout.specs.Content.Part.{at, behind, buckets}
use Rattle.archive_shape_layout.specs.Content.Content.{plain}
use Rattle.archive_shape_layout.specs.Content.Label.{same, second}
use Rattle.archive_shape_layout.specs.Holds.{Region, Visit, Holds, HasRoot}
use Rattle.archive_shape_layout.specs.Path.{value_in}
use Rattle.archive_shape_layout.proofs.Unique.{by_claimed}
use Rattle.archive_shape_layout.proofs.Visited.{claimed_first, claimed_inside}
use Rattle.archive_shape_layout.proofs.Windows.{word_within}
use Rattle.archive_shape.specs.Key.{HeldAt}
use Rattle.archive_shape_canonical.specs.FirstFit.{capacity_for, control_at, fitted_from, item_at, written_controls}
use Rattle.archive_shape_canonical.specs.Seen.{keys_alone}
use Rattle.archive_shape_canonical.specs.Settled.{IsAsked, Fit, IsSettled, naturals}
use Rattle.archive_shape_canonical.specs.Sharing.{erased}
use Rattle.archive_shape_canonical.specs.Canonical.{CanonicalArchive}
use Rattle.archive_shape_canonical.proofs.Choosing.{choices, IsFilledAs, settled_chosen}
use Rattle.archive_forms_values.specs.Tuples.{tuple2}
use Rattle.archive_forms_values.specs.Parts.{both}
use Rattle.archive_forms_values.proofs.Contents.{sized_is}
use Rattle.archive_forms_values.proofs.Inside.{one_held}
use Rattle.archive_forms_values.proofs.Pointed.{made_same}
use Rattle.archive_forms_values.proofs.Targets.{first_word}
use Rattle.archive_forms_laws.specs.Sample.{number_shape, number_spelling}
use Rattle.archive_forms_laws.specs.State.{State, initial}
use Rattle.archive_forms_laws.specs.Spelling.{Spelling, state_after}
use Rattle.archive_forms_laws.specs.Regions.{values, plain_values}
use Rattle.archive_hash_probing.proofs.FirstFits.{written_low}
use Rattle.archive_hash_maps.specs.Tables.{Buckets, full_places, item_position, item_positions, IsTableAt, AreItemsAt}
use Rattle.archive_hash_maps.specs.Tables.IsTableAt.{has_none, has_buckets}
use Rattle.archive_hash_maps.proofs.Read.{table_is_read, one_table}
use Rattle.archive_hash_writing.specs.Fitted.{capacity_of, places_of, by_place, controls_of}
use Rattle.archive_hash_writing.proofs.Rooted.{SettledHolds, root_settled}
use Rattle.archive_hash_writing.proofs.SpellingPresent.{item_own}
use Rattle.archive_hash_writing.proofs.SpellingFitting.{length-places, places_below, are_apart}
use Rattle.archive_hash_writing.proofs.Tagged.{IsTagOf, item_tagged}
use Rattle.archive_hash_writing.proofs.WrittenItems.{HasItem, items_lie}
use Rattle.archive_hash_writing.specs.IndexMaps.{numbers, IsKeptSo, IsKeptBy}
use Rattle.archive_hash_writing.proofs.IndexMaps.{filled_content, numbers_are}
use Rattle.archive_hash_writing.proofs.IndexPlaces.{number_held}
use Rattle.archive_index.specs.Maps.{IndexMap, IsMapAt, count_of, entry_position}
use Rattle.archive_index.proofs.Read.{map_is_read, read_so}

-- ---- the values of a list

module _ {A R : Type 0} (w : Spelling A R) where
  how_many : (xs : List A) (st : State) → count_values (values w xs st) ≡ length xs
  how_many [] st = refl
  how_many (x ∷ xs) st = let rest = how_many xs (state_after w x st) in omega (arith, rest)

  -- each is that of an element, in some state
  value_of_each : (xs : List A) (st : State) (i : ℕ) (d : A) → i < length xs → (later : State) × (value_in i (values w xs st) ≡ Some (w.value (get_or xs i d) later))
  value_of_each [] st i d l = absurd (omega (arith, l))
  value_of_each (x ∷ xs) st zero d l = (st, refl)
  value_of_each (x ∷ xs) st (suc i) d l = value_of_each xs (state_after w x st) i d (omega (arith, l))

made_two : (u v w : Value) → made second (more_values u (more_values w no_values)) ≡ Some v → w ≡ v
unfolding made
made_two u v w e = cc

same_group : (us vs : Values) → (λ (x : Value). x) (group us) ≡ group vs → us ≡ vs
same_group us vs e = cc

module _ {A R : Type 0} (k v : Shape) (knows others : Names → Type 0) (bytes : List ℕ) (w : Spelling A R) where
  abbrev pair : Shape
  pair = tuple2 k v

  -- the value at the root, with what the layout has of it
  abbrev held_at_root : (names : Names) (pos : ℕ) (value : Value) (regions : List Region) (visits : List Visit) → both knows others names → HasRoot names bytes pos (index_map k v) value regions visits → HeldAt (index_map k v) (both knows others) bytes pos value
  held_at_root names pos value regions visits known root =
      let says = by_claimed names bytes (sized_is names bytes pos (index_map k v) 1) root.holds in
      let one = one_held names bytes says.all in
      let is : one.value ≡ value = made_same one.value value (subst (λ x. made same x ≡ Some value) one.is says.is_made) in
      let inner = claimed_inside says.regions_are (claimed_first root.ascends) in
      let ends = inner.ends in
      record {
        names = names;
        known = known;
        level = 1;
        inside = [];
        regions = says.within;
        before = [];
        after = visits;
        own_within = omega (arith, ends);
        low = 0;
        claimed = inner.claimed;
        holds = subst (λ x. Holds names bytes 1 [] (at pos (index_map k v)) x says.within [] visits) is one.holds;
      }

  -- the layout has a map at a position, and a fit settles what the layout leaves open there
  pub record IsSettledMap (fit : Fit) (pos : ℕ) (value : Value) : Type 0 where
    pub held : HeldAt (index_map k v) (both knows others) bytes pos value
    pub settled :
        (l : Label) (ps : List Part) → content_of held.names bytes (at pos (index_map k v)) ≡ plain l ps
        → SettledHolds fit held.names bytes held.level held.inside held.before (at pos (index_map k v)) l ps value

  -- so it is at the root of the archive of the map
  pub root_map : (fit : Fit) (names : Names) (start pos : ℕ) (value : Value) (regions : List Region) (visits : List Visit) → both knows others names
      → CanonicalArchive fit names bytes start pos (index_map k v) value regions visits → IsSettledMap fit pos value
  root_map fit names start pos value regions visits known archive = record {
    held = held_at_root names pos value regions visits known archive.root;
    settled = λ l ps content. root_settled fit names bytes start pos (index_map k v) value regions visits l ps archive content;
  }

  module _ (most places : ℕ) (hashes : List ℕ) where
    -- each number lies at its place, and each entry where its number leads
    pub record IsFilledMap (pos : ℕ) (xs : List A) : Type 0 where
      pub map : IndexMap
      pub stands : IsMapAt bytes k v pos map
      pub counted : count_of map ≡ length xs
      pub cap : map.buckets.cap ≡ capacity_of most places hashes xs
      pub controls : map.buckets.controls ≡ controls_of most places hashes xs
      pub numbered : (i : ℕ) → i < length xs → word_at bytes (item_position number_shape map.buckets.target (get_or (places_of most places hashes xs) i 0)) ≡ i
      pub each : (i : ℕ) (d : A) → i < length xs → HasItem pair (both knows others) bytes w (entry_position k v map i) (get_or xs i d)

    -- of a map that the layout has at a position
    module _ (x : A) (xs : List A) (even : length hashes ≡ suc (length xs)) (tags : All (λ h. h < 2 ^ 64) hashes) (pos : ℕ) (st : State)
        (held : HeldAt (index_map k v) (both knows others) bytes pos (group (values w (x ∷ xs) st))) where
      abbrev all : List A
      all = x ∷ xs

      abbrev Items : Values
      Items = values w all st

      abbrev Numbers : List ℕ
      Numbers = numbers all

      abbrev Cap : ℕ
      Cap = capacity_of most places hashes Numbers

      abbrev Places : List ℕ
      Places = places_of most places hashes Numbers

      long : length Numbers ≡ length all
      long = length-range_with_len 0 (length all)

      even_numbers : length hashes ≡ length Numbers
      even_numbers = even ∙ sym long

      -- its table has the written places and controls, and the numbers of its entries by ascending place
      pub record IsAsWritten (b : Buckets) : Type 0 where
        pub cap_is : b.cap ≡ Cap
        pub controls_are : b.controls ≡ controls_of most places hashes Numbers
        pub state : State
        pub items : AreItemsAt number_shape KnowsAll bytes (item_positions number_shape b) (values number_spelling (by_place most places hashes Numbers) state)

      number_at_place : (target : ℕ) → ((p n : ℕ) → 0 ≤ p → p < 0 + Cap → item_at Numbers Places p ≡ Some n → HasItem number_shape KnowsAll bytes number_spelling (item_position number_shape target p) n)
          → (i : ℕ) → i < length all → word_at bytes (item_position number_shape target (get_or Places i 0)) ≡ i
      number_at_place target lies i l =
          let some : 0 < length Numbers = omega (arith, long) in
          let count = length-places most places hashes Numbers even_numbers some in
          let low = places_below most places hashes Numbers even_numbers some i (omega (arith, count, long, l)) in
          let own = item_own Numbers Places i 0 count (are_apart most places hashes Numbers even_numbers some) (omega (arith, l, long)) in
          let at_place = lies (get_or Places i 0) (get_or Numbers i 0) (omega arith) (omega (arith, low)) own in
          let number = number_held at_place.1.names bytes (item_position number_shape target (get_or Places i 0)) at_place.1.holds in
          let same_number : natural (get_or Numbers i 0) ≡ natural (word_at bytes (item_position number_shape target (get_or Places i 0))) = number.is in
          let is : get_or Numbers i 0 ≡ word_at bytes (item_position number_shape target (get_or Places i 0)) = cc in
          sym is ∙ get_or-range_with_len 0 (length all) i 0 l ∙ omega arith

      pub filled_of : ((m : IndexMap) → IsMapAt bytes k v pos m → count_of m ≡ length all → IsAsWritten m.buckets) → IsFilledMap pos all
      filled_of as_written =
          let r = map_is_read k v knows others bytes pos (group Items) held in
          let b = r.map.buckets in
          let elements : r.entries.elements ≡ Items = same_group r.entries.elements Items (sym r.entries.is) in
          let count : count_of r.map ≡ length all = sym r.entries.count ∙ ap count_values elements ∙ how_many w all st in
          let is = as_written r.map r.stands count in
          let tagged : (p : ℕ) → 0 ≤ p → p < 0 + Cap → IsTagOf (item_at Numbers Places p) (slice_index b.controls p) = λ p from below.
          let control : slice_index b.controls p ≡ control_at hashes Places p = ap (λ cs. get_or cs p 0) is.controls_are ∙ written_low Cap hashes Places p (omega (arith, below)) in
          subst (IsTagOf (item_at Numbers Places p)) (sym control) (item_tagged hashes Numbers Places p even_numbers tags) in
          let places_full : ℕ → List ℕ = λ n. filter (λ p. nat_lt (slice_index b.controls p) 128) (range_with_len 0 n) in
          let lie = items_lie number_shape KnowsAll bytes number_spelling b.target b.controls (item_at Numbers Places) Cap 0 is.state tagged
          (subst (λ n. AreItemsAt number_shape KnowsAll bytes (map (item_position number_shape b.target) (places_full n)) (values number_spelling (by_place most places hashes Numbers) is.state)) is.cap_is is.items) in
          let of_all : (n : ℕ) → n ≡ length all → (i : ℕ) → i < length all → word_at bytes (item_position number_shape b.target (get_or (fitted_from (capacity_for n most places) [] hashes) i 0)) ≡ i = λ n e i l.
          subst (λ m. word_at bytes (item_position number_shape b.target (get_or (fitted_from (capacity_for m most places) [] hashes) i 0)) ≡ i) (long ∙ sym e) (number_at_place b.target lie.0 i l) in
          record {
            map = r.map;
            stands = r.stands;
            counted = count;
            cap = is.cap_is ∙ ap (λ m. capacity_for m most places) long;
            controls = is.controls_are ∙ ap (λ m. written_controls (capacity_for m most places) hashes (fitted_from (capacity_for m most places) [] hashes)) long;
            numbered = of_all (length all) refl;
            each = λ i d l.
                let one = r.entries.each i (omega (arith, l, count)) in
                let value = value_of_each w all st i d l in
                let are : Some one.0 ≡ Some (w.value (get_or all i d) value.0) = sym one.1 ∙ ap (value_in i) elements ∙ value.1 in
                let same_value : one.0 ≡ w.value (get_or all i d) value.0 = cc in
                (value.0, subst (HeldAt pair (both knows others) bytes (entry_position k v r.map i)) same_value one.2);
          }

    -- where a fit fills it
    module _ (fit : Fit) (binds : fit.binds ≡ true) (x : A) (xs : List A) (even : length hashes ≡ suc (length xs)) (tags : All (λ h. h < 2 ^ 64) hashes) (kept_by : IsKeptBy most places pair w hashes fit (x ∷ xs))
        (pos : ℕ) (st : State) (there : IsSettledMap fit pos (group (values w (x ∷ xs) st)))
        (plain_is : erased (group (values w (x ∷ xs) st)) ≡ group (plain_values w (x ∷ xs))) where
      kept : IsKeptSo most places pair w hashes fit x xs
      kept = subst (λ b. IsAsked b (IsKeptSo most places pair w hashes fit x xs)) binds kept_by

      abbrev Written : Value
      Written = group (values w (x ∷ xs) st)

      -- what a fit says of the table
      record IsTold (b : Buckets) (ns : Values) : Type 0 where
        cap_is : b.cap ≡ capacity_of most places hashes (numbers (x ∷ xs))
        controls_are : b.controls ≡ controls_of most places hashes (numbers (x ∷ xs))
        numbers_is : ns ≡ naturals (by_place most places hashes (numbers (x ∷ xs)))

      told : (m : IndexMap) → IsMapAt bytes k v pos m → count_of m ≡ length (x ∷ xs) → IsTold m.buckets (members (read_so k v knows others bytes pos Written there.held).numbers)
      told m stands count = by_table stands.table
        where
          by_table : IsTableAt bytes number_shape pos m.buckets → IsTold m.buckets (members (read_so k v knows others bytes pos Written there.held).numbers)
          by_table (has_none z is) = absurd (let none = ap (λ (b : Buckets). length (full_places b)) is in omega (arith, none, count))
          by_table (has_buckets some target cap_is fewer shown within room are full) =
              let held = there.held in
              let b = m.buckets in
              let len = word_at bytes (pos + 4) in
              let n = length (x ∷ xs) in
              let len_is : len ≡ n = sym full ∙ count in
              let leads = stands.leads (λ e. absurd (omega (arith, e, count))) in
              let content = filled_content held.names bytes k v pos len b.cap b.target m.start (word_within bytes pos 16 4 (omega arith)) (word_within bytes pos 16 8 (omega arith) ∙ cap_is) (omega (arith, len_is)) fewer
              (ap (target_from pos) (first_word bytes pos 16 (omega arith)) ∙ target) (ap (target_from (pos + 12)) (word_within bytes pos 16 12 (omega arith)) ∙ leads) in
              let parts : List Part = buckets b.target len b.cap (place len) ∷ (behind m.start (slice pair) len ∷ []) in
              let found = there.settled second parts content in
              let read = read_so k v knows others bytes pos Written held in
              let first = read.first parts found.vs found.regions found.after content found.all in
              let last : first.0 ≡ Written = made_two read.numbers Written first.0 (subst (λ vs. made second vs ≡ Some Written) first.1 found.is_made) in
              let are_two : found.vs ≡ more_values read.numbers (more_values Written no_values) = first.1 ∙ ap (λ u. more_values read.numbers (more_values u no_values)) last in
              let chosen : IsFilledAs (choices fit) bytes b.target len b.cap (more_values read.numbers (more_values Written no_values)) =
              settled_chosen fit binds bytes (at pos (index_map k v)) parts (more_values read.numbers (more_values Written no_values)) (subst (IsSettled fit bytes (at pos (index_map k v)) parts) are_two found.settled) in
              let caps : capacity_of most places hashes (x ∷ xs) ≡ capacity_of most places hashes (numbers (x ∷ xs)) = ap (λ m. capacity_for m most places) (sym (length-range_with_len 0 n)) in
              record {
                cap_is = chosen.1 ∙ ap fit.capacity len_is ∙ kept.0 ∙ caps;
                controls_are = shown ∙ chosen.2 ∙ ap (λ (u : Value). fit.map_controls (keys_alone (members u))) plain_is ∙ kept.1;
                numbers_is = ap members chosen.3 ∙ ap (λ (u : Value). naturals (fit.map_numbers (keys_alone (members u)))) plain_is ∙ ap naturals kept.2;
              }

      as_told : (m : IndexMap) → IsMapAt bytes k v pos m → count_of m ≡ length (x ∷ xs) → IsAsWritten x xs even tags pos st there.held m.buckets
      as_told m stands count =
          let t = told m stands count in
          let so = read_so k v knows others bytes pos Written there.held in
          let table = table_is_read number_shape KnowsAll bytes pos so.numbers so.table_held in
          let items : AreItemsAt number_shape KnowsAll bytes (item_positions number_shape m.buckets) (members so.numbers) =
          subst (λ (c : Buckets). AreItemsAt number_shape KnowsAll bytes (item_positions number_shape c) (members so.numbers)) (one_table bytes number_shape pos table.buckets m.buckets table.table stands.table) table.items in
          record {
            cap_is = t.cap_is;
            controls_are = t.controls_are;
            state = initial;
            items = subst (AreItemsAt number_shape KnowsAll bytes (item_positions number_shape m.buckets)) (t.numbers_is ∙ sym (numbers_are (by_place most places hashes (numbers (x ∷ xs))) initial)) items;
          }

      pub filled_map : IsFilledMap pos (x ∷ xs)
      filled_map = filled_of x xs even tags pos st there.held as_told
