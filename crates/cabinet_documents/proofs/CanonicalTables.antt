-- The tables of maps in the walk of a canonical archive are filled by first fit.
use Rattle.std.proofs.Common.{◌≡◌, ℕ, zero, suc, ◌+◌, ◌<◌, ◌≤◌, List, [], ◌∷◌, length, Some, refl, sym, ap, ap₂, subst, ◌∙◌, arith}
use Rattle.std.specs.Prelude.{⊤}
use Rattle.archive_shape_layout.specs.Bytes.{window, word_at}
use Rattle.archive_shape_layout.specs.Shape.{Shape}
use Rattle.archive_shape_layout.specs.Shape.Shape.{table, index_map}
use Rattle.archive_shape_layout.specs.Shape.Pointee.{slice}
use Rattle.archive_forms_values.specs.Tuples.{tuple2}
use Rattle.archive_shape_layout.specs.Value.{Value, Values, count_values}
use Rattle.archive_shape_layout.specs.Value.Value.{string, group}
use Rattle.archive_shape_layout.specs.Value.Values.{no_values, more_values}
use Rattle.archive_shape_layout.specs.Content.{Part, Label, content_of, made, members, item, place, control_count}
use Rattle.archive_shape_layout.specs.Content.Part.{at, behind, buckets}
use Rattle.archive_shape_layout.specs.Content.Label.{same, second, whole}
use Rattle.archive_shape_layout.specs.Holds.HoldAll.{holds_none}
use Rattle.archive_shape_canonical.specs.FirstFit.{ascending, controls_of, first_fit, items_of, keys_in, map_capacity, numbers_of, placed_keys, text_key}
use Rattle.archive_shape_canonical.specs.Hash.{text_hash}
use Rattle.archive_shape_canonical.specs.Seen.{key_alone, keys_alone, by_keys}
use Rattle.archive_shape_canonical.specs.Settled.{IsSettled, naturals}
use Rattle.archive_shape_canonical.specs.Settled.{IsFitted as IsTableFitted}
use Rattle.archive_shape_canonical.specs.Sharing.{erased, all_erased}
use Rattle.archive_forms_values.proofs.Pointed.{made_whole}
use Rattle.archive_hash_writing.proofs.SpellingFitting.{capacity_above}
use Rattle.archive_hash_writing.proofs.IndexMaps.{numbers_alone}
use Rattle.cabinet_documents.specs.Fitted.{AreFirstFit}
use Rattle.cabinet_documents.specs.Node.{node_names}
use Rattle.cabinet_documents.specs.Table.{Table, Findable, empty_table, hashed_at, kept_at, item_keys, key_of, table_of}
use Rattle.cabinet_documents.specs.Walk.{Stop}
use Rattle.cabinet_documents.proofs.ByKey.{AreKeysDistinct}
use Rattle.cabinet_documents.proofs.EntryNumbers.{same_naturals, index_held}
use Rattle.cabinet_documents.proofs.FittedTable.{filled_table, filled_is_findable, kept_filled, kept_filled_is_findable}
use Rattle.cabinet_documents.proofs.KeyOrder.{length_ascending}
use Rattle.cabinet_documents.proofs.SettledWalks.{Settled}
use Rattle.cabinet_documents.proofs.Stops.{Each}
use Rattle.cabinet_documents.proofs.TableSound.{IsPlainSound, IsTableSound, TableSounds, PlainSounds, TableCase, is_table, is_index, is_none, table_case, BucketsRead, TableRead, IndexRead, reads_none, reads_buckets, table_direct, table_read, index_direct, index_read, no_table, led_table, keys_count}
use Rattle.cabinet_documents.proofs.Tables.{hashed_table, kept_table, numbers_at, kept_read}
use Rattle.cabinet_documents.proofs.Walkable.{IsDirect, PartsHold, parts_hold, IsKnownStop, plain_stop}

-- ---- the keys that a fit is given

key_seen : (v : Value) → text_key (erased (key_alone v)) ≡ key_of v
key_seen (group (more_values (string k) vs)) = refl
key_seen (group (more_values u vs)) = refl
key_seen v = refl

keys_seen : (vs : Values) → keys_in (all_erased (keys_alone vs)) ≡ item_keys vs
keys_seen no_values = refl
keys_seen (more_values v vs) = ap₂ (λ k ks. k ∷ ks) (key_seen v) (keys_seen vs)

members_seen : (w : Value) → keys_in (all_erased (members (by_keys w))) ≡ item_keys (members w)
members_seen (group vs) = keys_seen vs
members_seen w = refl

text_key_is : (v : Value) → text_key v ≡ key_of v
text_key_is (group (more_values (string k) vs)) = refl
text_key_is (group (more_values u vs)) = refl
text_key_is v = refl

text_keys_are : (vs : Values) → keys_in vs ≡ item_keys vs
text_keys_are no_values = refl
text_keys_are (more_values v vs) = ap₂ (λ k ks. k ∷ ks) (text_key_is v) (text_keys_are vs)

count_keys : (vs : Values) → count_values vs ≡ length (keys_in vs)
count_keys no_values = refl
count_keys (more_values v vs) = let rest = count_keys vs in omega (arith, rest)

count_erased : (vs : Values) → count_values (all_erased vs) ≡ count_values vs
count_erased no_values = refl
count_erased (more_values v vs) = let rest = count_erased vs in omega (arith, rest)

keys_of_items : (ks : List (List ℕ)) → keys_in (items_of ks) ≡ ks
keys_of_items [] = refl
keys_of_items (k ∷ ks) = ap (λ ls. k ∷ ls) (keys_of_items ks)

-- the items of a table are in the order of first fit
abbrev pub IsTableFirst : Part → Value → Type 0
IsTableFirst (at pos (table s)) w = AreFirstFit (members w)
IsTableFirst p w = ⊤

abbrev pub TableFirst : Stop → Type 0
TableFirst s = IsTableFirst s.part s.value

first_where : (p : Part) (w : Value) → ((pos : ℕ) (s : Shape) → p ≡ at pos (table s) → AreFirstFit (members w)) → IsTableFirst p w
first_where (at pos s) w on = by_shape s on
  where
    by_shape : (r : Shape) → ((at_pos : ℕ) (s : Shape) → at pos r ≡ at at_pos (table s) → AreFirstFit (members w)) → IsTableFirst (at pos r) w
    by_shape (table r) on = on pos r refl
    by_shape r on = tt
first_where p w on = tt

-- ---- a table that is settled

abbrev keys_there : Value → List (List ℕ)
keys_there w = item_keys (members w)

abbrev room_for : Value → ℕ
room_for w = map_capacity (length (keys_there w))

record KeysFitted (controls : List ℕ) (cap : ℕ) (w : Value) : Type 0 where
  capacity : cap ≡ room_for w
  controls_are : controls ≡ controls_of text_hash (room_for w) (ascending (keys_there w))
  keys : keys_there w ≡ placed_keys text_hash (room_for w) (ascending (keys_there w))

keys_fitted : (controls : List ℕ) (len cap : ℕ) (w : Value) → IsTableFitted (first_fit text_hash) controls len cap (more_values (by_keys w) no_values) → KeysFitted controls cap w
keys_fitted controls len cap w f =
    let items = all_erased (members (by_keys w)) in
    let seen = members_seen w in
    let count : count_values items ≡ length (keys_there w) = count_keys items ∙ ap length seen in
    record {
      capacity = f.1 ∙ ap map_capacity (sym f.0 ∙ sym (count_erased (members (by_keys w))) ∙ count);
      controls_are = f.2 ∙ ap₂ (λ n ks. controls_of text_hash (map_capacity n) (ascending ks)) count seen;
      keys = sym seen ∙ ap keys_in f.3 ∙ keys_of_items (placed_keys text_hash (map_capacity (count_values items)) (ascending (keys_in items)))
          ∙ ap₂ (λ n ks. placed_keys text_hash (map_capacity n) (ascending ks)) count seen;
    }

-- an index map's numbers come before its entries
record NumbersFitted (controls : List ℕ) (cap : ℕ) (ns : List ℕ) (w : Value) : Type 0 where
  capacity : cap ≡ room_for w
  controls_are : controls ≡ controls_of text_hash (room_for w) (keys_there w)
  numbers_are : ns ≡ numbers_of text_hash (room_for w) (keys_there w)

numbers_fitted : (controls : List ℕ) (len cap : ℕ) (ns : List ℕ) (w : Value) → IsTableFitted (first_fit text_hash) controls len cap (more_values (by_keys (group (naturals ns))) (more_values (by_keys w) no_values)) → NumbersFitted controls cap ns w
numbers_fitted controls len cap ns w f =
    let items = all_erased (members (by_keys w)) in
    let seen = members_seen w in
    let count : count_values items ≡ length (keys_there w) = count_keys items ∙ ap length seen in
    let numbers = ap group (sym (numbers_alone ns)) ∙ f.3 in
    record {
      capacity = f.1 ∙ ap map_capacity (sym f.0 ∙ sym (count_erased (members (by_keys w))) ∙ count);
      controls_are = f.2 ∙ ap₂ (λ n ks. controls_of text_hash (map_capacity n) ks) count seen;
      numbers_are =
          same_naturals ns (numbers_of text_hash (map_capacity (count_values items)) (keys_in items)) (ap members numbers)
          ∙ ap₂ (λ n ks. numbers_of text_hash (map_capacity n) ks) count seen;
    }

-- ---- a table in a walk

one_made : (vs : Values) (w : Value) → made same vs ≡ Some w → vs ≡ more_values w no_values
unfolding made
one_made no_values w e = absurd (cc)
one_made (more_values v no_values) w e = let same_value : v ≡ w = cc in ap (λ x. more_values x no_values) same_value
one_made (more_values v (more_values u vs)) w e = absurd (cc)

-- it has no items, or is filled as a table
data MapFit (kind : List ℕ → ℕ → List (List ℕ) → ℕ → Table) (Filled : Value → Table → Type 0) (bytes : List ℕ) (pos : ℕ) (w : Value) : Type 0 where
  no_items : w ≡ group no_values → table_of kind bytes pos w ≡ empty_table → MapFit kind Filled bytes pos w
  some_items : {t : Table} → table_of kind bytes pos w ≡ t → Filled w t → MapFit kind Filled bytes pos w

-- of a hashed map
record IsFilled (w : Value) (t : Table) : Type 0 where
  is : t ≡ filled_table (room_for w) (ascending (keys_there w))
  keys : keys_there w ≡ placed_keys text_hash (room_for w) (ascending (keys_there w))

-- of a kept map
record IsKeptFilled (w : Value) (t : Table) : Type 0 where
  is : t ≡ kept_filled (keys_there w)
  some : 0 < length (keys_there w)

module _ (bytes : List ℕ) where
  abbrev KnownStop : Stop → Type 0
  KnownStop = IsKnownStop (Settled (first_fit text_hash) bytes) node_names bytes

  abbrev TableFit : ℕ → Value → Type 0
  TableFit pos w = MapFit hashed_at IsFilled bytes pos w

  abbrev IndexFit : ℕ → Value → Type 0
  IndexFit pos w = MapFit kept_at IsKeptFilled bytes pos w

  no_parts : {ps : List Part} {vs : Values} → ps ≡ [] → PartsHold node_names bytes ps vs → vs ≡ no_values
  no_parts {vs = vs} f h = by_parts (subst (λ x. PartsHold node_names bytes x vs) f h)
    where
      by_parts : PartsHold node_names bytes [] vs → vs ≡ no_values
      by_parts (parts_hold (holds_none e g k)) = e

  -- without items
  none_fit : (kind : List ℕ → ℕ → List (List ℕ) → ℕ → Table) {Filled : Value → Table → Type 0} (pos : ℕ) (w : Value) {l : Label} {ps : List Part} {vs : Values}
      → l ≡ whole → ps ≡ [] → word_at bytes (pos + 4) ≡ 0 → made l vs ≡ Some w → PartsHold node_names bytes ps vs → MapFit kind Filled bytes pos w
  none_fit kind pos w {vs = vs} e f z m h =
      no_items (subst (λ x. w ≡ group x) (no_parts f h) (made_whole vs w (subst (λ l. made l vs ≡ Some w) e m))) (no_table bytes kind pos w z)

  plain_fit : (pos : ℕ) (s : Shape) (w : Value) (vs : Values) {l : Label} {ps : List Part} → TableRead bytes pos l ps s → made l vs ≡ Some w → PartsHold node_names bytes ps vs
      → IsSettled (first_fit text_hash) bytes (at pos (table s)) ps vs → TableFit pos w
  plain_fit pos s w vs (reads_none e f z) m h settled = none_fit hashed_at pos w e f z m h
  plain_fit pos s w vs (reads_buckets {target = target} {len = len} e f some leads) m h settled =
      let fit = first_fit text_hash in
      let cap = word_at bytes (pos + 8) in
      let one = one_made vs w (subst (λ l. made l vs ≡ Some w) e m) in
      let there : IsSettled fit bytes (at pos (table s)) (buckets target len cap (item s) ∷ []) (more_values w no_values) =
      subst (λ x. IsSettled fit bytes (at pos (table s)) (buckets target len cap (item s) ∷ []) x) one (subst (λ x. IsSettled fit bytes (at pos (table s)) x vs) f settled) in
      let k = keys_fitted (window bytes target (control_count cap)) len cap w there in
      some_items (led_table bytes hashed_at pos w some leads) (record { is = (λ i. hashed_table (k.capacity i) (k.controls_are i) (k.keys i)); keys = k.keys })

  index_fit : (pos : ℕ) (k s : Shape) (w : Value) (vs : Values) {l : Label} {ps : List Part} → IndexRead bytes pos l ps k s → made l vs ≡ Some w → PartsHold node_names bytes ps vs
      → IsSettled (first_fit text_hash) bytes (at pos (index_map k s)) ps vs → IndexFit pos w
  index_fit pos k s w vs {l = l} {ps = ps} r m h settled = by_case r.read
    where
      n : ℕ
      n = word_at bytes (pos + 4)

      entries : List Part
      entries = behind r.start (slice (tuple2 k s)) n ∷ []

      by_case : BucketsRead bytes pos second (place n) entries l ps → IndexFit pos w
      by_case (reads_none e f z) = none_fit kept_at pos w e f z m h
      by_case (reads_buckets {target = target} {len = len} e f some leads) =
          let fit = first_fit text_hash in
          let cap = word_at bytes (pos + 8) in
          let p = at pos (index_map k s) in
          let parts = buckets target len cap (place n) ∷ entries in
          let i = index_held node_names bytes target len cap n r.start (tuple2 k s) f h (subst (λ x. made x vs ≡ Some w) e m) in
          let there : IsSettled fit bytes p parts (more_values (group (naturals (numbers_at bytes target cap))) (more_values w no_values)) = subst (λ x. IsSettled fit bytes p parts x) i.is (subst (λ x. IsSettled fit bytes p x vs) f settled) in
          let d = numbers_fitted (window bytes target (control_count cap)) len cap (numbers_at bytes target cap) w there in
          let many = keys_count (members w) ∙ i.counted in
          some_items (led_table bytes kept_at pos w some leads ∙ kept_read bytes cap (keys_there w) target)
          (record { is = (λ j. kept_table (d.capacity j) (d.controls_are j) (d.numbers_are j) (keys_there w)); some = omega (arith, some, many) })

  table_fit : (s : Stop) (pos : ℕ) (shape : Shape) → s.part ≡ at pos (table shape) → KnownStop s → TableFit pos s.value
  table_fit s pos shape is k =
      let d = plain_stop (Settled (first_fit text_hash) bytes) node_names bytes s (subst (λ p. IsDirect (content_of node_names bytes p)) (sym is) (table_direct bytes node_names pos shape)) k in
      plain_fit pos shape s.value d.vs (table_read bytes node_names pos shape (ap (content_of node_names bytes) (sym is) ∙ d.says)) d.is_made d.parts (subst (λ p. IsSettled (first_fit text_hash) bytes p d.ps d.vs) is d.known)

  kept_fit : (s : Stop) (pos : ℕ) (key shape : Shape) → s.part ≡ at pos (index_map key shape) → KnownStop s → IndexFit pos s.value
  kept_fit s pos key shape is k =
      let d = plain_stop (Settled (first_fit text_hash) bytes) node_names bytes s (subst (λ p. IsDirect (content_of node_names bytes p)) (sym is) (index_direct bytes node_names pos key shape)) k in
      index_fit pos key shape s.value d.vs (index_read bytes node_names pos key shape (ap (content_of node_names bytes) (sym is) ∙ d.says)) d.is_made d.parts (subst (λ p. IsSettled (first_fit text_hash) bytes p d.ps d.vs) is d.known)

  -- ---- it is sound, and in the order of first fit

  room_above : (n : ℕ) → n ≤ map_capacity n
  room_above zero = omega arith
  room_above (suc n) = let h = capacity_above (suc n) 7 8 (omega arith) in omega (arith, h)

  map_findable : {kind : List ℕ → ℕ → List (List ℕ) → ℕ → Table} {Filled : Value → Table → Type 0} (pos : ℕ) (w : Value) → ((t : Table) → Filled w t → Findable t) → MapFit kind Filled bytes pos w → Findable (table_of kind bytes pos w)
  map_findable pos w on (no_items e f) =
      subst Findable (sym f) (record {
        tags = λ s c. let a = c.1 in absurd (omega (arith, a));
        reached = λ x c. let a = c.1 in absurd (omega (arith, a));
        distinct = λ x y c d same. let a = c.1 in absurd (omega (arith, a));
      })
  map_findable pos w on (some_items {t = t} e filled) = subst Findable (sym e) (on t filled)

  hashed_findable : (w : Value) → AreKeysDistinct (keys_there w) → (t : Table) → IsFilled w t → Findable t
  hashed_findable w apart t f =
      let few = length_ascending (keys_there w) in
      let high = room_above (length (keys_there w)) in
      subst Findable (sym f.is) (filled_is_findable (room_for w) (ascending (keys_there w)) (omega (arith, few, high)) (subst AreKeysDistinct f.keys apart))

  kept_findable : (w : Value) → AreKeysDistinct (keys_there w) → (t : Table) → IsKeptFilled w t → Findable t
  kept_findable w apart t f = subst Findable (sym f.is) (kept_filled_is_findable (keys_there w) f.some apart)

  fit_ordered : (pos : ℕ) (w : Value) → TableFit pos w → AreFirstFit (members w)
  fit_ordered pos w (no_items e f) = subst (λ x. AreFirstFit (members x)) (sym e) refl
  fit_ordered pos w (some_items e filled) =
      let ks = text_keys_are (members w) in
      let count : count_values (members w) ≡ length (keys_there w) = count_keys (members w) ∙ ap length ks in
      ks ∙ filled.keys ∙ sym (ap₂ (λ n ls. placed_keys text_hash (map_capacity n) (ascending ls)) count ks)

  pub tables_first : (walk : List Stop) → Each KnownStop walk → Each TableFirst walk
  tables_first [] k = tt
  tables_first (s ∷ rest) k = (
    first_where s.part s.value (λ pos shape e. fit_ordered pos s.value (table_fit s pos shape e k.0)),
    tables_first rest k.1,
  )

  pub tables_sound : (walk : List Stop) → Each (PlainSounds bytes) walk → Each KnownStop walk → Each (TableSounds bytes) walk
  tables_sound [] h k = tt
  tables_sound (s ∷ rest) h k = (by_case (table_case s.part), tables_sound rest h.1 k.1)
    where
      by_case : TableCase s.part → IsTableSound bytes s.part s.value
      by_case (is_table pos shape e) =
          subst (λ p. IsTableSound bytes p s.value) (sym e) (map_findable pos s.value (hashed_findable s.value (subst (λ p. IsPlainSound bytes p s.value) e h.0)) (table_fit s pos shape e k.0))
      by_case (is_index pos key shape e) =
          subst (λ p. IsTableSound bytes p s.value) (sym e) (map_findable pos s.value (kept_findable s.value (subst (λ p. IsPlainSound bytes p s.value) e h.0)) (kept_fit s pos key shape e k.0))
      by_case (is_none t same_sound) = t bytes s.value
