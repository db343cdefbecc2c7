-- Where a table in a walk is sound, what its bytes say of it, and that its keys are distinct.
use Rattle.std.proofs.Common.{◌≡◌, ℕ, suc, ◌+◌, ◌≤◌, ◌<◌, ◌==◌, nat_lt, Bool, true, false, cond, List, [], ◌∷◌, take, length, map, Option, Some, None, refl, sym, ap, subst, ◌∙◌, arith, eqb-true, eq-eqb}
use Rattle.std.specs.Prelude.{⊤}
use Rattle.std.specs.List.{Contains}
use Rattle.std.proofs.lemmas.Bool.{ne_eqb}
use Rattle.archive_shape_layout.specs.Bytes.{window, word_at, target_from}
use Rattle.archive_shape_layout.specs.Shape.{Shape}
use Rattle.archive_shape_layout.specs.Shape.Shape.{tree, table, index_map}
use Rattle.archive_shape_layout.specs.Shape.Pointee.{slice}
use Rattle.archive_shape_layout.specs.Value.{Value, Values, count_values}
use Rattle.archive_shape_layout.specs.Value.Values.{no_values, more_values}
use Rattle.archive_shape_layout.specs.Content.{Names, Part, Label, Content, Item, content_of, members, item, place, control_count, choose, following, shape_content, table_parts}
use Rattle.archive_shape_layout.specs.Content.Part.{at, behind, buckets}
use Rattle.archive_shape_layout.specs.Content.Label.{same, second, whole}
use Rattle.archive_shape_layout.specs.Content.Content.{illegal, plain}
use Rattle.archive_forms_values.specs.Tuples.{tuple2}
use Rattle.archive_forms_values.proofs.Targets.{first_word}
use Rattle.archive_shape_layout.proofs.Windows.{word_within}
use Rattle.cabinet_documents.specs.Table.{Slot, Entry, Table, Findable, entry_of, full_from, hashed_slots, numbered, hashed_at, kept_at, table_of, where_led, empty_table, item_keys}
use Rattle.cabinet_documents.specs.Order.{ascend, is_same}
use Rattle.cabinet_documents.specs.Walk.{Stop}
use Rattle.cabinet_documents.specs.Audit.{IsMapSound, unless, keys_not_ascending, map_faults}
use Rattle.cabinet_documents.proofs.ByKey.{IsNewKey, AreKeysDistinct}
use Rattle.cabinet_documents.proofs.Found.{key_self}
use Rattle.cabinet_documents.proofs.FoundKeys.{hashed_is_findable, kept_is_findable}
use Rattle.cabinet_documents.proofs.Stops.{Each}
use Rattle.cabinet_documents.proofs.Walkable.{IsDirect}

-- ---- the tables among the parts of a walk

abbrev pub IsTableSound : List ℕ → Part → Value → Type 0
IsTableSound bytes (at pos (table s)) w = Findable (table_of hashed_at bytes pos w)
IsTableSound bytes (at pos (index_map k s)) w = Findable (table_of kept_at bytes pos w)
IsTableSound bytes p w = ⊤

-- each full place of an index map names an entry
abbrev pub NamesEntries : List ℕ → Part → Value → Type 0
NamesEntries bytes (at pos (index_map k s)) w = let t = table_of kept_at bytes pos w in (x : Slot) → Contains t.slots x → Contains t.entries (entry_of x)
NamesEntries bytes p w = ⊤

-- the keys of a table are distinct, and the other maps are sound
abbrev pub IsPlainSound : List ℕ → Part → Value → Type 0
IsPlainSound bytes (at pos (table s)) w = AreKeysDistinct (item_keys (members w))
IsPlainSound bytes (at pos (index_map k s)) w = AreKeysDistinct (item_keys (members w))
IsPlainSound bytes p w = IsMapSound bytes p w

abbrev pub TableSounds : List ℕ → Stop → Type 0
TableSounds bytes s = IsTableSound bytes s.part s.value

abbrev pub MapSounds : List ℕ → Stop → Type 0
MapSounds bytes s = IsMapSound bytes s.part s.value

abbrev pub PlainSounds : List ℕ → Stop → Type 0
PlainSounds bytes s = IsPlainSound bytes s.part s.value

-- a part is a table, an index map, or neither
pub data TableCase : Part → Type 0 where
  is_table : (pos : ℕ) (s : Shape) {p : Part} → p ≡ at pos (table s) → TableCase p
  is_index : (pos : ℕ) (k s : Shape) {p : Part} → p ≡ at pos (index_map k s) → TableCase p
  is_none : {p : Part} → ((bytes : List ℕ) (w : Value) → IsTableSound bytes p w) → ((bytes : List ℕ) (w : Value) → IsPlainSound bytes p w → IsMapSound bytes p w) → TableCase p

shape_case : (pos : ℕ) (s : Shape) → TableCase (at pos s)
shape_case pos (table s) = is_table pos s refl
shape_case pos (index_map k s) = is_index pos k s refl
shape_case pos s = is_none (λ bytes w. tt) (λ bytes w h. h)

pub table_case : (p : Part) → TableCase p
table_case (at pos s) = shape_case pos s
table_case p = is_none (λ bytes w. tt) (λ bytes w h. h)

pub both_sound : (bytes : List ℕ) (p : Part) (w : Value) → IsPlainSound bytes p w → IsTableSound bytes p w → IsMapSound bytes p w
both_sound bytes p w a b = by_case (table_case p)
  where
    by_case : TableCase p → IsMapSound bytes p w
    by_case (is_table pos s e) = subst (λ x. IsMapSound bytes x w) (sym e) (subst (λ x. IsTableSound bytes x w) e b)
    by_case (is_index pos k s e) = subst (λ x. IsMapSound bytes x w) (sym e) (subst (λ x. IsTableSound bytes x w) e b)
    by_case (is_none t same_sound) = same_sound bytes w a

pub table_sound : (bytes : List ℕ) (p : Part) (w : Value) → IsMapSound bytes p w → IsTableSound bytes p w
table_sound bytes p w a = by_case (table_case p)
  where
    by_case : TableCase p → IsTableSound bytes p w
    by_case (is_table pos s e) = subst (λ x. IsTableSound bytes x w) (sym e) (subst (λ x. IsMapSound bytes x w) e a)
    by_case (is_index pos k s e) = subst (λ x. IsTableSound bytes x w) (sym e) (subst (λ x. IsMapSound bytes x w) e a)
    by_case (is_none t same_sound) = t bytes w

-- a hashed map's places are its entries
hashed_entries : (bytes : List ℕ) (pos : ℕ) (w : Value) → (table_of hashed_at bytes pos w).entries ≡ map entry_of (table_of hashed_at bytes pos w).slots
hashed_entries bytes pos w = by_case (word_at bytes (pos + 4) == 0) (target_from pos (word_at bytes pos))
  where
    keys : List (List ℕ)
    keys = item_keys (members w)

    by_case : (b : Bool) (o : Option ℕ)
        → (cond b empty_table (where_led o (hashed_at bytes (word_at bytes (pos + 8)) keys))).entries
        ≡ map entry_of (cond b empty_table (where_led o (hashed_at bytes (word_at bytes (pos + 8)) keys))).slots
    by_case true o = refl
    by_case false None = refl
    by_case false (Some t) = refl

ascends : (b : Bool) → unless b keys_not_ascending ≡ [] → b ≡ true
ascends true e = refl
ascends false e = absurd (cc)

pub quiet_map : (bytes : List ℕ) (p : Part) (w : Value) → NamesEntries bytes p w → map_faults bytes p w ≡ [] → IsMapSound bytes p w
quiet_map bytes (at pos s) w named none = by_shape s named none
  where
    by_shape : (r : Shape) → NamesEntries bytes (at pos r) w → map_faults bytes (at pos r) w ≡ [] → IsMapSound bytes (at pos r) w
    by_shape (tree most k v) n e = ascends (ascend (item_keys (members w))) e
    by_shape (table r) n e = hashed_is_findable (table_of hashed_at bytes pos w) (hashed_entries bytes pos w) e
    by_shape (index_map k v) n e = kept_is_findable (table_of kept_at bytes pos w) n e
    by_shape r n e = tt
quiet_map bytes p w named none = tt

-- without faults all maps are sound
pub quiet_maps : (bytes : List ℕ) (walk : List Stop) → Each (λ (s : Stop). NamesEntries bytes s.part s.value) walk → Each (λ (s : Stop). map_faults bytes s.part s.value ≡ []) walk → Each (MapSounds bytes) walk
quiet_maps bytes [] n h = tt
quiet_maps bytes (s ∷ rest) n h = (quiet_map bytes s.part s.value n.0 h.0, quiet_maps bytes rest n.1 h.1)

pub each_sound : (bytes : List ℕ) (walk : List Stop) → Each (PlainSounds bytes) walk → Each (TableSounds bytes) walk → Each (MapSounds bytes) walk
each_sound bytes [] h k = tt
each_sound bytes (s ∷ rest) h k = (both_sound bytes s.part s.value h.0 k.0, each_sound bytes rest h.1 k.1)

pub sound_tables : (bytes : List ℕ) (walk : List Stop) → Each (MapSounds bytes) walk → Each (TableSounds bytes) walk
sound_tables bytes [] h = tt
sound_tables bytes (s ∷ rest) h = (table_sound bytes s.part s.value h.0, sound_tables bytes rest h.1)

-- ---- what a table's bytes say

chosen_direct : (b : Bool) (c d : Content) → IsDirect c → IsDirect d → IsDirect (choose b c d)
unfolding choose
chosen_direct true c d h k = h
chosen_direct false c d h k = k

following_direct : (o : Option ℕ) (f : ℕ → Content) → ((t : ℕ) → IsDirect (f t)) → IsDirect (following o f)
unfolding following
following_direct None f h = tt
following_direct (Some t) f h = h t

module _ (bytes : List ℕ) where
  -- buckets that a pointer leads to, and the parts behind them; without items there are none
  pub data BucketsRead (pos : ℕ) (last : Label) (it : Item) (rest : List Part) (l : Label) (ps : List Part) : Type 0 where
    reads_none : l ≡ whole → ps ≡ [] → word_at bytes (pos + 4) ≡ 0 → BucketsRead pos last it rest l ps
    reads_buckets :
        {target len : ℕ} → l ≡ last → ps ≡ buckets target len (word_at bytes (pos + 8)) it ∷ rest → (word_at bytes (pos + 4) ≡ 0 → ⊥) → target_from pos (word_at bytes pos) ≡ Some target
        → BucketsRead pos last it rest l ps

  read_buckets : (pos len : ℕ) {last : Label} {it : Item} {rest : List Part} (none fewer : Bool) (o : Option ℕ) {l : Label} {ps : List Part}
      → (word_at bytes (pos + 4) == 0) ≡ none → target_from pos (word_at bytes pos) ≡ o
      → choose none (plain whole []) (choose fewer (following o (λ t. plain last (buckets t len (word_at bytes (pos + 8)) it ∷ rest))) illegal) ≡ plain l ps
      → BucketsRead pos last it rest l ps
  unfolding choose following
  read_buckets pos len true fewer o n t e = reads_none (cc) (cc) (eqb-true _ 0 n)
  read_buckets pos len false true None n t e = absurd (cc)
  read_buckets pos len false true (Some target) n t e = reads_buckets {target = target} {len = len} (cc) (cc) (λ z. let f = eq-eqb (word_at bytes (pos + 4)) 0 z in absurd (cc)) t
  read_buckets pos len false false o n t e = absurd (cc)

  -- of a hashed map
  abbrev pub TableRead : ℕ → Label → List Part → Shape → Type 0
  TableRead pos l ps s = BucketsRead pos same (item s) [] l ps

  abbrev table_says : Shape → ℕ → ℕ → Option ℕ → Content
  table_says s len cap o = choose (len == 0) (plain whole []) (choose (nat_lt len cap) (following o (λ t. plain same (buckets t len cap (item s) ∷ []))) illegal)

  pub table_content : (names : Names) (pos : ℕ) (s : Shape)
      → content_of names bytes (at pos (table s)) ≡ table_says s (word_at bytes (pos + 4)) (word_at bytes (pos + 8)) (target_from pos (word_at bytes pos))
  unfolding shape_content table_parts
  table_content names pos s =
      let count = word_within bytes pos 12 4 (omega arith) in
      let places = word_within bytes pos 12 8 (omega arith) in
      let offset = first_word bytes pos 12 (omega arith) in
      λ i. table_says s (count i) (places i) (target_from pos (offset i))

  pub table_direct : (names : Names) (pos : ℕ) (s : Shape) → IsDirect (content_of names bytes (at pos (table s)))
  table_direct names pos s = subst IsDirect (sym (table_content names pos s)) (chosen_direct _ _ _ tt (chosen_direct _ _ _ (following_direct _ _ (λ t. tt)) tt))

  pub table_read : (names : Names) (pos : ℕ) (s : Shape) {l : Label} {ps : List Part} → content_of names bytes (at pos (table s)) ≡ plain l ps → TableRead pos l ps s
  table_read names pos s e =
      let len = word_at bytes (pos + 4) in
      read_buckets pos len (len == 0) (nat_lt len (word_at bytes (pos + 8))) (target_from pos (word_at bytes pos)) refl refl (sym (table_content names pos s) ∙ e)

  -- of a kept map: behind the numbers are as many entries
  pub record IndexRead (pos : ℕ) (l : Label) (ps : List Part) (k v : Shape) : Type 0 where
    pub start : ℕ
    pub leads : (word_at bytes (pos + 4) ≡ 0 → ⊥) → target_from (pos + 12) (word_at bytes (pos + 12)) ≡ Some start
    pub read : let len = word_at bytes (pos + 4) in BucketsRead pos second (place len) (behind start (slice (tuple2 k v)) len ∷ []) l ps

  abbrev pub index_says : Shape → Shape → ℕ → ℕ → Option ℕ → Option ℕ → Content
  index_says k v len cap o entries =
      choose (len == 0) (plain whole [])
      (following entries (λ t. choose (nat_lt len cap) (following o (λ u. plain second (buckets u len cap (place len) ∷ (behind t (slice (tuple2 k v)) len ∷ [])))) illegal))

  pub index_content : (names : Names) (pos : ℕ) (k v : Shape)
      → content_of names bytes (at pos (index_map k v))
      ≡ index_says k v (word_at bytes (pos + 4)) (word_at bytes (pos + 8)) (target_from pos (word_at bytes pos)) (target_from (pos + 12) (word_at bytes (pos + 12)))
  unfolding shape_content table_parts
  index_content names pos k v =
      let count = word_within bytes pos 16 4 (omega arith) in
      let places = word_within bytes pos 16 8 (omega arith) in
      let offset = first_word bytes pos 16 (omega arith) in
      let behind_it = word_within bytes pos 16 12 (omega arith) in
      λ i. index_says k v (count i) (places i) (target_from pos (offset i)) (target_from (pos + 12) (behind_it i))

  pub index_direct : (names : Names) (pos : ℕ) (k v : Shape) → IsDirect (content_of names bytes (at pos (index_map k v)))
  index_direct names pos k v =
      subst IsDirect (sym (index_content names pos k v)) (chosen_direct _ _ _ tt (following_direct _ _ (λ t. chosen_direct _ _ _ (following_direct _ _ (λ u. tt)) tt)))

  read_index : (pos : ℕ) (k v : Shape) (none : Bool) (entries : Option ℕ) {l : Label} {ps : List Part}
      → (word_at bytes (pos + 4) == 0) ≡ none → target_from (pos + 12) (word_at bytes (pos + 12)) ≡ entries
      → let len = word_at bytes (pos + 4) in
      let cap = word_at bytes (pos + 8) in
      choose none (plain whole []) (following entries (λ t. choose (nat_lt len cap) (following (target_from pos (word_at bytes pos)) (λ u. plain second (buckets u len cap (place len) ∷ (behind t (slice (tuple2 k v)) len ∷ [])))) illegal)) ≡ plain l ps
      → IndexRead pos l ps k v
  unfolding choose following
  read_index pos k v true entries n t e =
      let zero_length = eqb-true _ 0 n in record { start = 0; leads = λ some. absurd (some zero_length); read = reads_none (cc) (cc) zero_length }
  read_index pos k v false None n t e = absurd (cc)
  read_index pos k v false (Some start) n t e =
      let len = word_at bytes (pos + 4) in
      record { start = start; leads = λ some. t; read = read_buckets pos len false (nat_lt len (word_at bytes (pos + 8))) (target_from pos (word_at bytes pos)) n refl e }

  pub index_read : (names : Names) (pos : ℕ) (k v : Shape) {l : Label} {ps : List Part} → content_of names bytes (at pos (index_map k v)) ≡ plain l ps → IndexRead pos l ps k v
  index_read names pos k v e =
      read_index pos k v (word_at bytes (pos + 4) == 0) (target_from (pos + 12) (word_at bytes (pos + 12))) refl refl (sym (index_content names pos k v) ∙ e)

  -- of either kind of table
  module _ (kind : List ℕ → ℕ → List (List ℕ) → ℕ → Table) (pos : ℕ) (v : Value) where
    pub no_table : word_at bytes (pos + 4) ≡ 0 → table_of kind bytes pos v ≡ empty_table
    no_table z = ap (λ b. cond b empty_table (where_led (target_from pos (word_at bytes pos)) (kind bytes (word_at bytes (pos + 8)) (item_keys (members v))))) (eq-eqb (word_at bytes (pos + 4)) 0 z)

    pub led_table : {target : ℕ} → (word_at bytes (pos + 4) ≡ 0 → ⊥) → target_from pos (word_at bytes pos) ≡ Some target
        → table_of kind bytes pos v ≡ kind bytes (word_at bytes (pos + 8)) (item_keys (members v)) target
    led_table some leads =
        ap (λ b. cond b empty_table (where_led (target_from pos (word_at bytes pos)) (kind bytes (word_at bytes (pos + 8)) (item_keys (members v))))) (ne_eqb (word_at bytes (pos + 4)) 0 some)
        ∙ ap (λ o. where_led o (kind bytes (word_at bytes (pos + 8)) (item_keys (members v)))) leads

-- ---- the keys that are found are distinct

-- full places ascend
abbrev pub Above : ℕ → List ℕ → Type 0
Above n [] = ⊤
Above n (p ∷ ps) = (n ≤ p) × Above (p + 1) ps

above_less : (n m : ℕ) (ps : List ℕ) → n ≤ m → Above m ps → Above n ps
above_less n m [] h a = tt
above_less n m (p ∷ ps) h a = let low = a.0 in (omega (arith, h, low), a.1)

pub full_above : (i : ℕ) (cs : List ℕ) → Above i (full_from i cs)
full_above i [] = tt
full_above i (c ∷ cs) = by_test (nat_lt c 128) (full_above (i + 1) cs)
  where
    by_test : (b : Bool) → Above (i + 1) (full_from (i + 1) cs) → Above i (cond b (i ∷ full_from (i + 1) cs) (full_from (i + 1) cs))
    by_test true a = (omega arith, a)
    by_test false a = above_less i (i + 1) (full_from (i + 1) cs) (omega arith) a

abbrev SameNumbers : List Entry → Type 0
SameNumbers es = (a b : Entry) → Contains es a → Contains es b → is_same a.key b.key ≡ true → a.number ≡ b.number

later_among : (e x : Entry) (es : List Entry) → Contains es x → Contains (e ∷ es) x
later_among e x es c = let a = c.1 in (suc c.0, omega (arith, a), c.2)

new_key : (ps : List ℕ) (ks : List (List ℕ)) (p n : ℕ) (k : List ℕ) → length ps ≡ length ks → p < n → Above n ps
    → ((e : Entry) → Contains (map entry_of (hashed_slots ps ks)) e → is_same k e.key ≡ true → p ≡ e.number) → IsNewKey k ks
new_key [] [] p n k many less a h = tt
new_key [] (l ∷ ks) p n k many less a h = absurd (cc)
new_key (q ∷ ps) [] p n k many less a h = absurd (cc)
new_key (q ∷ ps) (l ∷ ks) p n k many less a h = (
  (λ e. let low = a.0 in let at_q : p ≡ q = h (record { number = q; key = l }) (0, omega arith, refl) (subst (λ x. is_same k x ≡ true) (sym e) (key_self k)) in omega (arith, less, low, at_q)),
  new_key ps ks p (q + 1) k (cc) (let low = a.0 in omega (arith, less, low)) a.1 (λ e c. h e (later_among (record { number = q; key = l }) e (map entry_of (hashed_slots ps ks)) c)),
)

distinct_keys : (ps : List ℕ) (ks : List (List ℕ)) (n : ℕ) → length ps ≡ length ks → Above n ps → SameNumbers (map entry_of (hashed_slots ps ks)) → AreKeysDistinct ks
distinct_keys [] [] n many a h = tt
distinct_keys [] (l ∷ ks) n many a h = absurd (cc)
distinct_keys (q ∷ ps) [] n many a h = absurd (cc)
distinct_keys (q ∷ ps) (l ∷ ks) n many a h =
    let first : Entry = record { number = q; key = l } in
    let others = map entry_of (hashed_slots ps ks) in (
      new_key ps ks q (q + 1) l (cc) (omega arith) a.1 (λ e c. h first e (0, omega arith, refl) (later_among first e others c)),
      distinct_keys ps ks (q + 1) (cc) a.1 (λ x y c d. h x y (later_among first x others c) (later_among first y others d)),
    )

pub keys_count : (vs : Values) → length (item_keys vs) ≡ count_values vs
keys_count no_values = refl
keys_count (more_values v vs) = let r = keys_count vs in omega (arith, r)

-- the keys of entries in their order
numbered_new : (ks : List (List ℕ)) (p n : ℕ) (k : List ℕ) → p < n → ((e : Entry) → Contains (numbered n ks) e → is_same k e.key ≡ true → p ≡ e.number) → IsNewKey k ks
numbered_new [] p n k less h = tt
numbered_new (l ∷ ks) p n k less h = (
  (λ e. let at_n : p ≡ n = h (record { number = n; key = l }) (0, omega arith, refl) (subst (λ x. is_same k x ≡ true) (sym e) (key_self k)) in omega (arith, less, at_n)),
  numbered_new ks p (n + 1) k (omega (arith, less)) (λ e c. h e (later_among (record { number = n; key = l }) e (numbered (n + 1) ks) c)),
)

pub numbered_distinct : (ks : List (List ℕ)) (n : ℕ) → SameNumbers (numbered n ks) → AreKeysDistinct ks
numbered_distinct [] n h = tt
numbered_distinct (k ∷ ks) n h =
    let first : Entry = record { number = n; key = k } in
    let others = numbered (n + 1) ks in (
      numbered_new ks n (n + 1) k (omega arith) (λ e c. h first e (0, omega arith, refl) (later_among first e others c)),
      numbered_distinct ks (n + 1) (λ x y c d. h x y (later_among first x others c) (later_among first y others d)),
    )

-- where each full place has an item
pub found_distinct : (bytes : List ℕ) (cap target : ℕ) (ks : List (List ℕ)) → length ks ≡ length (full_from 0 (take cap (window bytes target (control_count cap)))) → Findable (hashed_at bytes cap ks target) → AreKeysDistinct ks
found_distinct bytes cap target ks many f =
    let places = full_from 0 (take cap (window bytes target (control_count cap))) in
    distinct_keys places ks 0 (sym many) (full_above 0 (take cap (window bytes target (control_count cap)))) f.distinct
