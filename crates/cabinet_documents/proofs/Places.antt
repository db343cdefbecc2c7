-- The parts that a node leads to, and what each says.
use Rattle.std.proofs.Common.{◌≡◌, ℕ, ℤ, zero, suc, ◌+◌, ◌-◌, ◌*◌, ◌^◌, ◌<◌, ◌≤◌, Bool, true, false, cond, nat_lt, nat_le, ◌&&◌, ◌==◌, List, [], ◌∷◌, ◌++◌, take, drop, length, slice_index, Option, Some, None, refl, sym, ap, ap₂, ◌∙◌, arith, eqb-true, w64, FitsSigned, inl, inr}
use Rattle.std.specs.List.{count_by}
use Rattle.std.proofs.lemmas.List.Sums.{sum_by-cons}
use Rattle.std.proofs.lemmas.Bool.{lt-ltb, le-ltb, leb-true, ltb-true}
use Rattle.std.proofs.lemmas.Bool.Decides.{leb_tells}
use Rattle.std.specs.Int.{from_le_bytes, cast_signed}
use Rattle.archive_shape_layout.specs.Bytes.{window, align_up, word_at, target_from}
use Rattle.archive_shape_layout.specs.Shape.{Shape, align_of, size_of}
use Rattle.archive_shape_layout.specs.Shape.Shape.{number, truth, text, option, choice, box, vector, shared, tree, table, index_map}
use Rattle.archive_shape_layout.specs.Shape.Pointee.{sized, slice, str}
use Rattle.archive_shape_layout.specs.Value.Value.{natural, integer, boolean}
use Rattle.archive_shape_layout.specs.Content.{Part, Label, Content, content_of, choose, option_content, shape_tagged, shape_content, pointee_content, text_content, text_length, shared_content, following, begins_inline, before_ff, elements, number_value, children, entries, keys_offset, values_offset, links_offset, node_content, child_content, node_span, words_of, Item, item, place, item_size, item_part, tagged_items, table_parts, control_count, wraps, buckets_span, buckets_content, place_content, fields}
use Rattle.archive_shape_layout.specs.Content.Part.{at, behind, node, child, entry, buckets, place_at}
use Rattle.archive_shape_layout.specs.Content.Label.{leaf, written, same, second, whole, tagged, woven, total}
use Rattle.archive_shape_layout.specs.Content.Content.{illegal, plain, claimed, counting}
use Rattle.archive_shape_canonical.specs.Canonical.{AreBytes}
use Rattle.archive_shape.proofs.Words.{word_bound}
use Rattle.archive_shape_layout.proofs.Windows.{word_within}
use Rattle.cabinet_documents.specs.Node.{node_shape, pair_shape, node_names, payloads, whole_shape}
use Rattle.cabinet_documents.specs.Table.{full_from}

-- ---- places

pub data Place : Type 0 where
  node_here payload_here truth_here number_here text_here shared_here option_here box_here list_here ordered_here table_here index_here whole_here pair_here : Place
  -- of a search tree: a node and a pointer to a child, each at a level, and the value of an entry whose key is at a
  -- position
  tree_node tree_child entry_here : ℕ → Place
  -- of a hashed map: the buckets below a position, with so many items in so many places
  buckets_here : ℕ → ℕ → ℕ → Place
  -- of a kept map: the buckets below a position, with so many numbers in so many places, and one of the numbers, which
  -- is that of an entry below a limit
  numbers_here : ℕ → ℕ → ℕ → Place
  entry_number : ℕ → Place
  -- what pointers lead to: a node, `n` nodes, `n` pairs, or a text of `n` bytes
  node_behind : Place
  nodes_behind pairs_behind text_behind : ℕ → Place

pub record Spot : Type 0 where
  pub place : Place
  pub pos : ℕ

abbrev pub part_of : Place → ℕ → Part
part_of node_here pos = at pos node_shape
part_of payload_here pos = at pos (choice payloads)
part_of truth_here pos = at pos truth
part_of number_here pos = at pos (number w64 true)
part_of text_here pos = at pos text
part_of shared_here pos = at pos (shared false str)
part_of option_here pos = at pos (option (box (sized node_shape)))
part_of box_here pos = at pos (box (sized node_shape))
part_of list_here pos = at pos (vector node_shape)
part_of ordered_here pos = at pos (tree 5 text node_shape)
part_of table_here pos = at pos (table pair_shape)
part_of index_here pos = at pos (index_map text node_shape)
part_of whole_here pos = at pos whole_shape
part_of pair_here pos = at pos pair_shape
part_of (tree_node level) pos = node level 5 text node_shape pos
part_of (tree_child level) pos = child level 5 text node_shape pos
part_of (entry_here key) pos = entry text key node_shape pos
part_of (buckets_here target len cap) pos = buckets target len cap (item pair_shape)
part_of (numbers_here target len cap) pos = buckets target len cap (place len)
part_of (entry_number limit) pos = place_at pos limit
part_of node_behind pos = behind pos (sized node_shape) 1
part_of (nodes_behind len) pos = behind pos (slice node_shape) len
part_of (pairs_behind len) pos = behind pos (slice pair_shape) len
part_of (text_behind len) pos = behind pos str len

abbrev pub parts_at : List Spot → List Part
parts_at [] = []
parts_at (q ∷ qs) = part_of q.place q.pos ∷ parts_at qs

-- elements at a place, each of a size
abbrev pub each_from : Place → ℕ → ℕ → ℕ → List Spot
each_from k size pos zero = []
each_from k size pos (suc n) = record { place = k; pos = pos } ∷ each_from k size (pos + size) n

abbrev pub nodes_from : ℕ → ℕ → List Spot
nodes_from = each_from node_here 24

abbrev pub pairs_from : ℕ → ℕ → List Spot
pairs_from = each_from pair_here 32

each_are : (k : Place) (s : Shape) → ((pos : ℕ) → at pos s ≡ part_of k pos) → (pos n : ℕ) → elements pos n s ≡ parts_at (each_from k (size_of s) pos n)
unfolding elements
each_are k s is pos zero = refl
each_are k s is pos (suc n) = ap₂ (λ p ps. p ∷ ps) (is pos) (each_are k s is (pos + size_of s) n)

pub nodes_are : (pos n : ℕ) → elements pos n node_shape ≡ parts_at (nodes_from pos n)
nodes_are = each_are node_here node_shape (λ pos. refl)

pub pairs_are : (pos n : ℕ) → elements pos n pair_shape ≡ parts_at (pairs_from pos n)
unfolding align_up
pairs_are = each_are pair_here pair_shape (λ pos. refl)

-- the entries of a node, and the pointers to its children
abbrev pub entries_from : ℕ → ℕ → ℕ → List Spot
entries_from zero key value = []
entries_from (suc n) key value = record { place = entry_here key; pos = value } ∷ entries_from n (key + 8) (value + 24)

abbrev pub children_from : ℕ → ℕ → ℕ → List Spot
children_from zero level pos = []
children_from (suc n) level pos = record { place = tree_child level; pos = pos } ∷ children_from n level (pos + 4)

entries_are : (n key value : ℕ) → entries n text key node_shape value ≡ parts_at (entries_from n key value)
unfolding entries
entries_are zero key value = refl
entries_are (suc n) key value = ap (λ ps. entry text key node_shape value ∷ ps) (entries_are n (key + 8) (value + 24))

children_are : (n level pos : ℕ) → children n level 5 text node_shape pos ≡ parts_at (children_from n level pos)
unfolding children
children_are zero level pos = refl
children_are (suc n) level pos = ap (λ ps. child level 5 text node_shape pos ∷ ps) (children_are n level (pos + 4))

-- the items of the places whose controls are tags, each of a size, where the first control is at place i
abbrev pub tagged_from : Place → ℕ → ℕ → ℕ → List ℕ → List Spot
tagged_from k size target i [] = []
tagged_from k size target i (c ∷ cs) = cond (nat_lt c 128) (record { place = k; pos = target - (i + 1) * size } ∷ tagged_from k size target (i + 1) cs) (tagged_from k size target (i + 1) cs)

-- of a hashed map, and of a kept map with entries below a limit
abbrev pub items_from : ℕ → ℕ → List ℕ → List Spot
items_from = tagged_from pair_here 32

abbrev pub numbers_from : ℕ → ℕ → ℕ → List ℕ → List Spot
numbers_from limit = tagged_from (entry_number limit) 4

one_more_item : (b : Bool) (k : Place) (p : Part) (pos : ℕ) (ps : List Part) (qs : List Spot) → p ≡ part_of k pos → ps ≡ parts_at qs → cond b (p ∷ ps) ps ≡ parts_at (cond b (record { place = k; pos = pos } ∷ qs) qs)
one_more_item true k p pos ps qs is e = ap₂ (λ x xs. x ∷ xs) is e
one_more_item false k p pos ps qs is e = e

tagged_are : (k : Place) (it : Item) → ((pos : ℕ) → item_part it pos ≡ part_of k pos) → (target i : ℕ) (cs : List ℕ) → tagged_items target it i cs ≡ parts_at (tagged_from k (item_size it) target i cs)
unfolding tagged_items
tagged_are k it is target i [] = refl
tagged_are k it is target i (c ∷ cs) =
    let pos = target - (i + 1) * item_size it in one_more_item (nat_lt c 128) k (item_part it pos) pos _ _ (is pos) (tagged_are k it is target (i + 1) cs)

items_are : (target i : ℕ) (cs : List ℕ) → tagged_items target (item pair_shape) i cs ≡ parts_at (items_from target i cs)
unfolding align_up
items_are = tagged_are pair_here (item pair_shape) (λ pos. refl)

numbers_are : (limit target i : ℕ) (cs : List ℕ) → tagged_items target (place limit) i cs ≡ parts_at (numbers_from limit target i cs)
numbers_are limit = tagged_are (entry_number limit) (place limit) (λ pos. refl)

one_more_full : (b : Bool) (i n : ℕ) (ps : List ℕ) → length ps ≡ n → length (cond b (i ∷ ps) ps) ≡ cond b 1 0 + n
one_more_full true i n ps e = omega (arith, e)
one_more_full false i n ps e = omega (arith, e)

-- there are as many full places as controls that are tags
pub full_count : (i : ℕ) (cs : List ℕ) → length (full_from i cs) ≡ count_by (λ c. nat_lt c 128) cs
full_count i [] = refl
full_count i (c ∷ cs) = one_more_full (nat_lt c 128) i (count_by (λ x. nat_lt x 128) cs) (full_from (i + 1) cs) (full_count (i + 1) cs) ∙ sym (sum_by-cons (λ x. cond (nat_lt x 128) 1 0) c cs)

parts_append : (xs ys : List Spot) → parts_at xs ++ parts_at ys ≡ parts_at (xs ++ ys)
parts_append [] ys = refl
parts_append (x ∷ xs) ys = ap (λ ps. part_of x.place x.pos ∷ ps) (parts_append xs ys)

-- ---- how they follow one another

-- a place has the value of what it leads to
pub data Passes (bytes : List ℕ) : Place → Place → Type 0 where
  node_passes : Passes bytes node_here payload_here
  box_passes : Passes bytes box_here node_behind
  behind_passes : Passes bytes node_behind node_here
  list_passes : {len : ℕ} → (AreBytes bytes → len < 2 ^ 64) → Passes bytes list_here (nodes_behind len)
  text_passes : {len : ℕ} → Passes bytes text_here (text_behind len)
  child_passes : {level : ℕ} → Passes bytes (tree_child level) (tree_node level)
  table_passes : {target len cap : ℕ} → (AreBytes bytes → len < 2 ^ 64) → Passes bytes table_here (buckets_here target len cap)

-- a tag's node is a container where its payload is an option, a list, a map or a whole
abbrev pub lifts : ℕ → ℕ
lifts (suc (suc (suc (suc zero)))) = 1
lifts (suc (suc (suc (suc (suc zero))))) = 1
lifts (suc (suc (suc (suc (suc (suc zero)))))) = 1
lifts (suc (suc (suc (suc (suc (suc (suc zero))))))) = 1
lifts (suc (suc (suc (suc (suc (suc (suc (suc zero)))))))) = 1
lifts (suc (suc (suc (suc (suc (suc (suc (suc (suc zero))))))))) = 1
lifts n = 0

-- a tag and its payload
pub data Pays : ℕ → Place → Type 0 where
  pays_truth : Pays 0 truth_here
  pays_number : Pays 1 number_here
  pays_text : Pays 2 text_here
  pays_shared : Pays 3 shared_here
  pays_option : Pays 4 option_here
  pays_list : Pays 5 list_here
  pays_ordered : Pays 6 ordered_here
  pays_hashed : Pays 7 table_here
  pays_kept : Pays 8 index_here
  pays_whole : Pays 9 whole_here

-- how the value at a place is made, of the values at others
pub data Follows (bytes : List ℕ) : Place → Label → List Spot → Type 0 where
  passes : {k : Place} {l : Label} {qs : List Spot} {j : Place} {pos : ℕ} → Passes bytes k j → l ≡ same → qs ≡ record { place = j; pos = pos } ∷ [] → Follows bytes k l qs
  pays : {l : Label} {qs : List Spot} {tag : ℕ} {j : Place} {pos : ℕ} → Pays tag j → l ≡ tagged tag → qs ≡ record { place = j; pos = pos } ∷ [] → Follows bytes payload_here l qs
  truth_is : {l : Label} {qs : List Spot} {b : Bool} → l ≡ leaf (boolean b) → qs ≡ [] → Follows bytes truth_here l qs
  number_is : {l : Label} {qs : List Spot} {n : ℤ} → l ≡ leaf (integer n) → FitsSigned w64 n → qs ≡ [] → Follows bytes number_here l qs
  text_is : {l : Label} {qs : List Spot} {s : List ℕ} → l ≡ written s → qs ≡ [] → Follows bytes text_here l qs
  behind_is : {l : Label} {qs : List Spot} {len : ℕ} {s : List ℕ} → l ≡ written s → qs ≡ [] → Follows bytes (text_behind len) l qs
  none_is : {l : Label} {qs : List Spot} → l ≡ tagged 0 → qs ≡ [] → Follows bytes option_here l qs
  some_is : {l : Label} {qs : List Spot} {pos : ℕ} → l ≡ tagged 1 → qs ≡ record { place = box_here; pos = pos } ∷ [] → Follows bytes option_here l qs
  nodes_follow : {l : Label} {qs : List Spot} {len : ℕ} (pos : ℕ) → l ≡ whole → qs ≡ nodes_from pos len → Follows bytes (nodes_behind len) l qs
  empty_is : {l : Label} {qs : List Spot} → l ≡ whole → qs ≡ [] → Follows bytes ordered_here l qs
  total_is : {l : Label} {qs : List Spot} {len root : ℕ} → (AreBytes bytes → len < 2 ^ 64) → l ≡ total len → qs ≡ record { place = tree_node 1; pos = root } ∷ [] → Follows bytes ordered_here l qs
  -- on one of 32 levels
  leaf_follows : {l : Label} {qs : List Spot} {level : ℕ} (n key value : ℕ) → level ≤ 32 → l ≡ whole → qs ≡ entries_from n key value → Follows bytes (tree_node level) l qs
  -- with one child more than entries
  inner_follows : {l : Label} {qs : List Spot} {level : ℕ} (most deeper link key value : ℕ) → level ≤ 32 → deeper ≡ level + 1 → l ≡ woven (suc most) → qs ≡ children_from (suc most) deeper link ++ entries_from most key value → Follows bytes (tree_node level) l qs
  no_child_is : {l : Label} {qs : List Spot} {level : ℕ} → l ≡ whole → qs ≡ [] → Follows bytes (tree_child level) l qs
  entry_follows : {l : Label} {qs : List Spot} {key value : ℕ} → l ≡ whole → qs ≡ record { place = text_here; pos = key } ∷ (record { place = node_here; pos = value } ∷ []) → Follows bytes (entry_here key) l qs
  no_items_is : {l : Label} {qs : List Spot} → l ≡ whole → qs ≡ [] → Follows bytes table_here l qs
  -- of the controls of all places
  items_follow : {l : Label} {qs : List Spot} {target len cap : ℕ} (controls : List ℕ) → controls ≡ take cap (window bytes target (control_count cap)) → length (full_from 0 controls) ≡ len → l ≡ whole → qs ≡ items_from target 0 controls → Follows bytes (buckets_here target len cap) l qs
  no_entries_is : {l : Label} {qs : List Spot} → l ≡ whole → qs ≡ [] → Follows bytes index_here l qs
  -- the numbers of entries, and then the entries
  entries_second : {l : Label} {qs : List Spot} {target len cap start : ℕ} → (AreBytes bytes → len < 2 ^ 64) → l ≡ second → qs ≡ record { place = numbers_here target len cap; pos = target } ∷ (record { place = pairs_behind len; pos = start } ∷ []) → Follows bytes index_here l qs
  numbers_follow : {l : Label} {qs : List Spot} {target len cap : ℕ} (controls : List ℕ) → controls ≡ take cap (window bytes target (control_count cap)) → length (full_from 0 controls) ≡ len → l ≡ whole → qs ≡ numbers_from len target 0 controls → Follows bytes (numbers_here target len cap) l qs
  entry_number_is : {l : Label} {qs : List Spot} {limit n : ℕ} → n < limit → l ≡ leaf (natural n) → qs ≡ [] → Follows bytes (entry_number limit) l qs
  pairs_follow : {l : Label} {qs : List Spot} {len : ℕ} (pos : ℕ) → l ≡ whole → qs ≡ pairs_from pos len → Follows bytes (pairs_behind len) l qs
  pair_follows : {l : Label} {qs : List Spot} (key value : ℕ) → l ≡ whole → qs ≡ record { place = text_here; pos = key } ∷ (record { place = node_here; pos = value } ∷ []) → Follows bytes pair_here l qs

abbrev pub is_behind : Place → Bool
is_behind node_behind = true
is_behind (nodes_behind len) = true
is_behind (pairs_behind len) = true
is_behind (text_behind len) = true
is_behind (tree_node level) = true
is_behind (buckets_here target len cap) = true
is_behind (numbers_here target len cap) = true
is_behind k = false

pub data Leads (bytes : List ℕ) : Place → Content → Type 0 where
  leads_nowhere : {k : Place} {c : Content} → c ≡ illegal → Leads bytes k c
  leads_plain : {k : Place} {c : Content} {l : Label} {qs : List Spot} → c ≡ plain l (parts_at qs) → Follows bytes k l qs → Leads bytes k c
  leads_claimed : {k : Place} {c : Content} {l : Label} {qs : List Spot} {start size align : ℕ} → c ≡ claimed (record { start = start; size = size; align = align }) l (parts_at qs) → Follows bytes k l qs → is_behind k ≡ true → Leads bytes k c
  -- to a text that may have been visited before
  leads_counted : {c : Content} {t len : ℕ} → c ≡ counting false t str len → Leads bytes shared_here c
  -- to a node that may have been
  leads_whole : {c : Content} {t : ℕ} → c ≡ counting false t (sized node_shape) 1 → Leads bytes whole_here c

-- ---- what each says

number_fits : (n : ℕ) → FitsSigned w64 (cast_signed w64 n)
number_fits n =
    elim (leb_tells (2 ^ 63) n) [
      | inl high ↦ rw (le-ltb n (2 ^ 63) high.1) (record { sfits = omega (arith, high.1) })
      | inr low ↦ rw (lt-ltb n (2 ^ 63) low.1) (record { sfits = omega (arith, low.1) })
    ]

module _ (bytes : List ℕ) where
  payload_led : (pos tag : ℕ) → Leads bytes payload_here (option_content (shape_tagged tag payloads) (λ s. plain (tagged tag) (at (pos + align_up 1 (align_of s)) s ∷ [])))
  payload_led pos zero = leads_plain refl (pays pays_truth refl refl)
  payload_led pos (suc zero) = leads_plain refl (pays pays_number refl refl)
  payload_led pos (suc (suc zero)) = leads_plain refl (pays pays_text refl refl)
  payload_led pos (suc (suc (suc zero))) = leads_plain refl (pays pays_shared refl refl)
  payload_led pos (suc (suc (suc (suc zero)))) = leads_plain refl (pays pays_option refl refl)
  payload_led pos (suc (suc (suc (suc (suc zero))))) = leads_plain refl (pays pays_list refl refl)
  payload_led pos (suc (suc (suc (suc (suc (suc zero)))))) = leads_plain refl (pays pays_ordered refl refl)
  payload_led pos (suc (suc (suc (suc (suc (suc (suc zero))))))) = leads_plain refl (pays pays_hashed refl refl)
  payload_led pos (suc (suc (suc (suc (suc (suc (suc (suc zero)))))))) = leads_plain refl (pays pays_kept refl refl)
  payload_led pos (suc (suc (suc (suc (suc (suc (suc (suc (suc zero))))))))) = leads_plain refl (pays pays_whole refl refl)
  payload_led pos (suc (suc (suc (suc (suc (suc (suc (suc (suc (suc n)))))))))) = leads_nowhere refl

  truth_led : (n : ℕ) (b : Bool) → Leads bytes truth_here (choose b (plain (leaf (boolean (n == 1))) []) illegal)
  unfolding choose
  truth_led n true = leads_plain {qs = []} refl (truth_is refl refl)
  truth_led n false = leads_nowhere refl

  text_led : (o : Option ℕ) (s : List ℕ) (len : ℕ) (inline long : Bool)
      → Leads bytes text_here (choose inline (plain (written s) []) (choose long (following o (λ t. plain same (behind t str len ∷ []))) illegal))
  unfolding choose following
  text_led o s len true long = leads_plain {qs = []} refl (text_is refl refl)
  text_led None s len false true = leads_nowhere refl
  text_led (Some t) s len false true = leads_plain {qs = record { place = text_behind len; pos = t } ∷ []} refl (passes text_passes refl refl)
  text_led o s len false false = leads_nowhere refl

  shared_led : (o : Option ℕ) (len : ℕ) → Leads bytes shared_here (following o (λ t. counting false t str len))
  unfolding following
  shared_led None len = leads_nowhere refl
  shared_led (Some t) len = leads_counted refl

  whole_led : (o : Option ℕ) → Leads bytes whole_here (following o (λ t. counting false t (sized node_shape) 1))
  unfolding following
  whole_led None = leads_nowhere refl
  whole_led (Some t) = leads_whole refl

  option_led : (p : ℕ) (none some : Bool)
      → Leads bytes option_here (choose none (plain (tagged 0) []) (choose some (plain (tagged 1) (at p (box (sized node_shape)) ∷ [])) illegal))
  unfolding choose
  option_led p true some = leads_plain {qs = []} refl (none_is refl refl)
  option_led p false true = leads_plain {qs = record { place = box_here; pos = p } ∷ []} refl (some_is refl refl)
  option_led p false false = leads_nowhere refl

  box_led : (o : Option ℕ) → Leads bytes box_here (following o (λ t. plain same (behind t (sized node_shape) 1 ∷ [])))
  unfolding following
  box_led None = leads_nowhere refl
  box_led (Some t) = leads_plain {qs = record { place = node_behind; pos = t } ∷ []} refl (passes box_passes refl refl)

  list_led : (o : Option ℕ) (len : ℕ) → (AreBytes bytes → len < 2 ^ 64) → Leads bytes list_here (following o (λ t. plain same (behind t (slice node_shape) len ∷ [])))
  unfolding following
  list_led None len small = leads_nowhere refl
  list_led (Some t) len small = leads_plain {qs = record { place = nodes_behind len; pos = t } ∷ []} refl (passes (list_passes small) refl refl)

  ordered_led : (o : Option ℕ) (len : ℕ) (none : Bool) → (AreBytes bytes → len < 2 ^ 64)
      → Leads bytes ordered_here (choose none (plain whole []) (following o (λ t. plain (total len) (node 1 5 text node_shape t ∷ []))))
  unfolding choose following
  ordered_led o len true small = leads_plain {qs = []} refl (empty_is refl refl)
  ordered_led None len false small = leads_nowhere refl
  ordered_led (Some t) len false small = leads_plain {qs = record { place = tree_node 1; pos = t } ∷ []} refl (total_is small refl refl)

  leaf_led : (level pos len : ℕ) (low few : Bool) → nat_le level 32 ≡ low
      → Leads bytes (tree_node level) (choose (low && few) (claimed (node_span 1 5 text node_shape pos) whole (entries len text (pos + keys_offset text) node_shape (pos + values_offset 5 text node_shape))) illegal)
  unfolding choose
  leaf_led level pos len true true e =
      let key = pos + keys_offset text in
      let value = pos + values_offset 5 text node_shape in
      leads_claimed {qs = entries_from len key value} (ap (claimed (node_span 1 5 text node_shape pos) whole) (entries_are len key value)) (leaf_follows len key value (leb-true level 32 e) refl refl) refl
  leaf_led level pos len true false e = leads_nowhere refl
  leaf_led level pos len false few e = leads_nowhere refl

  inner_led : (level pos : ℕ) (low : Bool) → nat_le level 32 ≡ low
      → Leads bytes (tree_node level)
      (choose low (claimed (node_span 6 5 text node_shape pos) (woven 6) (children 6 (level + 1) 5 text node_shape (pos + links_offset 5 text node_shape) ++ entries 5 text (pos + keys_offset text) node_shape (pos + values_offset 5 text node_shape))) illegal)
  unfolding choose
  inner_led level pos true e =
      let link = pos + links_offset 5 text node_shape in
      let key = pos + keys_offset text in
      let value = pos + values_offset 5 text node_shape in
      let both = ap₂ (λ xs ys. xs ++ ys) (children_are 6 (level + 1) link) (entries_are 5 key value) ∙ parts_append (children_from 6 (level + 1) link) (entries_from 5 key value) in
      leads_claimed {qs = children_from 6 (level + 1) link ++ entries_from 5 key value} (ap (claimed (node_span 6 5 text node_shape pos) (woven 6)) both) (inner_follows 5 (level + 1) link key value (leb-true level 32 e) refl refl refl) refl
  inner_led level pos false e = leads_nowhere refl

  node_led : (level pos kind : ℕ) (own : List ℕ) → Leads bytes (tree_node level) (node_content level 5 text node_shape pos kind own)
  unfolding node_content
  node_led level pos zero own = leaf_led level pos (word_at own (links_offset 5 text node_shape)) (nat_le level 32) (nat_le (word_at own (links_offset 5 text node_shape)) 5) refl
  node_led level pos (suc zero) own = inner_led level pos (nat_le level 32) refl
  node_led level pos (suc (suc kind)) own = leads_nowhere refl

  child_led : (level : ℕ) (o : Option ℕ) (none low : Bool)
      → Leads bytes (tree_child level) (choose none (plain whole []) (choose low (following o (λ t. plain same (node level 5 text node_shape t ∷ []))) illegal))
  unfolding choose following
  child_led level o true low = leads_plain {qs = []} refl (no_child_is refl refl)
  child_led level None false true = leads_nowhere refl
  child_led level (Some t) false true = leads_plain {qs = record { place = tree_node level; pos = t } ∷ []} refl (passes child_passes refl refl)
  child_led level o false false = leads_nowhere refl

  table_led : (o : Option ℕ) (len cap : ℕ) (none fewer : Bool) → (AreBytes bytes → len < 2 ^ 64)
      → Leads bytes table_here (choose none (plain whole []) (choose fewer (following o (λ t. plain same (buckets t len cap (item pair_shape) ∷ []))) illegal))
  unfolding choose following
  table_led o len cap true fewer small = leads_plain {qs = []} refl (no_items_is refl refl)
  table_led None len cap false true small = leads_nowhere refl
  table_led (Some t) len cap false true small = leads_plain {qs = record { place = buckets_here t len cap; pos = t } ∷ []} refl (passes (table_passes small) refl refl)
  table_led o len cap false false small = leads_nowhere refl

  buckets_led : (target len cap : ℕ) (room wrapped counted : Bool) → (count_by (λ c. nat_lt c 128) (take cap (window bytes target (control_count cap))) == len) ≡ counted
      → Leads bytes (buckets_here target len cap)
      (choose (room && (wrapped && counted)) (claimed (buckets_span target cap (item pair_shape)) whole (tagged_items target (item pair_shape) 0 (take cap (window bytes target (control_count cap))))) illegal)
  unfolding choose
  buckets_led target len cap true true true e =
      let controls = take cap (window bytes target (control_count cap)) in
      leads_claimed {qs = items_from target 0 controls} (ap (claimed (buckets_span target cap (item pair_shape)) whole) (items_are target 0 controls)) (items_follow controls refl (full_count 0 controls ∙ eqb-true _ _ e) refl refl) refl
  buckets_led target len cap true true false e = leads_nowhere refl
  buckets_led target len cap true false counted e = leads_nowhere refl
  buckets_led target len cap false wrapped counted e = leads_nowhere refl

  index_led : (entries o : Option ℕ) (len cap : ℕ) (none fewer : Bool) → (AreBytes bytes → len < 2 ^ 64)
      → Leads bytes index_here
      (choose none (plain whole []) (following entries (λ t. choose fewer (following o (λ u. plain second (buckets u len cap (place len) ∷ (behind t (slice pair_shape) len ∷ [])))) illegal)))
  unfolding choose following
  index_led entries o len cap true fewer small = leads_plain {qs = []} refl (no_entries_is refl refl)
  index_led None o len cap false fewer small = leads_nowhere refl
  index_led (Some t) o len cap false false small = leads_nowhere refl
  index_led (Some t) None len cap false true small = leads_nowhere refl
  index_led (Some t) (Some u) len cap false true small =
      leads_plain {qs = record { place = numbers_here u len cap; pos = u } ∷ (record { place = pairs_behind len; pos = t } ∷ [])} refl (entries_second small refl refl)

  numbers_led : (target len cap : ℕ) (room wrapped counted : Bool) → (count_by (λ c. nat_lt c 128) (take cap (window bytes target (control_count cap))) == len) ≡ counted
      → Leads bytes (numbers_here target len cap)
      (choose (room && (wrapped && counted)) (claimed (buckets_span target cap (place len)) whole (tagged_items target (place len) 0 (take cap (window bytes target (control_count cap))))) illegal)
  unfolding choose
  numbers_led target len cap true true true e =
      let controls = take cap (window bytes target (control_count cap)) in
      leads_claimed {qs = numbers_from len target 0 controls} (ap (claimed (buckets_span target cap (place len)) whole) (numbers_are len target 0 controls)) (numbers_follow controls refl (full_count 0 controls ∙ eqb-true _ _ e) refl refl) refl
  numbers_led target len cap true true false e = leads_nowhere refl
  numbers_led target len cap true false counted e = leads_nowhere refl
  numbers_led target len cap false wrapped counted e = leads_nowhere refl

  entry_number_led : (n limit : ℕ) (below : Bool) → nat_lt n limit ≡ below → Leads bytes (entry_number limit) (choose below (plain (leaf (natural n)) []) illegal)
  unfolding choose
  entry_number_led n limit true e = let low = ltb-true n limit e in leads_plain {qs = []} refl (entry_number_is low refl refl)
  entry_number_led n limit false e = leads_nowhere refl

  length_small : (pos size : ℕ) → 8 ≤ size → AreBytes bytes → word_at (window bytes pos size) 4 < 2 ^ 64
  length_small pos size long small =
      let e = word_within bytes pos size 4 (omega (arith, long)) in
      let b = word_bound bytes (pos + 4) (λ i. omega (arith, small i)) in
      omega (arith, e, b)

  -- what a place says
  pub led : (k : Place) (pos : ℕ) → Leads bytes k (content_of node_names bytes (part_of k pos))
  unfolding shape_content pointee_content text_content shared_content number_value child_content table_parts buckets_content place_content fields choose align_up
  led node_here pos = leads_plain {qs = record { place = payload_here; pos = pos } ∷ []} refl (passes node_passes refl refl)
  led payload_here pos = payload_led pos (slice_index (window bytes pos 24) 0)
  led truth_here pos = truth_led (slice_index (window bytes pos 1) 0) (nat_lt (slice_index (window bytes pos 1) 0) 2)
  led number_here pos = leads_plain {qs = []} refl (number_is refl (number_fits (from_le_bytes w64 (window bytes pos 8))) refl)
  led text_here pos =
      text_led (target_from pos (word_at (window bytes pos 8) 4)) (before_ff (window bytes pos 8)) (text_length (word_at (window bytes pos 8) 0)) (begins_inline (slice_index (window bytes pos 8) 0)) (nat_lt 8 (text_length (word_at (window bytes pos 8) 0)))
  led shared_here pos = shared_led (target_from pos (word_at (window bytes pos 8) 0)) (word_at (window bytes pos 8) 4)
  led option_here pos = option_led (pos + 4) (slice_index (window bytes pos 8) 0 == 0) (slice_index (window bytes pos 8) 0 == 1)
  led box_here pos = box_led (target_from pos (word_at (window bytes pos 4) 0))
  led list_here pos = list_led (target_from pos (word_at (window bytes pos 8) 0)) (word_at (window bytes pos 8) 4) (length_small pos 8 (omega arith))
  led ordered_here pos = ordered_led (target_from pos (word_at (window bytes pos 8) 0)) (word_at (window bytes pos 8) 4) (word_at (window bytes pos 8) 4 == 0) (length_small pos 8 (omega arith))
  led (tree_node level) pos = node_led level pos (slice_index (drop pos bytes) 0) (window bytes pos (node_span (words_of (slice_index (drop pos bytes) 0) 5) 5 text node_shape pos).size)
  led (tree_child level) pos = child_led level (target_from pos (word_at (window bytes pos 4) 0)) (word_at (window bytes pos 4) 0 == 1) (nat_le level 32)
  led (entry_here key) pos = leads_plain {qs = record { place = text_here; pos = key } ∷ (record { place = node_here; pos = pos } ∷ [])} refl (entry_follows refl refl)
  led table_here pos =
      let own = window bytes pos 12 in
      table_led (target_from pos (word_at own 0)) (word_at own 4) (word_at own 8) (word_at own 4 == 0) (nat_lt (word_at own 4) (word_at own 8)) (length_small pos 12 (omega arith))
  led (buckets_here target len cap) pos =
      let controls = window bytes target (control_count cap) in
      buckets_led target len cap (nat_le (cap * 32) target) (wraps cap controls 0 controls) (count_by (λ c. nat_lt c 128) (take cap controls) == len) refl
  led index_here pos =
      let own = window bytes pos 16 in
      index_led (target_from (pos + 12) (word_at own 12)) (target_from pos (word_at own 0)) (word_at own 4) (word_at own 8) (word_at own 4 == 0) (nat_lt (word_at own 4) (word_at own 8)) (length_small pos 16 (omega arith))
  led (numbers_here target len cap) pos =
      let controls = window bytes target (control_count cap) in
      numbers_led target len cap (nat_le (cap * 4) target) (wraps cap controls 0 controls) (count_by (λ c. nat_lt c 128) (take cap controls) == len) refl
  led (entry_number limit) pos = entry_number_led (word_at (window bytes pos 4) 0) limit (nat_lt (word_at (window bytes pos 4) 0) limit) refl
  led whole_here pos = whole_led (target_from pos (word_at (window bytes pos 4) 0))
  led pair_here pos = leads_plain {qs = record { place = text_here; pos = pos + 0 } ∷ (record { place = node_here; pos = pos + 8 } ∷ [])} refl (pair_follows (pos + 0) (pos + 8) refl refl)
  led node_behind pos = leads_claimed {qs = record { place = node_here; pos = pos } ∷ []} refl (passes behind_passes refl refl) refl
  led (nodes_behind len) pos = leads_claimed {qs = nodes_from pos len} (ap (claimed (record { start = pos; size = len * 24; align = 8 }) whole) (nodes_are pos len)) (nodes_follow pos refl refl) refl
  led (pairs_behind len) pos = leads_claimed {qs = pairs_from pos len} (ap (claimed (record { start = pos; size = len * 32; align = 8 }) whole) (pairs_are pos len)) (pairs_follow pos refl refl) refl
  led (text_behind len) pos = leads_claimed {qs = []} refl (behind_is refl refl) refl
