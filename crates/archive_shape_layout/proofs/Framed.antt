-- A reading depends on a part's own bytes and on what it claims: where other bytes agree on these, they read alike.
use Rattle.std.proofs.Common.{◌≡◌, ℕ, ◌+◌, ◌-◌, ◌*◌, ◌≤◌, ◌<◌, max, zero, suc, Bool, true, false, cond, ◌==◌, ◌&&◌, nat_lt, List, [], ◌∷◌, ◌++◌, take, drop, length, slice_index, Option, Some, None, refl, ap, sym, subst, ◌∙◌, arith, le_refl, mul-le-mul_right, take-take, drop-drop, length-take, eqb-true, suc-mul, leb-true, get_or-take, count_by, nat_le, nat_lt}
use Rattle.std.specs.Prelude.{⊤}
use Rattle.std.proofs.lemmas.List.{drop-take}
use Rattle.archive_shape_layout.specs.Bytes.{window, align_up, word_at}
use Rattle.archive_shape_layout.specs.Shape.{Shape, Shapes, Pointee, Alignment, alignment_bytes, align_of, aligns_of, size_of, fields_end, payloads_end, pointer_size}
use Rattle.archive_shape_layout.specs.Shape.Shape.{number, nonzero, truth, character, text, tuple, array, option, result, choice, box, vector, shared, weak, tree, table, index_map, named}
use Rattle.archive_shape_layout.specs.Shape.Shapes.{no_shapes, more_shapes}
use Rattle.archive_shape_layout.specs.Shape.Pointee.{sized, slice, str}
use Rattle.archive_shape_layout.specs.Value.{Value, Values}
use Rattle.archive_shape_layout.specs.Content.{Item, choose, wraps, Names, Part, Span, Label, Content, content_of, fields, elements, entries, children, shape_tagged, item_size, item_part, tagged_items, following, option_content, text_content, shared_content, table_parts, shape_content, pointee_content, keys_offset, values_offset, node_size, links_offset, link_node_size, node_span, words_of, node_content, child_content, buckets_span, buckets_content, place_content, shape_named, control_count}
use Rattle.archive_shape_layout.specs.Content.Item.{item, place}
use Rattle.archive_shape_layout.specs.Content.Part.{at, behind, node, child, entry, buckets, place_at}
use Rattle.archive_shape_layout.specs.Content.Content.{illegal, plain, claimed, counting}
use Rattle.archive_shape_layout.specs.Laws.{AgreesOn, OwnAgrees, RegionsAgree, Frame}
use Rattle.archive_shape_layout.specs.Holds.{Region, region_of, Visit, OpenShared, Holds, HoldAll}
use Rattle.archive_shape_layout.specs.Holds.Holds.{holds_plain, holds_claimed, holds_first, holds_later, holds_back}
use Rattle.archive_shape_layout.specs.Holds.HoldAll.{holds_none, holds_more}

-- ---- windows

pub window_of : (bytes : List ℕ) (pos n k m : ℕ) → k + m ≤ n → window bytes (pos + k) m ≡ drop k (take (k + m) (window bytes pos n))
window_of bytes pos n k m h =
    rw (take-take (k + m) n (drop pos bytes) h, drop-take k m (drop pos bytes), drop-drop k pos bytes)

pub agrees_from : (bytes others : List ℕ) (pos n k m : ℕ) → k + m ≤ n → AgreesOn bytes others pos n → AgreesOn bytes others (pos + k) m
agrees_from bytes others pos n k m h same =
    window_of bytes pos n k m h ∙ ap (λ w. drop k (take (k + m) w)) same ∙ sym (window_of others pos n k m h)

pub agrees_within : (bytes others : List ℕ) (pos n start size : ℕ) → pos ≤ start → start + size ≤ pos + n → AgreesOn bytes others pos n → AgreesOn bytes others start size
agrees_within bytes others pos n start size low high same =
    let e : pos + (start - pos) ≡ start = omega arith in
    subst (λ x. AgreesOn bytes others x size) e (agrees_from bytes others pos n (start - pos) size (omega arith) same)

-- ---- layout

pub le_align_up : (n align : ℕ) → n ≤ align_up n align
unfolding align_up
le_align_up n align = omega arith

pub le_fields_end : (ss : Shapes) (offset : ℕ) → offset ≤ fields_end ss offset
le_fields_end no_shapes offset = le_refl offset
le_fields_end (more_shapes s ss) offset =
    let a = le_align_up offset (align_of s) in
    let b = le_fields_end ss (align_up offset (align_of s) + size_of s) in
    omega arith

-- the parts of a node lie in it
pub keys_fit : (words most : ℕ) (k v : Shape) → keys_offset k + most * size_of k ≤ values_offset most k v
unfolding values_offset
keys_fit words most k v = le_align_up _ _

pub values_fit : (most : ℕ) (k v : Shape) → values_offset most k v + most * size_of v ≤ links_offset most k v
unfolding links_offset node_size
values_fit most k v =
    let a = le_align_up (values_offset most k v + most * size_of v) (max (align_of k) (align_of v)) in
    let b = le_align_up (node_size most k v) 4 in
    omega arith

pub links_fit : (words most : ℕ) (k v : Shape) → links_offset most k v + words * 4 ≤ link_node_size words most k v
unfolding link_node_size
links_fit words most k v = le_align_up _ _

-- ---- contents

pub left_equal : (m n : ℕ) (b : Bool) → ((m == n) && b) ≡ true → m ≡ n
left_equal m n b e = grind (arith, eqb-true)

module _ (bytes others : List ℕ) where
  pub data AllOwn : List Part → Type 0 where
    own_none : AllOwn []
    own_more : {p : Part} {ps : List Part} → OwnAgrees bytes others p → AllOwn ps → AllOwn (p ∷ ps)

  -- the parts of a content agree on their own bytes
  pub data Settled : Content → Type 0 where
    is_illegal : Settled illegal
    is_plain : {l : Label} {ps : List Part} → AllOwn ps → Settled (plain l ps)
    is_claimed : {s : Span} {l : Label} {ps : List Part} → (AgreesOn bytes others s.start s.size → AllOwn ps) → Settled (claimed s l ps)
    is_counting : {cyclic : Bool} {t : ℕ} {p : Pointee} {len : ℕ} → Settled (counting cyclic t p len)

  pub plain_own : {l : Label} {ps : List Part} → Settled (plain l ps) → AllOwn ps
  plain_own (is_plain h) = h

  pub claimed_own : {s : Span} {l : Label} {ps : List Part} → Settled (claimed s l ps) → AgreesOn bytes others s.start s.size → AllOwn ps
  claimed_own (is_claimed h) = h

  -- the commonest contents
  no_parts : {l : Label} → Settled (plain l [])
  no_parts = is_plain own_none

  one_at : {l : Label} {pos : ℕ} {s : Shape} → AgreesOn bytes others pos (size_of s) → Settled (plain l (at pos s ∷ []))
  one_at h = is_plain (own_more h own_none)

  one_behind : {l : Label} {t : ℕ} {p : Pointee} {len : ℕ} → Settled (plain l (behind t p len ∷ []))
  one_behind = is_plain (own_more tt own_none)

  one_node : {l : Label} {level most : ℕ} {k v : Shape} {t : ℕ} → Settled (plain l (node level most k v t ∷ []))
  one_node = is_plain (own_more tt own_none)

  buckets_first : {l : Label} {target len cap : ℕ} {it : Item} {ps : List Part} → AllOwn ps → Settled (plain l (buckets target len cap it ∷ ps))
  buckets_first h = is_plain (own_more tt h)

  AllOwn-append : (ps qs : List Part) → AllOwn ps → AllOwn qs → AllOwn (ps ++ qs)
  AllOwn-append [] qs own_none k = k
  AllOwn-append (p ∷ ps) qs (own_more h hs) k = own_more h (AllOwn-append ps qs hs k)

  choose_settled : (b : Bool) (x y : Content) → (b ≡ true → Settled x) → Settled y → Settled (choose b x y)
  unfolding choose
  choose_settled true x y h k = h refl
  choose_settled false x y h k = k

  following_settled : (o : Option ℕ) (k : ℕ → Content) → ((t : ℕ) → Settled (k t)) → Settled (following o k)
  unfolding following
  following_settled None k h = is_illegal
  following_settled (Some t) k h = h t

  fields_own : (pos n : ℕ) (ss : Shapes) (offset : ℕ) → fields_end ss offset ≤ n → AgreesOn bytes others pos n → AllOwn (fields pos offset ss)
  unfolding fields
  fields_own pos n no_shapes offset h same = own_none
  fields_own pos n (more_shapes s ss) offset h same =
      let here = le_fields_end ss (align_up offset (align_of s) + size_of s) in
      own_more
      (agrees_from bytes others pos n (align_up offset (align_of s)) (size_of s) (omega arith) same)
      (fields_own pos n ss (align_up offset (align_of s) + size_of s) h same)

  elements_own : (pos start size k : ℕ) (s : Shape) → pos ≤ start → start + k * size_of s ≤ pos + size → AgreesOn bytes others pos size → AllOwn (elements start k s)
  unfolding elements
  elements_own pos start size zero s low high same = own_none
  elements_own pos start size (suc k) s low high same =
      let e = suc-mul k (size_of s) in
      own_more
      (agrees_within bytes others pos size start (size_of s) low (omega arith) same)
      (elements_own pos (start + size_of s) size k s (omega arith) (omega arith) same)

  payload_own : (pos n t : ℕ) (ss : Shapes) (l : Label) → payloads_end ss ≤ n → AgreesOn bytes others pos n
      → Settled (option_content (shape_tagged t ss) (λ s. plain l (at (pos + align_up 1 (align_of s)) s ∷ [])))
  payload_own pos n t no_shapes l h same = is_illegal
  payload_own pos n zero (more_shapes s ss) l h same = one_at (agrees_from bytes others pos n (align_up 1 (align_of s)) (size_of s) (omega arith) same)
  payload_own pos n (suc t) (more_shapes s ss) l h same = payload_own pos n t ss l (omega arith) same

  named_own : (pos size : ℕ) (align : Alignment) (o : Option Shape) → AgreesOn bytes others pos size
      → Settled (option_content o (λ s. choose ((size_of s == size) && (align_of s == alignment_bytes align)) (plain Label.same (at pos s ∷ [])) illegal))
  named_own pos size align None same = is_illegal
  named_own pos size align (Some s) same =
      choose_settled _ _ _
      (λ e. one_at (subst (λ n. AgreesOn bytes others pos n) (sym (left_equal (size_of s) size _ e)) same)) is_illegal

  table_settled : (pos : ℕ) (own : List ℕ) (it : Item) (rest : List Part) (l : Label) → AllOwn rest → Settled (table_parts pos own it rest l)
  unfolding table_parts
  table_settled pos own it rest l h =
      choose_settled _ _ _ (λ _. following_settled _ _ (λ t. buckets_first h)) is_illegal

  pub shape_settled : (names : Names) (pos : ℕ) (own : List ℕ) (s : Shape) → AgreesOn bytes others pos (size_of s) → Settled (shape_content names pos own s)
  unfolding shape_content text_content shared_content
  shape_settled names pos own (number w signed) same = no_parts
  shape_settled names pos own (nonzero w signed) same = choose_settled _ _ _ (λ _. is_illegal) (no_parts)
  shape_settled names pos own truth same = choose_settled _ _ _ (λ _. no_parts) is_illegal
  shape_settled names pos own character same = choose_settled _ _ _ (λ _. no_parts) is_illegal
  shape_settled names pos own text same =
      choose_settled _ _ _ (λ _. no_parts) (choose_settled _ _ _ (λ _. following_settled _ _ (λ t. one_behind)) is_illegal)
  shape_settled names pos own (tuple ss) same =
      is_plain (fields_own pos (size_of (tuple ss)) ss 0 (le_align_up (fields_end ss 0) (aligns_of ss)) same)
  shape_settled names pos own (array n s) same = is_plain (elements_own pos pos (n * size_of s) n s (le_refl pos) (le_refl _) same)
  shape_settled names pos own (option s) same =
      let fits = le_align_up (align_up 1 (align_of s) + size_of s) (align_of s) in
      choose_settled _ _ _ (λ _. no_parts)
      (choose_settled _ _ _ (λ _. one_at (agrees_from bytes others pos (size_of (option s)) (align_up 1 (align_of s)) (size_of s) fits same)) is_illegal)
  shape_settled names pos own (result s t) same =
      let offset = align_up 1 (max (align_of s) (align_of t)) in
      let fits = le_align_up (offset + max (size_of s) (size_of t)) (max (align_of s) (align_of t)) in
      choose_settled _ _ _ (λ _. one_at (agrees_from bytes others pos (size_of (result s t)) offset (size_of s) (omega arith) same))
      (choose_settled _ _ _ (λ _. one_at (agrees_from bytes others pos (size_of (result s t)) offset (size_of t) (omega arith) same)) is_illegal)
  shape_settled names pos own (choice ss) same =
      payload_own pos (size_of (choice ss)) (slice_index own 0) ss _ (le_align_up (payloads_end ss) (aligns_of ss)) same
  shape_settled names pos own (box p) same = following_settled _ _ (λ t. one_behind)
  shape_settled names pos own (vector s) same = following_settled _ _ (λ t. one_behind)
  shape_settled names pos own (shared cyclic p) same = following_settled _ _ (λ t. is_counting)
  shape_settled names pos own (weak cyclic p) same =
      choose_settled _ _ _ (λ _. no_parts)
      (choose_settled _ _ _ (λ _. one_at (agrees_from bytes others pos (4 + pointer_size p) 4 (pointer_size p) (le_refl _) same)) is_illegal)
  shape_settled names pos own (tree most k v) same = choose_settled _ _ _ (λ _. no_parts) (following_settled _ _ (λ t. one_node))
  shape_settled names pos own (table s) same = choose_settled _ _ _ (λ _. no_parts) (table_settled pos own (item s) [] _ own_none)
  shape_settled names pos own (index_map k v) same =
      choose_settled _ _ _ (λ _. no_parts) (following_settled _ _ (λ t. table_settled pos own _ _ _ (own_more tt own_none)))
  shape_settled names pos own (named name size align) same = named_own pos size align (shape_named names name) same

  entries_own : (pos size n : ℕ) (k : Shape) (key_pos : ℕ) (v : Shape) (value_pos : ℕ)
      → pos ≤ key_pos → key_pos + n * size_of k ≤ pos + size → pos ≤ value_pos → value_pos + n * size_of v ≤ pos + size
      → AgreesOn bytes others pos size → AllOwn (entries n k key_pos v value_pos)
  unfolding entries
  entries_own pos size zero k key_pos v value_pos a b c d same = own_none
  entries_own pos size (suc n) k key_pos v value_pos a b c d same =
      let ek = suc-mul n (size_of k) in
      let ev = suc-mul n (size_of v) in
      own_more (
        agrees_within bytes others pos size key_pos (size_of k) a (omega arith) same,
        agrees_within bytes others pos size value_pos (size_of v) c (omega arith) same,
      )
      (entries_own pos size n k (key_pos + size_of k) v (value_pos + size_of v) (omega arith) (omega arith) (omega arith) (omega arith) same)

  children_own : (pos size n level most : ℕ) (k v : Shape) (start : ℕ) → pos ≤ start → start + n * 4 ≤ pos + size
      → AgreesOn bytes others pos size → AllOwn (children n level most k v start)
  unfolding children
  children_own pos size zero level most k v start a b same = own_none
  children_own pos size (suc n) level most k v start a b same =
      own_more
      (agrees_within bytes others pos size start 4 a (omega arith) same)
      (children_own pos size n level most k v (start + 4) (omega arith) (omega arith) same)

  pub node_settled : (level most : ℕ) (k v : Shape) (pos kind : ℕ) (own : List ℕ) → Settled (node_content level most k v pos kind own)
  unfolding node_content
  node_settled level most k v pos zero own =
      let len = word_at own (links_offset most k v) in
      choose_settled _ _ _
      (λ e. is_claimed (λ same.
      let few : len ≤ most = grind (arith, leb-true) in
      let f1 = keys_fit 1 most k v in
      let f2 = values_fit most k v in
      let f3 = links_fit 1 most k v in
      let m1 = mul-le-mul_right (size_of k) few in
      let m2 = mul-le-mul_right (size_of v) few in
      entries_own pos (link_node_size 1 most k v) len k (pos + keys_offset k) v (pos + values_offset most k v)
      (omega arith) (omega arith) (omega arith) (omega arith) same))
      is_illegal
  node_settled level most k v pos (suc zero) own =
      choose_settled _ _ _
      (λ e. is_claimed (λ same.
      let f1 = keys_fit (most + 1) most k v in
      let f2 = values_fit most k v in
      let f3 = links_fit (most + 1) most k v in
      AllOwn-append _ _
      (children_own pos (link_node_size (most + 1) most k v) (most + 1) (level + 1) most k v (pos + links_offset most k v) (omega arith) (omega arith) same)
      (entries_own pos (link_node_size (most + 1) most k v) most k (pos + keys_offset k) v (pos + values_offset most k v)
      (omega arith) (omega arith) (omega arith) (omega arith) same)))
      is_illegal
  node_settled level most k v pos (suc (suc kind)) own = is_illegal

  child_settled : (level most : ℕ) (k v : Shape) (pos : ℕ) (own : List ℕ) → Settled (child_content level most k v pos own)
  unfolding child_content
  child_settled level most k v pos own =
      choose_settled _ _ _ (λ _. no_parts) (choose_settled _ _ _ (λ _. following_settled _ _ (λ t. one_node)) is_illegal)

  place_settled : (limit : ℕ) (own : List ℕ) → Settled (place_content limit own)
  unfolding place_content
  place_settled limit own = choose_settled _ _ _ (λ _. no_parts) is_illegal

  behind_settled : (pos : ℕ) (p : Pointee) (len : ℕ) → Settled (pointee_content bytes pos p len)
  unfolding pointee_content
  behind_settled pos (sized s) len = is_claimed (λ same. own_more same own_none)
  behind_settled pos (slice s) len = is_claimed (λ same. elements_own pos pos (len * size_of s) len s (le_refl pos) (le_refl _) same)
  behind_settled pos str len = is_claimed (λ same. own_none)

  item_own : (it : Item) (pos : ℕ) → AgreesOn bytes others pos (item_size it) → OwnAgrees bytes others (item_part it pos)
  item_own (item s) pos h = h
  item_own (place limit) pos h = h

  items_own : (target cap extra : ℕ) (it : Item) (i : ℕ) (cs : List ℕ) → i + length cs ≤ cap
      → AgreesOn bytes others (target - cap * item_size it) (cap * item_size it + extra) → AllOwn (tagged_items target it i cs)
  unfolding tagged_items
  items_own target cap extra it i [] low same = own_none
  items_own target cap extra it i (c ∷ cs) low same =
      let size = item_size it in
      let more : (i + 1) * size ≤ cap * size = mul-le-mul_right size (omega arith) in
      let here : AgreesOn bytes others (target - (i + 1) * size) size =
      agrees_within bytes others (target - cap * size) (cap * size + extra) (target - (i + 1) * size) size (omega arith) (omega arith) same in
      let rest = items_own target cap extra it (i + 1) cs (omega arith) same in
      tested (nat_lt c 128) (own_more (item_own it _ here) rest) rest
    where
      tested : (b : Bool) {p : Part} {ps : List Part} → AllOwn (p ∷ ps) → AllOwn ps → AllOwn (cond b (p ∷ ps) ps)
      tested true h k = h
      tested false h k = k

  buckets_settled : (target len cap : ℕ) (it : Item) (controls : List ℕ) → Settled (buckets_content target len cap it controls)
  unfolding buckets_content buckets_span
  buckets_settled target len cap it controls =
      choose_settled _ _ _
      (λ _. is_claimed (λ same. items_own target cap (control_count cap) it 0 (take cap controls) (omega (arith, length-take cap controls)) same))
      is_illegal

  pub settled : (names : Names) (p : Part) → OwnAgrees bytes others p → Settled (content_of names bytes p)
  settled names (at pos s) own = shape_settled names pos (window bytes pos (size_of s)) s own
  settled names (behind pos p len) own = behind_settled pos p len
  settled names (node level most k v pos) own =
      node_settled level most k v pos (slice_index (drop pos bytes) 0) (window bytes pos (link_node_size (words_of (slice_index (drop pos bytes) 0) most) most k v))
  settled names (child level most k v pos) own = child_settled level most k v pos (window bytes pos 4)
  settled names (entry k key_pos v value_pos) own = is_plain (own_more own.0 (own_more own.1 own_none))
  settled names (buckets target len cap it) own = buckets_settled target len cap it _
  settled names (place_at pos limit) own = place_settled limit (window bytes pos 4)

  -- what is claimed, if anything is, is read alike; what is illegal says nothing
  pub Agreed : Content → Type 0
  Agreed illegal = ⊥
  Agreed (plain l ps) = ⊤
  Agreed (claimed s l ps) = AgreesOn bytes others s.start s.size
  Agreed (counting cyclic t p len) = ⊤

  choose_agreed : (b : Bool) (c : Content) → Agreed (choose b c illegal) → Agreed c
  unfolding choose Agreed
  choose_agreed true c h = h
  choose_agreed false c h = absurd h

  node_agreed : (level most : ℕ) (k v : Shape) (pos kind : ℕ) (own : List ℕ) → Agreed (node_content level most k v pos kind own)
      → AgreesOn bytes others pos (link_node_size (words_of kind most) most k v)
  unfolding node_content Agreed
  node_agreed level most k v pos zero own h = choose_agreed _ (claimed (node_span 1 most k v pos) _ _) h
  node_agreed level most k v pos (suc zero) own h = choose_agreed _ (claimed (node_span (most + 1) most k v pos) _ _) h
  node_agreed level most k v pos (suc (suc kind)) own h = absurd h

  buckets_agreed : (target len cap : ℕ) (it : Item) (controls : List ℕ) → Agreed (buckets_content target len cap it controls)
      → AgreesOn bytes others target (control_count cap)
  unfolding buckets_content Agreed buckets_span choose
  buckets_agreed target len cap it controls h = by_test _ refl h
    where
      by_test : (b : Bool) → (nat_le (cap * item_size it) target && (wraps cap controls 0 controls && (count_by (λ c. nat_lt c 128) (take cap controls) == len))) ≡ b
          → Agreed (choose b (claimed (buckets_span target cap it) Label.whole (tagged_items target it 0 (take cap controls))) illegal) → AgreesOn bytes others target (control_count cap)
      by_test false e h = absurd h
      by_test true e h =
          let fits : cap * item_size it ≤ target = grind (arith, leb-true) in
          agrees_within bytes others (target - cap * item_size it) (cap * item_size it + control_count cap) target (control_count cap) (omega arith) (omega arith) h

  node_is_some : (words most : ℕ) (k v : Shape) → 0 < link_node_size words most k v
  node_is_some words most k v =
      let a = links_fit words most k v in
      let b = values_fit most k v in
      let c = keys_fit words most k v in
      let d : 1 ≤ keys_offset k = unfold keys_offset in le_align_up 1 (align_of k) in
      omega arith

  pub first_alike : (pos n : ℕ) → 0 < n → AgreesOn bytes others pos n → slice_index (drop pos bytes) 0 ≡ slice_index (drop pos others) 0
  first_alike pos n some same =
      sym (get_or-take n (drop pos bytes) 0 0 some) ∙ ap (λ w. slice_index w 0) same ∙ get_or-take n (drop pos others) 0 0 some

  pub stable : (names : Names) (p : Part) (c : Content) → OwnAgrees bytes others p → content_of names bytes p ≡ c → Agreed c → content_of names others p ≡ c
  unfolding Agreed pointee_content
  stable names (at pos s) c own e h = ap (λ w. shape_content names pos w s) (sym own) ∙ e
  stable names (behind pos (sized s) len) c own e h = e
  stable names (behind pos (slice s) len) c own e h = e
  stable names (behind pos str len) c own e h =
      let same : AgreesOn bytes others pos len = subst Agreed (sym e) h in
      ap (λ w. claimed (record { start = pos; size = len; align = 1 }) (Label.written w) []) (sym same) ∙ e
  stable names (node level most k v pos) c own e h =
      let kind = slice_index (drop pos bytes) 0 in
      let size = λ (n : ℕ). link_node_size (words_of n most) most k v in
      let same = node_agreed level most k v pos kind (window bytes pos (size kind)) (subst Agreed (sym e) h) in
      let alike = first_alike pos (size kind) (node_is_some (words_of kind most) most k v) same in
      ap (λ n. node_content level most k v pos n (window others pos (size n))) (sym alike) ∙ ap (node_content level most k v pos kind) (sym same) ∙ e
  stable names (child level most k v pos) c own e h = ap (child_content level most k v pos) (sym own) ∙ e
  stable names (entry k key_pos v value_pos) c own e h = e
  stable names (buckets target len cap it) c own e h =
      let same = buckets_agreed target len cap it _ (subst Agreed (sym e) h) in
      ap (buckets_content target len cap it) (sym same) ∙ e
  stable names (place_at pos limit) c own e h = ap (place_content limit) (sym own) ∙ e

  pub stable_plain : (names : Names) (p : Part) {l : Label} {ps : List Part} → OwnAgrees bytes others p → content_of names bytes p ≡ plain l ps → content_of names others p ≡ plain l ps
  unfolding Agreed
  stable_plain names p {l = l} {ps = ps} own e = stable names p (plain l ps) own e tt

  pub stable_claimed : (names : Names) (p : Part) {s : Span} {l : Label} {ps : List Part} → OwnAgrees bytes others p → AgreesOn bytes others s.start s.size → content_of names bytes p ≡ claimed s l ps → content_of names others p ≡ claimed s l ps
  unfolding Agreed
  stable_claimed names p {s = s} {l = l} {ps = ps} own same e = stable names p (claimed s l ps) own e same

  pub RegionsAgree-append : (rs qs : List Region) → RegionsAgree bytes others (rs ++ qs) → RegionsAgree bytes others rs × RegionsAgree bytes others qs
  unfolding RegionsAgree
  RegionsAgree-append [] qs h = (tt, h)
  RegionsAgree-append (r ∷ rs) qs h =
      let rest = RegionsAgree-append rs qs h.1 in
      ((h.0, rest.0), rest.1)

  pub one_region : (s : Span) (level : ℕ) → RegionsAgree bytes others (region_of s level ∷ []) → AgreesOn bytes others s.start s.size
  unfolding RegionsAgree
  one_region s level h = h.0

  module _ (names : Names) where
    mutual
      unfolding Agreed

      pub frame :
          {level : ℕ} {inside : List OpenShared} {p : Part} {v : Value} {rs : List Region} {before after : List Visit}
          → OwnAgrees bytes others p
          → RegionsAgree bytes others rs
          → Holds names bytes level inside p v rs before after
          → Holds names others level inside p v rs before after
      frame own regions (holds_plain {p = p} {l = l} {ps = ps} e legal all m) =
          let parts = plain_own (subst Settled e (settled names p own)) in
          holds_plain (stable names p (plain l ps) own e tt) legal (frame_all parts regions all) m
      frame own regions (holds_claimed {level = level} {p = p} {within = within} {s = s} {l = l} {ps = ps} e legal all m r) =
          let split = RegionsAgree-append within (region_of s level ∷ []) (subst (RegionsAgree bytes others) r regions) in
          let here = one_region s level split.1 in
          let parts = claimed_own (subst Settled e (settled names p own)) here in
          holds_claimed (stable names p (claimed s l ps) own e here) legal (frame_all parts split.0 all) m r
      frame own regions (holds_first {p = p} {cyclic = cyclic} {t = t} {q = q} {len = len} e a b h d g) =
          holds_first (stable names p (counting cyclic t q len) own e tt) a b (frame tt regions h) d g
      frame own regions (holds_later {p = p} {cyclic = cyclic} {t = t} {q = q} {len = len} e a b d g h) =
          holds_later (stable names p (counting cyclic t q len) own e tt) a b d g h
      frame own regions (holds_back {p = p} {t = t} {q = q} {len = len} e a d g h) =
          holds_back (stable names p (counting true t q len) own e tt) a d g h

      pub frame_all :
          {level : ℕ} {inside : List OpenShared} {ps : List Part} {vs : Values} {rs : List Region} {before after : List Visit}
          → AllOwn ps
          → RegionsAgree bytes others rs
          → HoldAll names bytes level inside ps vs rs before after
          → HoldAll names others level inside ps vs rs before after
      frame_all own regions (holds_none e f g) = holds_none e f g
      frame_all (own_more here rest) regions (holds_more {here = rs} {later = qs} h hs e r) =
          let split = RegionsAgree-append rs qs (subst (RegionsAgree bytes others) r regions) in
          holds_more (frame here split.0 h) (frame_all rest split.1 hs) e r

pub frame_law : Frame
frame_law names bytes others level inside p v rs before after own regions h = frame bytes others names own regions h
