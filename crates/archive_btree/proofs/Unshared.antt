-- A value of a shape that holds no shared pointer is had regardless of what was visited before it.
use Rattle.std.proofs.Common.{◌≡◌, ℕ, zero, suc, ◌+◌, Bool, true, false, cond, nat_lt, List, [], ◌∷◌, ◌++◌, drop, slice_index, Option, Some, None, refl, subst}
use Rattle.std.specs.Prelude.{⊤}
use Rattle.std.proofs.lemmas.Bool.{or_parts}
use Rattle.archive_shape_layout.specs.Bytes.{window, align_up}
use Rattle.archive_shape_layout.specs.Shape.{Shape, Shapes, Pointee, align_of, size_of}
use Rattle.archive_shape_layout.specs.Shape.Shape.{number, nonzero, truth, character, text, tuple, array, option, result, choice, box, vector, shared, weak, tree, table, index_map, named}
use Rattle.archive_shape_layout.specs.Shape.Shapes.{no_shapes, more_shapes}
use Rattle.archive_shape_layout.specs.Shape.Pointee.{sized, slice, str}
use Rattle.archive_shape_layout.specs.Value.{Value, Values}
use Rattle.archive_shape_layout.specs.Content.{Names, Item, Part, Span, Label, Content, item_part, fields, elements, entries, children, shape_tagged, tagged_items, choose, following, option_content, text_content, table_parts, shape_content, pointee_content, link_node_size, words_of, node_content, child_content, buckets_content, place_content, content_of}
use Rattle.archive_shape_layout.specs.Content.Item.{item, place}
use Rattle.archive_shape_layout.specs.Content.Part.{at, behind, node, child, entry, buckets, place_at}
use Rattle.archive_shape_layout.specs.Content.Content.{illegal, plain, claimed}
use Rattle.archive_shape_layout.specs.Holds.{Region, Visit, OpenShared, Holds, HoldAll}
use Rattle.archive_shape_layout.specs.Holds.Holds.{holds_plain, holds_claimed, holds_first, holds_later, holds_back}
use Rattle.archive_shape_layout.specs.Holds.HoldAll.{holds_none, holds_more}
use Rattle.archive_forms_laws.specs.Unshared.{holds_shared, any_holds_shared, leads_to_shared}
use Rattle.archive_forms_laws.proofs.Unshared.{pair_unshared, payload_unshared}

-- ---- parts whose values hold no shared pointer

abbrev IsUnsharedItem : Item → Type 0
IsUnsharedItem (item s) = holds_shared s ≡ false
IsUnsharedItem (place limit) = ⊤

abbrev IsUnshared : Part → Type 0
IsUnshared (at pos s) = holds_shared s ≡ false
IsUnshared (behind pos p len) = leads_to_shared p ≡ false
IsUnshared (node level most k v pos) = (holds_shared k ≡ false) × (holds_shared v ≡ false)
IsUnshared (child level most k v pos) = (holds_shared k ≡ false) × (holds_shared v ≡ false)
IsUnshared (entry k key_pos v value_pos) = (holds_shared k ≡ false) × (holds_shared v ≡ false)
IsUnshared (buckets target len cap it) = IsUnsharedItem it
IsUnshared (place_at pos limit) = ⊤

data AreUnshared : List Part → Type 0 where
  none : AreUnshared []
  more : {p : Part} {ps : List Part} → IsUnshared p → AreUnshared ps → AreUnshared (p ∷ ps)

-- a content is no counted pointer, and its parts hold none
data HasUnshared : Content → Type 0 where
  is_illegal : HasUnshared illegal
  is_plain : {l : Label} {ps : List Part} → AreUnshared ps → HasUnshared (plain l ps)
  is_claimed : {s : Span} {l : Label} {ps : List Part} → AreUnshared ps → HasUnshared (claimed s l ps)

plain_parts : {l : Label} {ps : List Part} → HasUnshared (plain l ps) → AreUnshared ps
plain_parts (is_plain h) = h

claimed_parts : {s : Span} {l : Label} {ps : List Part} → HasUnshared (claimed s l ps) → AreUnshared ps
claimed_parts (is_claimed h) = h

-- ---- each content

no_parts : {l : Label} → HasUnshared (plain l [])
no_parts = is_plain none

one_part : {l : Label} {p : Part} → IsUnshared p → HasUnshared (plain l (p ∷ []))
one_part h = is_plain (more h none)

unshared-append : (ps qs : List Part) → AreUnshared ps → AreUnshared qs → AreUnshared (ps ++ qs)
unshared-append [] qs none k = k
unshared-append (p ∷ ps) qs (more h hs) k = more h (unshared-append ps qs hs k)

choose_unshared : (b : Bool) (c d : Content) → HasUnshared c → HasUnshared d → HasUnshared (choose b c d)
unfolding choose
choose_unshared true c d h k = h
choose_unshared false c d h k = k

following_unshared : (o : Option ℕ) (c : ℕ → Content) → ((t : ℕ) → HasUnshared (c t)) → HasUnshared (following o c)
unfolding following
following_unshared None c h = is_illegal
following_unshared (Some t) c h = h t

fields_unshared : (pos offset : ℕ) (ss : Shapes) → any_holds_shared ss ≡ false → AreUnshared (fields pos offset ss)
unfolding fields
fields_unshared pos offset no_shapes h = none
fields_unshared pos offset (more_shapes s ss) h =
    let parts = or_parts (holds_shared s) (any_holds_shared ss) h in
    more parts.0 (fields_unshared pos (align_up offset (align_of s) + size_of s) ss parts.1)

elements_unshared : (pos n : ℕ) (s : Shape) → holds_shared s ≡ false → AreUnshared (elements pos n s)
unfolding elements
elements_unshared pos zero s h = none
elements_unshared pos (suc n) s h = more h (elements_unshared (pos + size_of s) n s h)

entries_unshared : (n : ℕ) (k : Shape) (key_pos : ℕ) (v : Shape) (value_pos : ℕ) → holds_shared k ≡ false → holds_shared v ≡ false → AreUnshared (entries n k key_pos v value_pos)
unfolding entries
entries_unshared zero k key_pos v value_pos h g = none
entries_unshared (suc n) k key_pos v value_pos h g = more (h, g) (entries_unshared n k (key_pos + size_of k) v (value_pos + size_of v) h g)

children_unshared : (n level most : ℕ) (k v : Shape) (pos : ℕ) → holds_shared k ≡ false → holds_shared v ≡ false → AreUnshared (children n level most k v pos)
unfolding children
children_unshared zero level most k v pos h g = none
children_unshared (suc n) level most k v pos h g = more (h, g) (children_unshared n level most k v (pos + 4) h g)

item_unshared : (it : Item) (pos : ℕ) → IsUnsharedItem it → IsUnshared (item_part it pos)
item_unshared (item s) pos h = h
item_unshared (place limit) pos h = tt

items_unshared : (target : ℕ) (it : Item) (i : ℕ) (cs : List ℕ) → IsUnsharedItem it → AreUnshared (tagged_items target it i cs)
unfolding tagged_items
items_unshared target it i [] h = none
items_unshared target it i (c ∷ cs) h =
    let rest = items_unshared target it (i + 1) cs h in
    tested (nat_lt c 128) (more (item_unshared it _ h) rest) rest
  where
    tested : (b : Bool) {p : Part} {ps : List Part} → AreUnshared (p ∷ ps) → AreUnshared ps → AreUnshared (cond b (p ∷ ps) ps)
    tested true h k = h
    tested false h k = k

payload : (tag : ℕ) (ss : Shapes) (o : Option Shape) (l : Label) (from : Shape → ℕ) → shape_tagged tag ss ≡ o → any_holds_shared ss ≡ false
    → HasUnshared (option_content o (λ s. plain l (at (from s) s ∷ [])))
payload tag ss None l from e h = is_illegal
payload tag ss (Some s) l from e h = one_part (payload_unshared ss tag s e h)

table_unshared : (pos : ℕ) (own : List ℕ) (it : Item) (rest : List Part) (l : Label) → IsUnsharedItem it → AreUnshared rest → HasUnshared (table_parts pos own it rest l)
unfolding table_parts
table_unshared pos own it rest l h k = choose_unshared _ _ _ (following_unshared _ _ (λ t. is_plain (more h k))) is_illegal

shape_unshared : (names : Names) (pos : ℕ) (own : List ℕ) (s : Shape) → holds_shared s ≡ false → HasUnshared (shape_content names pos own s)
unfolding shape_content text_content
shape_unshared names pos own (number w signed) h = no_parts
shape_unshared names pos own (nonzero w signed) h = choose_unshared _ _ _ is_illegal no_parts
shape_unshared names pos own truth h = choose_unshared _ _ _ no_parts is_illegal
shape_unshared names pos own character h = choose_unshared _ _ _ no_parts is_illegal
shape_unshared names pos own text h =
    choose_unshared _ _ _ no_parts (choose_unshared _ _ _ (following_unshared _ _ (λ t. one_part refl)) is_illegal)
shape_unshared names pos own (tuple ss) h = is_plain (fields_unshared pos 0 ss h)
shape_unshared names pos own (array n s) h = is_plain (elements_unshared pos n s h)
shape_unshared names pos own (option s) h = choose_unshared _ _ _ no_parts (choose_unshared _ _ _ (one_part h) is_illegal)
shape_unshared names pos own (result s t) h =
    let parts = or_parts (holds_shared s) (holds_shared t) h in
    choose_unshared _ _ _ (one_part parts.0) (choose_unshared _ _ _ (one_part parts.1) is_illegal)
shape_unshared names pos own (choice ss) h = payload (slice_index own 0) ss (shape_tagged (slice_index own 0) ss) _ _ refl h
shape_unshared names pos own (box p) h = following_unshared _ _ (λ t. one_part h)
shape_unshared names pos own (vector s) h = following_unshared _ _ (λ t. one_part h)
shape_unshared names pos own (shared cyclic p) h = absurd cc
shape_unshared names pos own (weak cyclic p) h = absurd cc
shape_unshared names pos own (tree most k v) h =
    choose_unshared _ _ _ no_parts (following_unshared _ _ (λ t. one_part (or_parts (holds_shared k) (holds_shared v) h)))
shape_unshared names pos own (table s) h = choose_unshared _ _ _ no_parts (table_unshared pos own (item s) [] _ h none)
shape_unshared names pos own (index_map k v) h =
    choose_unshared _ _ _ no_parts (following_unshared _ _ (λ t. table_unshared pos own _ _ _ tt (more (pair_unshared k v h) none)))
shape_unshared names pos own (named name size align) h = absurd cc

node_unshared : (level most : ℕ) (k v : Shape) (pos kind : ℕ) (own : List ℕ) → holds_shared k ≡ false → holds_shared v ≡ false → HasUnshared (node_content level most k v pos kind own)
unfolding node_content
node_unshared level most k v pos zero own h g = choose_unshared _ _ _ (is_claimed (entries_unshared _ k _ v _ h g)) is_illegal
node_unshared level most k v pos (suc zero) own h g =
    choose_unshared _ _ _ (is_claimed (unshared-append _ _ (children_unshared (most + 1) (level + 1) most k v _ h g) (entries_unshared most k _ v _ h g))) is_illegal
node_unshared level most k v pos (suc (suc kind)) own h g = is_illegal

child_unshared : (level most : ℕ) (k v : Shape) (pos : ℕ) (own : List ℕ) → holds_shared k ≡ false → holds_shared v ≡ false → HasUnshared (child_content level most k v pos own)
unfolding child_content
child_unshared level most k v pos own h g =
    choose_unshared _ _ _ no_parts (choose_unshared _ _ _ (following_unshared _ _ (λ t. one_part (h, g))) is_illegal)

behind_unshared : (bytes : List ℕ) (pos : ℕ) (p : Pointee) (len : ℕ) → leads_to_shared p ≡ false → HasUnshared (pointee_content bytes pos p len)
unfolding pointee_content
behind_unshared bytes pos (sized s) len h = is_claimed (more h none)
behind_unshared bytes pos (slice s) len h = is_claimed (elements_unshared pos len s h)
behind_unshared bytes pos str len h = is_claimed none

buckets_unshared : (target len cap : ℕ) (it : Item) (controls : List ℕ) → IsUnsharedItem it → HasUnshared (buckets_content target len cap it controls)
unfolding buckets_content
buckets_unshared target len cap it controls h = choose_unshared _ _ _ (is_claimed (items_unshared target it 0 _ h)) is_illegal

place_unshared : (limit : ℕ) (own : List ℕ) → HasUnshared (place_content limit own)
unfolding place_content
place_unshared limit own = choose_unshared _ _ _ no_parts is_illegal

module _ (names : Names) (bytes : List ℕ) where
  content_unshared : (p : Part) → IsUnshared p → HasUnshared (content_of names bytes p)
  content_unshared (at pos s) h = shape_unshared names pos (window bytes pos (size_of s)) s h
  content_unshared (behind pos p len) h = behind_unshared bytes pos p len h
  content_unshared (node level most k v pos) h =
      node_unshared level most k v pos (slice_index (drop pos bytes) 0) (window bytes pos (link_node_size (words_of (slice_index (drop pos bytes) 0) most) most k v)) h.0 h.1
  content_unshared (child level most k v pos) h = child_unshared level most k v pos (window bytes pos 4) h.0 h.1
  content_unshared (entry k key_pos v value_pos) h = is_plain (more h.0 (more h.1 none))
  content_unshared (buckets target len cap it) h = buckets_unshared target len cap it _ h
  content_unshared (place_at pos limit) h = place_unshared limit (window bytes pos 4)

  -- ---- values

  no_counting : {c : Content} {cyclic : Bool} {t : ℕ} {q : Pointee} {len : ℕ} → c ≡ Content.counting cyclic t q len → HasUnshared c → ⊥
  no_counting e is_illegal = absurd cc
  no_counting e (is_plain h) = absurd cc
  no_counting e (is_claimed h) = absurd cc

  mutual
    -- a part has its value after no visits
    unvisited : {level : ℕ} {inside : List OpenShared} {p : Part} {v : Value} {regions : List Region} {before after : List Visit}
        → Holds names bytes level inside p v regions before after → IsUnshared p → Holds names bytes level inside p v regions [] []
    unvisited {p = p} (holds_plain e legal all is) h = holds_plain e legal (all_unvisited all (plain_parts (subst HasUnshared e (content_unshared p h)))) is
    unvisited {p = p} (holds_claimed e legal all is joined) h = holds_claimed e legal (all_unvisited all (claimed_parts (subst HasUnshared e (content_unshared p h)))) is joined
    unvisited {p = p} (holds_first e a b x d g) h = absurd (no_counting e (content_unshared p h))
    unvisited {p = p} (holds_later e a b d g f) h = absurd (no_counting e (content_unshared p h))
    unvisited {p = p} (holds_back e a d g f) h = absurd (no_counting e (content_unshared p h))

    all_unvisited : {level : ℕ} {inside : List OpenShared} {ps : List Part} {vs : Values} {regions : List Region} {before after : List Visit}
        → HoldAll names bytes level inside ps vs regions before after → AreUnshared ps → HoldAll names bytes level inside ps vs regions [] []
    all_unvisited (holds_none e empty stays) h = holds_none e empty refl
    all_unvisited (holds_more x xs e joined) (more h hs) = holds_more (unvisited x h) (all_unvisited xs hs) e joined

  pub held_unvisited : (s : Shape) → holds_shared s ≡ false → {level : ℕ} {inside : List OpenShared} {pos : ℕ} {v : Value} {regions : List Region} {before after : List Visit}
      → Holds names bytes level inside (at pos s) v regions before after → Holds names bytes level inside (at pos s) v regions [] []
  held_unvisited s h x = unvisited x h
