-- Where parts' own bytes lie: parts of one content do not overlap, and lie after what the content itself reads.
use Rattle.std.proofs.Common.{◌≡◌, ℕ, ◌+◌, ◌-◌, ◌*◌, ◌≤◌, max, zero, suc, Bool, true, false, cond, ◌==◌, ◌&&◌, nat_lt, List, [], ◌∷◌, ◌++◌, take, length, slice_index, Option, Some, None, refl, arith, le_refl, ◌⊎◌, inl, inr, ⊎_elim, mul-le-mul_right, suc-mul, leb-true, length-take}
use Rattle.std.specs.Prelude.{⊤}
use Rattle.archive_shape_layout.specs.Bytes.{align_up, word_at}
use Rattle.archive_shape_layout.specs.Shape.{Shape, Shapes, Pointee, alignment_bytes, align_of, aligns_of, size_of, fields_end, payloads_end, pointer_size}
use Rattle.archive_shape_layout.specs.Shape.Shape.{number, nonzero, truth, character, text, tuple, array, option, result, choice, box, vector, shared, weak, tree, table, index_map, named}
use Rattle.archive_shape_layout.specs.Shape.Shapes.{no_shapes, more_shapes}
use Rattle.archive_shape_layout.specs.Shape.Pointee.{sized, slice, str}
use Rattle.archive_shape_layout.specs.Content.{Item, choose, Names, Part, Span, Label, Content, fields, elements, entries, children, shape_tagged, item_size, item_part, tagged_items, following, option_content, text_content, shared_content, table_parts, shape_content, keys_offset, values_offset, links_offset, link_node_size, node_content, child_content, buckets_span, buckets_content, pointee_content, place_content, shape_named}
use Rattle.archive_shape_layout.specs.Content.Item.{item, place}
use Rattle.archive_shape_layout.specs.Content.Part.{at, behind, node, child, entry, buckets, place_at}
use Rattle.archive_shape_layout.specs.Content.Content.{illegal, plain, claimed, counting}
use Rattle.archive_shape_layout.specs.Edit.{Apart}
use Rattle.archive_shape_layout.proofs.Framed.{le_align_up, le_fields_end, left_equal, keys_fit, values_fit, links_fit}

abbrev pub Within : ℕ → ℕ → ℕ → ℕ → Type 0
Within w n start size = (start ≤ w) × (w + n ≤ start + size)

-- a window lies in a part's own bytes, where a leaf may lie
abbrev pub InOwn : ℕ → ℕ → Part → Type 0
InOwn w n (at pos s) = Within w n pos (size_of s)
InOwn w n (entry k key_pos v value_pos) = Within w n key_pos (size_of k) ⊎ Within w n value_pos (size_of v)
InOwn w n (child level most k v pos) = ⊥
InOwn w n (place_at pos limit) = ⊥
InOwn w n (behind pos p len) = ⊥
InOwn w n (node level most k v pos) = ⊥
InOwn w n (buckets target len cap it) = ⊥

abbrev pub OutOwn : ℕ → ℕ → Part → Type 0
OutOwn w n (at pos s) = Apart w n pos (size_of s)
OutOwn w n (entry k key_pos v value_pos) = Apart w n key_pos (size_of k) × Apart w n value_pos (size_of v)
OutOwn w n (child level most k v pos) = Apart w n pos 4
OutOwn w n (place_at pos limit) = Apart w n pos 4
OutOwn w n (behind pos p len) = ⊤
OutOwn w n (node level most k v pos) = ⊤
OutOwn w n (buckets target len cap it) = ⊤

-- an entry's key and value do not overlap
abbrev pub Sound : Part → Type 0
Sound (entry k key_pos v value_pos) = key_pos + size_of k ≤ value_pos
Sound (at pos s) = ⊤
Sound (child level most k v pos) = ⊤
Sound (place_at pos limit) = ⊤
Sound (behind pos p len) = ⊤
Sound (node level most k v pos) = ⊤
Sound (buckets target len cap it) = ⊤

pub record Fits (low high : ℕ) (p : Part) : Type 0 where
  pub inside : (w n : ℕ) → InOwn w n p → (low ≤ w) × (w + n ≤ high)
  pub outside : (w n : ℕ) → (w + n ≤ low) ⊎ (high ≤ w) → OutOwn w n p
  pub sound : Sound p

pub record OwnsApart (p q : Part) : Type 0 where
  pub first : (w n : ℕ) → InOwn w n p → OutOwn w n q
  pub second : (w n : ℕ) → InOwn w n q → OutOwn w n p

pub data AllFit (low high : ℕ) : List Part → Type 0 where
  fit_none : AllFit low high []
  fit_more : {p : Part} {ps : List Part} → Fits low high p → AllFit low high ps → AllFit low high (p ∷ ps)

pub data AllApart (p : Part) : List Part → Type 0 where
  apart_none : AllApart p []
  apart_more : {q : Part} {qs : List Part} → OwnsApart p q → AllApart p qs → AllApart p (q ∷ qs)

pub data Separate : List Part → Type 0 where
  sep_none : Separate []
  sep_more : {p : Part} {ps : List Part} → AllApart p ps → Separate ps → Separate (p ∷ ps)

pub widen : (low high low' high' : ℕ) (p : Part) → low' ≤ low → high ≤ high' → Fits low high p → Fits low' high' p
widen low high low' high' p a b f = record {
  inside = λ w n i. let h = f.inside w n i in (omega arith, omega arith);
  outside = λ w n o. f.outside w n (⊎_elim (λ x. inl (omega arith)) (λ x. inr (omega arith)) o);
  sound = f.sound;
}

pub widen_all : (low high low' high' : ℕ) (ps : List Part) → low' ≤ low → high ≤ high' → AllFit low high ps → AllFit low' high' ps
widen_all low high low' high' [] a b fit_none = fit_none
widen_all low high low' high' (p ∷ ps) a b (fit_more f fs) = fit_more (widen low high low' high' p a b f) (widen_all low high low' high' ps a b fs)

below_apart : (low mid mid' high : ℕ) (p q : Part) → mid ≤ mid' → Fits low mid p → Fits mid' high q → OwnsApart p q
below_apart low mid mid' high p q h f g = record {
  first = λ w n i. let b = f.inside w n i in g.outside w n (inl (omega arith));
  second = λ w n i. let b = g.inside w n i in f.outside w n (inr (omega arith));
}

below_all : (low mid mid' high : ℕ) (p : Part) (qs : List Part) → mid ≤ mid' → Fits low mid p → AllFit mid' high qs → AllApart p qs
below_all low mid mid' high p [] h f fit_none = apart_none
below_all low mid mid' high p (q ∷ qs) h f (fit_more g gs) = apart_more (below_apart low mid mid' high p q h f g) (below_all low mid mid' high p qs h f gs)

above_all : (low mid mid' high : ℕ) (p : Part) (qs : List Part) → mid ≤ mid' → Fits mid' high p → AllFit low mid qs → AllApart p qs
above_all low mid mid' high p [] h f fit_none = apart_none
above_all low mid mid' high p (q ∷ qs) h f (fit_more g gs) =
    let o = below_apart low mid mid' high q p h g f in
    apart_more (record { first = o.second; second = o.first }) (above_all low mid mid' high p qs h f gs)

AllApart-append : (p : Part) (qs rs : List Part) → AllApart p qs → AllApart p rs → AllApart p (qs ++ rs)
AllApart-append p [] rs apart_none b = b
AllApart-append p (q ∷ qs) rs (apart_more o os) b = apart_more o (AllApart-append p qs rs os b)

AllFit-append : (low high : ℕ) (qs rs : List Part) → AllFit low high qs → AllFit low high rs → AllFit low high (qs ++ rs)
AllFit-append low high [] rs fit_none b = b
AllFit-append low high (q ∷ qs) rs (fit_more o os) b = fit_more o (AllFit-append low high qs rs os b)

-- the second list lies below the first
Separate-append : (low mid mid' high : ℕ) (ps qs : List Part) → mid ≤ mid' → AllFit mid' high ps → AllFit low mid qs → Separate ps → Separate qs → Separate (ps ++ qs)
Separate-append low mid mid' high [] qs h fit_none g sep_none t = t
Separate-append low mid mid' high (p ∷ ps) qs h (fit_more f fs) g (sep_more a s) t =
    sep_more (AllApart-append p ps qs a (above_all low mid mid' high p qs h f g)) (Separate-append low mid mid' high ps qs h fs g s t)

-- ---- single parts

at_fits : (low high pos : ℕ) (s : Shape) → low ≤ pos → pos + size_of s ≤ high → Fits low high (at pos s)
at_fits low high pos s a b = record {
  inside = λ w n i. (omega arith, omega arith);
  outside = λ w n o. ⊎_elim (λ x. inl (omega arith)) (λ x. inr (omega arith)) o;
  sound = tt;
}

child_fits : (low high level most : ℕ) (k v : Shape) (pos : ℕ) → low ≤ pos → pos + 4 ≤ high → Fits low high (child level most k v pos)
child_fits low high level most k v pos a b = record {
  inside = λ w n i. absurd i;
  outside = λ w n o. ⊎_elim (λ x. inl (omega arith)) (λ x. inr (omega arith)) o;
  sound = tt;
}

place_fits : (low high pos limit : ℕ) → low ≤ pos → pos + 4 ≤ high → Fits low high (place_at pos limit)
place_fits low high pos limit a b = record {
  inside = λ w n i. absurd i;
  outside = λ w n o. ⊎_elim (λ x. inl (omega arith)) (λ x. inr (omega arith)) o;
  sound = tt;
}

entry_fits : (low high : ℕ) (k : Shape) (key_pos : ℕ) (v : Shape) (value_pos : ℕ) → low ≤ key_pos → key_pos + size_of k ≤ value_pos → value_pos + size_of v ≤ high
    → Fits low high (entry k key_pos v value_pos)
entry_fits low high k key_pos v value_pos a b c = record {
  inside = λ w n i. ⊎_elim (λ x. (omega arith, omega arith)) (λ x. (omega arith, omega arith)) i;
  outside = λ w n o. ⊎_elim (λ x. (inl (omega arith), inl (omega arith))) (λ x. (inr (omega arith), inr (omega arith))) o;
  sound = b;
}

free_fits : (low high : ℕ) (p : Part) → ((w n : ℕ) → InOwn w n p → ⊥) → ((w n : ℕ) → OutOwn w n p) → Sound p → Fits low high p
free_fits low high p a b c = record { inside = λ w n i. absurd (a w n i); outside = λ w n o. b w n; sound = c }

-- ---- lists

fields_fit : (pos hi : ℕ) (ss : Shapes) (offset : ℕ) → pos + fields_end ss offset ≤ hi → AllFit (pos + offset) hi (fields pos offset ss)
unfolding fields
fields_fit pos hi no_shapes offset h = fit_none
fields_fit pos hi (more_shapes s ss) offset h =
    let from = align_up offset (align_of s) in
    let a = le_align_up offset (align_of s) in
    let b = le_fields_end ss (from + size_of s) in
    fit_more
    (at_fits (pos + offset) hi (pos + from) s (omega arith) (omega arith))
    (widen_all (pos + (from + size_of s)) hi (pos + offset) hi (fields pos (from + size_of s) ss) (omega arith) (le_refl hi) (fields_fit pos hi ss (from + size_of s) h))

fields_separate : (pos : ℕ) (ss : Shapes) (offset : ℕ) → Separate (fields pos offset ss)
unfolding fields
fields_separate pos no_shapes offset = sep_none
fields_separate pos (more_shapes s ss) offset =
    let from = align_up offset (align_of s) in
    sep_more
    (below_all (pos + from) (pos + from + size_of s) (pos + (from + size_of s)) (pos + fields_end ss (from + size_of s)) (at (pos + from) s) (fields pos (from + size_of s) ss) (omega arith)
    (at_fits _ _ (pos + from) s (le_refl _) (le_refl _)) (fields_fit pos _ ss (from + size_of s) (le_refl _)))
    (fields_separate pos ss (from + size_of s))

elements_fit : (low high start k : ℕ) (s : Shape) → low ≤ start → start + k * size_of s ≤ high → AllFit low high (elements start k s)
unfolding elements
elements_fit low high start zero s a b = fit_none
elements_fit low high start (suc k) s a b =
    let e = suc-mul k (size_of s) in
    fit_more (at_fits low high start s a (omega arith)) (elements_fit low high (start + size_of s) k s (omega arith) (omega arith))

elements_separate : (start k : ℕ) (s : Shape) → Separate (elements start k s)
unfolding elements
elements_separate start zero s = sep_none
elements_separate start (suc k) s =
    sep_more
    (below_all start (start + size_of s) (start + size_of s) (start + size_of s + k * size_of s) (at start s) (elements (start + size_of s) k s) (le_refl _)
    (at_fits _ _ start s (le_refl _) (le_refl _)) (elements_fit _ _ (start + size_of s) k s (le_refl _) (le_refl _)))
    (elements_separate (start + size_of s) k s)

children_fit : (low high n level most : ℕ) (k v : Shape) (start : ℕ) → low ≤ start → start + n * 4 ≤ high → AllFit low high (children n level most k v start)
unfolding children
children_fit low high zero level most k v start a b = fit_none
children_fit low high (suc n) level most k v start a b =
    fit_more (child_fits low high level most k v start a (omega arith)) (children_fit low high n level most k v (start + 4) (omega arith) (omega arith))

children_separate : (n level most : ℕ) (k v : Shape) (start : ℕ) → Separate (children n level most k v start)
unfolding children
children_separate zero level most k v start = sep_none
children_separate (suc n) level most k v start =
    sep_more
    (below_all start (start + 4) (start + 4) (start + 4 + n * 4) (child level most k v start) (children n level most k v (start + 4)) (le_refl _)
    (child_fits _ _ level most k v start (le_refl _) (le_refl _)) (children_fit _ _ n level most k v (start + 4) (le_refl _) (le_refl _)))
    (children_separate n level most k v (start + 4))

-- entries: keys below a bound, values from it on
entries_fit : (low mid high n : ℕ) (k : Shape) (key_pos : ℕ) (v : Shape) (value_pos : ℕ) → low ≤ key_pos → key_pos + n * size_of k ≤ mid → mid ≤ value_pos → value_pos + n * size_of v ≤ high
    → AllFit low high (entries n k key_pos v value_pos)
unfolding entries
entries_fit low mid high zero k key_pos v value_pos a b c d = fit_none
entries_fit low mid high (suc n) k key_pos v value_pos a b c d =
    let ek = suc-mul n (size_of k) in
    let ev = suc-mul n (size_of v) in
    fit_more
    (entry_fits low high k key_pos v value_pos a (omega arith) (omega arith))
    (entries_fit low mid high n k (key_pos + size_of k) v (value_pos + size_of v) (omega arith) (omega arith) (omega arith) (omega arith))

entry_apart : (k : Shape) (a : ℕ) (v : Shape) (b a' b' : ℕ) → a + size_of k ≤ a' → a' + size_of k ≤ b → b + size_of v ≤ b' → OwnsApart (entry k a v b) (entry k a' v b')
entry_apart k a v b a' b' x y z = record {
  first = λ w n i. ⊎_elim (λ h. (inl (omega arith), inl (omega arith))) (λ h. (inr (omega arith), inl (omega arith))) i;
  second = λ w n i. ⊎_elim (λ h. (inr (omega arith), inl (omega arith))) (λ h. (inr (omega arith), inr (omega arith))) i;
}

entry_apart_all : (k : Shape) (a : ℕ) (v : Shape) (b n a' b' : ℕ) → a + size_of k ≤ a' → a' + n * size_of k ≤ b → b + size_of v ≤ b' → AllApart (entry k a v b) (entries n k a' v b')
unfolding entries
entry_apart_all k a v b zero a' b' x y z = apart_none
entry_apart_all k a v b (suc n) a' b' x y z =
    let ek = suc-mul n (size_of k) in
    apart_more (entry_apart k a v b a' b' x (omega arith) z) (entry_apart_all k a v b n (a' + size_of k) (b' + size_of v) (omega arith) (omega arith) (omega arith))

entries_separate : (n : ℕ) (k : Shape) (a : ℕ) (v : Shape) (b : ℕ) → a + n * size_of k ≤ b → Separate (entries n k a v b)
unfolding entries
entries_separate zero k a v b h = sep_none
entries_separate (suc n) k a v b h =
    let ek = suc-mul n (size_of k) in
    sep_more
    (entry_apart_all k a v b n (a + size_of k) (b + size_of v) (le_refl _) (omega arith) (le_refl _))
    (entries_separate n k (a + size_of k) v (b + size_of v) (omega arith))

pub behind_fits : (low high t : ℕ) (p : Pointee) (len : ℕ) → Fits low high (behind t p len)
behind_fits low high t p len = free_fits low high (behind t p len) (λ w n i. i) (λ w n. tt) tt

node_fits : (low high level most : ℕ) (k v : Shape) (t : ℕ) → Fits low high (node level most k v t)
node_fits low high level most k v t = free_fits low high (node level most k v t) (λ w n i. i) (λ w n. tt) tt

buckets_fits : (low high t len cap : ℕ) (it : Item) → Fits low high (buckets t len cap it)
buckets_fits low high t len many it = free_fits low high (buckets t len many it) (λ w n i. i) (λ w n. tt) tt

item_fits : (low high : ℕ) (it : Item) (pos : ℕ) → low ≤ pos → pos + item_size it ≤ high → Fits low high (item_part it pos)
item_fits low high (item s) pos a b = at_fits low high pos s a b
item_fits low high (place limit) pos a b = place_fits low high pos limit a b

-- items descend from the target
items_fit : (target many : ℕ) (it : Item) (i : ℕ) (cs : List ℕ) → many * item_size it ≤ target → i + length cs ≤ many
    → AllFit (target - many * item_size it) (target - i * item_size it) (tagged_items target it i cs)
unfolding tagged_items
items_fit target many it i [] a b = fit_none
items_fit target many it i (c ∷ cs) a b =
    let size = item_size it in
    let more : (i + 1) * size ≤ many * size = mul-le-mul_right size (omega arith) in
    let rest = widen_all (target - many * size) (target - (i + 1) * size) (target - many * size) (target - i * size) (tagged_items target it (i + 1) cs) (le_refl _) (omega arith) (items_fit target many it (i + 1) cs a (omega arith)) in
    tested (nat_lt c 128) (fit_more (item_fits (target - many * size) (target - i * size) it (target - (i + 1) * size) (omega arith) (omega arith)) rest) rest
  where
    tested : (b : Bool) {p : Part} {ps : List Part} {lo hi : ℕ} → AllFit lo hi (p ∷ ps) → AllFit lo hi ps → AllFit lo hi (cond b (p ∷ ps) ps)
    tested true h k = h
    tested false h k = k

items_separate : (target many : ℕ) (it : Item) (i : ℕ) (cs : List ℕ) → many * item_size it ≤ target → i + length cs ≤ many → Separate (tagged_items target it i cs)
unfolding tagged_items
items_separate target many it i [] a b = sep_none
items_separate target many it i (c ∷ cs) a b =
    let size = item_size it in
    let more : (i + 1) * size ≤ many * size = mul-le-mul_right size (omega arith) in
    let rest = items_separate target many it (i + 1) cs a (omega arith) in
    let fit = items_fit target many it (i + 1) cs a (omega arith) in
    tested (nat_lt c 128)
    (sep_more (above_all (target - many * size) (target - (i + 1) * size) (target - (i + 1) * size) (target - i * size) _ _ (le_refl _)
    (item_fits (target - (i + 1) * size) (target - i * size) it (target - (i + 1) * size) (le_refl _) (omega arith)) fit) rest) rest
  where
    tested : (b : Bool) {p : Part} {ps : List Part} → Separate (p ∷ ps) → Separate ps → Separate (cond b (p ∷ ps) ps)
    tested true h k = h
    tested false h k = k

-- ---- contents

-- and whether a region is claimed around them
pub data Laid (low high : ℕ) : Bool → Content → Type 0 where
  laid_illegal : {claims : Bool} → Laid low high claims illegal
  laid_plain : {l : Label} {ps : List Part} → AllFit low high ps → Separate ps → Laid low high false (plain l ps)
  laid_claimed : {s : Span} {l : Label} {ps : List Part} → s.start ≤ low → high ≤ s.start + s.size → AllFit low high ps → Separate ps → Laid low high true (claimed s l ps)
  laid_counting : {cyclic : Bool} {t : ℕ} {p : Pointee} {len : ℕ} → Laid low high false (counting cyclic t p len)

choose_laid : {low high : ℕ} {claims : Bool} (b : Bool) (x y : Content) → (b ≡ true → Laid low high claims x) → Laid low high claims y → Laid low high claims (choose b x y)
unfolding choose
choose_laid true x y h k = h refl
choose_laid false x y h k = k

following_laid : {low high : ℕ} {claims : Bool} (o : Option ℕ) (k : ℕ → Content) → ((t : ℕ) → Laid low high claims (k t)) → Laid low high claims (following o k)
unfolding following
following_laid None k h = laid_illegal
following_laid (Some t) k h = h t

none_laid : {low high : ℕ} {l : Label} → Laid low high false (plain l [])
none_laid = laid_plain fit_none sep_none

one_laid : {low high : ℕ} {l : Label} {p : Part} → Fits low high p → Laid low high false (plain l (p ∷ []))
one_laid f = laid_plain (fit_more f fit_none) (sep_more apart_none sep_none)

behind_laid : {low high : ℕ} {l : Label} {t : ℕ} {p : Pointee} {len : ℕ} → Laid low high false (plain l (behind t p len ∷ []))
behind_laid = one_laid (behind_fits _ _ _ _ _)

node_one : {low high : ℕ} {l : Label} {level most : ℕ} {k v : Shape} {t : ℕ} → Laid low high false (plain l (node level most k v t ∷ []))
node_one = one_laid (node_fits _ _ _ _ _ _ _)

-- the bytes that a shape's content reads itself, the first of its own bytes
abbrev pub header_size : Shape → ℕ
header_size (number w signed) = size_of (number w signed)
header_size (nonzero w signed) = size_of (nonzero w signed)
header_size truth = 1
header_size character = 4
header_size text = 8
header_size (tuple ss) = 0
header_size (array n s) = 0
header_size (option s) = 1
header_size (result s t) = 1
header_size (choice ss) = 1
header_size (box p) = pointer_size p
header_size (vector s) = 8
header_size (shared cyclic p) = pointer_size p
header_size (weak cyclic p) = 1
header_size (tree most k v) = 8
header_size (table s) = 12
header_size (index_map k v) = 16
header_size (named name size align) = 0

payload_laid : (pos n t : ℕ) (ss : Shapes) (l : Label) → payloads_end ss ≤ n
    → Laid (pos + 1) (pos + n) false (option_content (shape_tagged t ss) (λ s. plain l (at (pos + align_up 1 (align_of s)) s ∷ [])))
payload_laid pos n t no_shapes l h = laid_illegal
payload_laid pos n zero (more_shapes s ss) l h =
    let a = le_align_up 1 (align_of s) in
    one_laid (at_fits (pos + 1) (pos + n) (pos + align_up 1 (align_of s)) s (omega arith) (omega arith))
payload_laid pos n (suc t) (more_shapes s ss) l h = payload_laid pos n t ss l (omega arith)

table_laid : (low high pos : ℕ) (own : List ℕ) (it : Item) (l : Label) → Laid low high false (table_parts pos own it [] l)
unfolding table_parts
table_laid low high pos own it l = choose_laid _ _ _ (λ _. following_laid _ _ (λ t. one_laid (buckets_fits _ _ _ _ _ _))) laid_illegal

index_laid : (low high pos : ℕ) (own : List ℕ) (it : Item) (l : Label) (t : ℕ) (p : Pointee) (len : ℕ) → Laid low high false (table_parts pos own it (behind t p len ∷ []) l)
unfolding table_parts
index_laid low high pos own it l t p len =
    choose_laid _ _ _
    (λ _. following_laid _ _ (λ t'. laid_plain (fit_more (buckets_fits _ _ _ _ _ _) (fit_more (behind_fits _ _ _ _ _) fit_none))
    (sep_more (apart_more (record { first = λ w n i. absurd i; second = λ w n i. absurd i }) apart_none) (sep_more apart_none sep_none))))
    laid_illegal

-- an offset of at least one, where the tag's result type aligns its payload at nothing less
pub at_laid : (names : Names) (pos : ℕ) (own : List ℕ) (s : Shape) → Laid (pos + header_size s) (pos + size_of s) false (shape_content names pos own s)
unfolding shape_content text_content shared_content
at_laid names pos own (number w signed) = none_laid
at_laid names pos own (nonzero w signed) = choose_laid _ _ _ (λ _. laid_illegal) none_laid
at_laid names pos own truth = choose_laid _ _ _ (λ _. none_laid) laid_illegal
at_laid names pos own character = choose_laid _ _ _ (λ _. none_laid) laid_illegal
at_laid names pos own text = choose_laid _ _ _ (λ _. none_laid) (choose_laid _ _ _ (λ _. following_laid _ _ (λ t. behind_laid)) laid_illegal)
at_laid names pos own (tuple ss) =
    laid_plain (fields_fit pos (pos + size_of (tuple ss)) ss 0 (let a = le_align_up (fields_end ss 0) (aligns_of ss) in omega arith)) (fields_separate pos ss 0)
at_laid names pos own (array n s) = laid_plain (elements_fit (pos + 0) _ pos n s (omega arith) (le_refl _)) (elements_separate pos n s)
at_laid names pos own (option s) =
    let a = le_align_up 1 (align_of s) in
    let b = le_align_up (align_up 1 (align_of s) + size_of s) (align_of s) in
    choose_laid _ _ _ (λ _. none_laid) (choose_laid _ _ _ (λ _. one_laid (at_fits _ _ (pos + align_up 1 (align_of s)) s (omega arith) (omega arith))) laid_illegal)
at_laid names pos own (result s t) =
    let most = max (align_of s) (align_of t) in
    let offset = align_up 1 most in
    let a = le_align_up 1 most in
    let b = le_align_up (offset + max (size_of s) (size_of t)) most in
    choose_laid _ _ _ (λ _. one_laid (at_fits _ _ (pos + offset) s (omega arith) (omega arith)))
    (choose_laid _ _ _ (λ _. one_laid (at_fits _ _ (pos + offset) t (omega arith) (omega arith))) laid_illegal)
at_laid names pos own (choice ss) =
    payload_laid pos (size_of (choice ss)) (slice_index own 0) ss _ (le_align_up (payloads_end ss) (aligns_of ss))
at_laid names pos own (box p) = following_laid _ _ (λ t. behind_laid)
at_laid names pos own (vector s) = following_laid _ _ (λ t. behind_laid)
at_laid names pos own (shared cyclic p) = following_laid _ _ (λ t. laid_counting)
at_laid names pos own (weak cyclic p) =
    choose_laid _ _ _ (λ _. none_laid) (choose_laid _ _ _ (λ _. one_laid (at_fits _ _ (pos + 4) (shared cyclic p) (omega arith) (omega arith))) laid_illegal)
at_laid names pos own (tree most k v) = choose_laid _ _ _ (λ _. none_laid) (following_laid _ _ (λ t. node_one))
at_laid names pos own (table s) = choose_laid _ _ _ (λ _. none_laid) (table_laid _ _ pos own (item s) _)
at_laid names pos own (index_map k v) = choose_laid _ _ _ (λ _. none_laid) (following_laid _ _ (λ t. index_laid _ _ pos own _ _ _ _ _))
at_laid names pos own (named name size align) = by_name (shape_named names name)
  where
    by_name : (o : Option Shape) → Laid (pos + 0) (pos + size) false (option_content o (λ s. choose ((size_of s == size) && (align_of s == alignment_bytes align)) (plain Label.same (at pos s ∷ [])) illegal))
    by_name None = laid_illegal
    by_name (Some s) = choose_laid _ (plain Label.same (at pos s ∷ [])) illegal
        (λ e. let same = left_equal (size_of s) size _ e in one_laid (at_fits (pos + 0) (pos + size) pos s (omega arith) (omega arith))) laid_illegal

pub keys_follow : (k : Shape) → 1 ≤ keys_offset k
unfolding keys_offset
keys_follow k = le_align_up 1 (align_of k)

-- the kind byte, and after the entries a leaf's length or an inner node's pointers
abbrev pub node_high : ℕ → ℕ → Shape → Shape → ℕ
node_high zero most k v = links_offset most k v
node_high (suc kind) most k v = link_node_size (most + 1) most k v

pub node_laid : (level most : ℕ) (k v : Shape) (pos kind : ℕ) (own : List ℕ) → Laid (pos + 1) (pos + node_high kind most k v) true (node_content level most k v pos kind own)
unfolding node_content
node_laid level most k v pos zero own =
    let len = word_at own (links_offset most k v) in
    choose_laid _ _ _
    (λ e.
    let few : len ≤ most = grind (arith, leb-true) in
    let f0 = keys_follow k in
    let f1 = keys_fit 1 most k v in
    let f2 = values_fit most k v in
    let f3 = links_fit 1 most k v in
    let m1 = mul-le-mul_right (size_of k) few in
    let m2 = mul-le-mul_right (size_of v) few in
    laid_claimed (omega arith) (omega arith)
    (entries_fit (pos + 1) (pos + values_offset most k v) (pos + links_offset most k v) len k (pos + keys_offset k) v (pos + values_offset most k v) (omega arith) (omega arith) (le_refl _) (omega arith))
    (entries_separate len k (pos + keys_offset k) v (pos + values_offset most k v) (omega arith)))
    laid_illegal
node_laid level most k v pos (suc zero) own =
    choose_laid _ _ _
    (λ e.
    let f0 = keys_follow k in
    let f1 = keys_fit 1 most k v in
    let f2 = values_fit most k v in
    let f3 = links_fit (most + 1) most k v in
    let a = entries_fit (pos + 1) (pos + values_offset most k v) (pos + links_offset most k v) most k (pos + keys_offset k) v (pos + values_offset most k v) (omega arith) (omega arith) (le_refl _) (omega arith) in
    let b = children_fit (pos + links_offset most k v) (pos + link_node_size (most + 1) most k v) (most + 1) (level + 1) most k v (pos + links_offset most k v) (le_refl _) (omega arith) in
    laid_claimed (omega arith) (omega arith)
    (AllFit-append _ _ _ _ (widen_all _ _ (pos + 1) (pos + link_node_size (most + 1) most k v) _ (omega arith) (le_refl _) b) (widen_all _ _ (pos + 1) (pos + link_node_size (most + 1) most k v) _ (le_refl _) (omega arith) a))
    (Separate-append (pos + 1) (pos + links_offset most k v) (pos + links_offset most k v) (pos + link_node_size (most + 1) most k v) _ _ (le_refl _) b a
    (children_separate (most + 1) (level + 1) most k v (pos + links_offset most k v)) (entries_separate most k (pos + keys_offset k) v (pos + values_offset most k v) (omega arith))))
    laid_illegal
node_laid level most k v pos (suc (suc kind)) own = laid_illegal

pub buckets_laid : (target len many : ℕ) (it : Item) (controls : List ℕ) → Laid (target - many * item_size it) target true (buckets_content target len many it controls)
unfolding buckets_content buckets_span
buckets_laid target len many it controls =
    choose_laid _ _ _
    (λ e.
    let room : many * item_size it ≤ target = grind (arith, leb-true) in
    let few : 0 + length (take many controls) ≤ many = omega (arith, length-take many controls) in
    laid_claimed (le_refl _) (omega arith) (widen_all _ _ _ target _ (le_refl _) (omega arith) (items_fit target many it 0 (take many controls) room few)) (items_separate target many it 0 (take many controls) room few))
    laid_illegal

-- where no part has own bytes for a leaf, any bounds do
pub child_laid : (low high level most : ℕ) (k v : Shape) (pos : ℕ) (own : List ℕ) → Laid low high false (child_content level most k v pos own)
unfolding child_content
child_laid low high level most k v pos own =
    choose_laid _ _ _ (λ _. none_laid) (choose_laid _ _ _ (λ _. following_laid _ _ (λ t. node_one)) laid_illegal)

pub place_laid : (low high limit : ℕ) (own : List ℕ) → Laid low high false (place_content limit own)
unfolding place_content
place_laid low high limit own = choose_laid _ _ _ (λ _. none_laid) laid_illegal

pub behind_span : Pointee → ℕ → ℕ
behind_span (sized s) len = size_of s
behind_span (slice s) len = len * size_of s
behind_span str len = len

pub pointee_laid : (bytes : List ℕ) (pos : ℕ) (p : Pointee) (len : ℕ) → Laid pos (pos + behind_span p len) true (pointee_content bytes pos p len)
unfolding pointee_content behind_span
pointee_laid bytes pos (sized s) len = laid_claimed (le_refl _) (le_refl _) (fit_more (at_fits pos _ pos s (le_refl _) (le_refl _)) fit_none) (sep_more apart_none sep_none)
pointee_laid bytes pos (slice s) len = laid_claimed (le_refl _) (le_refl _) (elements_fit pos _ pos len s (le_refl _) (le_refl _)) (elements_separate pos len s)
pointee_laid bytes pos str len = laid_claimed (le_refl _) (le_refl _) fit_none sep_none

pub entry_laid : (low high : ℕ) (k : Shape) (a : ℕ) (v : Shape) (b : ℕ) → Fits low high (entry k a v b) → Laid low high false (plain Label.whole (at a k ∷ (at b v ∷ [])))
entry_laid low high k a v b f =
    let first = f.inside a (size_of k) (inl (le_refl a, le_refl _)) in
    let other = f.inside b (size_of v) (inr (le_refl b, le_refl _)) in
    let sound = f.sound in
    laid_plain
    (fit_more (at_fits low high a k first.0 first.1) (fit_more (at_fits low high b v other.0 other.1) fit_none))
    (sep_more (apart_more (below_apart a (a + size_of k) b (b + size_of v) (at a k) (at b v) sound (at_fits _ _ a k (le_refl _) (le_refl _)) (at_fits _ _ b v (le_refl _) (le_refl _))) apart_none) (sep_more apart_none sep_none))
