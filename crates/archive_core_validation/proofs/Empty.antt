-- A part without own bytes claims nothing, and a claim of no bytes has no others inside.
use Rattle.std.proofs.Common.{◌≡◌, ℕ, ◌+◌, ◌*◌, ◌≤◌, ◌<◌, max, zero, suc, Bool, true, false, ◌==◌, ◌&&◌, List, [], ◌∷◌, ◌++◌, slice_index, Option, Some, None, refl, ap₂, subst, ◌∙◌, arith, suc-mul}
use Rattle.std.specs.Prelude.{⊤}
use Rattle.archive_shape_layout.specs.Bytes.{window, align_up}
use Rattle.archive_shape_layout.specs.Shape.{Shape, Shapes, Pointee, Alignment, alignment_bytes, align_of, aligns_of, size_of, fields_end, payloads_end, pointer_size}
use Rattle.archive_shape_layout.specs.Shape.Shape.{number, nonzero, truth, character, text, tuple, array, option, result, choice, box, vector, shared, weak, tree, table, index_map, named}
use Rattle.archive_shape_layout.specs.Shape.Shapes.{no_shapes, more_shapes}
use Rattle.archive_shape_layout.specs.Shape.Pointee.{sized, slice, str}
use Rattle.archive_shape_layout.specs.Value.{Value, Values}
use Rattle.archive_shape_layout.specs.Content.{Item, choose, Names, Part, Span, Label, Content, content_of, fields, elements, shape_tagged, following, option_content, text_content, shared_content, table_parts, shape_content, pointee_content, keys_offset, link_node_size, node_content, child_content, buckets_span, buckets_content, place_content, shape_named, control_count}
use Rattle.archive_shape_layout.specs.Content.Item.{item}
use Rattle.archive_shape_layout.specs.Content.Part.{at, behind, node, child, entry, buckets, place_at}
use Rattle.archive_shape_layout.specs.Content.Content.{illegal, plain, claimed, counting}
use Rattle.archive_shape_layout.specs.Holds.{Region, Visit, OpenShared, Holds, HoldAll}
use Rattle.archive_shape_layout.specs.Holds.Holds.{holds_plain, holds_claimed, holds_first, holds_later, holds_back}
use Rattle.archive_shape_layout.specs.Holds.HoldAll.{holds_none, holds_more}
use Rattle.archive_shape_layout.proofs.Framed.{le_align_up, le_fields_end, left_equal, keys_fit, values_fit, links_fit}

-- a part that lies in own bytes, and has none
abbrev pub IsEmpty : Part → Type 0
IsEmpty (at pos s) = size_of s ≡ 0
IsEmpty (entry k key_pos v value_pos) = (size_of k ≡ 0) × (size_of v ≡ 0)
IsEmpty _ = ⊥

pub data AreEmpty : List Part → Type 0 where
  empty_none : AreEmpty []
  empty_more : {p : Part} {ps : List Part} → IsEmpty p → AreEmpty ps → AreEmpty (p ∷ ps)

-- a content that claims nothing, and whose parts are empty
abbrev IsSilent : Content → Type 0
IsSilent illegal = ⊤
IsSilent (plain l ps) = AreEmpty ps
IsSilent (claimed s l ps) = ⊥
IsSilent (counting cyclic t q len) = ⊥

one_empty : {pos : ℕ} {s : Shape} → size_of s ≡ 0 → AreEmpty (at pos s ∷ [])
one_empty e = empty_more e empty_none

choose_silent : (b : Bool) (x y : Content) → (b ≡ true → IsSilent x) → IsSilent y → IsSilent (choose b x y)
unfolding choose
choose_silent true x y h k = h refl
choose_silent false x y h k = k

fields_empty : (pos : ℕ) (ss : Shapes) (offset : ℕ) → fields_end ss offset ≡ 0 → AreEmpty (fields pos offset ss)
unfolding fields
fields_empty pos no_shapes offset e = empty_none
fields_empty pos (more_shapes s ss) offset e =
    let grows = le_fields_end ss (align_up offset (align_of s) + size_of s) in
    empty_more (omega (arith, grows, e)) (fields_empty pos ss (align_up offset (align_of s) + size_of s) e)

elements_empty : (pos n : ℕ) (s : Shape) → n * size_of s ≡ 0 → AreEmpty (elements pos n s)
unfolding elements
elements_empty pos zero s e = empty_none
elements_empty pos (suc n) s e =
    let more = suc-mul n (size_of s) in
    empty_more (omega (arith, more, e)) (elements_empty (pos + size_of s) n s (omega (arith, more, e)))

payloads_some : (ss : Shapes) → 1 ≤ payloads_end ss
payloads_some no_shapes = omega arith
payloads_some (more_shapes s ss) = let rest = payloads_some ss in omega (arith, rest)

pointer_some : (p : Pointee) → 4 ≤ pointer_size p
pointer_some (sized s) = omega arith
pointer_some (slice s) = omega arith
pointer_some str = omega arith

named_silent : (pos size : ℕ) (align : Alignment) (o : Option Shape) → size ≡ 0
    → IsSilent (option_content o (λ s. choose ((size_of s == size) && (align_of s == alignment_bytes align)) (plain Label.same (at pos s ∷ [])) illegal))
named_silent pos size align None e = tt
named_silent pos size align (Some s) e = choose_silent _ _ _ (λ t. one_empty (left_equal (size_of s) size _ t ∙ e)) tt

shape_silent : (names : Names) (pos : ℕ) (own : List ℕ) (s : Shape) → size_of s ≡ 0 → IsSilent (shape_content names pos own s)
unfolding shape_content
shape_silent names pos own (number w signed) e = empty_none
shape_silent names pos own (nonzero w signed) e = choose_silent _ _ _ (λ _. tt) empty_none
shape_silent names pos own truth e = choose_silent _ _ _ (λ _. empty_none) tt
shape_silent names pos own character e = choose_silent _ _ _ (λ _. empty_none) tt
shape_silent names pos own text e = absurd (omega (arith, e))
shape_silent names pos own (tuple ss) e =
    let filled = le_align_up (fields_end ss 0) (aligns_of ss) in (fields_empty pos ss 0 (omega (arith, filled, e)))
shape_silent names pos own (array n s) e = (elements_empty pos n s e)
shape_silent names pos own (option s) e =
    let tag = le_align_up 1 (align_of s) in
    let filled = le_align_up (align_up 1 (align_of s) + size_of s) (align_of s) in
    absurd (omega (arith, tag, filled, e))
shape_silent names pos own (result s t) e =
    let align = max (align_of s) (align_of t) in
    let tag = le_align_up 1 align in
    let filled = le_align_up (align_up 1 align + max (size_of s) (size_of t)) align in
    absurd (omega (arith, tag, filled, e))
shape_silent names pos own (choice ss) e =
    let some = payloads_some ss in
    let filled = le_align_up (payloads_end ss) (aligns_of ss) in
    absurd (omega (arith, some, filled, e))
shape_silent names pos own (box p) e = let some = pointer_some p in absurd (omega (arith, some, e))
shape_silent names pos own (vector s) e = absurd (omega (arith, e))
shape_silent names pos own (shared cyclic p) e = let some = pointer_some p in absurd (omega (arith, some, e))
shape_silent names pos own (weak cyclic p) e = absurd (omega (arith, e))
shape_silent names pos own (tree most k v) e = absurd (omega (arith, e))
shape_silent names pos own (table s) e = absurd (omega (arith, e))
shape_silent names pos own (index_map k v) e = absurd (omega (arith, e))
shape_silent names pos own (named name size align) e = named_silent pos size align (shape_named names name) e

silent : (names : Names) (bytes : List ℕ) (p : Part) → IsEmpty p → IsSilent (content_of names bytes p)
silent names bytes (at pos s) e = shape_silent names pos (window bytes pos (size_of s)) s e
silent names bytes (entry k key_pos v value_pos) e = (empty_more e.0 (empty_more e.1 empty_none))
silent names bytes (behind pos p len) e = absurd e
silent names bytes (node level most k v pos) e = absurd e
silent names bytes (child level most k v pos) e = absurd e
silent names bytes (buckets target len cap it) e = absurd e
silent names bytes (place_at pos limit) e = absurd e

module _ (names : Names) (bytes : List ℕ) where
  mutual
    -- an empty part claims nothing
    one_claims_nothing : {level : ℕ} {inside : List OpenShared} {p : Part} {v : Value} {regions : List Region} {before after : List Visit}
        → Holds names bytes level inside p v regions before after → IsEmpty p → regions ≡ []
    one_claims_nothing {p = p} (holds_plain e l all m) z = claim_nothing all (subst IsSilent e (silent names bytes p z))
    one_claims_nothing {p = p} (holds_claimed e l all m r) z = absurd (subst IsSilent e (silent names bytes p z))
    one_claims_nothing {p = p} (holds_first e x y h d g) z = absurd (subst IsSilent e (silent names bytes p z))
    one_claims_nothing (holds_later e x y d r g) z = r
    one_claims_nothing (holds_back e x d r g) z = r

    pub claim_nothing : {level : ℕ} {inside : List OpenShared} {ps : List Part} {vs : Values} {regions : List Region} {before after : List Visit}
        → HoldAll names bytes level inside ps vs regions before after → AreEmpty ps → regions ≡ []
    claim_nothing (holds_none none empty stays) z = empty
    claim_nothing (holds_more x rest is joined) (empty_more z zs) = joined ∙ ap₂ (λ a b. a ++ b) (one_claims_nothing x z) (claim_nothing rest zs)

-- ---- claims of no bytes

-- if a content claims no bytes, its parts are empty
abbrev IsVoid : Content → Type 0
IsVoid (claimed s l ps) = s.size ≡ 0 → AreEmpty ps
IsVoid _ = ⊤

choose_void : (b : Bool) (x y : Content) → IsVoid x → IsVoid y → IsVoid (choose b x y)
unfolding choose
choose_void true x y h k = h
choose_void false x y h k = k

following_void : (o : Option ℕ) (k : ℕ → Content) → ((t : ℕ) → IsVoid (k t)) → IsVoid (following o k)
unfolding following
following_void None k h = tt
following_void (Some t) k h = h t

table_void : (pos : ℕ) (own : List ℕ) (it : Item) (rest : List Part) (l : Label) → IsVoid (table_parts pos own it rest l)
unfolding table_parts
table_void pos own it rest l = choose_void _ _ _ (following_void _ _ (λ t. tt)) tt

payload_void : (pos t : ℕ) (ss : Shapes) (l : Label) → IsVoid (option_content (shape_tagged t ss) (λ s. plain l (at (pos + align_up 1 (align_of s)) s ∷ [])))
payload_void pos t no_shapes l = tt
payload_void pos zero (more_shapes s ss) l = tt
payload_void pos (suc t) (more_shapes s ss) l = payload_void pos t ss l

named_void : (pos size : ℕ) (align : Alignment) (o : Option Shape)
    → IsVoid (option_content o (λ s. choose ((size_of s == size) && (align_of s == alignment_bytes align)) (plain Label.same (at pos s ∷ [])) illegal))
named_void pos size align None = tt
named_void pos size align (Some s) = choose_void _ _ _ tt tt

shape_void : (names : Names) (pos : ℕ) (own : List ℕ) (s : Shape) → IsVoid (shape_content names pos own s)
unfolding shape_content text_content shared_content
shape_void names pos own (number w signed) = tt
shape_void names pos own (nonzero w signed) = choose_void _ _ _ tt tt
shape_void names pos own truth = choose_void _ _ _ tt tt
shape_void names pos own character = choose_void _ _ _ tt tt
shape_void names pos own text = choose_void _ _ _ tt (choose_void _ _ _ (following_void _ _ (λ t. tt)) tt)
shape_void names pos own (tuple ss) = tt
shape_void names pos own (array n s) = tt
shape_void names pos own (option s) = choose_void _ _ _ tt (choose_void _ _ _ tt tt)
shape_void names pos own (result s t) = choose_void _ _ _ tt (choose_void _ _ _ tt tt)
shape_void names pos own (choice ss) = payload_void pos (slice_index own 0) ss _
shape_void names pos own (box p) = following_void _ _ (λ t. tt)
shape_void names pos own (vector s) = following_void _ _ (λ t. tt)
shape_void names pos own (shared cyclic p) = following_void _ _ (λ t. tt)
shape_void names pos own (weak cyclic p) = choose_void _ _ _ tt (choose_void _ _ _ tt tt)
shape_void names pos own (tree most k v) = choose_void _ _ _ tt (following_void _ _ (λ t. tt))
shape_void names pos own (table s) = choose_void _ _ _ tt (table_void pos own (item s) [] _)
shape_void names pos own (index_map k v) = choose_void _ _ _ tt (following_void _ _ (λ t. table_void pos own _ _ _))
shape_void names pos own (named name size align) = named_void pos size align (shape_named names name)

-- a node has its kind byte
node_some : (words most : ℕ) (k v : Shape) → 0 < link_node_size words most k v
node_some words most k v =
    let links = links_fit words most k v in
    let values = values_fit most k v in
    let keys = keys_fit words most k v in
    let kind : 1 ≤ keys_offset k = unfold keys_offset in le_align_up 1 (align_of k) in
    omega (arith, links, values, keys, kind)

node_void : (level most : ℕ) (k v : Shape) (pos kind : ℕ) (own : List ℕ) → IsVoid (node_content level most k v pos kind own)
unfolding node_content
node_void level most k v pos zero own = choose_void _ _ _ (λ e. let some = node_some 1 most k v in absurd (omega (arith, some, e))) tt
node_void level most k v pos (suc zero) own = choose_void _ _ _ (λ e. let some = node_some (most + 1) most k v in absurd (omega (arith, some, e))) tt
node_void level most k v pos (suc (suc kind)) own = tt

pointee_void : (bytes : List ℕ) (pos : ℕ) (p : Pointee) (len : ℕ) → IsVoid (pointee_content bytes pos p len)
unfolding pointee_content
pointee_void bytes pos (sized s) len = λ e. empty_more e empty_none
pointee_void bytes pos (slice s) len = λ e. elements_empty pos len s e
pointee_void bytes pos str len = λ e. empty_none

buckets_void : (target len cap : ℕ) (it : Item) (controls : List ℕ) → IsVoid (buckets_content target len cap it controls)
unfolding buckets_content buckets_span control_count
buckets_void target len cap it controls = choose_void _ _ _ (λ e. absurd (omega (arith, e))) tt

content_void : (names : Names) (bytes : List ℕ) (p : Part) → IsVoid (content_of names bytes p)
unfolding child_content place_content
content_void names bytes (at pos s) = shape_void names pos (window bytes pos (size_of s)) s
content_void names bytes (behind pos p len) = pointee_void bytes pos p len
content_void names bytes (node level most k v pos) = node_void level most k v pos _ _
content_void names bytes (child level most k v pos) = choose_void _ _ _ tt (choose_void _ _ _ (following_void _ _ (λ t. tt)) tt)
content_void names bytes (entry k key_pos v value_pos) = tt
content_void names bytes (buckets target len cap it) = buckets_void target len cap it _
content_void names bytes (place_at pos limit) = choose_void _ _ _ tt tt

-- where a part claims a region of no bytes, nothing lies inside
pub void_claim : (names : Names) (bytes : List ℕ) (p : Part) {s : Span} {l : Label} {ps : List Part} → content_of names bytes p ≡ claimed s l ps → s.size ≡ 0 → AreEmpty ps
void_claim names bytes p e none = (subst IsVoid e (content_void names bytes p)) none
