-- A text has no parts.
use Rattle.std.proofs.Common.{◌≡◌, ℕ, zero, suc, ◌+◌, ◌==◌, ◌&&◌, Bool, true, false, List, [], ◌∷◌, slice_index, Option, Some, None, refl, subst}
use Rattle.archive_shape_layout.specs.Bytes.{align_up}
use Rattle.archive_shape_layout.specs.Shape.{Shape, Pointee, alignment_bytes, align_of, size_of}
use Rattle.archive_shape_layout.specs.Shape.Shape.{number, nonzero, truth, character, text, tuple, array, option, result, choice, box, vector, shared, weak, tree, table, index_map, named}
use Rattle.archive_shape_layout.specs.Shape.Pointee.{sized, slice, str}
use Rattle.archive_shape_layout.specs.Content.{Names, Part, Span, Item, Label, Content, content_of, IsLegal, choose, following, option_content, shape_content, text_content, shared_content, table_parts, shape_named, shape_tagged, pointee_content, node_content, child_content, buckets_content, place_content}
use Rattle.archive_shape_layout.specs.Content.Part.{at, behind, node, child, entry, buckets, place_at}
use Rattle.archive_shape_layout.specs.Content.Label.{leaf, written, same, second, whole, tagged, woven, total}
use Rattle.archive_shape_layout.specs.Content.Content.{plain, claimed, illegal}

abbrev pub IsWhole : Label → List Part → Type 0
IsWhole (written bs) ps = ps ≡ []
IsWhole _ ps = Unit {0}

abbrev pub TextIsWhole : Content → Type 0
TextIsWhole (plain l ps) = IsWhole l ps
TextIsWhole (claimed s l ps) = IsWhole l ps
TextIsWhole _ = Unit {0}

-- a label that is not legal is that of a text
pub illegal_is_whole : (l : Label) (ps : List Part) → IsWhole l ps → (IsLegal l → ⊥) → ps ≡ []
illegal_is_whole (leaf v) ps w n = absurd (n tt)
illegal_is_whole (written bs) ps w n = w
illegal_is_whole same ps w n = absurd (n tt)
illegal_is_whole second ps w n = absurd (n tt)
illegal_is_whole whole ps w n = absurd (n tt)
illegal_is_whole (tagged t) ps w n = absurd (n tt)
illegal_is_whole (woven m) ps w n = absurd (n tt)
illegal_is_whole (total m) ps w n = absurd (n tt)

chosen_whole : (b : Bool) (x y : Content) → TextIsWhole x → TextIsWhole y → TextIsWhole (choose b x y)
unfolding choose
chosen_whole true x y h i = h
chosen_whole false x y h i = i

following_whole : (o : Option ℕ) (f : ℕ → Content) → ((t : ℕ) → TextIsWhole (f t)) → TextIsWhole (following o f)
unfolding following
following_whole None f h = tt
following_whole (Some t) f h = h t

option_whole : (o : Option Shape) (f : Shape → Content) → ((s : Shape) → TextIsWhole (f s)) → TextIsWhole (option_content o f)
option_whole None f h = tt
option_whole (Some s) f h = h s

text_whole : (pos : ℕ) (own : List ℕ) → TextIsWhole (text_content pos own)
unfolding text_content
text_whole pos own = chosen_whole _ _ _ refl (chosen_whole _ _ _ (following_whole _ _ (λ t. tt)) tt)

table_whole : (pos : ℕ) (own : List ℕ) (it : Item) (rest : List Part) → TextIsWhole (table_parts pos own it rest same) × TextIsWhole (table_parts pos own it rest second)
unfolding table_parts
table_whole pos own it rest =
    (chosen_whole _ _ _ (following_whole _ _ (λ t. tt)) tt, chosen_whole _ _ _ (following_whole _ _ (λ t. tt)) tt)

shape_whole : (names : Names) (pos : ℕ) (own : List ℕ) (s : Shape) → TextIsWhole (shape_content names pos own s)
unfolding shape_content shared_content
shape_whole names pos own (number w signed) = tt
shape_whole names pos own (nonzero w signed) = chosen_whole _ _ _ tt tt
shape_whole names pos own truth = chosen_whole _ _ _ tt tt
shape_whole names pos own character = chosen_whole _ _ _ tt tt
shape_whole names pos own text = text_whole pos own
shape_whole names pos own (tuple ss) = tt
shape_whole names pos own (array n s) = tt
shape_whole names pos own (option s) = chosen_whole _ _ _ tt (chosen_whole _ _ _ tt tt)
shape_whole names pos own (result s t) = chosen_whole _ _ _ tt (chosen_whole _ _ _ tt tt)
shape_whole names pos own (choice ss) =
    let tag = slice_index own 0 in
    option_whole (shape_tagged tag ss) (λ s. plain (tagged tag) (at (pos + align_up 1 (align_of s)) s ∷ [])) (λ s. tt)
shape_whole names pos own (box p) = following_whole _ _ (λ t. tt)
shape_whole names pos own (vector s) = following_whole _ _ (λ t. tt)
shape_whole names pos own (shared cyclic p) = following_whole _ _ (λ t. tt)
shape_whole names pos own (weak cyclic p) = chosen_whole _ _ _ tt (chosen_whole _ _ _ tt tt)
shape_whole names pos own (tree most k v) = chosen_whole _ _ _ tt (following_whole _ _ (λ t. tt))
shape_whole names pos own (table s) = chosen_whole _ _ _ tt (table_whole pos own (Item.item s) []).0
shape_whole names pos own (index_map k v) = chosen_whole _ _ _ tt (following_whole _ _ (λ t. (table_whole pos own _ _).1))
shape_whole names pos own (named name size align) =
    option_whole (shape_named names name) (λ s. choose ((size_of s == size) && (align_of s == alignment_bytes align)) (plain same (at pos s ∷ [])) illegal) (λ s. chosen_whole _ _ _ tt tt)

pointee_whole : (bytes : List ℕ) (pos : ℕ) (p : Pointee) (len : ℕ) → TextIsWhole (pointee_content bytes pos p len)
unfolding pointee_content
pointee_whole bytes pos (sized s) len = tt
pointee_whole bytes pos (slice s) len = tt
pointee_whole bytes pos str len = refl

node_whole : (level most : ℕ) (k v : Shape) (pos kind : ℕ) (own : List ℕ) → TextIsWhole (node_content level most k v pos kind own)
unfolding node_content
node_whole level most k v pos zero own = chosen_whole _ _ _ tt tt
node_whole level most k v pos (suc zero) own = chosen_whole _ _ _ tt tt
node_whole level most k v pos (suc (suc kind)) own = tt

pub text_is_whole : (names : Names) (bytes : List ℕ) (p : Part) → TextIsWhole (content_of names bytes p)
unfolding child_content buckets_content place_content
text_is_whole names bytes (at pos s) = shape_whole names pos _ s
text_is_whole names bytes (behind pos p len) = pointee_whole bytes pos p len
text_is_whole names bytes (node level most k v pos) = node_whole level most k v pos _ _
text_is_whole names bytes (child level most k v pos) = chosen_whole _ _ _ tt (chosen_whole _ _ _ (following_whole _ _ (λ t. tt)) tt)
text_is_whole names bytes (entry k key_pos v value_pos) = tt
text_is_whole names bytes (buckets target len cap it) = chosen_whole _ _ _ tt tt
text_is_whole names bytes (place_at pos limit) = chosen_whole _ _ _ tt tt

-- of a part whose text is not legal
pub illegal_plain : (names : Names) (bytes : List ℕ) (p : Part) (l : Label) (ps : List Part) → content_of names bytes p ≡ plain l ps → (IsLegal l → ⊥) → ps ≡ []
illegal_plain names bytes p l ps e n = illegal_is_whole l ps (subst TextIsWhole e (text_is_whole names bytes p)) n

pub illegal_claimed : (names : Names) (bytes : List ℕ) (p : Part) (s : Span) (l : Label) (ps : List Part) → content_of names bytes p ≡ claimed s l ps → (IsLegal l → ⊥) → ps ≡ []
illegal_claimed names bytes p s l ps e n = illegal_is_whole l ps (subst TextIsWhole e (text_is_whole names bytes p)) n
