-- Windows of bytes, and the kinds of contents that parts have.
use Rattle.std.proofs.Common.{zero, nat_lt, ◌≡◌, ℕ, ◌+◌, ◌-◌, ◌≤◌, ◌<◌, suc, Bool, true, false, List, [], ◌∷◌, ◌++◌, take, drop, length, get_or, refl, ap, sym, subst, ◌∙◌, arith, ◌⊎◌, inl, inr, ⊎_elim, get_or-take, get_or-drop, length-take}
use Rattle.std.specs.Prelude.{⊤}
use Rattle.std.proofs.Math.ListN.{get_or-eq_default}
use Rattle.std.proofs.lemmas.Bool.{cases_lt}
use Rattle.archive_shape_layout.specs.Content.{choose, Part, Item, Span, Label, Content, pointee_content, node_content, buckets_content, place_content}
use Rattle.archive_shape_layout.specs.Content.Part.{at, behind, node, child, entry, buckets, place_at}
use Rattle.archive_shape_layout.specs.Content.Content.{illegal, plain, claimed, counting}
use Rattle.archive_shape_layout.specs.Shape.{Shape, Pointee}
use Rattle.archive_shape_layout.specs.Shape.Pointee.{sized, slice, str}
use Rattle.archive_shape_layout.specs.Value.{Value}
use Rattle.archive_shape_layout.specs.Bytes.{window, word_at}
use Rattle.archive_shape_layout.specs.Holds.{Region}
use Rattle.archive_shape_canonical.specs.Canonical.{InRegions}
use Rattle.archive_shape_canonical.specs.Canonical.{AreBytes}
use Rattle.archive_shape_canonical.proofs.Akin.{Match, no_left, no_right, leaves, texts, wholes, ones, tags, short_long, long_short, totals, empty_total, total_empty, tables, empty_table, table_empty, maps, empty_map, map_empty, no_child, child_no, counts}
use Rattle.archive_shape_canonical.proofs.Fields.{IsContent}

-- ---- bytes in windows

pub window_bytes : (xs : List ℕ) (pos n : ℕ) → AreBytes xs → AreBytes (window xs pos n)
window_bytes xs pos n small i =
    ⊎_elim
    (λ l. subst (λ m. m < 256) (sym (get_or-take n (drop pos xs) i 0 l ∙ get_or-drop pos xs i 0)) (small (pos + i)))
    (λ g. subst (λ m. m < 256) (sym (get_or-eq_default (take n (drop pos xs)) 0 (omega (arith, length-take n (drop pos xs))))) (omega arith))
    (cases_lt i n)

pub window_length : (xs : List ℕ) (pos n : ℕ) → length (window xs pos n) ≤ n
window_length xs pos n = omega (arith, length-take n (drop pos xs))

pub at_window : (xs : List ℕ) (pos n i : ℕ) → pos ≤ i → i < pos + n → get_or xs i 0 ≡ get_or (window xs pos n) (i - pos) 0
at_window xs pos n i low high =
    let e : pos + (i - pos) ≡ i = omega arith in
    ap (λ m. get_or xs m 0) (sym e) ∙ sym (get_or-drop pos xs (i - pos) 0) ∙ sym (get_or-take n (drop pos xs) (i - pos) 0 (omega arith))

-- ---- kinds of contents

abbrev pub kind : Content → ℕ
kind illegal = 0
kind (plain l ps) = 1
kind (claimed s l ps) = 2
kind (counting cyclic t q len) = 3

pub match_kind : {bytes others : List ℕ} {P : Type 0} {c c' : Content} → Match bytes others P c c' → IsContent c → IsContent c' → kind c ≡ kind c'
match_kind no_left h h' = absurd h
match_kind no_right h h' = absurd h'
match_kind (leaves a b) h h' = refl
match_kind texts h h' = refl
match_kind (wholes a) h h' = refl
match_kind (ones a) h h' = refl
match_kind (tags a) h h' = refl
match_kind (short_long a) h h' = refl
match_kind (long_short a) h h' = refl
match_kind (totals a) h h' = refl
match_kind (empty_total a) h h' = refl
match_kind (total_empty a) h h' = refl
match_kind tables h h' = refl
match_kind (empty_table a) h h' = refl
match_kind (table_empty a) h h' = refl
match_kind maps h h' = refl
match_kind (empty_map a) h h' = refl
match_kind (map_empty a) h h' = refl
match_kind no_child h h' = refl
match_kind child_no h h' = refl
match_kind (counts a) h h' = refl

pub not_two : {bytes others : List ℕ} {P : Type 0} {c c' : Content} → Match bytes others P c c' → kind c ≡ 2 → kind c' ≡ 2 → ⊥
not_two no_left h h' = omega (arith, h)
not_two no_right h h' = omega (arith, h')
not_two (leaves a b) h h' = omega (arith, h)
not_two texts h h' = omega (arith, h)
not_two (wholes a) h h' = omega (arith, h)
not_two (ones a) h h' = omega (arith, h)
not_two (tags a) h h' = omega (arith, h)
not_two (short_long a) h h' = omega (arith, h)
not_two (long_short a) h h' = omega (arith, h)
not_two (totals a) h h' = omega (arith, h)
not_two (empty_total a) h h' = omega (arith, h)
not_two (total_empty a) h h' = omega (arith, h)
not_two tables h h' = omega (arith, h)
not_two (empty_table a) h h' = omega (arith, h)
not_two (table_empty a) h h' = omega (arith, h)
not_two maps h h' = omega (arith, h)
not_two (empty_map a) h h' = omega (arith, h)
not_two (map_empty a) h h' = omega (arith, h)
not_two no_child h h' = omega (arith, h)
not_two child_no h h' = omega (arith, h)
not_two (counts a) h h' = omega (arith, h)

-- what claims: pointees, nodes and buckets
abbrev pub IsPlace : Part → Type 0
IsPlace (at pos s) = ⊤
IsPlace (child level most k v pos) = ⊤
IsPlace (entry k a v b) = ⊤
IsPlace (place_at pos limit) = ⊤
IsPlace (behind t q len) = ⊥
IsPlace (node level most k v pos) = ⊥
IsPlace (buckets target len cap it) = ⊥

pub behind_claims : (bytes : List ℕ) (t : ℕ) (q : Pointee) (len : ℕ) → kind (pointee_content bytes t q len) ≡ 2
unfolding pointee_content
behind_claims bytes t (sized s) len = refl
behind_claims bytes t (slice s) len = refl
behind_claims bytes t str len = refl

pub chosen_two : (b : Bool) (c d : Content) → choose b c illegal ≡ d → IsContent d → kind c ≡ 2 → kind d ≡ 2
unfolding choose
chosen_two true c d e h k = ap kind (sym e) ∙ k
chosen_two false c d e h k = absurd (subst IsContent (sym e) h)

pub node_two : (level most : ℕ) (k v : Shape) (pos m : ℕ) (own : List ℕ) (d : Content) → node_content level most k v pos m own ≡ d → IsContent d → kind d ≡ 2
unfolding node_content
node_two level most k v pos zero own d e h = chosen_two _ _ d e h refl
node_two level most k v pos (suc zero) own d e h = chosen_two _ _ d e h refl
node_two level most k v pos (suc (suc m)) own d e h = absurd (subst IsContent (sym e) h)

pub buckets_two : (target len cap : ℕ) (it : Item) (own : List ℕ) (d : Content) → buckets_content target len cap it own ≡ d → IsContent d → kind d ≡ 2
unfolding buckets_content
buckets_two target len cap it own d e h = chosen_two _ _ d e h refl

pub InRegions-append : (rs qs : List Region) (i : ℕ) → InRegions (rs ++ qs) i → InRegions rs i ⊎ InRegions qs i
InRegions-append [] qs i h = inr h
InRegions-append (r ∷ rs) qs i h = ⊎_elim (λ a. inl (inl a)) (λ b. ⊎_elim (λ c. inl (inr c)) (λ d. inr d) (InRegions-append rs qs i b)) h

pub spans : (a b m n x y : ℕ) → a ≡ b → m ≡ n → x ≡ y → ◌≡◌ {A = Span} (record { start = a; size = m; align = x }) (record { start = b; size = n; align = y })
spans a b m n x y e f g = cc

pub place_parts : (limit : ℕ) (own : List ℕ) {l : Label} {ps : List Part} → place_content limit own ≡ plain l ps → [] ≡ ps
unfolding place_content choose
place_parts limit own {l = l} {ps = ps} e = tested (nat_lt (word_at own 0) limit) e
  where
    tested : (b : Bool) → choose b (plain (Label.leaf (Value.natural (word_at own 0))) []) illegal ≡ plain l ps → [] ≡ ps
    tested true e' = cc
    tested false e' = absurd (cc)
