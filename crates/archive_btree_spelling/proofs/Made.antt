-- How a value is made of those of a part's parts, and what the parts of a search tree are by what is read of it.
use Rattle.std.proofs.Common.{◌≡◌, ◌∙◌, ℕ, zero, suc, ◌+◌, ◌<◌, ◌≤◌, ◌==◌, nat_le, Bool, true, false, List, [], ◌∷◌, ◌++◌, Some, refl, ap, sym, subst, arith, add-zero, eqb-true, eq-eqb}
use Rattle.std.specs.Prelude.{slice_index}
use Rattle.std.proofs.lemmas.Bool.Decides.{nat_tests}
use Rattle.archive_shape_layout.specs.Bytes.{window, word_at, target_from}
use Rattle.archive_shape_layout.specs.Shape.{Shape}
use Rattle.archive_shape_layout.specs.Shape.Shape.{tree}
use Rattle.archive_shape_layout.specs.Value.{Value, Values}
use Rattle.archive_shape_layout.specs.Value.Values.{more_values}
use Rattle.archive_shape_layout.specs.Content.{Names, Part, Span, Label, made, content_of, node_content, child_content, choose, following, children, entries, keys_offset, values_offset, links_offset, link_node_size, node_span, words_of}
use Rattle.archive_shape_layout.specs.Content.Part.{at, node, child}
use Rattle.archive_shape_layout.specs.Content.Label.{same, whole, woven, total}
use Rattle.archive_shape_layout.specs.Content.Content.{plain, claimed, illegal}
use Rattle.archive_shape_layout.specs.Holds.{Region, Visit, OpenShared, Holds, HoldAll}
use Rattle.archive_shape_layout.specs.Holds.Holds.{holds_plain, holds_claimed, holds_first, holds_later, holds_back}
use Rattle.archive_shape_layout.specs.Holds.HoldAll.{holds_more}
use Rattle.archive_shape_layout.proofs.Framed.{links_fit}
use Rattle.archive_btree_layout.specs.Tree.{Tree}
use Rattle.archive_btree_layout.specs.Reading.{Place, HasNode}
use Rattle.archive_btree_layout.specs.Reading.HasNode.{has_leaf, has_inner}
use Rattle.archive_btree_layout.proofs.Contents.{kind_of}
use Rattle.archive_btree_spelling.proofs.Trees.{child_leads}
use Rattle.archive_btree_spelling.proofs.Nodes.{leaf_chosen, inner_chosen}
use Rattle.archive_btree_spelling.proofs.Maps.{rooted_content}
use Rattle.archive_shape_layout.proofs.Windows.{word_of, word_within}

module _ (names : Names) (bytes : List ℕ) where
  -- parts have values, of which a label makes one
  pub record MadeOf (l : Label) (ps : List Part) (value : Value) : Type 0 where
    pub level : ℕ
    pub inside : List OpenShared
    pub values : Values
    pub regions : List Region
    pub before : List Visit
    pub after : List Visit
    pub hold : HoldAll names bytes level inside ps values regions before after
    pub is : made l values ≡ Some value

  made_by : {l m : Label} {ps qs : List Part} {value : Value} → m ≡ l → qs ≡ ps → MadeOf m qs value → MadeOf l ps value
  made_by {l = l} {qs = qs} {value = value} e f h = subst (λ y. MadeOf l y value) f (subst (λ y. MadeOf y qs value) e h)

  pub made_plain : {p : Part} {l : Label} {ps : List Part} {level : ℕ} {inside : List OpenShared} {value : Value} {rs : List Region} {before after : List Visit}
      → content_of names bytes p ≡ plain l ps → Holds names bytes level inside p value rs before after → MadeOf l ps value
  made_plain {l = l} {ps = ps} {level = level} {inside = inside} {rs = rs} {before = before} {after = after} c (holds_plain {l = m} {ps = qs} {vs = vs} e legal all is) =
      let g : plain m qs ≡ plain l ps = sym e ∙ c in
      let label : m ≡ l = cc in
      let parts : qs ≡ ps = cc in
      made_by label parts (record { level = level; inside = inside; values = vs; regions = rs; before = before; after = after; hold = all; is = is })
  made_plain c (holds_claimed e legal all is r) = absurd (let g = sym c ∙ e in cc)
  made_plain c (holds_first e x y h d f) = absurd (let g = sym c ∙ e in cc)
  made_plain c (holds_later e x y d f g) = absurd (let h = sym c ∙ e in cc)
  made_plain c (holds_back e x d f g) = absurd (let h = sym c ∙ e in cc)

  pub made_claimed : {p : Part} {s : Span} {l : Label} {ps : List Part} {level : ℕ} {inside : List OpenShared} {value : Value} {rs : List Region} {before after : List Visit}
      → content_of names bytes p ≡ claimed s l ps → Holds names bytes level inside p value rs before after → MadeOf l ps value
  made_claimed {s = s} {l = l} {ps = ps} {level = level} {inside = inside} {before = before} {after = after} c (holds_claimed {within = within} {s = t} {l = m} {ps = qs} {vs = vs} e legal all is r) =
      let g : claimed t m qs ≡ claimed s l ps = sym e ∙ c in
      let label : m ≡ l = cc in
      let parts : qs ≡ ps = cc in
      made_by label parts (record { level = suc level; inside = inside; values = vs; regions = within; before = before; after = after; hold = all; is = is })
  made_claimed c (holds_plain e legal all is) = absurd (let g = sym c ∙ e in cc)
  made_claimed c (holds_first e x y h d f) = absurd (let g = sym c ∙ e in cc)
  made_claimed c (holds_later e x y d f g) = absurd (let h = sym c ∙ e in cc)
  made_claimed c (holds_back e x d f g) = absurd (let h = sym c ∙ e in cc)

  -- the first of some parts, and the others
  pub record FirstOf (p : Part) (ps : List Part) (values : Values) : Type 0 where
    pub level : ℕ
    pub inside : List OpenShared
    pub value : Value
    pub others : Values
    pub is : values ≡ more_values value others
    pub here : List Region
    pub later : List Region
    pub before : List Visit
    pub between : List Visit
    pub after : List Visit
    pub first : Holds names bytes level inside p value here before between
    pub rest : HoldAll names bytes level inside ps others later between after

  pub first_of_all : {p : Part} {ps : List Part} {values : Values} {level : ℕ} {inside : List OpenShared} {rs : List Region} {before after : List Visit}
      → HoldAll names bytes level inside (p ∷ ps) values rs before after → FirstOf p ps values
  first_of_all {level = level} {inside = inside} {before = before} {after = after} (holds_more {v = v} {vs = vs} {here = here} {later = later} {between = between} h hs e r) =
      record { level = level; inside = inside; value = v; others = vs; is = e; here = here; later = later; before = before; between = between; after = after; first = h; rest = hs }

  -- ---- contents

  module _ (most : ℕ) (k v : Shape) where
    pub leaf_content : (level pos len : ℕ) → level ≤ 32 → slice_index bytes pos ≡ 0 → word_at bytes (pos + links_offset most k v) ≡ len → len ≤ most
        → content_of names bytes (node level most k v pos) ≡ claimed (node_span 1 most k v pos) whole (entries len k (pos + keys_offset k) v (pos + values_offset most k v))
    leaf_content level pos len low kind word few =
        ap (λ z. node_content level most k v pos z (window bytes pos (link_node_size (words_of z most) most k v))) (kind_of bytes pos ∙ kind)
        ∙ leaf_chosen names bytes level most k v pos (window bytes pos (link_node_size 1 most k v)) len
        (word_within bytes pos (link_node_size 1 most k v) (links_offset most k v) (let h = links_fit 1 most k v in omega arith) ∙ word) low few

    pub inner_content : (level pos : ℕ) → level ≤ 32 → slice_index bytes pos ≡ 1
        → content_of names bytes (node level most k v pos)
        ≡ claimed (node_span (most + 1) most k v pos) (woven (suc most)) (children (suc most) (suc level) most k v (pos + links_offset most k v) ++ entries most k (pos + keys_offset k) v (pos + values_offset most k v))
    inner_content level pos low kind =
        let more : most + 1 ≡ suc most = omega arith in
        let next : level + 1 ≡ suc level = omega arith in
        ap (λ z. node_content level most k v pos z (window bytes pos (link_node_size (words_of z most) most k v))) (kind_of bytes pos ∙ kind)
        ∙ inner_chosen names bytes level most k v pos (window bytes pos (link_node_size (most + 1) most k v)) low
        ∙ ap (λ z. claimed (node_span (most + 1) most k v pos) (woven z) (children z (level + 1) most k v (pos + links_offset most k v) ++ entries most k (pos + keys_offset k) v (pos + values_offset most k v))) more
        ∙ ap (λ z. claimed (node_span (most + 1) most k v pos) (woven (suc most)) (children (suc most) z most k v (pos + links_offset most k v) ++ entries most k (pos + keys_offset k) v (pos + values_offset most k v))) next

    pub no_child_content : (level link : ℕ) → word_at bytes link ≡ 1 → content_of names bytes (child level most k v link) ≡ plain whole []
    unfolding child_content choose
    no_child_content level link e =
        let word : word_at (window bytes link 4) 0 ≡ 1 = word_of bytes link ∙ e in
        let none : (word_at (window bytes link 4) 0 == 1) ≡ true = eq-eqb _ _ word in
        ap (λ z. choose z (plain whole []) (choose (nat_le level 32) (following (target_from link (word_at (window bytes link 4) 0)) (λ a. plain same (node level most k v a ∷ []))) illegal)) none

    level_low : (level pos : ℕ) (t : Tree Place) → HasNode bytes most k v level pos t → level ≤ 32
    level_low level pos t (has_leaf a b c d e f) = a
    level_low level pos t (has_inner a b c d e) = a

    pub child_content_of : (level link pos : ℕ) (t : Tree Place) → (word_at bytes link ≡ 1 → ⊥) → target_from link (word_at bytes link) ≡ Some pos → HasNode bytes most k v level pos t
        → content_of names bytes (child level most k v link) ≡ plain same (node level most k v pos ∷ [])
    child_content_of level link pos t away target n =
        child_leads level most k v link (window bytes link 4) pos (not_one (word_at (window bytes link 4) 0 == 1) refl) (grind (arith, nat_tests, level_low level pos t n)) (ap (target_from link) (word_of bytes link) ∙ target)
      where
        not_one : (b : Bool) → (word_at (window bytes link 4) 0 == 1) ≡ b → (word_at (window bytes link 4) 0 == 1) ≡ false
        not_one false e = e
        not_one true e = absurd (away (sym (word_of bytes link) ∙ eqb-true _ 1 e))

    pub map_content : (pos root : ℕ) → (word_at bytes (pos + 4) ≡ 0 → ⊥) → target_from pos (word_at bytes pos) ≡ Some root
        → content_of names bytes (at pos (tree most k v)) ≡ plain (total (word_at bytes (pos + 4))) (node 1 most k v root ∷ [])
    map_content pos root some target =
        let first : word_at (window bytes pos 8) 0 ≡ word_at bytes pos = word_within bytes pos 8 0 (omega arith) ∙ ap (word_at bytes) (add-zero pos) in
        rooted_content names bytes most k v pos (word_at bytes (pos + 4)) root (word_within bytes pos 8 4 (omega arith)) (above_zero (word_at bytes (pos + 4)) some) (ap (target_from pos) first ∙ target)
      where
        above_zero : (n : ℕ) → (n ≡ 0 → ⊥) → 0 < n
        above_zero zero h = absurd (h refl)
        above_zero (suc n) h = omega arith
