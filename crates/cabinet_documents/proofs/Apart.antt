-- The own bytes of leaves at different paths do not overlap.
use Rattle.std.proofs.Common.{◌≡◌, ◌≢◌, ℕ, ◌<◌, ◌≤◌, List, [], ◌∷◌, ◌++◌, length, Option, Some, refl, sym, ap, ap₂, ◌∙◌, arith, ◌⊎◌, inl, inr, ⊎_elim}
use Rattle.archive_shape_layout.specs.Value.{Value, Values}
use Rattle.archive_shape_layout.specs.Value.Value.{group}
use Rattle.archive_shape_layout.specs.Edit.{Apart}
use Rattle.archive_shape_layout.specs.Path.{value_in}
use Rattle.archive_shape_layout.specs.Holds.{root_position}
use Rattle.archive_shape_layout.proofs.Leaves.{leaves_apart_law}
use Rattle.archive_shape.proofs.Sealed.{held as held_at}
use Rattle.cabinet_text_grammar.specs.Path.{Step, key, place, inside}
use Rattle.cabinet_documents.specs.Node.{node_names, node_shape}
use Rattle.cabinet_documents.specs.Denotes.{tagged_value, pair_value}
use Rattle.cabinet_documents.specs.OwnBytes.{LeadsTo, leads_here, leads_inside, leads_place, leads_key}
use Rattle.cabinet_documents.specs.Laws.{OwnBytesApart}
use Rattle.cabinet_documents.proofs.Changing.{high_tag}
use Rattle.cabinet_documents.proofs.OwnWritten.{in_leaf}

-- ---- a path of the layout is that of one path of the document

-- two paths to payloads, the one empty and the other not
not_empty : {p q : List ℕ} {i : ℕ} {m : List ℕ} → p ≡ [] → q ≡ i ∷ m → p ++ 0 ∷ [] ≡ q ++ 0 ∷ [] → m ≢ [] → ⊥
not_empty {i = i} {m = []} e f g h = h refl
not_empty {p = p} {q = q} {i = i} {m = j ∷ m} e f g h =
    let k : 0 ∷ [] ≡ i ∷ (j ∷ (m ++ 0 ∷ [])) = sym (ap (λ x. x ++ 0 ∷ []) e) ∙ g ∙ ap (λ x. x ++ 0 ∷ []) f in
    cc

map_tag : {v w : Value} {vs : Values} {tag : ℕ} (low : ℕ) → low < 6 → v ≡ tagged_value tag (group vs) → (tag ≡ 6) ⊎ ((tag ≡ 7) ⊎ (tag ≡ 8)) → v ≡ tagged_value low w → ⊥
map_tag {tag = tag} low h e high f =
    let same : low ≡ tag = cc in
    high_tag low tag same high h

same_path :
    {v v' w w' : Value} {path other : List Step} {inner more : List ℕ}
    → LeadsTo v path inner w
    → LeadsTo v' other more w'
    → v ≡ v'
    → inner ++ 0 ∷ [] ≡ more ++ 0 ∷ []
    → path ≡ other
same_path (leads_here e f g) (leads_here e' f' g') q r = f ∙ sym f'
same_path (leads_here e f g) (leads_inside e' f' g' l') q r = absurd (not_empty g g' r (λ n. cc))
same_path (leads_here e f g) (leads_place e' t' f' g' l') q r = absurd (not_empty g g' r (λ n. cc))
same_path (leads_here e f g) (leads_key e' x' t' f' g' l') q r = absurd (not_empty g g' r (λ n. cc))
same_path (leads_inside e f g l) (leads_here e' f' g') q r = absurd (not_empty g' g (sym r) (λ n. cc))
same_path (leads_inside {u = u} {rest = rest} {more = m} e f g l) (leads_inside {u = u'} {rest = rest'} {more = m'} e' f' g' l') q r =
    let same : u ≡ u' = cc in
    let inner_is : 0 ∷ (0 ∷ (m ++ 0 ∷ [])) ≡ 0 ∷ (0 ∷ (m' ++ 0 ∷ [])) = sym (ap (λ x. x ++ 0 ∷ []) g) ∙ r ∙ ap (λ x. x ++ 0 ∷ []) g' in
    let on : m ++ 0 ∷ [] ≡ m' ++ 0 ∷ [] = cc in
    let rests = same_path l l' same on in
    f ∙ ap (λ x. inside ∷ x) rests ∙ sym f'
same_path (leads_inside e f g l) (leads_place e' t' f' g' l') q r = absurd (cc)
same_path (leads_inside e f g l) (leads_key e' x' t' f' g' l') q r = absurd (map_tag 4 (omega arith) e' x' (sym q ∙ e))
same_path (leads_place e t f g l) (leads_here e' f' g') q r = absurd (not_empty g' g (sym r) (λ n. cc))
same_path (leads_place e t f g l) (leads_inside e' f' g' l') q r = absurd (cc)
same_path (leads_place {u = u} {vs = vs} {i = i} {rest = rest} {more = m} e t f g l) (leads_place {u = u'} {vs = vs'} {i = i'} {rest = rest'} {more = m'} e' t' f' g' l') q r =
    let lists : vs ≡ vs' = cc in
    let inner_is : 0 ∷ (i ∷ (m ++ 0 ∷ [])) ≡ 0 ∷ (i' ∷ (m' ++ 0 ∷ [])) = sym (ap (λ x. x ++ 0 ∷ []) g) ∙ r ∙ ap (λ x. x ++ 0 ∷ []) g' in
    let places : i ≡ i' = cc in
    let on : m ++ 0 ∷ [] ≡ m' ++ 0 ∷ [] = cc in
    let both : ◌≡◌ {A = Option Value} (Some u) (Some u') = sym t ∙ ap₂ value_in places lists ∙ t' in
    let same : u ≡ u' = cc in
    let rests = same_path l l' same on in
    f ∙ ap₂ (λ x y. place x ∷ y) places rests ∙ sym f'
same_path (leads_place e t f g l) (leads_key e' x' t' f' g' l') q r = absurd (map_tag 5 (omega arith) e' x' (sym q ∙ e))
same_path (leads_key e x t f g l) (leads_here e' f' g') q r = absurd (not_empty g' g (sym r) (λ n. cc))
same_path (leads_key e x t f g l) (leads_inside e' f' g' l') q r = absurd (map_tag 4 (omega arith) e x (q ∙ e'))
same_path (leads_key e x t f g l) (leads_place e' t' f' g' l') q r = absurd (map_tag 5 (omega arith) e x (q ∙ e'))
same_path (leads_key {u = u} {vs = vs} {i = i} {k = k} {rest = rest} {more = m} e x t f g l) (leads_key {u = u'} {vs = vs'} {i = i'} {k = k'} {rest = rest'} {more = m'} e' x' t' f' g' l') q r =
    let lists : vs ≡ vs' = cc in
    let inner_is : 0 ∷ (i ∷ (1 ∷ (m ++ 0 ∷ []))) ≡ 0 ∷ (i' ∷ (1 ∷ (m' ++ 0 ∷ []))) = sym (ap (λ x. x ++ 0 ∷ []) g) ∙ r ∙ ap (λ x. x ++ 0 ∷ []) g' in
    let places : i ≡ i' = cc in
    let on : m ++ 0 ∷ [] ≡ m' ++ 0 ∷ [] = cc in
    let both : ◌≡◌ {A = Option Value} (Some (pair_value k u)) (Some (pair_value k' u')) = sym t ∙ ap₂ value_in places lists ∙ t' in
    let keys : k ≡ k' = cc in
    let same : u ≡ u' = cc in
    let rests = same_path l l' same on in
    f ∙ ap₂ (λ x y. key x ∷ y) keys rests ∙ sym f'

narrowed : (start size from len whole other : ℕ) → size ≤ whole → len ≤ other → Apart start whole from other → Apart start size from len
narrowed start size from len whole other h k a = ⊎_elim (λ l. inl (omega (arith, l, h))) (λ r. inr (omega (arith, r, k))) a

pub own_bytes_apart_law : OwnBytesApart
own_bytes_apart_law bytes t path other start size from len a o p differ =
    let h = held_at node_names bytes o.part o.payload a.root.holds o.stands in
    let k = held_at node_names bytes p.part p.payload a.root.holds p.stands in
    let i = in_leaf bytes h.holds o.own in
    let j = in_leaf bytes k.holds p.own in
    narrowed start size from len i.whole j.whole i.short j.short
    (leaves_apart_law node_names bytes (root_position (length bytes) node_shape) node_shape a.value a.regions a.visits (o.inner ++ 0 ∷ []) (p.inner ++ 0 ∷ []) o.part p.part o.payload p.payload start i.whole from j.whole a.root o.stands p.stands i.leaf j.leaf
    (λ e. differ (same_path o.leads p.leads refl e)))
