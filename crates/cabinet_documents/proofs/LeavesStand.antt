-- Each leaf of an accepted document has own bytes.
use Rattle.std.proofs.Common.{◌≡◌, ℕ, suc, List, [], ◌∷◌, ◌++◌, length, Some, refl, sym, ap, subst, ◌∙◌, ◌⊎◌, false}
use Rattle.archive_shape_layout.specs.Bytes.{window}
use Rattle.archive_shape_layout.specs.Shape.Pointee.{sized, str}
use Rattle.archive_shape_layout.specs.Value.{Value, Values}
use Rattle.archive_shape_layout.specs.Value.Value.{group, string}
use Rattle.archive_shape_layout.specs.Content.{Part}
use Rattle.archive_shape_layout.specs.Content.Part.{behind}
use Rattle.archive_btree_spelling.proofs.PairsStand.{tree_pair_stands}
use Rattle.archive_shape_layout.specs.Holds.{Region, Visit, OpenShared, Holds, root_position}
use Rattle.archive_shape_layout.specs.Edit.IsLeafIn.{out_of_line}
use Rattle.archive_shape_layout.specs.Path.{Stands, value_in}
use Rattle.archive_shape_layout.specs.Path.Stands.{stands_here}
use Rattle.archive_shape_layout.proofs.Leaves.{leaf_within_law}
use Rattle.archive_shape.proofs.Pieces.{length-window}
use Rattle.cabinet_text_grammar.specs.Keys.{MapKind, ordered, hashed, kept}
use Rattle.cabinet_text_grammar.specs.Tree.{Leaf, truth, number, text, Tree, Pairs, leaf, map, IsLegal}
use Rattle.cabinet_text_grammar.specs.Path.{Step, key, place, inside, node_at, enters}
use Rattle.cabinet_documents.specs.Node.{node_names, node_shape, own_bytes}
use Rattle.cabinet_documents.specs.Denotes.{Denotes, DenotePairs, tagged_value, pair_value}
use Rattle.cabinet_documents.specs.OwnBytes.{LeadsTo, leads_here, leads_inside, leads_place, leads_key, IsOwn, own_truth, own_number, own_inline, own_behind}
use Rattle.cabinet_documents.specs.Laws.{payload_of, OwnBytesStand, LeavesStand}
use Rattle.cabinet_documents.proofs.ByKey.{in_order, distinct, distinct_in_order, node_in_order, enters_in_order}
use Rattle.cabinet_documents.proofs.Changing.{kind_tag, is_high}
use Rattle.cabinet_documents.proofs.PairSteps.{NodeOf}
use Rattle.cabinet_documents.proofs.IndexSteps.{index_node}
use Rattle.cabinet_documents.proofs.TableSteps.{table_node}
use Rattle.cabinet_documents.proofs.Places.{Place, node_here, text_here, list_here, node_behind, text_behind, part_of, Pays, pays_truth, pays_number, pays_text, pays_shared, pays_option, pays_list, pays_ordered, pays_hashed, pays_kept, pays_whole}
use Rattle.cabinet_documents.proofs.Nodes.{NodeValue, PairValues}
use Rattle.cabinet_documents.proofs.HeldNodes.{none_seen, held}
use Rattle.cabinet_documents.proofs.Steps.{place_of, node_cases, behind_below, some_cases, ElementCase, element_cases, TextCase, text_inline, text_out, text_cases}
use Rattle.cabinet_documents.proofs.Known.{leaf_tag, LeafValue, Known, known_leaf, known_shared, known_none, known_some, known_list, known_ordered, known_hashed, known_kept, known_whole, known, known_element, known_pair}
use Rattle.cabinet_documents.proofs.Leading.{ToLeaf}
use Rattle.cabinet_documents.proofs.Avoiding.{avoids}

module _ (bytes : List ℕ) where
  -- the payload of a node whose tag is known
  pub record PaidAt (level : ℕ) (around : List OpenShared) (pos : ℕ) (v w : Value) (k : Place) (before after : List Visit) : Type 0 where
    pub payload_pos : ℕ
    pub regions : List Region
    pub holds : Holds node_names bytes level around (part_of k payload_pos) w regions before after
    pub stands : (r : Part) (u : Value) (path : List ℕ) → Stands node_names bytes r u level around before (part_of k payload_pos) w path
        → Stands node_names bytes r u level around before (part_of node_here pos) v (0 ∷ path)

  place_is : {tag : ℕ} {j : Place} → Pays tag j → j ≡ place_of tag
  place_is pays_truth = refl
  place_is pays_number = refl
  place_is pays_text = refl
  place_is pays_shared = refl
  place_is pays_option = refl
  place_is pays_list = refl
  place_is pays_ordered = refl
  place_is pays_hashed = refl
  place_is pays_kept = refl
  place_is pays_whole = refl

  pub paid_at : (pos tag : ℕ) (w : Value) {level : ℕ} {around : List OpenShared} {v : Value} {regions : List Region} {before after : List Visit}
      → v ≡ tagged_value tag w → Holds node_names bytes level around (part_of node_here pos) v regions before after → PaidAt level around pos v w (place_of tag) before after
  paid_at pos tag w {level = level} {around = around} {v = v} {before = before} {after = after} e h =
      let c = node_cases bytes pos h in
      let is = c.value_is in
      let tags : c.tag ≡ tag = cc in
      let values : c.payload ≡ w = cc in
      let placed : c.place ≡ place_of tag = place_is c.pays ∙ ap place_of tags in
      let whole : PaidAt level around pos v c.payload c.place before after = record { payload_pos = c.payload_pos; regions = c.regions; holds = c.holds; stands = c.stands } in
      subst (λ k. PaidAt level around pos v w k before after) placed (subst (λ x. PaidAt level around pos v x c.place before after) values whole)

  -- ---- a leaf

  pub data LeafOwn (l : Leaf) (part : Part) : Type 0 where
    own_here : {start size : ℕ} → IsOwn bytes start size part → size ≡ length (own_bytes l) → LeafOwn l part
    own_long : {start len : ℕ} → part ≡ behind start str len → l ≡ text (window bytes start len) → LeafOwn l part

  pub record PayloadStands (level : ℕ) (around : List OpenShared) (before : List Visit) (p : Part) (v : Value) (l : Leaf) : Type 0 where
    pub part : Part
    pub payload : Value
    pub stands : Stands node_names bytes part payload level around before p v []
    pub own : LeafOwn l part

  payload_stands : (pos : ℕ) (l : Leaf) {level : ℕ} {around : List OpenShared} {regions : List Region} {before after : List Visit}
      → Holds node_names bytes level around (part_of (place_of (leaf_tag l)) pos) (payload_of l) regions before after → PayloadStands level around before (part_of (place_of (leaf_tag l)) pos) (payload_of l) l
  payload_stands pos (truth b) h = record { part = _; payload = _; stands = stands_here refl refl refl; own = own_here {start = pos} (own_truth refl refl) refl }
  payload_stands pos (number n) h = record { part = _; payload = _; stands = stands_here refl refl refl; own = own_here {start = pos} (own_number refl refl) refl }
  payload_stands pos (text s) {level = level} {around = around} {before = before} {after = after} h = by_case (text_cases bytes pos h)
    where
      by_case : TextCase bytes level around pos (string s) before after → PayloadStands level around before (part_of text_here pos) (string s) (text s)
      by_case (text_inline {s = u} c is) =
          let same : u ≡ s = cc in
          record { part = _; payload = _; stands = stands_here refl refl refl; own = own_here {start = pos} (own_inline refl c refl) (ap length same) }
      by_case (text_out {t = t} {len = len} is b) =
          let same : s ≡ window bytes t len = cc in
          record { part = part_of (text_behind len) t; payload = string s; stands = b.stands (part_of (text_behind len) t) (string s) [] (stands_here refl refl refl); own = own_long refl (ap text same) }

  -- ---- a leaf at a path

  pub record LeafStands (level : ℕ) (around : List OpenShared) (before : List Visit) (pos : ℕ) (v : Value) (path : List Step) (l : Leaf) : Type 0 where
    pub node : Value
    pub inner : List ℕ
    pub leads : LeadsTo v path inner node
    pub is_leaf : LeafValue node l
    pub part : Part
    pub payload : Value
    pub stands : Stands node_names bytes part payload level around before (part_of node_here pos) v (inner ++ 0 ∷ [])
    pub own : LeafOwn l part

  listed : (l : Leaf) {level pos : ℕ} {around : List OpenShared} {v : Value} {vs : Values} {before after : List Visit} (i : ℕ) (rest : List Step) (u : Value)
      → v ≡ tagged_value 5 (group vs) → value_in i vs ≡ Some u
      → (o : PaidAt level around pos v (group vs) list_here before after) (s : ElementCase bytes level around o.payload_pos (group vs) u i before)
      → LeafStands (suc level) around s.since s.node_pos u rest l → LeafStands level around before pos v (place i ∷ rest) l
  listed l i rest u e there o s r = record {
    node = r.node;
    inner = 0 ∷ (i ∷ r.inner);
    leads = leads_place e there refl refl r.leads;
    is_leaf = r.is_leaf;
    part = r.part;
    payload = r.payload;
    stands = o.stands r.part r.payload (i ∷ (r.inner ++ 0 ∷ [])) (s.stands r.part r.payload (r.inner ++ 0 ∷ []) r.stands);
    own = r.own;
  }

  -- the node of pair i of a map
  pub record PairCase (k : Place) (level : ℕ) (around : List OpenShared) (before : List Visit) (pos : ℕ) (w : Value) (i : ℕ) (y : Value) : Type 0 where
    pub deeper : ℕ
    pub node_pos : ℕ
    pub regions : List Region
    pub since : List Visit
    pub until : List Visit
    pub holds : Holds node_names bytes deeper around (part_of node_here node_pos) y regions since until
    pub stands : (r : Part) (u : Value) (inner : List ℕ) → Stands node_names bytes r u deeper around since (part_of node_here node_pos) y inner → ToLeaf y inner
        → Stands node_names bytes r u level around before (part_of k pos) w (i ∷ (1 ∷ inner))

  node_case : {IsPair : ℕ → Type 0} {k : Place} {level : ℕ} {around : List OpenShared} {before : List Visit} {pos i : ℕ} {w y : Value}
      → NodeOf bytes IsPair level around before (part_of k pos) w y (λ inner. i ∷ (1 ∷ inner)) → PairCase k level around before pos w i y
  node_case s = record { deeper = s.deeper; node_pos = s.node_pos; regions = s.regions; since = s.since; until = s.until; holds = s.holds; stands = λ r u inner x way. s.stands r u inner x }

  pair_case : (kind : MapKind) (pos i : ℕ) (k : List ℕ) (y : Value) {level : ℕ} {around : List OpenShared} {vs : Values} {regions : List Region} {before after : List Visit}
      → value_in i vs ≡ Some (pair_value k y) → Holds node_names bytes level around (part_of (place_of (kind_tag kind)) pos) (group vs) regions before after
      → PairCase (place_of (kind_tag kind)) level around before pos (group vs) i y
  pair_case ordered pos i k y there h =
      let s = tree_pair_stands h i (string k) y there in
      record {
        deeper = s.deeper;
        node_pos = s.value_pos;
        regions = s.regions;
        since = s.since;
        until = s.until;
        holds = s.holds;
        stands = λ r u inner x way. (s.stands r u inner (record { stands = x; spares = avoids bytes x node_here s.value_pos refl way })).stands;
      }
  pair_case hashed pos i k y there h = node_case (table_node bytes pos i k y refl there h)
  pair_case kept pos i k y there h = node_case (index_node bytes pos i k y refl there h)

  mapped : (l : Leaf) {level pos : ℕ} {around : List OpenShared} {v : Value} {vs : Values} {before after : List Visit} (tag : ℕ) (q : Place) (k : List ℕ) (i : ℕ) (rest : List Step) (u : Value)
      → v ≡ tagged_value tag (group vs) → (tag ≡ 6) ⊎ ((tag ≡ 7) ⊎ (tag ≡ 8)) → value_in i vs ≡ Some (pair_value k u)
      → (o : PaidAt level around pos v (group vs) q before after) (s : PairCase q level around before o.payload_pos (group vs) i u)
      → LeafStands s.deeper around s.since s.node_pos u rest l → LeafStands level around before pos v (key k ∷ rest) l
  mapped l tag q k i rest u e high there o s r =
      let inner = r.inner ++ 0 ∷ [] in
      let way : ToLeaf u inner = record { steps = rest; inner = r.inner; node = r.node; leads = r.leads; leaf = l; is_leaf = r.is_leaf; is = refl } in
      record {
        node = r.node;
        inner = 0 ∷ (i ∷ (1 ∷ r.inner));
        leads = leads_key e high there refl refl r.leads;
        is_leaf = r.is_leaf;
        part = r.part;
        payload = r.payload;
        stands = o.stands r.part r.payload (i ∷ (1 ∷ inner)) (s.stands r.part r.payload inner r.stands way);
        own = r.own;
      }

  -- so it is at the rest of the path, wherever a node holds with its value
  abbrev On : List Step → Leaf → Type 0
  On rest l =
      (pos level : ℕ) (around : List OpenShared) (v : Value) (regions : List Region) (before after : List Visit) (t : Tree)
      → NodeValue bytes v → Denotes v t → IsLegal t → Holds node_names bytes level around (part_of node_here pos) v regions before after → node_at t rest ≡ Some (leaf l) → enters t rest ≡ false → LeafStands level around before pos v rest l

  module _ (l : Leaf) {level pos : ℕ} {around : List OpenShared} {v : Value} {regions : List Region} {before after : List Visit} {t : Tree}
      (legal : IsLegal t) (h : Holds node_names bytes level around (part_of node_here pos) v regions before after)
    where
      ends_here : Known bytes v t → node_at t [] ≡ Some (leaf l) → LeafStands level around before pos v [] l
      ends_here (known_leaf m e f) g =
          let same : m ≡ l = cc in
          let o = paid_at pos (leaf_tag m) (payload_of m) e h in
          let p = payload_stands o.payload_pos m o.holds in
          record {
            node = v;
            inner = [];
            leads = leads_here refl refl refl;
            is_leaf = subst (LeafValue v) same e;
            part = p.part;
            payload = p.payload;
            stands = o.stands p.part p.payload [] p.stands;
            own = subst (λ x. LeafOwn x p.part) same p.own;
          }
      ends_here (known_shared e f) g = absurd (cc)
      ends_here (known_none e f) g = absurd (cc)
      ends_here (known_some e f n d) g = absurd (cc)
      ends_here (known_list e f ns ds) g = absurd (cc)
      ends_here (known_ordered e f ns ds) g = absurd (cc)
      ends_here (known_hashed e f ns ds) g = absurd (cc)
      ends_here (known_kept e f ns ds) g = absurd (cc)
      ends_here (known_whole e f n d) g = absurd (cc)

      in_option : (rest : List Step) → On rest l → Known bytes v t → node_at t (inside ∷ rest) ≡ Some (leaf l) → enters t (inside ∷ rest) ≡ false → LeafStands level around before pos v (inside ∷ rest) l
      in_option rest on (known_leaf m e f) g z = let k = subst (λ x. node_at x (inside ∷ rest) ≡ Some (leaf l)) f g in absurd (cc)
      in_option rest on (known_shared e f) g z = let k = subst (λ x. node_at x (inside ∷ rest) ≡ Some (leaf l)) f g in absurd (cc)
      in_option rest on (known_none e f) g z = let k = subst (λ x. node_at x (inside ∷ rest) ≡ Some (leaf l)) f g in absurd (cc)
      in_option rest on (known_some {w = w} {u = u} e f n d) g z =
          let k : node_at u rest ≡ Some (leaf l) = subst (λ x. node_at x (inside ∷ rest) ≡ Some (leaf l)) f g in
          let o = paid_at pos 4 (tagged_value 1 w) e h in
          let s = some_cases bytes o.payload_pos {w = w} refl o.holds in
          let r = on s.node_pos _ _ w s.regions _ _ u n d (subst IsLegal f legal) s.holds k (subst (λ x. enters x (inside ∷ rest) ≡ false) f z) in
          record {
            node = r.node;
            inner = 0 ∷ (0 ∷ r.inner);
            leads = leads_inside e refl refl r.leads;
            is_leaf = r.is_leaf;
            part = r.part;
            payload = r.payload;
            stands = o.stands r.part r.payload (0 ∷ (r.inner ++ 0 ∷ [])) (s.stands r.part r.payload (r.inner ++ 0 ∷ []) r.stands);
            own = r.own;
          }
      in_option rest on (known_list e f ns ds) g z = let k = subst (λ x. node_at x (inside ∷ rest) ≡ Some (leaf l)) f g in absurd (cc)
      in_option rest on (known_ordered e f ns ds) g z = let k = subst (λ x. node_at x (inside ∷ rest) ≡ Some (leaf l)) f g in absurd (cc)
      in_option rest on (known_hashed e f ns ds) g z = let k = subst (λ x. node_at x (inside ∷ rest) ≡ Some (leaf l)) f g in absurd (cc)
      in_option rest on (known_kept e f ns ds) g z = let k = subst (λ x. node_at x (inside ∷ rest) ≡ Some (leaf l)) f g in absurd (cc)
      in_option rest on (known_whole e f n d) g z = let k = subst (λ x. enters x (inside ∷ rest) ≡ false) f z in absurd (cc)

      in_list : (i : ℕ) (rest : List Step) → On rest l → Known bytes v t → node_at t (place i ∷ rest) ≡ Some (leaf l) → enters t (place i ∷ rest) ≡ false → LeafStands level around before pos v (place i ∷ rest) l
      in_list i rest on (known_leaf m e f) g z = let k = subst (λ x. node_at x (place i ∷ rest) ≡ Some (leaf l)) f g in absurd (cc)
      in_list i rest on (known_shared e f) g z = let k = subst (λ x. node_at x (place i ∷ rest) ≡ Some (leaf l)) f g in absurd (cc)
      in_list i rest on (known_none e f) g z = let k = subst (λ x. node_at x (place i ∷ rest) ≡ Some (leaf l)) f g in absurd (cc)
      in_list i rest on (known_some e f n d) g z = let k = subst (λ x. node_at x (place i ∷ rest) ≡ Some (leaf l)) f g in absurd (cc)
      in_list i rest on (known_list {vs = vs} {ts = ts} e f ns ds) g z =
          let k = known_element i rest (leaf l) ns ds (subst IsLegal f legal).0 (subst (λ x. node_at x (place i ∷ rest) ≡ Some (leaf l)) f g) (subst (λ x. enters x (place i ∷ rest) ≡ false) f z) in
          let o = paid_at pos 5 (group vs) e h in
          let s = element_cases bytes o.payload_pos i k.value refl k.there o.holds in
          listed l i rest k.value e k.there o s (on s.node_pos _ _ k.value s.regions s.since s.until k.tree k.node k.denotes k.legal s.holds k.found k.outside)
      in_list i rest on (known_ordered e f ns ds) g z = let k = subst (λ x. node_at x (place i ∷ rest) ≡ Some (leaf l)) f g in absurd (cc)
      in_list i rest on (known_hashed e f ns ds) g z = let k = subst (λ x. node_at x (place i ∷ rest) ≡ Some (leaf l)) f g in absurd (cc)
      in_list i rest on (known_kept e f ns ds) g z = let k = subst (λ x. node_at x (place i ∷ rest) ≡ Some (leaf l)) f g in absurd (cc)
      in_list i rest on (known_whole e f n d) g z = let k = subst (λ x. node_at x (place i ∷ rest) ≡ Some (leaf l)) f g in absurd (cc)

      -- of a map of any kind
      in_pairs : (kind : MapKind) (k : List ℕ) (rest : List Step) {vs : Values} {ps : Pairs} → On rest l
          → v ≡ tagged_value (kind_tag kind) (group vs) → t ≡ map kind (in_order kind ps) → PairValues bytes vs → DenotePairs vs ps
          → node_at t (key k ∷ rest) ≡ Some (leaf l) → enters t (key k ∷ rest) ≡ false → LeafStands level around before pos v (key k ∷ rest) l
      in_pairs kind k rest {vs = vs} {ps = ps} on e f ns ds g z =
          let all = distinct kind [] (in_order kind ps) (subst IsLegal f legal).0 in
          let there = sym (node_in_order kind k rest ps) ∙ subst (λ x. node_at x (key k ∷ rest) ≡ Some (leaf l)) f g in
          let free = sym (enters_in_order kind k rest ps) ∙ subst (λ x. enters x (key k ∷ rest) ≡ false) f z in
          let p = known_pair k rest (leaf l) ns ds (distinct_in_order kind ps all) there free in
          let o = paid_at pos (kind_tag kind) (group vs) e h in
          let s = pair_case kind o.payload_pos p.number k p.value p.there o.holds in
          mapped l (kind_tag kind) (place_of (kind_tag kind)) k p.number rest p.value e (is_high kind) p.there o s
          (on s.node_pos s.deeper around p.value s.regions s.since s.until p.tree p.node p.denotes p.legal s.holds p.found p.outside)

      in_map : (k : List ℕ) (rest : List Step) → On rest l → Known bytes v t → node_at t (key k ∷ rest) ≡ Some (leaf l) → enters t (key k ∷ rest) ≡ false → LeafStands level around before pos v (key k ∷ rest) l
      in_map k rest on (known_leaf m e f) g z = let n = subst (λ x. node_at x (key k ∷ rest) ≡ Some (leaf l)) f g in absurd (cc)
      in_map k rest on (known_shared e f) g z = let n = subst (λ x. node_at x (key k ∷ rest) ≡ Some (leaf l)) f g in absurd (cc)
      in_map k rest on (known_none e f) g z = let n = subst (λ x. node_at x (key k ∷ rest) ≡ Some (leaf l)) f g in absurd (cc)
      in_map k rest on (known_some e f n d) g z = let n = subst (λ x. node_at x (key k ∷ rest) ≡ Some (leaf l)) f g in absurd (cc)
      in_map k rest on (known_list e f ns ds) g z = let n = subst (λ x. node_at x (key k ∷ rest) ≡ Some (leaf l)) f g in absurd (cc)
      in_map k rest on (known_ordered e f ns ds) g z = in_pairs ordered k rest on e f ns ds g z
      in_map k rest on (known_hashed e f ns ds) g z = in_pairs hashed k rest on e f ns ds g z
      in_map k rest on (known_kept e f ns ds) g z = in_pairs kept k rest on e f ns ds g z
      in_map k rest on (known_whole e f n d) g z = let m = subst (λ x. node_at x (key k ∷ rest) ≡ Some (leaf l)) f g in absurd (cc)

  pub leaf_stands : (path : List Step) (l : Leaf) → On path l
  leaf_stands [] l pos level around v regions before after t n d legal h g z = ends_here l legal h (known n d) g
  leaf_stands (inside ∷ rest) l pos level around v regions before after t n d legal h g z = in_option l legal h rest (leaf_stands rest l) (known n d) g z
  leaf_stands (place i ∷ rest) l pos level around v regions before after t n d legal h g z = in_list l legal h i rest (leaf_stands rest l) (known n d) g z
  leaf_stands (key k ∷ rest) l pos level around v regions before after t n d legal h g z = in_map l legal h k rest (leaf_stands rest l) (known n d) g z

pub leaves_stand_law : LeavesStand
leaves_stand_law bytes t path l a g z =
    let pos = root_position (length bytes) node_shape in
    let b = behind_below bytes pos a.root.holds in
    let r = leaf_stands bytes path l pos 1 [] a.value b.regions [] a.visits t (held bytes a.root.holds node_behind pos refl (none_seen bytes)).value a.denotes a.document.0 b.holds g z in
    let stands = b.stands r.part r.payload (r.inner ++ 0 ∷ []) r.stands in
    by_case r.node r.inner r.leads r.part r.payload stands r.own
  where
    by_case : (node : Value) (inner : List ℕ) → LeadsTo a.value path inner node → (part : Part) (payload : Value)
        → Stands node_names bytes part payload 0 [] [] (behind (root_position (length bytes) node_shape) (sized node_shape) 1) a.value (inner ++ 0 ∷ [])
        → LeafOwn bytes l part → OwnBytesStand bytes a.value path (length (own_bytes l))
    by_case node inner leads part payload stands (own_here {start = start} own size) =
        record { start = start; own = record { node = node; inner = inner; leads = leads; part = part; payload = payload; stands = stands; own = subst (λ n. IsOwn bytes start n part) size own } }
    by_case node inner leads part payload stands (own_long {start = start} {len = len} is l_is) =
        let room = leaf_within_law node_names bytes (root_position (length bytes) node_shape) node_shape a.value a.regions a.visits (inner ++ 0 ∷ []) part payload start len a.root stands (out_of_line is) in
        let size : length (own_bytes l) ≡ len = ap (λ x. length (own_bytes x)) l_is ∙ length-window bytes start len room in
        record { start = start; own = record { node = node; inner = inner; leads = leads; part = part; payload = payload; stands = stands; own = own_behind (is ∙ ap (behind start str) (sym size)) } }
