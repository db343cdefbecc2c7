-- The leaf at a path: the position of its node, by the steps of the path, and that of the bytes that encode it.
use Rattle.std.proofs.Common.{◌≡◌, ℕ, ℤ, ◌+◌, Bool, true, false, List, [], ◌∷◌, ◌++◌, length, Some, w64, refl, sym, ap, subst, ◌∙◌, arith, ◌⊎◌, inl, inr}
use Rattle.archive_shape_layout.specs.Bytes.{window, align_up}
use Rattle.archive_shape_layout.specs.Shape.Shape.{truth, number, text, option, box, vector}
use Rattle.archive_shape_layout.specs.Shape.Pointee.{sized, str}
use Rattle.archive_shape_layout.specs.Value.{Value, Values}
use Rattle.archive_shape_layout.specs.Path.{value_in}
use Rattle.archive_shape_layout.specs.Value.Value.{boolean, integer, string, group}
use Rattle.archive_shape_layout.specs.Content.{Part, content_of}
use Rattle.archive_shape_layout.specs.Content.Part.{at, behind}
use Rattle.archive_shape_layout.specs.Content.Label.{written}
use Rattle.archive_shape_layout.specs.Content.Content.{plain}
use Rattle.archive_shape_layout.specs.Holds.{Region, Visit, OpenShared, Holds}
use Rattle.archive_shape.specs.Key.{HeldAt}
use Rattle.archive_shape_layout.specs.Path.{Stands}
use Rattle.archive_shape_layout.specs.Path.Stands.{stands_here}
use Rattle.archive_forms_laws.specs.Text.{LiesAt}
use Rattle.archive_forms_values.specs.Parts.{PointsTo}
use Rattle.cabinet_text_grammar.specs.Keys.{ordered, hashed, kept}
use Rattle.cabinet_text_grammar.specs.Tree as document
use Rattle.cabinet_text_grammar.specs.Tree.{Leaf, Tree, leaf, IsLegal}
use Rattle.cabinet_text_grammar.specs.Path.{Step, key, place, inside, node_at, enters}
use Rattle.cabinet_documents.specs.Node.{node_names, node_shape, KnowsNode}
use Rattle.cabinet_documents.specs.Denotes.{Denotes, pair_value, tagged_value}
use Rattle.cabinet_documents.specs.Order.{arranged}
use Rattle.cabinet_documents.specs.OwnBytes.{LeadsTo, leads_here, leads_inside, leads_place, leads_key}
use Rattle.cabinet_documents.specs.Laws.{payload_of}
use Rattle.cabinet_documents.proofs.Nodes.{NodeValue}
use Rattle.cabinet_documents.proofs.Known.{leaf_tag, LeafValue, Known, known_leaf, known_shared, known_none, known_some, known_list, known_ordered, known_hashed, known_kept, known, known_element, known_pair, known_whole}
use Rattle.cabinet_documents.proofs.ByKey.{distinct, distinct_in_order, node_in_order, enters_in_order}
use Rattle.cabinet_documents.proofs.IndexSteps.{index_node}
use Rattle.cabinet_documents.proofs.TableSteps.{table_node}
use Rattle.archive_btree_spelling.proofs.PairsStand.{tree_pair_stands}
use Rattle.cabinet_documents.proofs.Places.{node_here}
use Rattle.cabinet_documents.proofs.Leading.{ToLeaf}
use Rattle.cabinet_documents.proofs.Avoiding.{avoids}
use Rattle.cabinet_archives.specs.Hashed.{table_shape}
use Rattle.cabinet_archives.specs.Kept.{index_shape}
use Rattle.cabinet_archives.specs.Ordered.{map_shape}
use Rattle.cabinet_archives.specs.Way.{StepsTo, GoesTo, goes_nowhere, goes_on, steps_inside, steps_place, steps_key, steps_hashed, steps_kept}
use Rattle.cabinet_archives.proofs.Standing.{PaidAt, paid_at, tag_is, inside_at, element_at, TextAt, text_inline, text_out, text_at}
use Rattle.cabinet_archives.proofs.Buckets.{pair_bucket}
use Rattle.cabinet_archives.proofs.Entries.{pair_entry}
use Rattle.cabinet_archives.proofs.Numbered.{pair_numbered}
use Rattle.cabinet_archives.proofs.Inner.{map_held, table_held, index_held, inside_held, element_held}

module _ (bytes : List ℕ) where
  -- the part that encodes the leaf of the node at `pos`
  pub data LiesIn (l : Leaf) (pos : ℕ) (part : Part) : Type 0 where
    truth_lies : {b : Bool} → l ≡ document.truth b → part ≡ at (pos + 1) truth → LiesIn l pos part
    number_lies : {n : ℤ} → l ≡ document.number n → part ≡ at (pos + 8) (number w64 true) → LiesIn l pos part
    inline_lies : {s : List ℕ} → l ≡ document.text s → LiesAt bytes (pos + 4) (pos + 4) (length s) → part ≡ at (pos + 4) text → content_of node_names bytes part ≡ plain (written s) [] → LiesIn l pos part
    far_lies : {start len : ℕ} → l ≡ document.text (window bytes start len) → LiesAt bytes (pos + 4) start len → part ≡ behind start str len → LiesIn l pos part

  record LeafPart (level : ℕ) (around : List OpenShared) (before : List Visit) (pos : ℕ) (v : Value) (l : Leaf) : Type 0 where
    part : Part
    payload : Value
    stands : Stands node_names bytes part payload level around before (at pos node_shape) v (0 ∷ [])
    lies : LiesIn l pos part

  leaf_part : (pos : ℕ) (l : Leaf) {level : ℕ} {around : List OpenShared} {v : Value} {regions : List Region} {before after : List Visit}
      → v ≡ tagged_value (leaf_tag l) (payload_of l) → Holds node_names bytes level around (at pos node_shape) v regions before after → LeafPart level around before pos v l
  unfolding align_up
  leaf_part pos (document.truth b) is h =
      let p = paid_at bytes pos 0 (boolean b) is h 1 truth refl refl in
      record { part = at (pos + 1) truth; payload = boolean b; stands = p.stands _ _ [] (stands_here refl refl refl); lies = truth_lies refl refl }
  leaf_part pos (document.number n) is h =
      let p = paid_at bytes pos 1 (integer n) is h 8 (number w64 true) refl refl in
      record { part = at (pos + 8) (number w64 true); payload = integer n; stands = p.stands _ _ [] (stands_here refl refl refl); lies = number_lies refl refl }
  leaf_part pos (document.text s) {level = level} {around = around} {v = v} {before = before} {after = after} is h = by_case (text_at bytes (pos + 4) p.holds)
    where
      p : PaidAt bytes level around pos 4 text v (string s) before after
      p = paid_at bytes pos 2 (string s) is h 4 text refl refl

      by_case : TextAt bytes level around (pos + 4) (string s) before after → LeafPart level around before pos v (document.text s)
      by_case (text_inline {s = u} lies content value) =
          let same : u ≡ s = cc in
          record {
            part = at (pos + 4) text;
            payload = string s;
            stands = p.stands _ _ [] (stands_here refl refl refl);
            lies = inline_lies {s = u} (ap document.text (sym same)) lies refl content;
          }
      by_case (text_out {start = start} {len = len} lies value b) =
          let same : s ≡ window bytes start len = cc in
          record {
            part = behind start str len;
            payload = string s;
            stands = p.stands _ _ [] (b.stands (behind start str len) (string s) [] (stands_here refl refl refl));
            lies = far_lies (ap document.text same) lies refl;
          }

  -- ---- at a path

  pub record LeafFound (level : ℕ) (around : List OpenShared) (before : List Visit) (pos : ℕ) (v : Value) (path : List Step) (l : Leaf) : Type 0 where
    pub to : ℕ
    pub way : GoesTo bytes pos path to
    pub node : Value
    pub inner : List ℕ
    pub leads : LeadsTo v path inner node
    pub is_leaf : LeafValue node l
    pub part : Part
    pub payload : Value
    pub stands : Stands node_names bytes part payload level around before (at pos node_shape) v (inner ++ 0 ∷ [])
    pub lies : LiesIn l to part

  -- through pair i of a map
  mapped : (l : Leaf) {level pos deeper : ℕ} {around : List OpenShared} {v : Value} {vs : Values} {before since : List Visit} (tag : ℕ) (k : List ℕ) (i : ℕ) (rest : List Step) (u : Value)
      → v ≡ tagged_value tag (group vs) → (tag ≡ 6) ⊎ ((tag ≡ 7) ⊎ (tag ≡ 8)) → value_in i vs ≡ Some (pair_value k u) → (next : ℕ) → StepsTo bytes pos (key k) next → (r : LeafFound deeper around since next u rest l)
      → (ToLeaf u (r.inner ++ 0 ∷ []) → Stands node_names bytes r.part r.payload deeper around since (at next node_shape) u (r.inner ++ 0 ∷ [])
      → Stands node_names bytes r.part r.payload level around before (at pos node_shape) v (0 ∷ (i ∷ (1 ∷ (r.inner ++ 0 ∷ [])))))
      → LeafFound level around before pos v (key k ∷ rest) l
  mapped l tag k i rest u e high there next steps r stand = record {
    to = r.to;
    way = goes_on refl steps r.way;
    node = r.node;
    inner = 0 ∷ (i ∷ (1 ∷ r.inner));
    leads = leads_key e high there refl refl r.leads;
    is_leaf = r.is_leaf;
    part = r.part;
    payload = r.payload;
    stands = stand (record { steps = rest; inner = r.inner; node = r.node; leads = r.leads; leaf = l; is_leaf = r.is_leaf; is = refl }) r.stands;
    lies = r.lies;
  }

  -- so it is at the rest of the path, wherever a node holds with its value
  abbrev On : List Step → Leaf → Type 0
  On rest l =
      (pos level : ℕ) (around : List OpenShared) (v : Value) (regions : List Region) (before after : List Visit) (t : Tree)
      → NodeValue bytes v → Denotes v t → IsLegal t → Holds node_names bytes level around (at pos node_shape) v regions before after → HeldAt node_shape KnowsNode bytes pos v → node_at t rest ≡ Some (leaf l) → enters t rest ≡ false
      → LeafFound level around before pos v rest l

  module _ (l : Leaf) {level pos : ℕ} {around : List OpenShared} {v : Value} {regions : List Region} {before after : List Visit} {t : Tree}
      (legal : IsLegal t) (h : Holds node_names bytes level around (at pos node_shape) v regions before after) (there : HeldAt node_shape KnowsNode bytes pos v)
    where
      ends_here : Known bytes v t → node_at t [] ≡ Some (leaf l) → LeafFound level around before pos v [] l
      ends_here (known_leaf m e f) g =
          let same : m ≡ l = cc in
          let p = leaf_part pos m e h in
          record {
            to = pos;
            way = goes_nowhere refl refl;
            node = v;
            inner = [];
            leads = leads_here refl refl refl;
            is_leaf = subst (LeafValue v) same e;
            part = p.part;
            payload = p.payload;
            stands = p.stands;
            lies = subst (λ x. LiesIn x pos p.part) same p.lies;
          }
      ends_here (known_shared e f) g = absurd (cc)
      ends_here (known_none e f) g = absurd (cc)
      ends_here (known_some e f n d) g = absurd (cc)
      ends_here (known_list e f ns ds) g = absurd (cc)
      ends_here (known_ordered e f ns ds) g = absurd (cc)
      ends_here (known_hashed e f ns ds) g = absurd (cc)
      ends_here (known_kept e f ns ds) g = absurd (cc)
      ends_here (known_whole e f n d) g = absurd (cc)

      in_option : (rest : List Step) → On rest l → Known bytes v t → node_at t (inside ∷ rest) ≡ Some (leaf l) → enters t (inside ∷ rest) ≡ false → LeafFound level around before pos v (inside ∷ rest) l
      unfolding align_up
      in_option rest on (known_leaf m e f) g o = let k = subst (λ x. node_at x (inside ∷ rest) ≡ Some (leaf l)) f g in absurd (cc)
      in_option rest on (known_shared e f) g o = let k = subst (λ x. node_at x (inside ∷ rest) ≡ Some (leaf l)) f g in absurd (cc)
      in_option rest on (known_none e f) g o = let k = subst (λ x. node_at x (inside ∷ rest) ≡ Some (leaf l)) f g in absurd (cc)
      in_option rest on (known_some {w = w} {u = u} e f n d) g o =
          let k : node_at u rest ≡ Some (leaf l) = subst (λ x. node_at x (inside ∷ rest) ≡ Some (leaf l)) f g in
          let p = paid_at bytes pos 4 (tagged_value 1 w) e h 4 (option (box (sized node_shape))) refl refl in
          let s = inside_at bytes (pos + 4) w refl p.holds in
          let eight : pos + 4 + 4 ≡ pos + 8 = omega arith in
          let points = subst (λ n. PointsTo bytes n s.to) eight s.points in
          let r = on s.to _ _ w s.regions _ _ u n d (subst IsLegal f legal) s.holds (inside_held bytes pos v there w s.to e (tag_is bytes pos 4 (tagged_value 1 w) e h) points) k (subst (λ x. enters x (inside ∷ rest) ≡ false) f o) in
          record {
            to = r.to;
            way = goes_on {to = r.to} refl (steps_inside refl (tag_is bytes pos 4 (tagged_value 1 w) e h) points) r.way;
            node = r.node;
            inner = 0 ∷ (0 ∷ r.inner);
            leads = leads_inside {more = r.inner} e refl refl r.leads;
            is_leaf = r.is_leaf;
            part = r.part;
            payload = r.payload;
            stands = p.stands r.part r.payload (0 ∷ (r.inner ++ 0 ∷ [])) (s.stands r.part r.payload (r.inner ++ 0 ∷ []) r.stands);
            lies = r.lies;
          }
      in_option rest on (known_list e f ns ds) g o = let k = subst (λ x. node_at x (inside ∷ rest) ≡ Some (leaf l)) f g in absurd (cc)
      in_option rest on (known_ordered e f ns ds) g o = let k = subst (λ x. node_at x (inside ∷ rest) ≡ Some (leaf l)) f g in absurd (cc)
      in_option rest on (known_hashed e f ns ds) g o = let k = subst (λ x. node_at x (inside ∷ rest) ≡ Some (leaf l)) f g in absurd (cc)
      in_option rest on (known_kept e f ns ds) g o = let k = subst (λ x. node_at x (inside ∷ rest) ≡ Some (leaf l)) f g in absurd (cc)
      in_option rest on (known_whole e f n d) g o = let both : true ≡ false = sym (ap (λ x. enters x (inside ∷ rest)) f) ∙ o in absurd (cc)

      in_list : (i : ℕ) (rest : List Step) → On rest l → Known bytes v t → node_at t (place i ∷ rest) ≡ Some (leaf l) → enters t (place i ∷ rest) ≡ false → LeafFound level around before pos v (place i ∷ rest) l
      unfolding align_up
      in_list i rest on (known_leaf m e f) g o = let k = subst (λ x. node_at x (place i ∷ rest) ≡ Some (leaf l)) f g in absurd (cc)
      in_list i rest on (known_shared e f) g o = let k = subst (λ x. node_at x (place i ∷ rest) ≡ Some (leaf l)) f g in absurd (cc)
      in_list i rest on (known_none e f) g o = let k = subst (λ x. node_at x (place i ∷ rest) ≡ Some (leaf l)) f g in absurd (cc)
      in_list i rest on (known_some e f n d) g o = let k = subst (λ x. node_at x (place i ∷ rest) ≡ Some (leaf l)) f g in absurd (cc)
      in_list i rest on (known_list {vs = vs} {ts = ts} e f ns ds) g o =
          let k = known_element i rest (leaf l) ns ds (subst IsLegal f legal).0 (subst (λ x. node_at x (place i ∷ rest) ≡ Some (leaf l)) f g) (subst (λ x. enters x (place i ∷ rest) ≡ false) f o) in
          let p = paid_at bytes pos 5 (group vs) e h 4 (vector node_shape) refl refl in
          let s = element_at bytes (pos + 4) i k.value vs refl k.there p.holds in
          let held = element_held bytes pos v there vs i s.first k.value e (tag_is bytes pos 5 (group vs) e h) s.points k.there in
          let r = on _ _ _ k.value s.regions s.since s.until k.tree k.node k.denotes k.legal s.holds held k.found k.outside in
          record {
            to = r.to;
            way = goes_on {to = r.to} refl (steps_place refl s.points refl) r.way;
            node = r.node;
            inner = 0 ∷ (i ∷ r.inner);
            leads = leads_place {w = r.node} {inner = 0 ∷ (i ∷ r.inner)} {more = r.inner} e k.there refl (refl {a = 0 ∷ (i ∷ r.inner)}) r.leads;
            is_leaf = r.is_leaf;
            part = r.part;
            payload = r.payload;
            stands = p.stands r.part r.payload (i ∷ (r.inner ++ 0 ∷ [])) (s.stands r.part r.payload (r.inner ++ 0 ∷ []) r.stands);
            lies = r.lies;
          }
      in_list i rest on (known_ordered e f ns ds) g o = let k = subst (λ x. node_at x (place i ∷ rest) ≡ Some (leaf l)) f g in absurd (cc)
      in_list i rest on (known_hashed e f ns ds) g o = let k = subst (λ x. node_at x (place i ∷ rest) ≡ Some (leaf l)) f g in absurd (cc)
      in_list i rest on (known_kept e f ns ds) g o = let k = subst (λ x. node_at x (place i ∷ rest) ≡ Some (leaf l)) f g in absurd (cc)
      in_list i rest on (known_whole e f n d) g o = let k = subst (λ x. node_at x (place i ∷ rest) ≡ Some (leaf l)) f g in absurd (cc)

      in_map : (k : List ℕ) (rest : List Step) → On rest l → Known bytes v t → node_at t (key k ∷ rest) ≡ Some (leaf l) → enters t (key k ∷ rest) ≡ false → LeafFound level around before pos v (key k ∷ rest) l
      unfolding align_up
      in_map k rest on (known_leaf m e f) g o = let n = subst (λ x. node_at x (key k ∷ rest) ≡ Some (leaf l)) f g in absurd (cc)
      in_map k rest on (known_shared e f) g o = let n = subst (λ x. node_at x (key k ∷ rest) ≡ Some (leaf l)) f g in absurd (cc)
      in_map k rest on (known_none e f) g o = let n = subst (λ x. node_at x (key k ∷ rest) ≡ Some (leaf l)) f g in absurd (cc)
      in_map k rest on (known_some e f n d) g o = let n = subst (λ x. node_at x (key k ∷ rest) ≡ Some (leaf l)) f g in absurd (cc)
      in_map k rest on (known_list e f ns ds) g o = let n = subst (λ x. node_at x (key k ∷ rest) ≡ Some (leaf l)) f g in absurd (cc)
      in_map k rest on (known_ordered {vs = vs} {ps = ps} e f ns ds) g free =
          let each = distinct ordered [] ps (subst IsLegal f legal).0 in
          let p = known_pair k rest (leaf l) ns ds each (subst (λ x. node_at x (key k ∷ rest) ≡ Some (leaf l)) f g) (subst (λ x. enters x (key k ∷ rest) ≡ false) f free) in
          let o = paid_at bytes pos 6 (group vs) e h 4 map_shape refl refl in
          let s = tree_pair_stands o.holds p.number (string k) p.value p.there in
          let tag = tag_is bytes pos 6 (group vs) e h in
          let x = pair_entry bytes (pos + 4) vs (map_held bytes pos v there (group vs) e tag) k p.number s.value_pos p.value p.there p.first s.item in
          let r = on s.value_pos s.deeper around p.value s.regions s.since s.until p.tree p.node p.denotes p.legal s.holds x.held p.found p.outside in
          mapped l 6 k p.number rest p.value e (inl refl) p.there s.value_pos (steps_key refl tag x.entry) r
          (λ way stands. o.stands r.part r.payload (p.number ∷ (1 ∷ (r.inner ++ 0 ∷ []))) (s.stands r.part r.payload (r.inner ++ 0 ∷ []) (record { stands = stands; spares = avoids bytes stands node_here s.value_pos refl way })).stands)
      in_map k rest on (known_hashed {vs = vs} {ps = ps} e f ns ds) g free =
          let all = distinct hashed [] (arranged ps) (subst IsLegal f legal).0 in
          let at_key = sym (node_in_order hashed k rest ps) ∙ subst (λ x. node_at x (key k ∷ rest) ≡ Some (leaf l)) f g in
          let p = known_pair k rest (leaf l) ns ds (distinct_in_order hashed ps all) at_key (sym (enters_in_order hashed k rest ps) ∙ subst (λ x. enters x (key k ∷ rest) ≡ false) f free) in
          let o = paid_at bytes pos 7 (group vs) e h 4 table_shape refl refl in
          let s = table_node bytes (pos + 4) p.number k p.value refl p.there o.holds in
          let tag = tag_is bytes pos 7 (group vs) e h in
          let x = pair_bucket bytes (pos + 4) vs (table_held bytes pos v there (group vs) e tag) k p.number s.pair_pos s.node_pos p.value p.there p.first s.is_pair s.behind_key in
          let r = on s.node_pos s.deeper around p.value s.regions s.since s.until p.tree p.node p.denotes p.legal s.holds x.held p.found p.outside in
          mapped l 7 k p.number rest p.value e (inr (inl refl)) p.there s.node_pos (steps_hashed refl tag x.bucket) r
          (λ way stands. o.stands r.part r.payload (p.number ∷ (1 ∷ (r.inner ++ 0 ∷ []))) (s.stands r.part r.payload (r.inner ++ 0 ∷ []) stands))
      in_map k rest on (known_kept {vs = vs} {ps = ps} e f ns ds) g free =
          let each = distinct kept [] ps (subst IsLegal f legal).0 in
          let p = known_pair k rest (leaf l) ns ds each (subst (λ x. node_at x (key k ∷ rest) ≡ Some (leaf l)) f g) (subst (λ x. enters x (key k ∷ rest) ≡ false) f free) in
          let o = paid_at bytes pos 8 (group vs) e h 4 index_shape refl refl in
          let s = index_node bytes (pos + 4) p.number k p.value refl p.there o.holds in
          let tag = tag_is bytes pos 8 (group vs) e h in
          let x = pair_numbered bytes (pos + 4) vs (index_held bytes pos v there (group vs) e tag) k p.number s.pair_pos s.node_pos p.value p.there p.first s.is_pair s.behind_key in
          let r = on s.node_pos s.deeper around p.value s.regions s.since s.until p.tree p.node p.denotes p.legal s.holds x.held p.found p.outside in
          mapped l 8 k p.number rest p.value e (inr (inr refl)) p.there s.node_pos (steps_kept refl tag x.numbered) r
          (λ way stands. o.stands r.part r.payload (p.number ∷ (1 ∷ (r.inner ++ 0 ∷ []))) (s.stands r.part r.payload (r.inner ++ 0 ∷ []) stands))
      in_map k rest on (known_whole e f n d) g o = let m = subst (λ x. node_at x (key k ∷ rest) ≡ Some (leaf l)) f g in absurd (cc)

  pub leaf_found : (path : List Step) (l : Leaf) → On path l
  leaf_found [] l pos level around v regions before after t n d legal h there g o = ends_here l legal h there (known n d) g
  leaf_found (inside ∷ rest) l pos level around v regions before after t n d legal h there g o = in_option l legal h there rest (leaf_found rest l) (known n d) g o
  leaf_found (place i ∷ rest) l pos level around v regions before after t n d legal h there g o = in_list l legal h there i rest (leaf_found rest l) (known n d) g o
  leaf_found (key k ∷ rest) l pos level around v regions before after t n d legal h there g o = in_map l legal h there k rest (leaf_found rest l) (known n d) g o
