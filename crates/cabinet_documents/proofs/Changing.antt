-- Putting a leaf in a node's value puts it in the document.
use Rattle.std.proofs.Common.{◌≡◌, ℕ, ℤ, Bool, zero, suc, true, false, cond, List, [], ◌∷◌, ◌++◌, Option, Some, refl, sym, ap, subst, ◌∙◌, ◌<◌, arith, ◌⊎◌, inl, inr, ◌≢◌}
use Rattle.std.specs.Str.{bytes_eq}
use Rattle.archive_shape_layout.specs.Value.{Value, Values}
use Rattle.archive_shape_layout.specs.Value.Value.{boolean, integer, string, group, counted}
use Rattle.archive_shape_layout.specs.Value.Values.{no_values}
use Rattle.archive_shape_layout.specs.Path.{put_at, value_in}
use Rattle.archive_shape_layout.specs.Path as layout
use Rattle.cabinet_text_grammar.specs.Keys.{MapKind, ordered, hashed, kept}
use Rattle.cabinet_text_grammar.specs.Tree.{Leaf, truth, number, text}
use Rattle.cabinet_text_grammar.specs.Path.{Step, key, place, inside}
use Rattle.cabinet_text_grammar.specs.Answering.{fits}
use Rattle.cabinet_text_grammar.specs.Tree.{Tree, Trees, Pairs, leaf, just, list, map, whole, IsLegal, AreLegal}
use Rattle.cabinet_text_grammar.specs.Path.{node_at, node_in, node_by}
use Rattle.cabinet_text_grammar.specs.Answering.{change, change_in, change_by}
use Rattle.cabinet_documents.specs.Denotes.{Denotes, DenoteAll, DenotePairs, tagged_value, pair_value}
use Rattle.cabinet_documents.specs.Denotes.Denotes.{denotes_truth, denotes_number, denotes_text, denotes_shared, denotes_nothing, denotes_some, denotes_list, denotes_ordered, denotes_hashed, denotes_kept, denotes_whole}
use Rattle.cabinet_documents.specs.Denotes.DenoteAll.{denote_none, denote_more}
use Rattle.cabinet_documents.specs.Denotes.DenotePairs.{denote_no_pairs, denote_pair}
use Rattle.cabinet_documents.specs.OwnBytes.{LeadsTo, leads_here, leads_inside, leads_place, leads_key}
use Rattle.cabinet_documents.specs.Laws.{payload_of, LeafPut}
use Rattle.cabinet_documents.proofs.ByKey.{change_here, change_past, node_here, node_past, keys_same, keys_differ, Lacks, AreDistinct, distinct, in_order, distinct_in_order, node_in_order, change_in_order}

fitting : (old new : Leaf) → fits old new ≡ true → (v : Value) → Denotes v (leaf new) → Denotes v (cond (fits old new) (leaf new) (leaf old))
fitting old new h v d = subst (λ c. Denotes v (cond c (leaf new) (leaf old))) (sym h) d

truth_put : (new : Leaf) (b : Bool) → fits (truth b) new ≡ true → Denotes (tagged_value 0 (payload_of new)) (cond (fits (truth b) new) (leaf new) (leaf (truth b)))
truth_put (truth c) b h = denotes_truth {b = c} refl refl
truth_put (number n) b h = absurd (cc)
truth_put (text s) b h = absurd (cc)

number_put : (new : Leaf) (n : ℤ) → fits (number n) new ≡ true → Denotes (tagged_value 1 (payload_of new)) (cond (fits (number n) new) (leaf new) (leaf (number n)))
number_put (truth c) n h = absurd (cc)
number_put (number m) n h = denotes_number {n = m} refl refl
number_put (text s) n h = absurd (cc)

text_put : (new : Leaf) (s : List ℕ) → fits (text s) new ≡ true → Denotes (tagged_value 2 (payload_of new)) (cond (fits (text s) new) (leaf new) (leaf (text s)))
text_put (truth c) s h = absurd (cc)
text_put (number n) s h = absurd (cc)
text_put (text u) s h = fitting (text s) (text u) h (tagged_value 2 (string u)) (denotes_text {s = u} refl refl)

-- the document that the value of a some, of a list and of a map denotes
pub record IsSome' (u : Value) (t : Tree) : Type 0 where
  pub inner : Tree
  pub is : t ≡ just inner
  pub denotes : Denotes u inner

pub of_some : {v u : Value} {t : Tree} → v ≡ tagged_value 4 (tagged_value 1 u) → Denotes v t → IsSome' u t
of_some g (denotes_truth e f) = absurd (cc)
of_some g (denotes_number e f) = absurd (cc)
of_some g (denotes_text e f) = absurd (cc)
of_some g (denotes_shared e f) = absurd (cc)
of_some g (denotes_nothing e f) = absurd (cc)
of_some {u = u} g (denotes_some {w = w} {u = x} e f k) = let same : w ≡ u = cc in record { inner = x; is = f; denotes = subst (λ y. Denotes y x) same k }
of_some g (denotes_list e f k) = absurd (cc)
of_some g (denotes_ordered e f k) = absurd (cc)
of_some g (denotes_hashed e f k) = absurd (cc)
of_some g (denotes_kept e f k) = absurd (cc)
of_some g (denotes_whole e f k) = absurd (cc)

pub record IsList (vs : Values) (t : Tree) : Type 0 where
  pub elements : Trees
  pub is : t ≡ list elements
  pub denotes : DenoteAll vs elements

pub of_list : {v : Value} {vs : Values} {t : Tree} → v ≡ tagged_value 5 (group vs) → Denotes v t → IsList vs t
of_list g (denotes_truth e f) = absurd (cc)
of_list g (denotes_number e f) = absurd (cc)
of_list g (denotes_text e f) = absurd (cc)
of_list g (denotes_shared e f) = absurd (cc)
of_list g (denotes_nothing e f) = absurd (cc)
of_list g (denotes_some e f k) = absurd (cc)
of_list {vs = vs} g (denotes_list {vs = ws} {ts = ts} e f k) = let same : ws ≡ vs = cc in record { elements = ts; is = f; denotes = subst (λ y. DenoteAll y ts) same k }
of_list g (denotes_ordered e f k) = absurd (cc)
of_list g (denotes_hashed e f k) = absurd (cc)
of_list g (denotes_kept e f k) = absurd (cc)
of_list g (denotes_whole e f k) = absurd (cc)

pub record IsWhole (u : Value) (t : Tree) : Type 0 where
  pub inner : Tree
  pub is : t ≡ whole inner
  pub denotes : Denotes u inner

pub of_whole : {v u : Value} {at : ℕ} {t : Tree} → v ≡ tagged_value 9 (counted at u) → Denotes v t → IsWhole u t
of_whole g (denotes_truth e f) = absurd (cc)
of_whole g (denotes_number e f) = absurd (cc)
of_whole g (denotes_text e f) = absurd (cc)
of_whole g (denotes_shared e f) = absurd (cc)
of_whole g (denotes_nothing e f) = absurd (cc)
of_whole g (denotes_some e f k) = absurd (cc)
of_whole g (denotes_list e f k) = absurd (cc)
of_whole g (denotes_ordered e f k) = absurd (cc)
of_whole g (denotes_hashed e f k) = absurd (cc)
of_whole g (denotes_kept e f k) = absurd (cc)
of_whole {u = u} g (denotes_whole {w = w} {u = x} e f k) = let same : w ≡ u = cc in record { inner = x; is = f; denotes = subst (λ y. Denotes y x) same k }

-- the tag of each kind of map, which is none of the others
abbrev pub kind_tag : MapKind → ℕ
kind_tag ordered = 6
kind_tag hashed = 7
kind_tag kept = 8

pub high_tag : (tag n : ℕ) → tag ≡ n → (n ≡ 6) ⊎ ((n ≡ 7) ⊎ (n ≡ 8)) → tag < 6 → ⊥
high_tag tag n e (inl a) h = omega arith
high_tag tag n e (inr (inl a)) h = omega arith
high_tag tag n e (inr (inr a)) h = omega arith

pub is_high : (kind : MapKind) → (kind_tag kind ≡ 6) ⊎ ((kind_tag kind ≡ 7) ⊎ (kind_tag kind ≡ 8))
is_high ordered = inl refl
is_high hashed = inr (inl refl)
is_high kept = inr (inr refl)

-- a map by its kind, which has the pairs in the order of its kind
pub record IsMap (kind : MapKind) (vs : Values) (t : Tree) : Type 0 where
  pub pairs : Pairs
  pub is : t ≡ map kind (in_order kind pairs)
  pub denotes : DenotePairs vs pairs

pub denotes_map : (kind : MapKind) (vs : Values) (ps : Pairs) → DenotePairs vs ps → Denotes (tagged_value (kind_tag kind) (group vs)) (map kind (in_order kind ps))
denotes_map ordered vs ps d = denotes_ordered refl refl d
denotes_map hashed vs ps d = denotes_hashed refl refl d
denotes_map kept vs ps d = denotes_kept refl refl d

-- by its tag
pub record IsTaggedMap (tag : ℕ) (vs : Values) (t : Tree) : Type 0 where
  pub kind : MapKind
  pub tagged : kind_tag kind ≡ tag
  pub is_map : IsMap kind vs t

pub of_map : {v : Value} {tag : ℕ} {vs : Values} {t : Tree} → v ≡ tagged_value tag (group vs) → (tag ≡ 6) ⊎ ((tag ≡ 7) ⊎ (tag ≡ 8)) → Denotes v t → IsTaggedMap tag vs t
of_map g high (denotes_truth e f) = absurd (cc)
of_map g high (denotes_number e f) = absurd (cc)
of_map g high (denotes_text e f) = absurd (cc)
of_map g high (denotes_shared e f) = absurd (cc)
of_map g high (denotes_nothing e f) = absurd (cc)
of_map g high (denotes_some e f k) = absurd (cc)
of_map {tag = tag} g high (denotes_list e f k) = let low : 5 ≡ tag = cc in absurd (high_tag 5 tag low high (omega arith))
of_map {vs = vs} g high (denotes_ordered {vs = ws} {ps = ps} e f k) = let same : ws ≡ vs = cc in record { kind = ordered; tagged = cc; is_map = record { pairs = ps; is = f; denotes = subst (λ y. DenotePairs y ps) same k } }
of_map {vs = vs} g high (denotes_hashed {vs = ws} {ps = ps} e f k) = let same : ws ≡ vs = cc in record { kind = hashed; tagged = cc; is_map = record { pairs = ps; is = f; denotes = subst (λ y. DenotePairs y ps) same k } }
of_map {vs = vs} g high (denotes_kept {vs = ws} {ps = ps} e f k) = let same : ws ≡ vs = cc in record { kind = kept; tagged = cc; is_map = record { pairs = ps; is = f; denotes = subst (λ y. DenotePairs y ps) same k } }
of_map g high (denotes_whole e f k) = absurd (cc)

one_kind : (kind other : MapKind) → kind_tag kind ≡ kind_tag other → kind ≡ other
one_kind ordered ordered e = refl
one_kind ordered hashed e = absurd (cc)
one_kind ordered kept e = absurd (cc)
one_kind hashed ordered e = absurd (cc)
one_kind hashed hashed e = refl
one_kind hashed kept e = absurd (cc)
one_kind kept ordered e = absurd (cc)
one_kind kept hashed e = absurd (cc)
one_kind kept kept e = refl

of_kind : (kind : MapKind) {v : Value} {vs : Values} {t : Tree} → v ≡ tagged_value (kind_tag kind) (group vs) → Denotes v t → IsMap kind vs t
of_kind kind {vs = vs} {t = t} g d = let m = of_map g (is_high kind) d in subst (λ k. IsMap k vs t) (one_kind m.kind kind m.tagged) m.is_map

pub of_ordered : {v : Value} {vs : Values} {t : Tree} → v ≡ tagged_value 6 (group vs) → Denotes v t → IsMap ordered vs t
of_ordered g d = of_kind ordered g d

pub of_hashed : {v : Value} {vs : Values} {t : Tree} → v ≡ tagged_value 7 (group vs) → Denotes v t → IsMap hashed vs t
of_hashed g d = of_kind hashed g d

pub of_kept : {v : Value} {vs : Values} {t : Tree} → v ≡ tagged_value 8 (group vs) → Denotes v t → IsMap kept vs t
of_kept g d = of_kind kept g d

-- ---- a leaf put where one is

module _ (new : Leaf) where
  -- a leaf put in a value at a path is put in the document
  abbrev pub Put : Value → List Step → List ℕ → Tree → Type 0
  Put v path inner t = Denotes (put_at (inner ++ 0 ∷ []) (payload_of new) v) (change t path new)

  put_here : {v : Value} {t : Tree} → Denotes v t → (old : Leaf) → t ≡ leaf old → fits old new ≡ true → Put v [] [] t
  put_here (denotes_truth {v = v} {t = t} {b = b} e f) old g h =
      let eo : old ≡ truth b = cc in
      subst (λ x. Put x [] [] t) (sym e) (subst (λ x. Put (tagged_value 0 (boolean b)) [] [] x) (sym f) (truth_put new b (subst (λ o. fits o new ≡ true) eo h)))
  put_here (denotes_number {v = v} {t = t} {n = n} e f) old g h =
      let eo : old ≡ number n = cc in
      subst (λ x. Put x [] [] t) (sym e) (subst (λ x. Put (tagged_value 1 (integer n)) [] [] x) (sym f) (number_put new n (subst (λ o. fits o new ≡ true) eo h)))
  put_here (denotes_text {v = v} {t = t} {s = s} e f) old g h =
      let eo : old ≡ text s = cc in
      subst (λ x. Put x [] [] t) (sym e) (subst (λ x. Put (tagged_value 2 (string s)) [] [] x) (sym f) (text_put new s (subst (λ o. fits o new ≡ true) eo h)))
  put_here (denotes_shared e f) old g h = absurd (cc)
  put_here (denotes_nothing e f) old g h = absurd (cc)
  put_here (denotes_some e f k) old g h = absurd (cc)
  put_here (denotes_list e f k) old g h = absurd (cc)
  put_here (denotes_ordered e f k) old g h = absurd (cc)
  put_here (denotes_hashed e f k) old g h = absurd (cc)
  put_here (denotes_kept e f k) old g h = absurd (cc)
  put_here (denotes_whole e f k) old g h = absurd (cc)

-- ---- what a path leads to

-- a key that a pair has is not one that all lack
other_key : {vs : Values} {ps : Pairs} (i : ℕ) (k l : List ℕ) (u : Value) → DenotePairs vs ps → value_in i vs ≡ Some (pair_value k u) → Lacks l ps → k ≢ l
other_key i k l u (denote_no_pairs e f) g h same =
    let none : value_in i no_values ≡ Some (pair_value k u) = ap (value_in i) (sym e) ∙ g in
    cc
other_key zero k l u (denote_pair {k = m} {v = v} e f d rest) g h same =
    let here : ◌≡◌ {A = Option Value} (Some (pair_value m v)) (Some (pair_value k u)) = ap (value_in zero) (sym e) ∙ g in
    let keys : m ≡ k = cc in
    (subst (Lacks l) f h).0 (keys ∙ same)
other_key (suc i) k l u (denote_pair e f d rest) g h same = other_key i k l u rest (ap (value_in (suc i)) (sym e) ∙ g) (subst (Lacks l) f h).1 same

module _ (w : Value) (s : Tree) where
  -- a path leads to a node's value in a value and to its document in the document; and a leaf put in the one is that
  -- leaf put in the other
  pub record Reaches (v : Value) (path : List Step) (inner : List ℕ) (t : Tree) : Type 0 where
    pub there : Denotes w s
    pub put : (new : Leaf) → Put new w [] [] s → Put new v path inner t

  -- likewise in a value of a list
  record ReachesIn (vs : Values) (i : ℕ) (path : List Step) (inner : List ℕ) (ts : Trees) : Type 0 where
    there : Denotes w s
    put : (new : Leaf) → Put new w [] [] s → DenoteAll (layout.change_in i (λ x. put_at (inner ++ 0 ∷ []) (payload_of new) x) vs) (change_in ts i path new)

  -- and in the value of a pair, which is the second of two
  record ReachesBy (vs : Values) (i : ℕ) (k : List ℕ) (path : List Step) (inner : List ℕ) (ps : Pairs) : Type 0 where
    there : Denotes w s
    put : (new : Leaf) → Put new w [] [] s → DenotePairs (layout.change_in i (λ x. put_at (1 ∷ (inner ++ 0 ∷ [])) (payload_of new) x) vs) (change_by ps k path new)

  moved : {v v' : Value} {path path' : List Step} {inner inner' : List ℕ} {t t' : Tree}
      → v ≡ v' → path ≡ path' → inner ≡ inner' → t ≡ t' → Reaches v' path' inner' t' → Reaches v path inner t
  moved {v' = v'} {path = path} {path' = path'} {inner = inner} {inner' = inner'} {t = t} a b c d h =
      subst (λ x. Reaches x path inner t) (sym a) (subst (λ x. Reaches v' x inner t) (sym b) (subst (λ x. Reaches v' path' x t) (sym c) (subst (Reaches v' path' inner') (sym d) h)))

  -- it is so at the rest of the path
  abbrev Onward : Value → List Step → List ℕ → Type 0
  Onward u path inner = (t : Tree) → IsLegal t → Denotes u t → node_at t path ≡ Some s → Reaches u path inner t

  in_list :
      {vs : Values} {ts : Trees} (i : ℕ) (u : Value) (path : List Step) (inner : List ℕ)
      → DenoteAll vs ts → AreLegal ts → value_in i vs ≡ Some u → node_in ts i path ≡ Some s → Onward u path inner → ReachesIn vs i path inner ts
  in_list i u path inner (denote_none e f) legal g h on =
      let none : value_in i no_values ≡ Some u = ap (value_in i) (sym e) ∙ g in
      absurd (cc)
  in_list zero u path inner (denote_more {v = v} {t = t} e f d k) legal g h on =
      let here : ◌≡◌ {A = Option Value} (Some v) (Some u) = ap (value_in zero) (sym e) ∙ g in
      let same : u ≡ v = cc in
      let r = on t (subst AreLegal f legal).0 (subst (λ x. Denotes x t) (sym same) d) (ap (λ x. node_in x zero path) (sym f) ∙ h) in
      record {
        there = r.there;
        put = λ new p. denote_more
            (ap (layout.change_in zero (λ x. put_at (inner ++ 0 ∷ []) (payload_of new) x)) e) (ap (λ x. change_in x zero path new) f)
            (subst (λ x. Put new x path inner t) same (r.put new p)) k;
      }
  in_list (suc i) u path inner (denote_more e f d k) legal g h on =
      let r = in_list i u path inner k (subst AreLegal f legal).1 (ap (value_in (suc i)) (sym e) ∙ g) (ap (λ x. node_in x (suc i) path) (sym f) ∙ h) on in
      record {
        there = r.there;
        put = λ new p. denote_more
            (ap (layout.change_in (suc i) (λ x. put_at (inner ++ 0 ∷ []) (payload_of new) x)) e) (ap (λ x. change_in x (suc i) path new) f) d (r.put new p);
      }

  by_key :
      {vs : Values} {ps : Pairs} (i : ℕ) (k : List ℕ) (u : Value) (path : List Step) (inner : List ℕ)
      → DenotePairs vs ps → AreDistinct ps → value_in i vs ≡ Some (pair_value k u) → node_by ps k path ≡ Some s → Onward u path inner → ReachesBy vs i k path inner ps
  by_key i k u path inner (denote_no_pairs e f) legal g h on =
      let none : value_in i no_values ≡ Some (pair_value k u) = ap (value_in i) (sym e) ∙ g in
      absurd (cc)
  by_key zero k u path inner (denote_pair {k = l} {v = v} {t = t} {ps = ps} e f d rest) legal g h on =
      let here : ◌≡◌ {A = Option Value} (Some (pair_value l v)) (Some (pair_value k u)) = ap (value_in zero) (sym e) ∙ g in
      let same : u ≡ v = cc in
      let keys : bytes_eq l k ≡ true = keys_same l k (cc) in
      let r = on t (subst AreDistinct f legal).1 (subst (λ x. Denotes x t) (sym same) d) (sym (node_here l t ps k path keys) ∙ ap (λ x. node_by x k path) (sym f) ∙ h) in
      record {
        there = r.there;
        put = λ new p. denote_pair
            (ap (layout.change_in zero (λ x. put_at (1 ∷ (inner ++ 0 ∷ [])) (payload_of new) x)) e) (ap (λ x. change_by x k path new) f ∙ change_here l t ps k path new keys)
            (subst (λ x. Put new x path inner t) same (r.put new p)) rest;
      }
  by_key (suc i) k u path inner (denote_pair {k = l} {t = t} {ps = ps} e f d rest) legal g h on =
      let all = subst AreDistinct f legal in
      let later = ap (value_in (suc i)) (sym e) ∙ g in
      let keys : bytes_eq l k ≡ false = keys_differ l k (λ same. other_key i k l u rest later all.0 (sym same)) in
      let r = by_key i k u path inner rest all.2 later (sym (node_past l t ps k path keys) ∙ ap (λ x. node_by x k path) (sym f) ∙ h) on in
      record {
        there = r.there;
        put = λ new p. denote_pair
            (ap (layout.change_in (suc i) (λ x. put_at (1 ∷ (inner ++ 0 ∷ [])) (payload_of new) x)) e) (ap (λ x. change_by x k path new) f ∙ change_past l t ps k path new keys)
            d (r.put new p);
      }

  pub reaches : {v : Value} {path : List Step} {inner : List ℕ} → LeadsTo v path inner w → Onward v path inner
  reaches (leads_here {v = v} e f g) t legal d h =
      let there : ◌≡◌ {A = Option Tree} (Some t) (Some s) = ap (node_at t) (sym f) ∙ h in
      let is : t ≡ s = cc in
      moved e f g is (record { there = subst (λ x. Denotes x s) e (subst (Denotes v) is d); put = λ new p. p })
  reaches (leads_inside {rest = rest} e f g l) t legal d h =
      let o = of_some e d in
      let r = reaches l o.inner (subst IsLegal o.is legal) o.denotes (ap (λ x. node_at x (inside ∷ rest)) (sym o.is) ∙ ap (node_at t) (sym f) ∙ h) in
      moved e f g o.is (record { there = r.there; put = λ new p. denotes_some refl refl (r.put new p) })
  reaches (leads_place {u = u} {i = i} {rest = rest} {more = more} e i_is f g l) t legal d h =
      let o = of_list e d in
      let r = in_list i u rest more o.denotes (subst IsLegal o.is legal).0 i_is (ap (λ x. node_at x (place i ∷ rest)) (sym o.is) ∙ ap (node_at t) (sym f) ∙ h) (λ x y z n. reaches l x y z n) in
      moved e f g o.is (record { there = r.there; put = λ new p. denotes_list refl refl (r.put new p) })
  reaches (leads_key {u = u} {vs = vs} {i = i} {k = k} {rest = rest} {more = more} e high i_is f g l) t legal d h =
      let o = of_map e high d in
      let kind = o.kind in
      let ps = o.is_map.pairs in
      let all = distinct kind [] (in_order kind ps) (subst IsLegal o.is_map.is legal).0 in
      let there : node_by (in_order kind ps) k rest ≡ Some s = ap (λ x. node_at x (key k ∷ rest)) (sym o.is_map.is) ∙ ap (node_at t) (sym f) ∙ h in
      let r = by_key i k u rest more o.is_map.denotes (distinct_in_order kind ps all) i_is (sym (node_in_order kind k rest ps) ∙ there) (λ x y z n. reaches l x y z n) in
      let of_tag = e ∙ ap (λ n. tagged_value n (group vs)) (sym o.tagged) in
      moved of_tag f g o.is_map.is (record {
        there = r.there;
        put = λ new p. subst (λ x. Denotes (tagged_value (kind_tag kind) (group (layout.change_in i (λ y. put_at (1 ∷ (more ++ 0 ∷ [])) (payload_of new) y) vs))) (map kind x))
            (sym (change_in_order kind k rest new ps all)) (denotes_map kind _ _ (r.put new p));
      })

pub leaf_put_law : LeafPut
leaf_put_law v w t path inner new l document d x =
    let r = reaches w (leaf x.old) l t document.0 d x.there in
    r.put new (put_here new r.there x.old refl x.fitting)
