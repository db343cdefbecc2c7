-- The trees of loaded nodes, from those of the nodes in them.
use Rattle.std.specs.declared.alloc.AllocError.{AllocError}
use Rattle.std.proofs.Common.{Bor, Result, Ok, Err, IfOk, ◌≡◌, ℕ, zero, suc, ◌+◌, ◌*◌, ◌<◌, ◌≤◌, List, [], ◌∷◌, ◌++◌, length, Some, false, refl, sym, ap, subst, ◌∙◌, arith}
use Rattle.std.specs.Prelude.{⊤}
use Rattle.archive_shape_layout.specs.Shape.{Shape, size_of}
use Rattle.archive_shape_layout.specs.Shape.Shape.{option, vector}
use Rattle.archive_shape_layout.specs.Value.{Value, Values, count_values}
use Rattle.archive_shape_layout.specs.Content.{Names}
use Rattle.archive_shape.specs.Key.{HeldAt}
use Rattle.archive_forms_values.specs.Parts.{HasValue, IsNoneAt, IsSomeAt, some_position, IsBoxAt, IsVecAt}
use Rattle.archive_shape_layout.specs.Path.{value_in}
use Rattle.archive_forms_rc.specs.Pointers.{IsRcAt}
use Rattle.cabinet_text_grammar.specs.Wholes.{with_wholes}
use Rattle.cabinet_text_grammar.specs.Tree.{Leaf, Tree, Trees, leaf, shared, more_trees, nothing, just, list, whole, IsLegal, AreLegal, depth as height, most_depth}
use Rattle.cabinet_text_nodes.specs.View.{node_tree, node_trees, trees_of}
use Rattle.cabinet_text_nodes.specs.declared.node.Node.{Node}
use Rattle.cabinet_documents.specs.Denotes.{Denotes, DenoteAll, tagged_value}
use Rattle.cabinet_documents.specs.Denotes.Denotes.{denotes_truth, denotes_number, denotes_text, denotes_shared, denotes_nothing, denotes_some, denotes_list, denotes_ordered, denotes_hashed, denotes_kept, denotes_whole}
use Rattle.cabinet_documents.specs.Denotes.DenoteAll.{denote_none, denote_more}
use Rattle.cabinet_documents.specs.Node.{node_shape, whole_shape, KnowsNode}
use Rattle.cabinet_archived.specs.Kind.{IsTagged}
use Rattle.cabinet_documents.proofs.Changing.{of_some, of_list, of_whole}
use Rattle.cabinet_archives.specs.Found.{OfDocument}
use Rattle.cabinet_archives.specs.Loading.{HasTree, OfTree}
use Rattle.cabinet_archives.proofs.Stepping.{nothing_is}
use Rattle.cabinet_archives.proofs.LoadedTrees.{AreNodesLegal, IsProgress, progress_on, progress_done, wholes_in_trees}
use Rattle.cabinet_archives.proofs.Ways.{Boxed, counted_there}

-- a value with a tree is there
pub tree_value : {node : Value → Value} {s : Shape} {knows : Names → Type 0} {bytes : List ℕ} {pos outer : ℕ} → HasTree node s knows bytes pos outer → HasValue s knows bytes pos
tree_value has = record { value = has.value; held = has.held }

-- ---- containers

container_height : {v w : Value} {t : Tree} {tag : ℕ} → v ≡ tagged_value tag w → 3 < tag → Denotes v t → 0 < height t
container_height {tag = tag} e high (denotes_truth f g) = let is : tag ≡ 0 = cc in absurd (omega (arith, high, is))
container_height {tag = tag} e high (denotes_number f g) = let is : tag ≡ 1 = cc in absurd (omega (arith, high, is))
container_height {tag = tag} e high (denotes_text f g) = let is : tag ≡ 2 = cc in absurd (omega (arith, high, is))
container_height {tag = tag} e high (denotes_shared f g) = let is : tag ≡ 3 = cc in absurd (omega (arith, high, is))
container_height e high (denotes_nothing f g) = let is = ap height g in omega (arith, is)
container_height e high (denotes_some f g d) = let is = ap height g in omega (arith, is)
container_height e high (denotes_list f g ds) = let is = ap height g in omega (arith, is)
container_height e high (denotes_ordered f g ds) = let is = ap height g in omega (arith, is)
container_height e high (denotes_hashed f g ds) = let is = ap height g in omega (arith, is)
container_height e high (denotes_kept f g ds) = let is = ap height g in omega (arith, is)
container_height e high (denotes_whole f g d) = let is = ap height g in omega (arith, is)

module _ (bytes : List ℕ) where
  -- fewer than 64 lie around a container
  pub inside_few : {pos outer tag : ℕ} {s : Shape} {knows : Names → Type 0} → 3 < tag → HasTree (tagged_value tag) s knows bytes pos outer → outer < 64
  inside_few high has = let some = container_height refl high has.denotes in let low = has.low in omega (arith, some, low)

  -- ---- payloads

  module _ {pos tag to : ℕ} {s : Shape} {knows : Names → Type 0} (tagged : IsTagged bytes pos tag s knows to) where
    pub payload_tree : {outer : ℕ} → HasTree (λ v. v) node_shape KnowsNode bytes pos outer → HasTree (tagged_value tag) s knows bytes to outer
    payload_tree has =
        let p = tagged.payload has.value has.held in
        record { value = p.payload; held = p.held; tree = has.tree; denotes = subst (λ v. Denotes v has.tree) p.is has.denotes; legal = has.legal; low = has.low }

    pub node_of_payload : (is : Tree → Type 0) → OfTree (tagged_value tag) s knows bytes to is → OfDocument bytes pos is
    node_of_payload is of = λ v t h d. let p = tagged.payload v h in of p.payload t p.held (subst (λ x. Denotes x t) p.is d)

-- what is loaded of a payload is loaded of its node
pub passed_on : {x y : Bor (List ℕ)} {pos tag to : ℕ} {s : Shape} {knows : Names → Type 0} (r : Result Node AllocError) (is : Node → Tree → Type 0) → x ≡ y → IsTagged y.now pos tag s knows to
    → IfOk r (λ n. OfTree (tagged_value tag) s knows x.now to (is n)) → IfOk r (λ n. OfDocument y.now pos (is n))
passed_on {y = y} {tag = tag} {to = to} {s = s} {knows = knows} (Ok n) is e tagged of =
    node_of_payload y.now tagged (is n) (subst (λ (b : Bor (List ℕ)). OfTree (tagged_value tag) s knows b.now to (is n)) e of)
passed_on (Err refused) is e tagged of = tt

-- a leaf and a shared text have no wholes
pub loaded_leaf : {table : List Tree} (n : Node) {l : Leaf} {t : Tree} → node_tree table n ≡ leaf l → leaf l ≡ t → (node_tree table n ≡ t) × (table ≡ with_wholes table t)
loaded_leaf {table = table} n e is = (e ∙ is, ap (with_wholes table) is)

pub loaded_shared : {table : List Tree} (n : Node) {s : List ℕ} {t : Tree} → node_tree table n ≡ shared s → shared s ≡ t → (node_tree table n ≡ t) × (table ≡ with_wholes table t)
loaded_shared {table = table} n e is = (e ∙ is, ap (with_wholes table) is)

module _ (bytes : List ℕ) where
  -- ---- options

  pub boxed_there : (x : Bor (List ℕ)) {pos from outer : ℕ} → HasTree (tagged_value 4) (option Boxed) KnowsNode bytes pos outer → x.now ≡ bytes → from ≡ some_position Boxed pos → IsSomeAt Boxed KnowsNode bytes pos → HasValue Boxed KnowsNode x.now from
  boxed_there x {from = from} has e f some =
      let p = some has.value has.held in
      subst (λ b. HasValue Boxed KnowsNode b from) (sym e) (subst (HasValue Boxed KnowsNode bytes) (sym f) (record { value = p.payload; held = p.held }))

  module _ {pos from next : ℕ} (some : IsSomeAt Boxed KnowsNode bytes pos) (e : from ≡ some_position Boxed pos) (boxed : IsBoxAt node_shape KnowsNode bytes from next) where
    pub boxed_tree : {outer : ℕ} → HasTree (tagged_value 4) (option Boxed) KnowsNode bytes pos outer → HasTree (λ v. v) node_shape KnowsNode bytes next (outer + 1)
    boxed_tree has =
        let p = some has.value has.held in
        let o = of_some (ap (tagged_value 4) p.is) has.denotes in
        let low = has.low in
        let is = ap height o.is in
        record {
          value = p.payload;
          held = boxed.value p.payload (subst (λ n. HeldAt Boxed KnowsNode bytes n p.payload) (sym e) p.held);
          tree = o.inner;
          denotes = o.denotes;
          legal = subst IsLegal o.is has.legal;
          low = omega (arith, low, is);
        }

    pub just_tree : (is : Tree → Type 0) → OfDocument bytes next is → OfTree (tagged_value 4) (option Boxed) KnowsNode bytes pos (λ t. (u : Tree) × (t ≡ just u) × is u)
    just_tree is of = λ v t h d.
        let p = some v h in
        let o = of_some (ap (tagged_value 4) p.is) d in
        (o.inner, o.is, of p.payload o.inner (boxed.value p.payload (subst (λ n. HeldAt Boxed KnowsNode bytes n p.payload) (sym e) p.held)) o.denotes)

  pub nothing_tree : (pos : ℕ) → IsNoneAt Boxed KnowsNode bytes pos → OfTree (tagged_value 4) (option Boxed) KnowsNode bytes pos (λ t. t ≡ nothing)
  nothing_tree pos none = λ v t h d. nothing_is (ap (tagged_value 4) (none v h)) d

  -- ---- wholes

  module _ {pos next : ℕ} (rc : IsRcAt false node_shape KnowsNode bytes pos next) where
    pub inner_tree : {outer : ℕ} → HasTree (tagged_value 9) whole_shape KnowsNode bytes pos outer → HasTree (λ v. v) node_shape KnowsNode bytes next (outer + 1)
    inner_tree has =
        let p = counted_there bytes pos next rc has.value has.held in
        let o = of_whole (ap (tagged_value 9) p.is) has.denotes in
        let low = has.low in
        let is = ap height o.is in
        record { value = p.value; held = p.held; tree = o.inner; denotes = o.denotes; legal = subst IsLegal o.is has.legal; low = omega (arith, low, is) }

    pub whole_tree : (is : Tree → Type 0) → OfDocument bytes next is → OfTree (tagged_value 9) whole_shape KnowsNode bytes pos (λ t. (u : Tree) × (t ≡ whole u) × is u)
    whole_tree is of = λ v t h d.
        let p = counted_there bytes pos next rc v h in
        let o = of_whole (ap (tagged_value 9) p.is) d in
        (o.inner, o.is, of p.value o.inner p.held o.denotes)

  -- ---- lists

  record ElementTree (u : Value) (ts : Trees) : Type 0 where
    tree : Tree
    denotes : Denotes u tree
    legal : IsLegal tree
    low : height tree ≤ most_depth ts

  element_tree : {vs : Values} {ts : Trees} (i : ℕ) (u : Value) → DenoteAll vs ts → AreLegal ts → value_in i vs ≡ Some u → ElementTree u ts
  element_tree i u (denote_none e f) legal g = let none = sym (ap (value_in i) e) ∙ g in absurd (cc)
  element_tree zero u (denote_more {v = v} {t = t} e f d ds) legal g =
      let here = sym (ap (value_in zero) e) ∙ g in
      let same : v ≡ u = cc in
      let l = subst AreLegal f legal in
      let is = ap most_depth f in
      record { tree = t; denotes = subst (λ x. Denotes x t) same d; legal = l.0; low = omega (arith, is) }
  element_tree (suc i) u (denote_more e f d ds) legal g =
      let l = subst AreLegal f legal in
      let r = element_tree i u ds l.1 (sym (ap (value_in (suc i)) e) ∙ g) in
      let is = ap most_depth f in
      let low = r.low in
      record { tree = r.tree; denotes = r.denotes; legal = r.legal; low = omega (arith, is, low) }

  module _ {pos to len : ℕ} (vec : IsVecAt node_shape KnowsNode bytes pos to len) where
    pub element_there : {outer : ℕ} (i : ℕ) → i < len → HasTree (tagged_value 5) (vector node_shape) KnowsNode bytes pos outer → HasTree (λ v. v) node_shape KnowsNode bytes (to + i * size_of node_shape) (outer + 1)
    element_there i less has =
        let a = vec.value has.value has.held in
        let l = of_list (ap (tagged_value 5) a.is) has.denotes in
        let x = a.each i less in
        let legal = subst IsLegal l.is has.legal in
        let r = element_tree i x.0 l.denotes legal.0 x.1 in
        let is = ap height l.is in
        let inner = r.low in
        let low = has.low in
        record { value = x.0; held = x.2; tree = r.tree; denotes = r.denotes; legal = r.legal; low = omega (arith, is, inner, low) }

  -- the elements from a position on denote these trees
  abbrev pub ElementsLead : ℕ → List Tree → Type 0
  ElementsLead pos [] = ⊤
  ElementsLead pos (t ∷ ts) = ((v : Value) × HeldAt node_shape KnowsNode bytes pos v × Denotes v t) × ElementsLead (pos + size_of node_shape) ts

  record Led (pos len : ℕ) (us : Trees) : Type 0 where
    trees : List Tree
    are : us ≡ trees_of trees
    count : length trees ≡ len
    lead : ElementsLead pos trees

  elements_lead : (pos : ℕ) {vs : Values} {us : Trees} → DenoteAll vs us
      → ((i : ℕ) → i < count_values vs → (x : Value) × (value_in i vs ≡ Some x) × HeldAt node_shape KnowsNode bytes (pos + i * size_of node_shape) x)
      → Led pos (count_values vs) us
  elements_lead pos (denote_none e f) each = record { trees = []; are = f; count = sym (ap count_values e); lead = tt }
  elements_lead pos (denote_more {v = v} {t = t} e f d ds) each =
      let is = ap count_values e in
      let x = each 0 (omega (arith, is)) in
      let first = sym (ap (value_in 0) e) ∙ x.1 in
      let same : v ≡ x.0 = cc in
      let here : pos + 0 * size_of node_shape ≡ pos = omega arith in
      let others = elements_lead (pos + size_of node_shape) ds
      (λ i less.
      let y = each (suc i) (omega (arith, is, less)) in
      let there : pos + suc i * size_of node_shape ≡ pos + size_of node_shape + i * size_of node_shape = omega arith in
      (y.0, sym (ap (value_in (suc i)) e) ∙ y.1, subst (λ p. HeldAt node_shape KnowsNode bytes p y.0) there y.2)) in
      let count = others.count in
      record {
        trees = t ∷ others.trees;
        are = f ∙ ap (more_trees t) others.are;
        count = omega (arith, count, is);
        lead = ((v, subst (HeldAt node_shape KnowsNode bytes pos) (sym same) (subst (λ p. HeldAt node_shape KnowsNode bytes p x.0) here x.2), d), others.lead);
      }

  -- elements are loaded in order: the first of them are those of nodes, and the rest lies from an index on
  pub record ElementsLeft (pos len index : ℕ) (first table : List Tree) (ns : List Node) (t : Tree) : Type 0 where
    pub trees : List Tree
    pub rest : List Tree
    pub is : t ≡ list (trees_of trees)
    pub count : index + length rest ≡ len
    pub progress : IsProgress first table ns trees rest
    pub lead : ElementsLead (pos + index * size_of node_shape) rest

  pub none_loaded : {pos to len : ℕ} (vec : IsVecAt node_shape KnowsNode bytes pos to len) (table : List Tree) → OfTree (tagged_value 5) (vector node_shape) KnowsNode bytes pos (ElementsLeft to len 0 table table [])
  none_loaded {to = to} {len = len} vec table = λ v t h d.
      let a = vec.value v h in
      let l = of_list (ap (tagged_value 5) a.is) d in
      let count = a.count in
      let e = elements_lead to l.denotes (λ i less. a.each i (omega (arith, less, count))) in
      let led = e.count in
      record {
        trees = e.trees;
        rest = e.trees;
        is = l.is ∙ ap list e.are;
        count = omega (arith, led, count);
        progress = (refl, refl);
        lead = subst (λ p. ElementsLead p e.trees) (omega arith) e.lead;
      }

  module _ {pos len index : ℕ} {first table : List Tree} {ns : List Node} where
    pub one_loaded : {more : List Tree} {t : Tree} (n : Node) → AreNodesLegal table ns → index < len → OfDocument bytes (pos + index * size_of node_shape) (λ u. (node_tree more n ≡ u) × (more ≡ with_wholes table u))
        → ElementsLeft pos len index first table ns t → ElementsLeft pos len (index + 1) first more (ns ++ n ∷ []) t
    one_loaded {more = more} {t = t} n legal less of l = by l.rest l.count l.progress l.lead
      where
        by : (rest : List Tree) → index + length rest ≡ len → IsProgress first table ns l.trees rest → ElementsLead (pos + index * size_of node_shape) rest → ElementsLeft pos len (index + 1) first more (ns ++ n ∷ []) t
        by [] count progress lead = absurd (omega (arith, count, less))
        by (u ∷ rest) count progress lead =
            let one = of lead.0.0 u lead.0.1 lead.0.2 in
            record {
              trees = l.trees;
              rest = rest;
              is = l.is;
              count = omega (arith, count);
              progress = progress_on first table ns rest n legal one.0 one.1 progress;
              lead = subst (λ p. ElementsLead p rest) (omega arith) lead.1;
            }

    pub all_loaded : {t : Tree} → len ≤ index → ElementsLeft pos len index first table ns t → (list (node_trees table ns) ≡ t) × (table ≡ with_wholes first t)
    all_loaded {t = t} most l = by l.rest l.count l.progress
      where
        by : (rest : List Tree) → index + length rest ≡ len → IsProgress first table ns l.trees rest → (list (node_trees table ns) ≡ t) × (table ≡ with_wholes first t)
        by [] count progress =
            let done = progress_done first table ns progress in
            (ap (λ ts. list (trees_of ts)) done.0 ∙ sym l.is, done.1 ∙ sym (wholes_in_trees first l.trees) ∙ ap (with_wholes first) (sym l.is))
        by (u ∷ rest) count progress = absurd (omega (arith, count, most))
