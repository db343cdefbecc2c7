-- What a walk of a node finds, by the node's kind, and the faults that it has.
use Rattle.std.proofs.Common.{◌≡◌, ◌≢◌, ◌∙◌, ◌⊎◌, inl, inr, ℕ, zero, suc, ◌+◌, ◌<◌, ◌≤◌, Bool, true, false, nat_lt, ◌==◌, List, [], ◌++◌, slice_index, MatchBool, refl, sym, ap, subst, arith, append-nil}
use Rattle.std.proofs.lemmas.Bool.Decides.{eqb_tells}
use Rattle.std.specs.List.{flat_map}
use Rattle.archive_shape_layout.specs.Bytes.{window, word_at}
use Rattle.archive_shape_layout.specs.Shape.{Shape}
use Rattle.archive_shape_layout.specs.Shape.Shape.{text, option, box, vector}
use Rattle.archive_shape_layout.specs.Shape.Pointee.{sized}
use Rattle.archive_shape_layout.specs.Value.{Value, Values, count_values}
use Rattle.archive_shape_layout.specs.Value.Value.{group}
use Rattle.archive_shape_layout.specs.Content.{Part, elements, members}
use Rattle.archive_forms_values.specs.Parts.{HasValue, PointsTo, IsNoneAt, IsSomeAt, IsVecAt}
use Rattle.archive_shape_layout.proofs.Windows.{word_within}
use Rattle.archive_forms_values.proofs.Payloads.{has_some, option_by_tag, some_is_not_none}
use Rattle.archive_forms_values.proofs.Pointed.{vec_there}
use Rattle.archive_btree_layout.specs.Reading as reading
use Rattle.archive_btree_layout.specs.Tree.{Tree, items}
use Rattle.archive_btree_maps.specs.Maps.{IsMapAt}
use Rattle.archive_btree_maps.specs.Maps.IsMapAt.{has_none, has_root}
use Rattle.cabinet_documents.specs.Node.{node_shape, node_names, KnowsNode}
use Rattle.cabinet_documents.specs.Order.{ascend}
use Rattle.cabinet_documents.specs.Table.{item_keys}
use Rattle.cabinet_documents.specs.Walk.{Stop, Walks, WalkAll}
use Rattle.cabinet_documents.specs.Audit.{too_deep, keys_not_ascending, unless, faults}
use Rattle.cabinet_documents.proofs.Places.{Place, node_here, option_here, list_here, ordered_here, table_here, index_here, part_of, whole_here}
use Rattle.cabinet_documents.proofs.NodeWalks.{OptionWalk, walks_none, walks_some, NodeWalk, leaf_walks, option_walks, list_walks, ordered_walks, hashed_walks, kept_walks, option_walk, list_walk, node_walk, whole_walks, whole_walk}
use Rattle.cabinet_documents.proofs.TreeWalks.{no_items, MapWalked, map_walked, empty_map_walked, text_quiet}

abbrev pub Boxed : Shape
Boxed = box (sized node_shape)

-- the payload of a container, by its tag
abbrev pub payload_place : ℕ → Place
payload_place (suc (suc (suc (suc zero)))) = option_here
payload_place (suc (suc (suc (suc (suc zero))))) = list_here
payload_place (suc (suc (suc (suc (suc (suc zero)))))) = ordered_here
payload_place (suc (suc (suc (suc (suc (suc (suc zero))))))) = table_here
payload_place (suc (suc (suc (suc (suc (suc (suc (suc zero)))))))) = index_here
payload_place tag = whole_here

module _ (bytes : List ℕ) where
  -- ---- nodes

  -- a part in a part: its walk has the same faults
  pub record Inner (depth : ℕ) (p : Part) (walk : List Stop) : Type 0 where
    pub value : Value
    pub run : List Stop
    pub walked : Walks node_names bytes depth p value run
    pub faults_are : faults bytes walk ≡ faults bytes run

  module _ {depth pos : ℕ} {v : Value} {walk : List Stop} (h : Walks node_names bytes depth (part_of node_here pos) v walk) where
    pub leaf_faults : slice_index bytes pos ≤ 3 → faults bytes walk ≡ []
    leaf_faults low = by (node_walk bytes pos h)
      where
        by : NodeWalk bytes depth pos v walk → faults bytes walk ≡ []
        by (leaf_walks tag e less is none) = none
        by (option_walks e is run f) = absurd (omega (arith, low, e))
        by (list_walks e is run f) = absurd (omega (arith, low, e))
        by (ordered_walks e is run f) = absurd (omega (arith, low, e))
        by (hashed_walks e is run f) = absurd (omega (arith, low, e))
        by (kept_walks e is run f) = absurd (omega (arith, low, e))
        by (whole_walks e is run f) = absurd (omega (arith, low, e))

    -- the walk of a container's node has the faults of its payload's
    pub payload_in : (tag : ℕ) → slice_index bytes pos ≡ tag → 3 < tag → Inner depth (part_of (payload_place tag) (pos + 4)) walk
    payload_in tag tag_is high = by (node_walk bytes pos h)
      where
        of : (other : ℕ) → slice_index bytes pos ≡ other → Inner depth (part_of (payload_place other) (pos + 4)) walk → Inner depth (part_of (payload_place tag) (pos + 4)) walk
        of other e i = subst (λ n. Inner depth (part_of (payload_place n) (pos + 4)) walk) (sym e ∙ tag_is) i

        by : NodeWalk bytes depth pos v walk → Inner depth (part_of (payload_place tag) (pos + 4)) walk
        by (leaf_walks other e less is none) = absurd (omega (arith, high, tag_is, e, less))
        by (option_walks {w = w} {run = run} e is walked f) = of 4 e (record { value = w; run = run; walked = walked; faults_are = f })
        by (list_walks {w = w} {run = run} e is walked f) = of 5 e (record { value = w; run = run; walked = walked; faults_are = f })
        by (ordered_walks {w = w} {run = run} e is walked f) = of 6 e (record { value = w; run = run; walked = walked; faults_are = f })
        by (hashed_walks {w = w} {run = run} e is walked f) = of 7 e (record { value = w; run = run; walked = walked; faults_are = f })
        by (kept_walks {w = w} {run = run} e is walked f) = of 8 e (record { value = w; run = run; walked = walked; faults_are = f })
        by (whole_walks {w = w} {run = run} e is walked f) = of 9 e (record { value = w; run = run; walked = walked; faults_are = f })

  -- ---- options

  pub not_none : (pos : ℕ) → HasValue (option Boxed) KnowsNode bytes pos → IsSomeAt Boxed KnowsNode bytes pos → slice_index bytes pos ≡ 0 → ⊥
  not_none pos has some e =
      some_is_not_none Boxed KnowsNode bytes pos 4 refl (omega arith) (has_some has some)
      (subst (λ n. MatchBool (n == 0) (IsNoneAt Boxed KnowsNode bytes pos) (IsSomeAt Boxed KnowsNode bytes pos)) e (option_by_tag Boxed KnowsNode bytes pos 4 refl (omega arith)))

  not_some : (pos : ℕ) → HasValue (option Boxed) KnowsNode bytes pos → IsNoneAt Boxed KnowsNode bytes pos → slice_index bytes pos ≡ 1 → ⊥
  not_some pos has none e =
      some_is_not_none Boxed KnowsNode bytes pos 4 refl (omega arith) (has_some has
      (subst (λ n. MatchBool (n == 0) (IsNoneAt Boxed KnowsNode bytes pos) (IsSomeAt Boxed KnowsNode bytes pos)) e (option_by_tag Boxed KnowsNode bytes pos 4 refl (omega arith)))) none

  pub none_tag : (pos : ℕ) → HasValue (option Boxed) KnowsNode bytes pos → IsNoneAt Boxed KnowsNode bytes pos → slice_index bytes pos ≡ 0
  none_tag pos has none = by (slice_index bytes pos == 0) (eqb_tells (slice_index bytes pos) 0) (option_by_tag Boxed KnowsNode bytes pos 4 refl (omega arith))
    where
      by : (b : Bool) → ((b ≡ true) × (slice_index bytes pos ≡ 0)) ⊎ ((b ≡ false) × (slice_index bytes pos ≢ 0))
          → MatchBool b (IsNoneAt Boxed KnowsNode bytes pos) (IsSomeAt Boxed KnowsNode bytes pos) → slice_index bytes pos ≡ 0
      by true (inl e) is = e.1
      by true (inr e) is = absurd (cc)
      by false e some = absurd (some_is_not_none Boxed KnowsNode bytes pos 4 refl (omega arith) (has_some has some) none)

  -- a part in a container: the walk has the container's own fault, and then those of the part
  pub record Deeper (depth : ℕ) (p : Part) (walk : List Stop) : Type 0 where
    pub value : Value
    pub run : List Stop
    pub walked : Walks node_names bytes (depth + 1) p value run
    pub faults_are : faults bytes walk ≡ unless (nat_lt depth 64) too_deep ++ faults bytes run

  module _ {depth pos : ℕ} {v : Value} {walk : List Stop} (has : HasValue (option Boxed) KnowsNode bytes pos) (h : Walks node_names bytes depth (part_of option_here pos) v walk) where
    pub none_faults : IsNoneAt Boxed KnowsNode bytes pos → faults bytes walk ≡ unless (nat_lt depth 64) too_deep
    none_faults none = by (option_walk bytes pos h)
      where
        by : OptionWalk bytes depth pos v walk → faults bytes walk ≡ unless (nat_lt depth 64) too_deep
        by (walks_none e is f) = f
        by (walks_some e target is node f) = absurd (not_some pos has none e)

    pub some_in : {next : ℕ} → IsSomeAt Boxed KnowsNode bytes pos → PointsTo bytes (pos + 4) next → Deeper depth (part_of node_here next) walk
    some_in {next = next} some points = by (option_walk bytes pos h)
      where
        by : OptionWalk bytes depth pos v walk → Deeper depth (part_of node_here next) walk
        by (walks_none e is f) = absurd (not_none pos has some e)
        by (walks_some {to = to} {w = w} {run = run} e target is node f) =
            let same : to ≡ next = cc in
            record { value = w; run = run; walked = subst (λ n. Walks node_names bytes (depth + 1) (part_of node_here n) w run) same node; faults_are = f }

  -- ---- wholes

  pub whole_in : {depth pos next : ℕ} {v : Value} {walk : List Stop} → Walks node_names bytes depth (part_of whole_here pos) v walk → PointsTo bytes pos next → Deeper depth (part_of node_here next) walk
  whole_in {depth = depth} {pos = pos} {next = next} h points =
      let w = whole_walk bytes pos h in
      let target = w.target in
      let same : w.to ≡ next = cc in
      record { value = w.inner; run = w.run; walked = subst (λ n. Walks node_names bytes (depth + 1) (part_of node_here n) w.inner w.run) same w.node; faults_are = w.faults_are }

  -- ---- lists

  pub record ListIn (depth to len : ℕ) (walk : List Stop) : Type 0 where
    pub vs : Values
    pub runs : List (List Stop)
    pub nodes : WalkAll node_names bytes (depth + 1) (elements to len node_shape) vs runs
    pub faults_are : faults bytes walk ≡ unless (nat_lt depth 64) too_deep ++ flat_map (faults bytes) runs

  -- one number of elements
  pub one_count : (pos to from len n : ℕ) → HasValue (vector node_shape) KnowsNode bytes pos → IsVecAt node_shape KnowsNode bytes pos to len → IsVecAt node_shape KnowsNode bytes pos from n → len ≡ n
  one_count pos to from len n has a b =
      let x = a.value has.value has.held in
      let y = b.value has.value has.held in
      let same : group x.elements ≡ group y.elements = sym x.is ∙ y.is in
      let es : x.elements ≡ y.elements = cc in
      sym x.count ∙ (ap count_values es ∙ y.count)

  pub vector_in : {depth pos : ℕ} {v : Value} {walk : List Stop} {to len : ℕ}
      → HasValue (vector node_shape) KnowsNode bytes pos → IsVecAt node_shape KnowsNode bytes pos to len
      → Walks node_names bytes depth (part_of list_here pos) v walk → ListIn depth to len walk
  vector_in {depth = depth} {pos = pos} {to = to} {len = len} has vec h =
      let l = list_walk bytes pos h in
      let there = vec_there node_shape KnowsNode bytes pos l.to (word_at (window bytes pos 8) 4) l.target refl in
      let same : l.to ≡ to = let a = l.target in let b = vec.points in cc in
      let count = one_count pos to l.to len (word_at (window bytes pos 8) 4) has vec there in
      record {
        vs = l.vs;
        runs = l.runs;
        nodes =
            subst (λ n. WalkAll node_names bytes (depth + 1) (elements n len node_shape) l.vs l.runs) same
            (subst (λ n. WalkAll node_names bytes (depth + 1) (elements l.to n node_shape) l.vs l.runs) (sym (count ∙ word_within bytes pos 8 4 (omega arith))) l.nodes);
        faults_are = l.faults_are;
      }

  -- ---- ordered maps

  pub map_in : {depth pos : ℕ} {t : Tree reading.Place} {w : Value} {walk : List Stop}
      → IsMapAt bytes 5 text node_shape pos t → Walks node_names bytes depth (part_of ordered_here pos) w walk → MapWalked node_names bytes text node_shape depth t w walk
  map_in {depth = depth} {t = t} {w = w} {walk = walk} (has_none word is) h =
      let m = empty_map_walked node_names bytes 5 text node_shape depth word h in
      let none : ascend (item_keys (members w)) ≡ true = ap (λ ws. ascend (item_keys ws)) m.members_are in
      record {
        runs = [];
        items = no_items (ap items is) m.members_are refl;
        faults_are =
            m.faults_are
            ∙ sym (append-nil (unless (nat_lt depth 64) too_deep))
            ∙ ap (λ b. unless (nat_lt depth 64) too_deep ++ (unless b keys_not_ascending ++ [])) (sym none);
      }
  map_in {depth = depth} (has_root away target below counted) h = map_walked node_names bytes 5 text node_shape depth away target below (text_quiet node_names bytes (depth + 1)) h
