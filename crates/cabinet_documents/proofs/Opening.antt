-- Bytes at whose root a node holds, with a walk without faults, are the archive of a document.
use Rattle.std.proofs.Common.{◌≡◌, ℕ, ◌+◌, ◌<◌, ◌≤◌, ◌^◌, Bool, true, false, cond, nat_lt, List, [], ◌∷◌, ◌++◌, length, refl, sym, ap, subst, ◌∙◌, arith, ltb-true}
use Rattle.std.specs.Prelude.{⊤}
use Rattle.archive_shape_layout.specs.Value.{Value, Values, count_values}
use Rattle.archive_shape_layout.specs.Holds.{root_position}
use Rattle.archive_shape_canonical.specs.Canonical.{AreBytes}
use Rattle.cabinet_text_grammar.specs.Keys.{ordered, hashed, kept}
use Rattle.cabinet_text_grammar.specs.Tree.{truth, number, text, Tree, leaf, shared, nothing, just, list, map, whole, Trees, no_trees, more_trees, count, depth, IsLegal, AreLegal, Pairs, no_pairs as no_pairs_of, more_pairs as more_pairs_of, pair_count, ArePairs}
use Rattle.cabinet_text_grammar.proofs.Tables.{table_wholes}
use Rattle.cabinet_documents.specs.Node.{node_shape, node_names}
use Rattle.cabinet_documents.specs.Denotes.{Denotes, DenoteAll, DenotePairs}
use Rattle.cabinet_documents.specs.Denotes.Denotes.{denotes_truth, denotes_number, denotes_text, denotes_shared, denotes_nothing, denotes_some, denotes_list, denotes_ordered, denotes_hashed, denotes_kept, denotes_whole}
use Rattle.cabinet_documents.specs.Denotes.DenoteAll.{denote_none, denote_more}
use Rattle.cabinet_documents.specs.Denotes.DenotePairs.{denote_no_pairs, denote_pair}
use Rattle.cabinet_documents.specs.Order.{ascend, arranged}
use Rattle.cabinet_documents.specs.Table.{item_keys}
use Rattle.cabinet_documents.specs.Walk.{Stop, is_container}
use Rattle.cabinet_documents.specs.Audit.{too_deep, unless, deep_faults, map_faults, faults}
use Rattle.cabinet_documents.specs.Laws.{AcceptedStands}
use Rattle.cabinet_documents.proofs.Places.{node_behind}
use Rattle.cabinet_documents.proofs.Nodes.{NodeValue, truth_value, number_value, text_value, shared_value, none_value, some_value, list_value, ordered_value, hashed_value, kept_value, whole_value, NodeValues, no_nodes, more_nodes, PairValues, no_pairs, more_pairs}
use Rattle.cabinet_documents.proofs.HeldNodes.{none_seen, held}
use Rattle.cabinet_documents.proofs.Arranged.{AreEachLegal, arranged_pairs, kept_pairs, arranged_count}
use Rattle.cabinet_documents.proofs.ByKey.{AreKeysDistinct, pair_keys}
use Rattle.cabinet_documents.proofs.FewWholes.{few_wholes}
use Rattle.cabinet_documents.proofs.FoundKeys.{no_left, no_right}
use Rattle.cabinet_documents.proofs.Keyed.{AscendAfter, first_after, keys_denoted}
use Rattle.cabinet_documents.proofs.Heights.{Keyed, AllKeyed, height_is}
use Rattle.cabinet_documents.proofs.Stops.{peak, Each}
use Rattle.cabinet_documents.proofs.Peaks.{peaked}
use Rattle.cabinet_documents.proofs.TableSound.{quiet_maps, sound_tables}
use Rattle.cabinet_documents.proofs.NamedEntries.{all_named}
use Rattle.cabinet_documents.proofs.Walkable.{Nothing, known_stops}
use Rattle.cabinet_documents.proofs.Standing.{accepted_by}

-- ---- the document of a node's value

pub record OfTree (bytes : List ℕ) (v : Value) : Type 0 where
  pub tree : Tree
  pub denotes : Denotes v tree
  pub legal : AreBytes bytes → Keyed v → IsLegal tree

record OfTrees (bytes : List ℕ) (vs : Values) : Type 0 where
  trees : Trees
  denote : DenoteAll vs trees
  legal : AreBytes bytes → AllKeyed vs → AreLegal trees
  counted : count trees ≡ count_values vs

record OfPairs (bytes : List ℕ) (vs : Values) : Type 0 where
  pairs : Pairs
  denote : DenotePairs vs pairs
  legal : AreBytes bytes → AllKeyed vs → AreEachLegal pairs
  counted : pair_count pairs ≡ count_values vs

-- legal pairs whose keys ascend are those of an ordered map
ascending_pairs : (before : List (List ℕ)) (ps : Pairs) → AreEachLegal ps → AscendAfter before (pair_keys ps) → ArePairs ordered before ps
ascending_pairs before no_pairs_of legal after = tt
ascending_pairs before (more_pairs_of k t ps) legal after =
    let a = first_after before k (pair_keys ps) after in
    ((legal.0, a.0), (legal.1, ascending_pairs (k ∷ before) ps legal.2 a.1))

mutual
  pub of_tree : {bytes : List ℕ} {v : Value} → NodeValue bytes v → OfTree bytes v
  of_tree (truth_value {b = b} e) = record { tree = leaf (truth b); denotes = denotes_truth e refl; legal = λ small keyed. tt }
  of_tree (number_value {n = n} e fits) = record { tree = leaf (number n); denotes = denotes_number e refl; legal = λ small keyed. fits }
  of_tree (text_value {s = s} e utf8) = record { tree = leaf (text s); denotes = denotes_text e refl; legal = λ small keyed. utf8 }
  of_tree (shared_value {s = s} e utf8) = record { tree = shared s; denotes = denotes_shared e refl; legal = λ small keyed. utf8 }
  of_tree (none_value e) = record { tree = nothing; denotes = denotes_nothing e refl; legal = λ small keyed. tt }
  of_tree (some_value {w = w} e n) =
      let r = of_tree n in
      record { tree = just r.tree; denotes = denotes_some e refl r.denotes; legal = λ small keyed. let k : ⊤ × ((⊤ × (Keyed w × ⊤)) × ⊤) = subst Keyed e keyed in r.legal small k.1.0.1.0 }
  of_tree (list_value {vs = vs} e ns few) =
      let r = of_trees ns in
      record {
        tree = list r.trees;
        denotes = denotes_list e refl r.denote;
        legal = λ small keyed.
            let k : ⊤ × (AllKeyed vs × ⊤) = subst Keyed e keyed in
            (r.legal small k.1.0, subst (λ n. n < 2 ^ 64) (sym r.counted) (few small));
      }
  of_tree (ordered_value {vs = vs} e ps few) =
      let r = of_pairs ps in
      record {
        tree = map ordered r.pairs;
        denotes = denotes_ordered e refl r.denote;
        legal = λ small keyed.
            let k : (ascend (item_keys vs) ≡ true) × (AllKeyed vs × ⊤) = subst Keyed e keyed in
            (ascending_pairs [] r.pairs (r.legal small k.1.0) (subst (λ ks. ascend ks ≡ true) (keys_denoted r.denote) k.0), subst (λ n. n < 2 ^ 64) (sym r.counted) (few small));
      }
  of_tree (hashed_value {vs = vs} e ps few) =
      let r = of_pairs ps in
      record {
        tree = map hashed (arranged r.pairs);
        denotes = denotes_hashed e refl r.denote;
        legal = λ small keyed.
            let k : AreKeysDistinct (item_keys vs) × (AllKeyed vs × ⊤) = subst Keyed e keyed in
            (arranged_pairs r.pairs (r.legal small k.1.0) (subst AreKeysDistinct (keys_denoted r.denote) k.0), subst (λ n. n < 2 ^ 64) (sym (arranged_count r.pairs ∙ r.counted)) (few small));
      }
  of_tree (kept_value {vs = vs} e ps few) =
      let r = of_pairs ps in
      record {
        tree = map kept r.pairs;
        denotes = denotes_kept e refl r.denote;
        legal = λ small keyed.
            let k : AreKeysDistinct (item_keys vs) × (AllKeyed vs × ⊤) = subst Keyed e keyed in
            (kept_pairs r.pairs (r.legal small k.1.0) (subst AreKeysDistinct (keys_denoted r.denote) k.0), subst (λ n. n < 2 ^ 64) (sym r.counted) (few small));
      }
  of_tree (whole_value {w = w} e n) =
      let r = of_tree n in
      record { tree = whole r.tree; denotes = denotes_whole e refl r.denotes; legal = λ small keyed. let k : ⊤ × (Keyed w × ⊤) = subst Keyed e keyed in r.legal small k.1.0 }

  of_trees : {bytes : List ℕ} {vs : Values} → NodeValues bytes vs → OfTrees bytes vs
  of_trees (no_nodes e) = record { trees = no_trees; denote = denote_none e refl; legal = λ small keyed. tt; counted = sym (ap count_values e) }
  of_trees (more_nodes {ws = ws} {v = v} e n ns) =
      let r = of_tree n in
      let rs = of_trees ns in
      let c = rs.counted in
      record {
        trees = more_trees r.tree rs.trees;
        denote = denote_more e refl r.denotes rs.denote;
        legal = λ small keyed. let k : Keyed v × AllKeyed ws = subst AllKeyed e keyed in (r.legal small k.0, rs.legal small k.1);
        counted = omega (arith, c) ∙ sym (ap count_values e);
      }

  of_pairs : {bytes : List ℕ} {vs : Values} → PairValues bytes vs → OfPairs bytes vs
  of_pairs (no_pairs e) = record { pairs = no_pairs_of; denote = denote_no_pairs e refl; legal = λ small keyed. tt; counted = sym (ap count_values e) }
  of_pairs (more_pairs {ws = ws} {k = k} {v = v} e utf8 n ns) =
      let r = of_tree n in
      let rs = of_pairs ns in
      let c = rs.counted in
      record {
        pairs = more_pairs_of k r.tree rs.pairs;
        denote = denote_pair e refl r.denotes rs.denote;
        legal = λ small keyed. let x : (⊤ × (Keyed v × ⊤)) × AllKeyed ws = subst AllKeyed e keyed in (utf8, r.legal small x.0.1.0, rs.legal small x.1);
        counted = omega (arith, c) ∙ sym (ap count_values e);
      }

-- ---- a walk without faults

not_deep : (t : Bool) (m : ℕ) → nat_lt m 64 ≡ t → unless t too_deep ≡ [] → m < 64
not_deep true m h e = ltb-true m 64 h
not_deep false m h e = absurd (cc)

one_shallow : (b : Bool) (m : ℕ) → cond b (unless (nat_lt m 64) too_deep) [] ≡ [] → cond b (m + 1) 0 ≤ 64
one_shallow true m e = let h = not_deep (nat_lt m 64) m refl e in omega arith
one_shallow false m e = omega arith

shallow : (bytes : List ℕ) (walk : List Stop) → faults bytes walk ≡ [] → peak 0 walk ≤ 64
shallow bytes [] e = omega arith
shallow bytes (s ∷ rest) e =
    let here = no_left (deep_faults s ++ map_faults bytes s.part s.value) (faults bytes rest) e in
    let deep = no_left (deep_faults s) (map_faults bytes s.part s.value) here in
    let one = one_shallow (is_container s.part) s.depth deep in
    let others = shallow bytes rest (no_right (deep_faults s ++ map_faults bytes s.part s.value) (faults bytes rest) e) in
    omega arith

quiet : (bytes : List ℕ) (walk : List Stop) → faults bytes walk ≡ [] → Each (λ (s : Stop). map_faults bytes s.part s.value ≡ []) walk
quiet bytes [] e = tt
quiet bytes (s ∷ rest) e =
    let here = no_left (deep_faults s ++ map_faults bytes s.part s.value) (faults bytes rest) e in
    (no_right (deep_faults s) (map_faults bytes s.part s.value) here, quiet bytes rest (no_right (deep_faults s ++ map_faults bytes s.part s.value) (faults bytes rest) e))

pub accepted_stands_law : AcceptedStands
accepted_stands_law bytes v regions visits walk small counted root walked none =
    let pos = root_position (length bytes) node_shape in
    let h = held bytes root.holds node_behind pos refl (none_seen bytes) in
    let r = of_tree h.value in
    let p = peaked bytes walked node_behind pos refl in
    let high = height_is h.value r.denotes in
    let low = shallow bytes walk none in
    let known = known_stops node_names bytes root h.acyclic walked in
    let sound = quiet_maps bytes walk (all_named node_names bytes Nothing walk known) (quiet bytes walk none) in
    let legal = r.legal small (p.keyed sound).1 in
    let deep = p.peak_is in
    let shallow_tree : depth r.tree ≤ 64 = omega (arith, deep, high, low) in
    let few = few_wholes bytes root r.tree r.denotes (table_wholes [] r.tree tt legal shallow_tree) in
    record {
      tree = r.tree;
      accepted = accepted_by bytes r.tree v regions visits root r.denotes (legal, shallow_tree, omega (arith, few, counted)) (record { walk = walk; walked = walked; sound = sound_tables bytes walk sound });
    }
