use Rattle.std.proofs.Common.{◌≡◌, ◌≢◌, [], drop, ℕ, ◌+◌, ◌-◌, ◌*◌, ◌<◌, ◌≤◌, List, Some, Bor, to_z, of_z, refl, sym, ap, ap₂, subst, ◌∙◌, arith, rules}
use Rattle.std.specs.Prelude.{All, IfSome, true, false, ⊤}
use Rattle.std.specs.Int.{w64}
use Rattle.std.proofs.lemmas.Int.{to_z-of_z}
use Rattle.std.proofs.lemmas.List.{drop_all}
use Rattle.archive_shape_layout.specs.Bytes.{window}
use Rattle.archive_shape_layout.specs.Shape.Shape.{number, truth, option, vector}
use Rattle.archive_shape_layout.specs.Shape.Pointee.{str}
use Rattle.archive_shape_layout.specs.Value.Value.{integer, string}
use Rattle.archive_shape.specs.Key.{HeldAt}
use Rattle.archive_forms_rc.specs.Pointers.{HasCounted, IsRcStrAt}
use Rattle.archive_forms_laws.specs.Text.{HasText, IsText}
use Rattle.archive_forms_values.specs.Parts.{IsBoxAt}
use Rattle.archive_forms_values.proofs.Inside.{some_says}
use Rattle.cabinet_text_grammar.specs.Tree as tree
use Rattle.cabinet_text_grammar.specs.Tree.{IsLegal}
use Rattle.cabinet_text_grammar.specs.Wholes.{numbered, with_tree, with_wholes}
use Rattle.cabinet_documents.specs.Denotes.{tagged_value}
use Rattle.cabinet_documents.specs.Node.{node_shape, whole_shape, KnowsNode}
use Rattle.cabinet_archived.proofs.Shared.{counted_there}
use Rattle.cabinet_archives.specs.Found.{OfDocument}
use Rattle.cabinet_archives.specs.Hashed.{table_shape}
use Rattle.cabinet_archives.specs.Kept.{index_shape}
use Rattle.cabinet_archives.specs.Keyed.{knows_pairs}
use Rattle.cabinet_archives.specs.Loading.{AreReadOf, AreWholesOf, HasTree, OfTree, IsEntry, IsLoaded, ArePairsLoaded, loaded_table}
use Rattle.cabinet_archives.specs.Ordered.{map_shape}
use Rattle.cabinet_text_nodes.specs.View.{node_tree}
use Rattle.cabinet_text_nodes.proofs.Views.{node_tree-bool, node_tree-int, node_tree-text, node_tree-shared, node_tree-none, node_tree-some, node_tree-list, node_tree-ordered, node_tree-hashed, node_tree-kept}
use Rattle.cabinet_archives.proofs.Added.{ordered_is, hashed_is}
use Rattle.cabinet_archives.proofs.Loaded.{ElementsLeft, inside_few, boxed_there, payload_tree, passed_on, loaded_leaf, loaded_shared, boxed_tree, just_tree, nothing_tree, inner_tree, whole_tree, element_there, none_loaded, one_loaded, all_loaded}
use Rattle.cabinet_archives.proofs.LoadedEntries.{same_string}
use Rattle.cabinet_archives.proofs.LoadedMemory as memory
use Rattle.cabinet_archives.proofs.LoadedPairs as pairs
use Rattle.cabinet_archives.proofs.LoadedRoot.{tree_as}
use Rattle.cabinet_archives.proofs.LoadedTrees.{Grows, grows_wholes, AreNodesLegal, one_legal, nodes_of, whole_numbered, whole_again}
use Rattle.cabinet_archives.proofs.Put.{of_same}
use Rattle.cabinet_archives.proofs.Payloads.{text_has, text_is, text_tree, leaf_tree, shared_tree}
use Rattle.cabinet_archives.proofs.Ways.{Boxed}
use Rattle.cabinet_archives.proofs.loading.nodes.+loads.Goals as goal

-- ---- nodes

pub load_node-as_str-requires : goal.load_node-as_str-requires
load_node-as_str-requires t c =
    let is = c.in-Text.ensures in
    subst (λ (b : Bor (List ℕ)). HasText b.now c.in-Text.text.pos) (sym is.0) (text_has (λ _. ⊤) c.args.node.bytes.now c.in-Text.text.pos is.2.there)

pub load_node-read-requires-clause-there : goal.load_node-read-requires-clause-there
load_node-read-requires-clause-there t c =
    let is = c.in-Shared.ensures in
    subst (λ (b : Bor (List ℕ)). HasCounted false str (λ _. ⊤) b.now c.in-Shared.pointer.pos) (sym is.0) (counted_there str (λ _. ⊤) c.args.node.bytes.now c.in-Shared.pointer.pos is.2.there)

pub load_node-load_option-requires : goal.load_node-load_option-requires
load_node-load_option-requires t c =
    let there = subst (λ (b : Bor (List ℕ)). HasTree (tagged_value 4) (option Boxed) KnowsNode b.now c.in-Maybe.maybe.pos c.args.outer) (sym c.in-Maybe.ensures.0) (payload_tree c.args.node.bytes.now c.in-Maybe.ensures.2 c.requires.there) in
    let kept = subst (λ (b : Bor (List ℕ)). AreReadOf b.now c.args.texts.now) (sym c.in-Maybe.ensures.0) c.requires.kept in
    let known = subst (λ (b : Bor (List ℕ)). AreWholesOf b.now c.args.wholes.now) (sym c.in-Maybe.ensures.0) c.requires.known in
    search rules

pub load_node-load_list-requires : goal.load_node-load_list-requires
load_node-load_list-requires t c =
    let there = subst (λ (b : Bor (List ℕ)). HasTree (tagged_value 5) (vector node_shape) KnowsNode b.now c.in-List.list.pos c.args.outer) (sym c.in-List.ensures.0) (payload_tree c.args.node.bytes.now c.in-List.ensures.2 c.requires.there) in
    let kept = subst (λ (b : Bor (List ℕ)). AreReadOf b.now c.args.texts.now) (sym c.in-List.ensures.0) c.requires.kept in
    let known = subst (λ (b : Bor (List ℕ)). AreWholesOf b.now c.args.wholes.now) (sym c.in-List.ensures.0) c.requires.known in
    search rules

pub load_node-load_ordered-requires : goal.load_node-load_ordered-requires
load_node-load_ordered-requires t c =
    let there = subst (λ (b : Bor (List ℕ)). HasTree (tagged_value 6) map_shape knows_pairs b.now c.in-Ordered.map.pos c.args.outer) (sym c.in-Ordered.ensures.0) (payload_tree c.args.node.bytes.now c.in-Ordered.ensures.2 c.requires.there) in
    let kept = subst (λ (b : Bor (List ℕ)). AreReadOf b.now c.args.texts.now) (sym c.in-Ordered.ensures.0) c.requires.kept in
    let known = subst (λ (b : Bor (List ℕ)). AreWholesOf b.now c.args.wholes.now) (sym c.in-Ordered.ensures.0) c.requires.known in
    search rules

pub load_node-load_hashed-requires : goal.load_node-load_hashed-requires
load_node-load_hashed-requires t c =
    let there = subst (λ (b : Bor (List ℕ)). HasTree (tagged_value 7) table_shape knows_pairs b.now c.in-Hashed.map.pos c.args.outer) (sym c.in-Hashed.ensures.0) (payload_tree c.args.node.bytes.now c.in-Hashed.ensures.2 c.requires.there) in
    let kept = subst (λ (b : Bor (List ℕ)). AreReadOf b.now c.args.texts.now) (sym c.in-Hashed.ensures.0) c.requires.kept in
    let known = subst (λ (b : Bor (List ℕ)). AreWholesOf b.now c.args.wholes.now) (sym c.in-Hashed.ensures.0) c.requires.known in
    search rules

pub load_node-load_kept-requires : goal.load_node-load_kept-requires
load_node-load_kept-requires t c =
    let there = subst (λ (b : Bor (List ℕ)). HasTree (tagged_value 8) index_shape knows_pairs b.now c.in-Kept.map.pos c.args.outer) (sym c.in-Kept.ensures.0) (payload_tree c.args.node.bytes.now c.in-Kept.ensures.2 c.requires.there) in
    let kept = subst (λ (b : Bor (List ℕ)). AreReadOf b.now c.args.texts.now) (sym c.in-Kept.ensures.0) c.requires.kept in
    let known = subst (λ (b : Bor (List ℕ)). AreWholesOf b.now c.args.wholes.now) (sym c.in-Kept.ensures.0) c.requires.known in
    search rules

pub load_node-load_whole-requires : goal.load_node-load_whole-requires
load_node-load_whole-requires t c =
    let there = subst (λ (b : Bor (List ℕ)). HasTree (tagged_value 9) whole_shape KnowsNode b.now c.in-Whole.whole.pos c.args.outer) (sym c.in-Whole.ensures.0) (payload_tree c.args.node.bytes.now c.in-Whole.ensures.2 c.requires.there) in
    let kept = subst (λ (b : Bor (List ℕ)). AreReadOf b.now c.args.texts.now) (sym c.in-Whole.ensures.0) c.requires.kept in
    let known = subst (λ (b : Bor (List ℕ)). AreWholesOf b.now c.args.wholes.now) (sym c.in-Whole.ensures.0) c.requires.known in
    search rules

pub load_node-returns-in-Bool-clause-tree : goal.load_node-returns-in-Bool-clause-tree
load_node-returns-in-Bool-clause-tree t c =
    let is = c.in-Bool.ensures in
    let leaf = leaf_tree c.args.node.bytes.now c.args.node.pos (tree.truth c.native_of.result) 0 truth (λ _. ⊤) c.in-Bool.value.pos (omega arith) is.2
    (λ w h. c.native_of.ensures w (subst (λ (b : Bor (List ℕ)). HeldAt truth (λ _. ⊤) b.now c.in-Bool.value.pos w) (sym is.0) h)) in
    λ v u h d. loaded_leaf _ (node_tree-bool (loaded_table c.args.wholes.now) _) (leaf v u h d)

pub load_node-returns-in-Int-clause-tree : goal.load_node-returns-in-Int-clause-tree
load_node-returns-in-Int-clause-tree t c =
    let is = c.in-Int.ensures in
    let n = c.native_of-in-Int.result in
    let same = to_z-of_z w64 n (record { sfits = c.native_of-in-Int.type_inv }) in
    let leaf = leaf_tree c.args.node.bytes.now c.args.node.pos (tree.number (to_z w64 (of_z w64 n))) 1 (number w64 true) (λ _. ⊤) c.in-Int.number.pos (omega arith) is.2
    (λ w h. ap integer same ∙ c.native_of-in-Int.ensures w (subst (λ (b : Bor (List ℕ)). HeldAt (number w64 true) (λ _. ⊤) b.now c.in-Int.number.pos w) (sym is.0) h)) in
    λ v u h d. loaded_leaf _ (node_tree-int (loaded_table c.args.wholes.now) _) (leaf v u h d)

pub load_node-returns-in_ok-text-in-Text-clause-tree : goal.load_node-returns-in_ok-text-in-Text-clause-tree
load_node-returns-in_ok-text-in-Text-clause-tree t c = λ v u h d.
    let leaf = text_tree c.as_str.result.now c.in-Text.ensures.0 c.in-Text.ensures.2 c.as_str.ensures v u h d in
    loaded_leaf _ (node_tree-text (loaded_table c.args.wholes.now) _ ∙ ap (λ s. tree.leaf (tree.text s)) c.in_ok-text-in-Text.ensures.copy) leaf

pub load_node-returns-in_ok-read-in-Shared-clause-tree : goal.load_node-returns-in_ok-read-in-Shared-clause-tree
load_node-returns-in_ok-read-in-Shared-clause-tree t c =
    let is = c.in-Shared.ensures in
    let got = c.in_ok-read-in-Shared.ensures.text in
    let shared = shared_tree c.args.node.bytes.now c.args.node.pos c.in-Shared.pointer.pos got.0 got.1 _ is.2
    (subst (λ (b : Bor (List ℕ)). IsRcStrAt false b.now c.in-Shared.pointer.pos got.0 got.1) is.0 got.2)
    (got.3 ∙ ap (λ (b : Bor (List ℕ)). window b.now got.0 got.1) is.0) in
    λ v u h d. loaded_shared _ (node_tree-shared (loaded_table c.args.wholes.now) _) (shared v u h d)

pub load_node-returns-in-Maybe-clause-tree : goal.load_node-returns-in-Maybe-clause-tree
load_node-returns-in-Maybe-clause-tree t c = passed_on c.load_option.result (IsLoaded c.args.wholes.now c.load_option.new.wholes) c.in-Maybe.ensures.0 c.in-Maybe.ensures.2 c.load_option.ensures.tree

pub load_node-returns-in-List-clause-tree : goal.load_node-returns-in-List-clause-tree
load_node-returns-in-List-clause-tree t c = passed_on c.load_list.result (IsLoaded c.args.wholes.now c.load_list.new.wholes) c.in-List.ensures.0 c.in-List.ensures.2 c.load_list.ensures.tree

pub load_node-returns-in-Ordered-clause-tree : goal.load_node-returns-in-Ordered-clause-tree
load_node-returns-in-Ordered-clause-tree t c = passed_on c.load_ordered.result (IsLoaded c.args.wholes.now c.load_ordered.new.wholes) c.in-Ordered.ensures.0 c.in-Ordered.ensures.2 c.load_ordered.ensures.tree

pub load_node-returns-in-Hashed-clause-tree : goal.load_node-returns-in-Hashed-clause-tree
load_node-returns-in-Hashed-clause-tree t c = passed_on c.load_hashed.result (IsLoaded c.args.wholes.now c.load_hashed.new.wholes) c.in-Hashed.ensures.0 c.in-Hashed.ensures.2 c.load_hashed.ensures.tree

pub load_node-returns-in-Kept-clause-tree : goal.load_node-returns-in-Kept-clause-tree
load_node-returns-in-Kept-clause-tree t c = passed_on c.load_kept.result (IsLoaded c.args.wholes.now c.load_kept.new.wholes) c.in-Kept.ensures.0 c.in-Kept.ensures.2 c.load_kept.ensures.tree

pub load_node-returns-in-Whole-clause-tree : goal.load_node-returns-in-Whole-clause-tree
load_node-returns-in-Whole-clause-tree t c = passed_on c.load_whole.result (IsLoaded c.args.wholes.now c.load_whole.new.wholes) c.in-Whole.ensures.0 c.in-Whole.ensures.2 c.load_whole.ensures.tree

-- ---- options

pub load_option-get-requires : goal.load_option-get-requires
load_option-get-requires t c =
    let says = c.in-Some.ensures in
    boxed_there c.args.maybe.bytes.now c.in-Some.boxed.bytes c.requires.there (ap (λ (b : Bor (List ℕ)). b.now) says.0) says.1 says.2

pub load_option-load_node-requires : goal.load_option-load_node-requires
load_option-load_node-requires t c =
    let says = c.in-Some.ensures in
    let boxed = subst (λ (b : Bor (List ℕ)). IsBoxAt node_shape KnowsNode b.now c.in-Some.boxed.pos c.get.result.pos) says.0 c.get.ensures.value in
    let bytes = c.get.ensures.bytes ∙ says.0 in
    let there = tree_as bytes refl (boxed_tree c.args.maybe.bytes.now says.2 says.1 boxed c.requires.there) in
    let kept = subst (λ (b : Bor (List ℕ)). AreReadOf b.now c.args.texts.now) (sym bytes) c.requires.kept in
    let known = subst (λ (b : Bor (List ℕ)). AreWholesOf b.now c.args.wholes.now) (sym bytes) c.requires.known in
    let less : 3 * (64 - (c.args.outer + 1)) + 2 < t = omega (arith, inside_few c.args.maybe.bytes.now (omega arith) c.requires.there) in
    search rules

pub load_option-returns-in_ok-new-in-Some-clause-tree : goal.load_option-returns-in_ok-new-in-Some-clause-tree
load_option-returns-in_ok-new-in-Some-clause-tree t c =
    let says = c.in-Some.ensures in
    let maybe = c.args.maybe in
    let node = c.in_ok-node-in-Some.node in
    let table = loaded_table c.load_node.new.wholes in
    let boxed = subst (λ (b : Bor (List ℕ)). IsBoxAt node_shape KnowsNode b.now c.in-Some.boxed.pos c.get.result.pos) says.0 c.get.ensures.value in
    let loaded = of_same (IsLoaded c.args.wholes.now c.load_node.new.wholes node) (c.get.ensures.bytes ∙ says.0) refl c.in_ok-node-in-Some.ensures.tree in
    let some = just_tree maybe.bytes.now says.2 says.1 boxed (IsLoaded c.args.wholes.now c.load_node.new.wholes node) loaded in
    λ v u h d.
    let one = some v u h d in
    (node_tree-some table _ ∙ ap (λ n. tree.just (node_tree table n)) c.in_ok-new-in-Some.ensures.ok ∙ ap tree.just one.2.0 ∙ sym one.1, one.2.1 ∙ ap (with_wholes (loaded_table c.args.wholes.now)) (sym one.1))

pub load_option-returns-in-None-clause-tree : goal.load_option-returns-in-None-clause-tree
load_option-returns-in-None-clause-tree t c =
    let table = loaded_table c.args.wholes.now in
    let nothing = nothing_tree c.args.maybe.bytes.now c.args.maybe.pos c.in-None.ensures in
    λ v u h d. let is = nothing v u h d in (node_tree-none table ∙ sym is, ap (with_wholes table) (sym is))

-- ---- lists

pub load_list-loop-index-init : goal.load_list-loop-index-init
load_list-loop-index-init t c =
    let table = loaded_table c.args.wholes.now in
    let list = c.args.list in
    let nodes = c.as_slice-elements.result in
    record {
      left =
          subst (λ ns. OfTree (tagged_value 5) (vector node_shape) KnowsNode list.bytes.now list.pos (ElementsLeft list.bytes.now nodes.pos nodes.len 0 table table ns)) (sym c.in_ok-nodes.ensures.items)
          (none_loaded list.bytes.now c.as_slice-elements.ensures.elements table);
      legal = subst (AreNodesLegal table) (sym c.in_ok-nodes.ensures.items) tt;
      kept = c.requires.kept;
      known = c.requires.known;
    }

pub load_list-load_node-requires : goal.load_list-load_node-requires
load_list-load_node-requires t c =
    let list = c.args.list in
    let at = some_says _ _ c.get.result c.unwrap-element.result c.get.ensures c.unwrap-element.ensures in
    let bytes = at.1 ∙ c.as_slice-elements.ensures.bytes in
    let there = tree_as bytes at.2 (element_there list.bytes.now c.as_slice-elements.ensures.elements c.loop-index.index at.0 c.requires.there) in
    let kept = subst (λ (b : Bor (List ℕ)). AreReadOf b.now c.loop-index.texts) (sym bytes) c.loop-index.invariant.kept in
    let known = subst (λ (b : Bor (List ℕ)). AreWholesOf b.now c.loop-index.wholes) (sym bytes) c.loop-index.invariant.known in
    let less : 3 * (64 - (c.args.outer + 1)) + 2 < t = omega (arith, inside_few list.bytes.now (omega arith) c.requires.there) in
    search rules

pub load_list-loop-index-preserved : goal.load_list-loop-index-preserved
load_list-loop-index-preserved t c =
    let list = c.args.list in
    let at = some_says _ _ c.get.result c.unwrap-element.result c.get.ensures c.unwrap-element.ensures in
    let bytes = at.1 ∙ c.as_slice-elements.ensures.bytes in
    let node = c.in_ok-load_node.field-0 in
    let nodes = c.loop-index.nodes.items in
    let new = c.load_node.new.wholes in
    let loaded = of_same (IsLoaded c.loop-index.wholes new node) bytes at.2 c.in_ok-load_node.ensures.tree in
    let there = element_there list.bytes.now c.as_slice-elements.ensures.elements c.loop-index.index at.0 c.requires.there in
    let one = loaded there.value there.tree there.held there.denotes in
    let grows = subst (Grows (loaded_table c.loop-index.wholes)) (sym one.1) (grows_wholes (loaded_table c.loop-index.wholes) there.tree) in
    record {
      left =
          subst (λ ns. OfTree (tagged_value 5) (vector node_shape) KnowsNode list.bytes.now list.pos (ElementsLeft list.bytes.now c.as_slice-elements.result.pos c.as_slice-elements.result.len (c.loop-index.index + 1) (loaded_table c.args.wholes.now) (loaded_table new) ns)) (sym c.in_ok-push.ensures.items)
          (λ v u h d. one_loaded list.bytes.now node c.loop-index.invariant.legal at.0 loaded (c.loop-index.invariant.left v u h d));
      legal = subst (AreNodesLegal (loaded_table new)) (sym c.in_ok-push.ensures.items) (one_legal grows nodes node c.loop-index.invariant.legal (subst IsLegal (sym one.0) there.legal));
      kept = subst (λ (b : Bor (List ℕ)). AreReadOf b.now c.load_node.new.texts) bytes c.in_ok-load_node.ensures.keeps;
      known = subst (λ (b : Bor (List ℕ)). AreWholesOf b.now new) bytes c.in_ok-load_node.ensures.knows;
    }

pub load_list-returns-clause-tree : goal.load_list-returns-clause-tree
load_list-returns-clause-tree t c =
    let most : c.as_slice-elements.result.len ≤ c.loop-index.index = omega (arith, c.loop-index-test.false, c.len-index-end.ensures, c.loop-index.auto.index-end) in
    λ v u h d.
    let all = all_loaded c.args.list.bytes.now most (c.loop-index.invariant.left v u h d) in
    (node_tree-list (loaded_table c.loop-index.wholes) _ ∙ all.0, all.1)

-- ---- entries

pub load_entries-loop-entry-init : goal.load_entries-loop-entry-init
load_entries-loop-entry-init t c =
    let table = loaded_table c.args.wholes.now in
    record {
      left = pairs.none_loaded c.args.bytes.now table c.in_ok-pairs.pairs.items c.args.entries.now c.in_ok-pairs.ensures.items;
      legal = subst (λ is. AreNodesLegal table (nodes_of is)) (sym c.in_ok-pairs.ensures.items) tt;
      kept = c.requires.kept;
      known = c.requires.known;
    }

pub load_entries-load_node-requires : goal.load_entries-load_node-requires
load_entries-load_node-requires t c =
    let bytes = c.new.ensures.bytes in
    let there = tree_as bytes c.new.ensures.pos (c.requires.there c.loop-entry.entry-index _ c.loop-entry-test.true).1 in
    let kept = subst (λ (b : Bor (List ℕ)). AreReadOf b.now c.loop-entry.texts) (sym bytes) c.loop-entry.invariant.kept in
    let known = subst (λ (b : Bor (List ℕ)). AreWholesOf b.now c.loop-entry.wholes) (sym bytes) c.loop-entry.invariant.known in
    let less : 3 * (64 - c.args.outer) + 2 < t = omega arith in
    search rules

pub load_entries-as_str-requires : goal.load_entries-as_str-requires
load_entries-as_str-requires t c =
    let new = c.new-in-loop-entry in
    let key = (c.requires.there c.loop-entry.entry-index _ c.loop-entry-test.true).0 in
    subst (λ (b : Bor (List ℕ)). HasText b.now new.result.pos) (sym new.ensures.bytes) (subst (HasText c.args.bytes.now) (sym new.ensures.pos) (text_has (λ _. ⊤) c.args.bytes.now _ key))

pub load_entries-loop-entry-preserved : goal.load_entries-loop-entry-preserved
load_entries-loop-entry-preserved t c =
    let bytes = c.args.bytes.now in
    let i = c.loop-entry.entry-index in
    let old = loaded_table c.loop-entry.wholes in
    let new = c.load_node.new.wholes in
    let node = c.in_ok-node.node in
    let key = c.in_ok-key.key in
    let items = c.loop-entry.pairs.items in
    let there = (c.requires.there i _ c.loop-entry-test.true).1 in
    let loaded = of_same (IsLoaded c.loop-entry.wholes new node) c.new.ensures.bytes c.new.ensures.pos c.in_ok-node.ensures.tree in
    let one = loaded there.value there.tree there.held there.denotes in
    let grows = subst (Grows old) (sym one.1) (grows_wholes old there.tree) in
    let at = c.new-in-loop-entry in
    let text = subst (λ n. IsText bytes n c.as_str.result.now) at.ensures.pos (subst (λ (b : Bor (List ℕ)). IsText b.now at.result.pos c.as_str.result.now) at.ensures.bytes c.as_str.ensures) in
    record {
      left = λ ps lead.
          subst (λ is. pairs.PairsLeft bytes (loaded_table c.args.wholes.now) (loaded_table new) is (drop (i + 1) c.args.entries.now) ps) (sym c.in_ok-push.ensures.items)
          (pairs.one_loaded bytes key node c.loop-entry.invariant.legal (λ k h. c.in_ok-key.ensures.ok ∙ same_string (text_is (λ _. ⊤) bytes _ c.as_str.result.now text (string k) h)) loaded
          (subst (λ es. pairs.PairsLeft bytes (loaded_table c.args.wholes.now) old items es ps) (pairs.drop_here c.args.entries.now i _ c.loop-entry-test.true) (c.loop-entry.invariant.left ps lead)));
      legal =
          subst (λ is. AreNodesLegal (loaded_table new) (nodes_of is)) (sym c.in_ok-push.ensures.items)
          (subst (AreNodesLegal (loaded_table new)) (sym (pairs.nodes_more bytes items key node)) (one_legal grows (nodes_of items) node c.loop-entry.invariant.legal (subst IsLegal (sym one.0) there.legal)));
      kept = subst (λ (b : Bor (List ℕ)). AreReadOf b.now c.load_node.new.texts) c.new.ensures.bytes c.in_ok-node.ensures.keeps;
      known = subst (λ (b : Bor (List ℕ)). AreWholesOf b.now new) c.new.ensures.bytes c.in_ok-node.ensures.knows;
    }

pub load_entries-returns-clause-pairs : goal.load_entries-returns-clause-pairs
load_entries-returns-clause-pairs t c = λ ps lead.
    pairs.all_loaded c.args.bytes.now (drop_all c.loop-entry.entry-index c.args.entries.now (omega (arith, c.loop-entry-test.false, c.loop-entry.auto.entry-index-end))) (c.loop-entry.invariant.left ps lead)

-- ---- maps

pub load_ordered-ordered_entries-requires : goal.load_ordered-ordered_entries-requires
load_ordered-ordered_entries-requires t c = (c.args.outer, c.requires.there)

pub load_ordered-load_entries-requires : goal.load_ordered-load_entries-requires
load_ordered-load_entries-requires t c =
    let few = inside_few c.args.map.bytes.now (omega arith) c.requires.there in
    let entries = c.in_ok-entries.ensures.entries c.args.outer c.requires.there in
    let there = subst (All (IsEntry c.bytes.result.now (c.args.outer + 1))) (sym c.as_slice.ensures.value) (subst (λ (b : Bor (List ℕ)). All (IsEntry b.now (c.args.outer + 1)) c.in_ok-entries.entries.items) (sym c.bytes.ensures) entries.0) in
    let kept = subst (λ (b : Bor (List ℕ)). AreReadOf b.now c.args.texts.now) (sym c.bytes.ensures) c.requires.kept in
    let known = subst (λ (b : Bor (List ℕ)). AreWholesOf b.now c.args.wholes.now) (sym c.bytes.ensures) c.requires.known in
    let low : c.args.outer + 1 ≤ 64 = omega (arith, few) in
    let less : 3 * (64 - (c.args.outer + 1)) + 3 < t = omega (arith, few) in
    search rules

pub load_hashed-hashed_entries-requires : goal.load_hashed-hashed_entries-requires
load_hashed-hashed_entries-requires t c = (c.args.outer, c.requires.there)

pub load_hashed-load_entries-requires : goal.load_hashed-load_entries-requires
load_hashed-load_entries-requires t c =
    let few = inside_few c.args.map.bytes.now (omega arith) c.requires.there in
    let entries = c.in_ok-entries.ensures.entries c.args.outer c.requires.there in
    let there = subst (All (IsEntry c.bytes.result.now (c.args.outer + 1))) (sym c.as_slice.ensures.value) (subst (λ (b : Bor (List ℕ)). All (IsEntry b.now (c.args.outer + 1)) c.in_ok-entries.entries.items) (sym c.bytes.ensures) entries.0) in
    let kept = subst (λ (b : Bor (List ℕ)). AreReadOf b.now c.args.texts.now) (sym c.bytes.ensures) c.requires.kept in
    let known = subst (λ (b : Bor (List ℕ)). AreWholesOf b.now c.args.wholes.now) (sym c.bytes.ensures) c.requires.known in
    let low : c.args.outer + 1 ≤ 64 = omega (arith, few) in
    let less : 3 * (64 - (c.args.outer + 1)) + 3 < t = omega (arith, few) in
    search rules

pub load_kept-kept_entries-requires : goal.load_kept-kept_entries-requires
load_kept-kept_entries-requires t c = (c.args.outer, c.requires.there)

pub load_kept-load_entries-requires : goal.load_kept-load_entries-requires
load_kept-load_entries-requires t c =
    let few = inside_few c.args.map.bytes.now (omega arith) c.requires.there in
    let entries = c.in_ok-entries.ensures.entries c.args.outer c.requires.there in
    let there = subst (All (IsEntry c.bytes.result.now (c.args.outer + 1))) (sym c.as_slice.ensures.value) (subst (λ (b : Bor (List ℕ)). All (IsEntry b.now (c.args.outer + 1)) c.in_ok-entries.entries.items) (sym c.bytes.ensures) entries.0) in
    let kept = subst (λ (b : Bor (List ℕ)). AreReadOf b.now c.args.texts.now) (sym c.bytes.ensures) c.requires.kept in
    let known = subst (λ (b : Bor (List ℕ)). AreWholesOf b.now c.args.wholes.now) (sym c.bytes.ensures) c.requires.known in
    let low : c.args.outer + 1 ≤ 64 = omega (arith, few) in
    let less : 3 * (64 - (c.args.outer + 1)) + 3 < t = omega (arith, few) in
    search rules

pub load_ordered-returns-clause-tree : goal.load_ordered-returns-clause-tree
load_ordered-returns-clause-tree t c =
    let old = c.args.wholes.now in
    let new = c.load_entries.new.wholes in
    let loaded = pairs.led (ArePairsLoaded old new c.in_ok-pairs.pairs.items) c.bytes.ensures c.as_slice.ensures.value c.in_ok-pairs.ensures.pairs in
    let all = pairs.sorted_map c.args.map.bytes.now c.in_ok-entries.entries.items c.in_ok-entries.ensures.entries c.requires.there old new c.in_ok-pairs.pairs.items loaded ordered_is c.in_ok-into_map.field-0.entries (c.in_ok-into_map.ensures.added (loaded_table new)) in
    λ v u h d. let one = all v u h d in (node_tree-ordered (loaded_table new) _ ∙ one.0, one.1)

pub load_hashed-returns-clause-tree : goal.load_hashed-returns-clause-tree
load_hashed-returns-clause-tree t c =
    let old = c.args.wholes.now in
    let new = c.load_entries.new.wholes in
    let loaded = pairs.led (ArePairsLoaded old new c.in_ok-pairs.pairs.items) c.bytes.ensures c.as_slice.ensures.value c.in_ok-pairs.ensures.pairs in
    let all = pairs.sorted_map c.args.map.bytes.now c.in_ok-entries.entries.items c.in_ok-entries.ensures.entries c.requires.there old new c.in_ok-pairs.pairs.items loaded hashed_is c.in_ok-into_map.field-0.entries (c.in_ok-into_map.ensures.added (loaded_table new)) in
    λ v u h d. let one = all v u h d in (node_tree-hashed (loaded_table new) _ ∙ one.0, one.1)

pub load_kept-returns-clause-tree : goal.load_kept-returns-clause-tree
load_kept-returns-clause-tree t c =
    let old = c.args.wholes.now in
    let new = c.load_entries.new.wholes in
    let loaded = pairs.led (ArePairsLoaded old new c.in_ok-pairs.pairs.items) c.bytes.ensures c.as_slice.ensures.value c.in_ok-pairs.ensures.pairs in
    let all = pairs.pairs_map c.args.map.bytes.now c.in_ok-entries.entries.items c.in_ok-entries.ensures.entries c.requires.there old new c.in_ok-pairs.pairs.items loaded in
    λ v u h d. let one = all v u h d in (node_tree-kept (loaded_table new) _ ∙ one.0, one.1)

-- ---- wholes

pub load_whole-returns-in-Some-clause-tree : goal.load_whole-returns-in-Some-clause-tree
load_whole-returns-in-Some-clause-tree t c =
    let whole = c.args.whole in
    let table = loaded_table c.args.wholes.now in
    let numbered_in =
    subst (λ o. IfSome o (λ n. OfDocument whole.bytes.now c.get-node.result.pos (λ u. numbered table n ≡ Some u))) (sym c.in-Some.ensures)
    (c.requires.known.read c.get-node.result.pos) in
    λ v u h d.
    let one = whole_tree whole.bytes.now c.get-node.ensures.value (λ u. numbered table c.in-Some.number ≡ Some u) numbered_in v u h d in
    (whole_numbered table c.in-Some.number one.0 u one.2 one.1, whole_again table c.requires.known.table c.in-Some.number one.0 u one.2 one.1)

pub load_whole-load_node-requires : goal.load_whole-load_node-requires
load_whole-load_node-requires t c =
    let whole = c.args.whole in
    let bytes = c.get-node.ensures.bytes in
    let there = tree_as bytes refl (inner_tree whole.bytes.now c.get-node.ensures.value c.requires.there) in
    let kept = subst (λ (b : Bor (List ℕ)). AreReadOf b.now c.args.texts.now) (sym bytes) c.requires.kept in
    let known = subst (λ (b : Bor (List ℕ)). AreWholesOf b.now c.args.wholes.now) (sym bytes) c.requires.known in
    let less : 3 * (64 - (c.args.outer + 1)) + 2 < t = omega (arith, inside_few whole.bytes.now (omega arith) c.requires.there) in
    search rules

pub load_whole-share-requires : goal.load_whole-share-requires
load_whole-share-requires t c =
    let whole = c.args.whole in
    let there = tree_as c.get-node.ensures.bytes refl (inner_tree whole.bytes.now c.get-node.ensures.value c.requires.there) in
    let one = c.in_ok-inner.ensures.tree there.value there.tree there.held there.denotes in
    let low = there.low in
    record { legal = subst IsLegal (sym one.0) there.legal; low = subst (λ u. tree.depth u < 64) (sym one.0) (omega (arith, low)) }

pub load_whole-keep-requires : goal.load_whole-keep-requires
load_whole-keep-requires t c = record {
  known = c.in_ok-number.ensures.knows c.get-node.result.bytes.now c.in_ok-inner.ensures.knows;
  read = λ v u h d. c.in_ok-number.ensures.number c.get-node.result.bytes.now c.in_ok-inner.ensures.knows ∙ ap Some (c.in_ok-inner.ensures.tree v u h d).0;
}

pub load_whole-returns-clause-tree : goal.load_whole-returns-clause-tree
load_whole-returns-clause-tree t c =
    let old = c.args.wholes.now in
    let bytes = c.get-node.result.bytes.now in
    let inner = c.load_node.new.wholes in
    let node = c.in_ok-inner.inner in
    let number = c.in_ok-number.number in
    let new = loaded_table c.keep.new.self in
    let knows = c.in_ok-inner.ensures.knows in
    let loaded = of_same (IsLoaded old inner node) c.get-node.ensures.bytes refl c.in_ok-inner.ensures.tree in
    λ v u h d.
    let one = whole_tree c.args.whole.bytes.now c.get-node.ensures.value (IsLoaded old inner node) loaded v u h d in
    let at = ap (λ ts. numbered ts number) c.keep.ensures.table ∙ c.in_ok-number.ensures.number bytes knows ∙ ap Some one.2.0 in (
      whole_numbered new number one.0 u at one.1,
      c.keep.ensures.table ∙ c.in_ok-number.ensures.table bytes knows ∙ ap₂ with_tree one.2.1 one.2.0 ∙ ap (with_wholes (loaded_table old)) (sym one.1),
    )

-- ---- memory

pub load_node-returns-in_err-text-in-Text-clause-memory : goal.load_node-returns-in_err-text-in-Text-clause-memory
load_node-returns-in_err-text-in-Text-clause-memory t c =
    memory.on_err c.from_residual.result (memory.text_takes c.args.node.bytes.now c.as_str.result.now (text_tree c.as_str.result.now c.in-Text.ensures.0 c.in-Text.ensures.2 c.as_str.ensures) c.in_err-text-in-Text.ensures.memory)

pub load_node-returns-in_err-read-in-Shared-clause-memory : goal.load_node-returns-in_err-read-in-Shared-clause-memory
load_node-returns-in_err-read-in-Shared-clause-memory t c = memory.on_err c.from_residual-in_err-read-in-Shared.result (memory.shared_takes c.args.node.bytes.now c.in-Shared.ensures.2)

pub load_node-returns-in-Maybe-clause-memory : goal.load_node-returns-in-Maybe-clause-memory
load_node-returns-in-Maybe-clause-memory t c = memory.passed_takes c.load_option.result c.in-Maybe.ensures.0 c.in-Maybe.ensures.2 c.load_option.ensures.memory

pub load_node-returns-in-List-clause-memory : goal.load_node-returns-in-List-clause-memory
load_node-returns-in-List-clause-memory t c = memory.passed_takes c.load_list.result c.in-List.ensures.0 c.in-List.ensures.2 c.load_list.ensures.memory

pub load_node-returns-in-Ordered-clause-memory : goal.load_node-returns-in-Ordered-clause-memory
load_node-returns-in-Ordered-clause-memory t c = memory.passed_takes c.load_ordered.result c.in-Ordered.ensures.0 c.in-Ordered.ensures.2 c.load_ordered.ensures.memory

pub load_node-returns-in-Hashed-clause-memory : goal.load_node-returns-in-Hashed-clause-memory
load_node-returns-in-Hashed-clause-memory t c = memory.passed_takes c.load_hashed.result c.in-Hashed.ensures.0 c.in-Hashed.ensures.2 c.load_hashed.ensures.memory

pub load_node-returns-in-Kept-clause-memory : goal.load_node-returns-in-Kept-clause-memory
load_node-returns-in-Kept-clause-memory t c = memory.passed_takes c.load_kept.result c.in-Kept.ensures.0 c.in-Kept.ensures.2 c.load_kept.ensures.memory

pub load_node-returns-in-Whole-clause-memory : goal.load_node-returns-in-Whole-clause-memory
load_node-returns-in-Whole-clause-memory t c = memory.passed_takes c.load_whole.result c.in-Whole.ensures.0 c.in-Whole.ensures.2 c.load_whole.ensures.memory

pub load_option-returns-in_err-node-in-Some-clause-memory : goal.load_option-returns-in_err-node-in-Some-clause-memory
load_option-returns-in_err-node-in-Some-clause-memory t c = memory.on_err c.from_residual.result (memory.just_takes c.args.maybe.bytes.now c.in-Some.ensures.2)

pub load_option-returns-in_err-new-in-Some-clause-memory : goal.load_option-returns-in_err-new-in-Some-clause-memory
load_option-returns-in_err-new-in-Some-clause-memory t c = memory.on_err c.from_residual-in_err-new-in-Some.result (memory.just_takes c.args.maybe.bytes.now c.in-Some.ensures.2)

pub load_list-returns-in_err-nodes-clause-memory : goal.load_list-returns-in_err-nodes-clause-memory
load_list-returns-in_err-nodes-clause-memory t c =
    let some : c.len.result ≡ 0 → ⊥ = λ none. let never = c.in_err-nodes.ensures.succeeds none in absurd (cc) in
    memory.on_err c.from_residual.result (memory.list_takes c.args.list.bytes.now c.as_slice-elements.ensures.elements (omega (arith, some, c.len.ensures)))

pub load_list-returns-in_err-load_node-clause-memory : goal.load_list-returns-in_err-load_node-clause-memory
load_list-returns-in_err-load_node-clause-memory t c =
    memory.on_err c.from_residual-in_err-load_node.result (memory.list_takes c.args.list.bytes.now c.as_slice-elements.ensures.elements (omega (arith, c.loop-index-test.true, c.len-index-end.ensures)))

pub load_list-returns-in_err-push-clause-memory : goal.load_list-returns-in_err-push-clause-memory
load_list-returns-in_err-push-clause-memory t c =
    memory.on_err c.from_residual-in_err-push.result (memory.list_takes c.args.list.bytes.now c.as_slice-elements.ensures.elements (omega (arith, c.loop-index-test.true, c.len-index-end.ensures)))

pub load_ordered-returns-in_err-pairs-clause-memory : goal.load_ordered-returns-in_err-pairs-clause-memory
load_ordered-returns-in_err-pairs-clause-memory t c =
    memory.on_err c.from_residual-in_err-pairs.result (memory.map_takes c.args.map.bytes.now c.in_ok-entries.entries.items (subst (λ es. es ≢ []) c.as_slice.ensures.value c.in_err-pairs.ensures.memory)
    (c.in_ok-entries.ensures.entries c.args.outer c.requires.there).1)

pub load_ordered-returns-in_err-into_map-clause-memory : goal.load_ordered-returns-in_err-into_map-clause-memory
load_ordered-returns-in_err-into_map-clause-memory t c =
    let old = c.args.wholes.now in
    let new = c.load_entries.new.wholes in
    let loaded = pairs.led (ArePairsLoaded old new c.in_ok-pairs.pairs.items) c.bytes.ensures c.as_slice.ensures.value c.in_ok-pairs.ensures.pairs in
    memory.on_err c.from_residual-in_err-into_map.result (memory.loaded_takes c.args.map.bytes.now (loaded_table new) c.in_ok-pairs.pairs.items c.in_err-into_map.ensures.memory
    (pairs.pairs_map c.args.map.bytes.now c.in_ok-entries.entries.items c.in_ok-entries.ensures.entries c.requires.there old new c.in_ok-pairs.pairs.items loaded))

pub load_hashed-returns-in_err-pairs-clause-memory : goal.load_hashed-returns-in_err-pairs-clause-memory
load_hashed-returns-in_err-pairs-clause-memory t c =
    memory.on_err c.from_residual-in_err-pairs.result (memory.map_takes c.args.map.bytes.now c.in_ok-entries.entries.items (subst (λ es. es ≢ []) c.as_slice.ensures.value c.in_err-pairs.ensures.memory)
    (c.in_ok-entries.ensures.entries c.args.outer c.requires.there).1)

pub load_hashed-returns-in_err-into_map-clause-memory : goal.load_hashed-returns-in_err-into_map-clause-memory
load_hashed-returns-in_err-into_map-clause-memory t c =
    let old = c.args.wholes.now in
    let new = c.load_entries.new.wholes in
    let loaded = pairs.led (ArePairsLoaded old new c.in_ok-pairs.pairs.items) c.bytes.ensures c.as_slice.ensures.value c.in_ok-pairs.ensures.pairs in
    memory.on_err c.from_residual-in_err-into_map.result (memory.loaded_takes c.args.map.bytes.now (loaded_table new) c.in_ok-pairs.pairs.items c.in_err-into_map.ensures.memory
    (pairs.pairs_map c.args.map.bytes.now c.in_ok-entries.entries.items c.in_ok-entries.ensures.entries c.requires.there old new c.in_ok-pairs.pairs.items loaded))

pub load_kept-returns-in_err-pairs-clause-memory : goal.load_kept-returns-in_err-pairs-clause-memory
load_kept-returns-in_err-pairs-clause-memory t c =
    memory.on_err c.from_residual-in_err-pairs.result (memory.map_takes c.args.map.bytes.now c.in_ok-entries.entries.items (subst (λ es. es ≢ []) c.as_slice.ensures.value c.in_err-pairs.ensures.memory)
    (c.in_ok-entries.ensures.entries c.args.outer c.requires.there).1)

pub load_whole-returns-in_err-inner-clause-memory : goal.load_whole-returns-in_err-inner-clause-memory
load_whole-returns-in_err-inner-clause-memory t c = memory.on_err c.from_residual.result (memory.whole_takes c.args.whole.bytes.now c.get-node.ensures.value)

pub load_whole-returns-in_err-number-clause-memory : goal.load_whole-returns-in_err-number-clause-memory
load_whole-returns-in_err-number-clause-memory t c = memory.on_err c.from_residual-in_err-number.result (memory.whole_takes c.args.whole.bytes.now c.get-node.ensures.value)

pub load_whole-returns-in_err-keep-clause-memory : goal.load_whole-returns-in_err-keep-clause-memory
load_whole-returns-in_err-keep-clause-memory t c = memory.on_err c.from_residual-in_err-keep.result (memory.whole_takes c.args.whole.bytes.now c.get-node.ensures.value)
