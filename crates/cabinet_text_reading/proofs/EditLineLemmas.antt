-- Lines of a session in which documents grow: the nodes and paths of those that add, and the errors of reading them.
use Rattle.std.proofs.Common.{◌≡◌, ◌≢◌, ℕ, List, [], ◌++◌, sym, ap, ◌∙◌, refl, inl, inr, arith, codes, true, false, All, Vec, Global, String}
use Rattle.std.specs.BTreeMap.{BTreeMap}
use Rattle.std.specs.Fmt.{decimal}
use Rattle.std.proofs.lemmas.Fmt.{decimal_digit}
use Rattle.std.proofs.lemmas.List.{append_cancel_left}
use Rattle.cabinet_text_grammar.specs.Keys.{ordered, hashed, kept}
use Rattle.cabinet_text_grammar.specs.Tree.{truth, number, text, Tree, leaf, shared, nothing, just, list, map, whole, no_trees, more_trees, no_pairs, more_pairs}
use Rattle.cabinet_text_grammar.specs.Spelling.{escaped, spelled}
use Rattle.cabinet_text_grammar.specs.Path.{Step}
use Rattle.cabinet_text_grammar.specs.Line.{get, keys, range, set, IsStep, spelled_path}
use Rattle.cabinet_text_grammar.specs.Answering.{head_of}
use Rattle.cabinet_text_grammar.specs.EditLine.{EditLine, about, put_line, insert_line, remove_line, IsAlone, IsPossibleEdit, edit_spelling}
use Rattle.cabinet_text_grammar.proofs.Escapes.{first_differs, rest_same}
use Rattle.cabinet_text_nodes.specs.View.{node_tree, node_trees, node_pairs}
use Rattle.cabinet_text_nodes.specs.declared.node.Node.{Node}
use Rattle.cabinet_text_nodes.specs.declared.node.Node.TheVariants as node
use Rattle.cabinet_text_nodes.specs.declared.line.LineRefusal.{LineRefusal}
use Rattle.cabinet_text_nodes.specs.declared.line.LineRefusal.TheVariants.{Bad, OutOfMemory}
use Rattle.cabinet_text_nodes.proofs.Views.{node_tree-list, node_tree-ordered, node_tree-hashed, node_tree-kept}
use Rattle.cabinet_text_reading.specs.Added.{RefusesNode, RefusesAdded, RefusesSharedText, SpellsAdded}
use Rattle.cabinet_text_reading.specs.Parts.{IsPath, IsCutAfterHead, RefusesLeaf, RefusesPath}
use Rattle.cabinet_text_reading.specs.Reading.{RefusesLine, RefusesEditLine}
use Rattle.cabinet_text_reading.proofs.Cuts.{has_steps, not_empty}

-- ---- nodes that stand alone

-- the trees of containers without nodes
pub empty_list : (v : Vec Node Global) → v.items ≡ [] → node_tree [] (node.List v) ≡ list no_trees
empty_list v e = node_tree-list [] v ∙ ap (λ ns. list (node_trees [] ns)) e

pub empty_ordered : (m : BTreeMap (String Global) Node) → m.entries ≡ [] → node_tree [] (node.Ordered m) ≡ map ordered no_pairs
empty_ordered m e = node_tree-ordered [] m ∙ ap (λ ps. map ordered (node_pairs [] ps)) e

pub empty_hashed : (m : BTreeMap (String Global) Node) → m.entries ≡ [] → node_tree [] (node.Hashed m) ≡ map hashed no_pairs
empty_hashed m e = node_tree-hashed [] m ∙ ap (λ ps. map hashed (node_pairs [] ps)) e

pub empty_kept : (v : Vec (String Global × Node) Global) → v.items ≡ [] → node_tree [] (node.Kept v) ≡ map kept no_pairs
empty_kept v e = node_tree-kept [] v ∙ ap (λ ps. map kept (node_pairs [] ps)) e

-- a count of 0 has one spelling
of_zero : (word : List ℕ) → word ++ codes "0" ≡ word ++ decimal 0
of_zero word = ap (λ digits. word ++ digits) (sym (decimal_digit 0 (omega arith)))

pub empty_spelled :
    (word bytes : List ℕ) (t u : Tree) → t ≡ u
    → word ++ decimal 0 ≡ spelled (head_of u) → bytes ≡ word ++ codes "0" → bytes ≡ spelled (head_of t)
empty_spelled word bytes t u is line h = h ∙ of_zero word ∙ line ∙ ap (λ v. spelled (head_of v)) (sym is)

-- what is after the sign of a shared text is refused
pub shared_refused :
    (argument : List ℕ) (refusal : LineRefusal) → RefusesSharedText argument refusal
    → RefusesNode (codes "shared '" ++ argument) refusal
shared_refused argument OutOfMemory (t, utf8, e) = (shared t, utf8, ap (λ w. codes "shared '" ++ w) e, tt)
shared_refused argument Bad none = not_spelled
  where
    not_spelled : (t : Tree) → IsAlone t → codes "shared '" ++ argument ≢ spelled (head_of t)
    not_spelled (leaf (truth true)) p h = absurd (first_differs refl h)
    not_spelled (leaf (truth false)) p h = absurd (first_differs refl h)
    not_spelled (leaf (number n)) p h = absurd (first_differs refl h)
    not_spelled (leaf (text t)) p h = absurd (first_differs refl h)
    not_spelled (shared t) p h = none t p (append_cancel_left (codes "shared '") _ _ h)
    not_spelled nothing p h = absurd (first_differs refl h)
    not_spelled (list no_trees) p h = absurd (first_differs refl h)
    not_spelled (map ordered no_pairs) p h = absurd (first_differs refl h)
    not_spelled (map hashed no_pairs) p h = absurd (first_differs refl h)
    not_spelled (map kept no_pairs) p h = absurd (first_differs refl h)
    not_spelled (just t) p h = p
    not_spelled (list (more_trees t ts)) p h = p
    not_spelled (map kind (more_pairs k t ps)) p h = p
    not_spelled (whole t) p h = p

-- bytes that are no other head are refused as a leaf
pub leaf_refused :
    (bytes : List ℕ) (refusal : LineRefusal)
    → ((rest : List ℕ) → bytes ≢ codes "shared '" ++ rest) → bytes ≢ codes "none" → bytes ≢ codes "list 0" → bytes ≢ codes "ordered 0"
    → bytes ≢ codes "hashed 0" → bytes ≢ codes "kept 0"
    → RefusesLeaf bytes refusal → RefusesNode bytes refusal
leaf_refused bytes OutOfMemory no_shared no_none no_list no_ordered no_hashed no_kept (argument, e, (t, utf8, escapes), some) =
    (leaf (text t), utf8, e ∙ ap (λ w. codes "text '" ++ w) escapes, not_empty argument t escapes some)
leaf_refused bytes Bad no_shared no_none no_list no_ordered no_hashed no_kept none = not_spelled
  where
    not_spelled : (t : Tree) → IsAlone t → bytes ≢ spelled (head_of t)
    not_spelled (leaf l) p h = none l p h
    not_spelled (shared t) p h = no_shared (escaped t) h
    not_spelled nothing p h = no_none h
    not_spelled (list no_trees) p h = no_list (h ∙ sym (of_zero (codes "list ")))
    not_spelled (map ordered no_pairs) p h = no_ordered (h ∙ sym (of_zero (codes "ordered ")))
    not_spelled (map hashed no_pairs) p h = no_hashed (h ∙ sym (of_zero (codes "hashed ")))
    not_spelled (map kept no_pairs) p h = no_kept (h ∙ sym (of_zero (codes "kept ")))
    not_spelled (just t) p h = p
    not_spelled (list (more_trees t ts)) p h = p
    not_spelled (map kind (more_pairs k t ps)) p h = p
    not_spelled (whole t) p h = p

-- ---- a head and a path

module _ (bytes front rest : List ℕ) (whole_is : bytes ≡ front ++ rest) where
  pub added_spelled :
      (path : List Step) (t : Tree) → All IsStep path → IsAlone t
      → front ≡ spelled (head_of t) → rest ≡ spelled_path path → SpellsAdded bytes path t
  added_spelled path t steps p e h =
      (steps, p, whole_is ∙ ap (λ w. w ++ rest) e ∙ ap (λ w. spelled (head_of t) ++ w) h)

  -- memory is refused for a node before a path
  pub no_memory_for_node : IsPath rest → RefusesNode front OutOfMemory → RefusesAdded bytes OutOfMemory
  no_memory_for_node (path, steps, h) (t, p, e, takes) = (path, t, added_spelled path t steps p e h, inr takes)

  module _ (cut : IsCutAfterHead bytes front rest) where
    -- a head or the path after it is refused
    pub no_added : ((t : Tree) → IsAlone t → front ≡ spelled (head_of t) → IsPath rest → ⊥) → RefusesAdded bytes Bad
    no_added none path t said =
        let parts = cut t path said.1 said.2 in
        none t said.1 parts.0 (path, said.0, parts.1)

    pub added_path_refused :
        (t : Tree) (refusal : LineRefusal) → IsAlone t
        → front ≡ spelled (head_of t) → RefusesPath rest refusal → RefusesAdded bytes refusal
    added_path_refused t Bad p e none = no_added (λ _ _ _ path. none path)
    added_path_refused t OutOfMemory p e ((path, steps, h), some) = (path, t, added_spelled path t steps p e h, inl (has_steps rest path h some))

-- ---- lines

pub put_refused : (bytes : List ℕ) (refusal : LineRefusal) → RefusesAdded bytes refusal → RefusesEditLine (codes "put " ++ bytes) refusal
put_refused bytes OutOfMemory (path, new, said, takes) =
    (put_line path new, ((said.0, said.1), ap (λ w. codes "put " ++ w) said.2), takes)
put_refused bytes Bad none = not_spelled
  where
    not_spelled : (line : EditLine) → IsPossibleEdit line → codes "put " ++ bytes ≢ edit_spelling line
    not_spelled (about (get path)) p h = absurd (first_differs refl h)
    not_spelled (about (keys path)) p h = absurd (first_differs refl h)
    not_spelled (about (range low high path)) p h = absurd (first_differs refl h)
    not_spelled (about (set path l)) p h = absurd (first_differs refl h)
    not_spelled (put_line path new) p h = none path new (p.0, p.1, append_cancel_left (codes "put ") _ _ h)
    not_spelled (insert_line path new) p h = absurd (first_differs refl h)
    not_spelled (remove_line path) p h = absurd (first_differs refl h)

pub insert_refused : (bytes : List ℕ) (refusal : LineRefusal) → RefusesAdded bytes refusal → RefusesEditLine (codes "insert " ++ bytes) refusal
insert_refused bytes OutOfMemory (path, new, said, takes) =
    (insert_line path new, ((said.0, said.1), ap (λ w. codes "insert " ++ w) said.2), takes)
insert_refused bytes Bad none = not_spelled
  where
    not_spelled : (line : EditLine) → IsPossibleEdit line → codes "insert " ++ bytes ≢ edit_spelling line
    not_spelled (about (get path)) p h = absurd (first_differs refl h)
    not_spelled (about (keys path)) p h = absurd (first_differs refl h)
    not_spelled (about (range low high path)) p h = absurd (first_differs refl h)
    not_spelled (about (set path l)) p h = absurd (first_differs refl h)
    not_spelled (put_line path new) p h = absurd (first_differs refl h)
    not_spelled (insert_line path new) p h = none path new (p.0, p.1, append_cancel_left (codes "insert ") _ _ h)
    not_spelled (remove_line path) p h = absurd (first_differs refl h)

pub remove_refused : (bytes : List ℕ) (refusal : LineRefusal) → RefusesPath bytes refusal → RefusesEditLine (codes "remove" ++ bytes) refusal
remove_refused bytes OutOfMemory ((path, steps, h), some) =
    (remove_line path, (steps, ap (λ w. codes "remove" ++ w) h), has_steps bytes path h some)
remove_refused bytes Bad none = not_spelled
  where
    not_spelled : (line : EditLine) → IsPossibleEdit line → codes "remove" ++ bytes ≢ edit_spelling line
    not_spelled (about (get path)) p h = absurd (first_differs refl h)
    not_spelled (about (keys path)) p h = absurd (first_differs refl h)
    not_spelled (about (range low high path)) p h = absurd (first_differs refl (rest_same h))
    not_spelled (about (set path l)) p h = absurd (first_differs refl h)
    not_spelled (put_line path new) p h = absurd (first_differs refl h)
    not_spelled (insert_line path new) p h = absurd (first_differs refl h)
    not_spelled (remove_line path) p h = none (path, p, append_cancel_left (codes "remove") _ _ h)

pub about_refused :
    (bytes : List ℕ) (refusal : LineRefusal)
    → ((rest : List ℕ) → bytes ≢ codes "put " ++ rest) → ((rest : List ℕ) → bytes ≢ codes "insert " ++ rest)
    → ((rest : List ℕ) → bytes ≢ codes "remove" ++ rest)
    → RefusesLine bytes refusal → RefusesEditLine bytes refusal
about_refused bytes OutOfMemory no_put no_insert no_remove (line, said, takes) = (about line, said, takes)
about_refused bytes Bad no_put no_insert no_remove none = not_spelled
  where
    not_spelled : (line : EditLine) → IsPossibleEdit line → bytes ≢ edit_spelling line
    not_spelled (about line) p h = none line p h
    not_spelled (put_line path new) p h = no_put (spelled (head_of new) ++ spelled_path path) h
    not_spelled (insert_line path new) p h = no_insert (spelled (head_of new) ++ spelled_path path) h
    not_spelled (remove_line path) p h = no_remove (spelled_path path) h
