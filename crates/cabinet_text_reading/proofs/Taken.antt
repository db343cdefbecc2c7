-- One more item that the code takes in.
use Rattle.std.proofs.Common.{◌≡◌, ◌≢◌, ℕ, ◌≤◌, List, [], ◌∷◌, sym, ap, ◌∙◌, refl, inl, inr, arith, Global, String, Result, Ok, Err}
use Rattle.std.specs.Result.{OnErr}
use Rattle.std.proofs.lemmas.Bool.Decides.{eqb_tells}
use Rattle.cabinet_text_grammar.specs.Frame as spec
use Rattle.cabinet_text_grammar.specs.Due.{AdmitsHead}
use Rattle.cabinet_text_grammar.specs.Item.{Item, leaf_item, shared_item, none_item, some_item, list_item, map_item, key_item, whole_item, wholes_item, whole_head}
use Rattle.cabinet_text_grammar.specs.Keys.{MapKind}
use Rattle.cabinet_text_grammar.specs.Tree.{Tree, truth, number, text}
use Rattle.cabinet_text_grammar.specs.Memory.{TakesMemory}
use Rattle.cabinet_text_grammar.specs.Machine.{going, plug, plug_whole, step}
use Rattle.cabinet_text_nodes.specs.View.{whole_of, node_tree, node_trees, node_pairs}
use Rattle.cabinet_text_nodes.specs.declared.node.Node.{Node}
use Rattle.cabinet_text_nodes.specs.declared.node.Node.TheVariants as node
use Rattle.cabinet_text_nodes.proofs.Views.{node_tree-whole}

pub pushed_list : (table : List Tree) (n : ℕ) (ns : List Node) (fs : List spec.Frame) → ns ≡ [] → n ≢ 0 → going (spec.in_list n (node_trees table ns) ∷ fs) ≡ step table fs (list_item n)
pushed_list table n ns fs empty some =
    elim (eqb_tells 0 n) [
      | inl is ↦ absurd (some (sym is.1))
      | inr differs ↦ rw (empty, differs.0) refl
    ]

pub pushed_pairs : (table : List Tree) (kind : MapKind) (n : ℕ) (ps : List (String Global × Node)) (fs : List spec.Frame) → ps ≡ [] → n ≢ 0 → going (spec.at_key kind n (node_pairs table ps) ∷ fs) ≡ step table fs (map_item kind n)
pushed_pairs table kind n ps fs empty some =
    elim (eqb_tells 0 n) [
      | inl is ↦ absurd (some (sym is.1))
      | inr differs ↦ rw (empty, differs.0) refl
    ]

pub plugged_whole : (table : List Tree) (depth n : ℕ) (fs : List spec.Frame) → AdmitsHead table depth (whole_item n) → plug (node_tree table (node.Whole n)) fs ≡ step table fs (whole_item n)
plugged_whole table depth n fs (fits, (t, found, room)) =
    ap (λ t. plug t fs) (node_tree-whole table n ∙ ap whole_of found) ∙ sym (ap (plug_whole fs) found)

-- an item that takes memory inside some containers takes it inside more
pub takes_inside : (few many : ℕ) (i : Item) → few ≤ many → TakesMemory few i → TakesMemory many i
takes_inside few many (leaf_item (truth b)) more takes = omega (arith, takes, more)
takes_inside few many (leaf_item (number n)) more takes = omega (arith, takes, more)
takes_inside few many (leaf_item (text t)) more (inl some) = inl some
takes_inside few many (leaf_item (text t)) more (inr inner) = inr (omega (arith, inner, more))
takes_inside few many (shared_item t) more takes = tt
takes_inside few many none_item more takes = omega (arith, takes, more)
takes_inside few many some_item more takes = tt
takes_inside few many (list_item n) more (inl some) = inl some
takes_inside few many (list_item n) more (inr inner) = inr (omega (arith, inner, more))
takes_inside few many (map_item kind n) more takes = (takes.0, omega (arith, takes.1, more))
takes_inside few many (key_item k) more takes = tt
takes_inside few many (whole_item n) more takes = omega (arith, takes, more)
takes_inside few many (wholes_item n) more takes = absurd takes
takes_inside few many whole_head more takes = absurd takes

-- nothing is asked of an error
pub on_err_all : {T E : Type 0} (r : Result T E) → OnErr r (Unit {0})
on_err_all (Ok x) = tt
on_err_all (Err e) = tt

-- what holds in any case holds of an error
pub on_err_given : {T E P : Type 0} (r : Result T E) → P → OnErr r P
on_err_given (Ok x) p = tt
on_err_given (Err e) p = p
