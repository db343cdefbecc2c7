-- How a node is archived: as its tree under a table, by itself or beside the nodes of its document's table.
use Rattle.std.specs.Prelude.{ℕ, List, Box, Option, Some, None, String}
use Rattle.std.specs.Global.{Global}
use Rattle.archive_forms_laws.specs.Spelling.{Spelling}
use Rattle.archive_forms_laws.specs.Forms.{seen_as, kept_as}
use Rattle.cabinet_text_grammar.specs.Tree.{Tree, most_depth, pairs_depth}
use Rattle.cabinet_documents.specs.Resolver.{Resolver}
use Rattle.cabinet_documents.specs.Resolver as resolver
use Rattle.cabinet_documents.specs.Spelling.{node_spelling, trees_in, pairs_in}
use Rattle.cabinet_text_nodes.specs.View.{no_tree, node_tree, node_trees, node_pairs, table_of}
use Rattle.cabinet_text_nodes.specs.declared.node.Node.{Node}
use Rattle.cabinet_archived.specs.declared.node_in.NodeIn.{NodeIn}
use Rattle.cabinet_archived.specs.declared.resolver.NodeResolver.{NodeResolver}
use Rattle.cabinet_archived.specs.declared.resolver.NodeResolver.TheVariants as variant

-- what is kept of a node's data, in the type that the code has for it, and back
abbrev pub node_resolver : Resolver → NodeResolver
node_resolver resolver.leaf = variant.Leaf
node_resolver (resolver.text r) = variant.Text r
node_resolver (resolver.shared r) = variant.Shared r
node_resolver (resolver.maybe r) = variant.Maybe r
node_resolver (resolver.list r) = variant.List r
node_resolver (resolver.ordered r) = variant.Ordered r
node_resolver (resolver.hashed r) = variant.Hashed r
node_resolver (resolver.kept r) = variant.Kept r
node_resolver (resolver.whole r) = variant.Whole r

abbrev pub resolver_in : NodeResolver → Resolver
resolver_in variant.Leaf = resolver.leaf
resolver_in (variant.Text r) = resolver.text r
resolver_in (variant.Shared r) = resolver.shared r
resolver_in (variant.Maybe r) = resolver.maybe r
resolver_in (variant.List r) = resolver.list r
resolver_in (variant.Ordered r) = resolver.ordered r
resolver_in (variant.Hashed r) = resolver.hashed r
resolver_in (variant.Kept r) = resolver.kept r
resolver_in (variant.Whole r) = resolver.whole r

abbrev pub archived_as : List Tree → Spelling Node NodeResolver
archived_as table = kept_as node_resolver resolver_in (seen_as (node_tree table) (node_spelling table))

-- the table of a node beside the nodes that have its trees
abbrev pub table_in : NodeIn → List Tree
table_in x = table_of x.wholes.now

abbrev pub archived_in : Spelling NodeIn NodeResolver
archived_in = record {
  value = λ x st. (archived_as (table_in x)).value x.node.now st;
  plain = λ x. (archived_as (table_in x)).plain x.node.now;
  piece = λ x st. (archived_as (table_in x)).piece x.node.now st;
  resolver = λ x st. (archived_as (table_in x)).resolver x.node.now st;
  met = λ x st. (archived_as (table_in x)).met x.node.now st;
  own = λ x r pos. (archived_as (table_in x)).own x.node.now r pos;
  piece_fits = λ x st. (archived_as (table_in x)).piece_fits x.node.now st;
  piece_refused = λ x st e. (archived_as (table_in x)).piece_refused x.node.now st e;
  own_fits = λ x r pos. (archived_as (table_in x)).own_fits x.node.now r pos;
  own_refused = λ x r pos e. (archived_as (table_in x)).own_refused x.node.now r pos e;
  suits = λ fit keys x. (archived_as (table_in x)).suits fit keys x.node.now;
}

module _ (table : List Tree) where
  -- the tree of the node in an option, if there is one
  abbrev pub tree_within : Option (Box Node Global) → Option Tree
  tree_within None = None
  tree_within (Some b) = Some (node_tree table b.value)

  -- the trees of the elements of a list
  abbrev pub trees_within : List Node → List Tree
  trees_within ns = trees_in (node_trees table ns)

  -- the largest number of containers that lie in one another in a list
  abbrev pub most_within : List Node → ℕ
  most_within ns = most_depth (node_trees table ns)

  -- the keys and the trees of the pairs of a map
  abbrev pub pairs_within : List (String Global × Node) → List (List ℕ × Tree)
  pairs_within ps = pairs_in (node_pairs table ps)

  -- the largest number of containers that lie in one another in the pairs of a map
  abbrev pub most_in_pairs : List (String Global × Node) → ℕ
  most_in_pairs ps = pairs_depth (node_pairs table ps)

-- the tree that has a number of a table
abbrev pub tree_numbered : Option Tree → Tree
tree_numbered None = no_tree
tree_numbered (Some t) = t
