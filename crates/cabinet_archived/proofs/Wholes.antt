-- The wholes of nodes: that they are in a table, and what is written of the node in one.
use Rattle.std.proofs.Common.{◌≡◌, ℕ, zero, suc, ◌+◌, ◌<◌, ◌==◌, cond, false, List, [], ◌∷◌, ◌++◌, length, get_or, slice_get, Option, Some, None, Ok, Err, refl, sym, ap, subst, ◌∙◌, arith, append-nil, Global, String, Box, Vec}
use Rattle.std.specs.Prelude.{IfSome, IsTrue}
use Rattle.std.proofs.lemmas.Bool.{ne_eqb}
use Rattle.std.specs.BTreeMap.{BTreeMap}
use Rattle.archive_shape.specs.Bytes.{zeros}
use Rattle.archive_shape_layout.specs.Writing.{WriterMembers}
use Rattle.archive_shape_layout.specs.declared.error.Error.{Error}
use Rattle.archive_shape_canonical.specs.FirstFit.{first_fit}
use Rattle.archive_forms_laws.specs.State.{State}
use Rattle.archive_forms_laws.specs.Regions.{region_at, region_piece, region_fits}
use Rattle.archive_forms_laws.specs.Pointers.{box_spelling}
use Rattle.archive_forms_laws.specs.Shared.{shared_padding}
use Rattle.archive_forms_laws.specs.Serializing.{Serializes}
use Rattle.archive_forms_laws.proofs.Regions.{region_end}
use Rattle.archive_forms_writing.proofs.Laying.{Wrote}
use Rattle.cabinet_text_grammar.specs.Tree.{Tree, depth, IsLegal}
use Rattle.cabinet_text_grammar.specs.Wholes.{has, number_in, numbered, IsNumbered, AreNumbered, ArePairsNumbered, IsTable}
use Rattle.cabinet_text_grammar.proofs.Tables.{number_back, numbered_back, legal_numbered, has_numbered, listed_table, listed_numbered}
use Rattle.cabinet_documents.specs.Node.{node_shape, KnowsNode}
use Rattle.cabinet_documents.specs.Spelling.{maybe_spelling, node_spelling}
use Rattle.cabinet_documents.proofs.Levels.{node_spells_law}
use Rattle.cabinet_text_nodes.specs.View.{node_tree, node_trees, node_pairs, table_of}
use Rattle.cabinet_text_nodes.specs.declared.node.Node.{Node}
use Rattle.cabinet_text_nodes.specs.declared.node.Node.TheVariants as node
use Rattle.cabinet_text_nodes.proofs.Entries.{node_numbered, within_table, some_at}
use Rattle.cabinet_text_nodes.proofs.Views.{node_tree-none, node_tree-some, node_tree-list, node_tree-ordered, node_tree-hashed, node_tree-kept, node_tree-whole}
use Rattle.cabinet_archived.specs.Archived.{archived_as, tree_within, most_within, most_in_pairs, tree_numbered}
use Rattle.cabinet_archived.proofs.Resolved.{whole_is}
use Rattle.cabinet_archived.proofs.Written.{depth_within, box_written}

-- ---- where the wholes of a node are in a table, so are those of what lies in it

module _ (wholes : List Tree) (n : Node) (known : IsNumbered wholes (node_tree wholes n)) where
  pub maybe_numbered : (o : Option (Box Node Global)) → n ≡ node.Maybe o → IfSome (tree_within wholes o) (IsNumbered wholes)
  maybe_numbered None is = tt
  maybe_numbered (Some b) is = subst (IsNumbered wholes) (ap (node_tree wholes) is ∙ node_tree-some wholes b) known

  pub list_numbered : (v : Vec Node Global) → n ≡ node.List v → AreNumbered wholes (node_trees wholes v.items)
  list_numbered v is = subst (IsNumbered wholes) (ap (node_tree wholes) is ∙ node_tree-list wholes v) known

  pub ordered_numbered : (b : BTreeMap (String Global) Node) → n ≡ node.Ordered b → ArePairsNumbered wholes (node_pairs wholes b.entries)
  ordered_numbered b is = subst (IsNumbered wholes) (ap (node_tree wholes) is ∙ node_tree-ordered wholes b) known

  pub hashed_numbered : (b : BTreeMap (String Global) Node) → n ≡ node.Hashed b → ArePairsNumbered wholes (node_pairs wholes b.entries)
  hashed_numbered b is = subst (IsNumbered wholes) (ap (node_tree wholes) is ∙ node_tree-hashed wholes b) known

  pub kept_numbered : (v : Vec (String Global × Node) Global) → n ≡ node.Kept v → ArePairsNumbered wholes (node_pairs wholes v.items)
  kept_numbered v is = subst (IsNumbered wholes) (ap (node_tree wholes) is ∙ node_tree-kept wholes v) known

  pub whole_known : (i : ℕ) → n ≡ node.Whole i → IsTrue (has wholes (tree_numbered (numbered wholes i)))
  whole_known i is = subst (IsNumbered wholes) (ap (node_tree wholes) is ∙ node_tree-whole wholes i ∙ whole_is (numbered wholes i)) known

pub some_numbered : (wholes : List Tree) (o : Option (Box Node Global)) (b : Box Node Global) → o ≡ Some b → IfSome (tree_within wholes o) (IsNumbered wholes) → IsNumbered wholes (node_tree wholes b.value)
some_numbered wholes o b is h = subst (λ x. IfSome (tree_within wholes x) (IsNumbered wholes)) is h

-- ---- what lies in a node lies in fewer containers

module _ (wholes : List Tree) (n : Node) where
  pub maybe_deep : (o : Option (Box Node Global)) → n ≡ node.Maybe o → depth (node_tree wholes n) ≡ suc (depth_within wholes o)
  maybe_deep None is = ap depth (ap (node_tree wholes) is ∙ node_tree-none wholes)
  maybe_deep (Some b) is = ap depth (ap (node_tree wholes) is ∙ node_tree-some wholes b)

  pub list_deep : (v : Vec Node Global) → n ≡ node.List v → depth (node_tree wholes n) ≡ suc (most_within wholes v.items)
  list_deep v is = ap depth (ap (node_tree wholes) is ∙ node_tree-list wholes v)

  pub ordered_deep : (b : BTreeMap (String Global) Node) → n ≡ node.Ordered b → depth (node_tree wholes n) ≡ suc (most_in_pairs wholes b.entries)
  ordered_deep b is = ap depth (ap (node_tree wholes) is ∙ node_tree-ordered wholes b)

  pub hashed_deep : (b : BTreeMap (String Global) Node) → n ≡ node.Hashed b → depth (node_tree wholes n) ≡ suc (most_in_pairs wholes b.entries)
  hashed_deep b is = ap depth (ap (node_tree wholes) is ∙ node_tree-hashed wholes b)

  pub kept_deep : (v : Vec (String Global × Node) Global) → n ≡ node.Kept v → depth (node_tree wholes n) ≡ suc (most_in_pairs wholes v.items)
  kept_deep v is = ap depth (ap (node_tree wholes) is ∙ node_tree-kept wholes v)

pub whole_deep : (wholes : List Tree) (n : Node) (i : ℕ) → n ≡ node.Whole i → depth (node_tree wholes n) ≡ suc (depth (tree_numbered (numbered wholes i)))
whole_deep wholes n i is = ap depth (ap (node_tree wholes) is ∙ node_tree-whole wholes i ∙ whole_is (numbered wholes i))

-- ---- the node in a whole

module _ (ns : List Node) (is : IsTable (table_of ns)) where
  legal_in : (t : Tree) → IsTrue (has (table_of ns) t) → IsLegal t
  legal_in t there = legal_numbered (table_of ns) (number_in (table_of ns) t) t is (numbered_back (table_of ns) t there)

  -- a number that is known is that of a node
  pub whole_within : (n : Node) (i : ℕ) → n ≡ node.Whole i → IsNumbered (table_of ns) (node_tree (table_of ns) n) → i < length ns
  whole_within n i same known =
      let there = whole_known (table_of ns) n known i same in
      within_table ns i (subst IsLegal (sym (whole_is (numbered (table_of ns) i))) (legal_in (tree_numbered (numbered (table_of ns) i)) there))

  get_there : (ms : List Node) (i : ℕ) (n : Node) → i < length ms → n ≡ get_or ms i n → slice_get ms i ≡ Some n
  get_there [] i n less e = absurd (omega (arith, less))
  get_there (m ∷ ms) zero n less e = ap Some (sym e)
  get_there (m ∷ ms) (suc i) n less e = get_there ms i n (omega (arith, less)) e

  -- the number of the tree that has a number is that number
  pub number_is : (i : ℕ) → i < length ns → number_in (table_of ns) (tree_numbered (numbered (table_of ns) i)) ≡ i
  number_is i less =
      let at = some_at ns i less in
      let has = node_numbered ns i at.0 is at.1 in
      ap (λ o. number_in (table_of ns) (tree_numbered o)) has ∙ number_back (table_of ns) i (node_tree (table_of ns) at.0) is has

  module _ (i : ℕ) (n : Node) (less : i < length ns) (at : n ≡ get_or ns i n) where
    has_number : numbered (table_of ns) i ≡ Some (node_tree (table_of ns) n)
    has_number = node_numbered ns i n is (get_there ns i n less at)

    -- the tree with its number is its own
    pub entry_is : node_tree (table_of ns) n ≡ tree_numbered (numbered (table_of ns) i)
    entry_is = sym (ap tree_numbered has_number)

    pub entry_numbered : IsNumbered (table_of ns) (node_tree (table_of ns) n)
    entry_numbered =
        listed_numbered (table_of ns) (node_tree (table_of ns) n) (listed_table (table_of ns) is)
        (has_numbered (table_of ns) i (node_tree (table_of ns) n) has_number)

-- ---- what is written of it

-- a node has bytes, so no zero byte follows it
pub no_padding : (wholes : List Tree) (t : Tree) (st : State) → region_fits (node_spelling wholes) node_shape (t ∷ []) st
    → zeros (shared_padding (region_at (node_spelling wholes) node_shape (t ∷ []) st) (st.pos + length (region_piece (node_spelling wholes) node_shape (t ∷ []) st))) ≡ []
no_padding wholes t st f =
    let fit = first_fit (λ _. 0) in
    let end = region_end fit node_shape KnowsNode (node_spelling wholes) (t ∷ []) (node_spells_law wholes fit t, tt) st f in
    let to = region_at (node_spelling wholes) node_shape (t ∷ []) st in
    let last = st.pos + length (region_piece (node_spelling wholes) node_shape (t ∷ []) st) in
    let apart : (last == to) ≡ false = ne_eqb last to (λ e. omega (arith, e, end)) in
    ap (λ b. zeros (cond b 1 0)) apart

pub wrote_none : {W : Type 0} (m : WriterMembers W) (w : W) (piece : List ℕ) → piece ≡ [] → Wrote m w w piece
wrote_none m w piece e = record {
  gains = λ t. sym (append-nil (m.contents w)) ∙ ap (λ l. m.contents w ++ l) (sym e);
  moves = let len : length piece ≡ 0 = ap length e in omega (arith, len);
  is_quiet = refl;
  keeps = λ k. refl;
}

-- ---- an option that is some

module _ (wholes : List Tree) {W : Type 0} (m : WriterMembers W) (o : Option (Box Node Global)) (b : Box Node Global) (n : Node) (old new : W) where
  pub some_written : (pos : ℕ) → o ≡ Some b → n ≡ b.value → Serializes (box_spelling node_shape (archived_as wholes)) m n old new (Ok pos)
      → Serializes (maybe_spelling (node_spelling wholes)) m (tree_within wholes o) old new (Ok (Some (record { pos = pos })))
  some_written pos is same h =
      subst (λ x. Serializes (maybe_spelling (node_spelling wholes)) m (tree_within wholes x) old new (Ok (Some (record { pos = pos })))) (sym is)
      (λ st at. let r = box_written wholes m n (node_tree wholes b.value) old new (Ok pos) (ap (node_tree wholes) same) h st at in (r.0, (ap (λ q. Some (record { pos = q })) r.1.0, r.1.1, r.1.2)))

  pub some_stopped : (e : Error) → o ≡ Some b → n ≡ b.value → Serializes (box_spelling node_shape (archived_as wholes)) m n old new (Err e)
      → Serializes (maybe_spelling (node_spelling wholes)) m (tree_within wholes o) old new (Err e)
  some_stopped e is same h =
      subst (λ x. Serializes (maybe_spelling (node_spelling wholes)) m (tree_within wholes x) old new (Err e)) (sym is)
      (box_written wholes m n (node_tree wholes b.value) old new (Err e) (ap (node_tree wholes) same) h)
