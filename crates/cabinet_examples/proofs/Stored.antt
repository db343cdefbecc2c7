-- What worked documents store, from their plans.
use Rattle.std.proofs.Common.{◌≡◌, ℕ, [], Some, refl, inl, lit≤, lit<}
use Rattle.archive_shape_layout.specs.Bytes.{align_up}
use Rattle.archive_shape_layout.specs.Shape.{Shape, align_of}
use Rattle.archive_shape_layout.specs.Value.{Value}
use Rattle.archive_shape_layout.specs.Value.Value.{chosen}
use Rattle.archive_shape_layout.specs.Value.Values.{no_values, more_values}
use Rattle.archive_shape_layout.specs.Content.{shape_tagged}
use Rattle.archive_shape_canonical.specs.FirstFit.{first_fit}
use Rattle.archive_shape_canonical.specs.Plan.{Plan, parts, no_plans, more_plans, HasPlan, plan_flat, plan_inline, plan_text, plan_tuple, plan_choice, plan_vector, plan_shared, plan_tree, plan_table, plan_named, plan_slice, plan_str, plan_leaf_node, plans_none, plans_at, plans_entry, number_is_flat}
use Rattle.archive_shape_canonical.specs.Limits.{State, lies_flat, lies_parts, lies_leads, lies_text, lies_first, lies_later, lie_none, lie_more}
use Rattle.archive_shape_canonical.proofs.Evaluate.{run_canonical}
use Rattle.archive_shape_canonical.specs.Hash.{hash_word, words_from, words_of, text_hash}
use Rattle.cabinet_examples.specs.Node.{node_shape, node_names, payloads}
use Rattle.cabinet_examples.specs.Stored.{StoredText, StoredSharedText, StoredNestedMaps}

abbrev Planned : Shape → Value → Plan → Type 0
Planned = HasPlan (first_fit text_hash) node_names

abbrev blank : State
blank = record { pos = 0; met = [] }

-- a node, by its tag's payload
node_plan : {tag : ℕ} {s : Shape} {v : Value} {p : Plan} → shape_tagged tag payloads ≡ Some s → Planned s v p
    → Planned node_shape (chosen tag (more_values v no_values)) (parts (more_plans (align_up 1 (align_of s)) p no_plans))
node_plan e h = plan_named refl (plan_choice e (plans_at h plans_none))

pub stored_text : StoredText
unfolding run_canonical
stored_text = record {
  plan = _;
  has_plan = node_plan refl (plan_text (lit< tt) refl);
  root = 16;
  inner = record { pos = 12; met = [] };
  within = _;
  lies = lies_parts (lie_more (lies_text refl refl) lie_none refl);
  root_is = refl;
  fields_are = refl;
}

pub stored_shared_text : StoredSharedText
unfolding run_canonical
stored_shared_text = record {
  plan = _;
  has_plan =
      node_plan refl (plan_vector (plan_slice refl
      (plans_at (node_plan refl (plan_shared (plan_str refl) refl))
      (plans_at (node_plan refl (plan_shared (plan_str refl) refl)) plans_none))));
  root = 64;
  inner = _;
  within = _;
  lies =
      lies_parts (lie_more
      (lies_leads (lies_parts
      (lie_more (lies_parts (lie_more (lies_first tt lies_flat refl refl refl) lie_none refl))
      (lie_more (lies_parts (lie_more (lies_later 0 (inl refl) refl) lie_none refl)) lie_none refl)
      refl))
      refl refl refl)
      lie_none refl);
  root_is = refl;
  fields_are = refl;
}

pub stored_nested_maps : StoredNestedMaps
unfolding run_canonical hash_word words_from words_of text_hash
stored_nested_maps = record {
  plan = _;
  has_plan =
      node_plan refl (plan_tree (lit≤ tt) refl (plan_leaf_node (lit≤ tt) (plans_entry (plan_inline (lit≤ tt))
      (node_plan refl (plan_table (lit≤ tt) refl refl refl (plans_at (plan_tuple (plans_at (plan_inline (lit≤ tt)) (plans_at
      (node_plan refl (plan_vector (plan_slice refl
      (plans_at (node_plan refl (plan_flat number_is_flat))
      (plans_at (node_plan refl (plan_flat number_is_flat)) plans_none)))))
      plans_none))) plans_none)))
      plans_none)));
  root = 320;
  inner = _;
  within = _;
  lies =
      lies_parts (lie_more
      -- the tree's leaf: a key and a node
      (lies_leads (lies_parts (lie_more lies_flat (lie_more (lies_parts (lie_more
      -- the table's one item: a key and a node
      (lies_leads (lies_parts (lie_more (lies_parts (lie_more lies_flat (lie_more (lies_parts (lie_more
      -- the elements of the list
      (lies_leads (lies_parts
      (lie_more (lies_parts (lie_more lies_flat lie_none refl))
      (lie_more (lies_parts (lie_more lies_flat lie_none refl)) lie_none refl)
      refl))
      refl refl refl)
      lie_none refl)) lie_none refl) refl)) lie_none refl))
      refl refl refl)
      lie_none refl)) lie_none refl) refl))
      refl refl refl)
      lie_none refl);
  root_is = refl;
  fields_are = refl;
}
