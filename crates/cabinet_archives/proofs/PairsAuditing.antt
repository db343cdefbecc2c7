-- What an audit finds of a map of pairs, from what it finds of the map's table and of the nodes in it.
use Rattle.std.proofs.Common.{◌≡◌, ◌∙◌, ℕ, ◌+◌, ◌≤◌, Bor, List, [], ◌∷◌, ◌++◌, map, Result, Ok, Err, refl, sym, ap, subst, arith, lt-ltb}
use Rattle.std.specs.Prelude.{⊤, All}
use Rattle.std.specs.List.{flat_map}
use Rattle.archive_shape_layout.specs.Shape.{Shape}
use Rattle.archive_shape_layout.specs.Shape.Shape.{text}
use Rattle.archive_shape_layout.specs.Value.{Value, Values}
use Rattle.archive_shape_layout.specs.Content.{members}
use Rattle.archive_shape_layout.specs.Content.Part.{at}
use Rattle.archive_shape.specs.declared.references.refs.Ref.{Ref}
use Rattle.archive_btree_maps.specs.Maps.{AreEntriesAt}
use Rattle.archive_btree_maps.specs.Refs as entries
use Rattle.archive_hash_maps.specs.Maps.{value_at}
use Rattle.cabinet_documents.specs.Node.{node_names, node_shape, KnowsNode}
use Rattle.cabinet_documents.specs.Audit.{Unsound, too_deep, unless, faults}
use Rattle.cabinet_documents.specs.Walk.{Stop, Walks}
use Rattle.cabinet_archived.specs.declared.node.ArchivedNode.{ArchivedNode}
use Rattle.cabinet_archives.specs.declared.opening.refusal.OpenRefusal.{OpenRefusal}
use Rattle.cabinet_archives.specs.Sound.{Audits, Reports}
use Rattle.cabinet_archives.proofs.Auditing.{reports_as, refused_first, not_deep, HasOwn, IsNodeOf, IsLeft, nodes_there}
use Rattle.cabinet_archives.proofs.Heights.{flat_high}
use Rattle.cabinet_archives.proofs.Pairs.{PairsIn, pair_entry}

-- the nodes of pairs, by the entries that these are
nodes_are : (bytes : Bor (List ℕ)) (ps : List ℕ) → map (λ p. value_at {V = ArchivedNode} bytes text node_shape p) ps ≡ map (λ e. entries.value_at bytes {V = ArchivedNode} e) (map (pair_entry bytes.now) ps)
nodes_are bytes [] = refl
nodes_are bytes (p ∷ ps) = ap (λ rs. value_at {V = ArchivedNode} bytes text node_shape p ∷ rs) (nodes_are bytes ps)

-- the nodes at pairs that are entries
pub all_nodes : (bytes : Bor (List ℕ)) (ps : List ℕ) (vs : Values) → AreEntriesAt text node_shape (λ _. ⊤) KnowsNode bytes.now (map (pair_entry bytes.now) ps) vs
    → (left : List (Ref ArchivedNode)) → left ≡ map (λ p. value_at {V = ArchivedNode} bytes text node_shape p) ps → All (IsNodeOf bytes) left
all_nodes bytes ps vs are left values = subst (All (IsNodeOf bytes)) (sym (values ∙ nodes_are bytes ps)) (nodes_there bytes (map (pair_entry bytes.now) ps) vs are)

-- of a map at a position whose pairs are at these positions, with faults of its own by its value
module _ (bytes : Bor (List ℕ)) (pos : ℕ) (s : Shape) (ps : List ℕ) (own : Value → List Unsound)
    (walked : (depth : ℕ) (v : Value) (walk : List Stop) → Walks node_names bytes.now depth (at pos s) v walk → PairsIn bytes.now depth ps (own v) v walk)
  where
    -- what is told of its own faults
    abbrev pub TellsOwn : Result (Unit {0}) OpenRefusal → Type 0
    TellsOwn r = (depth : ℕ) (v : Value) (walk : List Stop) → Walks node_names bytes.now depth (at pos s) v walk → Reports r (own v)

    pub own_of_pairs : (depth : ℕ) (v : Value) (walk : List Stop) → Walks node_names bytes.now depth (at pos s) v walk → HasOwn bytes.now depth walk
    own_of_pairs depth v walk h =
        let w = walked depth v walk h in
        record { rest = own v ++ flat_map (faults bytes.now) w.runs; faults_are = w.faults_are }

    -- its own faults are first
    pub unsound : (depth inner : ℕ) → inner ≡ depth + 1 → inner ≤ 64 → (r : OpenRefusal) → TellsOwn (Err r) → Audits bytes.now depth (at pos s) (Err r)
    unsound depth inner deeper low r told = λ v walk h.
        let w = walked depth v walk h in
        reports_as (Err r) (w.faults_are ∙ ap (λ x. x ++ (own v ++ flat_map (faults bytes.now) w.runs)) (not_deep depth inner deeper low))
        (refused_first r (own v) (flat_map (faults bytes.now) w.runs) (told depth v walk h))

    -- where it has none, all nodes are left
    pub pairs_left : (left : List (Ref ArchivedNode)) → TellsOwn (Ok tt) → left ≡ map (λ p. value_at {V = ArchivedNode} bytes text node_shape p) ps → IsLeft bytes (at pos s) 0 left
    pairs_left left told values = λ depth v walk less h.
        let w = walked depth v walk h in
        record {
          places = map (pair_entry bytes.now) ps;
          vs = members v;
          runs = w.runs;
          before = [];
          left_are = values ∙ nodes_are bytes ps;
          items = w.items;
          high = flat_high (depth + 1) (omega (arith, less));
          faults_are =
              w.faults_are
              ∙ (ap (λ b. unless b too_deep ++ (own v ++ flat_map (faults bytes.now) w.runs)) (lt-ltb depth 64 less)
              ∙ ap (λ x. x ++ flat_map (faults bytes.now) w.runs) (told depth v walk h));
        }
