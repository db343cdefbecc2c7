-- The tree of the root of accepted bytes.
use Rattle.std.proofs.Common.{◌≡◌, ℕ, ◌<◌, ◌^◌, Bor, List, [], ◌∷◌, length, true, false, refl, ap, subst, sym, ◌∙◌, arith}
use Rattle.std.proofs.Math.Bool.{Bool-set}
use Rattle.std.proofs.Math.Logic.{∥∥₁_elim, ∥∥₁_map}
use Rattle.archive_shape_layout.specs.Shape.{Shape}
use Rattle.archive_shape_layout.specs.Value.{Value}
use Rattle.archive_shape_layout.specs.Content.{Names}
use Rattle.archive_shape_layout.proofs.Found.{root_is_found}
use Rattle.archive_shape_canonical.specs.Canonical.{AreBytes}
use Rattle.cabinet_text_grammar.specs.Tree.{Tree}
use Rattle.cabinet_text_grammar.specs.Wholes.{wholes_of, IsDocument}
use Rattle.cabinet_text_nodes.specs.View.{node_tree}
use Rattle.cabinet_text_nodes.specs.declared.node.Node.{Node}
use Rattle.cabinet_documents.specs.Accepted.{Accepted}
use Rattle.cabinet_documents.specs.Audit.{Unsound, faults, first_of}
use Rattle.cabinet_documents.specs.Laws.{AuditDecided, IsAccepted}
use Rattle.cabinet_documents.specs.Node.{node_shape, node_names, KnowsNode}
use Rattle.cabinet_documents.proofs.Deciding.{audit_decides_law}
use Rattle.cabinet_documents.proofs.Sound.{refused_law}
use Rattle.cabinet_documents.specs.Denotes.{tagged_value}
use Rattle.cabinet_archived.specs.Kind.{IsTagged}
use Rattle.cabinet_archives.specs.Found.{OfDocument}
use Rattle.cabinet_archives.specs.Loading.{HasTree}
use Rattle.cabinet_archives.proofs.Loaded.{payload_tree}
use Rattle.cabinet_archives.proofs.Reached.{root_of, root_there}

module _ (bytes : List ℕ) where
  module _ (known : ∥ ((t : Tree) × Accepted bytes t) ∥₁) {v : Value} (decided : AuditDecided bytes v) where
    -- the audit finds no fault
    quiet : (us : List Unsound) → faults bytes decided.walk ≡ us → faults bytes decided.walk ≡ []
    quiet [] e = e
    quiet (u ∷ us) e =
        let never : true ≡ false = ∥∥₁_elim known (Bool-set true false) (λ x. absurd (refused_law bytes u x.0 (decided.refused u (ap first_of e)) x.1)) in
        absurd (cc)

  -- bytes that are known to be accepted, but not as which document, are found to be
  found_accepted : AreBytes bytes → length bytes < 2 ^ 64 → ∥ ((t : Tree) × Accepted bytes t) ∥₁ → IsAccepted bytes
  found_accepted small counted known =
      let r = root_is_found node_names bytes (root_of bytes) node_shape (∥∥₁_map known (λ x. record { value = x.1.value; regions = x.1.regions; visits = x.1.visits; root = x.1.root })) in
      let decided = audit_decides_law bytes r.value r.regions r.visits small counted r.root in
      decided.accepted (quiet known decided (faults bytes decided.walk) refl)

  pub root_tree : AreBytes bytes → length bytes < 2 ^ 64 → ∥ ((t : Tree) × Accepted bytes t) ∥₁ → HasTree (λ v. v) node_shape KnowsNode bytes (root_of bytes) 0
  root_tree small counted known =
      let a = found_accepted small counted known in
      let document = a.accepted.document in
      record { value = a.accepted.value; held = root_there bytes a.accepted; tree = a.tree; denotes = a.accepted.denotes; legal = document.0; low = omega (arith, document.1) }

  -- what is loaded of the root is the document that the bytes are accepted as, with the wholes that it has
  module _ (table : List Tree) (n : Node) (is : OfDocument bytes (root_of bytes) (λ t. (node_tree table n ≡ t) × (table ≡ wholes_of t))) where
    pub loaded_document : AreBytes bytes → length bytes < 2 ^ 64 → ∥ ((t : Tree) × Accepted bytes t) ∥₁ → IsDocument (node_tree table n) × (wholes_of (node_tree table n) ≡ table)
    loaded_document small counted known =
        let a = found_accepted small counted known in
        let one = is a.accepted.value a.tree (root_there bytes a.accepted) a.accepted.denotes in
        (subst IsDocument (sym one.0) a.accepted.document, ap wholes_of one.0 ∙ sym one.1)

    pub loaded_accepted : (t : Tree) → Accepted bytes t → node_tree table n ≡ t
    loaded_accepted t a = (is a.value t (root_there bytes a) a.denotes).0

-- ---- the same bytes, the same position

pub tree_as : {x y : Bor (List ℕ)} {pos to outer : ℕ} → x ≡ y → pos ≡ to → HasTree (λ v. v) node_shape KnowsNode y.now to outer → HasTree (λ v. v) node_shape KnowsNode x.now pos outer
tree_as {y = y} {pos = pos} {outer = outer} e f h =
    subst (λ (b : Bor (List ℕ)). HasTree (λ v. v) node_shape KnowsNode b.now pos outer) (sym e) (subst (λ n. HasTree (λ v. v) node_shape KnowsNode y.now n outer) (sym f) h)

-- the payload of a node
pub payload_as : {x y : Bor (List ℕ)} {pos tag to outer : ℕ} {s : Shape} {knows : Names → Type 0} → x ≡ y → IsTagged y.now pos tag s knows to
    → HasTree (λ v. v) node_shape KnowsNode y.now pos outer → HasTree (tagged_value tag) s knows x.now to outer
payload_as {y = y} {tag = tag} {to = to} {outer = outer} {s = s} {knows = knows} e tagged has =
    subst (λ (b : Bor (List ℕ)). HasTree (tagged_value tag) s knows b.now to outer) (sym e) (payload_tree y.now tagged has)
