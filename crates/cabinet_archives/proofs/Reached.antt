-- The answer, and the bytes after it, where a leaf is put in the node that a path reaches, or none is reached.
use Rattle.std.proofs.Common.{◌≡◌, ℕ, Bor, true, false, if◌then◌else◌, List, length, refl, sym, ap, subst, ◌∙◌}
use Rattle.std.proofs.Math.Logic.{∥∥₁_map}
use Rattle.archive_shape_layout.specs.Holds.{root_position}
use Rattle.archive_shape_layout.specs.Content.Part.{at}
use Rattle.archive_shape.specs.Key.{HeldAt}
use Rattle.archive_shape_layout.proofs.Found.{root_is_found}
use Rattle.archive_forms_values.specs.Parts.{HasValue}
use Rattle.archive_forms_values.proofs.Rooted.{root_held}
use Rattle.cabinet_text_grammar.specs.Tree.{Tree, Leaf, IsLeaf}
use Rattle.cabinet_text_grammar.specs.Path.{Step, enters}
use Rattle.cabinet_text_grammar.specs.Line.{set}
use Rattle.cabinet_text_grammar.specs.Answering.{Answer, head, keys_are, wrong, missing, done, refused, bad, answer, change, if_there, outcome_there, outcome_at}
use Rattle.cabinet_documents.specs.Node.{node_shape, node_names, KnowsNode}
use Rattle.cabinet_documents.specs.Accepted.{Accepted}
use Rattle.cabinet_documents.specs.Image.{Image}
use Rattle.cabinet_documents.proofs.NodeWalks.{behind_walk}
use Rattle.cabinet_documents.proofs.Sound.{no_faults}
use Rattle.cabinet_archives.specs.Sound.{HasSoundWalk, IsSoundPart}
use Rattle.cabinet_archives.specs.Found.{OfDocument, Reaches, ReachesNone}
use Rattle.cabinet_archives.specs.Setting.{EditLeaves}
use Rattle.cabinet_archives.specs.Putting.{PutLeaves}
use Rattle.cabinet_archives.proofs.Kept.{done_at, set_keeps_accepted, set_keeps_image}
use Rattle.cabinet_archives.proofs.OwnPlaces.{own_there}

abbrev pub root_of : List ℕ → ℕ
root_of bytes = root_position (length bytes) node_shape

module _ (bytes : List ℕ) where
  -- ---- the root of accepted bytes

  pub root_there : {t : Tree} (a : Accepted bytes t) → HeldAt node_shape KnowsNode bytes (root_of bytes) a.value
  root_there a = root_held node_shape KnowsNode node_names bytes (root_of bytes) a.value a.regions a.visits refl a.root

  pub root_has_value : ∥ ((t : Tree) × Accepted bytes t) ∥₁ → HasValue node_shape KnowsNode bytes (root_of bytes)
  root_has_value known =
      let r = root_is_found node_names bytes (root_of bytes) node_shape (∥∥₁_map known (λ x. record { value = x.1.value; regions = x.1.regions; visits = x.1.visits; root = x.1.root })) in
      record { value = r.value; held = root_held node_shape KnowsNode node_names bytes (root_of bytes) r.value r.regions r.visits refl r.root }

  sound_root : {t : Tree} → Accepted bytes t → HasSoundWalk bytes (at (root_of bytes) node_shape)
  sound_root a =
      let b = behind_walk bytes (root_of bytes) a.walked in
      record { depth = 0; value = a.value; walk = b.run; walked = b.node; sound = sym b.faults_are ∙ no_faults bytes a.walk a.sound }

  pub root_is_sound : ∥ ((t : Tree) × Accepted bytes t) ∥₁ → IsSoundPart bytes (at (root_of bytes) node_shape)
  root_is_sound known = ∥∥₁_map known (λ x. sound_root x.1)

  module _ (path : List Step) (new : Leaf) where
    -- what an outcome and the bytes after it are, of each document that the bytes are the archive of
    pub record IsSet (o : Answer) (after : List ℕ) (t : Tree) (a : Accepted bytes t) : Type 0 where
      pub answered : o ≡ answer t (set path new)
      pub left : EditLeaves bytes a.value path new o after

    abbrev pub Sets : Answer → List ℕ → Type 0
    Sets o after = (t : Tree) (a : Accepted bytes t) → IsSet o after t a

    -- ---- no node is reached, or one

    pub none_set : ReachesNone bytes (root_of bytes) path → Sets missing bytes
    none_set none t a = record { answered = sym (ap (λ o. if_there o (outcome_at t path new)) (none a.value t (root_there a) a.denotes)); left = refl }

    -- what lies in a whole is refused
    pub inside_set : (to : ℕ) → Reaches bytes (root_of bytes) path to → OfDocument bytes (root_of bytes) (λ t. enters t path ≡ true) → Sets refused bytes
    inside_set to reached inside t a =
        let s = reached.stands a.value t (root_there a) a.denotes in
        record { answered = sym (ap (λ x. if_there x (outcome_at t path new)) s.there ∙ ap (λ b. if b then refused else outcome_there new s.tree) (inside a.value t (root_there a) a.denotes)); left = refl }

    module _ (to : ℕ) (reached : Reaches bytes (root_of bytes) path to) (free : OfDocument bytes (root_of bytes) (λ t. enters t path ≡ false)) (o : Answer) (after : List ℕ) (told : OfDocument bytes to (λ u. o ≡ outcome_there new u)) where
      answered_there : (t : Tree) → Accepted bytes t → o ≡ answer t (set path new)
      answered_there t a =
          let s = reached.stands a.value t (root_there a) a.denotes in
          let outside = ap (λ b. if b then refused else outcome_there new s.tree) (free a.value t (root_there a) a.denotes) in
          told s.node.value s.tree s.node.held s.node.denotes ∙ sym outside ∙ sym (ap (λ x. if_there x (outcome_at t path new)) s.there)

      left_there : (r : Answer) → o ≡ r → PutLeaves bytes to new r after → (t : Tree) (a : Accepted bytes t) → EditLeaves bytes a.value path new r after
      left_there (head i) e p t a = p
      left_there (keys_are ks) e p t a = p
      left_there wrong e p t a = p
      left_there missing e p t a = p
      left_there done e p t a =
          let d = done_at t path new (sym (answered_there t a) ∙ e) in
          record { start = p.start; own = own_there bytes t path d.old new p.start to a (root_there a) d.there d.outside d.fitting reached.way p.begins; is = p.is }
      left_there refused e p t a = p
      left_there bad e p t a = p

      pub one_set : PutLeaves bytes to new o after → Sets o after
      one_set p t a = record { answered = answered_there t a; left = left_there o refl p t a }

    -- ---- documents and images after it

    module _ (o : Answer) (after : List ℕ) (sets : Sets o after) (legal : IsLeaf new) where
      left_by : (t : Tree) (a : Accepted bytes t) → EditLeaves bytes a.value path new (answer t (set path new)) after
      left_by t a = let s = sets t a in subst (λ r. EditLeaves bytes a.value path new r after) s.answered s.left

      pub accepted_after : (t : Tree) → Accepted bytes t → Accepted after (change t path new)
      accepted_after t a = set_keeps_accepted bytes after t path new legal a (left_by t a)

      pub image_after : (t : Tree) → Image t bytes → Image (change t path new) after
      image_after t i = set_keeps_image bytes after t path new legal i i.accepted (left_by t i.accepted)

-- ---- the same bytes, the same places, the same leaf

pub value_as : {x y : Bor (List ℕ)} {pos to : ℕ} → x ≡ y → pos ≡ to → HasValue node_shape KnowsNode y.now to → HasValue node_shape KnowsNode x.now pos
value_as {y = y} {pos = pos} e f h = subst (λ (b : Bor (List ℕ)). HasValue node_shape KnowsNode b.now pos) (sym e) (subst (λ n. HasValue node_shape KnowsNode y.now n) (sym f) h)

pub sound_as : {x y : Bor (List ℕ)} {pos to : ℕ} → x ≡ y → pos ≡ to → IsSoundPart y.now (at to node_shape) → IsSoundPart x.now (at pos node_shape)
sound_as {y = y} {pos = pos} e f h = subst (λ (b : Bor (List ℕ)). IsSoundPart b.now (at pos node_shape)) (sym e) (subst (λ n. IsSoundPart y.now (at n node_shape)) (sym f) h)

pub reaches_as : {x y : Bor (List ℕ)} {from root to pos : ℕ} (path : List Step) → x ≡ y → from ≡ root → pos ≡ to → Reaches x.now from path to → Reaches y.now root path pos
reaches_as {x = x} {from = from} {root = root} {to = to} {pos = pos} path e f g r =
    subst (λ (b : Bor (List ℕ)). Reaches b.now root path pos) e (subst (λ n. Reaches x.now n path pos) f (subst (λ n. Reaches x.now from path n) (sym g) r))

pub set_as : (bytes : List ℕ) (path : List Step) (lent new : Leaf) (pos : ℕ) (o : Answer) (after : List ℕ) → lent ≡ new → Reaches bytes (root_of bytes) path pos → OfDocument bytes (root_of bytes) (λ t. enters t path ≡ false)
    → OfDocument bytes pos (λ t. o ≡ outcome_there lent t) → PutLeaves bytes pos lent o after → Sets bytes path new o after
set_as bytes path lent new pos o after is reached free told put =
    subst (λ l. Sets bytes path l o after) is (one_set bytes path lent pos reached free o after told put)
