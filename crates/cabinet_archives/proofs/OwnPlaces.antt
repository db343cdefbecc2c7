-- The own bytes of the leaf at a path begin in the node that the path leads to.
use Rattle.std.proofs.Common.{◌≡◌, ℕ, ◌+◌, ◌*◌, true, false, w64, List, [], ◌∷◌, ◌++◌, length, Option, Some, refl, sym, ap, subst, ◌∙◌, arith}
use Rattle.archive_shape_layout.specs.Shape.Shape.{truth, number, text}
use Rattle.archive_shape_layout.specs.Shape.Pointee.{str}
use Rattle.archive_shape_layout.specs.Content.{Part}
use Rattle.archive_shape_layout.specs.Content.Part.{at, behind}
use Rattle.archive_shape_layout.specs.Holds.{root_position}
use Rattle.archive_shape.specs.Key.{HeldAt}
use Rattle.archive_forms_laws.proofs.Once.{one_place}
use Rattle.archive_forms_values.specs.Parts.{PointsTo}
use Rattle.cabinet_text_grammar.specs.Tree as document
use Rattle.cabinet_text_grammar.specs.Tree.{Leaf, Tree, leaf}
use Rattle.cabinet_text_grammar.specs.Path.{Step, node_at, enters}
use Rattle.cabinet_text_grammar.specs.Answering.{fits}
use Rattle.cabinet_documents.specs.Node.{node_shape, KnowsNode, own_bytes}
use Rattle.cabinet_documents.specs.Accepted.{Accepted}
use Rattle.cabinet_documents.specs.OwnBytes.{OwnBytes, IsOwn, own_truth, own_number, own_inline, own_behind}
use Rattle.cabinet_documents.proofs.Places.{node_behind}
use Rattle.cabinet_documents.proofs.HeldNodes.{none_seen, held}
use Rattle.cabinet_documents.proofs.Steps.{behind_below}
use Rattle.cabinet_archives.specs.Way.{StepsTo, steps_inside, steps_place, steps_key, steps_hashed, steps_kept, GoesTo, goes_nowhere, goes_on, steps_whole}
use Rattle.cabinet_archives.specs.Hashed.{HasBucket}
use Rattle.cabinet_archives.specs.Kept.{HasNumbered}
use Rattle.cabinet_archives.specs.Ordered.{HasEntry}
use Rattle.cabinet_archives.specs.Putting.{BeginsAt}
use Rattle.cabinet_archives.proofs.Buckets.{one_bucket}
use Rattle.cabinet_archives.proofs.Entries.{one_entry}
use Rattle.cabinet_archives.proofs.Numbered.{one_numbered}
use Rattle.cabinet_archives.proofs.LeafPlaces.{LiesIn, truth_lies, number_lies, inline_lies, far_lies, leaf_found}

-- ---- a path leads to one position

module _ (bytes : List ℕ) where
  one_target : (from : ℕ) {to other : ℕ} → PointsTo bytes from to → PointsTo bytes from other → to ≡ other
  one_target from {to = to} {other = other} p q = let some : ◌≡◌ {A = Option ℕ} (Some to) (Some other) = sym p ∙ q in cc

  one_step : {from to other : ℕ} {s : Step} → StepsTo bytes from s to → StepsTo bytes from s other → to ≡ other
  one_step {from = from} (steps_inside e t p) (steps_inside f u q) = one_target (from + 8) p q
  one_step (steps_inside e t p) (steps_whole f u q) = let both : ◌≡◌ {A = ℕ} 4 9 = sym t ∙ u in absurd (omega (arith, both))
  one_step (steps_inside e t p) (steps_place f q h) = absurd (cc)
  one_step (steps_inside e t p) (steps_key f u q) = absurd (cc)
  one_step (steps_inside e t p) (steps_hashed f u q) = absurd (cc)
  one_step (steps_inside e t p) (steps_kept f u q) = absurd (cc)
  one_step (steps_whole e t p) (steps_inside f u q) = let both : ◌≡◌ {A = ℕ} 9 4 = sym t ∙ u in absurd (omega (arith, both))
  one_step {from = from} (steps_whole e t p) (steps_whole f u q) = one_target (from + 4) p q
  one_step (steps_whole e t p) (steps_place f q h) = absurd (cc)
  one_step (steps_whole e t p) (steps_key f u q) = absurd (cc)
  one_step (steps_whole e t p) (steps_hashed f u q) = absurd (cc)
  one_step (steps_whole e t p) (steps_kept f u q) = absurd (cc)
  one_step (steps_place e p g) (steps_inside f u q) = absurd (cc)
  one_step (steps_place e p g) (steps_whole f u q) = absurd (cc)
  one_step {from = from} (steps_place {i = i} e p g) (steps_place {i = j} {first = first} f q h) =
      let same_place : i ≡ j = cc in
      g ∙ ap (λ n. n + i * 24) (one_target (from + 4) p q) ∙ ap (λ n. first + n * 24) same_place ∙ sym h
  one_step (steps_place e p g) (steps_key f u q) = absurd (cc)
  one_step (steps_place e p g) (steps_hashed f u q) = absurd (cc)
  one_step (steps_place e p g) (steps_kept f u q) = absurd (cc)
  one_step (steps_key e t p) (steps_inside f u q) = absurd (cc)
  one_step (steps_key e t p) (steps_whole f u q) = absurd (cc)
  one_step (steps_key e t p) (steps_place f q h) = absurd (cc)
  one_step {from = from} {other = other} (steps_key {k = k} e t p) (steps_key {k = l} f u q) =
      let same_key : l ≡ k = cc in
      one_entry bytes (from + 4) k p (subst (λ x. HasEntry bytes (from + 4) x other) same_key q)
  one_step (steps_key e t p) (steps_hashed f u q) = let both : ◌≡◌ {A = ℕ} 6 7 = sym t ∙ u in absurd (omega (arith, both))
  one_step (steps_key e t p) (steps_kept f u q) = let both : ◌≡◌ {A = ℕ} 6 8 = sym t ∙ u in absurd (omega (arith, both))
  one_step (steps_hashed e t p) (steps_inside f u q) = absurd (cc)
  one_step (steps_hashed e t p) (steps_whole f u q) = absurd (cc)
  one_step (steps_hashed e t p) (steps_place f q h) = absurd (cc)
  one_step (steps_hashed e t p) (steps_key f u q) = let both : ◌≡◌ {A = ℕ} 7 6 = sym t ∙ u in absurd (omega (arith, both))
  one_step {from = from} {other = other} (steps_hashed {k = k} e t p) (steps_hashed {k = l} f u q) =
      let same_key : l ≡ k = cc in
      one_bucket bytes (from + 4) k p (subst (λ x. HasBucket bytes (from + 4) x other) same_key q)
  one_step (steps_hashed e t p) (steps_kept f u q) = let both : ◌≡◌ {A = ℕ} 7 8 = sym t ∙ u in absurd (omega (arith, both))
  one_step (steps_kept e t p) (steps_inside f u q) = absurd (cc)
  one_step (steps_kept e t p) (steps_whole f u q) = absurd (cc)
  one_step (steps_kept e t p) (steps_place f q h) = absurd (cc)
  one_step (steps_kept e t p) (steps_key f u q) = let both : ◌≡◌ {A = ℕ} 8 6 = sym t ∙ u in absurd (omega (arith, both))
  one_step (steps_kept e t p) (steps_hashed f u q) = let both : ◌≡◌ {A = ℕ} 8 7 = sym t ∙ u in absurd (omega (arith, both))
  one_step {from = from} {other = other} (steps_kept {k = k} e t p) (steps_kept {k = l} f u q) =
      let same_key : l ≡ k = cc in
      one_numbered bytes (from + 4) k p (subst (λ x. HasNumbered bytes (from + 4) x other) same_key q)

  one_way : {from to other : ℕ} {path : List Step} → GoesTo bytes from path to → GoesTo bytes from path other → to ≡ other
  one_way (goes_nowhere e f) (goes_nowhere g h) = f ∙ sym h
  one_way (goes_nowhere e f) (goes_on g s w) = absurd (cc)
  one_way (goes_on e s w) (goes_nowhere g h) = absurd (cc)
  one_way {from = from} {other = other} (goes_on {next = next} {s = a} {rest = xs} e s w) (goes_on {next = then} {s = b} {rest = ys} f t u) =
      let step : b ≡ a = cc in
      let others : ys ≡ xs = cc in
      let turn : then ≡ next = sym (one_step s (subst (λ x. StepsTo bytes from x then) step t)) in
      one_way w (subst (λ n. GoesTo bytes n xs other) turn (subst (λ x. GoesTo bytes then x other) others u))

  -- ---- the bytes that encode a leaf are own bytes

  -- the leaf there is known, and another is of its kind
  is_own : (old new : Leaf) (start to : ℕ) {part : Part} → LiesIn bytes old to part → fits old new ≡ true → BeginsAt bytes to new start → IsOwn bytes start (length (own_bytes new)) part
  is_own old (document.truth c) start to (truth_lies e p) f begins = own_truth (p ∙ ap (λ n. at n truth) (sym begins)) refl
  is_own old (document.number n) start to (truth_lies e p) f begins = let g = subst (λ x. fits x (document.number n) ≡ true) e f in absurd (cc)
  is_own old (document.text u) start to (truth_lies e p) f begins = let g = subst (λ x. fits x (document.text u) ≡ true) e f in absurd (cc)
  is_own old (document.truth c) start to (number_lies e p) f begins = let g = subst (λ x. fits x (document.truth c) ≡ true) e f in absurd (cc)
  is_own old (document.number n) start to (number_lies e p) f begins = own_number (p ∙ ap (λ n. at n (number w64 true)) (sym begins)) refl
  is_own old (document.text u) start to (number_lies e p) f begins = let g = subst (λ x. fits x (document.text u) ≡ true) e f in absurd (cc)
  is_own old (document.truth c) start to (inline_lies e lies p content) f begins = let g = subst (λ x. fits x (document.truth c) ≡ true) e f in absurd (cc)
  is_own old (document.number n) start to (inline_lies e lies p content) f begins = let g = subst (λ x. fits x (document.number n) ≡ true) e f in absurd (cc)
  is_own old (document.text u) start to (inline_lies {s = s} e lies p content) f begins =
      let one = one_place bytes (to + 4) start (length u) (to + 4) (length s) begins lies in
      own_inline (p ∙ ap (λ n. at n text) (sym one.0)) content one.1
  is_own old (document.truth c) start to (far_lies e lies p) f begins = let g = subst (λ x. fits x (document.truth c) ≡ true) e f in absurd (cc)
  is_own old (document.number n) start to (far_lies e lies p) f begins = let g = subst (λ x. fits x (document.number n) ≡ true) e f in absurd (cc)
  is_own old (document.text u) start to (far_lies {start = from} {len = len} e lies p) f begins =
      let one = one_place bytes (to + 4) start (length u) from len begins lies in
      own_behind (p ∙ ap (λ n. behind n str len) (sym one.0) ∙ ap (behind start str) (sym one.1))

  pub own_there : (t : Tree) (path : List Step) (old new : Leaf) (start to : ℕ) (a : Accepted bytes t)
      → HeldAt node_shape KnowsNode bytes (root_position (length bytes) node_shape) a.value → node_at t path ≡ Some (leaf old) → enters t path ≡ false → fits old new ≡ true → GoesTo bytes (root_position (length bytes) node_shape) path to → BeginsAt bytes to new start
      → OwnBytes bytes a.value path start (length (own_bytes new))
  own_there t path old new start to a root_there there outside f way begins =
      let pos = root_position (length bytes) node_shape in
      let b = behind_below bytes pos a.root.holds in
      let r = leaf_found bytes path old pos 1 [] a.value b.regions [] a.visits t (held bytes a.root.holds node_behind pos refl (none_seen bytes)).value a.denotes a.document.0 b.holds root_there there outside in
      let same_place : to ≡ r.to = one_way way r.way in
      record {
        node = r.node;
        inner = r.inner;
        leads = r.leads;
        part = r.part;
        payload = r.payload;
        stands = b.stands r.part r.payload (r.inner ++ 0 ∷ []) r.stands;
        own = is_own old new start r.to r.lies f (subst (λ n. BeginsAt bytes n new start) same_place begins);
      }
