-- Setting a leaf leaves an archive an archive, and an image an image.
use Rattle.std.proofs.Common.{◌≡◌, ◌≢◌, ℕ, Bool, true, false, if◌then◌else◌, List, length, Option, Some, None, refl, sym, subst}
use Rattle.archive_shape_layout.specs.Value.{Value}
use Rattle.archive_shape_layout.proofs.Unique.{one_value}
use Rattle.cabinet_text_grammar.specs.Tree.{Tree, Leaf, leaf, shared, nothing, just, list, map, whole, IsLeaf}
use Rattle.cabinet_text_grammar.specs.Path.{Step, node_at, enters}
use Rattle.cabinet_text_grammar.specs.Line.{set}
use Rattle.cabinet_text_grammar.specs.Answering.{Answer, head, keys_are, wrong, missing, done, refused, bad, answer, change, fits, if_there, outcome_there}
use Rattle.cabinet_text_grammar.proofs.Changes.{only_done_changes}
use Rattle.cabinet_documents.specs.Accepted.{Accepted}
use Rattle.cabinet_documents.specs.Done.{IsDone}
use Rattle.cabinet_documents.specs.Image.{Image}
use Rattle.cabinet_documents.specs.Node.{own_bytes, node_names}
use Rattle.cabinet_documents.specs.OwnBytes.{OwnBytes}
use Rattle.cabinet_documents.proofs.EditKept.{edit_keeps_accepted_law}
use Rattle.cabinet_documents.proofs.ImageKept.{edit_keeps_image_law}
use Rattle.cabinet_archives.specs.Setting.{IsWritten, EditLeaves}

-- ---- where an edit is done

done_if : (b : Bool) → (if b then done else refused) ≡ done → b ≡ true
done_if true e = refl
done_if false e = absurd (cc)

record DoneThere (found : Option Tree) (b : Bool) (new : Leaf) : Type 0 where
  pub old : Leaf
  pub there : found ≡ Some (leaf old)
  pub outside : b ≡ false
  pub fitting : fits old new ≡ true

done_at_leaf : (u : Tree) (new : Leaf) → outcome_there new u ≡ done → DoneThere (Some u) false new
done_at_leaf (leaf old) new e = record { old = old; there = refl; outside = refl; fitting = done_if (fits old new) e }
done_at_leaf (shared s) new e = absurd (cc)
done_at_leaf nothing new e = absurd (cc)
done_at_leaf (just t) new e = absurd (cc)
done_at_leaf (list ts) new e = absurd (cc)
done_at_leaf (map kind ps) new e = absurd (cc)
done_at_leaf (whole t) new e = absurd (cc)

-- not in a whole
done_there : (found : Option Tree) (b : Bool) (new : Leaf) → if_there found (λ u. if b then refused else outcome_there new u) ≡ done → DoneThere found b new
done_there None b new e = absurd (cc)
done_there (Some u) true new e = absurd (cc)
done_there (Some u) false new e = done_at_leaf u new e

pub done_at : (t : Tree) (path : List Step) (new : Leaf) → answer t (set path new) ≡ done → IsDone t path new
done_at t path new e =
    let d = done_there (node_at t path) (enters t path) new e in
    record { old = d.old; there = d.there; outside = d.outside; fitting = d.fitting }

-- ---- what is true of a document before and after

module _ (Is : Tree → List ℕ → Type 0) (x y : List ℕ) (t : Tree) (path : List Step) (new : Leaf) (root : Value) (is : Is t x)
    (written : IsDone t path new → IsWritten x root path new y → Is (change t path new) y)
  where
    stays : answer t (set path new) ≢ done → y ≡ x → Is (change t path new) y
    stays other same = subst (λ u. Is u y) (sym (only_done_changes t path new other)) (subst (Is t) (sym same) is)

    stays_by : (r : Answer) → answer t (set path new) ≡ r → EditLeaves x root path new r y → Is (change t path new) y
    stays_by (head i) e l = stays (λ d. absurd (cc)) l
    stays_by (keys_are ks) e l = stays (λ d. absurd (cc)) l
    stays_by wrong e l = stays (λ d. absurd (cc)) l
    stays_by missing e l = stays (λ d. absurd (cc)) l
    stays_by done e l = written (done_at t path new e) l
    stays_by refused e l = stays (λ d. absurd (cc)) l
    stays_by bad e l = stays (λ d. absurd (cc)) l

pub set_keeps_accepted : (x y : List ℕ) (t : Tree) (path : List Step) (new : Leaf) → IsLeaf new → (a : Accepted x t) → EditLeaves x a.value path new (answer t (set path new)) y
    → Accepted y (change t path new)
set_keeps_accepted x y t path new legal a left =
    stays_by (λ u bytes. Accepted bytes u) x y t path new a.value a
    (λ d w. subst (λ b. Accepted b (change t path new)) (sym w.is) (edit_keeps_accepted_law x t path new w.start a legal d w.own))
    (answer t (set path new)) refl left

-- one root has one value
same_value : (x : List ℕ) (s t : Tree) (a : Accepted x s) (b : Accepted x t) → a.value ≡ b.value
same_value x s t a b = (one_value node_names x b.value b.regions b.visits a.root.holds b.root.holds).value

pub set_keeps_image : (x y : List ℕ) (t : Tree) (path : List Step) (new : Leaf) → IsLeaf new → (i : Image t x) → (a : Accepted x t) → EditLeaves x a.value path new (answer t (set path new)) y
    → Image (change t path new) y
set_keeps_image x y t path new legal i a left =
    stays_by Image x y t path new a.value i
    (λ d w.
    subst (Image (change t path new)) (sym w.is)
    (edit_keeps_image_law x t path new w.start i legal d
    (subst (λ v. OwnBytes x v path w.start (length (own_bytes new))) (same_value x t t a i.accepted) w.own)))
    (answer t (set path new)) refl left
