-- A change of a leaf leaves which paths lead into a whole.
use Rattle.std.proofs.Common.{◌≡◌, ℕ, zero, suc, Bool, true, false, if◌then◌else◌, List, [], ◌∷◌, refl, sym, ap, ◌∙◌}
use Rattle.std.specs.Str.{bytes_eq}
use Rattle.cabinet_text_grammar.specs.Tree.{Leaf, Tree, leaf, shared, nothing, just, list, map, whole, Trees, no_trees, more_trees, Pairs, no_pairs, more_pairs}
use Rattle.cabinet_text_grammar.specs.Path.{Step, key, place, inside, enters, enters_in, enters_by}
use Rattle.cabinet_text_grammar.specs.Answering.{fits, change, change_in, change_by}
use Rattle.cabinet_documents.proofs.ByKey.{change_here, change_past, enters_here, enters_past}

leaf_enters : (b : Bool) (old new : Leaf) (path : List Step) → enters (if b then leaf new else leaf old) path ≡ enters (leaf old) path
leaf_enters true old new path = refl
leaf_enters false old new path = refl

-- of a pair, whose key equals both keys, one of them or neither
by_keys : (x y : Bool) (n : List ℕ) (t : Tree) (ps : Pairs) (k : List ℕ) (path : List Step) (new : Leaf) (l : List ℕ) (other : List Step)
    → bytes_eq n k ≡ x → bytes_eq n l ≡ y
    → enters (change t path new) other ≡ enters t other → enters_by (change_by ps k path new) l other ≡ enters_by ps l other
    → enters_by (change_by (more_pairs n t ps) k path new) l other ≡ enters_by (more_pairs n t ps) l other
by_keys true true n t ps k path new l other ek el here later =
    ap (λ z. enters_by z l other) (change_here n t ps k path new ek) ∙ enters_here n (change t path new) ps l other el ∙ here ∙ sym (enters_here n t ps l other el)
by_keys true false n t ps k path new l other ek el here later =
    ap (λ z. enters_by z l other) (change_here n t ps k path new ek) ∙ enters_past n (change t path new) ps l other el ∙ sym (enters_past n t ps l other el)
by_keys false true n t ps k path new l other ek el here later =
    ap (λ z. enters_by z l other) (change_past n t ps k path new ek) ∙ enters_here n t (change_by ps k path new) l other el ∙ sym (enters_here n t ps l other el)
by_keys false false n t ps k path new l other ek el here later =
    ap (λ z. enters_by z l other) (change_past n t ps k path new ek) ∙ enters_past n t (change_by ps k path new) l other el ∙ later ∙ sym (enters_past n t ps l other el)

mutual
  pub enters_kept : (t : Tree) (path : List Step) (new : Leaf) (other : List Step) → enters (change t path new) other ≡ enters t other
  enters_kept (leaf old) [] new other = leaf_enters (fits old new) old new other
  enters_kept (leaf old) (step ∷ path) new other = refl
  enters_kept (shared s) path new other = refl
  enters_kept nothing path new other = refl
  enters_kept (just t) [] new other = refl
  enters_kept (just t) (key k ∷ path) new other = refl
  enters_kept (just t) (place i ∷ path) new other = refl
  enters_kept (just t) (inside ∷ path) new [] = refl
  enters_kept (just t) (inside ∷ path) new (key k ∷ other) = refl
  enters_kept (just t) (inside ∷ path) new (place i ∷ other) = refl
  enters_kept (just t) (inside ∷ path) new (inside ∷ other) = enters_kept t path new other
  enters_kept (list ts) [] new other = refl
  enters_kept (list ts) (key k ∷ path) new other = refl
  enters_kept (list ts) (inside ∷ path) new other = refl
  enters_kept (list ts) (place i ∷ path) new [] = refl
  enters_kept (list ts) (place i ∷ path) new (key k ∷ other) = refl
  enters_kept (list ts) (place i ∷ path) new (inside ∷ other) = refl
  enters_kept (list ts) (place i ∷ path) new (place j ∷ other) = enters_kept_in ts i path new j other
  enters_kept (map kind ps) [] new other = refl
  enters_kept (map kind ps) (place i ∷ path) new other = refl
  enters_kept (map kind ps) (inside ∷ path) new other = refl
  enters_kept (map kind ps) (key k ∷ path) new [] = refl
  enters_kept (map kind ps) (key k ∷ path) new (place i ∷ other) = refl
  enters_kept (map kind ps) (key k ∷ path) new (inside ∷ other) = refl
  enters_kept (map kind ps) (key k ∷ path) new (key l ∷ other) = enters_kept_by ps k path new l other
  enters_kept (whole t) path new other = refl

  enters_kept_in : (ts : Trees) (i : ℕ) (path : List Step) (new : Leaf) (j : ℕ) (other : List Step) → enters_in (change_in ts i path new) j other ≡ enters_in ts j other
  enters_kept_in no_trees i path new j other = refl
  enters_kept_in (more_trees t ts) zero path new zero other = enters_kept t path new other
  enters_kept_in (more_trees t ts) zero path new (suc j) other = refl
  enters_kept_in (more_trees t ts) (suc i) path new zero other = refl
  enters_kept_in (more_trees t ts) (suc i) path new (suc j) other = enters_kept_in ts i path new j other

  enters_kept_by : (ps : Pairs) (k : List ℕ) (path : List Step) (new : Leaf) (l : List ℕ) (other : List Step) → enters_by (change_by ps k path new) l other ≡ enters_by ps l other
  enters_kept_by no_pairs k path new l other = refl
  enters_kept_by (more_pairs n t ps) k path new l other =
      by_keys (bytes_eq n k) (bytes_eq n l) n t ps k path new l other refl refl (enters_kept t path new other) (enters_kept_by ps k path new l other)
