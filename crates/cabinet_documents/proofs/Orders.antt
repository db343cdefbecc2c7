-- Edits of leaves at two paths, in either order.
use Rattle.std.proofs.Common.{◌≡◌, ◌≢◌, ℕ, zero, suc, ◌+◌, ◌≤◌, Bool, true, false, List, [], ◌∷◌, ◌++◌, length, Some, refl, sym, ap, ap₂, ◌∙◌, ⊎_elim}
use Rattle.std.specs.Str.{bytes_eq}
use Rattle.std.proofs.lemmas.Slice.Eq.{bytes_eq-Decides}
use Rattle.archive_shape_layout.specs.Edit.{Apart}
use Rattle.archive_shape_layout.specs.Holds.{root_position}
use Rattle.archive_shape.specs.Bytes.{overwrite}
use Rattle.archive_shape.proofs.Written.{overwrites_commute}
use Rattle.cabinet_text_grammar.specs.Tree.{Leaf, Tree, leaf, shared, nothing, just, list, map, whole, Trees, no_trees, more_trees, Pairs, no_pairs, more_pairs}
use Rattle.cabinet_text_grammar.specs.Path.{Step, key, place, inside, node_at, node_in, node_by}
use Rattle.cabinet_text_grammar.specs.Answering.{change, change_in, change_by}
use Rattle.cabinet_documents.specs.Node.{node_shape, own_bytes}
use Rattle.cabinet_documents.specs.Laws.{EditsInEitherOrder}
use Rattle.cabinet_documents.proofs.Outside.{enters_kept}
use Rattle.cabinet_documents.proofs.ByKey.{change_here, change_past, node_here, node_past}
use Rattle.cabinet_documents.proofs.OwnWritten.{own_within}
use Rattle.cabinet_documents.proofs.Apart.{own_bytes_apart_law}

record Both (t : Tree) (path other : List Step) (l m : Leaf) : Type 0 where
  same_document : change (change t path l) other m ≡ change (change t other m) path l
  stays : node_at (change t path l) other ≡ node_at t other
  other_stays : node_at (change t other m) path ≡ node_at t path

record BothIn (ts : Trees) (i j : ℕ) (path other : List Step) (l m : Leaf) : Type 0 where
  same_list : change_in (change_in ts i path l) j other m ≡ change_in (change_in ts j other m) i path l
  stays : node_in (change_in ts i path l) j other ≡ node_in ts j other
  other_stays : node_in (change_in ts j other m) i path ≡ node_in ts i path

record BothBy (ps : Pairs) (a b : List ℕ) (path other : List Step) (l m : Leaf) : Type 0 where
  same_pairs : change_by (change_by ps a path l) b other m ≡ change_by (change_by ps b other m) a path l
  stays : node_by (change_by ps a path l) b other ≡ node_by ps b other
  other_stays : node_by (change_by ps b other m) a path ≡ node_by ps a path

-- of a pair, whose key equals both keys, one of them or neither
both_keys :
    (x y : Bool) (n : List ℕ) (t : Tree) (ps : Pairs) (a b : List ℕ) (path other : List Step) (k h l m : Leaf)
    → bytes_eq n a ≡ x
    → bytes_eq n b ≡ y
    → (node_at t path ≡ Some (leaf k) → node_at t other ≡ Some (leaf h) → path ≢ other → Both t path other l m)
    → (node_by ps a path ≡ Some (leaf k) → node_by ps b other ≡ Some (leaf h) → (a ≡ b → path ≡ other → ⊥) → BothBy ps a b path other l m)
    → node_by (more_pairs n t ps) a path ≡ Some (leaf k)
    → node_by (more_pairs n t ps) b other ≡ Some (leaf h)
    → (a ≡ b → path ≡ other → ⊥)
    → BothBy (more_pairs n t ps) a b path other l m
both_keys true true n t ps a b path other k h l m ea eb on later e f differ =
    let same : a ≡ b = sym ((bytes_eq-Decides n a).0 ea) ∙ (bytes_eq-Decides n b).0 eb in
    let r = on (sym (node_here n t ps a path ea) ∙ e) (sym (node_here n t ps b other eb) ∙ f) (λ p. differ same p) in
    record {
      same_pairs = ap (λ z. change_by z b other m) (change_here n t ps a path l ea) ∙ change_here n (change t path l) ps b other m eb ∙ ap (λ z. more_pairs n z ps) r.same_document
          ∙ sym (ap (λ z. change_by z a path l) (change_here n t ps b other m eb) ∙ change_here n (change t other m) ps a path l ea);
      stays = ap (λ z. node_by z b other) (change_here n t ps a path l ea) ∙ node_here n (change t path l) ps b other eb ∙ r.stays ∙ sym (node_here n t ps b other eb);
      other_stays = ap (λ z. node_by z a path) (change_here n t ps b other m eb) ∙ node_here n (change t other m) ps a path ea ∙ r.other_stays ∙ sym (node_here n t ps a path ea);
    }
both_keys true false n t ps a b path other k h l m ea eb on later e f differ = record {
  same_pairs = ap (λ z. change_by z b other m) (change_here n t ps a path l ea) ∙ change_past n (change t path l) ps b other m eb
      ∙ sym (ap (λ z. change_by z a path l) (change_past n t ps b other m eb) ∙ change_here n t (change_by ps b other m) a path l ea);
  stays = ap (λ z. node_by z b other) (change_here n t ps a path l ea) ∙ node_past n (change t path l) ps b other eb ∙ sym (node_past n t ps b other eb);
  other_stays = ap (λ z. node_by z a path) (change_past n t ps b other m eb) ∙ node_here n t (change_by ps b other m) a path ea ∙ sym (node_here n t ps a path ea);
}
both_keys false true n t ps a b path other k h l m ea eb on later e f differ = record {
  same_pairs = ap (λ z. change_by z b other m) (change_past n t ps a path l ea) ∙ change_here n t (change_by ps a path l) b other m eb
      ∙ sym (ap (λ z. change_by z a path l) (change_here n t ps b other m eb) ∙ change_past n (change t other m) ps a path l ea);
  stays = ap (λ z. node_by z b other) (change_past n t ps a path l ea) ∙ node_here n t (change_by ps a path l) b other eb ∙ sym (node_here n t ps b other eb);
  other_stays = ap (λ z. node_by z a path) (change_here n t ps b other m eb) ∙ node_past n (change t other m) ps a path ea ∙ sym (node_past n t ps a path ea);
}
both_keys false false n t ps a b path other k h l m ea eb on later e f differ =
    let r = later (sym (node_past n t ps a path ea) ∙ e) (sym (node_past n t ps b other eb) ∙ f) differ in
    record {
      same_pairs = ap (λ z. change_by z b other m) (change_past n t ps a path l ea) ∙ change_past n t (change_by ps a path l) b other m eb ∙ ap (λ z. more_pairs n t z) r.same_pairs
          ∙ sym (ap (λ z. change_by z a path l) (change_past n t ps b other m eb) ∙ change_past n t (change_by ps b other m) a path l ea);
      stays = ap (λ z. node_by z b other) (change_past n t ps a path l ea) ∙ node_past n t (change_by ps a path l) b other eb ∙ r.stays ∙ sym (node_past n t ps b other eb);
      other_stays = ap (λ z. node_by z a path) (change_past n t ps b other m eb) ∙ node_past n t (change_by ps b other m) a path ea ∙ r.other_stays ∙ sym (node_past n t ps a path ea);
    }

mutual
  both : (t : Tree) (path other : List Step) (k h l m : Leaf) → node_at t path ≡ Some (leaf k) → node_at t other ≡ Some (leaf h) → path ≢ other → Both t path other l m
  both (leaf a) [] [] k h l m e f differ = absurd (differ refl)
  both (leaf a) [] (step ∷ other) k h l m e f differ = absurd (cc)
  both (leaf a) (step ∷ path) other k h l m e f differ = absurd (cc)
  both (shared s) [] other k h l m e f differ = absurd (cc)
  both (shared s) (step ∷ path) other k h l m e f differ = absurd (cc)
  both nothing [] other k h l m e f differ = absurd (cc)
  both nothing (step ∷ path) other k h l m e f differ = absurd (cc)
  both (just t) [] other k h l m e f differ = absurd (cc)
  both (just t) (key c ∷ path) other k h l m e f differ = absurd (cc)
  both (just t) (place i ∷ path) other k h l m e f differ = absurd (cc)
  both (just t) (inside ∷ path) [] k h l m e f differ = absurd (cc)
  both (just t) (inside ∷ path) (key c ∷ other) k h l m e f differ = absurd (cc)
  both (just t) (inside ∷ path) (place i ∷ other) k h l m e f differ = absurd (cc)
  both (just t) (inside ∷ path) (inside ∷ other) k h l m e f differ =
      let r = both t path other k h l m e f (λ p. differ (ap (λ x. inside ∷ x) p)) in
      record { same_document = ap just r.same_document; stays = r.stays; other_stays = r.other_stays }
  both (list ts) [] other k h l m e f differ = absurd (cc)
  both (list ts) (key c ∷ path) other k h l m e f differ = absurd (cc)
  both (list ts) (inside ∷ path) other k h l m e f differ = absurd (cc)
  both (list ts) (place i ∷ path) [] k h l m e f differ = absurd (cc)
  both (list ts) (place i ∷ path) (key c ∷ other) k h l m e f differ = absurd (cc)
  both (list ts) (place i ∷ path) (inside ∷ other) k h l m e f differ = absurd (cc)
  both (list ts) (place i ∷ path) (place j ∷ other) k h l m e f differ =
      let r = both_in ts i j path other k h l m e f (λ q p. differ (ap₂ (λ x y. place x ∷ y) q p)) in
      record { same_document = ap list r.same_list; stays = r.stays; other_stays = r.other_stays }
  both (map kind ps) [] other k h l m e f differ = absurd (cc)
  both (map kind ps) (place i ∷ path) other k h l m e f differ = absurd (cc)
  both (map kind ps) (inside ∷ path) other k h l m e f differ = absurd (cc)
  both (map kind ps) (key a ∷ path) [] k h l m e f differ = absurd (cc)
  both (map kind ps) (key a ∷ path) (place i ∷ other) k h l m e f differ = absurd (cc)
  both (map kind ps) (key a ∷ path) (inside ∷ other) k h l m e f differ = absurd (cc)
  both (map kind ps) (key a ∷ path) (key b ∷ other) k h l m e f differ =
      let r = both_by ps a b path other k h l m e f (λ q p. differ (ap₂ (λ x y. key x ∷ y) q p)) in
      record { same_document = ap (map kind) r.same_pairs; stays = r.stays; other_stays = r.other_stays }
  both (whole t) [] other k h l m e f differ = absurd (cc)
  both (whole t) (step ∷ path) [] k h l m e f differ = absurd (cc)
  both (whole t) (step ∷ path) (next ∷ other) k h l m e f differ = record { same_document = refl; stays = refl; other_stays = refl }

  both_in : (ts : Trees) (i j : ℕ) (path other : List Step) (k h l m : Leaf) → node_in ts i path ≡ Some (leaf k) → node_in ts j other ≡ Some (leaf h) → (i ≡ j → path ≡ other → ⊥) → BothIn ts i j path other l m
  both_in no_trees i j path other k h l m e f differ = absurd (cc)
  both_in (more_trees t ts) zero zero path other k h l m e f differ =
      let r = both t path other k h l m e f (λ p. differ refl p) in
      record { same_list = ap (λ x. more_trees x ts) r.same_document; stays = r.stays; other_stays = r.other_stays }
  both_in (more_trees t ts) zero (suc j) path other k h l m e f differ = record { same_list = refl; stays = refl; other_stays = refl }
  both_in (more_trees t ts) (suc i) zero path other k h l m e f differ = record { same_list = refl; stays = refl; other_stays = refl }
  both_in (more_trees t ts) (suc i) (suc j) path other k h l m e f differ =
      let r = both_in ts i j path other k h l m e f (λ q p. differ (ap suc q) p) in
      record { same_list = ap (more_trees t) r.same_list; stays = r.stays; other_stays = r.other_stays }

  both_by : (ps : Pairs) (a b : List ℕ) (path other : List Step) (k h l m : Leaf) → node_by ps a path ≡ Some (leaf k) → node_by ps b other ≡ Some (leaf h) → (a ≡ b → path ≡ other → ⊥) → BothBy ps a b path other l m
  both_by no_pairs a b path other k h l m e f differ = absurd (cc)
  both_by (more_pairs n t ps) a b path other k h l m e f differ =
      both_keys (bytes_eq n a) (bytes_eq n b) n t ps a b path other k h l m refl refl (λ x y z. both t path other k h l m x y z) (λ x y z. both_by ps a b path other k h l m x y z) e f differ

-- writes apart, in either order
writes_commute :
    (bytes : List ℕ) (at : ℕ) (piece : List ℕ) (from : ℕ) (other : List ℕ)
    → at + length piece ≤ length bytes
    → from + length other ≤ length bytes
    → Apart at (length piece) from (length other)
    → overwrite (overwrite bytes at piece) from other ≡ overwrite (overwrite bytes from other) at piece
writes_commute bytes at piece from other h k apart =
    ⊎_elim (λ a. overwrites_commute bytes at piece from other a k) (λ a. sym (overwrites_commute bytes from other at piece a h)) apart

pub edits_in_either_order_law : EditsInEitherOrder
edits_in_either_order_law bytes t path other l m start from a is_l is_m d e o p differ =
    let pos = root_position (length bytes) node_shape in
    let r = both t path other d.old e.old l m d.there e.there differ in
    let room = own_within bytes pos a.value a.regions a.visits (o.inner ++ 0 ∷ []) a.root o.stands o.own in
    let space = own_within bytes pos a.value a.regions a.visits (p.inner ++ 0 ∷ []) a.root p.stands p.own in
    record {
      same_bytes = writes_commute bytes start (own_bytes l) from (own_bytes m) room space (own_bytes_apart_law bytes t path other start (length (own_bytes l)) from (length (own_bytes m)) a o p differ);
      same_document = r.same_document;
      first = record { old = d.old; there = r.other_stays ∙ d.there; outside = enters_kept t other m path ∙ d.outside; fitting = d.fitting };
      second = record { old = e.old; there = r.stays ∙ e.there; outside = enters_kept t path l other ∙ e.outside; fitting = e.fitting };
    }
