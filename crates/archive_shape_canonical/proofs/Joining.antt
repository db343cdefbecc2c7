-- A path that leads to no key, after another.
use Rattle.std.proofs.Common.{ℕ, zero, suc, List, [], ◌∷◌, ◌++◌, sym, subst}
use Rattle.archive_shape_layout.specs.Value.{Value, Values}
use Rattle.archive_shape_layout.specs.Content.{Names, Part}
use Rattle.archive_shape_layout.specs.Content.Part.{at, behind, node, child, entry, buckets, place_at}
use Rattle.archive_shape_layout.specs.Holds.{Region, Visit, OpenShared, Holds}
use Rattle.archive_shape_layout.specs.Path.{through, Stands, StandsIn}
use Rattle.archive_shape_layout.specs.Path.Stands.{stands_here, stands_plain, stands_claimed}
use Rattle.archive_shape_layout.specs.Path.StandsIn.{stands_first, stands_later}
use Rattle.archive_shape_layout.proofs.Stood.{through_more}
use Rattle.archive_shape_canonical.specs.Laws.{IsBehindKey, IsOnward, AvoidsItemKey, AvoidsKey, AvoidsKeys, AvoidKeys, AvoidingStands, AvoidingPathsJoin}

behind_more : (inner more : List ℕ) → IsBehindKey inner → IsBehindKey (inner ++ more)
behind_more [] more h = absurd h
behind_more (i ∷ []) more h = absurd h
behind_more (i ∷ (zero ∷ path)) more h = absurd h
behind_more (i ∷ (suc j ∷ path)) more h = tt

onward_more : (inner more : List ℕ) → IsOnward inner → IsOnward (inner ++ more)
onward_more [] more h = absurd h
onward_more (i ∷ path) more h = tt

items_more : (ps : List Part) (inner more : List ℕ) → AvoidsItemKey ps inner → AvoidsItemKey ps (inner ++ more)
items_more [] inner more h = tt
items_more (at pos s ∷ ps) inner more h = tt
items_more (behind pos q len ∷ ps) inner more h = tt
items_more (node level most k v pos ∷ ps) inner more h = behind_more inner more h
items_more (child level most k v pos ∷ ps) inner more h = tt
items_more (entry k a v b ∷ ps) inner more h = tt
items_more (buckets target len cap it ∷ ps) inner more h = behind_more inner more h
items_more (place_at pos limit ∷ ps) inner more h = tt

key_more : (p : Part) (ps : List Part) (inner more : List ℕ) → AvoidsKey p ps inner → AvoidsKey p ps (inner ++ more)
key_more (at pos s) ps inner more h = items_more ps inner more h
key_more (behind pos q len) ps inner more h = tt
key_more (node level most k v pos) ps inner more h = onward_more inner more h
key_more (child level most k v pos) ps inner more h = items_more ps inner more h
key_more (entry k a v b) ps inner more h = tt
key_more (buckets target len cap it) ps inner more h = tt
key_more (place_at pos limit) ps inner more h = tt

module _
    (more : List ℕ) (names : Names) (bytes : List ℕ) (q r : Part) (w u : Value)
    (on : (level : ℕ) (inside : List OpenShared) (before after : List Visit) (regions : List Region)
    → Holds names bytes level inside q w regions before after → AvoidingStands names bytes r u level inside before q w more)
  where
    record SparingIn (level : ℕ) (inside : List OpenShared) (before : List Visit) (ps : List Part) (vs : Values) (i : ℕ) (path : List ℕ) : Type 0 where
      stands : StandsIn names bytes r u level inside before ps vs i path
      spares : AvoidKeys stands

    mutual
      joined : {level : ℕ} {inside : List OpenShared} {before : List Visit} {p : Part} {v : Value} {path : List ℕ} (regions : List Region) (after : List Visit)
          → Holds names bytes level inside p v regions before after
          → (stands : Stands names bytes q w level inside before p v path) → AvoidsKeys stands → AvoidingStands names bytes r u level inside before p v (path ++ more)
      joined {level = level} {inside = inside} {before = before} {p = p} {v = v} {path = path} regions after h (stands_here ep ev er) free =
          let at_q = subst (λ x. Holds names bytes level inside x v regions before after) ep h in
          let there = on level inside before after regions (subst (λ x. Holds names bytes level inside q x regions before after) ev at_q) in
          subst (λ x. AvoidingStands names bytes r u level inside before x v (path ++ more)) (sym ep)
          (subst (λ x. AvoidingStands names bytes r u level inside before q x (path ++ more)) (sym ev)
          (subst (λ x. AvoidingStands names bytes r u level inside before q w (x ++ more)) (sym er) there))
      joined {p = p} regions after h (stands_plain {inner = inner} {path = path} {l = l} {ps = ps} {vs = vs} {i = i} e within is_made through) free =
          let d = joined_in within free.1 in
          record { stands = stands_plain e d.stands is_made (through_more more l vs i inner path through); spares = (key_more p ps inner more free.0, d.spares) }
      joined {p = p} regions after h (stands_claimed {inner = inner} {path = path} {l = l} {ps = ps} {vs = vs} {i = i} e within is_made through) free =
          let d = joined_in within free.1 in
          record { stands = stands_claimed e d.stands is_made (through_more more l vs i inner path through); spares = (key_more p ps inner more free.0, d.spares) }

      joined_in : {level : ℕ} {inside : List OpenShared} {before : List Visit} {ps : List Part} {vs : Values} {i : ℕ} {path : List ℕ}
          → (stands : StandsIn names bytes q w level inside before ps vs i path) → AvoidKeys stands → SparingIn level inside before ps vs i (path ++ more)
      joined_in (stands_first {between = between} {here = here} stands holds rest is zero_is) free =
          let d = joined here between holds stands free in
          record { stands = stands_first d.stands holds rest is zero_is; spares = d.spares }
      joined_in (stands_later holds stands is suc_is) free =
          let d = joined_in stands free in
          record { stands = stands_later holds d.stands is suc_is; spares = d.spares }

pub avoiding_paths_join_law : AvoidingPathsJoin
avoiding_paths_join_law names bytes level inside before after p q r v w u regions path inner h stands on =
    joined inner names bytes q r w u (λ deeper around since until claims k. on deeper around since until claims k) regions after h stands.stands stands.spares
