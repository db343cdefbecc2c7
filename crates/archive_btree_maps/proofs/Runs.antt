-- Entries of a map that lie side by side.
use denote.Ref.{Bor}
use Rattle.std.proofs.Common.{◌≡◌, ◌∙◌, ℕ, List, [], ◌++◌, map, All, ap, sym, subst, append-nil}
use Rattle.std.proofs.lemmas.List.{map-append}
use Rattle.std.proofs.lemmas.List.Elements.{All-map}
use Rattle.archive_shape_layout.specs.Shape.{Shape}
use Rattle.archive_shape_layout.specs.Shape.Shape.{tree}
use Rattle.archive_shape_layout.specs.Content.{Names}
use Rattle.archive_shape.specs.declared.references.refs.Ref.{Ref}
use Rattle.archive_btree_layout.specs.Reading.{Place}
use Rattle.archive_btree_layout.specs.Tree.{Tree, items}
use Rattle.archive_btree_maps.specs.Ranges.{IsRun}
use Rattle.archive_btree_maps.proofs.Sublists.{all_front, all_back}
use Rattle.archive_forms_values.specs.Parts.{HasValue, both}
use Rattle.archive_btree_maps.specs.Maps.{IsMapAt}
use Rattle.archive_btree_maps.specs.Refs.{entry_at, IsThere}
use Rattle.archive_btree_maps.proofs.HeldKeys.{EntryIsThere, entries_are}
use Rattle.archive_btree_maps.proofs.One.{one_map}
use Rattle.archive_btree_maps.proofs.Roots.{tree_of_value}

pub whole_run : {A : Type 0} (es : List A) → IsRun es es
whole_run es = record { before = []; after = []; is = sym (append-nil es) }

run_mapped : {A B : Type 0} (f : A → B) (es whole : List A) → IsRun es whole → IsRun (map f es) (map f whole)
run_mapped f es whole run =
    record {
      before = map f run.before;
      after = map f run.after;
      is = ap (map f) run.is ∙ map-append f run.before (es ++ run.after) ∙ ap (λ s. map f run.before ++ s) (map-append f es run.after);
    }

-- what is made of elements that lie side by side lies side by side
pub made_run : {A B : Type 0} (f : A → B) (made : List B) (es whole : List A) → made ≡ map f es → IsRun es whole → IsRun made (map f whole)
made_run f made es whole is run = subst (λ ys. IsRun ys (map f whole)) (sym is) (run_mapped f es whole run)

-- what holds of all holds of those that lie side by side
run_all : {A : Type 0} (P : A → Type 0) (es whole : List A) → IsRun es whole → All P whole → All P es
run_all P es whole run all = all_front P es run.after (all_back P run.before (es ++ run.after) (subst (All P) run.is all))

module _ (K V : Type 0) (k v : Shape) (knows others : Names → Type 0) (bytes : Bor (List ℕ)) (most pos : ℕ) (has : HasValue (tree most k v) (both knows others) bytes.now pos) (entries : List (Ref K × Ref V)) where
  -- values lie at entries of a map that lie side by side
  pub made_there : (es : List Place) → entries ≡ map (entry_at bytes) es → ((t : Tree Place) → IsMapAt bytes.now most k v pos t → IsRun es (items t))
      → All (IsThere k v knows others) entries
  made_there es is run =
      let m = tree_of_value has in
      let all = entries_are k v knows others bytes.now (EntryIsThere k v knows others bytes.now) (λ e u w x y. (record { value = u; held = x }, record { value = w; held = y })) most pos has m.search_tree m.map in
      subst (All (IsThere k v knows others)) (sym is)
      (All-map (IsThere k v knows others) (entry_at bytes {K = K} {V = V}) es (run_all (EntryIsThere k v knows others bytes.now) es (items m.search_tree) (run m.search_tree m.map) all))

  -- and at all
  pub all_there : ((t : Tree Place) → IsMapAt bytes.now most k v pos t → entries ≡ map (entry_at bytes) (items t)) → All (IsThere k v knows others) entries
  all_there are =
      let m = tree_of_value has in
      made_there (items m.search_tree) (are m.search_tree m.map) (λ t is. subst (λ u. IsRun (items m.search_tree) (items u)) (one_map bytes.now most k v pos m.search_tree t m.map is) (whole_run (items m.search_tree)))
