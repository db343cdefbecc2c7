-- Whether a path leads into a whole, one step after the other.
use Rattle.std.proofs.Common.{◌≡◌, ℕ, zero, suc, Bool, true, false, ◌||◌, List, [], ◌∷◌, ◌++◌, Option, Some, None, refl, sym, ap, ◌∙◌}
use Rattle.cabinet_text_grammar.specs.Tree.{Tree, leaf, shared, nothing, just, list, map, whole, Trees, no_trees, more_trees}
use Rattle.cabinet_text_grammar.specs.Path.{Step, key, place, inside, node_at, node_in, node_by, enters, enters_in}
use Rattle.cabinet_documents.specs.Denotes.{Denotes, tagged_value}
use Rattle.cabinet_documents.specs.Denotes.Denotes.{denotes_truth, denotes_number, denotes_text, denotes_shared, denotes_nothing, denotes_some, denotes_list, denotes_ordered, denotes_hashed, denotes_kept, denotes_whole}
use Rattle.cabinet_documents.proofs.ByKey.{enters_from, enters_by_node}
use Rattle.cabinet_documents.proofs.Changing.{of_whole}
use Rattle.archive_shape_layout.specs.Value.{Value}
use Rattle.archive_shape_layout.specs.Value.Value.{counted}
use Rattle.cabinet_text_nodes.proofs.Paths.{then_at, first_step}
use Rattle.cabinet_archives.proofs.Stepping.{IsNotInside}

pub enters_nil : (t : Tree) → enters t [] ≡ false
enters_nil (leaf l) = refl
enters_nil (shared s) = refl
enters_nil nothing = refl
enters_nil (just t) = refl
enters_nil (list ts) = refl
enters_nil (map kind ps) = refl
enters_nil (whole t) = refl

from_nil : (found : Option Tree) → enters_from found [] ≡ false
from_nil None = refl
from_nil (Some t) = enters_nil t

enters_in_node : (ts : Trees) (i : ℕ) (path : List Step) → enters_in ts i path ≡ enters_from (node_in ts i []) path
enters_in_node no_trees i path = refl
enters_in_node (more_trees t ts) zero path = refl
enters_in_node (more_trees t ts) (suc i) path = enters_in_node ts i path

-- into the node that its first step leads to, or by that step
enters_first : (t : Tree) (s : Step) (rest : List Step) → enters t (s ∷ rest) ≡ (enters t (s ∷ []) || enters_from (node_at t (s ∷ [])) rest)
enters_first (leaf l) s rest = refl
enters_first (shared t) s rest = refl
enters_first nothing s rest = refl
enters_first (just t) (key k) rest = refl
enters_first (just t) (place i) rest = refl
enters_first (just t) inside rest = ap (λ b. b || enters t rest) (sym (enters_nil t))
enters_first (whole t) (key k) rest = refl
enters_first (whole t) (place i) rest = refl
enters_first (whole t) inside rest = refl
enters_first (list ts) (key k) rest = refl
enters_first (list ts) (place i) rest =
    enters_in_node ts i rest ∙ ap (λ b. b || enters_from (node_in ts i []) rest) (sym (enters_in_node ts i [] ∙ from_nil (node_in ts i [])))
enters_first (list ts) inside rest = refl
enters_first (map kind ps) (key k) rest =
    enters_by_node k rest ps ∙ ap (λ b. b || enters_from (node_by ps k []) rest) (sym (enters_by_node k [] ps ∙ from_nil (node_by ps k [])))
enters_first (map kind ps) (place i) rest = refl
enters_first (map kind ps) inside rest = refl

or_joined : (a b c : Bool) → (a || (b || c)) ≡ ((a || b) || c)
or_joined true b c = refl
or_joined false b c = refl

-- a path that goes on leads into a whole where its first steps do, or else its others
pub enters_on : (path more : List Step) (t u : Tree) → node_at t path ≡ Some u → enters t (path ++ more) ≡ (enters t path || enters u more)
enters_on [] more t u there =
    let same : t ≡ u = cc in
    ap (λ v. enters v more) same ∙ ap (λ b. b || enters u more) (sym (enters_nil t))
enters_on (s ∷ path) more t u there = by (λ w then. enters_on path more w u then) (node_at t (s ∷ [])) refl (sym (first_step t s path) ∙ there)
  where
    by : ((w : Tree) → node_at w path ≡ Some u → enters w (path ++ more) ≡ (enters w path || enters u more)) → (found : Option Tree) → node_at t (s ∷ []) ≡ found → then_at (node_at t (s ∷ [])) path ≡ Some u → enters t (s ∷ (path ++ more)) ≡ (enters t (s ∷ path) || enters u more)
    by on None none then = let no : None ≡ Some u = sym (ap (λ o. then_at o path) none) ∙ then in absurd (cc)
    by on (Some w) some then =
        let rest : node_at w path ≡ Some u = sym (ap (λ o. then_at o path) some) ∙ then in
        enters_first t s (path ++ more)
        ∙ ap (λ o. enters t (s ∷ []) || enters_from o (path ++ more)) some
        ∙ ap (λ b. enters t (s ∷ []) || b) (on w rest)
        ∙ or_joined (enters t (s ∷ [])) (enters w path) (enters u more)
        ∙ ap (λ o. (enters t (s ∷ []) || enters_from o path) || enters u more) (sym some)
        ∙ ap (λ b. b || enters u more) (sym (enters_first t s path))

-- ---- one step

-- into a whole leads a step inside
pub enters_whole : {v u : Value} {t : Tree} {at : ℕ} → v ≡ tagged_value 9 (counted at u) → Denotes v t → enters t (inside ∷ []) ≡ true
enters_whole e d = let o = of_whole e d in ap (λ x. enters x (inside ∷ [])) o.is

whole_outside : (u : Tree) (s : Step) → IsNotInside s → enters (whole u) (s ∷ []) ≡ false
whole_outside u (key k) other = refl
whole_outside u (place i) other = refl
whole_outside u inside other = absurd other

not_whole : (t : Tree) (s : Step) → ((u : Tree) → t ≡ whole u → ⊥) → enters t (s ∷ []) ≡ false
not_whole (leaf l) s other = refl
not_whole (shared t) s other = refl
not_whole nothing s other = refl
not_whole (just t) (key k) other = refl
not_whole (just t) (place i) other = refl
not_whole (just t) inside other = enters_nil t
not_whole (whole t) s other = absurd (other t refl)
not_whole (list ts) (key k) other = refl
not_whole (list ts) (place i) other = enters_in_node ts i [] ∙ from_nil (node_in ts i [])
not_whole (list ts) inside other = refl
not_whole (map kind ps) (key k) other = enters_by_node k [] ps ∙ from_nil (node_by ps k [])
not_whole (map kind ps) (place i) other = refl
not_whole (map kind ps) inside other = refl

-- and no other step, nor one from another node
pub enters_no_whole : {v w : Value} {t : Tree} {tag : ℕ} (s : Step) → v ≡ tagged_value tag w → (tag ≡ 9 → IsNotInside s) → Denotes v t → enters t (s ∷ []) ≡ false
enters_no_whole {t = t} s e other (denotes_truth f g) = not_whole t s (λ u h. let both = sym g ∙ h in cc)
enters_no_whole {t = t} s e other (denotes_number f g) = not_whole t s (λ u h. let both = sym g ∙ h in cc)
enters_no_whole {t = t} s e other (denotes_text f g) = not_whole t s (λ u h. let both = sym g ∙ h in cc)
enters_no_whole {t = t} s e other (denotes_shared f g) = not_whole t s (λ u h. let both = sym g ∙ h in cc)
enters_no_whole {t = t} s e other (denotes_nothing f g) = not_whole t s (λ u h. let both = sym g ∙ h in cc)
enters_no_whole {t = t} s e other (denotes_some f g d) = not_whole t s (λ u h. let both = sym g ∙ h in cc)
enters_no_whole {t = t} s e other (denotes_list f g d) = not_whole t s (λ u h. let both = sym g ∙ h in cc)
enters_no_whole {t = t} s e other (denotes_ordered f g d) = not_whole t s (λ u h. let both = sym g ∙ h in cc)
enters_no_whole {t = t} s e other (denotes_hashed f g d) = not_whole t s (λ u h. let both = sym g ∙ h in cc)
enters_no_whole {t = t} s e other (denotes_kept f g d) = not_whole t s (λ u h. let both = sym g ∙ h in cc)
enters_no_whole {tag = tag} s e other (denotes_whole {u = u} f g d) = let is : tag ≡ 9 = cc in ap (λ x. enters x (s ∷ [])) g ∙ whole_outside u s (other is)
