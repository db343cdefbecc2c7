-- A value that was visited is at its position.
use Rattle.std.proofs.Common.{◌≡◌, ℕ, List, [], ◌∷◌, Option, Some, inl, inr, subst}
use Rattle.std.proofs.lemmas.Bool.Decides.{eqb_tells}
use Rattle.archive_shape_layout.specs.Content.{Names}
use Rattle.archive_shape_layout.specs.Content.Part.{behind}
use Rattle.archive_shape_layout.specs.Holds.{Region, Visit, OpenShared, visited, Holds}
use Rattle.archive_shape_layout.specs.Visited.{AllStand, ClaimedAfter}
use Rattle.archive_shape_layout.specs.Visited.AllStand.{none_stand, more_stand}

-- a pointee has its value below a position
pub record Stands (names : Names) (bytes : List ℕ) (high : ℕ) (x : Visit) : Type 0 where
  pub level : ℕ
  pub inside : List OpenShared
  pub regions : List Region
  pub before : List Visit
  pub after : List Visit
  pub low : ℕ
  pub claimed : ClaimedAfter names bytes before low high regions
  pub holds : Holds names bytes level inside (behind x.pos x.pointee x.len) x.value regions before after

module _ (names : Names) (bytes : List ℕ) (high pos : ℕ) (x : Visit) where
  -- the first that was visited at a position, or an earlier one
  first_or_earlier : (y : Visit) (ys : List Visit) → Stands names bytes high y → (visited ys pos ≡ Some x → Stands names bytes high x) → visited (y ∷ ys) pos ≡ Some x → Stands names bytes high x
  first_or_earlier y ys first earlier e =
      elim (eqb_tells y.pos pos) [
        | inl is ↦
            let found : ◌≡◌ {A = Option Visit} (Some y) (Some x) = rw is.0 at e in
            let same : y ≡ x = cc in
            subst (Stands names bytes high) same first
        | inr differs ↦ earlier (rw differs.0 at e)
      ]

  pub visit_stands : {visits : List Visit} → AllStand names bytes high visits → visited visits pos ≡ Some x → Stands names bytes high x
  visit_stands (none_stand is) e = absurd (let none : visited [] pos ≡ Some x = subst (λ vs. visited vs pos ≡ Some x) is e in cc)
  visit_stands (more_stand {low = low} {level = level} {inside = inside} {x = y} {regions = regions} {before = before} {between = between} stand below ascends holds others is) e =
      first_or_earlier y between
      (record { level = level; inside = inside; regions = regions; before = before; after = between; low = low; claimed = record { stand = stand; below = below; ascends = ascends }; holds = holds })
      (λ earlier. visit_stands others earlier) (subst (λ vs. visited vs pos ≡ Some x) is e)
