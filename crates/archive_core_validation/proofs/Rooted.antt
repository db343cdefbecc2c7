-- The position of a root, and the result of its check.
use Rattle.std.proofs.Common.{◌≡◌, ℕ, ◌-◌, ◌%◌, ◌^◌, ◌<◌, ◌≤◌, min, List, [], ◌∷◌, length, Result, Ok, Err, IfOk, refl, ap, subst, ◌∙◌, le_refl, arith}
use Rattle.archive_shape_layout.specs.Shape.{Shape, align_of, size_of}
use Rattle.archive_shape_layout.specs.Shape.Pointee.{sized}
use Rattle.archive_shape_layout.specs.Content.{Names}
use Rattle.archive_shape_layout.specs.Content.Part.{at}
use Rattle.archive_shape_layout.specs.Content.Label.{same}
use Rattle.archive_shape_layout.specs.Holds.{Visit, OpenShared, root_position}
use Rattle.archive_shape_layout.specs.Visited.{AllStand}
use Rattle.archive_shape_layout.specs.Visited.AllStand.{none_stand}
use Rattle.archive_shape.specs.Range.{Range, narrowed_to}
use Rattle.archive_shape.specs.Accepts.{Passes}
use Rattle.archive_shape.specs.Questions.{pointee_span}
use Rattle.archive_shape.specs.Kept.{Kept, Records, range_of}
use Rattle.archive_shape.specs.PartFault.{PartFault}
use Rattle.archive_shape.specs.Checks.{Checks}
use Rattle.archive_shape_layout.specs.declared.error.Error.{Error}
use Rattle.archive_shape.proofs.Inverted.{claim_answered, claimed_parts, first_part}
use Rattle.archive_forms_values.proofs.Contents.{sized_is}
use Rattle.archive_forms_values.specs.Parts.{HasValue}
use Rattle.archive_forms_values.proofs.Accepted.{accepted_has_value}
use Rattle.archive_core_validation.specs.Access.{root_at, whole_range, Decides}

-- the size that a type says stops at `usize::MAX`, which is the length of no buffer
pub root_lies :
    (len size align start : ℕ) (s : Shape)
    → len < 2 ^ 64
    → size ≡ min (size_of s) (2 ^ 64 - 1)
    → align ≡ align_of s
    → start ≡ len - size
    → start - start % align ≡ root_position len s
unfolding root_position
root_lies len size align start s fits is aligned from =
    let same_start : start ≡ len - size_of s = omega arith in
    ap (λ x. x - x % align) same_start ∙ ap (λ a. (len - size_of s) - (len - size_of s) % a) aligned

-- an accepted root has a value, since what it claims lies before it
pub root_has_value :
    (s : Shape) (knows : Names → Type 0) (names : Names) (bytes : List ℕ) (inside : List OpenShared) (before : List Visit) (pos : ℕ) (k : Range)
    → knows names
    → AllStand names bytes k.start before
    → k.end ≤ length bytes
    → Passes names bytes inside before (root_at pos s) k
    → HasValue s knows bytes pos
root_has_value s knows names bytes inside before pos k known stand covered passes =
    let is = sized_is names bytes pos s 1 in
    let span = pointee_span pos (sized s) 1 in
    let claimed = claim_answered names bytes inside before (root_at pos s) k span same (at pos s ∷ []) is passes in
    let ends = claimed.0.ends in
    let parts = claimed_parts names bytes inside before (root_at pos s) k span same (at pos s ∷ []) is passes in
    accepted_has_value s knows names bytes inside before pos (narrowed_to k pos) known stand claimed.0.begins (le_refl pos) (omega (arith, ends, covered))
    (first_part names bytes inside before (at pos s) [] (narrowed_to k pos) parts)

-- the check of a root in a context that has seen nothing, over the whole buffer
pub decided :
    (s : Shape) (names : Names) (bytes : List ℕ) (pos most : ℕ) (k l : Kept) (r : Result (Unit {0}) Error)
    → range_of k ≡ whole_range (length bytes) most
    → Records k.seen [] []
    → Checks names bytes (root_at pos s) k r l
    → Decides names bytes s pos most r
decided s names bytes pos most k l (Ok x) range none h = subst (Passes names bytes [] [] (root_at pos s)) range (h [] [] none).passes
decided s names bytes pos most k l (Err e) range none h = λ f. subst (λ y. PartFault names bytes [] [] (root_at pos s) y e) range (h [] [] none f)

pub decided_has_value :
    (s : Shape) (knows : Names → Type 0) (names : Names) (bytes : List ℕ) (pos most : ℕ) {A : Type 0} (r : Result A Error)
    → knows names
    → Decides names bytes s pos most r
    → IfOk r (λ _. HasValue s knows bytes pos)
decided_has_value s knows names bytes pos most (Ok x) known h = root_has_value s knows names bytes [] [] pos (whole_range (length bytes) most) known (none_stand refl) (le_refl (length bytes)) h
decided_has_value s knows names bytes pos most (Err e) known h = tt
