-- The one part of a value that has one.
use Rattle.std.proofs.Common.{◌≡◌, ℕ, ◌+◌, ◌≤◌, List, [], ◌∷◌, ◌++◌, length, Option, Some, None, MatchOption, IsSome, refl, sym, ap, subst, ◌∙◌, append-nil}
use Rattle.archive_shape_layout.specs.Shape.{Shape, size_of}
use Rattle.archive_shape_layout.specs.Value.{Value, Values}
use Rattle.archive_shape_layout.specs.Value.Values.{no_values, more_values}
use Rattle.archive_shape_layout.specs.Content.{Names, Part, Label, content_of, made}
use Rattle.archive_shape_layout.specs.Content.Part.{at}
use Rattle.archive_shape_layout.specs.Content.Label.{tagged}
use Rattle.archive_shape_layout.specs.Content.Content.{plain}
use Rattle.archive_shape_layout.specs.Holds.{Region, Visit, OpenShared, Holds, HoldAll}
use Rattle.archive_shape_layout.specs.Holds.HoldAll.{holds_none, holds_more}
use Rattle.archive_shape_layout.proofs.Unique.{by_plain}
use Rattle.archive_shape_layout.proofs.Visited.{claimed_raised}
use Rattle.archive_shape.specs.Key.{HeldAt}

module _ (names : Names) (bytes : List ℕ) where
  -- one part, with its value
  pub record OneHolds (level : ℕ) (inside : List OpenShared) (p : Part) (vs : Values) (regions : List Region) (before after : List Visit) : Type 0 where
    pub value : Value
    pub is : vs ≡ more_values value no_values
    pub holds : Holds names bytes level inside p value regions before after

  -- no parts have no values
  pub none_held : {level : ℕ} {inside : List OpenShared} {vs : Values} {regions : List Region} {before after : List Visit} → HoldAll names bytes level inside [] vs regions before after → vs ≡ no_values
  none_held (holds_none e r a) = e

  -- a list of one part is this part
  pub one_held : {level : ℕ} {inside : List OpenShared} {p : Part} {vs : Values} {regions : List Region} {before after : List Visit} → HoldAll names bytes level inside (p ∷ []) vs regions before after → OneHolds level inside p vs regions before after
  one_held {level} {inside} {p} {regions = regions} {before} {after} (holds_more {v = v} {here = here} {between = between} x (holds_none none empty stays) is joined) =
      let claims : here ≡ regions = sym (joined ∙ ap (λ rs. here ++ rs) empty ∙ append-nil here) in
      record {
        value = v;
        is = is ∙ ap (more_values v) none;
        holds = subst (λ rs. Holds names bytes level inside p v rs before after) claims (subst (λ a. Holds names bytes level inside p v here before a) (sym stays) x);
      }

-- what a value is made of, where it is the value of one part
pub record PartHeld (label : Label) (shape : Shape) (knows : Names → Type 0) (bytes : List ℕ) (to : ℕ) (value : Value) : Type 0 where
  pub part : Value
  pub is_made : made label (more_values part no_values) ≡ Some value
  pub held : HeldAt shape knows bytes to part

-- with nothing claimed round it, the part is in the layout wherever the whole is
pub plain_part :
    {s t : Shape} {knows others : Names → Type 0} {bytes : List ℕ} {pos to : ℕ} {v : Value}
    (tag : ℕ) (h : HeldAt s knows bytes pos v)
    → content_of h.names bytes (at pos s) ≡ plain (tagged tag) (at to t ∷ [])
    → others h.names
    → pos ≤ to
    → to + size_of t ≤ length bytes
    → PartHeld (tagged tag) t others bytes to v
plain_part {pos = pos} {to = to} {v = v} tag h content known later fits =
    let says = by_plain h.names _ content h.holds in
    let one = one_held h.names _ says.all in
    record {
      part = one.value;
      is_made = subst (λ x. made (tagged tag) x ≡ Some v) one.is says.is_made;
      held = record { names = h.names; known = known; level = h.level; inside = h.inside; regions = h.regions; before = h.before; after = h.after; own_within = fits; low = h.low; claimed = claimed_raised later h.claimed; holds = one.holds };
    }

-- what a call gives is some, where it can't be none
pub some_unless : {A : Type 0} {P : Type 0} (Q : A → Type 0) (o : Option A) → MatchOption o P Q → (P → ⊥) → IsSome o
some_unless Q None h never = absurd (never h)
some_unless Q (Some x) h never = refl

-- what a call gives is said of the value that is unwrapped
pub some_says : {A : Type 0} (P : Type 0) (Q : A → Type 0) (o : Option A) (x : A) → MatchOption o P Q → o ≡ Some x → Q x
some_says P Q None x h e = absurd (cc)
some_says P Q (Some y) x h e = let is : y ≡ x = cc in subst Q is h
