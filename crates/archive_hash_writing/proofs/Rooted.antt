-- What is settled at the root of an archive: a written table is filled as its fit fills it.
use Rattle.std.proofs.Common.{◌≡◌, ◌∙◌, ℕ, List, [], ◌∷◌, Some, ap, subst}
use Rattle.archive_shape_layout.specs.Shape.{Shape}
use Rattle.archive_shape_layout.specs.Shape.Pointee.{sized}
use Rattle.archive_shape_layout.specs.Value.{Value, Values}
use Rattle.archive_shape_layout.specs.Value.Values.{no_values, more_values}
use Rattle.archive_shape_layout.specs.Content.{Names, Part, Label, content_of, made}
use Rattle.archive_shape_layout.specs.Content.Part.{at, behind}
use Rattle.archive_shape_layout.specs.Content.Label.{same}
use Rattle.archive_shape_layout.specs.Content.Content.{plain}
use Rattle.archive_shape_layout.specs.Holds.{Region, Visit, OpenShared, Holds, HoldAll}
use Rattle.archive_shape_layout.specs.Holds.Holds.{holds_plain, holds_claimed, holds_first, holds_later, holds_back}
use Rattle.archive_shape_layout.specs.Holds.HoldAll.{holds_none, holds_more}
use Rattle.archive_shape_canonical.specs.Settled.{Fit, IsSettled}
use Rattle.archive_shape_canonical.specs.Canonical.{CanonicalArchive, IsCanonical, AreCanonical}
use Rattle.archive_forms_values.proofs.Contents.{sized_is}

pub made_one : (vs : Values) (v : Value) → made same vs ≡ Some v → vs ≡ more_values v no_values
unfolding made
made_one no_values v e = absurd cc
made_one (more_values w no_values) v e = cc
made_one (more_values w (more_values u us)) v e = absurd cc

module _ (fit : Fit) (names : Names) (bytes : List ℕ) where
  -- one part, which is canonical
  record OneCanonical (level : ℕ) (inside : List OpenShared) (before : List Visit) (p : Part) (vs : Values) (low : ℕ) : Type 0 where
    value : Value
    is : vs ≡ more_values value no_values
    regions : List Region
    after : List Visit
    holds : Holds names bytes level inside p value regions before after
    canonical : IsCanonical fit holds low

  one_canonical : {level : ℕ} {inside : List OpenShared} {p : Part} {vs : Values} {regions : List Region} {before after : List Visit}
      (low : ℕ) (h : HoldAll names bytes level inside (p ∷ []) vs regions before after) → AreCanonical fit h low → OneCanonical level inside before p vs low
  one_canonical low (holds_more {v = v} {here = here} {between = between} x (holds_none none empty stays) is joined) c = record {
    value = v;
    is = is ∙ ap (more_values v) none;
    regions = here;
    after = between;
    holds = x;
    canonical = c.0;
  }

  -- what the root has at its position
  root_canonical : (s : Shape) (pos low : ℕ) {v : Value} {regions : List Region} {before after : List Visit}
      (h : Holds names bytes 0 [] (behind pos (sized s) 1) v regions before after) → IsCanonical fit h low → OneCanonical 1 [] before (at pos s) (more_values v no_values) low
  root_canonical s pos low (holds_plain e legal all m) c = let is = sized_is names bytes pos s 1 in absurd cc
  root_canonical s pos low {v} {before = before} {after = after} (holds_claimed {within = within} {l = l} {ps = ps} {vs = vs} e legal all m r) c =
      let is = sized_is names bytes pos s 1 in
      let label : l ≡ same = cc in
      let parts : ps ≡ at pos s ∷ [] = cc in
      let both = subst (λ (x : List Part). (h : HoldAll names bytes 1 [] x vs within before after) × AreCanonical fit h low) parts (all, c.2) in
      subst (λ (x : Values). OneCanonical 1 [] before (at pos s) x low) (made_one vs v (subst (λ (x : Label). made x vs ≡ Some v) label m)) (one_canonical low both.0 both.1)
  root_canonical s pos low (holds_first e a b h d g) c = let is = sized_is names bytes pos s 1 in absurd cc
  root_canonical s pos low (holds_later e a b d g h) c = let is = sized_is names bytes pos s 1 in absurd cc
  root_canonical s pos low (holds_back e a d g h) c = absurd c

  -- the values of a plain part, for which the layout's choices are settled
  pub record SettledHolds (level : ℕ) (inside : List OpenShared) (before : List Visit) (p : Part) (l : Label) (ps : List Part) (v : Value) : Type 0 where
    pub vs : Values
    pub is_made : made l vs ≡ Some v
    pub settled : IsSettled fit bytes p ps vs
    pub regions : List Region
    pub after : List Visit
    pub all : HoldAll names bytes level inside ps vs regions before after

  pub plain_settled : {level : ℕ} {inside : List OpenShared} {p : Part} {v : Value} {regions : List Region} {before after : List Visit}
      (l : Label) (ps : List Part) (low : ℕ) → content_of names bytes p ≡ plain l ps
      → (h : Holds names bytes level inside p v regions before after) → IsCanonical fit h low → SettledHolds level inside before p l ps v
  plain_settled {level} {inside} {p} {v} {regions} {before} {after} l ps low is (holds_plain {l = k} {ps = qs} {vs = vs} e legal all m) c =
      let label : k ≡ l = cc in
      let parts : qs ≡ ps = cc in
      record {
        vs = vs;
        is_made = subst (λ (x : Label). made x vs ≡ Some v) label m;
        settled = subst (λ (x : List Part). IsSettled fit bytes p x vs) parts c.1;
        regions = regions;
        after = after;
        all = subst (λ (x : List Part). HoldAll names bytes level inside x vs regions before after) parts all;
      }
  plain_settled l ps low is (holds_claimed e legal all m r) c = absurd cc
  plain_settled l ps low is (holds_first e a b h d g) c = absurd cc
  plain_settled l ps low is (holds_later e a b d g h) c = absurd cc
  plain_settled l ps low is (holds_back e a d g h) c = absurd cc

  pub root_settled : (start pos : ℕ) (s : Shape) (v : Value) (regions : List Region) (visits : List Visit) (l : Label) (ps : List Part)
      → CanonicalArchive fit names bytes start pos s v regions visits → content_of names bytes (at pos s) ≡ plain l ps
      → SettledHolds 1 [] [] (at pos s) l ps v
  root_settled start pos s v regions visits l ps a is =
      let one = root_canonical s pos start a.root.holds a.canonical in
      let same_value : one.value ≡ v = let made_of = one.is in cc in
      subst (SettledHolds 1 [] [] (at pos s) l ps) same_value (plain_settled l ps start is one.holds one.canonical)
