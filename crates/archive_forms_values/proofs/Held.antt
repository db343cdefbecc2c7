-- What the layout has at the fields of tuples.
use Rattle.std.specs.Bool.{⊤}
use Rattle.std.proofs.Common.{◌≡◌, ℕ, ◌+◌, ◌≤◌, List, [], ◌∷◌, length, refl, ap, subst, ◌∙◌, arith, add-zero, zero-add}
use Rattle.archive_shape_layout.specs.Bytes.{align_up}
use Rattle.archive_shape_layout.specs.Shape.{size_of, align_of, fields_end}
use Rattle.archive_shape_layout.specs.Shape.Shape.{tuple}
use Rattle.archive_shape_layout.specs.Value.{Values}
use Rattle.archive_shape_layout.specs.Content.{Names, fields, content_of, shape_content}
use Rattle.archive_shape_layout.specs.Content.Part.{at}
use Rattle.archive_shape_layout.specs.Content.Label.{whole}
use Rattle.archive_shape_layout.specs.Content.Content.{plain}
use Rattle.archive_shape_layout.specs.Holds.{Region, Visit, OpenShared, HoldAll, end_after}
use Rattle.archive_shape_layout.specs.Holds.HoldAll.{holds_none, holds_more}
use Rattle.archive_shape_layout.specs.Visited.{ClaimedAfter}
use Rattle.archive_shape_layout.proofs.Framed.{le_align_up, le_fields_end}
use Rattle.archive_shape_layout.proofs.Unique.{by_plain}
use Rattle.archive_shape_layout.proofs.Visited.{claimed_raised, claimed_front, claimed_later}
use Rattle.archive_shape_layout.proofs.PointerSizes.{first_multiple}
use Rattle.archive_forms_values.proofs.Pointed.{made_whole}
use Rattle.archive_forms_values.specs.Fields.{Field, shapes_of, BeginsWith, AreBehind, AreFields, AreFieldsAt}

-- each of the types of fields is read under a list
abbrev pub AllKnow : List Field → Names → Type 0
AllKnow [] names = ⊤
AllKnow (f ∷ fs) names = f.knows names × AllKnow fs names

module _ (names : Names) (bytes : List ℕ) (pos : ℕ) where
  -- fields from an offset on
  fields_behind :
      (fs : List Field) (offset low : ℕ) {level : ℕ} {inside : List OpenShared} {vs : Values} {regions : List Region} {before after : List Visit}
      → AllKnow fs names
      → HoldAll names bytes level inside (fields pos offset (shapes_of fs)) vs regions before after
      → ClaimedAfter names bytes before low pos regions
      → pos + fields_end (shapes_of fs) offset ≤ length bytes
      → AreBehind fs bytes pos offset vs
  unfolding fields
  fields_behind [] offset low known (holds_none none empty stays) claimed fits = none
  fields_behind (f ∷ fs) offset low {level} {inside} known (holds_more {v = v} {vs = vs} {here = here} {later = later} {before = before} {between = between} x rest is joined) claimed fits =
      let from = align_up offset (align_of f.shape) in
      let behind = le_fields_end (shapes_of fs) (from + size_of f.shape) in
      record {
        first = v;
        others = vs;
        is = is;
        held = record {
          names = names;
          known = known.0;
          level = level;
          inside = inside;
          regions = here;
          before = before;
          after = between;
          own_within = omega (arith, behind, fits);
          low = low;
          claimed = claimed_raised (omega arith) (claimed_front later joined claimed);
          holds = x;
        };
        rest = fields_behind fs (from + size_of f.shape) (end_after low here) known.1 rest (claimed_later x joined claimed) fits;
      }

  -- all fields: the first is at the position
  all_fields : (fs : List Field) (vs : Values) → AreBehind fs bytes pos 0 vs → AreFields fs bytes pos vs
  all_fields [] vs h = h
  all_fields (f ∷ fs) vs h =
      let from : align_up 0 (align_of f.shape) ≡ 0 = first_multiple (align_of f.shape) in
      let begins : pos + align_up 0 (align_of f.shape) ≡ pos = ap (λ n. pos + n) from ∙ add-zero pos in
      let ends : align_up 0 (align_of f.shape) + size_of f.shape ≡ size_of f.shape = ap (λ n. n + size_of f.shape) from ∙ zero-add (size_of f.shape) in
      subst (λ n. BeginsWith f bytes pos (AreBehind fs bytes pos n) vs) ends
      (subst (λ n. BeginsWith f bytes n (AreBehind fs bytes pos (align_up 0 (align_of f.shape) + size_of f.shape)) vs) begins h)

-- the values of a tuple are those of its fields
pub fields_at :
    (fs : List Field) (knows : Names → Type 0) → ((names : Names) → knows names → AllKnow fs names)
    → (bytes : List ℕ) (pos : ℕ)
    → AreFieldsAt fs knows bytes pos
unfolding shape_content
fields_at fs knows known bytes pos v h =
    let is : content_of h.names bytes (at pos (tuple (shapes_of fs))) ≡ plain whole (fields pos 0 (shapes_of fs)) = refl in
    let says = by_plain h.names bytes is h.holds in
    let padded = le_align_up (fields_end (shapes_of fs) 0) (align_of (tuple (shapes_of fs))) in
    record {
      values = says.vs;
      is = made_whole says.vs v says.is_made;
      each = all_fields h.names bytes pos fs says.vs (fields_behind h.names bytes pos fs 0 h.low (known h.names h.known) says.all h.claimed (omega (arith, padded, h.own_within)));
    }
