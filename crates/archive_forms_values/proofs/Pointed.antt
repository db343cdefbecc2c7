-- Boxes and vectors: the positions that their pointers lead to, and the values that the layout has there.
use Rattle.std.proofs.Common.{◌≡◌, ℕ, zero, suc, ◌+◌, ◌*◌, ◌≤◌, ◌<◌, List, [], ◌∷◌, length, Some, sym, ap, subst, ◌∙◌, arith, mul-le-mul_right}
use Rattle.archive_shape_layout.specs.Bytes.{window, word_at, target_from}
use Rattle.archive_shape_layout.specs.Shape.{Shape, Pointee, size_of}
use Rattle.archive_shape_layout.specs.Shape.Shape.{box, vector}
use Rattle.archive_shape_layout.specs.Shape.Pointee.{sized, slice}
use Rattle.archive_shape_layout.specs.Value.{Value, Values, count_values}
use Rattle.archive_shape_layout.specs.Value.Value.{group}
use Rattle.archive_shape_layout.specs.Value.Values.{no_values, more_values}
use Rattle.archive_shape_layout.specs.Content.{Names, content_of, made, elements, shape_content}
use Rattle.archive_shape_layout.specs.Content.Part.{at, behind}
use Rattle.archive_shape_layout.specs.Content.Label.{same, whole}
use Rattle.archive_shape_layout.specs.Content.Content.{plain}
use Rattle.archive_shape_layout.specs.Holds.{Region, Visit, OpenShared, Holds, HoldAll, end_after}
use Rattle.archive_shape_layout.specs.Holds.HoldAll.{holds_none, holds_more}
use Rattle.archive_shape_layout.specs.Path.{value_in}
use Rattle.archive_shape_layout.specs.Visited.{ClaimedAfter}
use Rattle.archive_shape_layout.proofs.Unique.{by_plain, by_claimed}
use Rattle.archive_shape_layout.proofs.Visited.{claimed_raised, claimed_front, claimed_later, claimed_inside}
use Rattle.archive_shape.proofs.Inverted.{held_is_known}
use Rattle.archive_shape.proofs.Questions.{followed_known}
use Rattle.archive_shape.specs.Key.{HeldAt}
use Rattle.archive_forms_laws.proofs.TextContent.{followed}
use Rattle.archive_forms_values.proofs.Contents.{sized_is, slice_is}
use Rattle.archive_forms_values.proofs.Targets.{first_word}
use Rattle.archive_forms_values.specs.Parts.{HasValue, PointsTo, AreElements, IsBoxAt, IsVecAt}
use Rattle.archive_forms_values.proofs.Inside.{one_held}

pub made_same : (w v : Value) → made same (more_values w no_values) ≡ Some v → w ≡ v
unfolding made
made_same w v e = cc

pub made_whole : (vs : Values) (v : Value) → made whole vs ≡ Some v → v ≡ group vs
unfolding made
made_whole vs v e = cc

-- an element lies where all do
pub element_ends : (start i n size most : ℕ) → i < n → start + n * size ≤ most → start + i * size + size ≤ most
element_ends start i n size most less fits =
    let up : suc i * size ≤ n * size = mul-le-mul_right size less in
    let next : suc i * size ≡ i * size + size = omega arith in
    omega (arith, up, next, fits)

-- ---- elements

module _ (names : Names) (bytes : List ℕ) (s : Shape) where
  -- an element of a list of values is at a position, and what it claims ascends before another
  record ElementHolds (high level : ℕ) (inside : List OpenShared) (vs : Values) (i at_pos : ℕ) : Type 0 where
    element : Value
    there : value_in i vs ≡ Some element
    regions : List Region
    before : List Visit
    after : List Visit
    low : ℕ
    claimed : ClaimedAfter names bytes before low high regions
    holds : Holds names bytes level inside (at at_pos s) element regions before after

  element_holds :
      (low high n start : ℕ) {level : ℕ} {inside : List OpenShared} {vs : Values} {regions : List Region} {before after : List Visit}
      → HoldAll names bytes level inside (elements start n s) vs regions before after
      → ClaimedAfter names bytes before low high regions
      → (i : ℕ)
      → i < n
      → ElementHolds high level inside vs i (start + i * size_of s)
  unfolding elements
  element_holds low high zero start h claimed i less = absurd (omega (arith, less))
  element_holds low high (suc n) start {level} {inside} {vs} (holds_more {v = v} {vs = us} {here = here} {later = later} {before = before} {between = between} x rest is joined) claimed zero less =
      let first : start ≡ start + 0 * size_of s = omega arith in
      record {
        element = v;
        there = ap (value_in 0) is;
        regions = here;
        before = before;
        after = between;
        low = low;
        claimed = claimed_front later joined claimed;
        holds = subst (λ p. Holds names bytes level inside (at p s) v here before between) first x;
      }
  element_holds low high (suc n) start {level} {inside} {vs} (holds_more {v = v} {vs = us} {here = here} {later = later} x rest is joined) claimed (suc i) less =
      let next = element_holds (end_after low here) high n (start + size_of s) rest (claimed_later x joined claimed) i (omega (arith, less)) in
      let later_at : start + size_of s + i * size_of s ≡ start + suc i * size_of s = omega arith in
      record {
        element = next.element;
        there = ap (value_in (suc i)) is ∙ next.there;
        regions = next.regions;
        before = next.before;
        after = next.after;
        low = next.low;
        claimed = next.claimed;
        holds = subst (λ p. Holds names bytes level inside (at p s) next.element next.regions next.before next.after) later_at next.holds;
      }

  count_held :
      (n start : ℕ) {level : ℕ} {inside : List OpenShared} {vs : Values} {regions : List Region} {before after : List Visit}
      → HoldAll names bytes level inside (elements start n s) vs regions before after
      → count_values vs ≡ n
  unfolding elements
  count_held zero start (holds_none e f g) = ap count_values e
  count_held (suc n) start (holds_more x rest is joined) = ap count_values is ∙ (let c = count_held n (start + size_of s) rest in omega arith)

-- elements that the layout has are those of a value
pub elements_stand :
    (names : Names) (bytes : List ℕ) (s : Shape) (knows : Names → Type 0) (n start level low : ℕ) (inside : List OpenShared)
    {vs : Values} {regions : List Region} {before after : List Visit} (v : Value)
    → knows names
    → HoldAll names bytes level inside (elements start n s) vs regions before after
    → ClaimedAfter names bytes before low start regions
    → start + n * size_of s ≤ length bytes
    → made whole vs ≡ Some v
    → AreElements s knows bytes start n v
elements_stand names bytes s knows n start level low inside {vs} v known all claimed fits is =
    record {
      elements = vs;
      is = made_whole vs v is;
      count = count_held names bytes s n start all;
      within = fits;
      each = λ i less.
          let one = element_holds names bytes s low start n start all claimed i less in (
            one.element,
            one.there,
            record {
              names = names;
              known = known;
              level = level;
              inside = inside;
              regions = one.regions;
              before = one.before;
              after = one.after;
              own_within = element_ends start i n (size_of s) (length bytes) less fits;
              low = one.low;
              claimed = claimed_raised (omega arith) one.claimed;
              holds = one.holds;
            },
          );
    }

-- ---- pointers

-- a value that is what its pointer leads to
pub target_holds :
    {s : Shape} {knows : Names → Type 0} {bytes : List ℕ} {pos : ℕ} {v : Value} (h : HeldAt s knows bytes pos v) (t : ℕ) (p : Pointee) (n : ℕ)
    → content_of h.names bytes (at pos s) ≡ plain same (behind t p n ∷ [])
    → Holds h.names bytes h.level h.inside (behind t p n) v h.regions h.before h.after
target_holds {bytes = bytes} {v = v} h t p n content =
    let says = by_plain h.names bytes content h.holds in
    let one = one_held h.names bytes says.all in
    let value : one.value ≡ v = made_same one.value v (subst (λ x. made same x ≡ Some v) one.is says.is_made) in
    subst (λ x. Holds h.names bytes h.level h.inside (behind t p n) x h.regions h.before h.after) value one.holds

module _ (s : Shape) (knows : Names → Type 0) (bytes : List ℕ) (pos : ℕ) where
  -- ---- boxes

  pub box_points : HasValue (box (sized s)) knows bytes pos → (to : ℕ) × PointsTo bytes pos to
  unfolding shape_content
  box_points h =
      let known = followed_known (target_from pos (word_at (window bytes pos 4) 0)) _ (held_is_known h.held.names bytes h.held.holds) in
      (known.0, subst (λ word. target_from pos word ≡ Some known.0) (first_word bytes pos 4 (omega arith)) known.1)

  -- the value that it leads to, inside the region that it claims
  record BoxTarget (to : ℕ) (v : Value) : Type 0 where
    before : to + size_of s ≤ pos
    held : HeldAt s knows bytes to v

  box_target : (to : ℕ) → PointsTo bytes pos to → (v : Value) → HeldAt (box (sized s)) knows bytes pos v → BoxTarget to v
  unfolding shape_content
  box_target to points v h =
      let leads : target_from pos (word_at (window bytes pos 4) 0) ≡ Some to = subst (λ word. target_from pos word ≡ Some to) (sym (first_word bytes pos 4 (omega arith))) points in
      let whole_target = target_holds h to (sized s) 1 (followed _ to _ leads) in
      let says = by_claimed h.names bytes (sized_is h.names bytes to s 1) whole_target in
      let one = one_held h.names bytes says.all in
      let value : one.value ≡ v = made_same one.value v (subst (λ x. made same x ≡ Some v) one.is says.is_made) in
      let inner = claimed_inside says.regions_are h.claimed in
      let ends = inner.ends in
      let own = h.own_within in
      record {
        before = omega (arith, ends);
        held = record {
          names = h.names;
          known = h.known;
          level = suc h.level;
          inside = h.inside;
          regions = says.within;
          before = h.before;
          after = h.after;
          own_within = omega (arith, ends, own);
          low = h.low;
          claimed = inner.claimed;
          holds = subst (λ x. Holds h.names bytes (suc h.level) h.inside (at to s) x says.within h.before h.after) value one.holds;
        };
      }

  pub box_there : (to : ℕ) → PointsTo bytes pos to → IsBoxAt s knows bytes pos to
  box_there to points = record {
    points = points;
    before = λ has. (box_target to points has.value has.held).before;
    value = λ v h. (box_target to points v h).held;
  }

  -- ---- vectors

  pub vec_points : HasValue (vector s) knows bytes pos → (to : ℕ) × PointsTo bytes pos to
  unfolding shape_content
  vec_points h =
      let known = followed_known (target_from pos (word_at (window bytes pos 8) 0)) _ (held_is_known h.held.names bytes h.held.holds) in
      (known.0, subst (λ word. target_from pos word ≡ Some known.0) (first_word bytes pos 8 (omega arith)) known.1)

  -- the elements that it leads to, inside the region that it claims
  record VecTarget (to len : ℕ) (v : Value) : Type 0 where
    before : to + len * size_of s ≤ pos
    stand : AreElements s knows bytes to len v

  vec_target : (to len : ℕ) → PointsTo bytes pos to → word_at (window bytes pos 8) 4 ≡ len → (v : Value) → HeldAt (vector s) knows bytes pos v → VecTarget to len v
  unfolding shape_content
  vec_target to len points says_len v h =
      let leads : target_from pos (word_at (window bytes pos 8) 0) ≡ Some to = subst (λ word. target_from pos word ≡ Some to) (sym (first_word bytes pos 8 (omega arith))) points in
      let whole_target = target_holds h to (slice s) len (followed _ to _ leads ∙ ap (λ m. plain same (behind to (slice s) m ∷ [])) says_len) in
      let says = by_claimed h.names bytes (slice_is h.names bytes to s len) whole_target in
      let inner = claimed_inside says.regions_are h.claimed in
      let ends = inner.ends in
      let own = h.own_within in
      record {
        before = omega (arith, ends);
        stand = elements_stand h.names bytes s knows len to (suc h.level) h.low h.inside v h.known says.all inner.claimed (omega (arith, ends, own)) says.is_made;
      }

  pub vec_there : (to len : ℕ) → PointsTo bytes pos to → word_at (window bytes pos 8) 4 ≡ len → IsVecAt s knows bytes pos to len
  vec_there to len points says_len = record {
    points = points;
    before = λ has. (vec_target to len points says_len has.value has.held).before;
    value = λ v h. (vec_target to len points says_len v h).stand;
  }
