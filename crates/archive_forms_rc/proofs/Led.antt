-- Counted pointers: the positions that they lead to, and the values that the layout has there.
use Rattle.std.proofs.Common.{◌≡◌, ℕ, suc, ◌≤◌, Bool, List, ◌∷◌, length, Some, refl, sym, ap, subst, ◌∙◌, arith}
use Rattle.std.specs.Prelude.{⊤}
use Rattle.archive_shape_layout.specs.Bytes.{window, word_at, target_from}
use Rattle.archive_shape_layout.specs.Shape.{Shape, Pointee, pointer_size}
use Rattle.archive_shape_layout.specs.Shape.Shape.{shared}
use Rattle.archive_shape_layout.specs.Shape.Pointee.{sized, slice, str}
use Rattle.archive_shape_layout.specs.Value.{Value}
use Rattle.archive_shape_layout.specs.Value.Value.{counted}
use Rattle.archive_shape_layout.specs.Content.{Names, content_of, made, shape_content, shared_content, pointee_length}
use Rattle.archive_shape_layout.specs.Content.Part.{at}
use Rattle.archive_shape_layout.specs.Content.Label.{same}
use Rattle.archive_shape_layout.specs.Content.Content.{counting}
use Rattle.archive_shape_layout.specs.Holds.{Holds}
use Rattle.archive_shape_layout.proofs.Evaluated.{ascends_lowered, ascends_raised}
use Rattle.archive_shape_layout.proofs.Rooted.{inside_high}
use Rattle.archive_shape_layout.proofs.Unique.{by_claimed, by_counting, CountedHolds}
use Rattle.archive_shape_layout.proofs.Unique.CountedHolds.{is_first, is_later, is_back}
use Rattle.archive_shape_layout.proofs.Visited.{stand_raised, claimed_inside}
use Rattle.archive_shape.proofs.Inverted.{held_is_known}
use Rattle.archive_shape.proofs.Questions.{followed_known}
use Rattle.archive_shape.specs.Key.{HeldAt}
use Rattle.archive_forms_laws.proofs.Held.{TextBehind, text_behind}
use Rattle.archive_forms_laws.proofs.TextContent.{followed}
use Rattle.archive_forms_values.proofs.Contents.{sized_is, slice_is}
use Rattle.archive_forms_values.proofs.Targets.{first_word}
use Rattle.archive_forms_values.specs.Parts.{HasValue, PointsTo, AreElements}
use Rattle.archive_forms_values.proofs.Inside.{one_held}
use Rattle.archive_forms_values.proofs.Pointed.{made_same, elements_stand}
use Rattle.archive_forms_rc.specs.Pointers.{Counts, HasCounted, IsRcAt, IsRcSliceAt, IsRcStrAt}
use Rattle.archive_forms_rc.specs.Pointers.Counts.{counts, leads_back}
use Rattle.archive_forms_rc.proofs.Visited.{Stands, visit_stands}

-- a pointer begins with an offset of four bytes
begins_with_word : (q : Pointee) → 4 ≤ pointer_size q
begins_with_word (sized s) = omega arith
begins_with_word (slice s) = omega arith
begins_with_word str = omega arith

module _ (cyclic : Bool) (q : Pointee) (knows : Names → Type 0) (bytes : List ℕ) (pos : ℕ) where
  word_is : word_at (window bytes pos (pointer_size q)) 0 ≡ word_at bytes pos
  word_is = first_word bytes pos (pointer_size q) (begins_with_word q)

  pub pointer_points : HasValue (shared cyclic q) knows bytes pos → (to : ℕ) × PointsTo bytes pos to
  unfolding shape_content shared_content
  pointer_points h =
      let known = followed_known (target_from pos (word_at (window bytes pos (pointer_size q)) 0)) _ (held_is_known h.held.names bytes h.held.holds) in
      (known.0, subst (λ word. target_from pos word ≡ Some known.0) word_is known.1)

  module _ (to n : ℕ) (points : PointsTo bytes pos to) (says : pointee_length q (window bytes pos (pointer_size q)) ≡ n) where
    content_is : (names : Names) → content_of names bytes (at pos (shared cyclic q)) ≡ counting cyclic to q n
    unfolding shape_content shared_content
    content_is names =
        let leads : target_from pos (word_at (window bytes pos (pointer_size q)) 0) ≡ Some to = subst (λ word. target_from pos word ≡ Some to) (sym word_is) points in
        followed _ to _ leads ∙ ap (counting cyclic to q) says

    -- what the pointer counts is the value where it leads, regardless of when it was visited
    pub pointer_counts : (v : Value) (h : HeldAt (shared cyclic q) knows bytes pos v) → Counts cyclic to (λ w. Stands h.names bytes pos (record { pos = to; pointee = q; len = n; value = w })) v
    pointer_counts v h = by_visit (by_counting h.names bytes (content_is h.names) h.holds)
      where
        by_visit : CountedHolds h.names bytes h.level h.inside cyclic to q n v h.regions h.before h.after → Counts cyclic to (λ w. Stands h.names bytes pos (record { pos = to; pointee = q; len = n; value = w })) v
        by_visit (is_first {between = between} nowhere new below is after_is) =
            counts is (record {
              level = h.level;
              inside = record { pos = to; pointee = q; len = n } ∷ h.inside;
              regions = h.regions;
              before = h.before;
              after = between;
              low = h.low;
              claimed = h.claimed;
              holds = below;
            })
        by_visit (is_later {w = w} nowhere met is none stays) = counts is (visit_stands h.names bytes pos to (record { pos = to; pointee = q; len = n; value = w }) (stand_raised h.claimed.below h.claimed.stand) met)
        by_visit (is_back allowed opened is none stays) = leads_back allowed is

-- by the value there
there : {cyclic : Bool} {to : ℕ} {IsThere IsHere : Value → Type 0} {v : Value} → ((w : Value) → IsThere w → IsHere w) → Counts cyclic to IsThere v → Counts cyclic to IsHere v
there f (counts {w = w} is h) = counts is (f w h)
there f (leads_back allowed is) = leads_back allowed is

module _ (names : Names) (bytes : List ℕ) (high to : ℕ) (w : Value) where
  module _ (s : Shape) (knows : Names → Type 0) (known : knows names) (fits : high ≤ length bytes) where
    value_stands : Stands names bytes high (record { pos = to; pointee = sized s; len = 1; value = w }) → HeldAt s knows bytes to w
    value_stands x =
        let says = by_claimed names bytes (sized_is names bytes to s 1) x.holds in
        let one = one_held names bytes says.all in
        let value : one.value ≡ w = made_same one.value w (subst (λ vs. made same vs ≡ Some w) one.is says.is_made) in
        let inner = claimed_inside says.regions_are x.claimed in
        let ends = inner.ends in
        record {
          names = names;
          known = known;
          level = suc x.level;
          inside = x.inside;
          regions = says.within;
          before = x.before;
          after = x.after;
          own_within = omega (arith, ends);
          low = x.low;
          claimed = inner.claimed;
          holds = subst (λ u. Holds names bytes (suc x.level) x.inside (at to s) u says.within x.before x.after) value one.holds;
        }

    elements_are : (len : ℕ) → Stands names bytes high (record { pos = to; pointee = slice s; len = len; value = w }) → AreElements s knows bytes to len w
    elements_are len x =
        let says = by_claimed names bytes (slice_is names bytes to s len) x.holds in
        let inner = claimed_inside says.regions_are x.claimed in
        let ends = inner.ends in
        elements_stand names bytes s knows len to (suc x.level) x.low x.inside w known says.all inner.claimed (omega (arith, ends)) says.is_made

  text_stands : (len : ℕ) (x : Stands names bytes high (record { pos = to; pointee = str; len = len; value = w })) → TextBehind names bytes to len w x.regions
  text_stands len x = text_behind names bytes to len x.holds

module _ (cyclic : Bool) (s : Shape) (knows : Names → Type 0) (bytes : List ℕ) (pos to : ℕ) (points : PointsTo bytes pos to) where
  pub rc_there : IsRcAt cyclic s knows bytes pos to
  rc_there = record {
    points = points;
    value = λ v h. let own = h.own_within in there (λ w. value_stands h.names bytes pos to w s knows h.known (omega (arith, own))) (pointer_counts cyclic (sized s) knows bytes pos to 1 points refl v h);
  }

  pub rc_slice_there : (len : ℕ) → word_at (window bytes pos 8) 4 ≡ len → IsRcSliceAt cyclic s knows bytes pos to len
  rc_slice_there len says = record {
    points = points;
    value = λ v h. let own = h.own_within in there (λ w. elements_are h.names bytes pos to w s knows h.known (omega (arith, own)) len) (pointer_counts cyclic (slice s) knows bytes pos to len points says v h);
  }

module _ (cyclic : Bool) (bytes : List ℕ) (pos to len : ℕ) (points : PointsTo bytes pos to) (says : word_at (window bytes pos 8) 4 ≡ len) where
  -- a text that is counted is there
  text_counted : (target : ℕ) (w : Value) {IsThere : Value → Type 0} → Counts cyclic to IsThere (counted target w) → (u : Value) × IsThere u
  text_counted target w (counts {w = u} is h) = (u, h)
  text_counted target w (leads_back allowed is) = absurd (cc)

  pub rc_str_there : HasCounted cyclic str (λ _. ⊤) bytes pos → IsRcStrAt cyclic bytes pos to len
  rc_str_there has =
      let text = text_counted has.target has.value (pointer_counts cyclic str (λ _. ⊤) bytes pos to len points says (counted has.target has.value) has.held) in
      let here = text_stands has.held.names bytes pos to text.0 len text.1 in
      let own = has.held.own_within in
      let x = text.1 in
      record {
        points = points;
        within = here.claims (inside_high 0 (length bytes) x.regions (ascends_lowered 0 x.low (length bytes) x.regions (omega arith) (ascends_raised x.low pos (length bytes) x.regions (omega (arith, own)) x.claimed.ascends)));
        is_text = here.is_text;
        value = λ v h. there (λ w found. (text_stands h.names bytes pos to w len found).value) (pointer_counts cyclic str (λ _. ⊤) bytes pos to len points says v h);
      }
