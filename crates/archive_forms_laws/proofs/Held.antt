-- Where the layout has a text at a position, the bytes have it there.
use Rattle.std.proofs.Common.{◌≡◌, ℕ, suc, ◌+◌, ◌<◌, ◌≤◌, nat_lt, nat_le, ◌||◌, Bool, true, false, true≢false, List, [], ◌∷◌, ◌++◌, length, drop, slice_index, All, Some, IsUtf8, refl, sym, ap, subst, ◌∙◌, arith, cond, ◌==◌, append-nil, length-take}
use Rattle.std.proofs.lemmas.Bool.{ltb-true}
use Rattle.archive_shape_layout.specs.Bytes.{window, word_at, target_from}
use Rattle.archive_shape_layout.specs.Shape.Shape.{text}
use Rattle.archive_shape_layout.specs.Shape.Pointee.{str}
use Rattle.archive_shape_layout.specs.Value.{Value, Values}
use Rattle.archive_shape_layout.specs.Value.Value.{string}
use Rattle.archive_shape_layout.specs.Value.Values.{no_values, more_values}
use Rattle.archive_shape_layout.specs.Content.{Names, made, IsInline, before_ff, text_length, shape_content, text_content, pointee_content}
use Rattle.archive_shape_layout.specs.Content.Part.{at, behind}
use Rattle.archive_shape_layout.specs.Content.Label.{written, same}
use Rattle.archive_shape_layout.specs.Holds.{Region, Visit, OpenShared, Holds, HoldAll}
use Rattle.archive_shape_layout.specs.Holds.HoldAll.{holds_none, holds_more}
use Rattle.archive_shape_layout.proofs.Unique.{by_plain, by_claimed}
use Rattle.archive_shape.proofs.Inverted.{IsKnown, held_is_known}
use Rattle.archive_shape.proofs.Questions.{tested_known, followed_known}
use Rattle.archive_forms_laws.specs.Text.{own_bytes, IsText, IsTextThere, HeldIsText}
use Rattle.archive_forms_laws.specs.Text.LiesAt.{inline, out_of_line}
use Rattle.archive_forms_laws.proofs.Once.{one_text_law}
use Rattle.archive_forms_laws.proofs.TextContent.{before_ff-take, chosen_no, inline_is, far_is}

-- the last of a list
last_passes : {X : Type 0} (P : X → Type 0) (xs : List X) (x : X) → All P (xs ++ x ∷ []) → P x
last_passes P [] x h = h 0 x (omega arith)
last_passes P (y ∷ xs) x h = last_passes P xs x (λ k d below. h (suc k) d (omega arith))

length_before_ff : (bs : List ℕ) → length (before_ff bs) ≤ length bs
length_before_ff [] = omega arith
length_before_ff (b ∷ bs) = more (b == 255) (length_before_ff bs)
  where
    more : (test : Bool) → length (before_ff bs) ≤ length bs → length (cond test [] (b ∷ before_ff bs)) ≤ suc (length bs)
    more true h = omega arith
    more false h = omega arith

made_written : (bs : List ℕ) (vs : Values) (v : Value) → vs ≡ no_values → made (written bs) vs ≡ Some v → v ≡ string bs
unfolding made
made_written bs vs v none e = let some : made (written bs) no_values ≡ Some v = subst (λ x. made (written bs) x ≡ Some v) none e in cc

made_same : (w v : Value) (vs : Values) → vs ≡ more_values w no_values → made same vs ≡ Some v → v ≡ w
unfolding made
made_same w v vs one e = let some : made same (more_values w no_values) ≡ Some v = subst (λ x. made same x ≡ Some v) one e in cc

module _ (names : Names) (bytes : List ℕ) where
  no_parts : {level : ℕ} {inside : List OpenShared} {vs : Values} {regions : List Region} {before after : List Visit} → HoldAll names bytes level inside [] vs regions before after → vs ≡ no_values
  no_parts (holds_none e r a) = e

  -- the text that a pointer leads to
  pub record TextBehind (start len : ℕ) (v : Value) (regions : List Region) : Type 0 where
    pub is_text : IsUtf8 (window bytes start len)
    pub value : v ≡ string (window bytes start len)
    pub claims : All (λ r. r.start + r.size ≤ length bytes) regions → start + len ≤ length bytes

  pub text_behind : {level : ℕ} {inside : List OpenShared} {v : Value} {regions : List Region} {before after : List Visit} (start len : ℕ) → Holds names bytes level inside (behind start str len) v regions before after → TextBehind start len v regions
  unfolding pointee_content
  text_behind start len h =
      let own = by_claimed names bytes refl h in
      record {
        is_text = own.legal;
        value = made_written _ _ _ (no_parts own.all) own.is_made;
        claims = λ all. last_passes (λ r. r.start + r.size ≤ length bytes) own.within _ (subst (All (λ r. r.start + r.size ≤ length bytes)) own.regions_are all);
      }

  one_behind : {level : ℕ} {inside : List OpenShared} {vs : Values} {v : Value} {regions : List Region} {before after : List Visit} (start len : ℕ) → HoldAll names bytes level inside (behind start str len ∷ []) vs regions before after → made same vs ≡ Some v → TextBehind start len v regions
  one_behind start len (holds_more {v = w} {here = here} x (holds_none none empty stays) is joined) e =
      let there = text_behind start len x in
      record {
        is_text = there.is_text;
        value = made_same _ _ _ (is ∙ ap (more_values w) none) e ∙ there.value;
        claims = λ all. there.claims (subst (All (λ r. r.start + r.size ≤ length bytes)) (joined ∙ ap (λ rs. here ++ rs) empty ∙ append-nil here) all);
      }

module _ (names : Names) (bytes : List ℕ) (level : ℕ) (inside : List OpenShared) (pos : ℕ) (v : Value) (regions : List Region) (before after : List Visit)
    (fits : pos + 8 ≤ length bytes) (within : All (λ r. r.start + r.size ≤ length bytes) regions) (h : Holds names bytes level inside (at pos text) v regions before after) where
  held_inline : IsInline (slice_index (own_bytes bytes pos) 0) → IsTextThere bytes pos v
  held_inline begins =
      let own = own_bytes bytes pos in
      let says = by_plain names bytes (inline_is names bytes pos own refl begins) h in
      let prefix = before_ff-take 8 (drop pos bytes) in
      let most = length_before_ff own in
      let eight = length-take 8 (drop pos bytes) in
      record {
        text = before_ff own;
        stands = record {
          there = record { start = pos; len = length (before_ff own); stands = inline begins refl; own_within = fits; within = omega arith; is_text = subst IsUtf8 prefix says.legal };
          is = prefix;
        };
        value = made_written _ _ _ (no_parts names bytes says.all) says.is_made;
      }

  held_far : (IsInline (slice_index (own_bytes bytes pos) 0) → ⊥) → IsTextThere bytes pos v
  unfolding shape_content text_content
  held_far begins =
      let own = own_bytes bytes pos in
      let len = text_length (word_at own 0) in
      let known = subst IsKnown (chosen_no _ _ _ begins) (held_is_known names bytes h) in
      let tested = tested_known (nat_lt 8 len) _ known in
      let followed = followed_known (target_from pos (word_at own 4)) _ tested.1 in
      let long : 8 < len = ltb-true 8 len tested.0 in
      let says = by_plain names bytes (far_is names bytes pos own refl begins len refl long followed.0 followed.1) h in
      let there = one_behind names bytes followed.0 len says.all says.is_made in
      record {
        text = window bytes followed.0 len;
        stands = record {
          there = record { start = followed.0; len = len; stands = out_of_line begins refl long followed.1; own_within = fits; within = there.claims within; is_text = there.is_text };
          is = refl;
        };
        value = there.value;
      }

  held : (b : Bool) → (nat_lt (slice_index (own_bytes bytes pos) 0) 128 || nat_le 192 (slice_index (own_bytes bytes pos) 0)) ≡ b → IsTextThere bytes pos v
  held true e = held_inline e
  held false e = held_far (λ begins. true≢false (sym begins ∙ e))

pub held_is_text_law : HeldIsText
held_is_text_law names bytes level inside pos v regions before after fits within h =
    held names bytes level inside pos v regions before after fits within h _ refl

-- the text at the position is the value's
pub text_value : (bytes : List ℕ) (pos : ℕ) (t : List ℕ) (v : Value) → IsTextThere bytes pos v → IsText bytes pos t → v ≡ string t
text_value bytes pos t v there is = there.value ∙ ap string (one_text_law bytes pos there.text t there.stands is)

pub one_string : {a b : List ℕ} → string a ≡ string b → a ≡ b
one_string e = cc
