-- What the layout has where a box of a text or a tuple of two is, as a key, and how texts that keys have compare.
use Rattle.std.proofs.Common.{◌≡◌, ℕ, Bool, nat_eq, List, [], ◌∷◌, refl, sym, ap, subst, ◌∙◌}
use Rattle.std.specs.Cmp.Lexicographic.{pointwise, slice_cmp, texts_ties}
use Rattle.std.specs.Ordering.{nat_cmp, is_eq}
use Rattle.std.specs.declared.cmp.Ordering.{Ordering}
use Rattle.std.specs.Prelude.{⊤}
use Rattle.archive_shape_layout.specs.Shape.{Shape}
use Rattle.archive_shape_layout.specs.Shape.Shape.{box}
use Rattle.archive_shape_layout.specs.Shape.Pointee.{str}
use Rattle.archive_shape_layout.specs.Value.{Value}
use Rattle.archive_shape_layout.specs.Value.Value.{group, string}
use Rattle.archive_shape_layout.specs.Value.Values.{more_values}
use Rattle.archive_shape_layout.specs.Content.{Names}
use Rattle.archive_shape.specs.Key.{HeldAt}
use Rattle.archive_forms_laws.specs.Views.{text_of, elements_of, head_of, rest_of}
use Rattle.archive_forms_values.specs.Tuples.{tuple2}
use Rattle.archive_forms_values.specs.Parts.{HasValue, both}
use Rattle.archive_forms_values.specs.Fields.{field, second_position}
use Rattle.archive_forms_values.specs.Keys.{EachStandsFor}
use Rattle.archive_forms_values.proofs.Held.{fields_at}
use Rattle.archive_forms_values.proofs.Texts.{boxed_str_points, boxed_str_there}

-- what holds at a position holds at an equal one
pub there_too : (P : List ℕ → ℕ → Type 0) {bytes here : List ℕ} {pos at : ℕ} → here ≡ bytes → at ≡ pos → P bytes pos → P here at
there_too P {here = here} {pos = pos} same_bytes same_pos h = subst (P here) (sym same_pos) (subst (λ bs. P bs pos) (sym same_bytes) h)

-- ---- texts: t is the key's, and u the query's

module _ {t u key query : List ℕ} (is_key : key ≡ t) (is_query : u ≡ query) where
  pub texts_ordered : {o : Ordering} → o ≡ slice_cmp nat_cmp t u → o ≡ slice_cmp nat_cmp key query
  texts_ordered is = is ∙ ap (λ x. slice_cmp nat_cmp x u) (sym is_key) ∙ ap (slice_cmp nat_cmp key) is_query

  pub texts_same : {b : Bool} → b ≡ pointwise nat_eq t u → b ≡ is_eq (slice_cmp nat_cmp key query)
  texts_same is = is ∙ texts_ties t u ∙ ap (λ x. is_eq (slice_cmp nat_cmp x u)) (sym is_key) ∙ ap (λ x. is_eq (slice_cmp nat_cmp key x)) is_query

-- each value of a box that has a text is that text
pub boxed_str_stands : (bytes : List ℕ) (pos : ℕ) (t : List ℕ) → HeldAt (box str) (λ _. ⊤) bytes pos (string t) → EachStandsFor (box str) (λ _. ⊤) bytes pos (λ v. text_of v ≡ t)
boxed_str_stands bytes pos t h =
    let has : HasValue (box str) (λ _. ⊤) bytes pos = record { value = string t; held = h } in
    let points = boxed_str_points bytes pos has in
    let there = boxed_str_there bytes pos points.0 _ points.1 refl has in
    record { there = has; each = λ v held. ap text_of (there.value v held) ∙ sym (ap text_of (there.value (string t) h)) }

module _ (s t : Shape) (knows others : Names → Type 0) (bytes : List ℕ) (pos : ℕ) where
  -- the fields of a tuple are where it has them
  pub pair_held : (v : Value) → HeldAt (tuple2 s t) (both knows others) bytes pos v → HeldAt s knows bytes pos (head_of (elements_of v)) × HeldAt t others bytes (second_position s t pos) (head_of (rest_of (elements_of v)))
  pair_held v h =
      let own = fields_at (field s knows ∷ field t others ∷ []) (both knows others) (λ names known. (known.0, (known.1, tt))) bytes pos v h in
      let first = own.each in
      let second = first.rest in
      let is : v ≡ group (more_values first.first (more_values second.first second.others)) = own.is ∙ ap group (first.is ∙ ap (more_values first.first) second.is) in (
        subst (HeldAt s knows bytes pos) (sym (ap (λ w. head_of (elements_of w)) is)) first.held,
        subst (HeldAt t others bytes (second_position s t pos)) (sym (ap (λ w. head_of (rest_of (elements_of w))) is)) second.held,
      )

  -- a tuple stands for what its fields stand for
  pub pair_stands :
      {S O : Value → Type 0}
      → HasValue (tuple2 s t) (both knows others) bytes pos
      → ((v : Value) → HeldAt s knows bytes pos v → S v)
      → ((v : Value) → HeldAt t others bytes (second_position s t pos) v → O v)
      → EachStandsFor (tuple2 s t) (both knows others) bytes pos (λ v. S (head_of (elements_of v)) × O (head_of (rest_of (elements_of v))))
  pair_stands has first second = record { there = has; each = λ v h. let held = pair_held v h in (first _ held.0, second _ held.1) }
