use Rattle.std.proofs.Common.{◌≡◌, ◌∙◌, ℕ, List, [], ◌∷◌, Some, None, refl, ap, sym, subst}
use Rattle.std.specs.List.{AllZip, slice_get}
use Rattle.std.specs.Prelude.{All}
use Rattle.std.proofs.lemmas.List.Elements.{All-head}
use Rattle.std.specs.Option.{option_map}
use Rattle.archive_shape_layout.specs.Value.{Value}
use Rattle.archive_shape_layout.specs.Value.Value.{natural}
use Rattle.archive_shape.specs.Key.{HeldAt}
use Rattle.archive_shape.specs.declared.references.refs.Ref.{Ref}
use Rattle.archive_forms_laws.specs.Sample.{number_shape, number_spelling}
use Rattle.archive_btree_maps.specs.Refs.{IsThere}
use Rattle.archive_btree.specs.Ranges.{IsOfEntry}
use Rattle.archive_btree_tests.specs.Answers.{any}
use Rattle.archive_btree_tests.proofs.Told.{number_told}
use Rattle.archive_btree_tests.proofs.answers.first_from.Goals as goal

module _ {D H C : Type 0} (this : Ref D) where
  abbrev IsAt : Ref H × Ref C → ℕ × ℕ → Type 0
  IsAt pair e = IsOfEntry 5 number_shape number_shape any any number_spelling number_spelling this pair e

  first_here : (pair : Ref H × Ref C) (rest : List (Ref H × Ref C)) (es : List (ℕ × ℕ)) (n : ℕ) → AllZip IsAt (pair ∷ rest) es
      → ((v : Value) → HeldAt number_shape any pair.1.bytes.now pair.1.pos v → natural n ≡ v) → Some n ≡ option_map (λ e. e.1) (slice_get es 0)
  first_here pair rest [] n h told = absurd h
  first_here pair rest (e ∷ es) n h told = ap Some (number_told _ pair.1 (ap (λ p. p.1) (sym h.0.1)) n e.1 told h.0.2.value_held)

  first_told : (pairs : List (Ref H × Ref C)) (pair : Ref H × Ref C) (rest : List (Ref H × Ref C)) (es : List (ℕ × ℕ)) (n : ℕ) → pairs ≡ pair ∷ rest → AllZip IsAt pairs es
      → ((v : Value) → HeldAt number_shape any pair.1.bytes.now pair.1.pos v → natural n ≡ v) → Some n ≡ option_map (λ e. e.1) (slice_get es 0)
  first_told pairs pair rest es n is h told = first_here pair rest es n (subst (λ xs. AllZip IsAt xs es) is h) told

  none_told : (pairs : List (Ref H × Ref C)) (es : List (ℕ × ℕ)) → pairs ≡ [] → AllZip IsAt pairs es → None ≡ option_map (λ (e : ℕ × ℕ). e.1) (slice_get es 0)
  none_told [] [] none h = refl
  none_told [] (e ∷ es) none h = absurd h
  none_told (pair ∷ pairs) es none h = absurd (cc)

pub native_of-requires : goal.native_of-requires
native_of-requires c = (All-head (IsThere number_shape number_shape any any) _ _ (subst (All (IsThere number_shape number_shape any any)) c.in-Some.ensures.steps c.range-entries.ensures.there)).1

pub returns-in-Some : goal.returns-in-Some
returns-in-Some c es small answers =
    let all = c.ranges_are_of_entries.ensures _ es _ small tt answers c.range-entries.ensures.between in
    first_told c.args.map _ (c.in-Some._key, c.in-Some.number) _ _ c.native_of.result c.in-Some.ensures.steps all c.native_of.ensures

pub returns-in-None : goal.returns-in-None
returns-in-None c es small answers =
    let all = c.ranges_are_of_entries.ensures _ es _ small tt answers c.range-entries.ensures.between in
    none_told c.args.map _ _ c.in-None.ensures.steps.0 all
