-- What is told of the numbers at places of entries.
use Rattle.std.proofs.Common.{◌≡◌, ◌∙◌, ℕ, Bool, List, [], ◌∷◌, Option, Some, None, MatchOption, refl, ap, sym, subst}
use Rattle.std.specs.Option.{IsSomeAnd, is_some, option_map}
use Rattle.archive_shape_layout.specs.Value.{Value}
use Rattle.archive_shape_layout.specs.Value.Value.{natural}
use Rattle.archive_shape.specs.Key.{HeldAt}
use Rattle.archive_shape.specs.declared.references.refs.Ref.{Ref}
use Rattle.archive_forms_laws.specs.Sample.{number_shape}
use Rattle.archive_btree_layout.specs.Reading.{Place}
use Rattle.archive_btree_tests.specs.Answers.{any}

module _ {T : Type 0} (at value : Ref T) (same : at ≡ value) where
  -- the number at a position is the one that the layout has there
  pub number_told : (n m : ℕ) → ((v : Value) → HeldAt number_shape any value.bytes.now value.pos v → natural n ≡ v) → HeldAt number_shape any at.bytes.now at.pos (natural m) → n ≡ m
  number_told n m told held =
      let equal : natural n ≡ natural m = told (natural m) (subst (λ (r : Ref T). HeldAt number_shape any r.bytes.now r.pos (natural m)) same held) in
      cc

module _ {E T B : Type 0} (of : Place → Ref T) (IsAt : Place → E → Type 0) (seen : E → B) where
  -- what is told of the value at the place that is found is told of the entry there
  pub value_found : (first : Option E) (found : Option Place) (value : Ref T) (told : B) → Some value ≡ option_map of found → MatchOption first (found ≡ None) (λ e. IsSomeAnd found (λ p. IsAt p e))
      → ((p : Place) (e : E) → of p ≡ value → IsAt p e → told ≡ seen e) → Some told ≡ option_map seen first
  value_found None found value told is h says = absurd (let none : Some value ≡ None = is ∙ ap (option_map of) h in cc)
  value_found (Some e) None value told is h says = absurd h
  value_found (Some e) (Some p) value told is h says =
      let same : of p ≡ value = (let both : Some value ≡ Some (of p) = is in cc) in
      ap Some (says p e same h)

  -- nothing is found: there is no entry
  pub value_missing : (first : Option E) (found : Option Place) → None ≡ option_map of found → MatchOption first (found ≡ None) (λ e. IsSomeAnd found (λ p. IsAt p e)) → None ≡ option_map seen first
  value_missing None found is h = refl
  value_missing (Some e) None is h = absurd h
  value_missing (Some e) (Some p) is h = absurd cc

-- something is found where there is an entry
pub same_found : {E : Type 0} (IsAt : Place → E → Type 0) (first : Option E) (found : Option Place) → MatchOption first (found ≡ None) (λ e. IsSomeAnd found (λ p. IsAt p e)) → is_some found ≡ is_some first
same_found IsAt None found h = ap is_some h
same_found IsAt (Some e) None h = absurd h
same_found IsAt (Some e) (Some p) h = refl
