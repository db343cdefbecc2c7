-- What look-ups in archived maps return, by the entries that the maps answer for.
use Rattle.std.specs.Option.{IsSomeAnd, option_map}
use Rattle.std.specs.Prelude.{String}
use Rattle.std.specs.Global.{Global}
use Rattle.std.specs.String.{string_bytes}
use Rattle.std.proofs.Common.{◌≡◌, ◌∙◌, ℕ, List, Option, Some, None, MatchOption, refl, ap, subst}
use Rattle.archive_shape_layout.specs.Shape.Shape.{text}
use Rattle.archive_shape_layout.specs.Value.{Value}
use Rattle.archive_shape_layout.specs.Value.Value.{natural, string}
use Rattle.archive_shape.specs.Key.{HeldAt}
use Rattle.archive_shape.specs.declared.references.refs.Ref.{Ref}
use Rattle.archive_forms_laws.specs.Text.{IsText}
use Rattle.archive_forms_laws.proofs.Once.{one_text_law}
use Rattle.archive_example_stock.specs.Stock.{number_shape, any}
use Rattle.archive_example_stock.proofs.Held.{held_there}

module _ {E P T B : Type 0} (of : P → Ref T) (IsAt : P → E → Type 0) (seen : E → B) where
  -- what is told of the value at a position is told of the first entry
  pub value_found : (first : Option E) (position : Option P) (value : Ref T) (told : B)
      → Some value ≡ option_map of position
      → MatchOption first (position ≡ None) (λ e. IsSomeAnd position (λ at. IsAt at e))
      → ((at : P) (e : E) → of at ≡ value → IsAt at e → told ≡ seen e)
      → Some told ≡ option_map seen first
  value_found None position value told is h says = absurd (let none : Some value ≡ None = is ∙ ap (option_map of) h in cc)
  value_found (Some e) None value told is h says = absurd h
  value_found (Some e) (Some at) value told is h says =
      let same : of at ≡ value = (let found : Some value ≡ Some (of at) = is in cc) in
      ap Some (says at e same h)

  -- nothing is found: there is no entry
  pub value_missing : (first : Option E) (position : Option P)
      → None ≡ option_map of position
      → MatchOption first (position ≡ None) (λ e. IsSomeAnd position (λ at. IsAt at e))
      → None ≡ option_map seen first
  value_missing None position is h = refl
  value_missing (Some e) None is h = absurd h
  value_missing (Some e) (Some at) is h = absurd cc

module _ {T : Type 0} (at value : Ref T) (same : at ≡ value) where
  -- the number at a position is the one that the layout has there
  pub number_told : (n m : ℕ) → ((v : Value) → HeldAt number_shape any value.bytes.now value.pos v → natural n ≡ v)
      → HeldAt number_shape any at.bytes.now at.pos (natural m)
      → n ≡ m
  number_told n m told held =
      let equal : natural n ≡ natural m = told (natural m) (subst (λ (r : Ref T). HeldAt number_shape any r.bytes.now r.pos (natural m)) same held) in
      cc

  -- the text at a position is the one that the layout has there
  pub text_told : (t : List ℕ) (s : String Global) → IsText value.bytes.now value.pos t
      → HeldAt text any at.bytes.now at.pos (string (string_bytes s))
      → t ≡ string_bytes s
  text_told t s told held =
      let there = held_there value.bytes.now value.pos _ (subst (λ (r : Ref T). HeldAt text any r.bytes.now r.pos (string (string_bytes s))) same held) in
      let one : t ≡ there.text = one_text_law value.bytes.now value.pos t there.text told there.stands in
      let equal : string (string_bytes s) ≡ string there.text = there.value in
      cc
