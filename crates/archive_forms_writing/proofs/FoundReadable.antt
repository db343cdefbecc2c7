-- What a look-up found of a map can be read: told of a position, and told to clients.
use Rattle.std.proofs.Common.{◌≡◌, ◌∙◌, ℕ, Option, Some, None, MatchOption, ap, sym, subst}
use Rattle.std.specs.Option.{IsSomeAnd, option_map}
use Rattle.archive_shape_layout.specs.Shape.{Shape}
use Rattle.archive_shape_layout.specs.Content.{Names}
use Rattle.archive_shape_canonical.specs.Settled.{Fit}
use Rattle.archive_shape.specs.declared.references.refs.Ref.{Ref}
use Rattle.archive_forms_laws.specs.Spelling.{Spelling}
use Rattle.archive_forms_laws.specs.State.{Keys}
use Rattle.archive_forms_laws.specs.WrittenAt.{IsReadableAt}
use Rattle.archive_forms_writing.specs.Readable.{FindsReadable}

module _ {A B C P Q : Type 0} (fit : Fit) (names : Names) (keys : Keys) (s : Shape) (w : Spelling B Q) (of : P → Ref C) where
  -- the value of an entry can be read, where what is found of a position leads
  abbrev pub IsValueAt : P → A × B → Type 0
  IsValueAt at e = w.suits fit keys e.1 × IsReadableAt names keys s w (of at).bytes.now (of at).pos e.1

  -- what is told of the position is told of what is found
  pub found_readable : (first : Option (A × B)) (position : Option P) (found : Option (Ref C)) → found ≡ option_map of position
      → MatchOption first (position ≡ None) (λ e. IsSomeAnd position (λ at. IsValueAt at e))
      → FindsReadable fit names keys s w first found
  found_readable None position found is h = is ∙ ap (option_map of) h
  found_readable (Some e) None found is h = absurd h
  found_readable (Some e) (Some at) found is h = (h.0, subst (λ (o : Option (Ref C)). IsSomeAnd o (λ r. IsReadableAt names keys s w r.bytes.now r.pos e.1)) (sym is) h.1)

-- what is told of each entry whose value is found is told of the first entry
pub told_of_found : {E T : Type 0} (Suits There : E → Type 0) (P : Option E → Type 0) (first : Option E) (value : T) → MatchOption first (Some value ≡ None) (λ e. Suits e × There e)
    → ((e : E) → Suits e → There e → P (Some e)) → P first
told_of_found Suits There P None value h says = absurd (cc)
told_of_found Suits There P (Some e) value h says = says e h.0 h.1

-- where none is found, there is no first entry
pub told_of_none : {E : Type 0} (Suits : E → Type 0) (Same : Type 0) (P : Option E → Type 0) (first : Option E) → MatchOption first Same (λ e. Suits e × ⊥) → P None → P first
told_of_none Suits Same P None h says = says
told_of_none Suits Same P (Some e) h says = absurd h.1
