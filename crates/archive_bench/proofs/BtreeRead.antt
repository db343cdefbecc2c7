-- Texts and entries that are there.
use Rattle.std.proofs.Common.{◌≡◌, ℕ, List, ◌∷◌, All, subst}
use Rattle.std.proofs.lemmas.List.Elements.{All-head, All-tail}
use Rattle.archive_shape_layout.specs.Content.{Names}
use Rattle.archive_shape.proofs.Held.{claims_within}
use Rattle.archive_shape_layout.specs.Shape.Shape.{text}
use Rattle.archive_forms_laws.specs.Text.{HasText}
use Rattle.archive_forms_laws.proofs.Held.{held_is_text_law}
use Rattle.archive_forms_values.specs.Parts.{HasValue}
use Rattle.archive_shape.specs.declared.references.refs.Ref.{Ref}
use Rattle.archive_btree_maps.specs.Refs.{IsThere}
use Rattle.archive_bench.specs.BtreeTexts.{text_shape, number_shape, known}
use Rattle.archive_bench.proofs.Held.{text_there}

-- the first of entries that are there, and the others
module _ {K V : Type 0} (x : Ref K × Ref V) (rest whole : List (Ref K × Ref V)) (steps : whole ≡ x ∷ rest) (all : All (IsThere text_shape number_shape known known) whole) where
  pub first_there : IsThere text_shape number_shape known known x
  first_there = All-head (IsThere text_shape number_shape known known) x rest (subst (All (IsThere text_shape number_shape known known)) steps all)

  pub rest_there : All (IsThere text_shape number_shape known known) rest
  rest_there = All-tail (IsThere text_shape number_shape known known) x rest (subst (All (IsThere text_shape number_shape known known)) steps all)
