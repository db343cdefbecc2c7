-- The fields of a player, one before the others, and the laws of how each is archived.
use Rattle.std.specs.Prelude.{⊤}
use Rattle.std.proofs.Common.{ℕ, ℤ, Vec, String, Option, refl, [], ◌∷◌}
use Rattle.std.specs.Int.{w32, to_le_bytes, cast_unsigned}
use Rattle.std.specs.String.{string_bytes}
use Rattle.std.specs.Global.{Global}
use Rattle.archive_shape_layout.specs.Shape.Shape.{text, vector}
use Rattle.archive_shape_layout.specs.Value.Value.{natural, integer}
use Rattle.archive_shape_canonical.specs.FirstFit.{first_fit}
use Rattle.archive_forms_laws.specs.Fields.{FieldsSpelling, no_fields, more_fields}
use Rattle.archive_forms_laws.specs.Pointers.{slice_spelling}
use Rattle.archive_forms_laws.specs.Spells.{Spells}
use Rattle.archive_forms_laws.specs.Texts.{text_spelling}
use Rattle.archive_forms_laws.proofs.Leaves.{leaf_spells}
use Rattle.archive_forms_laws.proofs.Options.{option_spells}
use Rattle.archive_forms_laws.proofs.Pointers.{slice_spells}
use Rattle.archive_forms_laws.proofs.Texts.{text_spells}
use Rattle.archive_forms_laws.proofs.Views.{kept_spells, seen_spells}
use Rattle.archive_forms_values.specs.declared.reading.resolving.VecResolver.{VecResolver}
use Rattle.archive_forms_values.specs.declared.text.resolving.StringResolver.{StringResolver}
use Rattle.archive_forms_writing.specs.Owned.{str_spelling, string_spelling, vec_spelling}
use Rattle.archive_example_player.specs.declared.player.Player.{Player}
use Rattle.archive_example_player.specs.Player.{level_shape, score_shape, scores_shape, level_spelling, score_spelling, scores_spelling}

-- ---- the fields from each on

abbrev pub from_scores : FieldsSpelling (Option (Vec ℤ Global) × Unit {0}) (Option VecResolver × Unit {0})
from_scores = more_fields scores_shape scores_spelling no_fields

abbrev pub from_name : FieldsSpelling (String Global × (Option (Vec ℤ Global) × Unit {0})) (StringResolver × (Option VecResolver × Unit {0}))
from_name = more_fields text string_spelling from_scores

abbrev pub all : FieldsSpelling (ℕ × (String Global × (Option (Vec ℤ Global) × Unit {0}))) (Unit {0} × (StringResolver × (Option VecResolver × Unit {0})))
all = more_fields level_shape level_spelling from_name

abbrev pub fields_of : Player → ℕ × (String Global × (Option (Vec ℤ Global) × Unit {0}))
fields_of p = (p.level, (p.name, (p.scores, tt)))

abbrev pub split : Unit {0} × StringResolver × Option VecResolver → Unit {0} × (StringResolver × (Option VecResolver × Unit {0}))
split r = (r.0, (r.1, (r.2, tt)))

abbrev pub joined : Unit {0} × (StringResolver × (Option VecResolver × Unit {0})) → Unit {0} × StringResolver × Option VecResolver
joined r = (r.0, r.1.0, r.1.1.0)

-- ---- the laws of how they are archived

pub level_spells : Spells (first_fit (λ _. 0)) level_shape (λ _. ⊤) level_spelling
level_spells = leaf_spells (first_fit (λ _. 0)) level_shape (λ _. ⊤) (λ b. b ∷ []) natural tt

pub name_spells : Spells (first_fit (λ _. 0)) text (λ _. ⊤) string_spelling
name_spells = seen_spells (first_fit (λ _. 0)) text (λ _. ⊤) string_bytes str_spelling (kept_spells (first_fit (λ _. 0)) text (λ _. ⊤) _ _ (λ r. refl) text_spelling (text_spells (first_fit (λ _. 0)) (λ _. ⊤)))

pub scores_spells : Spells (first_fit (λ _. 0)) scores_shape (λ _. ⊤) scores_spelling
scores_spells =
    option_spells (first_fit (λ _. 0)) (vector score_shape) (λ _. ⊤) (vec_spelling score_shape score_spelling)
    (kept_spells (first_fit (λ _. 0)) (vector score_shape) (λ _. ⊤) _ _ (λ r. refl) _
    (seen_spells (first_fit (λ _. 0)) (vector score_shape) (λ _. ⊤) (λ v. v.items) (slice_spelling score_shape score_spelling)
    (slice_spells (first_fit (λ _. 0)) score_shape (λ _. ⊤) score_spelling
    (leaf_spells (first_fit (λ _. 0)) score_shape (λ _. ⊤) (λ n. to_le_bytes w32 (cast_unsigned w32 n)) integer tt))))
