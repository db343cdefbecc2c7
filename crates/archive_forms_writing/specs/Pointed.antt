-- How a box of a borrowed value is archived.
use Rattle.std.specs.Prelude.{ℕ}
use Rattle.archive_forms_laws.specs.Spelling.{Spelling}
use Rattle.archive_forms_laws.specs.Forms.{kept_as}
use Rattle.archive_forms_values.specs.declared.reading.resolving.BoxResolver.{BoxResolver}

-- as a pointer, whose position the resolver keeps
abbrev pub box_of : {A : Type 0} → Spelling A ℕ → Spelling A BoxResolver
box_of w = kept_as (λ n. record { pos = n }) (λ r. r.pos) w
