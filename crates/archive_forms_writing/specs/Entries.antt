-- How a borrowed key and a borrowed value are archived.
use Rattle.archive_shape_layout.specs.Shape.{Shape}
use Rattle.archive_forms_laws.specs.Spelling.{Spelling}
use Rattle.archive_forms_laws.specs.Forms.{seen_as, kept_as}
use Rattle.archive_forms_laws.specs.Fields.{tuple2_spelling}
use Rattle.archive_forms_writing.specs.declared.collections.entry.EntryAdapter.{EntryAdapter}
use Rattle.archive_forms_writing.specs.declared.collections.entry.EntryResolver.{EntryResolver}

-- they are archived as the tuple of the two
abbrev pub entry_spelling : {A B R Q : Type 0} → Shape → Spelling A R → Shape → Spelling B Q → Spelling (EntryAdapter A B) (EntryResolver R Q)
entry_spelling s w t u = kept_as (λ r. record { key = r.0; value = r.1 }) (λ r. (r.key, r.value)) (seen_as (λ e. (e.key.now, e.value.now)) (tuple2_spelling s w t u))
