-- How lists that hold themselves are archived.
use Rattle.std.specs.Prelude.{ℕ, suc, Option, Some, None}
use Rattle.archive_shape_layout.specs.Shape.Shape.{box}
use Rattle.archive_shape_layout.specs.Shape.Pointee.{sized}
use Rattle.archive_forms_laws.specs.Spelling.{Spelling}
use Rattle.archive_forms_laws.specs.Forms.{seen_as, kept_as}
use Rattle.archive_forms_laws.specs.Options.{option_spelling}
use Rattle.archive_forms_laws.specs.Pointers.{box_spelling}
use Rattle.archive_forms_laws.specs.Fields.{unit_spelling}
use Rattle.archive_forms_laws.specs.Levels.{self_spelling}
use Rattle.archive_forms_values.specs.declared.reading.resolving.BoxResolver.{BoxResolver}
use Rattle.archive_forms_tests.specs.Recursive.{list_shape}
use Rattle.archive_forms_tests.specs.declared.recursive.list.List.{List, List', None', Some'}

-- the list that a list leads to
abbrev pub list_next : List → Option List
list_next (List' None') = None
list_next (List' (Some' p x)) = Some x

-- the number of lists that it leads to, one after another
abbrev pub links : List → ℕ
links (List' None') = 0
links (List' (Some' p x)) = suc (links x)

-- the box of a list that is archived in this way
abbrev pub linked_spelling : Spelling List (Option BoxResolver) → Spelling List BoxResolver
linked_spelling w = kept_as (λ n. record { pos = n }) (λ r. r.pos) (box_spelling list_shape w)

-- a list is archived as the option that it is, where the list that it leads to is archived in this way
abbrev pub list_level : Spelling List (Option BoxResolver) → Spelling List (Option BoxResolver)
list_level w = seen_as list_next (option_spelling (box (sized list_shape)) (linked_spelling w))

abbrev pub no_list : Spelling List (Option BoxResolver)
no_list = kept_as (λ _. None) (λ _. tt) unit_spelling

abbrev pub list_spelling : Spelling List (Option BoxResolver)
list_spelling = self_spelling list_level no_list links
