-- The resolver of a weak pointer, which is an option of the counted pointer's.
use Rattle.std.specs.Prelude.{Option, Some, None}
use Rattle.archive_forms_rc.specs.declared.resolving.RcResolver.{RcResolver}
use Rattle.archive_forms_rc.specs.declared.resolving.RcWeakResolver.{RcWeakResolver}
use Rattle.archive_forms_rc.specs.declared.resolving.RcWeakResolver.TheVariants as weak

abbrev pub weak_resolver : Option RcResolver → RcWeakResolver
weak_resolver None = weak.None
weak_resolver (Some r) = weak.Some r

abbrev pub counted_resolver : RcWeakResolver → Option RcResolver
counted_resolver weak.None = None
counted_resolver (weak.Some r) = Some r
