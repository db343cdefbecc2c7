-- How counted pointers with keys are archived.
use Rattle.std.specs.Prelude.{ℕ, false, Option, length}
use Rattle.std.specs.Rc.{rc_slice_items, rc_str_bytes}
use Rattle.std.specs.Global.{Global}
use Rattle.std.specs.declared.rc.Rc.{Rc}
use Rattle.std.specs.declared.rc.RcSlice.{RcSlice}
use Rattle.std.specs.declared.rc.RcStr.{RcStr}
use Rattle.archive_shape_layout.specs.Shape.{Shape, Pointee}
use Rattle.archive_shape_layout.specs.Shape.Shape.{shared}
use Rattle.archive_shape_layout.specs.Shape.Pointee.{sized, slice, str}
use Rattle.archive_forms_laws.specs.Spelling.{Spelling}
use Rattle.archive_forms_laws.specs.Forms.{kept_as, seen_as}
use Rattle.archive_forms_laws.specs.Options.{option_spelling}
use Rattle.archive_forms_laws.specs.Pointers.{box_spelling, slice_spelling}
use Rattle.archive_forms_laws.specs.Texts.{boxed_text_spelling}
use Rattle.archive_forms_laws.specs.Shared.{shared_spelling}
use Rattle.archive_forms_rc.specs.declared.resolving.RcResolver.{RcResolver}
use Rattle.archive_forms_rc.specs.declared.resolving.RcWeakResolver.{RcWeakResolver}
use Rattle.archive_forms_rc.specs.declared.sharing.keyed.Shared.{Shared}
use Rattle.archive_forms_rc.specs.declared.sharing.weak.SharedWeak.{SharedWeak}
use Rattle.archive_forms_rc.specs.WeakResolvers.{weak_resolver, counted_resolver}

-- as a pointer, whose position the resolver keeps
abbrev pub rc_of : {A : Type 0} → Spelling A ℕ → Spelling A RcResolver
rc_of w = kept_as (λ n. record { pos = n }) (λ r. r.pos) w

-- a counted pointer to a value, to elements and to a text, each as a pointer to what is shared under its key
abbrev pub shared_rc_spelling : {A R : Type 0} → Shape → Spelling A R → Spelling (Shared (Rc A Global)) RcResolver
shared_rc_spelling s w = rc_of (shared_spelling (sized s) (λ x. 1) (λ x. x.key) (seen_as (λ x. x.value.value) (box_spelling s w)))

abbrev pub shared_slice_rc_spelling : {A R : Type 0} → Shape → Spelling A R → Spelling (Shared (RcSlice A Global)) RcResolver
shared_slice_rc_spelling s w =
    rc_of (shared_spelling (slice s) (λ x. length (rc_slice_items x.value)) (λ x. x.key) (seen_as (λ x. rc_slice_items x.value) (slice_spelling s w)))

abbrev pub shared_str_rc_spelling : Spelling (Shared (RcStr Global)) RcResolver
shared_str_rc_spelling = rc_of (shared_spelling str (λ x. length (rc_str_bytes x.value)) (λ x. x.key) (seen_as (λ x. rc_str_bytes x.value) boxed_text_spelling))

-- an optional counted pointer as a weak pointer, which has the bytes of the option
abbrev pub weak_of : {A : Type 0} → Pointee → Spelling A RcResolver → Spelling (Option A) RcWeakResolver
weak_of q w = kept_as weak_resolver counted_resolver (option_spelling (shared false q) w)

-- to a value, to elements and to a text
abbrev pub weak_rc_spelling : {A R : Type 0} → Shape → Spelling A R → Spelling (Option (Shared (Rc A Global))) RcWeakResolver
weak_rc_spelling s w = weak_of (sized s) (shared_rc_spelling s w)

abbrev pub weak_slice_rc_spelling : {A R : Type 0} → Shape → Spelling A R → Spelling (Option (Shared (RcSlice A Global))) RcWeakResolver
weak_slice_rc_spelling s w = weak_of (slice s) (shared_slice_rc_spelling s w)

abbrev pub weak_str_rc_spelling : Spelling (Option (Shared (RcStr Global))) RcWeakResolver
weak_str_rc_spelling = weak_of str shared_str_rc_spelling

-- std's weak pointers to a value, elements and a text
abbrev pub shared_weak_spelling : {A R : Type 0} → Shape → Spelling A R → Spelling (SharedWeak (Rc A Global)) RcWeakResolver
shared_weak_spelling s w = seen_as (λ x. x.shared) (weak_rc_spelling s w)

abbrev pub shared_weak_slice_spelling : {A R : Type 0} → Shape → Spelling A R → Spelling (SharedWeak (RcSlice A Global)) RcWeakResolver
shared_weak_slice_spelling s w = seen_as (λ x. x.shared) (weak_slice_rc_spelling s w)

abbrev pub shared_weak_str_spelling : Spelling (SharedWeak (RcStr Global)) RcWeakResolver
shared_weak_str_spelling = seen_as (λ x. x.shared) weak_str_rc_spelling
