-- Weak pointers are resolved and written as options of counted pointers.
use Rattle.std.proofs.Common.{◌≡◌, ℕ, List, Option, Some, None, refl, ap, ◌∙◌}
use Rattle.std.specs.Prelude.{false, Result}
use Rattle.archive_shape_layout.specs.Bytes.{align_up}
use Rattle.archive_shape_layout.specs.Shape.{Pointee, size_of}
use Rattle.archive_shape_layout.specs.Shape.Shape.{shared, weak, option}
use Rattle.archive_shape_layout.specs.Shape.Pointee.{sized, slice, str}
use Rattle.archive_shape_layout.specs.declared.error.Error.{Error}
use Rattle.archive_forms_laws.specs.Spelling.{Spelling}
use Rattle.archive_forms_laws.specs.Options.{option_spelling}
use Rattle.archive_forms_laws.specs.Serializing.{CanResolve, Resolves}
use Rattle.archive_forms_rc.specs.declared.resolving.RcResolver.{RcResolver}
use Rattle.archive_forms_rc.specs.declared.resolving.RcWeakResolver.{RcWeakResolver}
use Rattle.archive_forms_rc.specs.WeakResolvers.{weak_resolver, counted_resolver}
use Rattle.archive_forms_rc.specs.Counted.{weak_of}

resolver_back : (k : Option RcResolver) → counted_resolver (weak_resolver k) ≡ k
resolver_back None = refl
resolver_back (Some r) = refl

-- it has the same number of bytes as the option
size_is : (q : Pointee) → size_of (weak false q) ≡ size_of (option (shared false q))
unfolding align_up
size_is (sized s) = refl
size_is (slice s) = refl
size_is str = refl

module _ {A : Type 0} (q : Pointee) (w : Spelling A RcResolver) (x : Option A) (r : RcWeakResolver) (k : Option RcResolver) (is : k ≡ counted_resolver r) where
  pub can_resolve : (bytes within : List ℕ) (start from pos there : ℕ) → within ≡ bytes → from ≡ start → there ≡ pos
      → CanResolve (weak_of q w) (weak false q) x r bytes start pos
      → CanResolve (option_spelling (shared false q) w) (option (shared false q)) x k within from there
  can_resolve bytes within start from pos there is_within is_from is_there can =
      let size = size_is q in
      record {
        room = rw (is_within, is_from, ← size) can.room;
        stands = rw (is_there, ← size) can.stands;
        blank = rw (is_within, is_from, ← size) can.blank;
        made = (can.made.0, is ∙ ap counted_resolver can.made.1 ∙ resolver_back _);
      }

  pub resolved : (bytes within new given : List ℕ) (start from pos there : ℕ) (result : Result (Unit {0}) Error) → within ≡ bytes → from ≡ start → there ≡ pos
      → Resolves (option_spelling (shared false q) w) (option (shared false q)) x k there from within new result
      → given ≡ new
      → Resolves (weak_of q w) (weak false q) x r pos start bytes given result
  resolved bytes within new given start from pos there result is_within is_from is_there h is_given =
      rw (is_given, ← is_within, ← is_from, ← is_there, ← is, size_is q) h
