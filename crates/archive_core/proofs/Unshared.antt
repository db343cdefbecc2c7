-- What is written of values of types without shared pointers is accepted and read back, whatever keys denote.
use Rattle.std.proofs.Common.{◌≡◌, ◌≢◌, ◌<◌, ◌^◌, ℕ, List, [], length, None, Ok, Err, refl, subst}
use Rattle.std.specs.Prelude.{Result}
use Rattle.archive_shape_layout.specs.Shape.{Shape}
use Rattle.archive_shape_layout.specs.Value.{Value}
use Rattle.archive_shape_layout.specs.Content.{Names}
use Rattle.archive_shape_layout.specs.Holds.{root_position}
use Rattle.archive_shape_layout.specs.declared.error.Error.{Error}
use Rattle.archive_shape_layout.specs.declared.error.Error.TheVariants.{OutOfMemory}
use Rattle.archive_shape_canonical.specs.Settled.{Fit, free}
use Rattle.archive_shape.proofs.Refused.{refused_law}
use Rattle.archive_forms_laws.specs.State.{Keys}
use Rattle.archive_forms_laws.specs.Spelling.{Spelling}
use Rattle.archive_forms_laws.specs.Spells.{Spells}
use Rattle.archive_forms.specs.Deserializing.{Deserializes, IsReadAt}
use Rattle.archive_core_validation.specs.Depth.{unlimited}
use Rattle.archive_core_validation.specs.Access.{IsRefused}
use Rattle.archive_core.specs.Written.{ReadsUnshared}
use Rattle.archive_core.specs.Laws.{UnsharedSuits, UnsharedIsAccepted, UnsharedIsReadBack}
use Rattle.archive_core.proofs.Joined.{written_law, read_back_law}

only_memory : (e : Error) → (e ≢ OutOfMemory → ⊥) → e ≡ OutOfMemory
only_memory OutOfMemory not = refl
only_memory _ not = absurd (not (λ same. absurd (cc)))

module _ {A R : Type 0} (s : Shape) (knows : Names → Type 0) (w : Spelling A R) (spells : (fit : Fit) → Spells fit s knows w) where
  pub suits_law : UnsharedSuits s knows w
  suits_law none x keys = (spells free x).unshared none keys

  no_keys : Keys
  no_keys key = None

  pub accepted_law : UnsharedIsAccepted s knows w
  accepted_law none x bytes names known short written = written_law s knows w x bytes free names no_keys known (suits_law none x no_keys) short written

  module _ (reads : Value → A → Type 0) where
    pub back_law : UnsharedIsReadBack s knows w reads
    back_law none x y bytes names known written read = read_back_law s knows w reads x y bytes free names no_keys known (suits_law none x no_keys) written read

    -- what is read at the root of an archive of a value
    pub read_unshared : (names : Names) (known : knows names) (bytes there : List ℕ) (pos : ℕ) (result : Result A Error)
        → there ≡ bytes → pos ≡ root_position (length bytes) s → Deserializes reads s knows there pos result → ReadsUnshared s knows w reads bytes result
    read_unshared names known bytes there pos (Ok y) same at_root read none x written =
        back_law none x y bytes names known written
        (subst (λ bs. IsReadAt reads s knows bs (root_position (length bytes) s) y) same (subst (λ p. IsReadAt reads s knows there p y) at_root read))
    read_unshared names known bytes there pos (Err e) same at_root memory none x written = memory

    -- no archive of a value is refused
    pub refused_unshared : (names : Names) (known : knows names) (bytes : List ℕ) → length bytes < 2 ^ 64 → (e : Error)
        → (e ≢ OutOfMemory → IsRefused names bytes s (root_position (length bytes) s) unlimited e) → ReadsUnshared s knows w reads bytes (Err e)
    refused_unshared names known bytes short e refused none x written =
        only_memory e (λ other. refused_law names bytes [] [] _ _ e (refused other) (accepted_law none x bytes names known short written))
