use Rattle.std.proofs.Common.{◌≢◌, IfOk, MatchResult, ℕ, ◌<◌, ◌^◌, length, List, [], Result, Ok, Err}
use Rattle.archive_shape_layout.specs.Shape.{Shape}
use Rattle.archive_shape_layout.specs.Value.{Value}
use Rattle.archive_shape_layout.specs.Content.{Names}
use Rattle.archive_shape_layout.specs.Holds.{root_position}
use Rattle.archive_shape.specs.Laws.{FaultRefuses}
use Rattle.archive_shape_layout.specs.declared.error.Error.{Error}
use Rattle.archive_shape_layout.specs.declared.error.Error.TheVariants.{OutOfMemory}
use Rattle.archive_shape_canonical.specs.Settled.{Fit}
use Rattle.archive_forms_laws.specs.State.{Keys}
use Rattle.archive_forms_laws.specs.Spelling.{Spelling}
use Rattle.archive_forms.specs.Deserializing.{IsReadAt}
use Rattle.archive_core_validation.specs.Depth.{unlimited}
use Rattle.archive_core_validation.specs.Access.{Decides}
use Rattle.archive_core.specs.Written.{MadeArchive}
use Rattle.archive_core.specs.Laws.{WrittenIsAccepted, ReadBackIsWritten}
use Rattle.archive_core_tests.proofs.archives.archived_and_read.Goals as goal

-- what reading an archive back returns, where the archive is what writing a value made
module _ {A R : Type 0} (s : Shape) (knows : Names → Type 0) (w : Spelling A R) (reads : Value → A → Type 0) (refuses : FaultRefuses) (accepted : WrittenIsAccepted s knows w)
    (written : ReadBackIsWritten s knows w reads) (names : Names) (known : knows names) (x : A) (bytes : List ℕ) (small : length bytes < 2 ^ 64) (made : MadeArchive s knows w x bytes) where
  result_of : (r : Result A Error) → ((names : Names) → knows names → Decides names bytes s (root_position (length bytes) s) unlimited r)
      → IfOk r (IsReadAt reads s knows bytes (root_position (length bytes) s))
      → (fit : Fit) (keys : Keys) → w.suits fit keys x → MatchResult r (reads (w.plain x)) (λ e. e ≢ OutOfMemory → ⊥)
  result_of (Ok y) exact value fit keys suits = written x y bytes fit names keys known suits made value
  result_of (Err e) exact value fit keys suits = λ other. refuses names bytes [] [] _ _ e (exact names known other) (accepted x bytes fit names keys known suits small made)

pub returns : goal.returns
returns g c =
    let slice = c.as_slice-archive.ensures in
    let read = c.from_bytes.ensures in
    record {
      read = result_of g.T.Archived.Portable.shape g.T.Archived.Portable.knows g.T.Archive.spelling g.T.Archived.ReadBack.reads c.fault_refuses.ensures c.written_is_accepted.ensures
          c.read_back_is_written.ensures c.requires.named.0 c.requires.named.1 c.args.value.now c.as_slice-archive.result.now c.as_slice-archive.type_inv.0 (rw slice.value c.in-Ok.ensures.archive) c.from_bytes.result read.exact read.value;
      unshared = λ none. read.written none c.args.value.now (rw slice.value c.in-Ok.ensures.archive);
    }
