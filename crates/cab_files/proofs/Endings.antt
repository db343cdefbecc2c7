-- How a run in an archive file ends.
use Rattle.std.proofs.Common.{◌≡◌, ℕ, ◌+◌, ◌<◌, ◌≤◌, Bool, true, false, suc, zero, List, Ok, Err, refl, sym, subst, arith}
use Rattle.std.specs.Prelude.{String, Result, MatchResult}
use Rattle.std.specs.declared.alloc.Global.{Global}
use Rattle.std.specs.Coded.{Coded-set, coded_list, coded_ℕ}
use Rattle.std.proofs.Math.Logic.{∥∥₁_elim}
use Rattle.cabinet_text_grammar.specs.Tree.{Tree}
use Rattle.cabinet_documents.specs.Accepted.{Accepted}
use Rattle.cabinet.specs.Calls.{EditedByRun}
use Rattle.cabinet.specs.Editing.{EditedByLines}
use Rattle.cabinet_text.specs.Failures.{WriterFails}
use Rattle.cabinet.proofs.SessionLaws.{unedited_bytes_stay}
use Rattle.cabinet.specs.declared.fault.Fault.{Fault}
use Rattle.cabinet.specs.declared.fault.Fault.TheVariants.{Usage, CannotRead, CannotWrite, Text, Save, Open, Run}
use Rattle.cabinet_text.specs.declared.session.Count.{Count}
use Rattle.cabinet_text.specs.declared.session.RunCause.{RunCause}
use Rattle.cabinet_text.specs.declared.session.RunCause.TheVariants.{Read, Write, OutOfMemory, LineTooLong, InputTooLong}
use Rattle.cabinet_text.specs.declared.session.RunFault.{RunFault}
use Rattle.cab_files.specs.Ending.{IsFlushed, IsFirstFault, IsArchive, EditsArchive, EndsRun}

-- flushing keeps the counts of a run
pub flushed_edits : (old new : List ℕ) (r ending : Result Count RunFault) (written : Bool) → EditedByRun old new r → IsFlushed r written ending → EditedByRun old new ending
flushed_edits old new (Ok n) ending true e f = subst (EditedByRun old new) (sym f) e
flushed_edits old new (Ok n) ending false e f = subst (EditedByRun old new) (sym f) e
flushed_edits old new (Err fault) ending written e f = subst (EditedByRun old new) (sym f) e

stays : (old new : List ℕ) (lines edited : ℕ) → ∥ ((t : Tree) × Accepted old t) ∥₁ → EditedByLines old new lines edited → edited ≡ 0 → new ≡ old
stays old new lines edited a e z =
    ∥∥₁_elim a (Coded-set (coded_list coded_ℕ) new old) (λ p. unedited_bytes_stay old new p.0 lines p.1 (subst (EditedByLines old new lines) z e))

-- without an edit the bytes are unchanged
pub unedited : (old new : List ℕ) (r : Result Count RunFault) → ∥ ((t : Tree) × Accepted old t) ∥₁ → EditedByRun old new r
    → MatchResult r (λ n. n.edits ≡ 0 → new ≡ old) (λ f. f.edits ≡ 0 → new ≡ old)
unedited old new (Ok n) a e = stays old new n.lines n.edits a e
unedited old new (Err f) a e = stays old new f.lines f.edits a e

-- a run ends at the first write that fails
one_by_cause : (counts : Bool) (cause : RunCause) (early late : ℕ) → WriterFails counts cause early late → late ≤ early + 1
one_by_cause true Write early late h = omega (arith, h)
one_by_cause false Write early late h = omega (arith, h)
one_by_cause counts Read early late h = omega (arith, h)
one_by_cause counts OutOfMemory early late h = omega (arith, h)
one_by_cause counts LineTooLong early late h = omega (arith, h)
one_by_cause counts InputTooLong early late h = omega (arith, h)

pub one_failure : (counts : Bool) (r : Result Count RunFault) (early late : ℕ) → MatchResult r (λ _. late ≡ early) (λ f. WriterFails counts f.cause early late) → late ≤ early + 1
one_failure counts (Ok n) early late h = omega (arith, h)
one_failure counts (Err f) early late h = one_by_cause counts f.cause early late h

some_edit : (edits done : ℕ) (kept : Bool) → edits ≡ done → kept ≡ false → (edits ≡ 0 → kept ≡ true) → 0 < done
some_edit edits zero kept same lost h = let k : kept ≡ true = h same in absurd (cc)
some_edit edits (suc n) kept same lost h = omega arith

pub ends_by : (old new : List ℕ) (path : String Global) (r : Result Count RunFault) (edits : ℕ) (kept : Bool) (ending : Result (Unit {0}) Fault)
    → IsArchive old
    → EditedByRun old new r
    → MatchResult r (λ n. edits ≡ n.edits) (λ f. edits ≡ f.edits)
    → (edits ≡ 0 → kept ≡ true)
    → IsFirstFault r kept path ending
    → EditsArchive old new path ending
ends_by old new path (Ok n) edits true (Ok done) a e c k f = (a, record { lines = n.lines; edits = n.edits; edited = e })
ends_by old new path (Ok n) edits true (Err fault) a e c k f = absurd (cc)
ends_by old new path (Ok n) edits false ending a e c k f =
    let some = some_edit edits n.edits false c refl k in
    subst (EditsArchive old new path) (sym f) (refl, a, (record { lines = n.lines; edits = n.edits; edited = e }, some))
ends_by old new path (Err fault) edits kept ending a e c k f = subst (EditsArchive old new path) (sym f) (a, e)

-- what working in the bytes of a file results in is how running it ends
pub ends_run : (old new : List ℕ) (path : String Global) (ending : Result (Unit {0}) Fault) → EditsArchive old new path ending → EndsRun path ending
ends_run old new path (Ok done) h = (old, new, h)
ends_run old new path (Err Usage) h = absurd h
ends_run old new path (Err (CannotRead other)) h = absurd h
ends_run old new path (Err (Text refusal)) h = absurd h
ends_run old new path (Err (Save refusal)) h = absurd h
ends_run old new path (Err (Open refusal)) h = (old, new, h)
ends_run old new path (Err (Run fault)) h = (old, new, h)
ends_run old new path (Err (CannotWrite other)) h = (old, new, h)
