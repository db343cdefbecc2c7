-- How a session on the document of an archive ends, and what is known of its archive.
use Rattle.std.proofs.Common.{◌≡◌, ℕ, inr, Bool, true, false, not, is_some, List, [], Ok, Err, refl, sym, subst}
use Rattle.std.specs.Prelude.{String, Vec, Result, Option, Some, None, is_none, IfOk}
use Rattle.std.specs.declared.alloc.Global.{Global}
use Rattle.cabinet_text_grammar.specs.Tree.{Tree}
use Rattle.cabinet_text.specs.Session.{edit_lines, after_all}
use Rattle.cabinet_text.specs.Working.{LeftByLines, LeftByRun}
use Rattle.cabinet_text.specs.declared.session.Count.{Count}
use Rattle.cabinet_text.specs.declared.session.RunCause.TheVariants as run_cause
use Rattle.cabinet_text.specs.declared.session.RunFault.{RunFault}
use Rattle.cabinet_documents.specs.Accepted.{Accepted}
use Rattle.cabinet_documents.specs.Image.{Image}
use Rattle.cabinet_documents.proofs.Sound.{one_document_law}
use Rattle.cabinet_archives.specs.Refused.{refusal_of}
use Rattle.cabinet_archives.specs.declared.saving.saving.SaveRefusal.{SaveRefusal}
use Rattle.cabinet_archives.specs.declared.saving.saving.SaveRefusal.TheVariants as save_refusal
use Rattle.cabinet.specs.Calls.{SavesAs, SavesEdits}
use Rattle.cabinet.specs.declared.editing.EditedArchive.{EditedArchive}
use Rattle.cabinet.specs.declared.fault.Fault.{Fault}
use Rattle.cabinet.specs.declared.fault.Fault.TheVariants.{Usage, CannotRead, CannotWrite, Text, Save, Open, Run}
use Rattle.cabinet.proofs.RefusalLemmas.{accepted_is_not_refused_law}
use Rattle.cab_files.specs.Ending.{IsFlushed, IsArchive}
use Rattle.cab_files.specs.Editing.{root_tree, edits_told, due, IsFirstEditFault, EndsSession, EditsFile, EndsEdit, EndsNew}
use Rattle.cab_files.specs.declared.editing.command.NewRoot.{NewRoot}

-- where no line is carried out, and nothing is saved for lack of memory
pub saves_none : (old : List ℕ) (t : Tree) → Accepted old t
    → SavesEdits old (record { archive = Err save_refusal.OutOfMemory; outcome = Err (record { cause = run_cause.OutOfMemory; lines = 0; edits = 0 }) })
saves_none old t a = (t, a, record { texts = []; said = []; say = tt; count = refl; leaves = tt; edits_counted = refl })

left_flushed : (archive : Result (Vec ℕ Global) SaveRefusal) (t : Tree) (r ending : Result Count RunFault) (written : Bool)
    → LeftByRun edit_lines (SavesAs archive) t r → IsFlushed r written ending → LeftByRun edit_lines (SavesAs archive) t ending
left_flushed archive t (Ok n) ending true l f = subst (LeftByRun edit_lines (SavesAs archive) t) (sym f) l
left_flushed archive t (Ok n) ending false l f = subst (LeftByRun edit_lines (SavesAs archive) t) (sym f) l
left_flushed archive t (Err fault) ending written l f = subst (LeftByRun edit_lines (SavesAs archive) t) (sym f) l

-- flushing keeps the archive and the counts of a session
pub flushed_saves : (old : List ℕ) (e : EditedArchive) (outcome : Result Count RunFault) (written : Bool) → SavesEdits old e
    → IsFlushed e.outcome written outcome → SavesEdits old (record { archive = e.archive; outcome = outcome })
flushed_saves old e outcome written s f = (s.0, s.1, left_flushed e.archive s.0 e.outcome outcome written s.2 f)

archived : (archive : Result (Vec ℕ Global) SaveRefusal) (t : Tree) → SavesAs archive t → IfOk archive (λ bytes. IsArchive bytes.items)
archived (Ok bytes) t s = ∣ (t, s.0.accepted) ∣₁
archived (Err refusal) t s = tt

left_by : (Leaves : Tree → Type 0) (t : Tree) (r : Result Count RunFault) → LeftByRun edit_lines Leaves t r → (u : Tree) × Leaves u
left_by Leaves t (Ok n) l = (after_all edit_lines t l.said, l.leaves)
left_by Leaves t (Err fault) l = (after_all edit_lines t l.said, l.leaves)

-- what was saved is an archive
pub saves_archive : (old : List ℕ) (e : EditedArchive) → SavesEdits old e → IfOk e.archive (λ bytes. IsArchive bytes.items)
saves_archive old e s = let u = left_by (SavesAs e.archive) s.0 e.outcome s.2 in archived e.archive u.0 u.1

relaxed : (P Q : Tree → Type 0) (t : Tree) (lines edits : ℕ) → ((u : Tree) → P u → Q u) → LeftByLines edit_lines P t lines edits → LeftByLines edit_lines Q t lines edits
relaxed P Q t lines edits f l =
    record { texts = l.texts; said = l.said; say = l.say; count = l.count; leaves = f (after_all edit_lines t l.said) l.leaves; edits_counted = l.edits_counted }

-- the first fault of a session is how it ends
ends_session : (archive : Result (Vec ℕ Global) SaveRefusal) (t : Tree) (r : Result Count RunFault) (new is_due written : Bool) (path : String Global)
    (ending : Result (Unit {0}) Fault)
    → LeftByRun edit_lines (SavesAs archive) t r
    → is_due ≡ due new (edits_told r)
    → IsFirstEditFault r archive is_due written path ending
    → EndsSession new t path ending
ends_session archive t (Err fault) new is_due written path ending l d f =
    subst (EndsSession new t path) (sym f) (relaxed _ _ t fault.lines fault.edits (λ u s. tt) l)
ends_session archive t (Ok n) new false written path (Ok done) l d f = (n.lines, n.edits, relaxed _ _ t n.lines n.edits (λ u s is. absurd (cc)) l)
ends_session archive t (Ok n) new false written path (Err fault) l d f = absurd (cc)
ends_session (Err refusal) t (Ok n) new true written path ending l d f =
    subst (EndsSession new t path) (sym f) (n.lines, n.edits, relaxed _ _ t n.lines n.edits (λ u s. (sym d, s)) l)
ends_session (Ok bytes) t (Ok n) new true true path (Ok done) l d f =
    (n.lines, n.edits, relaxed _ _ t n.lines n.edits (λ u s is. ((bytes.items, s.0), s.1)) l)
ends_session (Ok bytes) t (Ok n) new true true path (Err fault) l d f = absurd (cc)
ends_session (Ok bytes) t (Ok n) new true false path ending l d f =
    subst (EndsSession new t path) (sym f) (refl, (n.lines, n.edits, relaxed _ _ t n.lines n.edits (λ u s. (sym d, ((bytes.items, s.0), s.1))) l))

edits_by : (bytes : List ℕ) (t : Tree) (new : Bool) (path : String Global) (ending : Result (Unit {0}) Fault) → Accepted bytes t → EndsSession new t path ending
    → EditsFile bytes new path ending
edits_by bytes t new path (Ok done) a h = (t, a, h)
edits_by bytes t new path (Err Usage) a h = absurd h
edits_by bytes t new path (Err (CannotRead other)) a h = absurd h
edits_by bytes t new path (Err (CannotWrite other)) a h = (t, a, h)
edits_by bytes t new path (Err (Text refusal)) a h = absurd h
edits_by bytes t new path (Err (Save refusal)) a h = (t, a, h)
edits_by bytes t new path (Err (Open refusal)) a h = absurd h
edits_by bytes t new path (Err (Run fault)) a h = (t, a, h)

-- whether no file was read
pub none_read : {A : Type 0} (read : Option A) (told : Bool) → is_some read ≡ not told → told ≡ is_none read
none_read None true h = refl
none_read None false h = absurd (cc)
none_read (Some m) true h = absurd (cc)
none_read (Some m) false h = refl

pub edits_file : (bytes : List ℕ) (e : EditedArchive) (new is_due written : Bool) (path : String Global) (ending : Result (Unit {0}) Fault)
    → SavesEdits bytes e
    → is_due ≡ due new (edits_told e.outcome)
    → IsFirstEditFault e.outcome e.archive is_due written path ending
    → EditsFile bytes new path ending
edits_file bytes e new is_due written path ending s d f =
    edits_by bytes s.0 new path ending s.1 (ends_session e.archive s.0 e.outcome new is_due written path ending s.2 d f)

-- how editing the bytes of a file ends is how editing the file does
pub ends_edit : (bytes : List ℕ) (path : String Global) (ending : Result (Unit {0}) Fault) → EditsFile bytes false path ending → EndsEdit path ending
ends_edit bytes path (Ok done) h = (bytes, h)
ends_edit bytes path (Err Usage) h = absurd h.2
ends_edit bytes path (Err (CannotRead other)) h = absurd h.2
ends_edit bytes path (Err (CannotWrite other)) h = (bytes, h)
ends_edit bytes path (Err (Text refusal)) h = absurd h.2
ends_edit bytes path (Err (Save refusal)) h = (bytes, h)
ends_edit bytes path (Err (Open refusal)) h = (bytes, h)
ends_edit bytes path (Err (Run fault)) h = (bytes, h)

-- and of the image of a new document how making its archive does
pub ends_new : (bytes : List ℕ) (path : String Global) (r : NewRoot) (ending : Result (Unit {0}) Fault) → Image (root_tree r) bytes → EditsFile bytes true path ending
    → EndsNew path r ending
ends_new bytes path r (Ok done) i h = subst (λ t. EndsSession true t path (Ok done)) (one_document_law bytes h.0 (root_tree r) h.1 i.accepted) h.2
ends_new bytes path r (Err Usage) i h = absurd h.2
ends_new bytes path r (Err (CannotRead other)) i h = absurd h.2
ends_new bytes path r (Err (CannotWrite other)) i h = h.2.0
ends_new bytes path r (Err (Text refusal)) i h = absurd h.2
ends_new bytes path r (Err (Save refusal)) i h =
    inr (subst (λ t. EndsSession true t path (Err (Save refusal))) (one_document_law bytes h.0 (root_tree r) h.1 i.accepted) h.2)
ends_new bytes path r (Err (Open refusal)) i h = accepted_is_not_refused_law bytes (root_tree r) (refusal_of refusal) i.accepted h
ends_new bytes path r (Err (Run fault)) i h = subst (λ t. EndsSession true t path (Err (Run fault))) (one_document_law bytes h.0 (root_tree r) h.1 i.accepted) h.2
