-- Whether a write failed while a view of an archive was written.
use Rattle.std.proofs.Common.{◌≡◌, ℕ, ◌+◌, Bool, true, false, List, Ok, Err, subst}
use Rattle.std.specs.Prelude.{String, Result, MatchResult}
use Rattle.std.specs.declared.alloc.Global.{Global}
use Rattle.archive_shape_layout.specs.Writing.{WriterMembers, IsCounted}
use Rattle.archive_shape_layout.specs.declared.error.Error.{Error}
use Rattle.cabinet.specs.declared.fault.Fault.{Fault}
use Rattle.cabinet.specs.declared.fault.Fault.TheVariants.{Usage, CannotRead, CannotWrite, Text, Save, Open, Run}
use Rattle.cab_files.specs.Showing.{WritesView, EndsPrinting, EndsShow}
use Rattle.cab_files.specs.declared.showing.archive.View.{View}
use Rattle.cab_files.specs.declared.showing.archive.View.TheVariants as view

one_more : (counts : Bool) (old new : ℕ) (e : Error) → counts ≡ true → IsCounted counts old new e → new ≡ old + 1
one_more true old new e is h = h
one_more false old new e is h = absurd (cc)

pub counted : {W : Type 0} (w : WriterMembers W) (bytes : List ℕ) (v : View) (early late : W) (written : Result (Unit {0}) Error) → w.COUNTS ≡ true
    → WritesView w bytes v early late (Ok written)
    → MatchResult written (λ _. w.failures late ≡ w.failures early) (λ _. w.failures late ≡ w.failures early + 1)
counted w bytes view.Text early late (Ok u) counts h = h.2.is_quiet
counted w bytes view.Text early late (Err e) counts h = one_more w.COUNTS (w.failures early) (w.failures late) e counts h.2.is_counted
counted w bytes (view.Map lines characters) early late (Ok u) counts h = h.1.2.is_quiet
counted w bytes (view.Map lines characters) early late (Err e) counts h = one_more w.COUNTS (w.failures early) (w.failures late) e counts h.1.2.is_counted

-- where all was written, no write failed
pub unfailing : {W : Type 0} (w : WriterMembers W) (bytes : List ℕ) (v : View) (early late : W) (written : Result (Unit {0}) Error) (u : Unit {0}) → w.COUNTS ≡ true
    → written ≡ Ok u → WritesView w bytes v early late (Ok written) → w.failures late ≡ w.failures early
unfailing w bytes v early late written u counts is h = counted w bytes v early late (Ok u) counts (subst (λ r. WritesView w bytes v early late (Ok r)) is h)

-- and one did where the error of one is returned
pub failing : {W : Type 0} (w : WriterMembers W) (bytes : List ℕ) (v : View) (early late : W) (written : Result (Unit {0}) Error) (e : Error) → w.COUNTS ≡ true
    → written ≡ Err e → WritesView w bytes v early late (Ok written) → w.failures late ≡ w.failures early + 1
failing w bytes v early late written e counts is h = counted w bytes v early late (Err e) counts (subst (λ r. WritesView w bytes v early late (Ok r)) is h)

-- how printing a view ends is how showing its file does
pub ends_show : (bytes : List ℕ) (path : String Global) (early late : ℕ) (ending : Result (Unit {0}) Fault) → EndsPrinting bytes path early late ending → EndsShow path ending
ends_show bytes path early late (Ok done) h = (bytes, h.0)
ends_show bytes path early late (Err Usage) h = absurd h
ends_show bytes path early late (Err (CannotRead other)) h = absurd h
ends_show bytes path early late (Err (Text refusal)) h = absurd h
ends_show bytes path early late (Err (Save refusal)) h = absurd h
ends_show bytes path early late (Err (Open refusal)) h = (bytes, h.0)
ends_show bytes path early late (Err (Run fault)) h = absurd h
ends_show bytes path early late (Err (CannotWrite other)) h = h.0
