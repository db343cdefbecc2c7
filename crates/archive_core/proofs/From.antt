-- What is written as a root, from any position on, is read there, and is the one archive of its value where no two keys
-- denote one shared value.
use Rattle.std.proofs.Common.{◌≡◌, ℕ, ◌+◌, ◌-◌, ◌%◌, ◌*◌, ◌<◌, ◌^◌, None, List, [], ◌∷◌, ◌++◌, take, length, length-append, sym, ap, subst, ◌∙◌, arith, inr, ⊎_elim}
use Rattle.std.proofs.lemmas.Bool.{cases_lt}
use Rattle.std.proofs.lemmas.List.{take_all, get_or_past}
use Rattle.std.proofs.Math.Seq.{drop-append_seam}
use Rattle.archive_shape_layout.specs.Shape.{Shape, size_of, align_of}
use Rattle.archive_shape_layout.specs.Content.{Names}
use Rattle.archive_shape_layout.specs.Holds.{Ascends, HasRoot, root_position}
use Rattle.archive_shape_canonical.specs.Settled.{Fit, free}
use Rattle.archive_shape_canonical.specs.Canonical.{CanonicalArchive, AreBytes}
use Rattle.archive_shape.specs.Bytes.{HasBytes}
use Rattle.archive_shape_layout.proofs.Evaluated.{ascends_lowered}
use Rattle.archive_forms_laws.specs.State.{State, Keys, IsConsistent, visits_of}
use Rattle.archive_forms_laws.specs.Spelling.{Spelling}
use Rattle.archive_forms_laws.specs.Spells.{Spells}
use Rattle.archive_forms_laws.specs.Regions.{region_at}
use Rattle.archive_forms_laws.proofs.Aligning.{starts_aligned}
use Rattle.archive_forms_laws.proofs.Regions.{boxed_canonical, region_end, region_bytes}
use Rattle.archive_forms_laws.proofs.Gaps.{bytes_append}
use Rattle.archive_forms_laws.proofs.Written.{are_distinct}
use Rattle.archive_core_validation.proofs.Unlimited.{unlimited_law}
use Rattle.archive_core.specs.Written.{from_position, IsWrittenFrom, IsAcceptedUnshared, root_piece, root_fits}

-- its own bytes end all, so they lie at the position of the root
pub root_at : {A R : Type 0} (fit : Fit) (s : Shape) (knows : Names → Type 0) (w : Spelling A R) (x : A) (front bytes : List ℕ) (start : ℕ)
    → Spells fit s knows w → root_fits s w x start → length front ≡ start → bytes ≡ front ++ root_piece s w x start
    → (length bytes ≡ region_at w s (x ∷ []) (from_position start) + size_of s) × (region_at w s (x ∷ []) (from_position start) ≡ root_position (length bytes) s)
unfolding root_position
root_at fit s knows w x front bytes start spells f long e =
    let st : State = from_position start in
    let piece = root_piece s w x start in
    let t = region_at w s (x ∷ []) st in
    let same : length bytes ≡ start + length piece = ap length e ∙ length-append front piece ∙ ap (λ m. m + length piece) long in
    let end : start + length piece ≡ t + 1 * size_of s = region_end fit s knows w (x ∷ []) (spells x, tt) st f in
    let len : length bytes ≡ t + size_of s = omega (arith, same, end) in
    let aligned : t % align_of s ≡ 0 = starts_aligned s (start + length (w.piece x st)) in
    let before : length bytes - size_of s ≡ t = omega (arith, len) in
    (len, sym (ap (λ m. m - m % align_of s) before ∙ ap (λ r. t - r) aligned ∙ omega arith))

-- and all that was written lies behind the front
pub root_stands : {A R : Type 0} (s : Shape) (w : Spelling A R) (x : A) (front bytes : List ℕ) (start : ℕ)
    → length front ≡ start → bytes ≡ front ++ root_piece s w x start → HasBytes bytes start (root_piece s w x start)
root_stands s w x front bytes start long e =
    let piece = root_piece s w x start in
    let P : List ℕ → Type 0 = λ bs. HasBytes bs start piece in
    let Q : ℕ → Type 0 = λ at. HasBytes (front ++ piece) at piece in
    subst P (sym e) (subst Q long (take_all_behind front piece))
  where
    take_all_behind : (xs ys : List ℕ) → HasBytes (xs ++ ys) (length xs) ys
    take_all_behind xs ys = ap (λ bs. take (length ys) bs) (drop-append_seam xs ys) ∙ take_all (length ys) ys (omega arith)

pub written_from : {A R : Type 0} (fit : Fit) (s : Shape) (knows : Names → Type 0) (w : Spelling A R) (x : A) (names : Names) (keys : Keys) (front bytes : List ℕ) (start : ℕ)
    → Spells fit s knows w → knows names → w.suits fit keys x
    → root_fits s w x start → length front ≡ start → AreBytes front → bytes ≡ front ++ root_piece s w x start → IsWrittenFrom start s w x fit names keys bytes
written_from fit s knows w x names keys front bytes start spells k n f long are_front e =
    let st : State = from_position start in
    let piece = root_piece s w x start in
    let t = region_at w s (x ∷ []) st in
    let state : IsConsistent st = record { before = tt; descending = tt; own_keys = tt; new_keys = tt } in
    let same : length bytes ≡ start + length piece = ap length e ∙ length-append front piece ∙ ap (λ m. m + length piece) long in
    let stands : HasBytes bytes start piece = root_stands s w x front bytes start long e in
    let h = boxed_canonical fit s knows w x (spells x) st names keys bytes 0 [] k n tt state tt f stands in
    let last = (spells x).consistent st state f.0.0 in
    let told = (spells x).keyed keys st n tt f.0.0 in
    let at = (root_at fit s knows w x front bytes start spells f long e).1 in
    let whole : start + length piece ≡ length bytes = sym same in
    let are = region_bytes fit s knows w (x ∷ []) (spells x, tt) st f in
    let all : AreBytes (front ++ piece) = bytes_append front piece are_front are in
    let v = w.value x st in
    let met = visits_of (w.met x st) in
    let has : HasRoot names bytes t s v h.regions met =
    record { holds = h.reads.holds; ascends = ascends_lowered 0 start (length bytes) h.regions (omega arith) (subst (λ high. Ascends start high h.regions) whole h.ascends) } in
    let P : ℕ → Type 0 = λ pos. HasRoot names bytes pos s v h.regions met in
    let C : ℕ → Type 0 = λ pos. CanonicalArchive fit names bytes start pos s v h.regions met in
    record {
      regions = h.regions;
      visits = met;
      root = subst P at has;
      plain = told.0;
      canonical = λ one. subst C at (record {
        root = has;
        canonical = h.reads.canonical;
        ends = h.reads.ends ∙ whole;
        gaps = λ i low. ⊎_elim (λ l. h.gaps i low (omega (arith, l, whole))) (λ g. inr (get_or_past bytes i 0 g)) (cases_lt i (length bytes));
        once = are_distinct keys one (w.met x st) last.own_keys told.1;
        bytes_are = subst AreBytes (sym e) all;
      });
    }

-- there are fewer than 2^64 bytes
short_from : {A R : Type 0} (fit : Fit) (s : Shape) (knows : Names → Type 0) (w : Spelling A R) (x : A) (front bytes : List ℕ) (start : ℕ)
    → Spells fit s knows w → root_fits s w x start → length front ≡ start → bytes ≡ front ++ root_piece s w x start → length bytes < 2 ^ 64
short_from fit s knows w x front bytes start spells f long e =
    let len = (root_at fit s knows w x front bytes start spells f long e).0 in
    let last = f.2.0.1 in
    omega (arith, len, last)

-- they are accepted where no value of the type holds a shared pointer
pub accepted_from : {A R : Type 0} (s : Shape) (knows : Names → Type 0) (w : Spelling A R) (x : A) (front bytes : List ℕ) (start : ℕ)
    → ((fit : Fit) → Spells fit s knows w)
    → root_fits s w x start → length front ≡ start → AreBytes front → bytes ≡ front ++ root_piece s w x start → IsAcceptedUnshared s knows bytes
accepted_from s knows w x front bytes start spells f long are e none names known =
    let keys : Keys = λ key. None in
    let made = written_from free s knows w x names keys front bytes start (spells free) known ((spells free x).unshared none keys) f long are e in
    unlimited_law names bytes s (root_position (length bytes) s) _ made.regions made.visits (short_from free s knows w x front bytes start (spells free) f long e) made.root
