-- What is written as a root is the one archive of its value.
use Rattle.std.proofs.Common.{true, ◌≡◌, ℕ, ◌+◌, ◌-◌, ◌%◌, ◌*◌, ◌<◌, List, [], ◌∷◌, length, sym, ap, subst, ◌∙◌, arith, slice_index, Some, inr, ⊎_elim}
use Rattle.std.proofs.lemmas.Bool.{cases_lt}
use Rattle.std.proofs.lemmas.List.{take_all, get_or_past}
use Rattle.archive_shape_layout.specs.Shape.{Shape, size_of, align_of}
use Rattle.archive_shape_layout.specs.Value.{Value}
use Rattle.archive_shape_layout.specs.Content.{Names}
use Rattle.archive_shape_layout.specs.Holds.{Ascends, root_position}
use Rattle.archive_shape_canonical.specs.Settled.{Fit}
use Rattle.archive_shape_canonical.specs.Sharing.{AreDistinct, AllDiffer, erased}
use Rattle.archive_shape_canonical.specs.Canonical.{CanonicalArchive}
use Rattle.archive_shape_canonical.proofs.One.{one_archive_law}
use Rattle.archive_shape.specs.Bytes.{HasBytes}
use Rattle.archive_forms_laws.specs.State.{Met, Keys, SharedValue, IsConsistent, IsNewKey, HaveOwnKeys, AreKeyedBy, AreOneToOne, visits_of, initial}
use Rattle.archive_forms_laws.specs.Spelling.{Spelling}
use Rattle.archive_forms_laws.specs.Spells.{Spells}
use Rattle.archive_forms_laws.specs.Regions.{region_at, region_piece, region_fits}
use Rattle.archive_forms_laws.specs.Written.{IsArchive, IsWritten}
use Rattle.archive_forms_laws.specs.SpellingLaws.{WrittenOnce}
use Rattle.archive_forms_laws.proofs.Aligning.{starts_aligned}
use Rattle.archive_forms_laws.proofs.Regions.{boxed_canonical, region_end, region_bytes}

-- what was written under different keys differs, where no two keys denote one value
all_differ : (keys : Keys) (one : AreOneToOne keys) (m : Met) (ms : List Met) → IsNewKey m.key ms
    → keys m.key ≡ Some (record { pointee = m.visit.pointee; len = m.visit.len; value = erased m.visit.value })
    → AreKeyedBy keys ms → AllDiffer m.visit (visits_of ms)
all_differ keys one m [] new is n = tt
all_differ keys one m (o ∷ os) new is n =
    let a : SharedValue = record { pointee = m.visit.pointee; len = m.visit.len; value = erased m.visit.value } in
    let b : SharedValue = record { pointee = o.visit.pointee; len = o.visit.len; value = erased o.visit.value } in
    (λ e f. new.0 (sym (one m.key o.key a b is n.0 e f)), all_differ keys one m os new.1 is n.1)

pub are_distinct : (keys : Keys) (one : AreOneToOne keys) (ms : List Met) → HaveOwnKeys ms → AreKeyedBy keys ms → AreDistinct (visits_of ms)
are_distinct keys one [] k n = tt
are_distinct keys one (m ∷ ms) k n = (all_differ keys one m ms k.0 n.0 n.1, are_distinct keys one ms k.1 n.1)

-- what is written as a root, where nothing was written before, is the one archive of its value
pub is_written : {A R : Type 0} (fit : Fit) (s : Shape) (knows : Names → Type 0) (w : Spelling A R) (x : A) (names : Names) (keys : Keys) (bytes : List ℕ)
    → Spells fit s knows w → knows names → w.suits fit keys x → AreOneToOne keys
    → region_fits w s (x ∷ []) initial → bytes ≡ region_piece w s (x ∷ []) initial → IsWritten s w x fit names bytes
unfolding root_position
is_written fit s knows w x names keys bytes spells k n one f e =
    let piece = region_piece w s (x ∷ []) initial in
    let t = region_at w s (x ∷ []) initial in
    let state : IsConsistent initial = record { before = tt; descending = tt; own_keys = tt; new_keys = tt } in
    let same : length bytes ≡ length piece = ap length e in
    let stands : HasBytes bytes 0 piece = take_all (length piece) bytes (omega (arith, same)) ∙ e in
    let h = boxed_canonical fit s knows w x (spells x) initial names keys bytes 0 [] k n tt state tt f stands in
    let last = (spells x).consistent initial state f.0.0 in
    let told = (spells x).keyed keys initial n tt f.0.0 in
    let end : 0 + length piece ≡ t + 1 * size_of s = region_end fit s knows w (x ∷ []) (spells x, tt) initial f in
    let len : length bytes ≡ t + size_of s = omega (arith, same) in
    let aligned : t % align_of s ≡ 0 = starts_aligned s (0 + length (w.piece x initial)) in
    let before : length bytes - size_of s ≡ t = omega arith in
    let at : t ≡ (length bytes - size_of s) - (length bytes - size_of s) % align_of s = sym (ap (λ m. m - m % align_of s) before ∙ ap (λ r. t - r) aligned ∙ omega arith) in
    let whole : 0 + length piece ≡ length bytes = omega (arith, same) in
    let are = region_bytes fit s knows w (x ∷ []) (spells x, tt) initial f in
    let P : ℕ → Type 0 = λ pos. CanonicalArchive fit names bytes 0 pos s (w.value x initial) h.regions (visits_of (w.met x initial)) in
    record {
      archive = record {
        regions = h.regions;
        visits = visits_of (w.met x initial);
        canonical = subst P at (record {
          root = record { holds = h.reads.holds; ascends = subst (λ high. Ascends 0 high h.regions) whole h.ascends };
          canonical = h.reads.canonical;
          ends = h.reads.ends ∙ whole;
          gaps = λ i low. ⊎_elim (λ l. h.gaps i low (omega arith)) (λ g. inr (get_or_past bytes i 0 g)) (cases_lt i (length bytes));
          once = are_distinct keys one (w.met x initial) last.own_keys told.1;
          bytes_are = λ i. subst (λ l. slice_index l i < 256) (sym e) (are i);
        });
      };
      plain = told.0;
    }

pub written_once_law : WrittenOnce
written_once_law fit names bytes others s v u binds a b e = one_archive_law fit names bytes others 0 _ _ s v u _ _ _ _ binds a.canonical b.canonical e

-- any archive of the value that was written is the bytes that were written
pub written_once : {A R : Type 0} (s : Shape) (w : Spelling A R) (x : A) (fit : Fit) (names : Names) (bytes others : List ℕ) (v : Value)
    → fit.binds ≡ true → IsWritten s w x fit names bytes → IsArchive fit names others s v → erased v ≡ w.plain x → bytes ≡ others
written_once s w x fit names bytes others v binds h a e = written_once_law fit names bytes others s (w.value x initial) v binds h.archive a (h.plain ∙ sym e)
