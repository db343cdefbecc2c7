-- Parts that are checked in order.
use Rattle.std.proofs.Common.{◌≡◌, ◌≢◌, ℕ, suc, ◌+◌, ◌*◌, ◌≤◌, List, [], ◌∷◌, ◌++◌, Result, Err, refl, sym, ap, subst, ◌∙◌, arith}
use Rattle.archive_shape_layout.specs.Shape.{Shape, size_of}
use Rattle.archive_shape_layout.specs.Value.Values.{no_values, more_values}
use Rattle.archive_shape_layout.specs.Content.{Names, Part, elements}
use Rattle.archive_shape_layout.specs.Content.Part.{at}
use Rattle.archive_shape_layout.specs.Holds.{Visit, OpenShared, Ascends, end_after}
use Rattle.archive_shape_layout.specs.Holds.HoldAll.{holds_none, holds_more}
use Rattle.archive_shape_layout.proofs.Ascent.{Ascends-append, end_after-append}
use Rattle.archive_shape.specs.Accepts.{NestsBelow}
use Rattle.archive_shape.specs.PartFault.{PartFault, PartsFault}
use Rattle.archive_shape.specs.PartFault.PartsFault.{fault_here, fault_later}
use Rattle.archive_shape.specs.Kept.{Kept, Records, range_of, started_again, Advances, IsWithin}
use Rattle.archive_shape.specs.Checks.{Checked, CheckedAll, ChecksAll}
use Rattle.archive_shape_layout.specs.declared.error.Error.{Error}
use Rattle.archive_shape_layout.specs.declared.error.Error.TheVariants.{OutOfMemory}
use Rattle.archive_shape.proofs.Ranges.{NestsBelow-append}
use Rattle.archive_shape.specs.Steps.{Narrower}

-- ---- what is kept

pub advances_then : {k l m : Kept} → Advances k l → Advances l m → Advances k m
advances_then {k} {l} {m} h i =
    record { begins = omega (arith, h.begins, i.begins); ordered = i.ordered; frame = i.frame ∙ ap (λ (x : Kept). started_again x m.start m.seen) h.frame }

pub advances_within : {k l : Kept} (n : ℕ) → IsWithin k n → Advances k l → IsWithin l n
advances_within {k} {l} n h i =
    record { ordered = i.ordered; covered = omega (arith, ap (λ (x : Kept). x.end) i.frame, h.covered) }

pub advances_narrow : {k l : Kept} → Advances k l → Narrower k l 0
advances_narrow {k} {l} h =
    record { begins = h.begins; ends = omega (arith, ap (λ (x : Kept). x.end) h.frame); ordered = h.ordered }

-- ---- parts in order

pub all_refused :
    (names : Names) (bytes : List ℕ) (ps : List Part) (k l : Kept) (r : Result (Unit {0}) Error) (e : Error)
    → r ≡ Err e
    → ((inside : List OpenShared) (before : List Visit) → Records k.seen inside before → e ≢ OutOfMemory → PartsFault names bytes inside before ps (range_of k) e)
    → ChecksAll names bytes ps k r l
all_refused names bytes ps k l r e is f inside before records = rw is (f inside before records)

module _ (names : Names) (bytes : List ℕ) (inside : List OpenShared) where
  pub none_checked : (before : List Visit) (k : Kept) → Records k.seen inside before → CheckedAll names bytes inside before [] k k
  unfolding Ascends end_after NestsBelow
  none_checked before k records = record {
    passes = record { values = no_values; regions = []; after = before; accepts = record { all = holds_none refl refl refl; ascends = tt; nests = tt } };
    seen = k.seen;
    moves = refl;
    records = records;
  }

  module _ (before : List Visit) {p : Part} {k l : Kept} (h : Checked names bytes inside before p k l) where
    -- what is known of the context
    pub checked_records : Records l.seen inside h.passes.after
    checked_records = subst (λ seen. Records seen inside h.passes.after) (sym (ap (λ (x : Kept). x.seen) h.moves)) h.records

    pub more_checked : {ps : List Part} {m : Kept} → CheckedAll names bytes inside h.passes.after ps l m → CheckedAll names bytes inside before (p ∷ ps) k m
    more_checked {ps} {m} i = joined (subst (λ x. CheckedAll names bytes inside h.passes.after ps x m) h.moves i)
      where
        joined : CheckedAll names bytes inside h.passes.after ps (started_again k (end_after k.start h.passes.regions) h.seen) m → CheckedAll names bytes inside before (p ∷ ps) k m
        joined j = record {
          passes = record {
            values = more_values h.passes.value j.passes.values;
            regions = h.passes.regions ++ j.passes.regions;
            after = j.passes.after;
            accepts = record {
              all = holds_more h.passes.accepts.holds j.passes.accepts.all refl refl;
              ascends = (Ascends-append k.start k.end h.passes.regions j.passes.regions).1 (h.passes.accepts.ascends, j.passes.accepts.ascends);
              nests = NestsBelow-append k.most h.passes.regions j.passes.regions h.passes.accepts.nests j.passes.accepts.nests;
            };
          };
          seen = j.seen;
          moves = j.moves ∙ ap (λ n. started_again k n j.seen) (sym (end_after-append k.start h.passes.regions j.passes.regions));
          records = j.records;
        }

    pub later_fault : {ps : List Part} {e : Error} → PartsFault names bytes inside h.passes.after ps (range_of l) e → PartsFault names bytes inside before (p ∷ ps) (range_of k) e
    later_fault {ps} {e} f =
        fault_later h.passes (subst (λ x. PartsFault names bytes inside h.passes.after ps (range_of x) e) h.moves f)

-- one alone
pub one_checked : (names : Names) (bytes : List ℕ) (inside : List OpenShared) (before : List Visit) {p : Part} {k l : Kept} → Checked names bytes inside before p k l → CheckedAll names bytes inside before (p ∷ []) k l
one_checked names bytes inside before {l = l} h =
    more_checked names bytes inside before h (none_checked names bytes inside h.passes.after l (checked_records names bytes inside before h))

-- ---- what is left of parts decides them all

module _ (names : Names) (bytes : List ℕ) (inside : List OpenShared) (before : List Visit) (all : List Part) (k : Kept) where
  pub record Left (mid : List Visit) (rest : List Part) (l : Kept) : Type 0 where
    pub checked : (m : Kept) → CheckedAll names bytes inside mid rest l m → CheckedAll names bytes inside before all k m
    pub fault : (e : Error) → PartsFault names bytes inside mid rest (range_of l) e → PartsFault names bytes inside before all (range_of k) e

  pub all_left : (rest : List Part) → rest ≡ all → Left before rest k
  all_left rest same = record {
    checked = λ m h. subst (λ ps. CheckedAll names bytes inside before ps k m) same h;
    fault = λ e f. subst (λ ps. PartsFault names bytes inside before ps (range_of k) e) same f;
  }

  module _ {mid : List Visit} {whole : List Part} {l : Kept} (left : Left mid whole l) where
    pub one_less : {p : Part} {rest : List Part} {m : Kept} → whole ≡ p ∷ rest → (h : Checked names bytes inside mid p l m) → Left h.passes.after rest m
    one_less {p} {rest} {m} is h = record {
      checked = λ n i. left.checked n (subst (λ ps. CheckedAll names bytes inside mid ps l n) (sym is) (more_checked names bytes inside mid h i));
      fault = λ e f. left.fault e (subst (λ ps. PartsFault names bytes inside mid ps (range_of l) e) (sym is) (later_fault names bytes inside mid h f));
    }

    pub first_fault : {p : Part} {rest : List Part} {e : Error} → whole ≡ p ∷ rest → PartFault names bytes inside mid p (range_of l) e → PartsFault names bytes inside before all (range_of k) e
    first_fault {p} {rest} {e} is f = left.fault e (subst (λ ps. PartsFault names bytes inside mid ps (range_of l) e) (sym is) (fault_here f))

    pub none_left : whole ≡ [] → Records l.seen inside mid → CheckedAll names bytes inside before all k l
    none_left is records = left.checked l (subst (λ ps. CheckedAll names bytes inside mid ps l l) (sym is) (none_checked names bytes inside mid l records))

-- ---- elements

pub elements_next : (pos n m : ℕ) (s : Shape) → n ≡ suc m → elements pos n s ≡ at pos s ∷ elements (pos + size_of s) m s
unfolding elements
elements_next pos n m s e = rw e

pub elements_none : (pos n : ℕ) (s : Shape) → n ≡ 0 → elements pos n s ≡ []
unfolding elements
elements_none pos n s e = rw e

-- the next element lies within the bytes, and the others after it
pub element_fits : (pos n m size len : ℕ) → n ≡ suc m → pos + n * size ≤ len → (pos + size ≤ len) × (pos + size + m * size ≤ len)
element_fits pos n m size len e h =
    let next : n * size ≡ size + m * size = ap (λ x. x * size) e ∙ omega arith in
    (omega arith, omega arith)
