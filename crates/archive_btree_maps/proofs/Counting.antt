-- Checks that count items, of the parts of a tree.
use Rattle.std.proofs.Common.{◌≡◌, ◌≢◌, ℕ, suc, ◌+◌, ◌-◌, ◌^◌, min, List, [], ◌∷◌, ◌++◌, Ok, Err, Result, refl, sym, ap, subst, ◌∙◌, arith, append-nil}
use Rattle.archive_shape_layout.specs.Value.{count_values}
use Rattle.archive_shape_layout.specs.Value.Value.{group}
use Rattle.archive_shape_layout.specs.Value.Values.{no_values, more_values}
use Rattle.archive_shape_layout.specs.Content.{Names, Part, content_of, made, members, children}
use Rattle.archive_shape_layout.specs.Content.Part.{child}
use Rattle.archive_shape_layout.specs.Shape.{Shape}
use Rattle.archive_shape_layout.specs.Content.Label.{same, whole}
use Rattle.archive_shape_layout.specs.Content.Content.{plain}
use Rattle.archive_shape_layout.specs.Holds.{Visit, OpenShared, Ascends, end_after}
use Rattle.archive_shape_layout.specs.Holds.Holds.{holds_plain}
use Rattle.archive_shape_layout.specs.Holds.HoldAll.{holds_none, holds_more}
use Rattle.archive_shape_layout.proofs.Ascent.{Ascends-append, end_after-append}
use Rattle.archive_shape.specs.Accepts.{NestsBelow}
use Rattle.archive_shape.specs.Questions.{AreAnswered, FirstUnanswered, questions_of}
use Rattle.archive_shape.specs.PartFault.{PartFault, PartsFault}
use Rattle.archive_shape.specs.PartFault.PartFault.{fault_plain, fault_unanswered}
use Rattle.archive_shape.specs.PartFault.PartsFault.{fault_here}
use Rattle.archive_shape.specs.Kept.{Kept, Records, range_of, started_again}
use Rattle.archive_shape.specs.Checks.{Checked, CheckedAll}
use Rattle.archive_shape_layout.specs.declared.error.Error.{Error}
use Rattle.archive_shape_layout.specs.declared.error.Error.TheVariants.{OutOfMemory}
use Rattle.archive_shape.proofs.Ranges.{NestsBelow-append}
use Rattle.archive_shape.proofs.Ordered.{later_fault}
use Rattle.archive_forms_values.specs.Claims.{as_usize}
use Rattle.archive_btree_maps.specs.Counts.{Counted, CountedAll, Counts, CountsAll, count_each}

-- ---- a part that is refused

module _ (names : Names) (bytes : List ℕ) (p : Part) (k l : Kept) where
  pub count_refused : (r : Result ℕ Error) (e : Error) → r ≡ Err e → ((inside : List OpenShared) (before : List Visit) → Records k.seen inside before → e ≢ OutOfMemory → PartFault names bytes inside before p (range_of k) e) → Counts names bytes p k r l
  count_refused r e is f inside before records = rw is (f inside before records)

  pub count_unanswered : (r : Result ℕ Error) (e : Error) → r ≡ Err e → (e ≢ OutOfMemory → FirstUnanswered (range_of k) e (questions_of names bytes p)) → Counts names bytes p k r l
  count_unanswered r e is f = count_refused r e is (λ inside before records other. fault_unanswered (f other))

-- ---- a pointer to a child

module _ (names : Names) (bytes : List ℕ) (p : Part) where
  -- it has none
  pub none_counted : (k : Kept) → content_of names bytes p ≡ plain whole [] → Counts names bytes p k (Ok 0) k
  unfolding made Ascends end_after NestsBelow
  none_counted k is inside before records = record {
    checked = record {
      passes = record { value = group no_values; regions = []; after = before; accepts = record { holds = holds_plain is tt (holds_none refl refl refl) refl; ascends = tt; nests = tt } };
      seen = k.seen;
      moves = refl;
      records = records;
    };
    count = omega arith;
  }

  -- the check of the child is that of the pointer
  pub child_counted :
      (q : Part) (k l : Kept) (r : Result ℕ Error)
      → content_of names bytes p ≡ plain same (q ∷ [])
      → AreAnswered (range_of k) (questions_of names bytes p)
      → Counts names bytes q k r l
      → Counts names bytes p k r l
  unfolding made
  child_counted q k l (Ok n) is asked h inside before records =
      let below = h inside before records in
      let held = below.checked.passes.accepts in
      record {
        checked = record {
          passes = record {
            value = below.checked.passes.value;
            regions = below.checked.passes.regions;
            after = below.checked.passes.after;
            accepts = record {
              holds = holds_plain is tt (holds_more held.holds (holds_none refl refl refl) refl (sym (append-nil below.checked.passes.regions))) refl;
              ascends = held.ascends;
              nests = held.nests;
            };
          };
          seen = below.checked.seen;
          moves = below.checked.moves;
          records = below.checked.records;
        };
        count = below.count;
      }
  child_counted q k l (Err e) is asked h inside before records = λ other. fault_plain asked is (fault_here (h inside before records other))

-- ---- children in order

pub children_next : (n m level most : ℕ) (k v : Shape) (pos : ℕ) → n ≡ suc m → children n level most k v pos ≡ child level most k v pos ∷ children m level most k v (pos + 4)
unfolding children
children_next n m level most k v pos e = rw e

pub children_none : (n level most : ℕ) (k v : Shape) (pos : ℕ) → n ≡ 0 → children n level most k v pos ≡ []
unfolding children
children_none n level most k v pos e = rw e

module _ (names : Names) (bytes : List ℕ) (inside : List OpenShared) where
  -- the values of parts in order
  more_counted :
      (before : List Visit) {p : Part} {ps : List Part} {k l m : Kept} (h : Checked names bytes inside before p k l) (i : CheckedAll names bytes inside h.passes.after ps l m)
      → (c : CheckedAll names bytes inside before (p ∷ ps) k m) × (c.passes.values ≡ more_values h.passes.value i.passes.values)
  more_counted before {p} {ps} {k} {l} {m} h i =
      subst (λ x. (j : CheckedAll names bytes inside h.passes.after ps x m) → j.passes.values ≡ i.passes.values → (c : CheckedAll names bytes inside before (p ∷ ps) k m) × (c.passes.values ≡ more_values h.passes.value i.passes.values)) (sym h.moves)
      (λ j alike. (
        record {
          passes = record {
            values = more_values h.passes.value j.passes.values;
            regions = h.passes.regions ++ j.passes.regions;
            after = j.passes.after;
            accepts = record {
              all = holds_more h.passes.accepts.holds j.passes.accepts.all refl refl;
              ascends = (Ascends-append k.start k.end h.passes.regions j.passes.regions).1 (h.passes.accepts.ascends, j.passes.accepts.ascends);
              nests = NestsBelow-append k.most h.passes.regions j.passes.regions h.passes.accepts.nests j.passes.accepts.nests;
            };
          };
          seen = j.seen;
          moves = j.moves ∙ ap (λ n. started_again k n j.seen) (sym (end_after-append k.start h.passes.regions j.passes.regions));
          records = j.records;
        },
        ap (more_values h.passes.value) alike,
      ))
      i refl

  module _ (before : List Visit) (all : List Part) (k : Kept) where
    -- what is left of parts decides them all, and n items were counted
    pub record CountLeft (mid : List Visit) (rest : List Part) (l : Kept) (n : ℕ) : Type 0 where
      pub so_far : ℕ
      pub told : n ≡ as_usize so_far
      pub checked : (m : Kept) (h : CheckedAll names bytes inside mid rest l m) → (c : CheckedAll names bytes inside before all k m) × (count_each c.passes.values ≡ so_far + count_each h.passes.values)
      pub fault : (e : Error) → PartsFault names bytes inside mid rest (range_of l) e → PartsFault names bytes inside before all (range_of k) e

    pub all_count_left : (rest : List Part) → rest ≡ all → CountLeft before rest k 0
    all_count_left rest alike = record {
      so_far = 0;
      told = omega arith;
      checked = λ m h. subst (λ ps. (c : CheckedAll names bytes inside before ps k m) × (count_each c.passes.values ≡ 0 + count_each h.passes.values)) alike (h, omega arith);
      fault = λ e f. subst (λ ps. PartsFault names bytes inside before ps (range_of k) e) alike f;
    }

    module _ {mid : List Visit} {left : List Part} {l : Kept} {n : ℕ} (h : CountLeft mid left l n) where
      pub one_counted :
          {p : Part} {rest : List Part} {m : Kept} {more sum : ℕ} → left ≡ p ∷ rest → (i : Counted names bytes inside mid p l m more) → sum ≡ min (n + more) (2 ^ 64 - 1)
          → CountLeft i.checked.passes.after rest m sum
      one_counted {p} {rest} {m} {more} {sum} is i adds = record {
        so_far = h.so_far + count_values (members i.checked.passes.value);
        told = omega (arith, h.told, i.count, adds);
        checked = λ o j.
            let joined = more_counted mid i.checked j in
            let whole_list = subst (λ ps. (x : CheckedAll names bytes inside mid ps l o) → x.passes.values ≡ more_values i.checked.passes.value j.passes.values → (c : CheckedAll names bytes inside before all k o) × (count_each c.passes.values ≡ h.so_far + (count_values (members i.checked.passes.value) + count_each j.passes.values))) is
            (λ x alike. let c = h.checked o x in (c.0, c.1 ∙ ap (λ vs. h.so_far + count_each vs) alike)) joined.0 joined.1 in
            (whole_list.0, whole_list.1 ∙ omega arith);
        fault = λ e f. h.fault e (subst (λ ps. PartsFault names bytes inside mid ps (range_of l) e) (sym is) (later_fault names bytes inside mid i.checked f));
      }

      pub first_count_fault : {p : Part} {rest : List Part} {e : Error} → left ≡ p ∷ rest → PartFault names bytes inside mid p (range_of l) e → PartsFault names bytes inside before all (range_of k) e
      first_count_fault {p} {rest} {e} is f = h.fault e (subst (λ ps. PartsFault names bytes inside mid ps (range_of l) e) (sym is) (fault_here f))

      nothing : (until : List Visit) → Records l.seen inside until → CheckedAll names bytes inside until [] l l
      unfolding Ascends end_after NestsBelow
      nothing until records = record {
        passes = record { values = no_values; regions = []; after = until; accepts = record { all = holds_none refl refl refl; ascends = tt; nests = tt } };
        seen = l.seen;
        moves = refl;
        records = records;
      }

      pub none_count_left : left ≡ [] → Records l.seen inside mid → CountedAll names bytes inside before all k l n
      unfolding nothing
      none_count_left is records =
          let whole_list = subst (λ ps. (x : CheckedAll names bytes inside mid ps l l) → x.passes.values ≡ no_values → (c : CheckedAll names bytes inside before all k l) × (count_each c.passes.values ≡ h.so_far + 0)) is
          (λ x alike. let c = h.checked l x in (c.0, c.1 ∙ ap (λ vs. h.so_far + count_each vs) alike)) (nothing mid records) refl in
          record { checked = whole_list.0; count = let items = whole_list.1 in omega (arith, h.told, items) }

pub all_count_refused :
    (names : Names) (bytes : List ℕ) (ps : List Part) (k l : Kept) (r : Result ℕ Error) (e : Error)
    → r ≡ Err e
    → ((inside : List OpenShared) (before : List Visit) → Records k.seen inside before → e ≢ OutOfMemory → PartsFault names bytes inside before ps (range_of k) e)
    → CountsAll names bytes ps k r l
all_count_refused names bytes ps k l r e is f inside before records = rw is (f inside before records)
