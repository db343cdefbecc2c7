-- Two lists of parts, one checked after the other.
use Rattle.std.proofs.Common.{◌≡◌, ℕ, List, [], ◌∷◌, ◌++◌, refl, sym, ap, subst, ◌∙◌}
use Rattle.std.proofs.lemmas.List.{append_assoc}
use Rattle.archive_shape_layout.specs.Value.{Values, append_values}
use Rattle.archive_shape_layout.specs.Content.{Names, Part}
use Rattle.archive_shape_layout.specs.Holds.{Region, Visit, OpenShared, HoldAll, Ascends, end_after}
use Rattle.archive_shape_layout.specs.Holds.HoldAll.{holds_none, holds_more}
use Rattle.archive_shape_layout.proofs.Ascent.{Ascends-append, end_after-append}
use Rattle.archive_shape.specs.Range.{Range, started_at}
use Rattle.archive_shape.specs.Accepts.{NestsBelow, range_after}
use Rattle.archive_shape.specs.PartFault.{PartsFault}
use Rattle.archive_shape.specs.PartFault.PartsFault.{fault_here, fault_later}
use Rattle.archive_shape.specs.Kept.{Kept, Records, range_of, started_again}
use Rattle.archive_shape.specs.Checks.{CheckedAll}
use Rattle.archive_shape_layout.specs.declared.error.Error.{Error}
use Rattle.archive_shape.proofs.Ranges.{NestsBelow-append, NestsBelow-split}

module _ (names : Names) (bytes : List ℕ) (inside : List OpenShared) (qs : List Part) where
  hold_joined :
      (ps : List Part) {level : ℕ} {vs ws : Values} {here there : List Region} {before mid after : List Visit}
      → HoldAll names bytes level inside ps vs here before mid
      → HoldAll names bytes level inside qs ws there mid after
      → HoldAll names bytes level inside (ps ++ qs) (append_values vs ws) (here ++ there) before after
  hold_joined [] {level} {vs} {ws} {here} {there} {before} {mid} {after} (holds_none e f g) i =
      subst (λ x. HoldAll names bytes level inside qs (append_values x ws) (here ++ there) before after) (sym e)
      (subst (λ x. HoldAll names bytes level inside qs ws (x ++ there) before after) (sym f)
      (subst (λ x. HoldAll names bytes level inside qs ws there x after) g i))
  hold_joined (p ∷ ps) {ws = ws} {there = there} (holds_more {here = first} {later = later} h all e f) i =
      holds_more h (hold_joined ps all i) (ap (λ x. append_values x ws) e) (ap (λ x. x ++ there) f ∙ append_assoc first later there)

  -- a fault of the first ones is one of all
  pub first_list : (ps : List Part) {before : List Visit} {k : Range} {e : Error} → PartsFault names bytes inside before ps k e → PartsFault names bytes inside before (ps ++ qs) k e
  first_list [] f = elim f [ ]
  first_list (p ∷ ps) (fault_here f) = fault_here f
  first_list (p ∷ ps) (fault_later q f) = fault_later q (first_list ps f)

  fault_behind :
      (ps : List Part) {vs : Values} {regions : List Region} {before mid : List Visit} {e : Error} (k : Range)
      → HoldAll names bytes k.level inside ps vs regions before mid
      → Ascends k.start k.end regions
      → NestsBelow k.most regions
      → PartsFault names bytes inside mid qs (range_after k regions) e
      → PartsFault names bytes inside before (ps ++ qs) k e
  unfolding end_after
  fault_behind [] {before = before} {mid = mid} {e = e} k (holds_none a b c) ascends nests f =
      subst (λ x. PartsFault names bytes inside x qs k e) c
      (subst (λ x. PartsFault names bytes inside mid qs (range_after k x) e) b f)
  fault_behind (p ∷ ps) {mid = mid} {e = e} k (holds_more {v = v} {here = here} {later = later} {between = between} h all a b) ascends nests f =
      let ascend = (Ascends-append k.start k.end here later).0 (subst (Ascends k.start k.end) b ascends) in
      let nest = NestsBelow-split k.most here later (subst (NestsBelow k.most) b nests) in
      fault_later
      (record { value = v; regions = here; after = between; accepts = record { holds = h; ascends = ascend.0; nests = nest.0 } })
      (fault_behind ps (range_after k here) all ascend.1 nest.1
      (subst (λ x. PartsFault names bytes inside mid qs (started_at k x) e) (end_after-append k.start here later)
      (subst (λ x. PartsFault names bytes inside mid qs (range_after k x) e) b f)))

  module _ (ps : List Part) (before : List Visit) {k l : Kept} (i : CheckedAll names bytes inside before ps k l) where
    -- those after them are accepted too
    pub joined : (m : Kept) (j : CheckedAll names bytes inside i.passes.after qs l m) → (c : CheckedAll names bytes inside before (ps ++ qs) k m) × (c.passes.values ≡ append_values i.passes.values j.passes.values)
    joined m j =
        subst (λ x. (y : CheckedAll names bytes inside i.passes.after qs x m) → y.passes.values ≡ j.passes.values → (c : CheckedAll names bytes inside before (ps ++ qs) k m) × (c.passes.values ≡ append_values i.passes.values j.passes.values)) (sym i.moves)
        (λ y same. (
          record {
            passes = record {
              values = append_values i.passes.values y.passes.values;
              regions = i.passes.regions ++ y.passes.regions;
              after = y.passes.after;
              accepts = record {
                all = hold_joined ps i.passes.accepts.all y.passes.accepts.all;
                ascends = (Ascends-append k.start k.end i.passes.regions y.passes.regions).1 (i.passes.accepts.ascends, y.passes.accepts.ascends);
                nests = NestsBelow-append k.most i.passes.regions y.passes.regions i.passes.accepts.nests y.passes.accepts.nests;
              };
            };
            seen = y.seen;
            moves = y.moves ∙ ap (λ n. started_again k n y.seen) (sym (end_after-append k.start i.passes.regions y.passes.regions));
            records = y.records;
          },
          ap (append_values i.passes.values) same,
        ))
        j refl

    -- a fault of those after them is one of all
    pub second_list : {e : Error} → PartsFault names bytes inside i.passes.after qs (range_of l) e → PartsFault names bytes inside before (ps ++ qs) (range_of k) e
    second_list {e} f =
        fault_behind ps (range_of k) i.passes.accepts.all i.passes.accepts.ascends i.passes.accepts.nests
        (subst (λ x. PartsFault names bytes inside i.passes.after qs (range_of x) e) i.moves f)

    pub joined_records : Records l.seen inside i.passes.after
    joined_records = subst (λ seen. Records seen inside i.passes.after) (sym (ap (λ (x : Kept). x.seen) i.moves)) i.records
