-- What a pointer leads to and claims: its own faults, and the parts in it.
use Rattle.std.proofs.Common.{◌≡◌, ◌≢◌, ℕ, suc, ◌+◌, ◌-◌, ◌%◌, ◌<◌, ◌≤◌, ◌^◌, min, List, [], ◌∷◌, ◌++◌, length, Some, Ok, Err, Result, refl, sym, ap, subst, ◌∙◌, arith, length-append, zero, ◌*◌}
use native.Mathlib.Decide.{dec_le}
use Rattle.archive_shape_layout.specs.Shape.{Pointee}
use Rattle.archive_shape_layout.specs.Value.{Value, Values}
use Rattle.archive_shape_layout.specs.Value.Value.{group}
use Rattle.archive_shape_layout.specs.Value.Values.{more_values}
use Rattle.archive_shape_layout.specs.Content.{Names, Part, Span, Label, content_of, made, IsLegal}
use Rattle.archive_shape_layout.specs.Content.Part.{behind}
use Rattle.archive_shape_layout.specs.Content.Label.{same, whole}
use Rattle.archive_shape_layout.specs.Content.Content.{claimed}
use Rattle.archive_shape_layout.specs.Holds.{Region, region_of, Visit, OpenShared, HoldAll, Ascends, end_after}
use Rattle.archive_shape_layout.specs.Holds.Holds.{holds_claimed}
use Rattle.archive_shape_layout.specs.Holds.HoldAll.{holds_none, holds_more}
use Rattle.archive_shape_layout.proofs.Ascent.{Ascends-append, end_after-append}
use Rattle.archive_shape_layout.proofs.Evaluated.{end_below, ascends_raised}
use Rattle.archive_shape.specs.Range.{Range, InRange, narrowed_to}
use Rattle.archive_shape.specs.Accepts.{NestsBelow}
use Rattle.archive_shape.specs.Questions.{AreAnswered, FirstUnanswered, claim, pointee_span, out_of_range}
use Rattle.archive_shape.specs.Questions.FirstUnanswered.{unanswered_here}
use Rattle.archive_shape.specs.PartFault.{PartsFault}
use Rattle.archive_shape.specs.PartFault.PartFault.{fault_unanswered, fault_claimed}
use Rattle.archive_shape.specs.Kept.{Kept, Records, range_of, pushed, popped, started_again, Advances, IsWithin}
use Rattle.archive_shape.specs.Checks.{Checks, Checked, CheckedAll}
use Rattle.archive_shape.specs.declared.checking.context.PushedRange.{PushedRange}
use Rattle.archive_shape_layout.specs.declared.error.Error.{Error}
use Rattle.archive_shape_layout.specs.declared.error.Error.TheVariants.{Unaligned, InvalidSubtreePointer, OutOfMemory}
use Rattle.archive_shape.proofs.Claims.{one_error, place_unanswered}
use Rattle.archive_shape.proofs.Ranges.{NestsBelow-append}
use Rattle.archive_shape.specs.Steps.{Narrower}

-- ---- sizes, which stop at `usize::MAX`

-- in a buffer they are not cut
size_kept : (size n : ℕ) → size ≡ min n (2 ^ 64 - 1) → size < 2 ^ 63 → size ≡ n
size_kept size n is small = omega arith

-- so the bytes of elements are cut together
pub elements_cut : (size n cut w : ℕ) → size ≡ min (n * cut) (2 ^ 64 - 1) → cut ≡ min w (2 ^ 64 - 1) → size ≡ min (n * w) (2 ^ 64 - 1)
elements_cut size zero cut w is element = omega arith
elements_cut size (suc n) cut w is element =
    elim (dec_le w (2 ^ 64 - 1)) [
      | yes h ↦ let same_size : cut ≡ w = omega arith in is ∙ ap (λ x. min (suc n * x) (2 ^ 64 - 1)) same_size
      | no h ↦
          let greatest : cut ≡ 2 ^ 64 - 1 = omega arith in
          let first : cut ≤ suc n * cut = grind arith in
          let second : w ≤ suc n * w = grind arith in
          omega arith
    ]

-- the check of a region refuses it, where its size is cut
pub misplaced :
    (k : Range) (s : Span) (size align : ℕ) (r : Result (Unit {0}) Error) (e : Error)
    → size ≡ min s.size (2 ^ 64 - 1)
    → align ≡ s.align
    → k.end < 2 ^ 63
    → ((InRange k s.start size → ⊥) → r ≡ Err (out_of_range size))
    → (InRange k s.start size → s.start % align ≢ 0 → r ≡ Err (Unaligned align))
    → (InRange k s.start size → s.start % align ≡ 0 → r ≡ Ok tt)
    → r ≡ Err e
    → FirstUnanswered k e (claim s)
misplaced k s size align r e cut aligned small outside unaligned accepted refused =
    elim (dec_le s.size (2 ^ 64 - 1)) [
      | yes h ↦
          let same_size : size ≡ s.size = omega arith in
          place_unanswered k s r e
          (subst (λ n. (InRange k s.start n → ⊥) → r ≡ Err (out_of_range n)) same_size outside)
          (subst (λ a. InRange k s.start s.size → s.start % a ≢ 0 → r ≡ Err (Unaligned a)) aligned
          (subst (λ n. InRange k s.start n → s.start % align ≢ 0 → r ≡ Err (Unaligned align)) same_size unaligned))
          (subst (λ a. InRange k s.start s.size → s.start % a ≡ 0 → r ≡ Ok tt) aligned
          (subst (λ n. InRange k s.start n → s.start % align ≡ 0 → r ≡ Ok tt) same_size accepted))
          refused
      | no h ↦
          let greatest : size ≡ 2 ^ 64 - 1 = omega arith in
          let same_error : out_of_range size ≡ out_of_range s.size = ap InvalidSubtreePointer (omega arith) in
          unanswered_here
          (λ w. let ends = w.ends in omega arith)
          (one_error r e _ refused (outside (λ w. let ends = w.ends in omega arith)) ∙ same_error)
    ]

-- and where it does not, the region may be claimed
pub answered :
    (k : Range) (s : Span) (size align : ℕ)
    → size ≡ min s.size (2 ^ 64 - 1)
    → align ≡ s.align
    → k.end < 2 ^ 63
    → InRange k s.start size × (s.start % align ≡ 0)
    → InRange k s.start s.size × (s.start % s.align ≡ 0)
answered k s size align cut aligned small claimable =
    let ends = claimable.0.ends in
    (subst (InRange k s.start) (size_kept size s.size cut (omega arith)) claimable.0, subst (λ a. s.start % a ≡ 0) aligned claimable.1)

-- ---- a region that is pushed

pub record Pushes (k : Kept) (s : Span) (r : PushedRange) (l : Kept) : Type 0 where
  pub answered : AreAnswered (range_of k) (claim s)
  pub range : r ≡ record { pos = s.start; end = s.start + s.size; outer = k.end }
  pub narrowed : l ≡ pushed k (record { pos = s.start; end = s.start + s.size; outer = k.end })

-- by the results of a context that was called with a size that is at most `usize::MAX`
pub pushes :
    (k l : Kept) (s : Span) (r : PushedRange) (size align : ℕ)
    → size ≡ min s.size (2 ^ 64 - 1)
    → align ≡ s.align
    → k.end < 2 ^ 63
    → InRange (range_of k) s.start size × (s.start % align ≡ 0)
    → r ≡ record { pos = s.start; end = s.start + size; outer = k.end }
    → length k.pushes < k.most
    → l ≡ pushed k r
    → Pushes k s r l
pushes k l s r size align cut aligned small claimable range room narrowed =
    let ends = claimable.0.ends in
    let same_size : size ≡ s.size = size_kept size s.size cut (omega arith) in
    let place = answered (range_of k) s size align cut aligned small claimable in
    let saved : r ≡ record { pos = s.start; end = s.start + s.size; outer = k.end } =
    range ∙ ap (λ (n : ℕ). record { pos = s.start; end = s.start + n; outer = k.end }) same_size in
    record {
      answered = (place.0, (place.1, (room, tt)));
      range = saved;
      narrowed = narrowed ∙ ap (pushed k) saved;
    }

-- some elements have the bytes of one
pub one_of_elements : (n element : ℕ) → 0 < n → element ≤ n * element
one_of_elements n element some = grind arith

module _ {k l : Kept} {s : Span} {r : PushedRange} (h : Pushes k s r l) where
  pub pushed_within : (len : ℕ) → IsWithin k len → IsWithin l len
  pushed_within len i =
      let start = ap (λ (x : Kept). x.start) h.narrowed in
      let end = ap (λ (x : Kept). x.end) h.narrowed in
      let within = h.answered.0 in
      record { ordered = omega (arith, within.begins); covered = omega (arith, within.ends, i.covered) }

  pub pushed_fits : (len : ℕ) → IsWithin k len → s.start + s.size ≤ len
  pushed_fits len i = let within = h.answered.0 in omega (arith, within.ends, i.covered)

  pub pushed_records : (inside : List OpenShared) (before : List Visit) → Records k.seen inside before → Records l.seen inside before
  pushed_records inside before records = subst (λ seen. Records seen inside before) (sym (ap (λ (x : Kept). x.seen) h.narrowed)) records

  -- a range in it is narrower by what is claimed
  pub pushed_narrow : (size : ℕ) → size ≤ s.size → (inner : Kept) → Narrower l inner 0 → Narrower k inner size
  pushed_narrow size less inner i =
      let start = ap (λ (x : Kept). x.start) h.narrowed in
      let end = ap (λ (x : Kept). x.end) h.narrowed in
      let within = h.answered.0 in
      record { begins = omega (arith, i.begins); ends = omega (arith, i.ends, within.ends); ordered = i.ordered }

  -- the push is the last that is open
  pub last_push : (m : Kept) → Advances l m → m.pushes ≡ k.pushes ++ r ∷ []
  last_push m i =
      ap (λ (x : Kept). x.pushes) i.frame ∙ ap (λ (x : Kept). x.pushes) h.narrowed ∙ ap (λ (x : PushedRange). k.pushes ++ x ∷ []) (sym h.range)

  -- it is popped
  pub popped_behind : (m o : Kept) → Advances l m → o ≡ popped m r k.pushes → o ≡ started_again k (s.start + s.size) m.seen
  popped_behind m o i is =
      let most : m.most ≡ k.most = ap (λ (x : Kept). x.most) i.frame ∙ ap (λ (x : Kept). x.most) h.narrowed in
      is ∙ ap (λ (x : PushedRange). popped m x k.pushes) h.range ∙ ap (λ (n : ℕ). record { start = s.start + s.size; end = k.end; most = n; pushes = k.pushes; seen = m.seen }) most

-- ---- what is claimed

-- a label makes a value of any values that its parts have
abbrev pub Makes : Names → List ℕ → Label → List Part → Type 0
Makes names bytes label ps =
    (level : ℕ) (inside : List OpenShared) (vs : Values) (regions : List Region) (before after : List Visit)
    → HoldAll names bytes level inside ps vs regions before after
    → (v : Value) × (made label vs ≡ Some v)

pub makes_same : (names : Names) (bytes : List ℕ) (p : Part) → Makes names bytes same (p ∷ [])
unfolding made
makes_same names bytes p level inside ws regions before after (holds_more {v = v} {vs = vs} h (holds_none f g i) e r) =
    (v, ap (made same) (e ∙ ap (more_values v) f))

pub makes_whole : (names : Names) (bytes : List ℕ) (ps : List Part) → Makes names bytes whole ps
unfolding made
makes_whole names bytes ps level inside vs regions before after h = (group vs, refl)

module _ (names : Names) (bytes : List ℕ) (t : ℕ) (q : Pointee) (n : ℕ) where
  pub unclaimed :
      (k l : Kept) (r : Result (Unit {0}) Error) (e : Error)
      → r ≡ Err e
      → (e ≢ OutOfMemory → FirstUnanswered (range_of k) e (claim (pointee_span t q n)))
      → Checks names bytes (behind t q n) k r l
  unclaimed k l r e is f inside before records = rw is (λ other. fault_unanswered (f other))

  module _ (label : Label) (ps : List Part) (is : content_of names bytes (behind t q n) ≡ claimed (pointee_span t q n) label ps) {k l : Kept} {r : PushedRange} (h : Pushes k (pointee_span t q n) r l) where
    pub fault_in_claim :
        (o : Kept) (result : Result (Unit {0}) Error) (e : Error)
        → result ≡ Err e
        → ((inside : List OpenShared) (before : List Visit) → Records l.seen inside before → e ≢ OutOfMemory → PartsFault names bytes inside before ps (range_of l) e)
        → Checks names bytes (behind t q n) k result o
    fault_in_claim o result e refused fault inside before records =
        let narrow : range_of l ≡ narrowed_to (range_of k) (pointee_span t q n).start =
        ap range_of h.narrowed ∙ ap (λ (x : ℕ). record { start = k.start; end = (pointee_span t q n).start; most = k.most; level = x }) (length-append k.pushes (record { pos = (pointee_span t q n).start; end = (pointee_span t q n).start + (pointee_span t q n).size; outer = k.end } ∷ [])) in
        rw refused (λ other. fault_claimed h.answered is
        (subst (λ x. PartsFault names bytes inside before ps x e) narrow (fault inside before (pushed_records h inside before records) other)))

    accepted_in_claim :
        (inside : List OpenShared) (before : List Visit) (m o : Kept)
        → IsLegal label
        → Makes names bytes label ps
        → CheckedAll names bytes inside before ps (pushed k (record { pos = (pointee_span t q n).start; end = (pointee_span t q n).start + (pointee_span t q n).size; outer = k.end })) m
        → o ≡ started_again k ((pointee_span t q n).start + (pointee_span t q n).size) m.seen
        → Checked names bytes inside before (behind t q n) k o
    unfolding Ascends end_after NestsBelow
    accepted_in_claim inside before m o legal makes i behind_is =
        let s : Span = pointee_span t q n in
        let region : Region = region_of s (length k.pushes) in
        let held = i.passes.accepts in
        let within = h.answered.0 in
        let value = makes _ inside i.passes.values i.passes.regions before i.passes.after held.all in
        let until = end_below k.start s.start i.passes.regions within.begins held.ascends in
        let level : length (k.pushes ++ record { pos = s.start; end = s.start + s.size; outer = k.end } ∷ []) ≡ suc (length k.pushes) =
        length-append k.pushes (record { pos = s.start; end = s.start + s.size; outer = k.end } ∷ []) ∙ omega arith in
        record {
          passes = record {
            value = value.0;
            regions = i.passes.regions ++ region ∷ [];
            after = i.passes.after;
            accepts = record {
              holds = holds_claimed is legal (subst (λ x. HoldAll names bytes x inside ps i.passes.values i.passes.regions before i.passes.after) level held.all) value.1 refl;
              ascends = (Ascends-append k.start k.end i.passes.regions (region ∷ [])).1 (
                ascends_raised k.start s.start k.end i.passes.regions (omega (arith, within.ends)) held.ascends,
                (record { after = until; aligned = h.answered.1.0; inside = within.ends }, tt),
              );
              nests = NestsBelow-append k.most i.passes.regions (region ∷ []) held.nests (h.answered.1.1.0, tt);
            };
          };
          seen = i.seen;
          moves = behind_is ∙ ap (started_again k (s.start + s.size)) (ap (λ (x : Kept). x.seen) i.moves)
              ∙ ap (λ (x : ℕ). started_again k x i.seen) (sym (end_after-append k.start i.passes.regions (region ∷ [])));
          records = i.records;
        }

    pub claim_checked :
        (m o : Kept) (result : Result (Unit {0}) Error)
        → IsLegal label
        → Makes names bytes label ps
        → ((inside : List OpenShared) (before : List Visit) → Records l.seen inside before → CheckedAll names bytes inside before ps l m)
        → Advances l m
        → result ≡ Ok tt
        → o ≡ popped m r k.pushes
        → Checks names bytes (behind t q n) k result o
    claim_checked m o result legal makes checked advances ok popped_is inside before records =
        rw ok (accepted_in_claim inside before m o legal makes
        (subst (λ x. CheckedAll names bytes inside before ps x m) h.narrowed (checked inside before (pushed_records h inside before records)))
        (popped_behind h m o advances popped_is))
