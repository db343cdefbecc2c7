-- A region that is claimed, and the parts in it.
use Rattle.std.proofs.Common.{◌≡◌, ◌≢◌, ℕ, suc, ◌+◌, ◌%◌, ◌<◌, ◌≤◌, ◌^◌, List, [], ◌∷◌, ◌++◌, length, Some, Ok, Err, Result, refl, sym, ap, subst, ◌∙◌, arith, length-append}
use Rattle.std.specs.Prelude.{MatchResult}
use Rattle.archive_shape_layout.specs.Value.{Value}
use Rattle.archive_shape_layout.specs.Content.{Names, Part, Span, Label, content_of, made, IsLegal}
use Rattle.archive_shape_layout.specs.Content.Content.{claimed}
use Rattle.archive_shape_layout.specs.Holds.{Region, region_of, Visit, OpenShared, HoldAll, Ascends, end_after}
use Rattle.archive_shape_layout.specs.Holds.Holds.{holds_claimed}
use Rattle.archive_shape_layout.proofs.Ascent.{Ascends-append, end_after-append}
use Rattle.archive_shape_layout.proofs.Evaluated.{end_below, ascends_raised}
use Rattle.archive_shape.specs.Range.{InRange, narrowed_to}
use Rattle.archive_shape.specs.Accepts.{NestsBelow}
use Rattle.archive_shape.specs.Questions.{AreAnswered, FirstUnanswered, claim, questions_of}
use Rattle.archive_shape.specs.PartFault.{PartFault, PartsFault}
use Rattle.archive_shape.specs.PartFault.PartFault.{fault_claimed}
use Rattle.archive_shape.specs.Kept.{Kept, range_of, pushed, popped, started_again, Advances}
use Rattle.archive_shape.specs.Checks.{Checked, CheckedAll}
use Rattle.archive_shape.specs.declared.checking.context.PushedRange.{PushedRange}
use Rattle.archive_shape_layout.specs.declared.error.Error.{Error}
use Rattle.archive_shape_layout.specs.declared.error.Error.TheVariants.{OutOfMemory, ExceededMaximumSubtreeDepth}
use Rattle.archive_shape.proofs.Claims.{depth_unanswered}
use Rattle.archive_shape.proofs.Ranges.{NestsBelow-append}
use Rattle.archive_forms_values.proofs.Claimed.{Pushes, pushes, answered, popped_behind}
use Rattle.archive_forms_values.specs.Claims.{as_usize}
use Rattle.archive_forms_values.specs.Claims.{IsClaimed}

-- ---- the claim

module _ (k l : Kept) (s : Span) where
  abbrev pub ClaimOutcome : Result PushedRange Error → Type 0
  ClaimOutcome result = MatchResult result (λ r. IsClaimed k s r l) (λ e. e ≢ OutOfMemory → FirstUnanswered (range_of k) e (claim s))

  pub claim_refused : (result : Result PushedRange Error) (e : Error) → result ≡ Err e → FirstUnanswered (range_of k) e (claim s) → ClaimOutcome result
  claim_refused result e is f = rw is (λ other. f)

  -- by the result of a context for a claim with a size that stops at `usize::MAX`
  pub claim_pushed :
      (size : ℕ) → size ≡ as_usize s.size → k.end < 2 ^ 63
      → InRange (range_of k) s.start size × (s.start % s.align ≡ 0)
      → (result : Result PushedRange Error)
      → MatchResult result
      (λ r. (r ≡ record { pos = s.start; end = s.start + size; outer = k.end }) × (length k.pushes < k.most) × (l ≡ pushed k r))
      (λ e. (e ≢ OutOfMemory → (k.most ≤ length k.pushes) × (e ≡ ExceededMaximumSubtreeDepth)) × (l ≡ k))
      → ClaimOutcome result
  claim_pushed size cut small claimable (Ok r) h =
      let push = pushes k l s r size s.align cut refl small claimable h.0 h.1 h.2 in
      record { answered = push.answered; range = push.range; narrowed = h.2 }
  claim_pushed size cut small claimable (Err e) h =
      let place = answered (range_of k) s size s.align cut refl small claimable in
      λ other. let refused = h.0 other in depth_unanswered (range_of k) s e place.0 place.1 refused.0 refused.1

-- ---- what is in it

pub pushes_of : {k l : Kept} {s : Span} {r : PushedRange} → IsClaimed k s r l → Pushes k s r l
pushes_of {k} {l} {s} {r} h = record { answered = h.answered; range = h.range; narrowed = h.narrowed ∙ ap (pushed k) h.range }

module _ (names : Names) (bytes : List ℕ) (p : Part) (s : Span) (label : Label) (ps : List Part) (is : content_of names bytes p ≡ claimed s label ps) {k l : Kept} {r : PushedRange} (h : IsClaimed k s r l) (inside : List OpenShared) (before : List Visit) where
  -- a fault of the parts
  pub fault_inside : (e : Error) → AreAnswered (range_of k) (questions_of names bytes p) → PartsFault names bytes inside before ps (range_of l) e → PartFault names bytes inside before p (range_of k) e
  fault_inside e asked f =
      let narrow : range_of l ≡ narrowed_to (range_of k) s.start =
      ap range_of (pushes_of h).narrowed ∙ ap (λ (x : ℕ). record { start = k.start; end = s.start; most = k.most; level = x }) (length-append k.pushes (record { pos = s.start; end = s.start + s.size; outer = k.end } ∷ [])) in
      fault_claimed asked is (subst (λ x. PartsFault names bytes inside before ps x e) narrow f)

  -- the parts are accepted, and the label takes their values
  accepted_pushed :
      (m o : Kept) (i : CheckedAll names bytes inside before ps (pushed k (record { pos = s.start; end = s.start + s.size; outer = k.end })) m) (v : Value)
      → IsLegal label
      → made label i.passes.values ≡ Some v
      → o ≡ started_again k (s.start + s.size) m.seen
      → (c : Checked names bytes inside before p k o) × (c.passes.value ≡ v)
  unfolding Ascends end_after NestsBelow
  accepted_pushed m o i v legal makes behind_is =
      let region : Region = region_of s (length k.pushes) in
      let held = i.passes.accepts in
      let within = h.answered.0 in
      let until = end_below k.start s.start i.passes.regions within.begins held.ascends in
      let level : length (k.pushes ++ record { pos = s.start; end = s.start + s.size; outer = k.end } ∷ []) ≡ suc (length k.pushes) =
      length-append k.pushes (record { pos = s.start; end = s.start + s.size; outer = k.end } ∷ []) ∙ omega arith in (
        record {
          passes = record {
            value = v;
            regions = i.passes.regions ++ region ∷ [];
            after = i.passes.after;
            accepts = record {
              holds = holds_claimed is legal (subst (λ x. HoldAll names bytes x inside ps i.passes.values i.passes.regions before i.passes.after) level held.all) makes refl;
              ascends = (Ascends-append k.start k.end i.passes.regions (region ∷ [])).1 (
                ascends_raised k.start s.start k.end i.passes.regions (omega (arith, within.ends)) held.ascends,
                (record { after = until; aligned = h.answered.1.0; inside = within.ends }, tt),
              );
              nests = NestsBelow-append k.most i.passes.regions (region ∷ []) held.nests (h.answered.1.1.0, tt);
            };
          };
          seen = i.seen;
          moves = behind_is ∙ ap (started_again k (s.start + s.size)) (ap (λ (x : Kept). x.seen) i.moves)
              ∙ ap (λ (x : ℕ). started_again k x i.seen) (sym (end_after-append k.start i.passes.regions (region ∷ [])));
          records = i.records;
        },
        refl,
      )

  pub accepted_inside :
      (m o : Kept) (i : CheckedAll names bytes inside before ps l m) (v : Value)
      → IsLegal label
      → made label i.passes.values ≡ Some v
      → Advances l m
      → o ≡ popped m r k.pushes
      → (c : Checked names bytes inside before p k o) × (c.passes.value ≡ v)
  accepted_inside m o i v legal makes advances popped_is =
      subst (λ x. (j : CheckedAll names bytes inside before ps x m) → made label j.passes.values ≡ Some v → (c : Checked names bytes inside before p k o) × (c.passes.value ≡ v)) (sym (pushes_of h).narrowed)
      (λ j makes_too. accepted_pushed m o j v legal makes_too (popped_behind (pushes_of h) m o advances popped_is)) i makes
