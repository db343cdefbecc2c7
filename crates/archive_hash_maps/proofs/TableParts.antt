-- What a table's buckets and controls have that are claimed, and what is asked of them.
use Rattle.std.proofs.Common.{◌≡◌, ◌≢◌, ℕ, ◌+◌, ◌-◌, ◌*◌, ◌<◌, ◌≤◌, nat_lt, nat_le, ◌==◌, ◌&&◌, Bool, true, List, take, count_by, Err, Ok, Result, refl, sym, subst, arith}
use Rattle.std.proofs.lemmas.Bool.{le-leb}
use Rattle.archive_shape_layout.specs.Bytes.{window}
use Rattle.archive_shape_layout.specs.Value.Value.{group}
use Rattle.archive_shape_layout.specs.Content.{Names, Item, Span, content_of, made, item_size, control_count, wraps, buckets_span, buckets_content, tagged_items}
use Rattle.archive_shape_layout.specs.Content.Part.{buckets}
use Rattle.archive_shape_layout.specs.Content.Label.{whole}
use Rattle.archive_shape_layout.specs.Content.Content.{claimed}
use Rattle.archive_shape_layout.proofs.Framed.{le_align_up}
use Rattle.archive_shape.specs.Questions.{AreAnswered, FirstUnanswered, questions_of, questions_of_controls}
use Rattle.archive_shape.specs.PartFault.PartFault.{fault_unanswered}
use Rattle.archive_shape.specs.Kept.{Kept, range_of, popped, Advances, IsWithin}
use Rattle.archive_shape.specs.Checks.{Checks, ChecksAll, Moves}
use Rattle.archive_shape.specs.Steps.{Narrower}
use Rattle.archive_shape.specs.declared.checking.context.PushedRange.{PushedRange}
use Rattle.archive_shape_layout.specs.declared.error.Error.{Error}
use Rattle.archive_shape_layout.specs.declared.error.Error.TheVariants.{OutOfMemory}
use Rattle.archive_forms_values.proofs.Claimed.{Pushes, popped_behind, pushed_fits, pushed_within, pushed_narrow, pushed_records, one_of_elements}
use Rattle.archive_forms_values.proofs.Claiming.{pushes_of, fault_inside, accepted_inside}
use Rattle.archive_forms_values.proofs.Chosen.{chosen}
use Rattle.archive_hash_maps.specs.Buckets.{AreClaimed, claim_of_buckets, questions_of_tags}
use Rattle.archive_hash_maps.proofs.Asked.{Decides, behind_answered, both_answered, refused_before}
use Rattle.archive_hash_maps.proofs.ControlChecks.{controls_wrap}

-- a region is popped behind what was checked in it
pub popped_moves : {k l : Kept} {s : Span} {r : PushedRange} → Pushes k s r l → (m o : Kept) (result : Result (Unit {0}) Error) → Advances l m → o ≡ popped m r k.pushes → Moves k result o
popped_moves {k} {l} {s} {r} push m o (Ok u) i is =
    let within = push.answered.0 in
    subst (Advances k) (sym (popped_behind push m o i is)) (record { begins = omega (arith, within.begins); ordered = omega (arith, within.ends); frame = refl })
popped_moves push m o (Err e) i is = tt

pub places_first : (cap : ℕ) → cap ≤ control_count cap
unfolding control_count
places_first cap = let up = le_align_up cap 16 in omega arith

both : (a b : Bool) → a ≡ true → b ≡ true → (a && b) ≡ true
both a b e f = rw (e, f) refl

module _ (target cap : ℕ) (it : Item) {old new : Kept} {r : PushedRange} (h : AreClaimed target cap it old r new) where
  -- they lie in the bytes
  pub claimed_fits : (len : ℕ) → IsWithin old len → target + control_count cap ≤ len
  unfolding buckets_span
  claimed_fits len within =
      let below : cap * item_size it ≤ target = h.below in
      let fits : target - cap * item_size it + (cap * item_size it + control_count cap) ≤ len = pushed_fits (pushes_of h.claimed) len within in
      omega arith

  -- what is kept is in order where nothing is claimed in them
  pub claimed_stays : (len : ℕ) → IsWithin old len → Advances new new
  claimed_stays len within =
      let inner = pushed_within (pushes_of h.claimed) len within in
      record { begins = omega arith; ordered = inner.ordered; frame = refl }

  -- a range before them is narrower by an item at least
  pub claimed_narrow : (size : ℕ) → 0 < cap → size ≤ item_size it → (inner : Kept) → Narrower new inner 0 → Narrower old inner size
  unfolding buckets_span
  claimed_narrow size some less inner i =
      let one = one_of_elements cap (item_size it) some in
      pushed_narrow (pushes_of h.claimed) size (omega (arith, one)) inner i

module _ (names : Names) (bytes : List ℕ) (target len cap : ℕ) (it : Item) where
  -- the claim is refused
  pub buckets_unclaimed :
      (old new : Kept) (result : Result (Unit {0}) Error) (e : Error) → result ≡ Err e
      → (e ≢ OutOfMemory → FirstUnanswered (range_of old) e (claim_of_buckets target cap it))
      → Checks names bytes (buckets target len cap it) old result new
  buckets_unclaimed old new result e is f inside before records =
      rw is (λ other. fault_unanswered (refused_before (range_of old) e (claim_of_buckets target cap it) _ (f other)))

  module _ {old l : Kept} {r : PushedRange} (h : AreClaimed target cap it old r l) (controls : List ℕ) (are : controls ≡ window bytes target (control_count cap)) where
    claim_decided : Decides (range_of old) (questions_of names bytes (buckets target len cap it)) (questions_of_tags len cap controls)
    claim_decided = subst (λ cs. Decides (range_of old) (questions_of names bytes (buckets target len cap it)) (questions_of_tags len cap cs)) (sym are)
        (behind_answered (range_of old) (claim_of_buckets target cap it) _ (le-leb (cap * item_size it) target h.below, h.claimed.answered))

    -- the controls are refused
    pub controls_refused :
        (new : Kept) (result : Result (Unit {0}) Error) (e : Error) → result ≡ Err e
        → FirstUnanswered (range_of old) e (questions_of_tags len cap controls)
        → Checks names bytes (buckets target len cap it) old result new
    controls_refused new result e is f inside before records = rw is (λ other. fault_unanswered (claim_decided.refused e f))

    module _ (answered : AreAnswered (range_of old) (questions_of_tags len cap controls)) where
      all_answered : AreAnswered (range_of old) (questions_of names bytes (buckets target len cap it))
      all_answered = claim_decided.answered answered

      buckets_are : content_of names bytes (buckets target len cap it) ≡ claimed (buckets_span target cap it) whole (tagged_items target it 0 (take cap controls))
      unfolding buckets_content
      buckets_are =
          let each = both_answered (range_of old) (questions_of_controls cap controls 0 controls) _ answered in
          subst (λ cs. buckets_content target len cap it cs ≡ claimed (buckets_span target cap it) whole (tagged_items target it 0 (take cap controls))) are
          (chosen (nat_le (cap * item_size it) target && (wraps cap controls 0 controls && (count_by (λ c. nat_lt c 128) (take cap controls) == len))) _ _
          (both _ _ (le-leb (cap * item_size it) target h.below) (both _ _ (controls_wrap (range_of old) cap controls 0 controls each.0) each.1.0)))

      -- an item is refused
      pub items_refused :
          (m new : Kept) (result : Result (Unit {0}) Error) (e : Error) → result ≡ Err e
          → ChecksAll names bytes (tagged_items target it 0 (take cap controls)) l (Err e) m
          → Checks names bytes (buckets target len cap it) old result new
      items_refused m new result e is f inside before records =
          rw is (λ other. fault_inside names bytes (buckets target len cap it) (buckets_span target cap it) whole _ buckets_are h.claimed inside before e all_answered
          (f inside before (pushed_records (pushes_of h.claimed) inside before records) other))

      pub items_accepted :
          (m new : Kept) (result : Result (Unit {0}) Error) → result ≡ Ok tt
          → ChecksAll names bytes (tagged_items target it 0 (take cap controls)) l (Ok tt) m
          → Advances l m
          → new ≡ popped m r old.pushes
          → Checks names bytes (buckets target len cap it) old result new
      unfolding made
      items_accepted m new result is checks advances popped_is inside before records =
          let i = checks inside before (pushed_records (pushes_of h.claimed) inside before records) in
          rw is (accepted_inside names bytes (buckets target len cap it) (buckets_span target cap it) whole _ buckets_are h.claimed inside before m new i (group i.passes.values) tt refl advances popped_is).0
