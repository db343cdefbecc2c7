-- The positions that a table has after a change at one position, which are those that visits have there.
use Rattle.std.proofs.Common.{◌≡◌, ◌≢◌, ℕ, Some, None, Result, Ok, Err, MatchResult, true, false, refl, sym, ap, subst, ◌∙◌, ⊎_elim, arith}
use Rattle.std.proofs.Math.Path.{fun_ext}
use Rattle.std.proofs.lemmas.Grind.{common_steps}
use Rattle.std.proofs.lemmas.Bool.{cases_eq, eq-eqb, ne_eqb}
use Rattle.std.specs.Option.{option_map}
use Rattle.std.specs.Ordering.{nat_cmp}
use Rattle.std.specs.BTreeMap.{BTreeMap, get, Updates, IsUnchanged}
use Rattle.archive_shape_layout.specs.Shape.{Pointee}
use Rattle.archive_shape.specs.Kept.{Kept, seen_with, with_entry, StartsShared, RefusesShared, FinishesShared}
use Rattle.archive_shape.specs.declared.checking.context.ValidationState.{ValidationState}
use Rattle.archive_shape_layout.specs.declared.error.Error.{Error}
use Rattle.archive_shape_layout.specs.declared.error.Error.TheVariants.{AlreadyFinished, NotStarted, OutOfMemory}
use Rattle.archive_core_validation.specs.declared.shared_validator.SharedEntry.{SharedEntry}
use Rattle.archive_core_validation.specs.Depth.{with_seen}
use Rattle.archive_core_validation.specs.Visits.{as_entry, seen_in}

module _ (m n : BTreeMap ℕ SharedEntry) where
  seen_unchanged : IsUnchanged m n → seen_in n ≡ seen_in m
  unfolding seen_in
  seen_unchanged e = fun_ext λ pos. rw e refl

  -- it has the entries that it had
  pub stays : (k : Kept) → IsUnchanged m n → with_seen k (seen_in n) ≡ with_seen k (seen_in m)
  stays k same = ap (with_seen k) (seen_unchanged same)

  module _ (pos : ℕ) (x : SharedEntry) (u : Updates nat_cmp m n pos (Some x)) where
    updated_at : (other : ℕ) → seen_in n other ≡ seen_with (seen_in m) pos (as_entry x) other
    unfolding seen_in seen_with
    updated_at other =
        ⊎_elim
        (λ (e : other ≡ pos). rw (eq-eqb other pos e) (grind (arith, common_steps, u.0 other, u.1)))
        (λ (apart : other ≡ pos → ⊥). rw (ne_eqb other pos apart) (grind (arith, common_steps, u.0 other)))
        (cases_eq other pos)

    seen_updated : (k : Kept) → with_seen k (seen_in n) ≡ with_entry (with_seen k (seen_in m)) pos (as_entry x)
    seen_updated k = ap (with_seen k) (fun_ext λ other. updated_at other)

    -- the entry that is written is the one that was there
    same_at : get nat_cmp m pos ≡ Some x → (other : ℕ) → seen_in n other ≡ seen_in m other
    unfolding seen_in
    same_at met other =
        ⊎_elim
        (λ (e : other ≡ pos). ap (seen_in n) e ∙ ap (option_map as_entry) (u.1 ∙ sym met) ∙ sym (ap (seen_in m) e))
        (λ (apart : other ≡ pos → ⊥). grind (arith, common_steps, u.0 other, ne_eqb other pos apart))
        (cases_eq other pos)

    seen_same : get nat_cmp m pos ≡ Some x → (k : Kept) → with_seen k (seen_in n) ≡ with_seen k (seen_in m)
    seen_same met k = ap (with_seen k) (fun_ext λ other. same_at met other)

  module _ (k : Kept) (pos : ℕ) (x : SharedEntry) where
    -- a position is visited for the first time
    pub starts : get nat_cmp m pos ≡ None → Updates nat_cmp m n pos (Some x) → (seen_in m pos ≡ None) × (with_seen k (seen_in n) ≡ with_entry (with_seen k (seen_in m)) pos (as_entry x))
    unfolding seen_in
    starts none u = (ap (option_map as_entry) none, seen_updated pos x u k)

    -- a position is visited again, and the table keeps what it had
    pub starts_again :
        (p : Pointee) (len : ℕ) (result : Result ValidationState Error)
        → IsUnchanged m n
        → get nat_cmp m pos ≡ Some x
        → ((l : Kept) (at : ℕ) → l.seen at ≡ Some (as_entry x) → MatchResult result (StartsShared l at p len l) (RefusesShared l at p len))
        → MatchResult result (StartsShared (with_seen k (seen_in m)) pos p len (with_seen k (seen_in n))) (λ e. (e ≢ OutOfMemory → RefusesShared (with_seen k (seen_in m)) pos p len e) × (with_seen k (seen_in n) ≡ with_seen k (seen_in m)))
    unfolding seen_in
    starts_again p len (Ok state) same met again =
        subst (λ seen. StartsShared (with_seen k (seen_in m)) pos p len (with_seen k seen) state) (sym (seen_unchanged same)) (again (with_seen k (seen_in m)) pos (ap (option_map as_entry) met))
    starts_again p len (Err e) same met again = (λ other. again (with_seen k (seen_in m)) pos (ap (option_map as_entry) met), stays k same)

    -- its check ends
    pub finishes : get nat_cmp m pos ≡ Some x → x.done ≡ false → Updates nat_cmp m n pos (Some (record { pointee = x.pointee; len = x.len; done = true })) → FinishesShared (with_seen k (seen_in m)) pos (with_seen k (seen_in n)) (Ok tt) (seen_in m pos)
    unfolding seen_in
    finishes met ongoing u = rw (met, ongoing) (refl, seen_updated pos (record { pointee = x.pointee; len = x.len; done = true }) u k)

    -- it has ended already
    pub finishes_again : get nat_cmp m pos ≡ Some x → x.done ≡ true → Updates nat_cmp m n pos (Some x) → FinishesShared (with_seen k (seen_in m)) pos (with_seen k (seen_in n)) (Err AlreadyFinished) (seen_in m pos)
    unfolding seen_in
    finishes_again met ended u = rw (met, ended) (refl, seen_same pos x u met k)

  -- a position that was not started is not ended
  pub finishes_none : (k : Kept) (pos : ℕ) → get nat_cmp m pos ≡ None → IsUnchanged m n → FinishesShared (with_seen k (seen_in m)) pos (with_seen k (seen_in n)) (Err NotStarted) (seen_in m pos)
  unfolding seen_in
  finishes_none k pos none same = rw none (refl, stays k same)
