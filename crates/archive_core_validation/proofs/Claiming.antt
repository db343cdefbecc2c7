-- A call for the duration of which a region is claimed, by the results of a context.
use Rattle.std.proofs.Common.{◌≡◌, ◌≢◌, inl, inr, ◌%◌, ◌-◌, ◌<◌, ◌^◌, ℕ, min, [], ◌∷◌, ◌++◌, length, Result, Ok, Err, refl, ap, subst, ◌∙◌, arith}
use native.Mathlib.Decide.{dec_le}
use denote.Ref.{MutBor}
use denote.Param.Members.{Once}
use Rattle.archive_shape_layout.specs.Content.{Span}
use Rattle.archive_shape.specs.Range.{Range, InRange}
use Rattle.archive_shape.specs.Kept.{Kept, range_of, pushed, popped}
use Rattle.archive_shape.specs.Questions.{FirstUnanswered, claim}
use Rattle.archive_shape.specs.Questions.FirstUnanswered.{unanswered_here, unanswered_later}
use Rattle.archive_shape.specs.declared.checking.context.PushedRange.{PushedRange}
use Rattle.archive_shape_layout.specs.declared.error.Error.{Error}
use Rattle.archive_shape_layout.specs.declared.error.Error.TheVariants.{InvalidSubtreePointer, OutOfMemory}
use Rattle.archive_core_validation.specs.Subtrees.{push_of, IsClaimed, InSubtree}

pub is_claimed :
    (k l : Kept) (s : Span) (r : PushedRange)
    → InRange (range_of k) s.start s.size × (s.start % s.align ≡ 0)
    → (r ≡ push_of k s) × (length k.pushes < k.most) × (l ≡ pushed k r)
    → IsClaimed k s l
is_claimed k l s r place push =
    record { answered = (place.0, (place.1, (push.1, tt))); narrowed = push.2 ∙ ap (pushed k) push.0 }

-- where the open pushes were kept, the region's is the last
pub last_push : (k l m : Kept) (r : PushedRange) → l ≡ pushed k r → m.pushes ≡ l.pushes → m.pushes ≡ k.pushes ++ r ∷ []
last_push k l m r is keeps = keeps ∙ ap (λ (x : Kept). x.pushes) is

-- a region of more bytes than a `usize` counts leaves each range
past_fault :
    (k : Range) (e : Error) (s : Span) (size align : ℕ)
    → size ≡ 2 ^ 64 - 1
    → 2 ^ 64 - 1 < s.size
    → k.end < 2 ^ 63
    → FirstUnanswered k e (claim (record { start = s.start; size = size; align = align }))
    → FirstUnanswered k e (claim s)
past_fault k e s size align greatest past small (unanswered_here missed is) =
    unanswered_here (λ w. let ends = w.ends in omega arith) (is ∙ ap InvalidSubtreePointer (omega arith))
past_fault k e s size align greatest past small (unanswered_later within rest) = absurd (let ends = within.ends in omega arith)

module _ {F C R : Type 0} (call : Once F (MutBor C × Unit {0}) (Result R Error × (MutBor C × Unit {0}))) (kept : C → Kept) (f : F) (k : Kept) (s : Span) where
  pub unclaimed :
      (new : Kept) (r : Result R Error) (e : Error)
      → r ≡ Err e
      → (e ≢ OutOfMemory → FirstUnanswered (range_of k) e (claim s))
      → InSubtree call kept f k s r new
  unclaimed new r e is fault = rw is (λ other. inl (fault other))

  pub refused_inside :
      (new : Kept) (r : Result R Error) (e : Error) (inner outer : MutBor C)
      → r ≡ Err e
      → IsClaimed k s (kept inner.now)
      → call.post f (inner, tt) (Err e, (outer, tt))
      → InSubtree call kept f k s r new
  refused_inside new r e inner outer is claimed called =
      rw is (λ other. inr (kept outer.now, record { inner = inner; outer = outer; claimed = claimed; called = called; leaves = refl }))

  pub answered_inside :
      (new : Kept) (value : R) (r : PushedRange) (inner outer : MutBor C)
      → IsClaimed k s (kept inner.now)
      → call.post f (inner, tt) (Ok value, (outer, tt))
      → r ≡ push_of k s
      → new ≡ popped (kept outer.now) r k.pushes
      → InSubtree call kept f k s (Ok value) new
  answered_inside new value r inner outer claimed called is again =
      (kept outer.now, record { inner = inner; outer = outer; claimed = claimed; called = called; leaves = refl }, again ∙ ap (λ x. popped (kept outer.now) x k.pushes) is)

  past :
      (size align : ℕ) (r : Result R Error) (new : Kept)
      → size ≡ 2 ^ 64 - 1
      → 2 ^ 64 - 1 < s.size
      → k.end < 2 ^ 63
      → InSubtree call kept f k (record { start = s.start; size = size; align = align }) r new
      → InSubtree call kept f k s r new
  past size align (Ok value) new greatest above small h = absurd (let ends = h.1.claimed.answered.0.ends in omega arith)
  past size align (Err e) new greatest above small h = λ other.
      elim (h other) [
        | inl fault ↦ inl (past_fault (range_of k) e s size align greatest above small fault)
        | inr within ↦ absurd (let ends = within.1.claimed.answered.0.ends in omega arith)
      ]

  -- a size that stops at `usize::MAX`
  pub resized :
      (size align : ℕ) (r : Result R Error) (new : Kept)
      → size ≡ min s.size (2 ^ 64 - 1)
      → align ≡ s.align
      → k.end < 2 ^ 63
      → InSubtree call kept f k (record { start = s.start; size = size; align = align }) r new
      → InSubtree call kept f k s r new
  resized size align r new cut aligned small h =
      elim (dec_le s.size (2 ^ 64 - 1)) [
        | yes i ↦
            let same_size : size ≡ s.size = omega arith in
            subst (λ a. InSubtree call kept f k (record { start = s.start; size = s.size; align = a }) r new) aligned
            (subst (λ n. InSubtree call kept f k (record { start = s.start; size = n; align = align }) r new) same_size h)
        | no i ↦ past size align r new (omega arith) (omega arith) small h
      ]
