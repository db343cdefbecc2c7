-- Buckets that are written by way of a buffer, from the last place down to the first.
use Rattle.std.proofs.Common.{◌≡◌, ℕ, ◌+◌, ◌-◌, ◌*◌, ◌≤◌, ◌<◌, List, [], ◌∷◌, ◌++◌, refl, sym, ap, subst, ◌∙◌, arith, length, take, get_or, append-nil, append_assoc, inl, inr, Option, length-append, Ok, Err}
use Rattle.std.specs.Prelude.{Result}
use Rattle.std.proofs.lemmas.List.{length-take-le, take_all, take-take, take_at, get_or-take, get_or_at}
use Rattle.archive_shape_layout.specs.Shape.{Shape, size_of}
use Rattle.archive_shape_canonical.specs.FirstFit.{present}
use Rattle.archive_shape_layout.specs.Writing.{WriterMembers, Writes}
use Rattle.archive_shape_layout.specs.declared.error.Error.{Error}
use Rattle.archive_shape_layout.proofs.Joined.{written_none}
use Rattle.archive_forms_laws.specs.State.{State}
use Rattle.archive_forms_laws.specs.Spelling.{Spelling}
use Rattle.archive_forms_laws.specs.Regions.{resolvers}
use Rattle.archive_forms_laws.specs.Serializing.{Lays}
use Rattle.archive_forms_writing.proofs.Laying.{Wrote, Fails, Stops, wrote_both, stopped_after, stopped_first, stopped_before}
use Rattle.archive_hash_writing.specs.Tables.{buckets, buckets_fit, buckets_refused, state_after_items}
use Rattle.archive_hash_writing.proofs.EachBucket.{bucket, bucket_fits, bucket_refused, before, buckets_more, fits_more, refused_before, refused_there}

-- the last of the first elements
pub last_of : {B : Type 0} (ks front : List B) (r k : B) (n : ℕ) → n ≤ length ks → take n ks ≡ front ++ r ∷ [] → (0 < n) × (k ≡ get_or ks (n - 1) k → k ≡ r) × (take (n - 1) ks ≡ front)
last_of ks front r k n within e =
    let m = length front in
    let long : n ≡ m + 1 = sym (length-take-le n ks within) ∙ ap length e ∙ length-append front (r ∷ []) in
    let less : m < n = omega arith in
    let back : n - 1 ≡ m = omega arith in (
      omega arith,
      λ is. is ∙ ap (λ i. get_or ks i k) back ∙ sym (get_or-take n ks m k less) ∙ ap (λ l. get_or l m k) e ∙ get_or_at front r [] k m refl,
      ap (λ i. take i ks) back ∙ sym (take-take m n ks (omega arith)) ∙ ap (take m) e ∙ take_at front (r ∷ []) m refl,
    )

module _ {A R W : Type 0} (w : Spelling A R) (sh : Shape) (s : WriterMembers W) (os : List (Option A)) (kept : List R) (st : State) (old : W) where
  -- where the buckets end
  abbrev pub ending : ℕ
  ending = s.pos old + length os * size_of sh

  abbrev all : List ℕ
  all = buckets sh w os st ending

  abbrev refused : Error → Type 0
  refused e = buckets_refused sh w os st ending e

  -- the buckets of the places from p on were written, or are the first bytes of a buffer
  pub record Buffered (p left : ℕ) (now : W) (at : ℕ) (buffer : List ℕ) : Type 0 where
    pub done : List ℕ
    pub wrote : Wrote s old now done
    pub rest : all ≡ done ++ (take at buffer ++ buckets sh w (take p os) st ending)
    -- the resolvers of the items before
    pub kept_rest : take left kept ≡ resolvers w (present (take p os)) st
    pub fits : buckets_fit sh w (take p os) st ending → buckets_fit sh w os st ending
    pub refuses : (e : Error) → buckets_refused sh w (take p os) st ending e → refused e

  pub buffered_none : (buffer : List ℕ) → kept ≡ resolvers w (present os) st → Buffered (length os) (length kept) old 0 buffer
  buffered_none buffer e =
      let whole : take (length os) os ≡ os = take_all (length os) os (omega arith) in
      record {
        done = [];
        wrote = written_none old;
        rest = ap (λ l. buckets sh w l st ending) (sym whole);
        kept_rest = take_all (length kept) kept (omega arith) ∙ e ∙ ap (λ l. resolvers w (present l) st) (sym whole);
        fits = λ f. let P : List (Option A) → Type 0 = λ l. buckets_fit sh w l st ending in subst P whole f;
        refuses = λ d r. let P : List (Option A) → Type 0 = λ l. buckets_refused sh w l st ending d in subst P whole r;
      }

  -- the buffer was written
  pub buffered_flushed : (p left : ℕ) (now next : W) (at : ℕ) (buffer other : List ℕ) → (h : Buffered p left now at buffer) → Wrote s now next (take at buffer) → Buffered p left next 0 other
  buffered_flushed p left now next at buffer other h g =
      let own = take at buffer in
      record {
        done = h.done ++ own;
        wrote = wrote_both s (h.done ++ own) refl h.wrote g;
        rest = h.rest ∙ sym (append_assoc h.done own (buckets sh w (take p os) st ending));
        kept_rest = h.kept_rest;
        fits = h.fits;
        refuses = h.refuses;
      }

  -- the buffer could not be written
  pub buffered_failed : (p left : ℕ) (now new : W) (at : ℕ) (buffer : List ℕ) (d : Error) → Buffered p left now at buffer → Fails s now new (take at buffer) d → Stops s old new all refused d
  buffered_failed p left now new at buffer d h g =
      let none : Error → Type 0 = λ _. ⊥ in
      let own = take at buffer in
      let rest = buckets sh w (take p os) st ending in
      stopped_after s all none refused h.rest (λ r. absurd r) h.wrote (stopped_first s rest (own ++ rest) none none refl (λ r. r) (inl g))

  module _ (p q left : ℕ) (now : W) (at : ℕ) (buffer : List ℕ) (o : Option A) (split : take p os ≡ take q os ++ o ∷ []) (pos : ℕ) (here : pos ≡ before sh w (take q os) ending) (h : Buffered p left now at buffer) where
    -- the bucket of the place before is in the buffer
    pub buffered_next : (to less : ℕ) (next : List ℕ) → take to next ≡ take at buffer ++ bucket sh w o (state_after_items sh w (take q os) st) pos
        → bucket_fits sh w o (state_after_items sh w (take q os) st) pos → take less kept ≡ resolvers w (present (take q os)) st → Buffered q less now to next
    buffered_next to less next e fit k =
        let own = bucket sh w o (state_after_items sh w (take q os) st) pos in
        let later = buckets sh w (take q os) st ending in
        let P : List (Option A) → Type 0 = λ l. buckets_fit sh w l st ending in
        record {
          done = h.done;
          wrote = h.wrote;
          rest =
              h.rest
              ∙ ap (λ l. h.done ++ (take at buffer ++ buckets sh w l st ending)) split
              ∙ ap (λ l. h.done ++ (take at buffer ++ l)) (buckets_more sh w (take q os) o st ending pos here)
              ∙ ap (λ l. h.done ++ l) (sym (append_assoc (take at buffer) own later))
              ∙ ap (λ l. h.done ++ (l ++ later)) (sym e);
          kept_rest = k;
          fits = λ f. h.fits (subst P (sym split) (fits_more sh w (take q os) o st ending pos here f fit));
          refuses = λ d r. let Q : List (Option A) → Type 0 = λ l. buckets_refused sh w l st ending d in h.refuses d (subst Q (sym split) (refused_before sh w (take q os) o st ending d r));
        }

    -- it is refused
    pub buffered_refused : (d : Error) → bucket_refused sh w o (state_after_items sh w (take q os) st) pos d → Stops s old now all refused d
    buffered_refused d r =
        let Q : List (Option A) → Type 0 = λ l. buckets_refused sh w l st ending d in
        let rest = take at buffer ++ buckets sh w (take p os) st ending in
        stopped_after s all refused refused h.rest (λ x. x) h.wrote
        (stopped_before s now rest refused d (inr (h.refuses d (subst Q (sym split) (refused_there sh w (take q os) o st ending pos d here r)))))

  -- all are there, and the buffer was written
  pub buffered_all : (p left : ℕ) (now new : W) (at : ℕ) (buffer : List ℕ) {B : Type 0} (result : Result B Error) → p ≡ 0 → Buffered p left now at buffer → Writes s now new (take at buffer) result
      → Lays s old new all (λ _. buckets_fit sh w os st ending) refused result
  buffered_all p left now new at buffer (Ok r) e h g =
      let none : take p os ≡ [] = ap (λ n. take n os) e in
      let P : List (Option A) → Type 0 = λ l. buckets_fit sh w l st ending in
      let whole : all ≡ h.done ++ take at buffer = h.rest ∙ ap (λ l. h.done ++ (take at buffer ++ buckets sh w l st ending)) none ∙ ap (λ l. h.done ++ l) (append-nil (take at buffer)) in
      (wrote_both s all whole h.wrote g, h.fits (subst P (sym none) tt))
  buffered_all p left now new at buffer (Err d) e h g = buffered_failed p left now new at buffer d h g
