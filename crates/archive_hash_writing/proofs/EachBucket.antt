-- The buckets of one place more.
use Rattle.std.proofs.Common.{◌≡◌, ℕ, suc, ◌+◌, ◌-◌, ◌*◌, List, [], ◌∷◌, ◌++◌, length, refl, sym, ap, subst, ◌∙◌, arith, Option, Some, None, append-nil, append_assoc, inl, inr}
use Rattle.std.specs.Prelude.{⊤}
use Rattle.std.proofs.lemmas.List.Elements.{filter_map-append}
use Rattle.archive_shape_layout.specs.Shape.{Shape, size_of}
use Rattle.archive_shape.specs.Bytes.{zeros}
use Rattle.archive_shape_canonical.specs.FirstFit.{present}
use Rattle.archive_shape_layout.specs.declared.error.Error.{Error}
use Rattle.archive_forms_laws.specs.State.{State}
use Rattle.archive_forms_laws.specs.Spelling.{Spelling, state_after}
use Rattle.archive_forms_laws.specs.Regions.{state_after_all, resolvers, placed_fits, placed_refused}
use Rattle.archive_hash_writing.specs.Tables.{buckets, buckets_fit, buckets_refused, state_after_items}

-- ---- the item there

pub present_none : {A : Type 0} (os : List (Option A)) → present (os ++ None ∷ []) ≡ present os
present_none {A = A} os = filter_map-append (λ (o : Option A). o) os (None ∷ []) ∙ append-nil (present os)

pub present_more : {A : Type 0} (os : List (Option A)) (x : A) → present (os ++ Some x ∷ []) ≡ present os ++ x ∷ []
present_more {A = A} os x = filter_map-append (λ (o : Option A). o) os (Some x ∷ [])

pub resolvers_more : {A R : Type 0} (w : Spelling A R) (xs : List A) (x : A) (st : State) → resolvers w (xs ++ x ∷ []) st ≡ resolvers w xs st ++ w.resolver x (state_after_all w xs st) ∷ []
resolvers_more w [] x st = refl
resolvers_more w (y ∷ xs) x st = ap (λ l. w.resolver y st ∷ l) (resolvers_more w xs x (state_after w y st))

module _ {A R : Type 0} (s : Shape) (w : Spelling A R) where
  -- the bucket of a place that begins at a position, where the data of the place's item was written from a state on
  abbrev pub bucket : Option A → State → ℕ → List ℕ
  bucket None st pos = zeros (size_of s)
  bucket (Some x) st pos = w.own x (w.resolver x st) pos

  abbrev pub bucket_fits : Option A → State → ℕ → Type 0
  bucket_fits None st pos = ⊤
  bucket_fits (Some x) st pos = placed_fits w s x (w.resolver x st) pos

  abbrev pub bucket_refused : Option A → State → ℕ → Error → Type 0
  bucket_refused None st pos e = ⊥
  bucket_refused (Some x) st pos e = placed_refused w s x (w.resolver x st) pos e

  -- the position after `length os` buckets and one more before `end`
  abbrev pub before : List (Option A) → ℕ → ℕ
  before os end = end - (length os * size_of s + size_of s)

  further : (o : Option A) (os : List (Option A)) (end : ℕ) → before os (end - size_of s) ≡ before (o ∷ os) end
  further o os end = let step : suc (length os) * size_of s ≡ length os * size_of s + size_of s = omega arith in omega arith

  first : (end : ℕ) → before [] end ≡ end - size_of s
  first end = let none : 0 * size_of s ≡ 0 = omega arith in omega arith

  -- ---- one bucket more

  pub buckets_more : (os : List (Option A)) (o : Option A) (st : State) (end pos : ℕ) → pos ≡ before os end
      → buckets s w (os ++ o ∷ []) st end ≡ bucket o (state_after_items s w os st) pos ++ buckets s w os st end
  buckets_more [] None st end pos e = sym (append-nil (zeros (size_of s)))
  buckets_more [] (Some x) st end pos e = ap (λ n. w.own x (w.resolver x st) n) (sym (e ∙ first end)) ∙ sym (append-nil (w.own x (w.resolver x st) pos))
  buckets_more (None ∷ os) o st end pos e =
      ap (λ l. l ++ zeros (size_of s)) (buckets_more os o st (end - size_of s) pos (e ∙ sym (further None os end)))
      ∙ append_assoc (bucket o (state_after_items s w os st) pos) (buckets s w os st (end - size_of s)) (zeros (size_of s))
  buckets_more (Some y ∷ os) o st end pos e =
      let here = end - size_of s in
      let own = w.own y (w.resolver y st) here in
      let then = state_after w y st in
      ap (λ l. l ++ own) (buckets_more os o then here pos (e ∙ sym (further (Some y) os end)))
      ∙ append_assoc (bucket o (state_after_items s w os then) pos) (buckets s w os then here) own

  pub fits_more : (os : List (Option A)) (o : Option A) (st : State) (end pos : ℕ) → pos ≡ before os end
      → buckets_fit s w os st end → bucket_fits o (state_after_items s w os st) pos → buckets_fit s w (os ++ o ∷ []) st end
  fits_more [] None st end pos e h f = tt
  fits_more [] (Some x) st end pos e h f = let P : ℕ → Type 0 = λ n. placed_fits w s x (w.resolver x st) n in (subst P (e ∙ first end) f, tt)
  fits_more (None ∷ os) o st end pos e h f = fits_more os o st (end - size_of s) pos (e ∙ sym (further None os end)) h f
  fits_more (Some y ∷ os) o st end pos e h f = (h.0, fits_more os o (state_after w y st) (end - size_of s) pos (e ∙ sym (further (Some y) os end)) h.1 f)

  pub refused_before : (os : List (Option A)) (o : Option A) (st : State) (end : ℕ) (d : Error) → buckets_refused s w os st end d → buckets_refused s w (os ++ o ∷ []) st end d
  refused_before [] o st end d r = absurd r
  refused_before (None ∷ os) o st end d r = refused_before os o st (end - size_of s) d r
  refused_before (Some y ∷ os) o st end d r = elim r [ inl q ↦ inl q | inr q ↦ inr (refused_before os o (state_after w y st) (end - size_of s) d q) ]

  pub refused_there : (os : List (Option A)) (o : Option A) (st : State) (end pos : ℕ) (d : Error) → pos ≡ before os end
      → bucket_refused o (state_after_items s w os st) pos d → buckets_refused s w (os ++ o ∷ []) st end d
  refused_there [] None st end pos d e r = absurd r
  refused_there [] (Some x) st end pos d e r = let P : ℕ → Type 0 = λ n. placed_refused w s x (w.resolver x st) n d in inl (subst P (e ∙ first end) r)
  refused_there (None ∷ os) o st end pos d e r = refused_there os o st (end - size_of s) pos d (e ∙ sym (further None os end)) r
  refused_there (Some y ∷ os) o st end pos d e r = inr (refused_there os o (state_after w y st) (end - size_of s) pos d (e ∙ sym (further (Some y) os end)) r)
