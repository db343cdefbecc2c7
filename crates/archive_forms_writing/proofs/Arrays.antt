-- The elements of an array: their resolvers, and their own bytes, which are adjacent.
use Rattle.std.proofs.Common.{◌≡◌, ℕ, zero, suc, ◌+◌, ◌*◌, ◌≤◌, ◌<◌, ◌-◌, ◌^◌, min, set, List, [], ◌∷◌, ◌++◌, length, take, drop, replicate, arith, le_refl, length-append, append_assoc, append-nil, ap, sym, refl, subst, ◌∙◌, inl, inr, mul-le-mul_right}
use Rattle.std.specs.Prelude.{⊤}
use Rattle.archive_shape_layout.specs.Shape.{Shape, size_of}
use Rattle.archive_shape_layout.specs.Edit.{Spares}
use Rattle.archive_shape.specs.Bytes.{HasBytes, zeros, overwrite}
use Rattle.archive_shape_layout.specs.declared.error.Error.{Error}
use Rattle.archive_shape.proofs.Spared.{spares_within, spares_both, spares_overwritten}
use Rattle.archive_shape.proofs.Written.{length-overwrite}
use Rattle.archive_shape_layout.specs.Progress.{Progress}
use Rattle.archive_shape_canonical.specs.FirstFit.{first_fit}
use Rattle.archive_forms_laws.specs.State.{State, advanced, visit_of_key}
use Rattle.archive_forms_laws.specs.Spelling.{Spelling, state_after}
use Rattle.archive_forms_laws.specs.Regions.{resolvers, pieces, state_after_all}
use Rattle.archive_forms_laws.specs.Arrays.{array_own, array_own_fits, array_own_refused}
use Rattle.archive_forms_laws.specs.Serializing.{CanResolve, IsAt, progress_by, is_begun}
use Rattle.archive_forms_laws.proofs.Regions.{state_after_all_pos, state_after_all_begun}
use Rattle.archive_forms_values.proofs.Joined.{overwrites_joined}
use Rattle.archive_forms_writing.proofs.Joining.{still_zero, unfilled}

-- ---- a list that is filled from the front

take_suc_set : {A : Type 0} (xs : List A) (i : ℕ) (x : A) → i < length xs → take (suc i) (set xs i x) ≡ take i xs ++ x ∷ []
take_suc_set [] i x h = absurd (omega (arith, h))
take_suc_set (y ∷ ys) zero x h = refl
take_suc_set (y ∷ ys) (suc i) x h = ap (λ l. y ∷ l) (take_suc_set ys i x (omega (arith, h)))

-- one more is set
pub take_set : {A : Type 0} (xs : List A) (i : ℕ) (x : A) → i < length xs → take (i + 1) (set xs i x) ≡ take i xs ++ x ∷ []
take_set xs i x h = let one : i + 1 ≡ suc i = omega arith in ap (λ n. take n (set xs i x)) one ∙ take_suc_set xs i x h

-- the first is there
pub take_one : {A : Type 0} (n : ℕ) (x : A) → 0 < n → take 1 (replicate n x) ≡ x ∷ []
take_one zero x h = absurd (omega (arith, h))
take_one (suc n) x h = refl

-- ---- the data of all elements

module _ {A R W : Type 0} (w : Spelling A R) (s : Shape) (xs : List A) (st : State) (pos : W → ℕ) (known : W → ℕ → Progress ℕ) (new : W) where
  -- a state when the data of all is written
  pub all_at : IsAt pos known new (state_after_all w xs st) → IsAt pos known new (advanced (length (pieces w xs st)) (state_after_all w xs st).met st)
  all_at h =
      let begun = state_after_all_begun (first_fit (λ _. 0)) s (λ _. ⊤) w xs st in
      record {
        stands = h.stands ∙ state_after_all_pos (first_fit (λ _. 0)) s (λ _. ⊤) w xs st;
        knows = λ key. h.knows key ∙ ap (λ b. progress_by (visit_of_key (state_after_all w xs st).met key) (is_begun b key)) begun;
      }

-- ---- adjacent own bytes

module _ {A R : Type 0} (s : Shape) (w : Spelling A R) (xs : List A) (kept : List R) (bytes : List ℕ) (start pos : ℕ) where
  -- the own bytes of `i` elements are written, up to an offset
  pub record Laid (i offset : ℕ) (now : List ℕ) : Type 0 where
    pub done : List ℕ
    pub stands : offset ≡ i * size_of s
    pub sized_done : length done ≡ offset
    pub written : now ≡ overwrite bytes start done
    pub rest : array_own s w xs kept pos ≡ done ++ array_own s w (drop i xs) (drop i kept) (pos + offset)
    -- the state that the data of the others was written from
    pub from : State
    pub made : drop i kept ≡ resolvers w (drop i xs) from
    pub fits : array_own_fits s w (drop i xs) (drop i kept) (pos + offset) → array_own_fits s w xs kept pos
    pub refused : (e : Error) → array_own_refused s w (drop i xs) (drop i kept) (pos + offset) e → array_own_refused s w xs kept pos e

  pub laid_none : (st : State) → kept ≡ resolvers w xs st → Laid 0 0 bytes
  laid_none st made =
      let e : pos + 0 ≡ pos = omega arith in
      let F : ℕ → Type 0 = λ n. array_own_fits s w xs kept n in
      record {
        done = [];
        stands = omega arith;
        sized_done = refl;
        written = sym (unfilled bytes start 0 refl);
        rest = ap (array_own s w xs kept) (sym e);
        from = st;
        made = made;
        fits = λ f. subst F e f;
        refused = λ d r. let Q : ℕ → Type 0 = λ n. array_own_refused s w xs kept n d in subst Q e r;
      }

  module _ {i offset : ℕ} {now : List ℕ} (x : A) (k : R) (e : drop i xs ≡ x ∷ drop (i + 1) xs) (f : drop i kept ≡ k ∷ drop (i + 1) kept) (h : Laid i offset now) where
    -- the resolver of the next one
    pub laid_made : (k ≡ w.resolver x h.from) × (drop (i + 1) kept ≡ resolvers w (drop (i + 1) xs) (state_after w x h.from))
    laid_made =
        let both : k ∷ drop (i + 1) kept ≡ w.resolver x h.from ∷ resolvers w (drop (i + 1) xs) (state_after w x h.from) = sym f ∙ h.made ∙ ap (λ l. resolvers w l h.from) e in
        (cc, cc)

    -- the next one can be resolved after them
    pub laid_can :
        (n : ℕ) → i < n
        → start + n * size_of s ≤ length bytes
        → pos + n * size_of s < 2 ^ 64
        → HasBytes bytes start (zeros (n * size_of s))
        → CanResolve w s x k now (start + offset) (pos + offset)
    laid_can n less room fits blank =
        let more : suc i * size_of s ≤ n * size_of s = mul-le-mul_right (size_of s) less in
        let next : suc i * size_of s ≡ i * size_of s + size_of s = omega arith in
        let stands = h.stands in
        let sized_done = h.sized_done in
        let P : List ℕ → Type 0 = λ l. CanResolve w s x k l (start + offset) (pos + offset) in
        let long : length (overwrite bytes start h.done) ≡ length bytes = length-overwrite bytes start h.done (omega arith) in
        subst P (sym h.written) (record {
          room = omega arith;
          stands = omega arith;
          blank = still_zero bytes start (n * size_of s) room blank h.done offset (size_of s) (omega arith) (omega arith);
          made = (h.from, laid_made.0);
        })

    -- and is
    pub laid_next :
        (n size : ℕ) (next : List ℕ)
        → (w.own_fits x k (pos + offset) → length (w.own x k (pos + offset)) ≡ size_of s)
        → i < n
        → start + n * size_of s ≤ length bytes
        → size ≡ size_of s
        → w.own_fits x k (pos + offset)
        → next ≡ overwrite now (start + offset) (w.own x k (pos + offset))
        → Laid (i + 1) (offset + size) next
    laid_next n size next sized less room same fit is =
        let own = w.own x k (pos + offset) in
        let later = drop (i + 1) xs in
        let later_kept = drop (i + 1) kept in
        let long : length own ≡ size_of s = sized fit in
        let more : suc i * size_of s ≤ n * size_of s = mul-le-mul_right (size_of s) less in
        let step : suc i * size_of s ≡ i * size_of s + size_of s = omega arith in
        let one : i + 1 ≡ suc i = omega arith in
        let stands = h.stands in
        let sized_done = h.sized_done in
        let there : pos + offset + size_of s ≡ pos + (offset + size) = omega arith in
        let F : List A → List R → Type 0 = λ l m. array_own_fits s w l m (pos + offset) in
        record {
          done = h.done ++ own;
          stands = omega arith ∙ sym step ∙ ap (λ m. m * size_of s) (sym one);
          sized_done = length-append h.done own ∙ omega arith;
          written = is ∙ ap (λ l. overwrite l (start + offset) own) h.written ∙ overwrites_joined bytes start offset h.done own (sym h.sized_done) (omega arith);
          rest =
              h.rest
              ∙ ap (λ l. h.done ++ array_own s w l (drop i kept) (pos + offset)) e
              ∙ ap (λ l. h.done ++ array_own s w (x ∷ later) l (pos + offset)) f
              ∙ ap (λ m. h.done ++ (own ++ array_own s w later later_kept m)) there
              ∙ sym (append_assoc h.done own (array_own s w later later_kept (pos + (offset + size))));
          from = state_after w x h.from;
          made = laid_made.1;
          fits = λ p.
              let N : ℕ → Type 0 = λ m. array_own_fits s w later later_kept m in
              let K : List R → Type 0 = λ l. array_own_fits s w (x ∷ later) l (pos + offset) in
              let X : List A → Type 0 = λ l. array_own_fits s w l (drop i kept) (pos + offset) in
              h.fits (subst X (sym e) (subst K (sym f) (fit, subst N (sym there) p)));
          refused = λ d r.
              let N : ℕ → Type 0 = λ m. array_own_refused s w later later_kept m d in
              let K : List R → Type 0 = λ l. array_own_refused s w (x ∷ later) l (pos + offset) d in
              let X : List A → Type 0 = λ l. array_own_refused s w l (drop i kept) (pos + offset) d in
              h.refused d (subst X (sym e) (subst K (sym f) (inr (subst N (sym there) r))));
        }

    -- or is refused
    pub laid_refused :
        {next : List ℕ} (n : ℕ) → i < n
        → start + n * size_of s ≤ length bytes
        → (d : Error)
        → w.own_refused x k (pos + offset) d × Spares now next (start + offset) (size_of s)
        → array_own_refused s w xs kept pos d × Spares bytes next start (n * size_of s)
    laid_refused {next} n less room d r =
        let K : List R → Type 0 = λ l. array_own_refused s w (x ∷ drop (i + 1) xs) l (pos + offset) d in
        let X : List A → Type 0 = λ l. array_own_refused s w l (drop i kept) (pos + offset) d in
        let size = n * size_of s in
        let more : suc i * size_of s ≤ n * size_of s = mul-le-mul_right (size_of s) less in
        let step : suc i * size_of s ≡ i * size_of s + size_of s = omega arith in
        let stands = h.stands in
        let sized_done = h.sized_done in
        let before : Spares bytes now start size =
        subst (λ l. Spares bytes l start size) (sym h.written) (spares_overwritten bytes start h.done start size (le_refl start) (omega arith) room) in (
          h.refused d (subst X (sym e) (subst K (sym f) (inl r.0))),
          spares_both bytes now next start size before (spares_within now next (start + offset) (size_of s) start size (omega arith) (omega arith) r.1),
        )

  -- all are written
  pub laid_all : {i offset : ℕ} {now : List ℕ} → drop i xs ≡ [] → Laid i offset now → array_own_fits s w xs kept pos × (now ≡ overwrite bytes start (array_own s w xs kept pos))
  laid_all {i} {offset} {now} e h =
      let X : List A → Type 0 = λ l. array_own_fits s w l (drop i kept) (pos + offset) in
      let all : array_own s w xs kept pos ≡ h.done = h.rest ∙ ap (λ l. h.done ++ array_own s w l (drop i kept) (pos + offset)) e ∙ append-nil h.done in
      (h.fits (subst X (sym e) tt), h.written ∙ ap (overwrite bytes start) (sym all))

-- the size of elements that end before 2^64 is not cut
pub size_whole : (i n size w pos : ℕ) → i < n → size ≡ min w (2 ^ 64 - 1) → pos + n * w < 2 ^ 64 → size ≡ w
size_whole i n size w pos less cut fits =
    let one : 1 * w ≤ n * w = mul-le-mul_right w (omega (arith, less)) in
    omega (arith, one, cut, fits)
