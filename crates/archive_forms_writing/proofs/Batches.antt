-- Elements that are resolved into a buffer, which is written whenever it is full.
use Rattle.std.proofs.Common.{◌≡◌, ℕ, zero, suc, min, zero-mul, one-mul, ◌+◌, ◌-◌, ◌*◌, ◌≤◌, List, [], ◌∷◌, ◌++◌, refl, sym, ap, subst, ◌∙◌, arith, length, length-append, take, drop, ◌^◌, ◌<◌, append-nil, append_assoc, add_assoc, add-zero, inl, inr}
use Rattle.std.proofs.Math.Nat.{mul-le-mul_right}
use Rattle.std.proofs.Math.Seq.{take-append_seam}
use Rattle.std.proofs.lemmas.List.{length-take, length-replicate, take-replicate, drop-replicate, drop-drop, drop_at}
use Rattle.archive_shape_layout.specs.Shape.{Shape, size_of}
use Rattle.archive_shape.specs.Bytes.{HasBytes, zeros, overwrite}
use Rattle.archive_shape.proofs.Written.{length-overwrite}
use Rattle.std.specs.Prelude.{Result, Ok, Err, false}
use Rattle.archive_shape_layout.specs.Progress.Progress.{unmet}
use Rattle.archive_shape_layout.specs.declared.error.Error.TheVariants.{OutOfMemory, PositionTooLarge}
use Rattle.archive_shape_layout.specs.Writing.{WriterMembers, Writes}
use Rattle.archive_shape_layout.specs.declared.error.Error.{Error}
use Rattle.archive_shape_layout.proofs.Joined.{written_none}
use Rattle.archive_forms_laws.specs.State.{State}
use Rattle.archive_forms_laws.specs.Spelling.{Spelling, state_after}
use Rattle.archive_forms_laws.specs.Serializing.{Lays}
use Rattle.archive_forms_laws.specs.Regions.{resolvers, owns, placed_fits, placed_refused, owns_fit, owns_refused}
use Rattle.archive_forms_writing.proofs.Laying.{Wrote, Fails, Stops, wrote_both, stopped_after, stopped_first, stopped_before}

-- ---- bytes that are written after the first ones

split : (bytes : List ℕ) (at : ℕ) (p : List ℕ) → overwrite bytes at p ≡ (take at bytes ++ p) ++ drop (at + length p) bytes
split bytes at p = sym (append_assoc (take at bytes) p (drop (at + length p) bytes))

ends : (bytes : List ℕ) (at : ℕ) (p : List ℕ) → at ≤ length bytes → length (take at bytes ++ p) ≡ at + length p
ends bytes at p h = omega (arith, length-append (take at bytes) p, length-take at bytes)

-- they end with what was written
pub take_written : (bytes : List ℕ) (at n : ℕ) (p : List ℕ) → at ≤ length bytes → n ≡ length p → take (at + n) (overwrite bytes at p) ≡ take at bytes ++ p
take_written bytes at n p h e =
    ap (λ k. take (at + k) (overwrite bytes at p)) e
    ∙ ap (take (at + length p)) (split bytes at p)
    ∙ ap (λ k. take k ((take at bytes ++ p) ++ drop (at + length p) bytes)) (sym (ends bytes at p h))
    ∙ take-append_seam (take at bytes ++ p) (drop (at + length p) bytes)

-- and what lies after them stays
pub drop_written : (bytes : List ℕ) (at n : ℕ) (p : List ℕ) → at ≤ length bytes → n ≡ length p → drop (at + n) (overwrite bytes at p) ≡ drop (at + n) bytes
drop_written bytes at n p h e =
    ap (λ k. drop (at + k) (overwrite bytes at p)) e
    ∙ ap (drop (at + length p)) (split bytes at p)
    ∙ drop_at (take at bytes ++ p) (drop (at + length p) bytes) (at + length p) (ends bytes at p h)
    ∙ ap (λ k. drop (at + k) bytes) (sym e)

-- zeros after the first bytes
pub blank_there : (bytes : List ℕ) (at n : ℕ) → at + n ≤ length bytes → drop at bytes ≡ zeros (length bytes - at) → HasBytes bytes at (zeros n)
blank_there bytes at n h e =
    ap (λ k. take k (drop at bytes)) (length-replicate _ _) ∙ ap (take n) e ∙ take-replicate n (length bytes - at) 0 (omega (arith, h))

-- those after what was written stay
pub blank_behind : (bytes new : List ℕ) (at n : ℕ) (p : List ℕ) → at + n ≤ length bytes → n ≡ length p → new ≡ overwrite bytes at p → drop at bytes ≡ zeros (length bytes - at)
    → (length new ≡ length bytes) × (drop (at + n) new ≡ zeros (length new - (at + n)))
blank_behind bytes new at n p h e is z =
    let same : length new ≡ length bytes = ap length is ∙ length-overwrite bytes at p (omega (arith, h, e)) in (
      same,
      ap (drop (at + n)) is
          ∙ drop_written bytes at n p (omega (arith, h)) e
          ∙ sym (drop-drop n at bytes)
          ∙ ap (drop n) z
          ∙ drop-replicate n (length bytes - at) 0
          ∙ ap zeros (omega (arith, h, same)),
    )

-- ---- elements

module _ {A R W : Type 0} (w : Spelling A R) (shape : Shape) (s : WriterMembers W) (xs : List A) (kept : List R) (st : State) (old : W) where
  -- the own bytes of `i` elements were written, or are the first ones of a buffer
  pub record Buffered (i : ℕ) (now : W) (at : ℕ) (buffer : List ℕ) : Type 0 where
    -- the state that the data of the others was written from
    pub from : State
    pub done : List ℕ
    pub wrote : Wrote s old now done
    pub rest : owns w xs st (s.pos old) ≡ done ++ (take at buffer ++ owns w (drop i xs) from (s.pos now + at))
    pub kept_rest : drop i kept ≡ resolvers w (drop i xs) from
    pub fits : owns_fit w shape (drop i xs) from (s.pos now + at) → owns_fit w shape xs st (s.pos old)
    pub refused : (e : Error) → owns_refused w shape (drop i xs) from (s.pos now + at) e → owns_refused w shape xs st (s.pos old) e

  pub buffered_none : (buffer : List ℕ) → kept ≡ resolvers w xs st → Buffered 0 old 0 buffer
  buffered_none buffer e =
      let n : s.pos old + 0 ≡ s.pos old = add-zero (s.pos old) in
      record {
        from = st;
        done = [];
        wrote = written_none old;
        rest = ap (owns w xs st) (sym n);
        kept_rest = e;
        fits = λ f. let F : ℕ → Type 0 = λ k. owns_fit w shape xs st k in subst F n f;
        refused = λ d r. let F : ℕ → Type 0 = λ k. owns_refused w shape xs st k d in subst F n r;
      }

  -- the buffer was written
  pub buffered_flushed : (i : ℕ) (now next : W) (at : ℕ) (buffer other : List ℕ) → at ≤ length buffer → (h : Buffered i now at buffer)
      → Wrote s now next (take at buffer) → Buffered i next 0 other
  buffered_flushed i now next at buffer other within h g =
      let own = take at buffer in
      let n : s.pos now + at ≡ s.pos next + 0 = omega (arith, g.moves, length-take at buffer) in
      let later = drop i xs in
      record {
        from = h.from;
        done = h.done ++ own;
        wrote = wrote_both s (h.done ++ own) refl h.wrote g;
        rest = h.rest ∙ ap (λ k. h.done ++ (own ++ owns w later h.from k)) n ∙ sym (append_assoc h.done own (owns w later h.from (s.pos next + 0)));
        kept_rest = h.kept_rest;
        fits = λ f. let F : ℕ → Type 0 = λ k. owns_fit w shape later h.from k in h.fits (subst F (sym n) f);
        refused = λ d r. let F : ℕ → Type 0 = λ k. owns_refused w shape later h.from k d in h.refused d (subst F (sym n) r);
      }

  -- the resolver of the next one
  pub next_kept : (i : ℕ) (now : W) (at : ℕ) (buffer : List ℕ) (x : A) (k : R) → drop i xs ≡ x ∷ drop (i + 1) xs → drop i kept ≡ k ∷ drop (i + 1) kept → (h : Buffered i now at buffer)
      → (k ≡ w.resolver x h.from) × (drop (i + 1) kept ≡ resolvers w (drop (i + 1) xs) (state_after w x h.from))
  next_kept i now at buffer x k e f h =
      let both : k ∷ drop (i + 1) kept ≡ w.resolver x h.from ∷ resolvers w (drop (i + 1) xs) (state_after w x h.from) = sym f ∙ h.kept_rest ∙ ap (λ l. resolvers w l h.from) e in
      (cc, cc)

  -- the next one was resolved into the buffer
  pub buffered_next : (i : ℕ) (now : W) (at size : ℕ) (buffer next : List ℕ) (x : A) (k : R) → drop i xs ≡ x ∷ drop (i + 1) xs → drop i kept ≡ k ∷ drop (i + 1) kept
      → at ≤ length buffer → Buffered i now at buffer
      → size ≡ length (w.own x k (s.pos now + at)) → next ≡ overwrite buffer at (w.own x k (s.pos now + at)) → placed_fits w shape x k (s.pos now + at) → Buffered (i + 1) now (at + size) next
  buffered_next i now at size buffer next x k e f within h sized is fit =
      let m = next_kept i now at buffer x k e f h in
      let then = state_after w x h.from in
      let later = drop (i + 1) xs in
      let n = s.pos now + at in
      let own = w.own x (w.resolver x h.from) n in
      let F : R → Type 0 = λ r. placed_fits w shape x r n in
      let same : w.own x k n ≡ own = ap (λ r. w.own x r n) m.0 in
      let first : take (at + size) next ≡ take at buffer ++ own = ap (take (at + size)) is ∙ take_written buffer at size (w.own x k n) within sized ∙ ap (λ l. take at buffer ++ l) same in
      let moved : n + length own ≡ s.pos now + (at + size) = ap (λ l. n + length l) (sym same) ∙ ap (λ z. n + z) (sym sized) ∙ add_assoc (s.pos now) at size in
      record {
        from = then;
        done = h.done;
        wrote = h.wrote;
        rest =
            h.rest
            ∙ ap (λ l. h.done ++ (take at buffer ++ owns w l h.from n)) e
            ∙ ap (λ z. h.done ++ (take at buffer ++ (own ++ owns w later then z))) moved
            ∙ ap (λ l. h.done ++ l) (sym (append_assoc (take at buffer) own (owns w later then (s.pos now + (at + size)))))
            ∙ ap (λ l. h.done ++ (l ++ owns w later then (s.pos now + (at + size)))) (sym first);
        kept_rest = m.1;
        fits = λ p. let N : ℕ → Type 0 = λ z. owns_fit w shape later then z in let Q : List A → Type 0 = λ l. owns_fit w shape l h.from n in h.fits (subst Q (sym e) (subst F m.0 fit, subst N (sym moved) p));
        refused = λ d r. let N : ℕ → Type 0 = λ z. owns_refused w shape later then z d in let Q : List A → Type 0 = λ l. owns_refused w shape l h.from n d in h.refused d (subst Q (sym e) (inr (subst N (sym moved) r)));
      }

  -- the next one was refused
  pub buffered_refused : (i : ℕ) (now : W) (at : ℕ) (buffer : List ℕ) (x : A) (k : R) (d : Error) → drop i xs ≡ x ∷ drop (i + 1) xs → drop i kept ≡ k ∷ drop (i + 1) kept → Buffered i now at buffer
      → placed_refused w shape x k (s.pos now + at) d → Stops s old now (owns w xs st (s.pos old)) (owns_refused w shape xs st (s.pos old)) d
  buffered_refused i now at buffer x k d e f h r =
      let m = next_kept i now at buffer x k e f h in
      let n = s.pos now + at in
      let P : R → Type 0 = λ q. placed_refused w shape x q n d in
      let Q : List A → Type 0 = λ l. owns_refused w shape l h.from n d in
      let refused : Error → Type 0 = owns_refused w shape (drop i xs) h.from n in
      stopped_after s (owns w xs st (s.pos old)) refused (owns_refused w shape xs st (s.pos old)) h.rest (λ q. h.refused d q) h.wrote
      (stopped_before s now (take at buffer ++ owns w (drop i xs) h.from n) refused d (inr (subst Q (sym e) (inl (subst P m.0 r)))))

  pub buffered_refuses : (i : ℕ) (now : W) (at : ℕ) (buffer : List ℕ) (x : A) (k : R) (d : Error) → drop i xs ≡ x ∷ drop (i + 1) xs → drop i kept ≡ k ∷ drop (i + 1) kept → Buffered i now at buffer
      → placed_refused w shape x k (s.pos now + at) d → owns_refused w shape xs st (s.pos old) d
  buffered_refuses i now at buffer x k d e f h r =
      let m = next_kept i now at buffer x k e f h in
      let n = s.pos now + at in
      let P : R → Type 0 = λ q. placed_refused w shape x q n d in
      let Q : List A → Type 0 = λ l. owns_refused w shape l h.from n d in
      h.refused d (subst Q (sym e) (inl (subst P m.0 r)))

  -- the next one would end past the last position
  pub buffered_past : (i : ℕ) (now : W) (at : ℕ) (buffer : List ℕ) (x : A) → drop i xs ≡ x ∷ drop (i + 1) xs → Buffered i now at buffer
      → 2 ^ 64 ≤ s.pos now + at + size_of shape → Stops s old now (owns w xs st (s.pos old)) (owns_refused w shape xs st (s.pos old)) PositionTooLarge
  buffered_past i now at buffer x e h r =
      let n = s.pos now + at in
      let Q : List A → Type 0 = λ l. owns_refused w shape l h.from n PositionTooLarge in
      let refused : Error → Type 0 = owns_refused w shape (drop i xs) h.from n in
      stopped_after s (owns w xs st (s.pos old)) refused (owns_refused w shape xs st (s.pos old)) h.rest (λ q. h.refused PositionTooLarge q) h.wrote
      (stopped_before s now (take at buffer ++ owns w (drop i xs) h.from n) refused PositionTooLarge (inr (subst Q (sym e) (inl (inr (r, refl))))))

  -- the buffer could not be written
  pub buffered_stopped : (i : ℕ) (now new : W) (at : ℕ) (buffer : List ℕ) (d : Error) → Buffered i now at buffer
      → Fails s now new (take at buffer) d → Stops s old new (owns w xs st (s.pos old)) (owns_refused w shape xs st (s.pos old)) d
  buffered_stopped i now new at buffer d h g =
      let none : Error → Type 0 = λ _. ⊥ in
      let own = take at buffer in
      let rest = owns w (drop i xs) h.from (s.pos now + at) in
      stopped_after s (owns w xs st (s.pos old)) none (owns_refused w shape xs st (s.pos old)) h.rest (λ r. absurd r) h.wrote
      (stopped_first s rest (own ++ rest) none none refl (λ r. r) (inl g))

  -- all were resolved, and the buffer was written
  pub buffered_all : (i : ℕ) (now new : W) (at : ℕ) (buffer : List ℕ) → drop i xs ≡ [] → Buffered i now at buffer → Wrote s now new (take at buffer)
      → Wrote s old new (owns w xs st (s.pos old)) × owns_fit w shape xs st (s.pos old)
  buffered_all i now new at buffer e h g =
      let n = s.pos now + at in
      let Q : List A → Type 0 = λ l. owns_fit w shape l h.from n in
      let whole : owns w xs st (s.pos old) ≡ h.done ++ take at buffer = h.rest ∙ ap (λ l. h.done ++ (take at buffer ++ owns w l h.from n)) e ∙ ap (λ l. h.done ++ l) (append-nil (take at buffer)) in
      (wrote_both s (owns w xs st (s.pos old)) whole h.wrote g, h.fits (subst Q (sym e) tt))

  -- the last call that writes the buffer
  pub all_laid : (i : ℕ) (now new : W) (at : ℕ) (buffer : List ℕ) {B : Type 0} (result : Result B Error) → drop i xs ≡ [] → Buffered i now at buffer → Writes s now new (take at buffer) result
      → Lays s old new (owns w xs st (s.pos old)) (λ _. owns_fit w shape xs st (s.pos old)) (owns_refused w shape xs st (s.pos old)) result
  all_laid i now new at buffer (Ok r) e h g = buffered_all i now new at buffer e h g
  all_laid i now new at buffer (Err d) e h g = buffered_stopped i now new at buffer d h g

module _ {A R W : Type 0} (w : Spelling A R) (shape : Shape) (s : WriterMembers W) (xs : List A) (kept : List R) (old : W) where
  -- the first bytes of a buffer are own bytes, from each state that the data may have been written from, and zeros are
  -- after them
  pub record Filling (i : ℕ) (now : W) (at : ℕ) (buffer : List ℕ) : Type 0 where
    pub within : at ≤ length buffer
    pub blank : drop at buffer ≡ zeros (length buffer - at)
    pub placed : (st : State) → kept ≡ resolvers w xs st → Buffered w shape s xs kept st old i now at buffer

  pub filling_none : (buffer : List ℕ) → buffer ≡ zeros (length buffer) → Filling 0 old 0 buffer
  filling_none buffer e = record { within = omega arith; blank = e ∙ ap zeros (omega arith); placed = λ st is. buffered_none w shape s xs kept st old buffer is }

  -- the same, where all is what was said
  pub filling_moved : (i : ℕ) (now new : W) (at to : ℕ) (buffer other : List ℕ) → Filling i now at buffer → new ≡ now → to ≡ at → other ≡ buffer → Filling i new to other
  filling_moved i now new at to buffer other h e f g =
      let P : W → Type 0 = λ n. Filling i n to other in
      let Q : ℕ → Type 0 = λ n. Filling i now n other in
      let L : List ℕ → Type 0 = λ l. Filling i now at l in
      subst P (sym e) (subst Q (sym f) (subst L (sym g) h))

  pub filling_flushed : (i : ℕ) (now next : W) (at : ℕ) (buffer other : List ℕ) → Filling i now at buffer → Wrote s now next (take at buffer) → other ≡ zeros (length buffer) → Filling i next 0 other
  filling_flushed i now next at buffer other h g e =
      let n : length other ≡ length buffer = ap length e ∙ length-replicate _ _ in
      record {
        within = omega arith;
        blank = e ∙ ap zeros (omega (arith, n));
        placed = λ st is. buffered_flushed w shape s xs kept st old i now next at buffer other h.within (h.placed st is) g;
      }

  pub filling_next : (i : ℕ) (now : W) (at size : ℕ) (buffer next : List ℕ) (x : A) (k : R) → drop i xs ≡ x ∷ drop (i + 1) xs → drop i kept ≡ k ∷ drop (i + 1) kept
      → at + size ≤ length buffer → Filling i now at buffer
      → size ≡ length (w.own x k (s.pos now + at)) → next ≡ overwrite buffer at (w.own x k (s.pos now + at)) → placed_fits w shape x k (s.pos now + at) → Filling (i + 1) now (at + size) next
  filling_next i now at size buffer next x k e f room h sized is fit =
      let own = w.own x k (s.pos now + at) in
      let behind = blank_behind buffer next at size own room sized is h.blank in
      record {
        within = omega (arith, room, behind.0);
        blank = behind.1;
        placed = λ st made. buffered_next w shape s xs kept st old i now at size buffer next x k e f h.within (h.placed st made) sized is fit;
      }

-- ---- without a writer

no_bytes : (n : ℕ) (l : List ℕ) → n ≡ n + length l → l ≡ []
no_bytes n [] e = refl
no_bytes n (x ∷ l) e = absurd (omega (arith, e))

-- nothing is written: a position represents the writer
abbrev pub unwritten : WriterMembers ℕ
unwritten = record { known = λ _ _. unmet; pos = λ n. n; OBSERVABLE = false; COUNTS = false; contents = λ _. []; failures = λ _. 0; last_error = λ _. OutOfMemory }

pub all_filled : {A R : Type 0} (w : Spelling A R) (shape : Shape) (xs : List A) (kept : List R) (st : State) (pos i at : ℕ) (buffer : List ℕ) → drop i xs ≡ [] → Buffered w shape unwritten xs kept st pos i pos at buffer
    → (take at buffer ≡ owns w xs st pos) × owns_fit w shape xs st pos
all_filled {A = A} w shape xs kept st pos i at buffer e h =
    let Q : List A → Type 0 = λ l. owns_fit w shape l h.from (pos + at) in
    let none : h.done ≡ [] = no_bytes pos h.done h.wrote.moves in (
      sym (h.rest ∙ ap (λ l. l ++ (take at buffer ++ owns w (drop i xs) h.from (pos + at))) none ∙ ap (λ l. take at buffer ++ owns w l h.from (pos + at)) e ∙ append-nil (take at buffer)),
      h.fits (subst Q (sym e) tt),
    )

-- the next one ends where all of them end
pub next_within : (i n size : ℕ) → i < n → i * size + size ≤ n * size
next_within i n size h = let e : (i + 1) * size ≤ n * size = mul-le-mul_right size (omega (arith, h)) in omega (arith, e)

-- a size that is cut at 2^64 - 1 is the size, where a multiple of it is few bytes
pub few_sized : (n size cut few : ℕ) → few < 2 ^ 64 - 1 → cut ≡ min size (2 ^ 64 - 1) → min (n * cut) (2 ^ 64 - 1) ≤ few → (n * size ≤ few) × (n * size ≡ n * cut)
few_sized zero size cut few small e h = (let z : 0 * size ≡ 0 = zero-mul size in omega (arith, z), zero-mul size ∙ sym (zero-mul cut))
few_sized (suc n) size cut few small e h =
    let once : cut ≤ suc n * cut = subst (λ k. k ≤ suc n * cut) (one-mul cut) (mul-le-mul_right cut (omega arith)) in
    let same : size ≡ cut = omega (arith, once, h, e, small) in
    let f : suc n * size ≡ suc n * cut = ap (λ k. suc n * k) same in
    (omega (arith, f, h, small), f)
