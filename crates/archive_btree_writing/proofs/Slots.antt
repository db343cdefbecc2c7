-- Values in slots side by side, which are written one after the other over zeros.
use Rattle.std.proofs.Common.{◌≡◌, ℕ, zero, suc, ◌+◌, ◌*◌, ◌≤◌, ◌<◌, List, [], ◌∷◌, ◌++◌, length, take, get_or, arith, length-append, append_assoc, append-nil, ap, sym, refl, subst, ◌∙◌, inl, inr, mul-le-mul_right}
use Rattle.std.proofs.lemmas.List.{length-take, take_all}
use Rattle.archive_shape.specs.Bytes.{HasBytes, zeros, overwrite}
use Rattle.archive_shape.proofs.Written.{length-overwrite}
use Rattle.archive_forms_laws.specs.State.{State}
use Rattle.archive_forms_laws.specs.Spelling.{Spelling, state_after}
use Rattle.archive_forms_laws.specs.Regions.{resolvers}
use Rattle.archive_forms_values.proofs.Joined.{overwrites_joined}
use Rattle.archive_forms_writing.proofs.Joining.{still_zero, unfilled}
use Rattle.archive_btree_spelling.specs.Written.{slots, AllSlots, AnySlot}

-- the state when the data of the first values is written
abbrev pub state_before : {C : Type 0} → (C → State → State) → List C → ℕ → State → State
state_before after [] i st = st
state_before after (x ∷ xs) zero st = st
state_before after (x ∷ xs) (suc i) st = state_before after xs i (after x st)

module _ {C : Type 0} (after : C → State → State) (size : ℕ) where
  -- ---- one more slot

  slots_more :
      (own : C → State → ℕ → List ℕ) (xs : List C) (i : ℕ) (x : C) (st : State) (pos at : ℕ) → i < length xs → x ≡ get_or xs i x → at ≡ pos + i * size
      → slots after size own (take (suc i) xs) st pos ≡ slots after size own (take i xs) st pos ++ own x (state_before after xs i st) at
  slots_more own [] i x st pos at h e a = absurd (omega (arith, h))
  slots_more own (y ∷ ys) zero x st pos at h e a =
      let here : pos ≡ at = omega (arith, a) in
      append-nil (own y st pos) ∙ ap (λ z. own z st pos) (sym e) ∙ ap (own x st) here
  slots_more own (y ∷ ys) (suc i) x st pos at h e a =
      let step : suc i * size ≡ i * size + size = omega arith in
      ap (λ l. own y st pos ++ l) (slots_more own ys i x (after y st) (pos + size) at (omega (arith, h)) e (omega (arith, a, step)))
      ∙ sym (append_assoc (own y st pos) (slots after size own (take i ys) (after y st) (pos + size)) (own x (state_before after ys i (after y st)) at))

  all_more :
      (P : C → State → ℕ → Type 0) (xs : List C) (i : ℕ) (x : C) (st : State) (pos at : ℕ) → i < length xs → x ≡ get_or xs i x → at ≡ pos + i * size
      → AllSlots after size P (take i xs) st pos → P x (state_before after xs i st) at → AllSlots after size P (take (suc i) xs) st pos
  all_more P [] i x st pos at h e a f p = absurd (omega (arith, h))
  all_more P (y ∷ ys) zero x st pos at h e a f p =
      let here : at ≡ pos = omega (arith, a) in
      let N : ℕ → Type 0 = λ n. P x st n in
      let X : C → Type 0 = λ z. P z st pos in
      (subst X e (subst N here p), tt)
  all_more P (y ∷ ys) (suc i) x st pos at h e a f p =
      let step : suc i * size ≡ i * size + size = omega arith in
      (f.0, all_more P ys i x (after y st) (pos + size) at (omega (arith, h)) e (omega (arith, a, step)) f.1 p)

  any_there :
      (P : C → State → ℕ → Type 0) (xs : List C) (i : ℕ) (x : C) (st : State) (pos at : ℕ) → i < length xs → x ≡ get_or xs i x → at ≡ pos + i * size
      → P x (state_before after xs i st) at → AnySlot after size P xs st pos
  any_there P [] i x st pos at h e a p = absurd (omega (arith, h))
  any_there P (y ∷ ys) zero x st pos at h e a p =
      let here : at ≡ pos = omega (arith, a) in
      let N : ℕ → Type 0 = λ n. P x st n in
      let X : C → Type 0 = λ z. P z st pos in
      inl (subst X e (subst N here p))
  any_there P (y ∷ ys) (suc i) x st pos at h e a p =
      let step : suc i * size ≡ i * size + size = omega arith in
      inr (any_there P ys i x (after y st) (pos + size) at (omega (arith, h)) e (omega (arith, a, step)) p)

  -- ---- slots that are written

  module _ (own : C → State → ℕ → List ℕ) (Fits : C → State → ℕ → Type 0) (sized : (x : C) (st : State) (pos : ℕ) → Fits x st pos → length (own x st pos) ≡ size) where
    pub length-slots : (xs : List C) (st : State) (pos : ℕ) → AllSlots after size Fits xs st pos → length (slots after size own xs st pos) ≡ length xs * size
    length-slots [] st pos f = omega arith
    length-slots (x ∷ xs) st pos f =
        length-append (own x st pos) (slots after size own xs (after x st) (pos + size)) ∙ omega (arith, sized x st pos f.0, length-slots xs (after x st) (pos + size) f.1)

    module _ (xs : List C) (bytes : List ℕ) (start pos : ℕ) where
      -- the first slots are written
      pub record Laid (st : State) (i : ℕ) (now : List ℕ) : Type 0 where
        pub written : now ≡ overwrite bytes start (slots after size own (take i xs) st pos)
        pub fits : AllSlots after size Fits (take i xs) st pos

      pub laid_none : (st : State) → Laid st 0 bytes
      laid_none st = record { written = sym (unfilled bytes start 0 refl); fits = tt }

      module _ {st : State} {i : ℕ} {now : List ℕ} (x : C) (less : i < length xs) (is : x ≡ get_or xs i x) (room : start + length xs * size ≤ length bytes) (h : Laid st i now) where
        length_done : length (slots after size own (take i xs) st pos) ≡ i * size
        length_done = let n : length (take i xs) ≡ i = omega (arith, length-take i xs, less) in length-slots (take i xs) st pos h.fits ∙ ap (λ m. m * size) n

        ends : i * size + size ≤ length xs * size
        ends = let m : suc i * size ≤ length xs * size = mul-le-mul_right size (omega (arith, less)) in let step : suc i * size ≡ i * size + size = omega arith in omega (arith, m, step)

        pub laid_length : length now ≡ length bytes
        laid_length = ap length h.written ∙ length-overwrite bytes start (slots after size own (take i xs) st pos) (omega (arith, length_done, ends, room))

        -- there is room for the next one, which is zero
        pub laid_zero : HasBytes bytes start (zeros (length xs * size)) → HasBytes now (start + i * size) (zeros size)
        laid_zero blank =
            let P : List ℕ → Type 0 = λ l. HasBytes l (start + i * size) (zeros size) in
            subst P (sym h.written) (still_zero bytes start (length xs * size) room blank (slots after size own (take i xs) st pos) (i * size) size (omega (arith, length_done)) ends)

        pub laid_next : (next : List ℕ) (offset there : ℕ) → offset ≡ start + i * size → there ≡ pos + i * size → Fits x (state_before after xs i st) there → next ≡ overwrite now offset (own x (state_before after xs i st) there) → Laid st (i + 1) next
        laid_next next offset there a b fit e =
            let one : suc i ≡ i + 1 = omega arith in
            let L : ℕ → Type 0 = λ m. Laid st m next in
            let done = slots after size own (take i xs) st pos in
            let piece = own x (state_before after xs i st) there in
            let long : length piece ≡ size = sized x (state_before after xs i st) there fit in
            subst L one (record {
              written =
                  e
                  ∙ ap (λ l. overwrite l offset piece) h.written
                  ∙ ap (λ m. overwrite (overwrite bytes start done) m piece) a
                  ∙ overwrites_joined bytes start (i * size) done piece (sym length_done) (omega (arith, length_done, long, ends, room))
                  ∙ ap (overwrite bytes start) (sym (slots_more own xs i x st pos there less is b));
              fits = all_more Fits xs i x st pos there less is b h.fits fit;
            })

        pub laid_refused : (refused : C → State → ℕ → Type 0) (there : ℕ) → there ≡ pos + i * size → refused x (state_before after xs i st) there → AnySlot after size refused xs st pos
        laid_refused refused there b r = any_there refused xs i x st pos there less is b r

      pub laid_all : {st : State} {i : ℕ} {now : List ℕ} → length xs ≤ i → Laid st i now → AllSlots after size Fits xs st pos × (now ≡ overwrite bytes start (slots after size own xs st pos))
      laid_all {st} {i} {now} end h =
          let all : take i xs ≡ xs = take_all i xs end in
          let F : List C → Type 0 = λ l. AllSlots after size Fits l st pos in
          (subst F all h.fits, h.written ∙ ap (λ l. overwrite bytes start (slots after size own l st pos)) all)

-- ---- the resolver of a value

pub kept_at : {C Q : Type 0} (w : Spelling C Q) (xs : List C) (kept : List Q) (i : ℕ) (x : C) (d : Q) (st : State) → kept ≡ resolvers w xs st → i < length xs → x ≡ get_or xs i x
    → get_or kept i d ≡ w.resolver x (state_before (state_after w) xs i st)
kept_at w [] kept i x d st e h is = absurd (omega (arith, h))
kept_at w (y ∷ ys) kept zero x d st e h is = ap (λ l. get_or l 0 d) e ∙ ap (λ z. w.resolver z st) (sym is)
kept_at w (y ∷ ys) kept (suc i) x d st e h is =
    ap (λ l. get_or l (suc i) d) e ∙ kept_at w ys (resolvers w ys (state_after w y st)) i x d (state_after w y st) refl (omega (arith, h)) is
