-- The data of values side by side, in two parts.
use Rattle.std.proofs.Common.{◌≡◌, List, [], ◌∷◌, ◌++◌, ◌+◌, length, length-append, append_assoc, add-zero, refl, ap, sym, ◌∙◌, inr, arith}
use Rattle.archive_shape_layout.specs.declared.error.Error.{Error}
use Rattle.archive_forms_laws.specs.State.{State}
use Rattle.archive_forms_laws.specs.Spelling.{Spelling, state_after}
use Rattle.archive_forms_laws.specs.Regions.{state_after_all, pieces, resolvers, pieces_fit, pieces_refused}

module _ {C R : Type 0} (w : Spelling C R) where
  pub state-pos : (xs : List C) (st : State) → (state_after_all w xs st).pos ≡ st.pos + length (pieces w xs st)
  state-pos [] st = sym (add-zero st.pos)
  state-pos (x ∷ xs) st = let rest = state-pos xs (state_after w x st) in omega (arith, rest, length-append (w.piece x st) (pieces w xs (state_after w x st)))

  pub state-begun : (xs : List C) (st : State) → (state_after_all w xs st).begun ≡ st.begun
  state-begun [] st = refl
  state-begun (x ∷ xs) st = state-begun xs (state_after w x st)

  pub state-append : (xs ys : List C) (st : State) → state_after_all w (xs ++ ys) st ≡ state_after_all w ys (state_after_all w xs st)
  state-append [] ys st = refl
  state-append (x ∷ xs) ys st = state-append xs ys (state_after w x st)

  pub pieces-append : (xs ys : List C) (st : State) → pieces w (xs ++ ys) st ≡ pieces w xs st ++ pieces w ys (state_after_all w xs st)
  pieces-append [] ys st = refl
  pieces-append (x ∷ xs) ys st =
      let then = state_after w x st in
      ap (λ l. w.piece x st ++ l) (pieces-append xs ys then) ∙ sym (append_assoc (w.piece x st) (pieces w xs then) (pieces w ys (state_after_all w xs then)))

  pub resolvers-append : (xs ys : List C) (st : State) → resolvers w (xs ++ ys) st ≡ resolvers w xs st ++ resolvers w ys (state_after_all w xs st)
  resolvers-append [] ys st = refl
  resolvers-append (x ∷ xs) ys st = ap (λ l. w.resolver x st ∷ l) (resolvers-append xs ys (state_after w x st))

  pub fit-append : (xs ys : List C) (st : State) → pieces_fit w xs st → pieces_fit w ys (state_after_all w xs st) → pieces_fit w (xs ++ ys) st
  fit-append [] ys st f g = g
  fit-append (x ∷ xs) ys st f g = (f.0, fit-append xs ys (state_after w x st) f.1 g)

  pub refused-append : (xs ys : List C) (st : State) (e : Error) → pieces_refused w ys (state_after_all w xs st) e → pieces_refused w (xs ++ ys) st e
  refused-append [] ys st e r = r
  refused-append (x ∷ xs) ys st e r = inr (refused-append xs ys (state_after w x st) e r)
