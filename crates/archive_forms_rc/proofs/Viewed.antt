-- A shared value is written alike however it is seen.
use Rattle.std.proofs.Common.{◌≡◌, ℕ, length, sym, subst, Option, Some, None}
use Rattle.std.specs.Prelude.{Result}
use Rattle.archive_shape_layout.specs.Shape.{Pointee}
use Rattle.archive_shape_layout.specs.Holds.{Visit}
use Rattle.archive_shape_layout.specs.Writing.{WriterMembers}
use Rattle.archive_shape_layout.specs.declared.error.Error.{Error}
use Rattle.archive_forms_laws.specs.State.{State, advanced, visit_of_key}
use Rattle.archive_forms_laws.specs.Spelling.{Spelling}
use Rattle.archive_forms_laws.specs.Forms.{seen_as}
use Rattle.archive_forms_laws.specs.Shared.{shared_piece, shared_resolver, shared_met, shared_fits, shared_refused, shared_spelling}
use Rattle.archive_forms_laws.specs.Serializing.{IsAt, LaysData, Serializes}
use Rattle.archive_forms_rc.specs.declared.resolving.RcResolver.{RcResolver}
use Rattle.archive_forms_rc.specs.Counted.{rc_of}

module _ {A W : Type 0} (q : Pointee) (len : A → ℕ) (w : Spelling A ℕ) (m : WriterMembers W) (old new : W) (result : Result RcResolver Error) where
  -- the contract of a call, by what was visited under the key
  abbrev Promised : {B : Type 0} → (B → ℕ) → (B → ℕ) → Spelling B ℕ → B → State → Option Visit → Type 0
  Promised count key u x st o =
      LaysData m old new (shared_piece q count key u x st o)
      (λ r. (r ≡ record { pos = shared_resolver q count key u x st o }) × shared_fits q count key u x st o × IsAt m.pos m.known new (advanced (length (shared_piece q count key u x st o)) (shared_met q count key u x st o) st))
      (shared_refused q count key u x st o) result

  module _ {B : Type 0} (view : B → A) (key : B → ℕ) (x : B) (st : State) where
    seen_from : (o : Option Visit) → Promised (λ y. len (view y)) key (seen_as view w) x st o → Promised len (λ a. key x) w (view x) st o
    seen_from (Some v) h = h
    seen_from None h = h

    seen_to : (o : Option Visit) → Promised len (λ a. key x) w (view x) st o → Promised (λ y. len (view y)) key (seen_as view w) x st o
    seen_to (Some v) h = h
    seen_to None h = h

  -- by one view as by another of the same
  pub seen_alike : {B C : Type 0} (f : B → A) (key : B → ℕ) (g : C → A) (x : B) (y : C) → f x ≡ g y
      → Serializes (rc_of (shared_spelling q (λ c. len (g c)) (λ c. key x) (seen_as g w))) m y old new result
      → Serializes (rc_of (shared_spelling q (λ b. len (f b)) key (seen_as f w))) m x old new result
  seen_alike f key g x y same h st at =
      let o = visit_of_key st.met (key x) in
      seen_to f key x st o (subst (λ a. Promised len (λ b. key x) w a st o) (sym same) (seen_from g (λ c. key x) y st o (h st at)))
