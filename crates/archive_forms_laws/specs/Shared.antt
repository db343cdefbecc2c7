-- How a pointer to a shared value is archived: the value is written at the first pointer with its key, and later ones
-- lead to the same position.
use Rattle.std.specs.Prelude.{◌≡◌, ℕ, ◌+◌, ◌==◌, cond, List, [], ◌∷◌, ◌++◌, length, Option, Some, None, ⊤, ◌⊎◌}
use Rattle.archive_shape_layout.specs.Shape.{Shape, Pointee}
use Rattle.archive_shape_layout.specs.Shape.Pointee.{sized, slice, str}
use Rattle.archive_shape_layout.specs.Value.{Value}
use Rattle.archive_shape_layout.specs.Value.Value.{counted}
use Rattle.archive_shape_layout.specs.Holds.{Visit}
use Rattle.archive_shape.specs.Bytes.{zeros}
use Rattle.archive_shape_layout.specs.declared.error.Error.{Error}
use Rattle.archive_shape_layout.specs.declared.error.Error.TheVariants.{CyclicSharedPointer, AlreadyFinished}
use Rattle.archive_forms_laws.specs.State.{State, Met, visit_of_key, with_begun, IsNoneOf, IsOneOf}
use Rattle.archive_forms_laws.specs.Spelling.{Spelling}
use Rattle.archive_forms_laws.specs.Pointers.{box_spelling, slice_spelling}
use Rattle.archive_forms_laws.specs.Texts.{boxed_text_spelling}

-- the number of zero bytes that follow a shared value: one where it has no byte itself
abbrev pub shared_padding : ℕ → ℕ → ℕ
shared_padding start end = cond (end == start) 1 0

-- of a pointee of `len` elements, where a pointer to it that is not shared is archived by `w`: its resolver is the
-- position of the pointee
module _ {A : Type 0} (q : Pointee) (len : A → ℕ) (key : A → ℕ) (w : Spelling A ℕ) where
  -- ---- the first pointer with a key

  -- where the value is written
  abbrev pub first_at : A → State → ℕ
  first_at x st = w.resolver x (with_begun (key x) st)

  abbrev pub first_piece : A → State → List ℕ
  first_piece x st =
      let piece = w.piece x (with_begun (key x) st) in
      piece ++ zeros (shared_padding (first_at x st) (st.pos + length piece))

  abbrev pub first_visit : A → State → Visit
  first_visit x st = record { pos = first_at x st; pointee = q; len = len x; value = w.value x (with_begun (key x) st) }

  -- ---- by what was visited under the key

  module _ (x : A) (st : State) where
    abbrev pub shared_value : Option Visit → Value
    shared_value None = counted (first_at x st) (w.value x (with_begun (key x) st))
    shared_value (Some v) = counted v.pos v.value

    abbrev pub shared_piece : Option Visit → List ℕ
    shared_piece None = first_piece x st
    shared_piece (Some v) = []

    abbrev pub shared_resolver : Option Visit → ℕ
    shared_resolver None = first_at x st
    shared_resolver (Some v) = v.pos

    abbrev pub shared_met : Option Visit → List Met
    shared_met None = record { key = key x; visit = first_visit x st } ∷ w.met x (with_begun (key x) st)
    shared_met (Some v) = st.met

    -- what was written under the key when the value's data is
    abbrev pub met_inside : Option Visit
    met_inside = visit_of_key (w.met x (with_begun (key x) st)) (key x)

    -- the key is not being written, and nothing is written under it while the value's data is
    abbrev pub shared_fits : Option Visit → Type 0
    shared_fits None = IsNoneOf (key x) st.begun × w.piece_fits x (with_begun (key x) st) × (met_inside ≡ None)
    shared_fits (Some v) = ⊤

    -- a value inside itself is refused
    abbrev pub shared_refused : Option Visit → Error → Type 0
    shared_refused None e =
        (IsOneOf (key x) st.begun × (e ≡ CyclicSharedPointer))
        ⊎ (IsNoneOf (key x) st.begun × w.piece_refused x (with_begun (key x) st) e)
        ⊎ ((met_inside ≡ None → ⊥) × (e ≡ AlreadyFinished))
    shared_refused (Some v) e = ⊥

  abbrev pub shared_spelling : Spelling A ℕ
  shared_spelling = record {
    value = λ x st. shared_value x st (visit_of_key st.met (key x));
    plain = λ x. counted 0 (w.plain x);
    piece = λ x st. shared_piece x st (visit_of_key st.met (key x));
    resolver = λ x st. shared_resolver x st (visit_of_key st.met (key x));
    met = λ x st. shared_met x st (visit_of_key st.met (key x));
    own = w.own;
    piece_fits = λ x st. shared_fits x st (visit_of_key st.met (key x));
    piece_refused = λ x st e. shared_refused x st (visit_of_key st.met (key x)) e;
    own_fits = w.own_fits;
    own_refused = w.own_refused;
    suits = λ fit keys x. (keys (key x) ≡ Some (record { pointee = q; len = len x; value = w.plain x })) × w.suits fit keys x;
  }

-- ---- a value, elements and a text that are shared

abbrev pub shared_value_spelling : {A R : Type 0} → Shape → (A → ℕ) → Spelling A R → Spelling A ℕ
shared_value_spelling s key w = shared_spelling (sized s) (λ x. 1) key (box_spelling s w)

abbrev pub shared_slice_spelling : {A R : Type 0} → Shape → (List A → ℕ) → Spelling A R → Spelling (List A) ℕ
shared_slice_spelling s key w = shared_spelling (slice s) length key (slice_spelling s w)

abbrev pub shared_text_spelling : (List ℕ → ℕ) → Spelling (List ℕ) ℕ
shared_text_spelling key = shared_spelling str length key boxed_text_spelling
