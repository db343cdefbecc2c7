-- Where two spellings say the same of a value, they say the same of it where it is shared.
use Rattle.std.proofs.Common.{◌≡◌, ℕ, ◌+◌, List, ◌∷◌, ◌++◌, length, Option, Some, None, refl, ◌⊎◌}
use Rattle.archive_shape_layout.specs.Shape.{Pointee}
use Rattle.archive_shape_layout.specs.Value.Value.{counted}
use Rattle.archive_shape_layout.specs.Holds.{Visit}
use Rattle.archive_shape.specs.Bytes.{zeros}
use Rattle.archive_shape_layout.specs.declared.error.Error.{Error}
use Rattle.archive_shape_layout.specs.declared.error.Error.TheVariants.{CyclicSharedPointer, AlreadyFinished}
use Rattle.archive_forms_laws.specs.State.{State, with_begun, visit_of_key, IsNoneOf, IsOneOf}
use Rattle.archive_forms_laws.specs.Spelling.{Spelling}
use Rattle.archive_forms_laws.specs.Shared.{shared_padding, shared_value, shared_piece, shared_resolver, shared_met, shared_fits, shared_refused, shared_spelling}
use Rattle.archive_forms_laws.proofs.Agreeing.{said}

module _ {A : Type 0} (q : Pointee) (len key : A → ℕ) (w u : Spelling A ℕ) (x : A) (same : said w x ≡ said u x) where
  abbrev k : ℕ
  k = key x

  module _ (st : State) where
    abbrev then : State
    then = with_begun k st

    values_agree : (o : Option Visit) → shared_value q len key w x st o ≡ shared_value q len key u x st o
    values_agree None = λ i. counted ((same i).resolver then) ((same i).value then)
    values_agree (Some v) = refl

    pieces_agree : (o : Option Visit) → shared_piece q len key w x st o ≡ shared_piece q len key u x st o
    pieces_agree None = λ i. (same i).piece then ++ zeros (shared_padding ((same i).resolver then) (st.pos + length ((same i).piece then)))
    pieces_agree (Some v) = refl

    resolvers_agree : (o : Option Visit) → shared_resolver q len key w x st o ≡ shared_resolver q len key u x st o
    resolvers_agree None = λ i. (same i).resolver then
    resolvers_agree (Some v) = refl

    mets_agree : (o : Option Visit) → shared_met q len key w x st o ≡ shared_met q len key u x st o
    mets_agree None = λ i. record { key = k; visit = record { pos = (same i).resolver then; pointee = q; len = len x; value = (same i).value then } } ∷ (same i).met then
    mets_agree (Some v) = refl

    fits_agree : (o : Option Visit) → shared_fits q len key w x st o ≡ shared_fits q len key u x st o
    fits_agree None = λ i. IsNoneOf k st.begun × (same i).piece_fits then × (visit_of_key ((same i).met then) k ≡ None)
    fits_agree (Some v) = refl

    refusals_agree : (e : Error) (o : Option Visit) → shared_refused q len key w x st o e ≡ shared_refused q len key u x st o e
    refusals_agree e None = λ i.
        (IsOneOf k st.begun × (e ≡ CyclicSharedPointer))
        ⊎ (IsNoneOf k st.begun × (same i).piece_refused then e)
        ⊎ ((visit_of_key ((same i).met then) k ≡ None → ⊥) × (e ≡ AlreadyFinished))
    refusals_agree e (Some v) = refl

  pub shared_agree : said (shared_spelling q len key w) x ≡ said (shared_spelling q len key u) x
  shared_agree = λ i. record {
    value = λ st. values_agree st (visit_of_key st.met k) i;
    plain = counted 0 (same i).plain;
    piece = λ st. pieces_agree st (visit_of_key st.met k) i;
    resolver = λ st. resolvers_agree st (visit_of_key st.met k) i;
    met = λ st. mets_agree st (visit_of_key st.met k) i;
    own = (same i).own;
    piece_fits = λ st. fits_agree st (visit_of_key st.met k) i;
    piece_refused = λ st e. refusals_agree st e (visit_of_key st.met k) i;
    own_fits = (same i).own_fits;
    own_refused = (same i).own_refused;
    suits = λ fit keys. (keys k ≡ Some (record { pointee = q; len = len x; value = (same i).plain })) × (same i).suits fit keys;
  }
