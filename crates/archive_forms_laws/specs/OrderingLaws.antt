-- The laws of how forms are compared, from those of their parts.
use Rattle.std.specs.Prelude.{◌≡◌, ℕ, ℤ, Bool, List}
use Rattle.std.specs.Cmp.{IsEquivalence, IsTotalOrder}
use Rattle.std.specs.declared.cmp.Ordering.{Ordering}
use Rattle.std.specs.Ordering.{is_eq}
use Rattle.std.specs.Hash.{Alike}
use Rattle.archive_shape_layout.specs.Value.{Value}
use Rattle.archive_forms_laws.specs.Views.{natural_of, integer_of, truth_of}
use Rattle.archive_forms_laws.specs.Orders.{Equality, Order, Hashed, Comparison, natural_equality, natural_order, integer_equality, integer_order, truth_equality, truth_order, text_equality, text_order, text_hashed, option_equality, option_order, option_hashed, result_equality, result_order, result_hashed, vector_equality, vector_order, vector_hashed, no_fields_equality, no_fields_order, no_fields_hashed, more_fields_equality, more_fields_order, more_fields_hashed, tuple_equality, tuple_order, tuple_hashed, unit_equality, unit_order, unit_hashed}

-- values are equal exactly where the order returns Equal
abbrev pub Agree : Equality → Order → Type 0
Agree E R = (v w : Value) → E v w ≡ is_eq (R v w)

abbrev pub AgreeOnLists : (List Value → List Value → Bool) → (List Value → List Value → Ordering) → Type 0
AgreeOnLists E R = (vs ws : List Value) → E vs ws ≡ is_eq (R vs ws)

-- it is an order that agrees with equality
pub record IsLawful (c : Comparison) : Type 0 where
  pub is_equivalence : IsEquivalence c.equal
  pub is_total : IsTotalOrder c.order
  pub agrees : Agree c.equal c.order

-- equality is an equivalence
pub record AreEquivalences : Type 0 where
  pub naturals : IsEquivalence natural_equality
  pub integers : IsEquivalence integer_equality
  pub truths : IsEquivalence truth_equality
  pub texts : IsEquivalence text_equality
  pub options : (E : Equality) → IsEquivalence E → IsEquivalence (option_equality E)
  pub results : (E F : Equality) → IsEquivalence E → IsEquivalence F → IsEquivalence (result_equality E F)
  pub vectors : (E : Equality) → IsEquivalence E → IsEquivalence (vector_equality E)
  pub no_fields : IsEquivalence no_fields_equality
  pub more_fields : (E : Equality) (F : List Value → List Value → Bool) → IsEquivalence E → IsEquivalence F → IsEquivalence (more_fields_equality E F)
  pub tuples : (F : List Value → List Value → Bool) → IsEquivalence F → IsEquivalence (tuple_equality F)
  pub units : IsEquivalence unit_equality

-- any two values compare
pub record AreTotal : Type 0 where
  pub naturals : IsTotalOrder natural_order
  pub integers : IsTotalOrder integer_order
  pub truths : IsTotalOrder truth_order
  pub texts : IsTotalOrder text_order
  pub options : (R : Order) → IsTotalOrder R → IsTotalOrder (option_order R)
  pub results : (R S : Order) → IsTotalOrder R → IsTotalOrder S → IsTotalOrder (result_order R S)
  pub vectors : (R : Order) → IsTotalOrder R → IsTotalOrder (vector_order R)
  pub no_fields : IsTotalOrder no_fields_order
  pub more_fields : (R : Order) (S : List Value → List Value → Ordering) → IsTotalOrder R → IsTotalOrder S → IsTotalOrder (more_fields_order R S)
  pub tuples : (R : List Value → List Value → Ordering) → IsTotalOrder R → IsTotalOrder (tuple_order R)
  pub units : IsTotalOrder unit_order

-- the order agrees with equality
pub record AllAgree : Type 0 where
  pub naturals : Agree natural_equality natural_order
  pub integers : Agree integer_equality integer_order
  pub truths : Agree truth_equality truth_order
  pub texts : Agree text_equality text_order
  pub options : (E : Equality) (R : Order) → Agree E R → Agree (option_equality E) (option_order R)
  pub results : (E F : Equality) (R S : Order) → Agree E R → Agree F S → Agree (result_equality E F) (result_order R S)
  pub vectors : (E : Equality) (R : Order) → Agree E R → Agree (vector_equality E) (vector_order R)
  pub no_fields : AgreeOnLists no_fields_equality no_fields_order
  pub more_fields : (E : Equality) (F : List Value → List Value → Bool) (R : Order) (S : List Value → List Value → Ordering)
      → Agree E R → AgreeOnLists F S → AgreeOnLists (more_fields_equality E F) (more_fields_order R S)
  pub tuples : (F : List Value → List Value → Bool) (S : List Value → List Value → Ordering) → AgreeOnLists F S → Agree (tuple_equality F) (tuple_order S)
  pub units : Agree unit_equality unit_order

-- equal values are hashed alike
pub record AreHashedAlike : Type 0 where
  pub naturals : (F : ℕ → List (List ℕ)) → Alike natural_equality (λ v. F (natural_of v))
  pub integers : (F : ℤ → List (List ℕ)) → Alike integer_equality (λ v. F (integer_of v))
  pub truths : (F : Bool → List (List ℕ)) → Alike truth_equality (λ v. F (truth_of v))
  pub texts : Alike text_equality text_hashed
  pub options : (E : Equality) (F : Hashed) → Alike E F → Alike (option_equality E) (option_hashed F)
  pub results : (E F : Equality) (G H : Hashed) → Alike E G → Alike F H → Alike (result_equality E F) (result_hashed G H)
  pub vectors : (E : Equality) (F : Hashed) → Alike E F → Alike (vector_equality E) (vector_hashed F)
  pub no_fields : Alike no_fields_equality no_fields_hashed
  pub more_fields : (E : Equality) (F : List Value → List Value → Bool) (G : Hashed) (H : List Value → List (List ℕ))
      → Alike E G → Alike F H → Alike (more_fields_equality E F) (more_fields_hashed G H)
  pub tuples : (F : List Value → List Value → Bool) (H : List Value → List (List ℕ)) → Alike F H → Alike (tuple_equality F) (tuple_hashed H)
  pub units : Alike unit_equality unit_hashed
