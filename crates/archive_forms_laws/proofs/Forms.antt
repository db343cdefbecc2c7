-- The laws of how each form is compared.
use Rattle.std.proofs.Common.{◌≡◌, Bool, true, false, refl}
use Rattle.std.specs.Cmp.{on_equiv, on_total, and_equiv, then_total, both_tied, nat_eq_equiv, nat_cmp_total, unsigned_Decides, int_eq_equiv, signed_Decides, booleans_Decides, int_cmp_total, bool_eq_equiv, bool_cmp_total, unsigned_ties}
use Rattle.std.specs.Cmp.Lexicographic.{lists_equiv, lists_total, lists_ties, options_equiv, options_total, nat_list_eq_equiv, nat_list_cmp_total, texts_ties, bytes_decides}
use Rattle.std.specs.Hash.{on_Alike, same_Alike, items_Alike, and-Alike, none_alike}
use Rattle.std.specs.Hash as fed
use Rattle.std.specs.Ordering.{bool_cmp, is_eq}
use Rattle.std.specs.Bool.{beq}
use Rattle.archive_forms_laws.specs.Views.{natural_of, integer_of, truth_of, text_of, option_of, result_of, elements_of, head_of, rest_of}
use Rattle.archive_forms_laws.specs.Orders.{by_natural, by_integer, unit_equality, no_fields_equality}
use Rattle.archive_forms_laws.specs.OrderingLaws.{AreEquivalences, AreTotal, AllAgree, AreHashedAlike, IsLawful}
use Rattle.archive_forms_laws.proofs.OrderingResults.{options_tied, results_tied, options_alike, results_alike, results_equiv, results_total}

pub equivalences : AreEquivalences
equivalences = record {
  naturals = on_equiv natural_of nat_eq_equiv;
  integers = on_equiv integer_of int_eq_equiv;
  truths = on_equiv truth_of bool_eq_equiv;
  texts = on_equiv text_of nat_list_eq_equiv;
  options = λ E e. on_equiv option_of (options_equiv e);
  results = λ E F e f. on_equiv result_of (results_equiv e f);
  vectors = λ E e. on_equiv elements_of (lists_equiv e);
  no_fields = record { refl = λ v. refl; symm = λ v w. refl; congr = λ v w u e. refl };
  more_fields = λ E F e f. and_equiv (on_equiv head_of e) (on_equiv rest_of f);
  tuples = λ F f. on_equiv elements_of f;
  units = record { refl = λ v. refl; symm = λ v w. refl; congr = λ v w u e. refl };
}

pub total : AreTotal
total = record {
  naturals = on_total natural_of nat_cmp_total;
  integers = on_total integer_of int_cmp_total;
  truths = on_total truth_of bool_cmp_total;
  texts = on_total text_of nat_list_cmp_total;
  options = λ R o. on_total option_of (options_total o);
  results = λ R S o u. on_total result_of (results_total o u);
  vectors = λ R o. on_total elements_of (lists_total o);
  no_fields = record { antisymm = λ v w. refl; trans = λ v w u e f. e; congr = λ v w u e. refl };
  more_fields = λ R S o u. then_total (on_total head_of o) (on_total rest_of u);
  tuples = λ R o. on_total elements_of o;
  units = record { antisymm = λ v w. refl; trans = λ v w u e f. e; congr = λ v w u e. refl };
}

truths_tied : (a b : Bool) → beq a b ≡ is_eq (bool_cmp a b)
truths_tied false false = refl
truths_tied false true = refl
truths_tied true false = refl
truths_tied true true = refl

pub agree : AllAgree
agree = record {
  naturals = λ v w. unsigned_ties (natural_of v) (natural_of w);
  integers = λ v w. refl;
  truths = λ v w. truths_tied (truth_of v) (truth_of w);
  texts = λ v w. texts_ties (text_of v) (text_of w);
  options = λ E R t v w. options_tied R t (option_of v) (option_of w);
  results = λ E F R S t u v w. results_tied R S t u (result_of v) (result_of w);
  vectors = λ E R t v w. lists_ties R t (elements_of v) (elements_of w);
  no_fields = λ vs ws. refl;
  more_fields = λ E F R S t u vs ws. both_tied _ _ (R (head_of vs) (head_of ws)) (S (rest_of vs) (rest_of ws)) (t (head_of vs) (head_of ws)) (u (rest_of vs) (rest_of ws));
  tuples = λ F S t v w. t (elements_of v) (elements_of w);
  units = λ v w. refl;
}

pub alike : AreHashedAlike
alike = record {
  naturals = λ F. on_Alike natural_of (same_Alike F unsigned_Decides);
  integers = λ F. on_Alike integer_of (same_Alike F signed_Decides);
  truths = λ F. on_Alike truth_of (same_Alike F booleans_Decides);
  texts = on_Alike text_of (same_Alike fed.str bytes_decides);
  options = λ E F a. on_Alike option_of (options_alike a);
  results = λ E F G H a b. on_Alike result_of (results_alike a b);
  vectors = λ E F a. on_Alike elements_of (items_Alike a);
  no_fields = none_alike no_fields_equality;
  more_fields = λ E F G H a b. and-Alike (on_Alike head_of a) (on_Alike rest_of b);
  tuples = λ F H a. on_Alike elements_of a;
  units = none_alike unit_equality;
}

pub naturals_lawful : IsLawful by_natural
naturals_lawful = record { is_equivalence = equivalences.naturals; is_total = total.naturals; agrees = agree.naturals }

pub integers_lawful : IsLawful by_integer
integers_lawful = record { is_equivalence = equivalences.integers; is_total = total.integers; agrees = agree.integers }
