-- The faults are the stated ones: the lines before each lead to open containers, and its cause is the first.
use Rattle.std.proofs.Common.{◌≡◌, ◌≢◌, ℕ, zero, suc, ◌<◌, ◌≤◌, ◌^◌, pos, eqb, false, List, [], ◌∷◌, length, IsUtf8, FitsSigned, w64, sym, ap, subst, ◌∙◌, refl, inl, inr, arith, codes}
use Rattle.std.specs.Fmt.{decimal, digits}
use Rattle.std.specs.Ordering.{is_lt}
use Rattle.std.specs.Str.Parse.{digits_value}
use Rattle.std.proofs.lemmas.Fmt.{digits_value-decimal}
use Rattle.std.proofs.lemmas.List.Elements.{All-nil, All-head}
use Rattle.std.proofs.lemmas.Bool.{false≢true}
use Rattle.cabinet_text_grammar.specs.Keys.{MapKind, ordered, hashed, kept, MayFollow}
use Rattle.cabinet_text_grammar.specs.Tree.{number, Tree, just, list, map, whole, no_trees, more_trees, no_pairs, more_pairs}
use Rattle.cabinet_text_grammar.specs.Wholes.{same, IsDocument}
use Rattle.cabinet_text_grammar.specs.Item.{Item, leaf_item, none_item, key_item, whole_item, wholes_item}
use Rattle.cabinet_text_grammar.specs.Spelling.{escaped, spelled, lines_of}
use Rattle.cabinet_text_grammar.specs.Frame.{Frame, in_option, in_list, at_key, items_of_stack, AreOpen}
use Rattle.cabinet_text_grammar.specs.Due.{a_head, a_key}
use Rattle.cabinet_text_grammar.specs.Reading.{Reading, nothing_read, IsReading, reading, read}
use Rattle.cabinet_text_grammar.specs.Fault.{inside, after_a_document, HasBadEscape, HasCount, IsHead, bad_count}
use Rattle.cabinet_text_grammar.specs.declared.cause.Cause.TheVariants.{NoNewline, EndTooEarly, KeyExpected, BadEscape, KeyOrder, KeyRepeated, UnknownHead, BadNumber, UnknownWhole, TooDeep, LineAfterEnd}
use Rattle.cabinet_text_grammar.proofs.Escapes.{first_differs, rest_same}
use Rattle.cabinet_text_grammar.proofs.Lacking.{Lacks, Lacks-escaped, own}
use Rattle.cabinet_text_grammar.proofs.Utf8.{IsUtf8-word}
use Rattle.cabinet_text_grammar.proofs.ReadBack.{item_of_line, same_item}
use Rattle.cabinet_text_grammar.proofs.Faults.{head_item}
use Rattle.cabinet_text_grammar.proofs.FirstCauses.{ends_early, line_after_end, key_expected, bad_key_escape, wrong_key, no_item, unknown_head, bad_number_first, unknown_whole, too_deep, no_newline, bad_wholes, at_start, at_reading, at_end}
use Rattle.cabinet_text_grammar.proofs.Equal.{itself}
use Rattle.cabinet_text_grammar.proofs.Completed.{repeated_whole, whole_order}
use Rattle.cabinet_text_grammar.specs.Documents.{numeral}
use Rattle.cabinet_text_grammar.specs.Faulty.{HashedKeysThatDescend, OrderedKeyTwice, KeptKeyTwice, SomeWithAnArgument, KeyInPlaceOfAHead, HeadInPlaceOfAKey, CountWithALeadingZero, KeyWithARawSpace, OptionWithoutItsNode, MapWithoutItsSecondPair, ListWithoutItsSecondElement, LineAfterADocument, LastLineWithoutANewline, SixtyFiveOptions, WholeWithoutWholes, WholeInItself, WholesOnALaterLine, NoWholes, EqualWholes, UnusedWhole, WholesOutOfOrder}

-- the root, with some containers open
abbrev in_root : List Frame → Reading
in_root fs = record { lacking = 0; table = []; stack = fs }

is_reading : (fs : List Frame) → AreOpen [] 0 fs → IsReading (in_root fs)
is_reading fs are = record { counted = omega arith; table = tt; stack = are }

-- any key may be the first
may_begin : (kind : MapKind) (k : List ℕ) → MayFollow kind [] k
may_begin ordered k = tt
may_begin hashed k = tt
may_begin kept k = All-nil (λ before. before ≢ k)

one_fits : FitsSigned w64 (pos 1)
one_fits = record { sfits = omega arith }

-- a map that has one of two pairs
one_of_two : (kind : MapKind) (k : List ℕ) → IsUtf8 k → AreOpen [] 0 (at_key kind 2 (more_pairs k (numeral 1) no_pairs) ∷ [])
one_of_two kind k utf8 = ((omega arith, omega arith, ((utf8, may_begin kind k), (one_fits, tt)), omega arith, (tt, tt)), tt, tt)

-- a map that has none of one
none_of_one : (kind : MapKind) → AreOpen [] 0 (at_key kind 1 no_pairs ∷ [])
none_of_one kind = ((omega arith, omega arith, tt, omega arith, tt), tt, tt)

list_of_one : AreOpen [] 0 (in_list 1 no_trees ∷ [])
list_of_one = ((omega arith, omega arith, tt, omega arith, tt), tt, tt)

pub hashed_keys_that_descend : HashedKeysThatDescend
unfolding digits
hashed_keys_that_descend = record {
  before = codes "hashed 2" ∷ codes "'b" ∷ codes "int 1" ∷ [];
  rest = codes "'a\nint 2\n";
  stage = reading (in_root (at_key hashed 2 (more_pairs (codes "b") (numeral 1) no_pairs) ∷ []));
  input_is = refl;
  reached = inside (in_root (at_key hashed 2 (more_pairs (codes "b") (numeral 1) no_pairs) ∷ [])) (is_reading (at_key hashed 2 (more_pairs (codes "b") (numeral 1) no_pairs) ∷ []) (one_of_two hashed (codes "b") (IsUtf8-word (codes "b") refl))) refl refl;
  line_is = refl;
  first =
      at_reading (in_root (at_key hashed 2 (more_pairs (codes "b") (numeral 1) no_pairs) ∷ [])) _ KeyOrder (omega arith)
      (wrong_key hashed (codes "b" ∷ []) (codes "a") (IsUtf8-word (codes "a") refl) (λ below. false≢true (ap is_lt below)));
}

pub ordered_key_twice : OrderedKeyTwice
unfolding digits
ordered_key_twice = record {
  before = codes "ordered 2" ∷ codes "'a" ∷ codes "int 1" ∷ [];
  rest = codes "'a\nint 2\n";
  stage = reading (in_root (at_key ordered 2 (more_pairs (codes "a") (numeral 1) no_pairs) ∷ []));
  input_is = refl;
  reached = inside (in_root (at_key ordered 2 (more_pairs (codes "a") (numeral 1) no_pairs) ∷ [])) (is_reading (at_key ordered 2 (more_pairs (codes "a") (numeral 1) no_pairs) ∷ []) (one_of_two ordered (codes "a") (IsUtf8-word (codes "a") refl))) refl refl;
  line_is = refl;
  first =
      at_reading (in_root (at_key ordered 2 (more_pairs (codes "a") (numeral 1) no_pairs) ∷ [])) _ KeyOrder (omega arith)
      (wrong_key ordered (codes "a" ∷ []) (codes "a") (IsUtf8-word (codes "a") refl) (λ below. false≢true (ap is_lt below)));
}

pub kept_key_twice : KeptKeyTwice
unfolding digits
kept_key_twice = record {
  before = codes "kept 2" ∷ codes "'a" ∷ codes "int 1" ∷ [];
  rest = codes "'a\nint 2\n";
  stage = reading (in_root (at_key kept 2 (more_pairs (codes "a") (numeral 1) no_pairs) ∷ []));
  input_is = refl;
  reached = inside (in_root (at_key kept 2 (more_pairs (codes "a") (numeral 1) no_pairs) ∷ [])) (is_reading (at_key kept 2 (more_pairs (codes "a") (numeral 1) no_pairs) ∷ []) (one_of_two kept (codes "a") (IsUtf8-word (codes "a") refl))) refl refl;
  line_is = refl;
  first =
      at_reading (in_root (at_key kept 2 (more_pairs (codes "a") (numeral 1) no_pairs) ∷ [])) _ KeyRepeated (omega arith)
      (wrong_key kept (codes "a" ∷ []) (codes "a") (IsUtf8-word (codes "a") refl) (λ others. All-head (λ before. before ≢ codes "a") (codes "a") [] others refl));
}

-- a line that begins with the word of no count
no_count :
    (b : ℕ) (bs rest : List ℕ)
    → eqb b 108 ≡ false → eqb b 111 ≡ false → eqb b 104 ≡ false → eqb b 107 ≡ false → eqb b 119 ≡ false → HasCount (b ∷ bs) rest → ⊥
no_count b bs rest p q r s t (inl h) = first_differs p h
no_count b bs rest p q r s t (inr (inl h)) = first_differs q h
no_count b bs rest p q r s t (inr (inr (inl h))) = first_differs r h
no_count b bs rest p q r s t (inr (inr (inr (inl h)))) = first_differs s h
no_count b bs rest p q r s t (inr (inr (inr (inr h)))) = first_differs t h

no_text_after_some : HasBadEscape (codes "some 1") → ⊥
no_text_after_some (inl bad) = first_differs refl bad.1
no_text_after_some (inr bad) = first_differs refl (rest_same bad.1)

some_alone : spelled (item_of_line (codes "some 1")) ≢ codes "some 1"
unfolding item_of_line
some_alone h = omega (arith, ap length h)

pub some_with_an_argument : SomeWithAnArgument
unfolding digits
some_with_an_argument = record {
  before = [];
  rest = codes "some 1\n";
  stage = reading nothing_read;
  input_is = refl;
  reached = inside nothing_read (is_reading [] tt) refl refl;
  line_is = refl;
  first =
      at_reading nothing_read _ UnknownHead (omega arith)
      (at_start (codes "some 1") UnknownHead (λ rest h. first_differs refl h)
      (unknown_head [] 0 (codes "some 1") (IsUtf8-word (codes "some 1") refl) no_text_after_some
      (λ i p h. no_item (codes "some 1") some_alone i (head_item i p) h)
      (λ rest h. first_differs refl h)
      (λ rest c. no_count 115 (codes "ome 1") rest refl refl refl refl refl c)));
}

no_text_in_a_key : HasBadEscape (codes "'a") → ⊥
no_text_in_a_key (inl bad) = first_differs refl bad.1
no_text_in_a_key (inr bad) = first_differs refl bad.1

key_is_no_head : (i : Item) → IsHead i → codes "'a" ≢ spelled i
key_is_no_head i p h =
    subst IsHead (same_item i (key_item (codes "a")) (head_item i p) (IsUtf8-word (codes "a") refl) (sym h)) p

pub key_in_place_of_a_head : KeyInPlaceOfAHead
unfolding digits
key_in_place_of_a_head = record {
  before = codes "list 1" ∷ [];
  rest = codes "'a\n";
  stage = reading (in_root (in_list 1 no_trees ∷ []));
  input_is = refl;
  reached = inside (in_root (in_list 1 no_trees ∷ [])) (is_reading (in_list 1 no_trees ∷ []) list_of_one) refl refl;
  line_is = refl;
  first =
      at_reading (in_root (in_list 1 no_trees ∷ [])) _ UnknownHead (omega arith)
      (unknown_head [] 1 (codes "'a") (IsUtf8-word (codes "'a") refl) no_text_in_a_key key_is_no_head
      (λ rest h. first_differs refl h)
      (λ rest c. no_count 39 (codes "a") rest refl refl refl refl refl c));
}

pub head_in_place_of_a_key : HeadInPlaceOfAKey
unfolding digits
head_in_place_of_a_key = record {
  before = codes "ordered 1" ∷ [];
  rest = codes "int 1\nint 2\n";
  stage = reading (in_root (at_key ordered 1 no_pairs ∷ []));
  input_is = refl;
  reached = inside (in_root (at_key ordered 1 no_pairs ∷ [])) (is_reading (at_key ordered 1 no_pairs ∷ []) (none_of_one ordered)) refl refl;
  line_is = refl;
  first =
      at_reading (in_root (at_key ordered 1 no_pairs ∷ [])) _ KeyExpected (omega arith)
      (key_expected ordered [] (codes "int 1") (IsUtf8-word (codes "int 1") refl) (λ rest h. first_differs refl h));
}

no_text_in_a_count : HasBadEscape (codes "kept 01") → ⊥
no_text_in_a_count (inl bad) = first_differs refl bad.1
no_text_in_a_count (inr bad) = first_differs refl bad.1

no_leading_zero : (n : ℕ) → n < 2 ^ 64 → codes "01" ≢ decimal n
unfolding digits
no_leading_zero n below h =
    let value : 1 ≡ n = ap (digits_value 10) h ∙ digits_value-decimal own n below in
    let sizes : 2 ≡ 1 = ap length (h ∙ ap decimal (sym value)) in
    omega (arith, sizes)

pub count_with_a_leading_zero : CountWithALeadingZero
unfolding digits
count_with_a_leading_zero = record {
  before = [];
  rest = codes "kept 01\n";
  stage = reading nothing_read;
  input_is = refl;
  reached = inside nothing_read (is_reading [] tt) refl refl;
  line_is = refl;
  first =
      at_reading nothing_read _ BadNumber (omega arith)
      (at_start (codes "kept 01") BadNumber (λ rest h. first_differs refl h)
      (bad_number_first [] 0 (codes "kept 01") (IsUtf8-word (codes "kept 01") refl) no_text_in_a_count
      (bad_count (codes "01") (inr (inr (inr (inl refl)))) no_leading_zero)));
}

no_raw_space : (t : List ℕ) → IsUtf8 t → codes "a b" ≢ escaped t
no_raw_space t utf8 h =
    let lacks : Lacks 32 (codes "a b") = subst (Lacks 32) (sym h) (Lacks-escaped 32 t (inr refl)) in
    lacks.1.0 refl

pub key_with_a_raw_space : KeyWithARawSpace
unfolding digits
key_with_a_raw_space = record {
  before = codes "ordered 1" ∷ [];
  rest = codes "'a b\nint 2\n";
  stage = reading (in_root (at_key ordered 1 no_pairs ∷ []));
  input_is = refl;
  reached = inside (in_root (at_key ordered 1 no_pairs ∷ [])) (is_reading (at_key ordered 1 no_pairs ∷ []) (none_of_one ordered)) refl refl;
  line_is = refl;
  first =
      at_reading (in_root (at_key ordered 1 no_pairs ∷ [])) _ BadEscape (omega arith)
      (bad_key_escape ordered [] (codes "'a b") (IsUtf8-word (codes "'a b") refl) (codes "a b", refl, no_raw_space));
}

pub option_without_its_node : OptionWithoutItsNode
unfolding digits
option_without_its_node = record {
  before = codes "some" ∷ [];
  rest = [];
  stage = reading (in_root (in_option ∷ []));
  input_is = refl;
  reached = inside (in_root (in_option ∷ [])) (is_reading (in_option ∷ []) (omega arith, tt, tt)) refl refl;
  line_is = refl;
  first =
      at_reading (in_root (in_option ∷ [])) _ EndTooEarly (omega arith)
      (ends_early (a_head [] 1) (λ h. cc));
}

pub map_without_its_second_pair : MapWithoutItsSecondPair
unfolding digits
map_without_its_second_pair = record {
  before = codes "kept 2" ∷ codes "'a" ∷ codes "int 1" ∷ [];
  rest = [];
  stage = reading (in_root (at_key kept 2 (more_pairs (codes "a") (numeral 1) no_pairs) ∷ []));
  input_is = refl;
  reached = inside (in_root (at_key kept 2 (more_pairs (codes "a") (numeral 1) no_pairs) ∷ [])) (is_reading (at_key kept 2 (more_pairs (codes "a") (numeral 1) no_pairs) ∷ []) (one_of_two kept (codes "a") (IsUtf8-word (codes "a") refl))) refl refl;
  line_is = refl;
  first =
      at_reading (in_root (at_key kept 2 (more_pairs (codes "a") (numeral 1) no_pairs) ∷ [])) _ EndTooEarly (omega arith)
      (ends_early (a_key kept (codes "a" ∷ [])) (λ h. cc));
}

abbrev map_with_an_option : Tree
map_with_an_option = map ordered (more_pairs (codes "a") (just (numeral 1)) no_pairs)

list_with_a_map : AreOpen [] 0 (in_list 2 (more_trees map_with_an_option no_trees) ∷ [])
list_with_a_map =
    ((omega arith, omega arith, ((((IsUtf8-word (codes "a") refl, tt), (one_fits, tt)), omega arith), tt), omega arith, ((tt, tt), tt)), tt, tt)

pub list_without_its_second_element : ListWithoutItsSecondElement
unfolding digits
list_without_its_second_element = record {
  before = codes "list 2" ∷ codes "ordered 1" ∷ codes "'a" ∷ codes "some" ∷ codes "int 1" ∷ [];
  rest = [];
  stage = reading (in_root (in_list 2 (more_trees map_with_an_option no_trees) ∷ []));
  input_is = refl;
  reached = inside (in_root (in_list 2 (more_trees map_with_an_option no_trees) ∷ [])) (is_reading (in_list 2 (more_trees map_with_an_option no_trees) ∷ []) list_with_a_map) refl refl;
  line_is = refl;
  first =
      at_reading (in_root (in_list 2 (more_trees map_with_an_option no_trees) ∷ [])) _ EndTooEarly (omega arith)
      (ends_early (a_head [] 1) (λ h. cc));
}

empty_map : IsDocument (map ordered no_pairs)
empty_map = ((tt, omega arith), omega arith, omega arith)

pub line_after_a_document : LineAfterADocument
unfolding digits
line_after_a_document = record {
  before = codes "ordered 0" ∷ [];
  rest = codes "none\n";
  stage = read [] (map ordered no_pairs);
  input_is = refl;
  reached = after_a_document (map ordered no_pairs) empty_map refl refl;
  line_is = refl;
  first = at_end [] (map ordered no_pairs) _ LineAfterEnd (line_after_end (codes "none") (IsUtf8-word (codes "none") refl));
}

pub last_line_without_a_newline : LastLineWithoutANewline
unfolding digits
last_line_without_a_newline = record {
  before = codes "list 1" ∷ [];
  rest = codes "int 5";
  stage = reading (in_root (in_list 1 no_trees ∷ []));
  input_is = refl;
  reached = inside (in_root (in_list 1 no_trees ∷ [])) (is_reading (in_list 1 no_trees ∷ []) list_of_one) refl refl;
  line_is = refl;
  first =
      at_reading (in_root (in_list 1 no_trees ∷ [])) _ NoNewline (omega arith)
      (no_newline (a_head [] 1) (codes "int 5") (IsUtf8-word (codes "int 5") refl));
}

abbrev options : ℕ → List Frame
options zero = []
options (suc n) = in_option ∷ options n

length-options : (n : ℕ) → length (options n) ≡ n
length-options zero = refl
length-options (suc n) = ap suc (length-options n)

options_open : (n : ℕ) → n ≤ 64 → AreOpen [] 0 (options n)
options_open zero few = tt
options_open (suc zero) few = (omega arith, tt, tt)
options_open (suc (suc n)) few =
    (omega (arith, few, length-options n), tt, options_open (suc n) (omega (arith, few)))

pub sixty_five_options : SixtyFiveOptions
unfolding digits
sixty_five_options = record {
  before = lines_of (items_of_stack [] (options 64));
  rest = codes "none\n";
  stage = reading (in_root (options 64));
  input_is = refl;
  reached = inside (in_root (options 64)) (is_reading (options 64) (options_open 64 (omega arith))) refl refl;
  line_is = refl;
  first =
      at_reading (in_root (options 64)) _ TooDeep (omega arith)
      (too_deep [] 64 none_item (omega arith) (λ below. omega (arith, below)));
}

-- ---- wholes

pub whole_without_wholes : WholeWithoutWholes
unfolding digits
whole_without_wholes = record {
  before = [];
  rest = codes "whole 0\n";
  stage = reading nothing_read;
  input_is = refl;
  reached = inside nothing_read (is_reading [] tt) refl refl;
  line_is = refl;
  first =
      at_reading nothing_read _ UnknownWhole (omega arith)
      (at_start (codes "whole 0") UnknownWhole (λ rest h. first_differs refl (rest_same (rest_same (rest_same (rest_same (rest_same h))))))
      (unknown_whole [] 0 0 (omega arith) (omega arith)));
}

-- the tree of the first of n wholes
abbrev in_first : ℕ → Reading
in_first n = record { lacking = n; table = []; stack = [] }

pub whole_in_itself : WholeInItself
unfolding digits
whole_in_itself = record {
  before = codes "wholes 1" ∷ [];
  rest = codes "whole 0\nwhole 0\n";
  stage = reading (in_first 1);
  input_is = refl;
  reached = inside (in_first 1) (record { counted = omega arith; table = tt; stack = tt }) refl refl;
  line_is = refl;
  first = at_reading (in_first 1) _ UnknownWhole (omega arith) (unknown_whole [] 1 0 (omega arith) (omega arith));
}

no_count_in_wholes : (rest : List ℕ) → HasCount (codes "wholes 1") rest → ⊥
no_count_in_wholes rest (inl h) = first_differs refl h
no_count_in_wholes rest (inr (inl h)) = first_differs refl h
no_count_in_wholes rest (inr (inr (inl h))) = first_differs refl h
no_count_in_wholes rest (inr (inr (inr (inl h)))) = first_differs refl h
no_count_in_wholes rest (inr (inr (inr (inr h)))) = first_differs refl (rest_same (rest_same (rest_same (rest_same (rest_same h)))))

no_text_in_wholes : HasBadEscape (codes "wholes 1") → ⊥
no_text_in_wholes (inl bad) = first_differs refl bad.1
no_text_in_wholes (inr bad) = first_differs refl bad.1

wholes_is_no_head : (i : Item) → IsHead i → codes "wholes 1" ≢ spelled i
unfolding digits
wholes_is_no_head i p h = subst IsHead (same_item i (wholes_item 1) (head_item i p) (omega arith) (sym h)) p

pub wholes_on_a_later_line : WholesOnALaterLine
unfolding digits
wholes_on_a_later_line = record {
  before = codes "list 1" ∷ [];
  rest = codes "wholes 1\n";
  stage = reading (in_root (in_list 1 no_trees ∷ []));
  input_is = refl;
  reached = inside (in_root (in_list 1 no_trees ∷ [])) (is_reading (in_list 1 no_trees ∷ []) list_of_one) refl refl;
  line_is = refl;
  first =
      at_reading (in_root (in_list 1 no_trees ∷ [])) _ UnknownHead (omega arith)
      (unknown_head [] 1 (codes "wholes 1") (IsUtf8-word (codes "wholes 1") refl) no_text_in_wholes wholes_is_no_head (λ rest h. first_differs refl h) no_count_in_wholes);
}

no_number_of_none : (n : ℕ) → 0 < n → n < 2 ^ 64 → codes "0" ≢ decimal n
unfolding digits
no_number_of_none n some below h =
    let value : 0 ≡ n = ap (digits_value 10) h ∙ digits_value-decimal own n below in
    omega (arith, some, value)

pub no_wholes : NoWholes
unfolding digits
no_wholes = record {
  before = [];
  rest = codes "wholes 0\n";
  stage = reading nothing_read;
  input_is = refl;
  reached = inside nothing_read (is_reading [] tt) refl refl;
  line_is = refl;
  first = at_reading nothing_read _ BadNumber (omega arith) (bad_wholes (codes "wholes 0") (IsUtf8-word (codes "wholes 0") refl) (codes "0", refl, no_number_of_none));
}

number_fits : (n : ℕ) → n < 2 ^ 63 → FitsSigned w64 (pos n)
number_fits n below = record { sfits = omega (arith, below) }

-- after the first of two wholes, which is 5
abbrev after_five : Reading
after_five = record { lacking = 1; table = numeral 5 ∷ []; stack = [] }

pub equal_wholes : EqualWholes
unfolding digits
equal_wholes = record {
  before = codes "wholes 2" ∷ codes "int 5" ∷ [];
  rest = codes "int 5\nlist 2\nwhole 0\nwhole 1\n";
  stage = reading after_five;
  input_is = refl;
  reached = inside after_five (record { counted = omega arith; table = ((number_fits 5 (omega arith), omega arith), tt, refl, tt); stack = tt }) refl refl;
  line_is = refl;
  first = repeated_whole after_five (leaf_item (number (pos 5))) (numeral 5) (number_fits 5 (omega arith)) refl (omega arith) refl;
}

-- the root, after one whole
abbrev one_whole : Reading
one_whole = record { lacking = 0; table = numeral 5 ∷ []; stack = [] }

pub unused_whole : UnusedWhole
unfolding digits
unused_whole = record {
  before = codes "wholes 1" ∷ codes "int 5" ∷ [];
  rest = codes "int 6\n";
  stage = reading one_whole;
  input_is = refl;
  reached = inside one_whole (record { counted = omega arith; table = ((number_fits 5 (omega arith), omega arith), tt, refl, tt); stack = tt }) refl refl;
  line_is = refl;
  first = whole_order one_whole (leaf_item (number (pos 6))) (numeral 6) (number_fits 6 (omega arith)) refl refl (λ h. cc);
}

-- a list of the second of two wholes and another element
abbrev second_first : Reading
second_first = record { lacking = 0; table = numeral 2 ∷ numeral 1 ∷ []; stack = in_list 2 (more_trees (whole (numeral 2)) no_trees) ∷ [] }

pub wholes_out_of_order : WholesOutOfOrder
unfolding digits
wholes_out_of_order = record {
  before = codes "wholes 2" ∷ codes "int 1" ∷ codes "int 2" ∷ codes "list 2" ∷ codes "whole 1" ∷ [];
  rest = codes "whole 0\n";
  stage = reading second_first;
  input_is = refl;
  reached =
      inside second_first
      (record {
        counted = omega arith;
        table = ((number_fits 2 (omega arith), omega arith), tt, refl, ((number_fits 1 (omega arith), omega arith), tt, refl, tt));
        stack = ((omega arith, omega arith, (number_fits 2 (omega arith), tt), omega arith, (refl, tt)), tt, tt);
      })
      refl
      refl;
  line_is = refl;
  first =
      whole_order second_first (whole_item 0) (list (more_trees (whole (numeral 2)) (more_trees (whole (numeral 1)) no_trees)))
      (omega arith, (numeral 1, refl, omega arith)) refl refl (λ h. two_is_not_one (first_tree h));
}
  where
    first_tree : numeral 1 ∷ numeral 2 ∷ [] ≡ numeral 2 ∷ numeral 1 ∷ [] → numeral 1 ≡ numeral 2
    first_tree h = cc

    two_is_not_one : numeral 1 ≡ numeral 2 → ⊥
    two_is_not_one h = false≢true (sym (ap (same (numeral 1)) h) ∙ itself (numeral 1))
