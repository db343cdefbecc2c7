-- Which heads lines are, and why lines are refused.
use Rattle.std.proofs.Common.{◌≡◌, ◌≢◌, ℕ, ℤ, Bool, true, false, Option, Some, None, MatchOption, is_some, not, length, ◌+◌, ◌<◌, ◌≤◌, ◌^◌, List, [], ◌++◌, IsUtf8, FitsSigned, w64, sym, ap, ◌∙◌, refl, inl, inr, subst, arith, codes}
use Rattle.std.specs.Prelude.{slice_get}
use Rattle.std.specs.Fmt.{decimal, signed_decimal}
use Rattle.std.proofs.lemmas.Option.{slice_get_within}
use Rattle.std.proofs.lemmas.Bool.{false≢true, cases_lt}
use Rattle.cabinet_text_grammar.specs.Keys.{ordered, hashed, kept}
use Rattle.cabinet_text_grammar.specs.Tree.{Tree, truth, number, text, depth as tree_depth}
use Rattle.cabinet_text_grammar.specs.Wholes.{numbered, IsTable}
use Rattle.cabinet_text_grammar.specs.Item.{Item, leaf_item, shared_item, none_item, some_item, list_item, map_item, key_item, whole_item, wholes_item, whole_head}
use Rattle.cabinet_text_grammar.specs.Due.{a_head, AdmitsHead}
use Rattle.cabinet_text_grammar.specs.Memory.{TakesMemory}
use Rattle.cabinet_text_grammar.specs.Spelling.{escaped, spelled, spelled_leaf}
use Rattle.cabinet_text_grammar.specs.Fault.{HasBadText, HasBadEscape, HasCount, bad_number, bad_count, IsHead, HasDueCause}
use Rattle.cabinet_text_grammar.specs.declared.cause.Cause.{Cause}
use Rattle.cabinet_text_grammar.specs.declared.cause.Cause.TheVariants.{NotUtf8, NoNewline, EndTooEarly, KeyExpected, BadEscape, KeyOrder, KeyRepeated, UnknownHead, BadNumber, UnknownWhole, TooDeep, RepeatedWhole, WholeOrder, LineAfterEnd, OutOfMemory}
use Rattle.cabinet_text_grammar.proofs.Escapes.{first_differs}
use Rattle.cabinet_text_grammar.proofs.Utf8.{is_ascii_word, IsUtf8-unescaped, IsUtf8-past_word}
use Rattle.cabinet_text_bytes.specs.Words.{IsEscaped}
use Rattle.cabinet_text_grammar.proofs.Pieces.{ended_piece}
use Rattle.cabinet_text_grammar.proofs.FirstCauses.{bad_escape, unknown_head, bad_number_first, unknown_whole, too_deep}
use Rattle.cabinet_text_grammar.proofs.Tables.{some_same, is_numbered, deep_numbered}
use Rattle.cabinet_text_grammar.proofs.Verdicts.{no_words}
use Rattle.cabinet_text_nodes.specs.Faults.{AreDepths}
use Rattle.cabinet_text_reading.specs.Causes.{IsFirstOf}
use Rattle.cabinet_text_reading.specs.Heads.{IsContainer, inner_depth, count_word, RefusesText, RefusesShared, IsTextItem}
use Rattle.cabinet_text_reading.proofs.Causes.{first_of, memory_first}
use Rattle.cabinet_text_reading.specs.declared.head.Counted.{Counted}
use Rattle.cabinet_text_reading.specs.declared.head.Counted.TheVariants.{List as List', Ordered, Hashed, Kept, Whole}

-- the bytes after a word, for equal bytes and an equal word
pub after_word : (line bytes prefix word rest : List ℕ) → bytes ≡ line → prefix ≡ word → bytes ≡ prefix ++ rest → line ≡ word ++ rest
after_word line bytes prefix word rest same_line same_word h = sym same_line ∙ h ∙ ap (λ w. w ++ rest) same_word

pub not_after_word : (line bytes prefix word : List ℕ) → bytes ≡ line → prefix ≡ word → ((rest : List ℕ) → bytes ≢ prefix ++ rest) → (rest : List ℕ) → line ≢ word ++ rest
not_after_word line bytes prefix word same_line same_word none rest h =
    none rest (same_line ∙ h ∙ ap (λ w. w ++ rest) (sym same_word))

-- the bytes after a word of a line are UTF-8
pub after_word_utf8 : (word line rest : List ℕ) → is_ascii_word word ≡ true → line ≡ word ++ rest → IsUtf8 line → IsUtf8 rest
after_word_utf8 word line rest ascii h utf8 = IsUtf8-past_word word rest ascii (subst IsUtf8 h utf8)

-- an argument is an escaped text where the length of its text is known
pub escaped_where_counted :
    (argument : List ℕ) (r : Option ℕ) (b : Bool) → is_some r ≡ not b → b ≡ false → IsUtf8 argument
    → MatchOption r ((t : List ℕ) → argument ≢ escaped t) (λ n. (t : List ℕ) × (length t ≡ n) × (argument ≡ escaped t))
    → IsEscaped argument
escaped_where_counted argument None b e f utf8 h = absurd (false≢true (e ∙ ap not f))
escaped_where_counted argument (Some n) b e f utf8 h = (h.0, IsUtf8-unescaped h.0 (subst IsUtf8 h.2 utf8), h.2)

-- and none where it is not
pub not_escaped :
    (argument : List ℕ) (r : Option ℕ) (b : Bool) → is_some r ≡ not b → b ≡ true
    → MatchOption r ((t : List ℕ) → argument ≢ escaped t) (λ n. (t : List ℕ) × (length t ≡ n) × (argument ≡ escaped t))
    → (t : List ℕ) → IsUtf8 t → argument ≢ escaped t
not_escaped argument None b e f h = λ t u. h t
not_escaped argument (Some n) b e f h = absurd (false≢true (sym (e ∙ ap not f)))

-- the word of a count or of a whole's number, with digits after it
pub has_count : (container : Counted) (digits : List ℕ) → HasCount (count_word container ++ digits) digits
has_count List' digits = inl refl
has_count Ordered digits = inr (inl refl)
has_count Hashed digits = inr (inr (inl refl))
has_count Kept digits = inr (inr (inr (inl refl)))
has_count Whole digits = inr (inr (inr (inr refl)))

no_words_count : (container : Counted) (digits : List ℕ) → HasBadEscape (count_word container ++ digits) → ⊥
no_words_count List' digits = no_words _ (λ rest f. first_differs refl f) (λ rest f. first_differs refl f)
no_words_count Ordered digits = no_words _ (λ rest f. first_differs refl f) (λ rest f. first_differs refl f)
no_words_count Hashed digits = no_words _ (λ rest f. first_differs refl f) (λ rest f. first_differs refl f)
no_words_count Kept digits = no_words _ (λ rest f. first_differs refl f) (λ rest f. first_differs refl f)
no_words_count Whole digits = no_words _ (λ rest f. first_differs refl f) (λ rest f. first_differs refl f)

no_head :
    (line : List ℕ)
    → ((rest : List ℕ) → line ≢ codes "text '" ++ rest) → ((rest : List ℕ) → line ≢ codes "shared '" ++ rest) → ((rest : List ℕ) → line ≢ codes "int " ++ rest)
    → ((rest : List ℕ) → HasCount line rest → ⊥) → ((b : Bool) → line ≢ spelled_leaf (truth b))
    → (line ≢ spelled none_item) × (line ≢ spelled some_item)
    → (i : Item) → IsHead i → line ≢ spelled i
no_head line no_text no_shared no_number no_count no_truth no_option (leaf_item (truth b)) p f = no_truth b f
no_head line no_text no_shared no_number no_count no_truth no_option (leaf_item (number n)) p f = no_number (signed_decimal n) f
no_head line no_text no_shared no_number no_count no_truth no_option (leaf_item (text t)) p f = no_text (escaped t) f
no_head line no_text no_shared no_number no_count no_truth no_option (shared_item t) p f = no_shared (escaped t) f
no_head line no_text no_shared no_number no_count no_truth no_option none_item p f = no_option.0 f
no_head line no_text no_shared no_number no_count no_truth no_option some_item p f = no_option.1 f
no_head line no_text no_shared no_number no_count no_truth no_option (list_item n) p f = no_count (decimal n) (inl f)
no_head line no_text no_shared no_number no_count no_truth no_option (map_item ordered n) p f = no_count (decimal n) (inr (inl f))
no_head line no_text no_shared no_number no_count no_truth no_option (map_item hashed n) p f = no_count (decimal n) (inr (inr (inl f)))
no_head line no_text no_shared no_number no_count no_truth no_option (map_item kept n) p f = no_count (decimal n) (inr (inr (inr (inl f))))
no_head line no_text no_shared no_number no_count no_truth no_option (whole_item n) p f = no_count (decimal n) (inr (inr (inr (inr f))))
no_head line no_text no_shared no_number no_count no_truth no_option (key_item k) p f = p
no_head line no_text no_shared no_number no_count no_truth no_option (wholes_item n) p f = p
no_head line no_text no_shared no_number no_count no_truth no_option whole_head p f = p

module _ (table : List Tree) (depth : ℕ) where
  -- memory is refused for the head of an item that takes some
  pub taken_first : (i : Item) → AdmitsHead table depth i → TakesMemory depth i → IsFirstOf (HasDueCause (a_head table depth) (ended_piece (spelled i))) OutOfMemory
  taken_first i admits takes = memory_first (a_head table depth) i admits (i, admits, refl, takes)

  -- no text is read after a word that a text or a shared text begins with
  pub text_refused :
      (word line argument : List ℕ) (make : List ℕ → Item) (cause : Cause)
      → ((t : List ℕ) → spelled (make t) ≡ word ++ escaped t)
      → ((t : List ℕ) → IsUtf8 t → AdmitsHead table depth (make t))
      → ((t : List ℕ) → t ≢ [] → TakesMemory depth (make t))
      → (HasBadText word line → HasBadEscape line)
      → line ≡ word ++ argument → IsUtf8 line → RefusesText argument cause
      → IsFirstOf (HasDueCause (a_head table depth) (ended_piece line)) cause
  text_refused word line argument make BadEscape spells admits takes bad h utf8 r = first_of (bad_escape table depth line utf8 (bad (argument, h, r)))
  text_refused word line argument make OutOfMemory spells admits takes bad h utf8 ((t, u, e), some) =
      let is : line ≡ spelled (make t) = h ∙ ap (λ w. word ++ w) e ∙ sym (spells t) in
      rw is (taken_first (make t) (admits t u) (takes t (λ none. some (e ∙ ap escaped none))))
  text_refused word line argument make NotUtf8 spells admits takes bad h utf8 r = absurd r
  text_refused word line argument make NoNewline spells admits takes bad h utf8 r = absurd r
  text_refused word line argument make EndTooEarly spells admits takes bad h utf8 r = absurd r
  text_refused word line argument make KeyExpected spells admits takes bad h utf8 r = absurd r
  text_refused word line argument make KeyOrder spells admits takes bad h utf8 r = absurd r
  text_refused word line argument make KeyRepeated spells admits takes bad h utf8 r = absurd r
  text_refused word line argument make UnknownHead spells admits takes bad h utf8 r = absurd r
  text_refused word line argument make BadNumber spells admits takes bad h utf8 r = absurd r
  text_refused word line argument make UnknownWhole spells admits takes bad h utf8 r = absurd r
  text_refused word line argument make TooDeep spells admits takes bad h utf8 r = absurd r
  text_refused word line argument make RepeatedWhole spells admits takes bad h utf8 r = absurd r
  text_refused word line argument make WholeOrder spells admits takes bad h utf8 r = absurd r
  text_refused word line argument make LineAfterEnd spells admits takes bad h utf8 r = absurd r

  -- no shared text is read
  pub shared_refused : (line argument : List ℕ) (cause : Cause) → line ≡ codes "shared '" ++ argument → IsUtf8 line → RefusesShared argument cause → IsFirstOf (HasDueCause (a_head table depth) (ended_piece line)) cause
  shared_refused line argument BadEscape h utf8 r = first_of (bad_escape table depth line utf8 (inr (argument, h, r)))
  shared_refused line argument OutOfMemory h utf8 (t, u, e) =
      let is : line ≡ spelled (shared_item t) = h ∙ ap (λ w. codes "shared '" ++ w) e in
      rw is (taken_first (shared_item t) u tt)
  shared_refused line argument NotUtf8 h utf8 r = absurd r
  shared_refused line argument NoNewline h utf8 r = absurd r
  shared_refused line argument EndTooEarly h utf8 r = absurd r
  shared_refused line argument KeyExpected h utf8 r = absurd r
  shared_refused line argument KeyOrder h utf8 r = absurd r
  shared_refused line argument KeyRepeated h utf8 r = absurd r
  shared_refused line argument UnknownHead h utf8 r = absurd r
  shared_refused line argument BadNumber h utf8 r = absurd r
  shared_refused line argument UnknownWhole h utf8 r = absurd r
  shared_refused line argument TooDeep h utf8 r = absurd r
  shared_refused line argument RepeatedWhole h utf8 r = absurd r
  shared_refused line argument WholeOrder h utf8 r = absurd r
  shared_refused line argument LineAfterEnd h utf8 r = absurd r

  -- there is no number after the word of a number
  pub number_unread : (line digits : List ℕ) → line ≡ codes "int " ++ digits → IsUtf8 line → ((n : ℤ) → FitsSigned w64 n → digits ≢ signed_decimal n) → IsFirstOf (HasDueCause (a_head table depth) (ended_piece line)) BadNumber
  number_unread line digits h utf8 none =
      first_of (bad_number_first table depth line utf8 (no_words line (λ rest f. first_differs refl (sym h ∙ f)) (λ rest f. first_differs refl (sym h ∙ f))) (bad_number digits h none))

  -- there is no count after the word of a count, or no number after that of a whole
  pub count_unread : (container : Counted) (digits : List ℕ) → IsUtf8 (count_word container ++ digits) → ((n : ℕ) → n < 2 ^ 64 → digits ≢ decimal n) → IsFirstOf (HasDueCause (a_head table depth) (ended_piece (count_word container ++ digits))) BadNumber
  count_unread container digits utf8 none =
      first_of (bad_number_first table depth _ utf8 (no_words_count container digits) (bad_count digits (has_count container digits) none))

  -- a line that begins with none of the words, and is no truth value's and no option's
  pub other_unknown :
      (line : List ℕ) → IsUtf8 line
      → ((rest : List ℕ) → line ≢ codes "text '" ++ rest) → ((rest : List ℕ) → line ≢ codes "shared '" ++ rest) → ((rest : List ℕ) → line ≢ codes "int " ++ rest)
      → ((rest : List ℕ) → HasCount line rest → ⊥) → ((b : Bool) → line ≢ spelled_leaf (truth b))
      → (line ≢ spelled none_item) × (line ≢ spelled some_item)
      → IsFirstOf (HasDueCause (a_head table depth) (ended_piece line)) UnknownHead
  other_unknown line utf8 no_text no_shared no_number no_count no_truth no_option =
      first_of (unknown_head table depth line utf8 (no_words line no_text no_shared)
      (no_head line no_text no_shared no_number no_count no_truth no_option) no_number no_count)

-- a whole that is complete, and the depth of its tree
pub whole_known : (table : List Tree) (depths : List ℕ) (n inner : ℕ) → AreDepths table depths → slice_get depths n ≡ Some inner → (t : Tree) × (numbered table n ≡ Some t) × (tree_depth t ≡ inner)
whole_known table depths n inner are found =
    let t = is_numbered table n (omega (arith, slice_get_within depths n inner found, are.as_many)) in
    let same : Some (tree_depth t.0) ≡ Some inner = sym (are.each n t.0 t.1) ∙ found in
    (t.0, t.1, cc)

whole_unknown : (table : List Tree) (depths : List ℕ) (n : ℕ) → AreDepths table depths → slice_get depths n ≡ None → length table ≤ n
whole_unknown table depths n are none =
    elim (cases_lt n (length table)) [
      | inr above ↦ above
      | inl below ↦
          let t = is_numbered table n below in
          let both : Some (tree_depth t.0) ≡ None = sym (are.each n t.0 t.1) ∙ none in
          cc
    ]

module _ (table : List Tree) (depths : List ℕ) (are : AreDepths table depths) where
  -- a container inside `around` is allowed where there is room for it
  pub container_within : (around inner : ℕ) (i : Item) → IsContainer i → inner_depth depths i ≡ Some inner → around + inner < 64 → AdmitsHead table around i
  container_within around inner none_item is found room = omega (arith, room)
  container_within around inner some_item is found room = omega (arith, room)
  container_within around inner (list_item n) is found room = (is, omega (arith, room))
  container_within around inner (map_item kind n) is found room = (is, omega (arith, room))
  container_within around inner (whole_item n) is found room =
      let w = whole_known table depths n inner are found in
      (is, (w.0, w.1, omega (arith, room, w.2)))
  container_within around inner (leaf_item l) is found room = absurd is
  container_within around inner (shared_item t) is found room = absurd is
  container_within around inner (key_item k) is found room = absurd is
  container_within around inner (wholes_item n) is found room = absurd is
  container_within around inner whole_head is found room = absurd is

  -- and not where there is none
  not_within : (around inner : ℕ) (i : Item) → IsContainer i → inner_depth depths i ≡ Some inner → AdmitsHead table around i → around + inner < 64
  not_within around inner none_item is found p =
      let zero : inner ≡ 0 = cc in
      omega (arith, p, zero)
  not_within around inner some_item is found p =
      let zero : inner ≡ 0 = cc in
      omega (arith, p, zero)
  not_within around inner (list_item n) is found p =
      let zero : inner ≡ 0 = cc in
      omega (arith, p.1, zero)
  not_within around inner (map_item kind n) is found p =
      let zero : inner ≡ 0 = cc in
      omega (arith, p.1, zero)
  not_within around inner (whole_item n) is found p =
      let w = whole_known table depths n inner are found in
      let same : p.1.0 ≡ w.0 = some_same p.1.0 w.0 (sym p.1.1 ∙ w.1) in
      omega (arith, p.1.2, ap tree_depth same, w.2)
  not_within around inner (leaf_item l) is found p = absurd is
  not_within around inner (shared_item t) is found p = absurd is
  not_within around inner (key_item k) is found p = absurd is
  not_within around inner (wholes_item n) is found p = absurd is
  not_within around inner whole_head is found p = absurd is

  -- the number of containers inside one is known to be below 64
  inner_below : (inner : ℕ) (i : Item) → IsTable table → IsContainer i → inner_depth depths i ≡ Some inner → inner < 64
  inner_below inner none_item is_table is found =
      let zero : inner ≡ 0 = cc in
      omega (arith, zero)
  inner_below inner some_item is_table is found =
      let zero : inner ≡ 0 = cc in
      omega (arith, zero)
  inner_below inner (list_item n) is_table is found =
      let zero : inner ≡ 0 = cc in
      omega (arith, zero)
  inner_below inner (map_item kind n) is_table is found =
      let zero : inner ≡ 0 = cc in
      omega (arith, zero)
  inner_below inner (whole_item n) is_table is found =
      let w = whole_known table depths n inner are found in
      omega (arith, deep_numbered table n w.0 is_table w.1, w.2)
  inner_below inner (leaf_item l) is_table is found = absurd is
  inner_below inner (shared_item t) is_table is found = absurd is
  inner_below inner (key_item k) is_table is found = absurd is
  inner_below inner (wholes_item n) is_table is found = absurd is
  inner_below inner whole_head is_table is found = absurd is

  -- a container inside too many
  pub container_too_deep : (around inner : ℕ) (i : Item) → IsTable table → IsContainer i → inner_depth depths i ≡ Some inner → 64 ≤ around + inner → IsFirstOf (HasDueCause (a_head table around) (ended_piece (spelled i))) TooDeep
  container_too_deep around inner i is_table is found deep =
      first_of (too_deep table around i (container_within 0 inner i is found (omega (arith, inner_below inner i is_table is found))) (λ p. omega (arith, not_within around inner i is found p, deep)))

  -- a whole that is not complete
  pub container_unknown : (around : ℕ) (i : Item) → IsContainer i → inner_depth depths i ≡ None → IsFirstOf (HasDueCause (a_head table around) (ended_piece (spelled i))) UnknownWhole
  container_unknown around (whole_item n) is none = first_of (unknown_whole table around n is (whole_unknown table depths n are none))
  container_unknown around none_item is none = cc
  container_unknown around some_item is none = cc
  container_unknown around (list_item n) is none = cc
  container_unknown around (map_item kind n) is none = cc
  container_unknown around (leaf_item l) is none = absurd is
  container_unknown around (shared_item t) is none = absurd is
  container_unknown around (key_item k) is none = absurd is
  container_unknown around (wholes_item n) is none = absurd is
  container_unknown around whole_head is none = absurd is

-- ---- the line of a text for which memory was refused

pub text_in_memory : (line argument : List ℕ) (cause : Cause) → line ≡ codes "text '" ++ argument → RefusesText argument cause → cause ≡ OutOfMemory → (i : Item) × IsTextItem i × (line ≡ spelled i)
text_in_memory line argument cause is refused memory =
    let t = (subst (RefusesText argument) memory refused).0 in
    (leaf_item (text t.0), t.1, is ∙ ap (λ w. codes "text '" ++ w) t.2)

pub shared_in_memory : (line argument : List ℕ) (cause : Cause) → line ≡ codes "shared '" ++ argument → RefusesShared argument cause → cause ≡ OutOfMemory → (i : Item) × IsTextItem i × (line ≡ spelled i)
shared_in_memory line argument cause is refused memory =
    let t = subst (RefusesShared argument) memory refused in
    (shared_item t.0, t.1, is ∙ ap (λ w. codes "shared '" ++ w) t.2)
