-- Lines cut into their words, and the errors of reading them.
use Rattle.std.proofs.Common.{◌≡◌, ◌≢◌, ℕ, ◌-◌, List, [], ◌∷◌, ◌++◌, length, get_or, take, drop, sym, subst, ap, ◌∙◌, ◌⊎◌, inl, inr, ⊎_elim, refl, arith, append_assoc, append-nil, length-append, codes, All, None, Some}
use Rattle.std.specs.Prelude.{◌==◌}
use Rattle.std.proofs.lemmas.Bool.{false≢true}
use Rattle.std.proofs.lemmas.List.{append_cancel_left}
use Rattle.std.proofs.lemmas.List.Elements.{All-cons}
use Rattle.std.proofs.Math.Seq.{take-append_seam, drop-append_seam}
use Rattle.cabinet_text_bytes.specs.Words.{IsEscaped, HasNoSpace, IsAtSpace}
use Rattle.cabinet_text_grammar.specs.Tree.{Leaf, text, IsLeaf}
use Rattle.cabinet_text_grammar.specs.Tree as tree
use Rattle.cabinet_text_grammar.specs.Answering.{head_of}
use Rattle.cabinet_text_grammar.specs.Spelling.{escaped, spelled, spelled_leaf}
use Rattle.cabinet_text_grammar.specs.Path.{Step, key}
use Rattle.cabinet_text_grammar.specs.Line.{Line, get, keys, range, set, IsPossible, IsStep, Says, spelled_path, spelling}
use Rattle.cabinet_text_grammar.proofs.Escapes.{rest_same, first_differs}
use Rattle.cabinet_text_grammar.proofs.Lacking.{Lacks-tested}
use Rattle.cabinet_text_grammar.proofs.Lines.{TwoWords}
use Rattle.cabinet_text_grammar.proofs.EditLines.{head_words}
use Rattle.cabinet_text_nodes.specs.declared.line.LineRefusal.{LineRefusal}
use Rattle.cabinet_text_nodes.specs.declared.line.LineRefusal.TheVariants.{Bad, OutOfMemory}
use Rattle.cabinet_text_reading.specs.Parts.{IsPath, BeginsWithWord, BeginsByKey, IsCutAfterHead, RefusesPath, RefusesLeaf}
use Rattle.cabinet_text_reading.specs.Reading.{HasSteps, TakesMemory, RefusesLine}
use Rattle.cabinet_text_reading.proofs.Paths.{one_word, same_cut, same_words, IsAtSpace-path, Lacks-from_HasNoSpace, cut_after_word}

-- the head of an option without a node, before a path
none_words :
    (word spaced : List ℕ) (path : List Step) → HasNoSpace word → IsAtSpace spaced
    → word ++ spaced ≡ codes "none" ++ spelled_path path → (word ≡ codes "none") × (spaced ≡ spelled_path path)
none_words word spaced path lacks space h =
    same_cut word (codes "none") spaced (spelled_path path) (Lacks-from_HasNoSpace word lacks) (Lacks-tested 32 (codes "none") refl) space
    (IsAtSpace-path path) h

pub none_cut :
    (bytes word spaced : List ℕ) → bytes ≡ word ++ spaced → HasNoSpace word → IsAtSpace spaced
    → word ≡ codes "none" → IsCutAfterHead bytes word spaced
none_cut bytes word spaced whole lacks space is = λ t path p h.
    elim (head_words t p) [
      | inl none ↦
          let cut = none_words word spaced path lacks space (sym whole ∙ h ∙ ap (λ u. spelled (head_of u) ++ spelled_path path) none) in
          (cut.0 ∙ ap (λ u. spelled (head_of u)) (sym none), cut.1)
      | inr w ↦
          let after = 32 ∷ (w.0.argument ++ spelled_path path) in
          let two = ap (λ v. v ++ spelled_path path) w.0.spelled ∙ append_assoc w.0.word (32 ∷ w.0.argument) (spelled_path path) in
          let cut = same_cut word w.0.word spaced after (Lacks-from_HasNoSpace word lacks) w.0.first_word space refl (sym whole ∙ h ∙ two) in
          absurd (false≢true (sym w.1 ∙ ap (λ v. get_or v 0 0 == 110) (sym cut.0 ∙ is)))
    ]

-- where no second word begins, no other head is spelled
pub one_word_cut :
    (bytes word spaced sign : List ℕ) → bytes ≡ word ++ spaced → HasNoSpace word → IsAtSpace spaced → word ≢ codes "none"
    → sign ≡ codes " " → ((rest : List ℕ) → spaced ≢ sign ++ rest) → IsCutAfterHead bytes bytes []
one_word_cut bytes word [] sign whole lacks space other e no_second = λ t path p h.
    elim (head_words t p) [
      | inl none ↦ absurd (other (none_words word [] path lacks tt (sym whole ∙ h ∙ ap (λ u. spelled (head_of u) ++ spelled_path path) none)).0)
      | inr w ↦
          let is = sym (append-nil word) ∙ sym whole ∙ h in
          absurd (one_word word (spelled (head_of t)) (spelled_path path) (Lacks-from_HasNoSpace word lacks) w.0 is)
    ]
one_word_cut bytes word (b ∷ rest) sign whole lacks space other e no_second =
    absurd (no_second rest (ap (λ x. x ∷ rest) space ∙ ap (λ w. w ++ rest) (sym e)))

-- two words before a path, cut where the path begins
pub two_words_cut :
    (bytes word spaced sign after argument path front back : List ℕ) (n : ℕ)
    → bytes ≡ word ++ spaced → word ≢ codes "none" → spaced ≡ sign ++ after → sign ≡ codes " " → after ≡ argument ++ path
    → HasNoSpace word → HasNoSpace argument → IsAtSpace path
    → front ≡ take n bytes → back ≡ drop n bytes → n ≡ length bytes - length path
    → IsCutAfterHead bytes front back
two_words_cut bytes word spaced sign after argument path front back n whole other rest_is e after_is first second space front_is back_is size =
    let head = word ++ 32 ∷ argument in
    let at_space : spaced ≡ 32 ∷ after = rest_is ∙ ap (λ w. w ++ after) e in
    let spelled_is : bytes ≡ head ++ path =
    whole ∙ ap (λ w. word ++ w) (at_space ∙ ap (λ w. 32 ∷ w) after_is) ∙ sym (append_assoc word (32 ∷ argument) path) in
    let words : TwoWords head = record {
      word = word;
      argument = argument;
      spelled = refl;
      first_word = Lacks-from_HasNoSpace word first;
      second_word = Lacks-from_HasNoSpace argument second;
    } in
    let seam : n ≡ length head = omega (arith, ap length spelled_is, length-append head path) in
    let front_same : front ≡ head = front_is ∙ ap (λ w. take n w) spelled_is ∙ ap (λ k. take k (head ++ path)) seam ∙ take-append_seam head path in
    let back_same : back ≡ path = back_is ∙ ap (λ w. drop n w) spelled_is ∙ ap (λ k. drop k (head ++ path)) seam ∙ drop-append_seam head path in
    λ t steps p h.
    elim (head_words t p) [
      | inl none ↦
          let is = sym whole ∙ h ∙ ap (λ u. spelled (head_of u) ++ spelled_path steps) none in
          absurd (other (none_words word spaced steps first (subst IsAtSpace (sym at_space) refl) is).0)
      | inr w ↦
          let same = same_words head (spelled (head_of t)) path (spelled_path steps) words w.0 space (IsAtSpace-path steps) (sym spelled_is ∙ h) in
          (front_same ∙ same.0, back_same ∙ same.1)
    ]

-- bytes that do not begin with a word, for an equal word
pub not_after : (bytes sign word : List ℕ) → sign ≡ word → ((rest : List ℕ) → bytes ≢ sign ++ rest) → (rest : List ℕ) → bytes ≢ word ++ rest
not_after bytes sign word e none rest h = none rest (h ∙ ap (λ w. w ++ rest) (sym e))

-- what begins with none of the words of lines
pub no_line :
    (bytes : List ℕ)
    → ((rest : List ℕ) → bytes ≢ codes "get" ++ rest) → ((rest : List ℕ) → bytes ≢ codes "keys" ++ rest)
    → ((rest : List ℕ) → bytes ≢ codes "range" ++ rest) → ((rest : List ℕ) → bytes ≢ codes "set " ++ rest)
    → Says bytes None
no_line bytes no_get no_keys no_range no_set (get path) p h = no_get (spelled_path path) h
no_line bytes no_get no_keys no_range no_set (keys path) p h = no_keys (spelled_path path) h
no_line bytes no_get no_keys no_range no_set (range low high path) p h = no_range (spelled_path (key low ∷ key high ∷ path)) h
no_line bytes no_get no_keys no_range no_set (set path l) p h = no_set (spelled_leaf l ++ spelled_path path) h

pub has_steps : (bytes : List ℕ) (path : List Step) → bytes ≡ spelled_path path → bytes ≢ [] → HasSteps path
has_steps bytes [] h some = absurd (some h)
has_steps bytes (step ∷ path) h some = tt

-- a question that is a word and a path, whose path is refused
question_refused :
    (word bytes : List ℕ) (make : List Step → Line) (refusal : LineRefusal)
    → ((line : Line) → IsPossible line → word ++ bytes ≡ spelling line → IsPath bytes)
    → ((path : List Step) → All IsStep path → Says (word ++ spelled_path path) (Some (make path)))
    → ((path : List Step) → HasSteps path → TakesMemory (make path))
    → RefusesPath bytes refusal → RefusesLine (word ++ bytes) refusal
question_refused word bytes make Bad only says takes none = λ line p h. none (only line p h)
question_refused word bytes make OutOfMemory only says takes ((path, steps, h), some) =
    let said = says path steps in
    (make path, (said.0, ap (λ w. word ++ w) h ∙ said.1), takes path (has_steps bytes path h some))

only_get : (bytes : List ℕ) (line : Line) → IsPossible line → codes "get" ++ bytes ≡ spelling line → IsPath bytes
only_get bytes (get path) p h = (path, p, append_cancel_left (codes "get") _ _ h)
only_get bytes (keys path) p h = absurd (first_differs refl h)
only_get bytes (range low high path) p h = absurd (first_differs refl h)
only_get bytes (set path l) p h = absurd (first_differs refl h)

only_keys : (bytes : List ℕ) (line : Line) → IsPossible line → codes "keys" ++ bytes ≡ spelling line → IsPath bytes
only_keys bytes (get path) p h = absurd (first_differs refl h)
only_keys bytes (keys path) p h = (path, p, append_cancel_left (codes "keys") _ _ h)
only_keys bytes (range low high path) p h = absurd (first_differs refl h)
only_keys bytes (set path l) p h = absurd (first_differs refl h)

pub get_refused : (bytes : List ℕ) (refusal : LineRefusal) → RefusesPath bytes refusal → RefusesLine (codes "get" ++ bytes) refusal
get_refused bytes refusal = question_refused (codes "get") bytes get refusal (only_get bytes) (λ path steps. (steps, refl)) (λ path some. some)

pub keys_refused : (bytes : List ℕ) (refusal : LineRefusal) → RefusesPath bytes refusal → RefusesLine (codes "keys" ++ bytes) refusal
keys_refused bytes refusal = question_refused (codes "keys") bytes keys refusal (only_keys bytes) (λ path steps. (steps, refl)) (λ path some. some)

-- the bytes after `range`: two keys and a path
record IsRange (bytes : List ℕ) : Type 0 where
  pub low : List ℕ
  pub high : List ℕ
  pub path : List Step
  pub possible : IsPossible (range low high path)
  pub spelled : bytes ≡ spelled_path (key low ∷ key high ∷ path)

only_range : (bytes : List ℕ) (line : Line) → IsPossible line → codes "range" ++ bytes ≡ spelling line → IsRange bytes
only_range bytes (get path) p h = absurd (first_differs refl h)
only_range bytes (keys path) p h = absurd (first_differs refl h)
only_range bytes (range low high path) p h = record {
  low = low;
  high = high;
  path = path;
  possible = p;
  spelled = append_cancel_left (codes "range") _ _ h;
}
only_range bytes (set path l) p h = absurd (first_differs refl h)

-- bytes are the escaped form of a text that is not empty
pub not_empty : (bytes t : List ℕ) → bytes ≡ escaped t → bytes ≢ [] → t ≢ []
not_empty bytes t e some none = some (e ∙ ap escaped none)

-- the bounds and the path of a range, where its first two words are cut
record IsCutRange (low high path : List ℕ) : Type 0 where
  pub first : IsEscaped low
  pub second : IsEscaped high
  pub rest : IsPath path

pub no_first_bound : (bytes : List ℕ) → (BeginsByKey bytes → ⊥) → Says (codes "range" ++ bytes) None
no_first_bound bytes none line p h =
    let r = only_range bytes line p h in
    none (r.low, key r.high ∷ r.path, r.possible.0, All-cons IsStep (key r.high) r.path r.possible.1 r.possible.2, r.spelled)

module _ (bytes rest low : List ℕ) (first : BeginsWithWord bytes (39 ∷ low) rest) where
  first_cut : (r : IsRange bytes) → (39 ∷ low ≡ 39 ∷ escaped r.low) × (rest ≡ spelled_path (key r.high ∷ r.path))
  first_cut r = cut_after_word bytes (39 ∷ low) rest (key r.low) (key r.high ∷ r.path) first r.possible.0 r.spelled

  pub no_second_bound : (BeginsByKey rest → ⊥) → Says (codes "range" ++ bytes) None
  no_second_bound none line p h =
      let r = only_range bytes line p h in
      none (r.high, r.path, r.possible.1, r.possible.2, (first_cut r).1)

  module _ (path high : List ℕ) (second : BeginsWithWord rest (39 ∷ high) path) where
    cut_range : (line : Line) → IsPossible line → codes "range" ++ bytes ≡ spelling line → IsCutRange low high path
    cut_range line p h =
        let r = only_range bytes line p h in
        let one = first_cut r in
        let two = cut_after_word rest (39 ∷ high) path (key r.high) r.path second r.possible.1 one.1 in
        record {
          first = (r.low, r.possible.0, rest_same one.0);
          second = (r.high, r.possible.1, rest_same two.0);
          rest = (r.path, r.possible.2, two.1);
        }

    -- a bound or the path is refused
    pub no_range : (IsEscaped low → IsEscaped high → IsPath path → ⊥) → Says (codes "range" ++ bytes) None
    no_range none line p h = let r = cut_range line p h in none r.first r.second r.rest

    pub range_spelled : (k l : List ℕ) (steps : List Step) → low ≡ escaped k → high ≡ escaped l → path ≡ spelled_path steps → codes "range" ++ bytes ≡ spelling (range k l steps)
    range_spelled k l steps k_is l_is path_is =
        let quoted : List ℕ → List ℕ → List ℕ = λ argument after. codes " '" ++ (argument ++ after) in
        ap (λ w. codes "range" ++ w)
        (first.spelled ∙ ap (λ w. quoted low w) second.spelled
        ∙ ap (λ w. quoted w (quoted high path)) k_is
        ∙ ap (λ w. quoted (escaped k) (quoted w path)) l_is
        ∙ ap (λ w. quoted (escaped k) (quoted (escaped l) w)) path_is)

    -- memory is refused for the bounds or the steps of a range
    pub no_memory_for_range : IsEscaped low → IsEscaped high → IsPath path → (low ≢ []) ⊎ (high ≢ []) ⊎ (path ≢ []) → RefusesLine (codes "range" ++ bytes) OutOfMemory
    no_memory_for_range k l (steps, p, h) takes = (
      range k.0 l.0 steps,
      ((k.1, l.1, p), range_spelled k.0 l.0 steps k.2 l.2 h),
      ⊎_elim (λ some. inl (not_empty low k.0 k.2 some)) (⊎_elim (λ some. inr (inl (not_empty high l.0 l.2 some))) (λ some. inr (inr (has_steps path steps h some)))) takes,
    )

    -- the path of a range is refused, whose bounds are read
    pub range_path_refused : (refusal : LineRefusal) → IsEscaped low → IsEscaped high → RefusesPath path refusal → RefusesLine (codes "range" ++ bytes) refusal
    range_path_refused Bad k l none = no_range (λ _ _ p. none p)
    range_path_refused OutOfMemory k l (p, some) = no_memory_for_range k l p (inr (inr some))

edit_spelled : (bytes front rest : List ℕ) (path : List Step) (l : Leaf) → bytes ≡ front ++ rest → front ≡ spelled_leaf l → rest ≡ spelled_path path → codes "set " ++ bytes ≡ spelling (set path l)
edit_spelled bytes front rest path l whole e h =
    ap (λ w. codes "set " ++ w) (whole ∙ ap (λ w. w ++ rest) e ∙ ap (λ w. spelled_leaf l ++ w) h)

-- memory is refused for the steps of an edit
pub no_memory_for_edit : (bytes front rest : List ℕ) (l : Leaf) → bytes ≡ front ++ rest → IsLeaf l → front ≡ spelled_leaf l → IsPath rest → rest ≢ [] → RefusesLine (codes "set " ++ bytes) OutOfMemory
no_memory_for_edit bytes front rest l whole p e (path, steps, h) some =
    (set path l, ((steps, p), edit_spelled bytes front rest path l whole e h), inl (has_steps rest path h some))

-- where an edit is cut into its leaf and its path, each is one
record IsEdit (front rest : List ℕ) : Type 0 where
  pub leaf : Leaf
  pub possible : IsLeaf leaf
  pub spelled : front ≡ spelled_leaf leaf
  pub path : IsPath rest

only_set : (bytes front rest : List ℕ) → IsCutAfterHead bytes front rest → (line : Line) → IsPossible line → codes "set " ++ bytes ≡ spelling line → IsEdit front rest
only_set bytes front rest cut (get path) p h = absurd (first_differs refl h)
only_set bytes front rest cut (keys path) p h = absurd (first_differs refl h)
only_set bytes front rest cut (range low high path) p h = absurd (first_differs refl h)
only_set bytes front rest cut (set path l) p h =
    let both = cut (tree.leaf l) path p.1 (append_cancel_left (codes "set ") _ _ h) in
    record { leaf = l; possible = p.1; spelled = both.0; path = (path, p.0, both.1) }

-- the path of an edit is refused, whose leaf is read
pub edit_path_refused : (bytes front rest : List ℕ) (l : Leaf) (refusal : LineRefusal) → bytes ≡ front ++ rest → IsCutAfterHead bytes front rest → IsLeaf l → front ≡ spelled_leaf l → RefusesPath rest refusal → RefusesLine (codes "set " ++ bytes) refusal
edit_path_refused bytes front rest l Bad whole cut p e none = λ line q h. none (only_set bytes front rest cut line q h).path
edit_path_refused bytes front rest l OutOfMemory whole cut p e (path, some) = no_memory_for_edit bytes front rest l whole p e path some

-- the leaf of an edit is refused, or memory for it where the rest is no path
pub no_edit : (bytes front rest : List ℕ) → IsCutAfterHead bytes front rest → ((l : Leaf) → IsLeaf l → front ≡ spelled_leaf l → IsPath rest → ⊥) → Says (codes "set " ++ bytes) None
no_edit bytes front rest cut none = λ line p h.
    let edit = only_set bytes front rest cut line p h in
    none edit.leaf edit.possible edit.spelled edit.path

pub no_memory_for_leaf : (bytes front rest : List ℕ) → bytes ≡ front ++ rest → IsPath rest → RefusesLeaf front OutOfMemory → RefusesLine (codes "set " ++ bytes) OutOfMemory
no_memory_for_leaf bytes front rest whole (path, steps, h) (argument, e, (t, utf8, escapes), some) =
    (set path (text t), ((steps, utf8), edit_spelled bytes front rest path (text t) whole (e ∙ ap (λ w. codes "text '" ++ w) escapes) h), inr (not_empty argument t escapes some))
