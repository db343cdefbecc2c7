-- A line read back from its words, so that bytes spell at most one line.
use Rattle.std.proofs.Common.{◌≡◌, ℕ, true, false, List, [], ◌∷◌, ◌++◌, get_or, drop, Option, Some, None, sym, ap, ◌∙◌, refl, inl, inr, arith, append_assoc, append-nil, codes, All}
use Rattle.std.specs.Prelude.{◌==◌, if◌then◌else◌, map}
use Rattle.std.specs.Fmt.{signed_decimal}
use Rattle.std.specs.Str.Parse.{digits_value}
use Rattle.std.proofs.lemmas.Fmt.{digits_value-decimal}
use Rattle.std.proofs.lemmas.List.Elements.{All-head, All-tail}
use Rattle.std.proofs.lemmas.Bool.Decides.{eqb_tells}
use Rattle.cabinet_text_grammar.specs.Tree.{Leaf, truth, number, text, IsLeaf}
use Rattle.cabinet_text_grammar.specs.Item.{Item, leaf_item}
use Rattle.cabinet_text_grammar.specs.Spelling.{escaped, spelled_leaf}
use Rattle.cabinet_text_grammar.specs.Path.{Step, key, place, inside}
use Rattle.cabinet_text_grammar.specs.Line.{Line, get, keys, range, set, IsStep, IsPossible, Says, spelled_step, spelled_path, spelling}
use Rattle.cabinet_text_grammar.proofs.Lacking.{Lacks, Lacks-tested, Lacks-decimal, Lacks-signed, Lacks-escaped, own}
use Rattle.cabinet_text_grammar.proofs.ReadBack.{unescaped, unescaped-escaped, item_of_line, read_back}

-- bytes cut at their spaces
onto_first_word : ℕ → List (List ℕ) → List (List ℕ)
onto_first_word b [] = (b ∷ []) ∷ []
onto_first_word b (w ∷ ws) = (b ∷ w) ∷ ws

pub words_of : List ℕ → List (List ℕ)
words_of [] = [] ∷ []
words_of (b ∷ bs) = if b == 32 then [] ∷ words_of bs else onto_first_word b (words_of bs)

pub words-before_space : (word rest : List ℕ) → Lacks 32 word → words_of (word ++ 32 ∷ rest) ≡ word ∷ words_of rest
unfolding words_of onto_first_word
words-before_space [] rest p = refl
words-before_space (b ∷ bs) rest p =
    elim (eqb_tells b 32) [
      | inl is ↦ absurd (p.0 is.1)
      | inr differs ↦ rw differs.0 (ap (onto_first_word b) (words-before_space bs rest p.1))
    ]

words-last : (word : List ℕ) → Lacks 32 word → words_of word ≡ word ∷ []
unfolding words_of onto_first_word
words-last [] p = refl
words-last (b ∷ bs) p =
    elim (eqb_tells b 32) [
      | inl is ↦ absurd (p.0 is.1)
      | inr differs ↦ rw differs.0 (ap (onto_first_word b) (words-last bs p.1))
    ]

pub Lacks-step : (step : Step) → IsStep step → Lacks 32 (spelled_step step)
Lacks-step (key k) p = (λ e. omega (arith, e), Lacks-escaped 32 k (inr refl))
Lacks-step (place n) p = (λ e. omega (arith, e), Lacks-decimal 32 n (omega arith) p)
Lacks-step inside p = Lacks-tested 32 (codes "?") refl

pub words-path : (word : List ℕ) (path : List Step) → Lacks 32 word → All IsStep path → words_of (word ++ spelled_path path) ≡ word ∷ map spelled_step path
words-path word [] p steps = ap words_of (append-nil word) ∙ words-last word p
words-path word (step ∷ path) p steps =
    words-before_space word (spelled_step step ++ spelled_path path) p
    ∙ ap (λ ws. word ∷ ws) (words-path (spelled_step step) path (Lacks-step step (All-head IsStep step path steps)) (All-tail IsStep step path steps))

-- a leaf's spelling is two words and a space between them
pub record TwoWords (bytes : List ℕ) : Type 0 where
  pub word : List ℕ
  pub argument : List ℕ
  pub spelled : bytes ≡ word ++ 32 ∷ argument
  pub first_word : Lacks 32 word
  pub second_word : Lacks 32 argument

pub words-two :
    (bytes : List ℕ) (w : TwoWords bytes) (path : List Step) → All IsStep path
    → words_of (bytes ++ spelled_path path) ≡ w.word ∷ w.argument ∷ map spelled_step path
words-two bytes w path steps =
    ap (λ bs. words_of (bs ++ spelled_path path)) w.spelled
    ∙ ap words_of (append_assoc w.word (32 ∷ w.argument) (spelled_path path))
    ∙ words-before_space w.word (w.argument ++ spelled_path path) w.first_word
    ∙ ap (λ ws. w.word ∷ ws) (words-path w.argument path w.second_word steps)

unfoldable pub two_words : (l : Leaf) → IsLeaf l → TwoWords (spelled_leaf l)
two_words (truth true) p = record {
  word = codes "bool";
  argument = codes "true";
  spelled = refl;
  first_word = Lacks-tested 32 (codes "bool") refl;
  second_word = Lacks-tested 32 (codes "true") refl;
}
two_words (truth false) p = record {
  word = codes "bool";
  argument = codes "false";
  spelled = refl;
  first_word = Lacks-tested 32 (codes "bool") refl;
  second_word = Lacks-tested 32 (codes "false") refl;
}
two_words (number n) p = record {
  word = codes "int";
  argument = signed_decimal n;
  spelled = refl;
  first_word = Lacks-tested 32 (codes "int") refl;
  second_word = Lacks-signed 32 n (omega arith) p;
}
two_words (text t) p = record {
  word = codes "text";
  argument = 39 ∷ escaped t;
  spelled = refl;
  first_word = Lacks-tested 32 (codes "text") refl;
  second_word = (λ e. omega (arith, e), Lacks-escaped 32 t (inr refl));
}

-- a step by its first byte
pub step_of_word : List ℕ → Step
step_of_word w =
    if get_or w 0 0 == 39 then key (unescaped (drop 1 w))
    else (if get_or w 0 0 == 35 then place (digits_value 10 (drop 1 w)) else inside)

step_back : (step : Step) → IsStep step → step_of_word (spelled_step step) ≡ step
unfolding step_of_word
step_back (key k) p = ap key (unescaped-escaped k)
step_back (place n) p = ap place (digits_value-decimal own n p)
step_back inside p = refl

pub path_back : (path : List Step) → All IsStep path → map step_of_word (map spelled_step path) ≡ path
path_back [] steps = refl
path_back (step ∷ path) steps =
    ap (λ s. s ∷ map step_of_word (map spelled_step path)) (step_back step (All-head IsStep step path steps))
    ∙ ap (λ ss. step ∷ ss) (path_back path (All-tail IsStep step path steps))

leaf_in : Item → Leaf
leaf_in (leaf_item l) = l
leaf_in _ = truth true

-- the lines of two words and a path
range_of : List (List ℕ) → Line
range_of (low ∷ (high ∷ ws)) = range (unescaped (drop 1 low)) (unescaped (drop 1 high)) (map step_of_word ws)
range_of _ = get []

set_of : List (List ℕ) → Line
set_of (word ∷ (argument ∷ ws)) = set (map step_of_word ws) (leaf_in (item_of_line (word ++ 32 ∷ argument)))
set_of _ = get []

-- a line by its first byte and the words after the first
line_of_words : ℕ → List (List ℕ) → Line
line_of_words b ws =
    if b == 103 then get (map step_of_word ws)
    else (if b == 107 then keys (map step_of_word ws) else (if b == 114 then range_of ws else set_of ws))

pub read_line : List ℕ → Line
read_line bytes = line_of_words (get_or bytes 0 0) (drop 1 (words_of bytes))

words-range : (low high : List ℕ) (path : List Step) → All IsStep path → words_of (spelling (range low high path)) ≡ codes "range" ∷ (39 ∷ escaped low) ∷ (39 ∷ escaped high) ∷ map spelled_step path
words-range low high path steps =
    let quoted : (k : List ℕ) → Lacks 32 (39 ∷ escaped k) = λ k. (λ e. omega (arith, e), Lacks-escaped 32 k (inr refl)) in
    words-before_space (codes "range") ((39 ∷ escaped low) ++ spelled_path (key high ∷ path)) (Lacks-tested 32 (codes "range") refl)
    ∙ ap (λ ws. codes "range" ∷ ws) (words-before_space (39 ∷ escaped low) ((39 ∷ escaped high) ++ spelled_path path) (quoted low))
    ∙ ap (λ ws. codes "range" ∷ (39 ∷ escaped low) ∷ ws) (words-path (39 ∷ escaped high) path (quoted high) steps)

words-set : (path : List Step) (l : Leaf) (w : TwoWords (spelled_leaf l)) → All IsStep path → words_of (spelling (set path l)) ≡ codes "set" ∷ w.word ∷ w.argument ∷ map spelled_step path
words-set path l w steps =
    words-before_space (codes "set") (spelled_leaf l ++ spelled_path path) (Lacks-tested 32 (codes "set") refl)
    ∙ ap (λ ws. codes "set" ∷ ws) (words-two (spelled_leaf l) w path steps)

pub line_back : (line : Line) → IsPossible line → read_line (spelling line) ≡ line
unfolding read_line line_of_words range_of set_of leaf_in
line_back (get path) p =
    ap (λ ws. line_of_words 103 (drop 1 ws)) (words-path (codes "get") path (Lacks-tested 32 (codes "get") refl) p) ∙ ap get (path_back path p)
line_back (keys path) p =
    ap (λ ws. line_of_words 107 (drop 1 ws)) (words-path (codes "keys") path (Lacks-tested 32 (codes "keys") refl) p) ∙ ap keys (path_back path p)
line_back (range low high path) p =
    ap (λ ws. line_of_words 114 (drop 1 ws)) (words-range low high path p.2)
    ∙ ap (λ k. range k (unescaped (escaped high)) (map step_of_word (map spelled_step path))) (unescaped-escaped low)
    ∙ ap (λ k. range low k (map step_of_word (map spelled_step path))) (unescaped-escaped high)
    ∙ ap (range low high) (path_back path p.2)
line_back (set path l) p =
    let w = two_words l p.1 in
    ap (λ ws. line_of_words 115 (drop 1 ws)) (words-set path l w p.0)
    ∙ ap (λ bytes. set (map step_of_word (map spelled_step path)) (leaf_in (item_of_line bytes))) (sym w.spelled)
    ∙ ap (λ i. set (map step_of_word (map spelled_step path)) (leaf_in i)) (read_back (leaf_item l) p.1)
    ∙ ap (λ steps. set steps l) (path_back path p.0)

pub one_line : (bytes : List ℕ) (a b : Option Line) → Says bytes a → Says bytes b → a ≡ b
one_line bytes None None p q = refl
one_line bytes None (Some line) p q = absurd (p line q.0 q.1)
one_line bytes (Some line) None p q = absurd (q line p.0 p.1)
one_line bytes (Some line) (Some other) p q =
    ap Some (sym (line_back line p.0) ∙ ap read_line (sym p.1 ∙ q.1) ∙ line_back other q.0)
