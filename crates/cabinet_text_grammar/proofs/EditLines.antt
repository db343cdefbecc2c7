-- A line of a session in which documents grow read back from its words, so that bytes spell at most one.
use Rattle.std.proofs.Common.{◌≡◌, ℕ, true, false, List, [], ◌∷◌, ◌++◌, get_or, drop, Option, Some, None, sym, ap, ◌∙◌, refl, inl, inr, ◌⊎◌, arith, codes, All}
use Rattle.std.specs.Prelude.{◌==◌, if◌then◌else◌, map as map_over}
use Rattle.std.specs.Fmt.{decimal}
use Rattle.cabinet_text_grammar.specs.Keys.{ordered, hashed, kept}
use Rattle.cabinet_text_grammar.specs.Tree.{Leaf, truth, number, text, IsLeaf, Tree, leaf, shared, nothing, just, list, map, whole, no_trees, more_trees, no_pairs, more_pairs}
use Rattle.cabinet_text_grammar.specs.Item.{Item, leaf_item, shared_item, list_item, map_item}
use Rattle.cabinet_text_grammar.specs.Spelling.{escaped, spelled, spelled_leaf}
use Rattle.cabinet_text_grammar.specs.Path.{Step}
use Rattle.cabinet_text_grammar.specs.Line.{get, keys, range, set, IsStep, spelled_step, spelled_path}
use Rattle.cabinet_text_grammar.specs.Answering.{head_of}
use Rattle.cabinet_text_grammar.specs.EditLine.{EditLine, about, put_line, insert_line, remove_line, IsAlone, edit_spelling, IsPossibleEdit, SaysEdit}
use Rattle.cabinet_text_grammar.proofs.Lacking.{Lacks, Lacks-tested, Lacks-decimal, Lacks-escaped}
use Rattle.cabinet_text_grammar.proofs.ReadBack.{IsItem, item_of_line, read_back}
use Rattle.cabinet_text_grammar.proofs.Lines.{words_of, words-before_space, words-path, TwoWords, two_words, words-two, step_of_word, path_back, read_line, line_back}

-- the tree that a head's line tells
alone : Item → Tree
alone (leaf_item l) = leaf l
alone (shared_item t) = shared t
alone (list_item n) = list no_trees
alone (map_item kind n) = map kind no_pairs
alone _ = nothing

alone_back : (t : Tree) → IsAlone t → alone (head_of t) ≡ t
unfolding alone
alone_back (leaf l) p = refl
alone_back (shared t) p = refl
alone_back nothing p = refl
alone_back (list no_trees) p = refl
alone_back (map kind no_pairs) p = refl
alone_back (just t) p = absurd p
alone_back (list (more_trees t ts)) p = absurd p
alone_back (map kind (more_pairs k t ps)) p = absurd p
alone_back (whole t) p = absurd p

pub head_possible : (t : Tree) → IsAlone t → IsItem (head_of t)
head_possible (leaf l) p = p
head_possible (shared t) p = p
head_possible nothing p = tt
head_possible (list no_trees) p = omega arith
head_possible (map kind no_pairs) p = omega arith
head_possible (just t) p = absurd p
head_possible (list (more_trees t ts)) p = absurd p
head_possible (map kind (more_pairs k t ps)) p = absurd p
head_possible (whole t) p = absurd p

-- two words, of which the first does not begin as `none` does
abbrev pub HeadWords : List ℕ → Type 0
HeadWords bytes = (w : TwoWords bytes) × ((get_or w.word 0 0 == 110) ≡ false)

leaf_words : (l : Leaf) → IsLeaf l → HeadWords (spelled_leaf l)
unfolding two_words
leaf_words (truth true) p = (two_words (truth true) p, refl)
leaf_words (truth false) p = (two_words (truth false) p, refl)
leaf_words (number n) p = (two_words (number n) p, refl)
leaf_words (text t) p = (two_words (text t) p, refl)

abbrev two : (word argument : List ℕ) → Lacks 32 word → Lacks 32 argument → TwoWords (word ++ 32 ∷ argument)
two w a p q = record {
  word = w;
  argument = a;
  spelled = refl;
  first_word = p;
  second_word = q;
}

no_count : Lacks 32 (decimal 0)
no_count = Lacks-decimal 32 0 (omega arith) (omega arith)

pub head_words : (t : Tree) → IsAlone t → (t ≡ nothing) ⊎ HeadWords (spelled (head_of t))
head_words nothing p = inl refl
head_words (leaf l) p = inr (leaf_words l p)
head_words (shared t) p =
    let argument : Lacks 32 (39 ∷ escaped t) = (λ e. omega (arith, e), Lacks-escaped 32 t (inr refl)) in
    inr (two (codes "shared") (39 ∷ escaped t) (Lacks-tested 32 (codes "shared") refl) argument, refl)
head_words (list no_trees) p = inr (two (codes "list") (decimal 0) (Lacks-tested 32 (codes "list") refl) no_count, refl)
head_words (map ordered no_pairs) p = inr (two (codes "ordered") (decimal 0) (Lacks-tested 32 (codes "ordered") refl) no_count, refl)
head_words (map hashed no_pairs) p = inr (two (codes "hashed") (decimal 0) (Lacks-tested 32 (codes "hashed") refl) no_count, refl)
head_words (map kept no_pairs) p = inr (two (codes "kept") (decimal 0) (Lacks-tested 32 (codes "kept") refl) no_count, refl)
head_words (just t) p = absurd p
head_words (list (more_trees t ts)) p = absurd p
head_words (map kind (more_pairs k t ps)) p = absurd p
head_words (whole t) p = absurd p

-- the nodes with one word, and those with two
node_of : (List Step → Tree → EditLine) → List ℕ → List (List ℕ) → EditLine
node_of make word [] = make [] nothing
node_of make word (argument ∷ ws) = make (map_over step_of_word ws) (alone (item_of_line (word ++ 32 ∷ argument)))

node_line : (List Step → Tree → EditLine) → List (List ℕ) → EditLine
node_line make [] = make [] nothing
node_line make (word ∷ ws) = if get_or word 0 0 == 110 then make (map_over step_of_word ws) nothing else node_of make word ws

node_back-two :
    (make : List Step → Tree → EditLine) (path : List Step) (t : Tree) → HeadWords (spelled (head_of t)) → All IsStep path → IsAlone t
    → node_line make (words_of (spelled (head_of t) ++ spelled_path path)) ≡ make path t
unfolding node_line node_of
node_back-two make path t w steps p =
    ap (node_line make) (words-two (spelled (head_of t)) w.0 path steps)
    ∙ rw w.1 (
    ap (λ bytes. make (map_over step_of_word (map_over spelled_step path)) (alone (item_of_line bytes))) (sym w.0.spelled)
    ∙ ap (λ i. make (map_over step_of_word (map_over spelled_step path)) (alone i)) (read_back (head_of t) (head_possible t p))
    ∙ ap (make (map_over step_of_word (map_over spelled_step path))) (alone_back t p)
    ∙ ap (λ ss. make ss t) (path_back path steps))

node_back :
    (make : List Step → Tree → EditLine) (path : List Step) (t : Tree) → All IsStep path → IsAlone t
    → node_line make (words_of (spelled (head_of t) ++ spelled_path path)) ≡ make path t
unfolding node_line
node_back make path t steps p =
    elim (head_words t p) [
      | inl is ↦ rw is (
          ap (node_line make) (words-path (codes "none") path (Lacks-tested 32 (codes "none") refl) steps)
          ∙ ap (λ ss. make ss nothing) (path_back path steps))
      | inr w ↦ node_back-two make path t w steps p
    ]

-- a line by its first byte, and `remove` by its second, which is not that of `range`
read_edit_line : List ℕ → EditLine
read_edit_line bytes =
    if get_or bytes 0 0 == 112 then node_line put_line (drop 1 (words_of bytes))
    else (if get_or bytes 0 0 == 105 then node_line insert_line (drop 1 (words_of bytes))
    else (if get_or bytes 0 0 == 114 then
    (if get_or bytes 1 0 == 101 then remove_line (map_over step_of_word (drop 1 (words_of bytes))) else about (read_line bytes))
    else about (read_line bytes)))

edit_back : (line : EditLine) → IsPossibleEdit line → read_edit_line (edit_spelling line) ≡ line
unfolding read_edit_line
edit_back (about (get path)) p = ap about (line_back (get path) p)
edit_back (about (keys path)) p = ap about (line_back (keys path) p)
edit_back (about (range low high path)) p = ap about (line_back (range low high path) p)
edit_back (about (set path l)) p = ap about (line_back (set path l) p)
edit_back (put_line path new) p =
    ap (λ ws. node_line put_line (drop 1 ws))
    (words-before_space (codes "put") (spelled (head_of new) ++ spelled_path path) (Lacks-tested 32 (codes "put") refl))
    ∙ node_back put_line path new p.0 p.1
edit_back (insert_line path new) p =
    ap (λ ws. node_line insert_line (drop 1 ws))
    (words-before_space (codes "insert") (spelled (head_of new) ++ spelled_path path) (Lacks-tested 32 (codes "insert") refl))
    ∙ node_back insert_line path new p.0 p.1
edit_back (remove_line path) p =
    ap (λ ws. remove_line (map_over step_of_word (drop 1 ws))) (words-path (codes "remove") path (Lacks-tested 32 (codes "remove") refl) p)
    ∙ ap remove_line (path_back path p)

pub one_edit_line : (bytes : List ℕ) (a b : Option EditLine) → SaysEdit bytes a → SaysEdit bytes b → a ≡ b
one_edit_line bytes None None p q = refl
one_edit_line bytes None (Some line) p q = absurd (p line q.0 q.1)
one_edit_line bytes (Some line) None p q = absurd (q line p.0 p.1)
one_edit_line bytes (Some line) (Some other) p q =
    ap Some (sym (edit_back line p.0) ∙ ap read_edit_line (sym p.1 ∙ q.1) ∙ edit_back other q.0)
