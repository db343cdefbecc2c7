-- Worked questions and edits, and their answers.
use Rattle.std.specs.Prelude.{◌≡◌, ℕ, pos, negsuc, false, List, [], ◌∷◌, codes}
use Rattle.cabinet_text_grammar.specs.Tree.{truth, number, text, Tree}
use Rattle.cabinet_text_grammar.specs.Spelling.{text_of}
use Rattle.cabinet_text_grammar.specs.Path.{key, place, inside}
use Rattle.cabinet_text_grammar.specs.Line.{Line, get, keys, range, set, spelling}
use Rattle.cabinet_text_grammar.specs.Answering.{answer, after, spelled_answer}
use Rattle.cabinet_text_grammar.specs.Documents.{map_of_four, kept_map, list_of_eight, whole_twice}

-- a line with this spelling is answered by this line
pub record Answers (t : Tree) (line : Line) (bytes : List ℕ) (reply : List ℕ) : Type 0 where
  pub is_spelled : spelling line ≡ bytes
  pub is_answered : spelled_answer (answer t line) ≡ reply

abbrev pub RangeInTheMiddle : Type 0
RangeInTheMiddle = Answers map_of_four (range (codes "bat") (codes "foo") []) (codes "range 'bat 'foo") (codes "keys 2 'bat 'baz\n")

abbrev pub RangeBetweenKeys : Type 0
RangeBetweenKeys = Answers map_of_four (range (codes "bas") (codes "zoo") []) (codes "range 'bas 'zoo") (codes "keys 3 'bat 'baz 'foo\n")

abbrev pub EmptyRange : Type 0
EmptyRange = Answers map_of_four (range (codes "bat") (codes "bat") []) (codes "range 'bat 'bat") (codes "keys 0\n")

abbrev pub ReversedRange : Type 0
ReversedRange = Answers map_of_four (range (codes "foo") (codes "bar") []) (codes "range 'foo 'bar") (codes "keys 0\n")

-- ranges are for ordered maps, keys for kept maps too, and hashed maps have neither
pub record KeysOfTheKinds : Type 0 where
  pub of_ordered : Answers map_of_four (keys []) (codes "keys") (codes "keys 4 'bar 'bat 'baz 'foo\n")
  pub of_kept : Answers kept_map (keys []) (codes "keys") (codes "keys 2 'b 'a\n")
  pub of_hashed : Answers list_of_eight (keys (place 6 ∷ [])) (codes "keys #6") (codes "wrong\n")
  pub of_list : Answers list_of_eight (keys []) (codes "keys") (codes "wrong\n")
  pub range_of_kept : Answers kept_map (range (codes "a") (codes "b") []) (codes "range 'a 'b") (codes "wrong\n")
  pub range_of_hashed : Answers list_of_eight (range (codes "a") (codes "b") (place 6 ∷ [])) (codes "range 'a 'b #6") (codes "wrong\n")

pub record HeadsOfTheKinds : Type 0 where
  pub of_list : Answers list_of_eight (get []) (codes "get") (codes "list 8\n")
  pub of_truth : Answers list_of_eight (get (place 0 ∷ [])) (codes "get #0") (codes "bool true\n")
  pub of_number : Answers list_of_eight (get (place 1 ∷ [])) (codes "get #1") (codes "int 7\n")
  pub of_text : Answers list_of_eight (get (place 2 ∷ [])) (codes "get #2") (codes "text 'a\\sb\n")
  pub of_shared : Answers list_of_eight (get (place 3 ∷ [])) (codes "get #3") (codes "shared 'hat\n")
  pub of_none : Answers list_of_eight (get (place 4 ∷ [])) (codes "get #4") (codes "none\n")
  pub of_some : Answers list_of_eight (get (place 5 ∷ [])) (codes "get #5") (codes "some\n")
  pub into_some : Answers list_of_eight (get (place 5 ∷ inside ∷ [])) (codes "get #5 ?") (codes "int 5\n")
  pub of_hashed : Answers list_of_eight (get (place 6 ∷ [])) (codes "get #6") (codes "hashed 1\n")
  pub of_kept : Answers list_of_eight (get (place 7 ∷ [])) (codes "get #7") (codes "kept 2\n")
  pub by_key : Answers list_of_eight (get (place 7 ∷ key (codes "a") ∷ [])) (codes "get #7 'a") (codes "text 'hat\n")

-- what is not there is missing, before anything else is checked
pub record MissingNodes : Type 0 where
  pub past_the_end : Answers list_of_eight (get (place 8 ∷ [])) (codes "get #8") (codes "missing\n")
  pub into_none : Answers list_of_eight (get (place 4 ∷ inside ∷ [])) (codes "get #4 ?") (codes "missing\n")
  pub key_of_a_list : Answers list_of_eight (get (key (codes "a") ∷ [])) (codes "get 'a") (codes "missing\n")
  pub another_key : Answers map_of_four (get (key (codes "baa") ∷ [])) (codes "get 'baa") (codes "missing\n")
  pub inside_a_shared_text : Answers list_of_eight (get (place 3 ∷ inside ∷ [])) (codes "get #3 ?") (codes "missing\n")
  pub before_wrong : Answers list_of_eight (keys (place 8 ∷ [])) (codes "keys #8") (codes "missing\n")
  pub before_refused : Answers list_of_eight (set (place 8 ∷ []) (number (pos 1))) (codes "set int 1 #8") (codes "missing\n")

pub record Edits : Type 0 where
  pub of_a_number : Answers map_of_four (set (key (codes "bat") ∷ []) (number (negsuc 8))) (codes "set int -9 'bat") (codes "ok\n")
  pub of_a_text : Answers kept_map (set (key (codes "a") ∷ []) (text (codes "cat"))) (codes "set text 'cat 'a") (codes "ok\n")
  pub into_some : Answers list_of_eight (set (place 5 ∷ inside ∷ []) (number (pos 6))) (codes "set int 6 #5 ?") (codes "ok\n")
  pub of_a_longer_text : Answers kept_map (set (key (codes "a") ∷ []) (text (codes "cats"))) (codes "set text 'cats 'a") (codes "refused\n")
  pub of_another_kind : Answers map_of_four (set (key (codes "bat") ∷ []) (truth false)) (codes "set bool false 'bat") (codes "refused\n")
  pub of_a_shared_text : Answers list_of_eight (set (place 3 ∷ []) (text (codes "cat"))) (codes "set text 'cat #3") (codes "refused\n")
  pub of_a_map : Answers map_of_four (set [] (number (pos 1))) (codes "set int 1") (codes "refused\n")

-- the text of a document after an edit
abbrev pub EditedText : Type 0
EditedText =
    text_of (after kept_map (set (key (codes "a") ∷ []) (text (codes "cat")))) ≡ codes "kept 2\n'b\nint 1\n'a\ntext 'cat\n"

-- a question may lead into a whole, an edit is refused there if the node is there
pub record AnswersInWholes : Type 0 where
  pub of_a_whole : Answers whole_twice (get (place 0 ∷ [])) (codes "get #0") (codes "whole\n")
  pub into_a_whole : Answers whole_twice (get (place 1 ∷ inside ∷ [])) (codes "get #1 ?") (codes "int 5\n")
  pub edit_in_a_whole : Answers whole_twice (set (place 0 ∷ inside ∷ []) (number (pos 6))) (codes "set int 6 #0 ?") (codes "refused\n")
  pub edit_of_a_whole : Answers whole_twice (set (place 0 ∷ []) (number (pos 6))) (codes "set int 6 #0") (codes "refused\n")
  pub by_a_key : Answers whole_twice (get (place 0 ∷ key (codes "a") ∷ [])) (codes "get #0 'a") (codes "missing\n")
  pub edit_past_the_end : Answers whole_twice (set (place 0 ∷ inside ∷ inside ∷ []) (number (pos 6))) (codes "set int 6 #0 ? ?") (codes "missing\n")
