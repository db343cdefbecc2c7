-- Worked documents and their texts.
use Rattle.std.specs.Prelude.{◌≡◌, codes}
use Rattle.cabinet_text_grammar.specs.Wholes.{IsDocument}
use Rattle.cabinet_text_grammar.specs.Spelling.{text_of}
use Rattle.cabinet_text_grammar.specs.Documents.{map_of_four, list_of_eight, whole_twice}

pub record MapOfFour : Type 0 where
  pub is_document : IsDocument map_of_four
  pub is_spelled : text_of map_of_four ≡ codes "ordered 4\n'bar\nint 1\n'bat\nint 2\n'baz\nint 3\n'foo\nint 4\n"

pub record ListOfEight : Type 0 where
  pub is_document : IsDocument list_of_eight
  pub is_spelled :
      text_of list_of_eight
      ≡ codes "list 8\nbool true\nint 7\ntext 'a\\sb\nshared 'hat\nnone\nsome\nint 5\nhashed 1\n'a\nint 1\nkept 2\n'b\nint 1\n'a\ntext 'hat\n"

pub record WholeTwice : Type 0 where
  pub is_document : IsDocument whole_twice
  pub is_spelled : text_of whole_twice ≡ codes "wholes 1\nint 5\nlist 2\nwhole 0\nwhole 0\n"
