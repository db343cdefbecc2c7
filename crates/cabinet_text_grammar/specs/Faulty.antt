-- Worked texts that are the text of no document, each with its first faulty line and the first cause.
use Rattle.std.specs.Prelude.{ℕ, zero, suc, List, [], ◌++◌, codes}
use Rattle.cabinet_text_grammar.specs.Fault.{FirstFault}
use Rattle.cabinet_text_grammar.specs.declared.cause.Cause.TheVariants.{NoNewline, EndTooEarly, KeyExpected, BadEscape, KeyOrder, KeyRepeated, UnknownHead, BadNumber, UnknownWhole, TooDeep, RepeatedWhole, WholeOrder, LineAfterEnd}

abbrev pub HashedKeysThatDescend : Type 0
HashedKeysThatDescend = FirstFault (codes "hashed 2\n'b\nint 1\n'a\nint 2\n") 4 KeyOrder

abbrev pub OrderedKeyTwice : Type 0
OrderedKeyTwice = FirstFault (codes "ordered 2\n'a\nint 1\n'a\nint 2\n") 4 KeyOrder

abbrev pub KeptKeyTwice : Type 0
KeptKeyTwice = FirstFault (codes "kept 2\n'a\nint 1\n'a\nint 2\n") 4 KeyRepeated

-- `some` with a word after it
abbrev pub SomeWithAnArgument : Type 0
SomeWithAnArgument = FirstFault (codes "some 1\n") 1 UnknownHead

abbrev pub KeyInPlaceOfAHead : Type 0
KeyInPlaceOfAHead = FirstFault (codes "list 1\n'a\n") 2 UnknownHead

abbrev pub HeadInPlaceOfAKey : Type 0
HeadInPlaceOfAKey = FirstFault (codes "ordered 1\nint 1\nint 2\n") 2 KeyExpected

abbrev pub CountWithALeadingZero : Type 0
CountWithALeadingZero = FirstFault (codes "kept 01\n") 1 BadNumber

abbrev pub KeyWithARawSpace : Type 0
KeyWithARawSpace = FirstFault (codes "ordered 1\n'a b\nint 2\n") 2 BadEscape

-- the line that is missing after the head of an option
abbrev pub OptionWithoutItsNode : Type 0
OptionWithoutItsNode = FirstFault (codes "some\n") 2 EndTooEarly

-- the key that is missing
abbrev pub MapWithoutItsSecondPair : Type 0
MapWithoutItsSecondPair = FirstFault (codes "kept 2\n'a\nint 1\n") 4 EndTooEarly

-- the element of a list that is missing after a map with an option in it
abbrev pub ListWithoutItsSecondElement : Type 0
ListWithoutItsSecondElement = FirstFault (codes "list 2\nordered 1\n'a\nsome\nint 1\n") 6 EndTooEarly

abbrev pub LineAfterADocument : Type 0
LineAfterADocument = FirstFault (codes "ordered 0\nnone\n") 2 LineAfterEnd

abbrev pub LastLineWithoutANewline : Type 0
LastLineWithoutANewline = FirstFault (codes "list 1\nint 5") 2 NoNewline

abbrev pub some_lines : ℕ → List ℕ
some_lines zero = []
some_lines (suc n) = codes "some\n" ++ some_lines n

abbrev pub SixtyFiveOptions : Type 0
SixtyFiveOptions = FirstFault (some_lines 64 ++ codes "none\n") 65 TooDeep

-- the number of a whole where there are none
abbrev pub WholeWithoutWholes : Type 0
WholeWithoutWholes = FirstFault (codes "whole 0\n") 1 UnknownWhole

-- a whole that names itself
abbrev pub WholeInItself : Type 0
WholeInItself = FirstFault (codes "wholes 1\nwhole 0\nwhole 0\n") 2 UnknownWhole

abbrev pub WholesOnALaterLine : Type 0
WholesOnALaterLine = FirstFault (codes "list 1\nwholes 1\n") 2 UnknownHead

abbrev pub NoWholes : Type 0
NoWholes = FirstFault (codes "wholes 0\n") 1 BadNumber

abbrev pub EqualWholes : Type 0
EqualWholes = FirstFault (codes "wholes 2\nint 5\nint 5\nlist 2\nwhole 0\nwhole 1\n") 3 RepeatedWhole

abbrev pub UnusedWhole : Type 0
UnusedWhole = FirstFault (codes "wholes 1\nint 5\nint 6\n") 3 WholeOrder

-- wholes in another order than that of their numbers
abbrev pub WholesOutOfOrder : Type 0
WholesOutOfOrder = FirstFault (codes "wholes 2\nint 1\nint 2\nlist 2\nwhole 1\nwhole 0\n") 6 WholeOrder
