-- The parts of a head's line, and the causes that apply to them.
use Rattle.std.specs.Prelude.{◌≢◌, ℕ, ◌<◌, ◌^◌, List, [], Option, Some, slice_get, codes, IsUtf8}
use Rattle.cabinet_text_grammar.specs.Tree.{text}
use Rattle.cabinet_text_grammar.specs.Item.{Item, leaf_item, shared_item, none_item, some_item, list_item, map_item, whole_item}
use Rattle.cabinet_text_grammar.specs.Spelling.{escaped}
use Rattle.cabinet_text_grammar.specs.declared.cause.Cause.{Cause}
use Rattle.cabinet_text_grammar.specs.declared.cause.Cause.TheVariants.{BadEscape, OutOfMemory}
use Rattle.cabinet_text_bytes.specs.Words.{IsEscaped}
use Rattle.cabinet_text_reading.specs.declared.head.Counted.{Counted}
use Rattle.cabinet_text_reading.specs.declared.head.Counted.TheVariants.{List as List', Ordered, Hashed, Kept, Whole}

-- the head of a container, with a count or a number of 64 bits if it has one
abbrev pub IsContainer : Item → Type 0
IsContainer none_item = Unit {0}
IsContainer some_item = Unit {0}
IsContainer (list_item n) = n < 2 ^ 64
IsContainer (map_item kind n) = n < 2 ^ 64
IsContainer (whole_item n) = n < 2 ^ 64
IsContainer _ = ⊥

-- the number of containers that are known to lie in one another inside a container: of a whole by the depths of those
-- that are complete, by their numbers
abbrev pub inner_depth : List ℕ → Item → Option ℕ
inner_depth depths (whole_item n) = slice_get depths n
inner_depth depths i = Some 0

-- the word before a container's count or a whole's number
abbrev pub count_word : Counted → List ℕ
count_word List' = codes "list "
count_word Ordered = codes "ordered "
count_word Hashed = codes "hashed "
count_word Kept = codes "kept "
count_word Whole = codes "whole "

-- the cause for which no text is read from the bytes after a quote: they are no text's escaped form, or memory is
-- refused for a text that is not empty
abbrev pub RefusesText : List ℕ → Cause → Type 0
RefusesText argument BadEscape = (t : List ℕ) → IsUtf8 t → argument ≢ escaped t
RefusesText argument OutOfMemory = IsEscaped argument × (argument ≢ [])
RefusesText argument _ = ⊥

-- the cause for which no shared text is read from them, which takes memory even where it is empty
abbrev pub RefusesShared : List ℕ → Cause → Type 0
RefusesShared argument BadEscape = (t : List ℕ) → IsUtf8 t → argument ≢ escaped t
RefusesShared argument OutOfMemory = IsEscaped argument
RefusesShared argument _ = ⊥

-- the item of a text or of a shared text
abbrev pub IsTextItem : Item → Type 0
IsTextItem (leaf_item (text t)) = IsUtf8 t
IsTextItem (shared_item t) = IsUtf8 t
IsTextItem _ = ⊥
