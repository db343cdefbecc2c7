-- What worked documents store in fields of a limited width: offsets, counts, lengths of texts and positions of regions.
use Rattle.std.specs.Prelude.{List, [], ◌∷◌}
use Rattle.archive_shape_canonical.specs.FirstFit.{first_fit}
use Rattle.archive_shape_canonical.specs.Limits.{Field, offset, position, count, text_length, Stores}
use Rattle.archive_shape_layout.specs.Value.{Value}
use Rattle.archive_shape_canonical.specs.Hash.{text_hash}
use Rattle.cabinet_examples.specs.Node.{node_shape, node_names}
use Rattle.cabinet_examples.specs.Pieces.{item_of}
use Rattle.cabinet_examples.specs.Documents.{number_value, text_value, shared_value, list_value, ordered_value, hashed_value}

abbrev pub DocumentStores : Value → List Field → Type 0
DocumentStores v fields = Stores (first_fit text_hash) node_names node_shape v fields

-- a text out of line, at 0, and the root at 16
abbrev pub StoredText : Type 0
StoredText = DocumentStores (text_value "hello world!") (position 0 ∷ (offset 20 0 ∷ (text_length 12 ∷ (position 16 ∷ []))))

-- a shared text that a list holds twice: the second pointer stores no more than the offset and the length
abbrev pub StoredSharedText : Type 0
StoredSharedText =
    DocumentStores
    (list_value (shared_value 0 "hello world!" ∷ shared_value 0 "hello world!" ∷ []))
    (position 0 ∷ (offset 20 0 ∷ (count 12 ∷ (offset 44 0 ∷ (count 12
    ∷ (position 16 ∷ (offset 68 16 ∷ (count 2
    ∷ (position 64 ∷ [])))))))))

-- a list in a hashed map in an ordered map
abbrev pub StoredNestedMaps : Type 0
StoredNestedMaps =
    DocumentStores
    (ordered_value (item_of "eu" (hashed_value (item_of "vat" (list_value (number_value 7 ∷ number_value 19 ∷ [])) ∷ [])) ∷ []))
    (position 0 ∷ (offset 92 0 ∷ (count 2
    ∷ (position 48 ∷ (offset 196 112 ∷ (count 1 ∷ (count 2
    ∷ (position 144 ∷ (offset 324 144 ∷ (count 1
    ∷ (position 320 ∷ [])))))))))))
