-- Laws of the spelling of documents, as statements.
use Rattle.std.specs.Prelude.{◌≡◌, ◌↔◌, pos, List, ℕ, [], ◌∷◌, Result}
use Rattle.archive_shape_layout.specs.Value.{Value}
use Rattle.archive_shape_canonical.specs.FirstFit.{first_fit}
use Rattle.archive_shape_canonical.specs.Hash.{text_hash}
use Rattle.archive_shape_canonical.specs.Limits.{PastLimits}
use Rattle.archive_shape_canonical.specs.Settled.{Fit}
use Rattle.archive_shape_canonical.specs.Sharing.{erased}
use Rattle.archive_shape_layout.specs.Writing.{WriterMembers}
use Rattle.archive_shape_layout.specs.declared.error.Error.{Error}
use Rattle.archive_forms_laws.specs.State.{initial}
use Rattle.archive_forms_laws.specs.Spells.{Spells}
use Rattle.archive_forms_laws.specs.Serializing.{Serializes}
use Rattle.archive_forms_laws.specs.Regions.{region_fits, region_piece, region_refused}
use Rattle.cabinet_text_grammar.specs.Tree.{Tree, leaf, number, shared, list, whole, no_trees, more_trees}
use Rattle.cabinet_text_grammar.specs.Wholes.{wholes_of, IsDocument}
use Rattle.cabinet_documents.specs.Node.{node_shape, node_names, KnowsNode}
use Rattle.cabinet_documents.specs.Denotes.{Denotes}
use Rattle.cabinet_documents.specs.Fitted.{IsFitted}
use Rattle.cabinet_documents.specs.Image.{Image}
use Rattle.cabinet_documents.specs.Laws.{bytes_five}
use Rattle.cabinet_documents.specs.Resolver.{Resolver}
use Rattle.cabinet_documents.specs.Spelling.{node_level, node_spelling, node_value}

abbrev pub NodeSpells : Type 0
NodeSpells = (table : List Tree) (fit : Fit) → Spells fit node_shape KnowsNode (node_spelling table)

-- the value of a document denotes it, and its hashed maps are in the order of first fit
abbrev pub ValueDenotes : Type 0
ValueDenotes = (t : Tree) → IsDocument t → Denotes (node_value t) t × IsFitted (node_value t)

-- no other value in that order denotes it, except for the positions of shared texts and of wholes
abbrev pub OneValue : Type 0
OneValue = (v : Value) (t : Tree) → IsDocument t → Denotes v t → IsFitted v → erased v ≡ node_value t

-- all bytes that writing a document produces where nothing was written before
abbrev pub archive_of : Tree → List ℕ
archive_of t = region_piece (node_spelling (wholes_of t)) node_shape (t ∷ []) initial

-- writing the document exceeds no limit
abbrev pub ArchiveFits : Tree → Type 0
ArchiveFits t = region_fits (node_spelling (wholes_of t)) node_shape (t ∷ []) initial

-- writing the document exceeds a limit, which the error reports
abbrev pub ArchiveRefused : Tree → Error → Type 0
ArchiveRefused t e = region_refused (node_spelling (wholes_of t)) node_shape (t ∷ []) initial e

-- a document is refused with an error exactly where what a value that denotes it stores is past the limit of that
-- error, where the value's hashed maps are in the order of first fit
abbrev pub RefusedIsPast : Type 0
RefusedIsPast =
    (t : Tree) (v : Value) (e : Error)
    → IsDocument t → Denotes v t → IsFitted v → ArchiveRefused t e ↔ PastLimits (first_fit text_hash) node_names node_shape v e

-- a call that writes the data of a node by one level, with the nodes in it by `node_spelling`, writes it by
-- `node_spelling`
abbrev pub OneLevelIsWritten : Type 0 → Type 0
OneLevelIsWritten W =
    (table : List Tree) (m : WriterMembers W) (t : Tree) (old new : W) (result : Result Resolver Error)
    → Serializes (node_level table (node_spelling table)) m t old new result
    → Serializes (node_spelling table) m t old new result

-- what is written of a document within the limits is its image
abbrev pub WrittenIsImage : Type 0
WrittenIsImage = (t : Tree) (bytes : List ℕ) → IsDocument t → ArchiveFits t → bytes ≡ archive_of t → Image t bytes

-- there is one image of a document
abbrev pub OneImage : Type 0
OneImage = (t : Tree) (bytes others : List ℕ) → Image t bytes → Image t others → bytes ≡ others

-- ---- examples

abbrev pub five : Tree
five = leaf (number (pos 5))

-- the element at 0, and at 24 a tag, the offset of -28 at 28, and the length
abbrev pub list_of_five_bytes : List ℕ
list_of_five_bytes =
    1 ∷ 0 ∷ 0 ∷ 0 ∷ 0 ∷ 0 ∷ 0 ∷ 0 ∷ 5 ∷ 0 ∷ 0 ∷ 0 ∷ 0 ∷ 0 ∷ 0 ∷ 0 ∷ 0 ∷ 0 ∷ 0 ∷ 0 ∷ 0 ∷ 0 ∷ 0 ∷ 0
    ∷ 5 ∷ 0 ∷ 0 ∷ 0 ∷ 228 ∷ 255 ∷ 255 ∷ 255 ∷ 1 ∷ 0 ∷ 0 ∷ 0 ∷ 0 ∷ 0 ∷ 0 ∷ 0 ∷ 0 ∷ 0 ∷ 0 ∷ 0 ∷ 0 ∷ 0 ∷ 0 ∷ 0 ∷ []

-- the shared text "a", twice
abbrev pub shared_twice : Tree
shared_twice = list (more_trees (shared (97 ∷ [])) (more_trees (shared (97 ∷ [])) no_trees))

-- its one byte at 0, the elements at 8 and 32 with the offsets of -12 at 12 and of -36 at 36, and the list at 56
abbrev pub shared_twice_bytes : List ℕ
shared_twice_bytes =
    97 ∷ 0 ∷ 0 ∷ 0 ∷ 0 ∷ 0 ∷ 0 ∷ 0
    ∷ 3 ∷ 0 ∷ 0 ∷ 0 ∷ 244 ∷ 255 ∷ 255 ∷ 255 ∷ 1 ∷ 0 ∷ 0 ∷ 0 ∷ 0 ∷ 0 ∷ 0 ∷ 0 ∷ 0 ∷ 0 ∷ 0 ∷ 0 ∷ 0 ∷ 0 ∷ 0 ∷ 0
    ∷ 3 ∷ 0 ∷ 0 ∷ 0 ∷ 220 ∷ 255 ∷ 255 ∷ 255 ∷ 1 ∷ 0 ∷ 0 ∷ 0 ∷ 0 ∷ 0 ∷ 0 ∷ 0 ∷ 0 ∷ 0 ∷ 0 ∷ 0 ∷ 0 ∷ 0 ∷ 0 ∷ 0
    ∷ 5 ∷ 0 ∷ 0 ∷ 0 ∷ 204 ∷ 255 ∷ 255 ∷ 255 ∷ 2 ∷ 0 ∷ 0 ∷ 0 ∷ 0 ∷ 0 ∷ 0 ∷ 0 ∷ 0 ∷ 0 ∷ 0 ∷ 0 ∷ 0 ∷ 0 ∷ 0 ∷ 0 ∷ []

-- the number five in a whole, twice
abbrev pub whole_twice : Tree
whole_twice = list (more_trees (whole five) (more_trees (whole five) no_trees))

-- the number at 0, the elements at 24 and 48 with the offsets of -28 at 28 and of -52 at 52, and the list at 72
abbrev pub whole_twice_bytes : List ℕ
whole_twice_bytes =
    1 ∷ 0 ∷ 0 ∷ 0 ∷ 0 ∷ 0 ∷ 0 ∷ 0 ∷ 5 ∷ 0 ∷ 0 ∷ 0 ∷ 0 ∷ 0 ∷ 0 ∷ 0 ∷ 0 ∷ 0 ∷ 0 ∷ 0 ∷ 0 ∷ 0 ∷ 0 ∷ 0
    ∷ 9 ∷ 0 ∷ 0 ∷ 0 ∷ 228 ∷ 255 ∷ 255 ∷ 255 ∷ 0 ∷ 0 ∷ 0 ∷ 0 ∷ 0 ∷ 0 ∷ 0 ∷ 0 ∷ 0 ∷ 0 ∷ 0 ∷ 0 ∷ 0 ∷ 0 ∷ 0 ∷ 0
    ∷ 9 ∷ 0 ∷ 0 ∷ 0 ∷ 204 ∷ 255 ∷ 255 ∷ 255 ∷ 0 ∷ 0 ∷ 0 ∷ 0 ∷ 0 ∷ 0 ∷ 0 ∷ 0 ∷ 0 ∷ 0 ∷ 0 ∷ 0 ∷ 0 ∷ 0 ∷ 0 ∷ 0
    ∷ 5 ∷ 0 ∷ 0 ∷ 0 ∷ 204 ∷ 255 ∷ 255 ∷ 255 ∷ 2 ∷ 0 ∷ 0 ∷ 0 ∷ 0 ∷ 0 ∷ 0 ∷ 0 ∷ 0 ∷ 0 ∷ 0 ∷ 0 ∷ 0 ∷ 0 ∷ 0 ∷ 0 ∷ []

-- the number one in a whole, twice, in a whole that stands at two places around the former
abbrev pub one : Tree
one = leaf (number (pos 1))

abbrev pub one_twice : Tree
one_twice = list (more_trees (whole one) (more_trees (whole one) no_trees))

abbrev pub nested_wholes : Tree
nested_wholes = list (more_trees (whole one_twice) (more_trees (whole one) (more_trees (whole one_twice) no_trees)))

-- the number at 0, the list of the inner whole at 72, and the elements of the root at 96, with the offsets of -28, -124,
-- -76 and -76 at 100, 124, 148 and 172
abbrev pub nested_wholes_bytes : List ℕ
nested_wholes_bytes =
    1 ∷ 0 ∷ 0 ∷ 0 ∷ 0 ∷ 0 ∷ 0 ∷ 0 ∷ 1 ∷ 0 ∷ 0 ∷ 0 ∷ 0 ∷ 0 ∷ 0 ∷ 0 ∷ 0 ∷ 0 ∷ 0 ∷ 0 ∷ 0 ∷ 0 ∷ 0 ∷ 0
    ∷ 9 ∷ 0 ∷ 0 ∷ 0 ∷ 228 ∷ 255 ∷ 255 ∷ 255 ∷ 0 ∷ 0 ∷ 0 ∷ 0 ∷ 0 ∷ 0 ∷ 0 ∷ 0 ∷ 0 ∷ 0 ∷ 0 ∷ 0 ∷ 0 ∷ 0 ∷ 0 ∷ 0
    ∷ 9 ∷ 0 ∷ 0 ∷ 0 ∷ 204 ∷ 255 ∷ 255 ∷ 255 ∷ 0 ∷ 0 ∷ 0 ∷ 0 ∷ 0 ∷ 0 ∷ 0 ∷ 0 ∷ 0 ∷ 0 ∷ 0 ∷ 0 ∷ 0 ∷ 0 ∷ 0 ∷ 0
    ∷ 5 ∷ 0 ∷ 0 ∷ 0 ∷ 204 ∷ 255 ∷ 255 ∷ 255 ∷ 2 ∷ 0 ∷ 0 ∷ 0 ∷ 0 ∷ 0 ∷ 0 ∷ 0 ∷ 0 ∷ 0 ∷ 0 ∷ 0 ∷ 0 ∷ 0 ∷ 0 ∷ 0
    ∷ 9 ∷ 0 ∷ 0 ∷ 0 ∷ 228 ∷ 255 ∷ 255 ∷ 255 ∷ 0 ∷ 0 ∷ 0 ∷ 0 ∷ 0 ∷ 0 ∷ 0 ∷ 0 ∷ 0 ∷ 0 ∷ 0 ∷ 0 ∷ 0 ∷ 0 ∷ 0 ∷ 0
    ∷ 9 ∷ 0 ∷ 0 ∷ 0 ∷ 132 ∷ 255 ∷ 255 ∷ 255 ∷ 0 ∷ 0 ∷ 0 ∷ 0 ∷ 0 ∷ 0 ∷ 0 ∷ 0 ∷ 0 ∷ 0 ∷ 0 ∷ 0 ∷ 0 ∷ 0 ∷ 0 ∷ 0
    ∷ 9 ∷ 0 ∷ 0 ∷ 0 ∷ 180 ∷ 255 ∷ 255 ∷ 255 ∷ 0 ∷ 0 ∷ 0 ∷ 0 ∷ 0 ∷ 0 ∷ 0 ∷ 0 ∷ 0 ∷ 0 ∷ 0 ∷ 0 ∷ 0 ∷ 0 ∷ 0 ∷ 0
    ∷ 5 ∷ 0 ∷ 0 ∷ 0 ∷ 180 ∷ 255 ∷ 255 ∷ 255 ∷ 3 ∷ 0 ∷ 0 ∷ 0 ∷ 0 ∷ 0 ∷ 0 ∷ 0 ∷ 0 ∷ 0 ∷ 0 ∷ 0 ∷ 0 ∷ 0 ∷ 0 ∷ 0 ∷ []

abbrev pub SamplesAreSpelled : Type 0
SamplesAreSpelled =
    (archive_of five ≡ bytes_five)
    × (archive_of (list (more_trees five no_trees)) ≡ list_of_five_bytes)
    × (archive_of shared_twice ≡ shared_twice_bytes)
    × (archive_of whole_twice ≡ whole_twice_bytes)
    × (archive_of nested_wholes ≡ nested_wholes_bytes)

abbrev pub SamplesAreImages : Type 0
SamplesAreImages =
    Image five bytes_five
    × Image (list (more_trees five no_trees)) list_of_five_bytes
    × Image shared_twice shared_twice_bytes
    × Image whole_twice whole_twice_bytes
    × Image nested_wholes nested_wholes_bytes
