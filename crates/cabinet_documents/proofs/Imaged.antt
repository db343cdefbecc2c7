-- The bytes that are written for a document are its image.
use Rattle.std.proofs.Common.{◌≡◌, ℕ, ◌+◌, ◌<◌, ◌≤◌, ◌^◌, List, [], ◌∷◌, ◌++◌, length, refl, sym, ap, subst, ◌∙◌, arith}
use Rattle.std.specs.List.{All}
use Rattle.std.proofs.lemmas.List.Elements.{All-nil, All-cons, All-contains}
use Rattle.archive_shape_layout.specs.Shape.Pointee.{sized}
use Rattle.archive_shape_layout.specs.Value.{Value}
use Rattle.archive_shape_layout.specs.Content.{Part, content_of, pointee_content}
use Rattle.archive_shape_layout.specs.Content.Part.{behind}
use Rattle.archive_shape_layout.specs.Holds.{Region, Visit, OpenShared, Holds, Ascends, root_position, region_of}
use Rattle.archive_shape_layout.specs.Holds.Holds.{holds_plain, holds_claimed, holds_first, holds_later, holds_back}
use Rattle.archive_shape_canonical.specs.FirstFit.{first_fit}
use Rattle.archive_shape_canonical.specs.Hash.{text_hash}
use Rattle.archive_forms_laws.specs.State.{initial}
use Rattle.archive_forms_laws.specs.Regions.{region_fits, region_piece}
use Rattle.archive_forms_laws.proofs.Regions.{region_end}
use Rattle.archive_shape_canonical.specs.Sharing.{erased}
use Rattle.archive_forms_laws.proofs.Written.{is_written, written_once_law}
use Rattle.cabinet_text_grammar.specs.Tree.{Tree}
use Rattle.cabinet_text_grammar.specs.Wholes.{wholes_of}
use Rattle.cabinet_text_grammar.proofs.Tables.{document_table, document_numbered}
use Rattle.cabinet_documents.specs.Node.{KnowsNode, node_shape, node_names}
use Rattle.cabinet_documents.proofs.CanonicalNodes.{canonical_tables, canonical_fitted}
use Rattle.cabinet_documents.proofs.Standing.{sound_walk}
use Rattle.cabinet_documents.specs.Spelling.{node_spelling}
use Rattle.cabinet_documents.specs.SpellingLaws.{WrittenIsImage, OneImage}
use Rattle.cabinet_documents.proofs.Levels.{node_spells_law}
use Rattle.cabinet_documents.proofs.Values.{value_of, keys_of, node_agrees, one_value_law}
use Rattle.cabinet_documents.proofs.KeysApart.{keys_apart}
use Rattle.cabinet_documents.proofs.SpellingDenoted.{denoted}

-- ---- where regions begin

abbrev BeginsBy : ℕ → Region → Type 0
BeginsBy n r = r.start ≤ n

abbrev AllBegin : ℕ → List Region → Type 0
AllBegin n rs = All (BeginsBy n) rs

record Before (low : ℕ) (rs : List Region) (last : Region) : Type 0 where
  first : low ≤ last.start
  all : AllBegin last.start (rs ++ last ∷ [])

before_last : (low high : ℕ) (rs : List Region) (last : Region) → Ascends low high (rs ++ last ∷ []) → Before low rs last
unfolding Ascends
before_last low high [] last a = record { first = a.0.after; all = All-cons (BeginsBy last.start) last [] (omega arith) (All-nil (BeginsBy last.start)) }
before_last low high (r ∷ rs) last a =
    let rest = before_last (r.start + r.size) high rs last a.1 in
    let here = rest.first in
    let up = a.0.after in
    record { first = omega (arith, here, up); all = All-cons (BeginsBy last.start) r (rs ++ last ∷ []) (omega (arith, here)) rest.all }

-- all regions of a root begin where it does, or before
root_begins : {level : ℕ} {inside : List OpenShared} {p : Part} {v : Value} {regions : List Region} {before after : List Visit}
    → (bytes : List ℕ) (pos high : ℕ)
    → Holds node_names bytes level inside p v regions before after
    → p ≡ behind pos (sized node_shape) 1
    → Ascends 0 high regions
    → AllBegin pos regions
unfolding pointee_content
root_begins bytes pos high (holds_plain e legal all m) is a = absurd (let f = ap (content_of node_names bytes) (sym is) ∙ e in cc)
root_begins {level = level} bytes pos high (holds_claimed {within = within} {s = s} e legal all m x) is a =
    let f = ap (content_of node_names bytes) (sym is) ∙ e in
    let same_start : pos ≡ s.start = cc in
    let rest = before_last 0 high within (region_of s level) (subst (Ascends 0 high) x a) in
    subst (AllBegin pos) (sym x) (subst (λ n. AllBegin n (within ++ region_of s level ∷ [])) (sym same_start) rest.all)
root_begins bytes pos high (holds_first e x y h f g) is a = absurd (let f = ap (content_of node_names bytes) (sym is) ∙ e in cc)
root_begins bytes pos high (holds_later e x y f g h) is a = absurd (let f = ap (content_of node_names bytes) (sym is) ∙ e in cc)
root_begins bytes pos high (holds_back e x f g h) is a = absurd (let f = ap (content_of node_names bytes) (sym is) ∙ e in cc)

-- ---- the whole

-- the root is where it was written
root_low : (t : Tree) (bytes : List ℕ) → region_fits (node_spelling (wholes_of t)) node_shape (t ∷ []) initial
    → bytes ≡ region_piece (node_spelling (wholes_of t)) node_shape (t ∷ []) initial → root_position (length bytes) node_shape < 2 ^ 32
unfolding root_position
root_low t bytes f e =
    let fit = first_fit text_hash in
    let table = wholes_of t in
    let end = region_end fit node_shape KnowsNode (node_spelling table) (t ∷ []) (node_spells_law table fit t, tt) initial f in
    let same = ap length e in
    let start = f.1 in
    omega (arith, end, same, start)

pub written_is_image_law : WrittenIsImage
written_is_image_law t bytes document f e =
    let fit = first_fit text_hash in
    let table = wholes_of t in
    let is = document_table t document in
    let agrees = node_agrees table is t in
    let written =
    is_written fit node_shape KnowsNode (node_spelling table) t node_names (keys_of table) bytes (node_spells_law table fit) refl
    (agrees.suits document.0 (document_numbered t)) (keys_apart table is) f e in
    let archive = written.archive in
    let v = (node_spelling table).value t initial in
    let root = archive.canonical.root in
    let pos = root_position (length bytes) node_shape in
    let same : erased v ≡ value_of t = written.plain ∙ agrees.plain in
    let denotes = denoted t v document.0 same in
    let tables = canonical_tables bytes v archive.regions archive.visits archive.canonical t denotes document in
    let walk = sound_walk bytes t v archive.regions archive.visits root denotes document tables in
    let low = root_low t bytes f e in
    let begins = root_begins bytes pos (length bytes) root.holds refl root.ascends in
    record {
      accepted = record {
        value = v;
        regions = archive.regions;
        visits = archive.visits;
        root = root;
        denotes = denotes;
        document = document;
        walk = walk.walk;
        walked = walk.walked;
        sound = walk.sound;
      };
      canonical = archive.canonical;
      low = λ r c. let h : r.start ≤ pos = All-contains (BeginsBy pos) archive.regions r begins c in omega (arith, h, low);
    }

pub one_image_law : OneImage
one_image_law t bytes others i k =
    let a = i.accepted in
    let b = k.accepted in
    let first = canonical_fitted bytes a.value a.regions a.visits i.canonical in
    let second = canonical_fitted others b.value b.regions b.visits k.canonical in
    let same : erased a.value ≡ erased b.value = one_value_law a.value t a.document a.denotes first ∙ sym (one_value_law b.value t a.document b.denotes second) in
    written_once_law (first_fit text_hash) node_names bytes others node_shape a.value b.value refl
    (record { regions = a.regions; visits = a.visits; canonical = i.canonical })
    (record { regions = b.regions; visits = b.visits; canonical = k.canonical })
    same
