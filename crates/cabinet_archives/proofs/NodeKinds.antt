-- The kind of a node, by its tag.
use Rattle.std.proofs.Common.{◌≡◌, ℕ, zero, suc, List, sym, ap, ◌∙◌}
use Rattle.archive_shape_layout.specs.Shape.{Shape}
use Rattle.archive_shape_layout.specs.Value.{Value}
use Rattle.archive_shape_layout.specs.Content.{Names}
use Rattle.cabinet_text_grammar.specs.Tree.{Tree}
use Rattle.cabinet_text_nodes.specs.Kinds.{kind_of}
use Rattle.cabinet_text_nodes.specs.declared.node.Kind as node
use Rattle.cabinet_text_nodes.specs.declared.node.Kind.TheVariants as kind
use Rattle.cabinet_documents.specs.Denotes.{Denotes, tagged_value}
use Rattle.cabinet_documents.specs.Denotes.Denotes.{denotes_truth, denotes_number, denotes_text, denotes_shared, denotes_nothing, denotes_some, denotes_list, denotes_ordered, denotes_hashed, denotes_kept, denotes_whole}
use Rattle.cabinet_archived.specs.Kind.{IsTagged}
use Rattle.cabinet_archives.specs.Found.{OfDocument}

abbrev pub kind_at : ℕ → node.Kind
kind_at zero = kind.Bool
kind_at (suc zero) = kind.Int
kind_at (suc (suc zero)) = kind.Text
kind_at (suc (suc (suc zero))) = kind.Shared
kind_at (suc (suc (suc (suc zero)))) = kind.Maybe
kind_at (suc (suc (suc (suc (suc zero))))) = kind.List
kind_at (suc (suc (suc (suc (suc (suc zero)))))) = kind.Ordered
kind_at (suc (suc (suc (suc (suc (suc (suc zero))))))) = kind.Hashed
kind_at (suc (suc (suc (suc (suc (suc (suc (suc zero)))))))) = kind.Kept
kind_at (suc (suc (suc (suc (suc (suc (suc (suc (suc n))))))))) = kind.Whole

denoted_kind : {v w : Value} {t : Tree} {tag : ℕ} → v ≡ tagged_value tag w → Denotes v t → kind_at tag ≡ kind_of t
denoted_kind {tag = tag} e (denotes_truth f g) = let same : tag ≡ 0 = cc in ap kind_at same ∙ sym (ap kind_of g)
denoted_kind {tag = tag} e (denotes_number f g) = let same : tag ≡ 1 = cc in ap kind_at same ∙ sym (ap kind_of g)
denoted_kind {tag = tag} e (denotes_text f g) = let same : tag ≡ 2 = cc in ap kind_at same ∙ sym (ap kind_of g)
denoted_kind {tag = tag} e (denotes_shared f g) = let same : tag ≡ 3 = cc in ap kind_at same ∙ sym (ap kind_of g)
denoted_kind {tag = tag} e (denotes_nothing f g) = let same : tag ≡ 4 = cc in ap kind_at same ∙ sym (ap kind_of g)
denoted_kind {tag = tag} e (denotes_some f g d) = let same : tag ≡ 4 = cc in ap kind_at same ∙ sym (ap kind_of g)
denoted_kind {tag = tag} e (denotes_list f g d) = let same : tag ≡ 5 = cc in ap kind_at same ∙ sym (ap kind_of g)
denoted_kind {tag = tag} e (denotes_ordered f g d) = let same : tag ≡ 6 = cc in ap kind_at same ∙ sym (ap kind_of g)
denoted_kind {tag = tag} e (denotes_hashed f g d) = let same : tag ≡ 7 = cc in ap kind_at same ∙ sym (ap kind_of g)
denoted_kind {tag = tag} e (denotes_kept f g d) = let same : tag ≡ 8 = cc in ap kind_at same ∙ sym (ap kind_of g)
denoted_kind {tag = tag} e (denotes_whole f g d) = let same : tag ≡ 9 = cc in ap kind_at same ∙ sym (ap kind_of g)

pub kind_is : (bytes : List ℕ) (pos tag : ℕ) (shape : Shape) (knows : Names → Type 0) (to : ℕ) → IsTagged bytes pos tag shape knows to → OfDocument bytes pos (λ t. kind_at tag ≡ kind_of t)
kind_is bytes pos tag shape knows to tagged = λ v t h d. denoted_kind (tagged.payload v h).is d
