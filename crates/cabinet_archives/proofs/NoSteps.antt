-- Steps that a node has not, by its kind.
use Rattle.std.proofs.Common.{◌≡◌, ℕ, List, [], ◌∷◌, Bor, Global, refl, sym, subst, arith, ⊎_elim}
use Rattle.std.specs.Prelude.{true, false, ⊤, String}
use Rattle.std.specs.Int.{w64}
use Rattle.archive_shape_layout.specs.Shape.{Shape}
use Rattle.archive_shape_layout.specs.Content.{Names}
use Rattle.archive_shape_layout.specs.Shape.Shape.{number, truth, text, shared, option, vector}
use Rattle.archive_shape_layout.specs.Shape.Pointee.{str}
use Rattle.cabinet_text_grammar.specs.Path as grammar
use Rattle.cabinet_documents.specs.Node.{node_shape, KnowsNode, whole_shape}
use Rattle.cabinet_archived.specs.Kind.{IsKindAt, IsTagged}
use Rattle.cabinet_archived.specs.declared.kind.ArchivedKind.{ArchivedKind}
use Rattle.cabinet_archived.specs.declared.kind.ArchivedKind.TheVariants as kind
use Rattle.cabinet_text_nodes.specs.View.{step_of}
use Rattle.cabinet_text_nodes.specs.declared.line.Step.{Step}
use Rattle.cabinet_text_nodes.specs.declared.line.Step.TheVariants as step
use Rattle.archive_forms_values.specs.Parts.{HasValue}
use Rattle.cabinet_archives.specs.Cost.{IsLookUp}
use Rattle.cabinet_archives.specs.Keyed.{knows_pairs}
use Rattle.cabinet_archives.specs.Found.{OfDocument, ReachesNone}
use Rattle.cabinet_archives.specs.Hashed.{table_shape}
use Rattle.cabinet_archives.specs.Kept.{index_shape}
use Rattle.cabinet_archives.specs.Ordered.{map_shape}
use Rattle.cabinet_archives.proofs.Entering.{enters_no_whole}
use Rattle.cabinet_archives.proofs.Stepping.{IsNotInside, IsNoPlace, IsNoKey}
use Rattle.cabinet_archives.proofs.Tags.{tag_is}
use Rattle.cabinet_archives.proofs.Ways.{Boxed, other_none}

pub not_inside : (s : Step) → (s ≡ step.Inside → ⊥) → IsNotInside (step_of s)
not_inside (step.Key k) other = tt
not_inside (step.Place i) other = tt
not_inside step.Inside other = other refl

pub no_place : (s : Step) → ((i : ℕ) → s ≡ step.Place i → ⊥) → IsNoPlace (step_of s)
no_place (step.Key k) other = tt
no_place (step.Place i) other = other i refl
no_place step.Inside other = tt

pub no_key : (s : Step) → ((k : String Global) → s ≡ step.Key k → ⊥) → IsNoKey (step_of s)
no_key (step.Key k) other = other k refl
no_key (step.Place i) other = tt
no_key step.Inside other = tt

-- a step that is neither into an option or a whole, nor to a place of a list, nor to a key of a map
pub no_step : (bytes : Bor (List ℕ)) (pos : ℕ) (k : ArchivedKind) (s : grammar.Step) → IsKindAt bytes pos k
    → ((r : _) → k ≡ kind.Maybe r → IsNotInside s)
    → ((r : _) → k ≡ kind.List r → IsNoPlace s)
    → ((r : _) → k ≡ kind.Ordered r → IsNoKey s)
    → ((r : _) → k ≡ kind.Hashed r → IsNoKey s)
    → ((r : _) → k ≡ kind.Kept r → IsNoKey s)
    → ((r : _) → k ≡ kind.Whole r → IsNotInside s)
    → ReachesNone bytes.now pos (s ∷ [])
no_step bytes pos (kind.Bool r) s is apart beside keyless tableless numberless outside = other_none bytes.now pos s 0 truth (λ _. ⊤) r.pos (⊎_elim (λ e. absurd (omega (arith, e))) (λ e. absurd (omega (arith, e)))) (λ e. absurd (omega (arith, e))) (λ e f. absurd (omega (arith, e))) is.2
no_step bytes pos (kind.Int r) s is apart beside keyless tableless numberless outside = other_none bytes.now pos s 1 (number w64 true) (λ _. ⊤) r.pos (⊎_elim (λ e. absurd (omega (arith, e))) (λ e. absurd (omega (arith, e)))) (λ e. absurd (omega (arith, e))) (λ e f. absurd (omega (arith, e))) is.2
no_step bytes pos (kind.Text r) s is apart beside keyless tableless numberless outside = other_none bytes.now pos s 2 text (λ _. ⊤) r.pos (⊎_elim (λ e. absurd (omega (arith, e))) (λ e. absurd (omega (arith, e)))) (λ e. absurd (omega (arith, e))) (λ e f. absurd (omega (arith, e))) is.2
no_step bytes pos (kind.Shared r) s is apart beside keyless tableless numberless outside = other_none bytes.now pos s 3 (shared false str) (λ _. ⊤) r.pos (⊎_elim (λ e. absurd (omega (arith, e))) (λ e. absurd (omega (arith, e)))) (λ e. absurd (omega (arith, e))) (λ e f. absurd (omega (arith, e))) is.2
no_step bytes pos (kind.Maybe r) s is apart beside keyless tableless numberless outside = other_none bytes.now pos s 4 (option Boxed) KnowsNode r.pos (⊎_elim (λ e. apart r refl) (λ e. absurd (omega (arith, e)))) (λ e. absurd (omega (arith, e))) (λ e f. absurd (omega (arith, e))) is.2
no_step bytes pos (kind.List r) s is apart beside keyless tableless numberless outside = other_none bytes.now pos s 5 (vector node_shape) KnowsNode r.pos (⊎_elim (λ e. absurd (omega (arith, e))) (λ e. absurd (omega (arith, e)))) (λ e. beside r refl) (λ e f. absurd (omega (arith, e))) is.2
no_step bytes pos (kind.Ordered r) s is apart beside keyless tableless numberless outside = other_none bytes.now pos s 6 map_shape knows_pairs r.pos (⊎_elim (λ e. absurd (omega (arith, e))) (λ e. absurd (omega (arith, e)))) (λ e. absurd (omega (arith, e))) (λ e f. keyless r refl) is.2
no_step bytes pos (kind.Hashed r) s is apart beside keyless tableless numberless outside = other_none bytes.now pos s 7 table_shape knows_pairs r.pos (⊎_elim (λ e. absurd (omega (arith, e))) (λ e. absurd (omega (arith, e)))) (λ e. absurd (omega (arith, e))) (λ e f. tableless r refl) is.2
no_step bytes pos (kind.Kept r) s is apart beside keyless tableless numberless outside = other_none bytes.now pos s 8 index_shape knows_pairs r.pos (⊎_elim (λ e. absurd (omega (arith, e))) (λ e. absurd (omega (arith, e)))) (λ e. absurd (omega (arith, e))) (λ e f. numberless r refl) is.2
no_step bytes pos (kind.Whole r) s is apart beside keyless tableless numberless outside = other_none bytes.now pos s 9 whole_shape KnowsNode r.pos (⊎_elim (λ e. absurd (omega (arith, e))) (λ e. outside r refl)) (λ e. absurd (omega (arith, e))) (λ e f. absurd (omega (arith, f))) is.2

-- and where no key of a map is looked up
pub none_looked_up : (bytes : Bor (List ℕ)) (pos : ℕ) → HasValue node_shape KnowsNode bytes.now pos → (k : ArchivedKind) (s : grammar.Step) → IsKindAt bytes pos k
    → ((r : _) → k ≡ kind.Ordered r → IsNoKey s)
    → ((r : _) → k ≡ kind.Hashed r → IsNoKey s)
    → ((r : _) → k ≡ kind.Kept r → IsNoKey s)
    → IsLookUp bytes.now pos s → ⊥
none_looked_up bytes pos there (kind.Bool r) s is keyless tableless numberless look = let tag = tag_is bytes.now pos there is.2 in let high = look.2 in omega (arith, tag, high)
none_looked_up bytes pos there (kind.Int r) s is keyless tableless numberless look = let tag = tag_is bytes.now pos there is.2 in let high = look.2 in omega (arith, tag, high)
none_looked_up bytes pos there (kind.Text r) s is keyless tableless numberless look = let tag = tag_is bytes.now pos there is.2 in let high = look.2 in omega (arith, tag, high)
none_looked_up bytes pos there (kind.Shared r) s is keyless tableless numberless look = let tag = tag_is bytes.now pos there is.2 in let high = look.2 in omega (arith, tag, high)
none_looked_up bytes pos there (kind.Maybe r) s is keyless tableless numberless look = let tag = tag_is bytes.now pos there is.2 in let high = look.2 in omega (arith, tag, high)
none_looked_up bytes pos there (kind.List r) s is keyless tableless numberless look = let tag = tag_is bytes.now pos there is.2 in let high = look.2 in omega (arith, tag, high)
none_looked_up bytes pos there (kind.Ordered r) s is keyless tableless numberless look = subst IsNoKey look.1 (keyless r refl)
none_looked_up bytes pos there (kind.Hashed r) s is keyless tableless numberless look = subst IsNoKey look.1 (tableless r refl)
none_looked_up bytes pos there (kind.Kept r) s is keyless tableless numberless look = subst IsNoKey look.1 (numberless r refl)
none_looked_up bytes pos there (kind.Whole r) s is keyless tableless numberless look = let tag = tag_is bytes.now pos there is.2 in let low = look.3 in omega (arith, tag, low)

-- ---- into wholes

module _ (bytes : List ℕ) (pos : ℕ) where
  -- a step from a node with another tag leads into no whole, nor does one that is not inside
  pub outside : {tag to : ℕ} {s : Shape} {knows : Names → Type 0} (st : grammar.Step) → IsTagged bytes pos tag s knows to → (tag ≡ 9 → IsNotInside st) → OfDocument bytes pos (λ t. false ≡ grammar.enters t (st ∷ []))
  outside st tagged other = λ v t h d. let p = tagged.payload v h in sym (enters_no_whole st p.is other d)

pub not_into_whole : (bytes : Bor (List ℕ)) (pos : ℕ) (k : ArchivedKind) (s : grammar.Step) → IsKindAt bytes pos k → ((r : _) → k ≡ kind.Whole r → IsNotInside s) → OfDocument bytes.now pos (λ t. false ≡ grammar.enters t (s ∷ []))
not_into_whole bytes pos (kind.Bool r) s is other = outside bytes.now pos s is.2 (λ e. absurd (omega (arith, e)))
not_into_whole bytes pos (kind.Int r) s is other = outside bytes.now pos s is.2 (λ e. absurd (omega (arith, e)))
not_into_whole bytes pos (kind.Text r) s is other = outside bytes.now pos s is.2 (λ e. absurd (omega (arith, e)))
not_into_whole bytes pos (kind.Shared r) s is other = outside bytes.now pos s is.2 (λ e. absurd (omega (arith, e)))
not_into_whole bytes pos (kind.Maybe r) s is other = outside bytes.now pos s is.2 (λ e. absurd (omega (arith, e)))
not_into_whole bytes pos (kind.List r) s is other = outside bytes.now pos s is.2 (λ e. absurd (omega (arith, e)))
not_into_whole bytes pos (kind.Ordered r) s is other = outside bytes.now pos s is.2 (λ e. absurd (omega (arith, e)))
not_into_whole bytes pos (kind.Hashed r) s is other = outside bytes.now pos s is.2 (λ e. absurd (omega (arith, e)))
not_into_whole bytes pos (kind.Kept r) s is other = outside bytes.now pos s is.2 (λ e. absurd (omega (arith, e)))
not_into_whole bytes pos (kind.Whole r) s is other = outside bytes.now pos s is.2 (λ e. other r refl)
