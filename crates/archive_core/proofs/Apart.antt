-- Shared values that were written under different keys have different positions.
use Rattle.std.proofs.Common.{◌≡◌, ◌≢◌, ℕ, ◌<◌, ◌==◌, Bool, true, false, cond, ◌⊎◌, inl, inr, List, [], ◌∷◌, Some, refl, sym, ap, subst, ◌∙◌, arith}
use Rattle.std.proofs.lemmas.Bool.Decides.{eqb_tells}
use Rattle.archive_shape_layout.specs.Shape.{Shape}
use Rattle.archive_shape_layout.specs.Content.{Names}
use Rattle.archive_shape_layout.specs.Holds.{Visit}
use Rattle.archive_shape_canonical.specs.Settled.{Fit}
use Rattle.archive_shape_canonical.specs.FirstFit.{first_fit}
use Rattle.archive_forms_laws.specs.State.{Met, AllBefore, AreDescending, visit_of_key}
use Rattle.archive_forms_laws.specs.Spelling.{Spelling}
use Rattle.archive_forms_laws.specs.Spells.{Spells}
use Rattle.archive_core.specs.Laws.{KeysStandApart}

-- the value of a key is the first of the values, or is found among the others
data Found (m : Met) (ms : List Met) (k : ℕ) (a : Visit) : Type 0 where
  here : m.key ≡ k → m.visit ≡ a → Found m ms k a
  later : visit_of_key ms k ≡ Some a → Found m ms k a

found : (m : Met) (ms : List Met) (k : ℕ) (a : Visit) → visit_of_key (m ∷ ms) k ≡ Some a → Found m ms k a
found m ms k a e = by (eqb_tells m.key k)
  where
    chosen : (b : Bool) → (m.key == k) ≡ b → cond b (Some m.visit) (visit_of_key ms k) ≡ Some a
    chosen b is = subst (λ c. cond c (Some m.visit) (visit_of_key ms k) ≡ Some a) is e

    by : (((m.key == k) ≡ true) × (m.key ≡ k)) ⊎ (((m.key == k) ≡ false) × (m.key ≢ k)) → Found m ms k a
    by (inl t) = let same = chosen true t.0 in here t.1 cc
    by (inr f) = later (chosen false f.0)

either : {P : Type 0} {m : Met} {ms : List Met} {k : ℕ} {a : Visit} → Found m ms k a → (m.key ≡ k → m.visit ≡ a → P) → (visit_of_key ms k ≡ Some a → P) → P
either (here e f) h l = h e f
either (later e) h l = l e

-- it is before what all of them are before
found_before : (n k : ℕ) (ms : List Met) (a : Visit) → AllBefore n ms → visit_of_key ms k ≡ Some a → a.pos < n
found_before n k [] a all e = absurd (cc)
found_before n k (m ∷ ms) a all e =
    either (found m ms k a e) (λ _ v. subst (λ x. x.pos < n) v all.0) (λ f. found_before n k ms a all.1 f)

stand_apart : (ms : List Met) (k l : ℕ) (a b : Visit) → AreDescending ms → visit_of_key ms k ≡ Some a → visit_of_key ms l ≡ Some b → k ≢ l → a.pos ≢ b.pos
stand_apart [] k l a b d e f other same = absurd (cc)
stand_apart (m ∷ ms) k l a b d e f other same =
    either (found m ms k a e)
    (λ mk ma. either (found m ms l b f)
    (λ ml mb. other (sym mk ∙ ml))
    (λ g. let low = found_before m.visit.pos l ms b d.0 g in let is = ap (λ x. x.pos) ma in omega (arith, low, is, same)))
    (λ h. either (found m ms l b f)
    (λ ml mb. let low = found_before m.visit.pos k ms a d.0 h in let is = ap (λ x. x.pos) mb in omega (arith, low, is, same))
    (λ g. stand_apart ms k l a b d.1 h g other same))

pub apart_law : {A R : Type 0} (s : Shape) (knows : Names → Type 0) (w : Spelling A R) → ((fit : Fit) → Spells fit s knows w) → KeysStandApart s knows w
apart_law s knows w spells x st k l a b consistent fits e f other =
    stand_apart (w.met x st) k l a b ((spells (first_fit (λ t. 0)) x).consistent st consistent fits).descending e f other
