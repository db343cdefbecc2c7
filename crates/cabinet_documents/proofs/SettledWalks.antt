-- In the walk of a canonical archive what the layout leaves open is settled at each stop.
use Rattle.std.proofs.Common.{ℕ, List}
use Rattle.std.specs.Prelude.{⊤}
use Rattle.archive_shape_layout.specs.Value.{Value, Values}
use Rattle.archive_shape_layout.specs.Content.{Names, Part}
use Rattle.archive_shape_layout.specs.Content.Content.{illegal, plain, claimed, counting}
use Rattle.archive_shape_layout.specs.Holds.{Region, Visit, OpenShared, Holds, HoldAll}
use Rattle.archive_shape_layout.specs.Holds.Holds.{holds_plain, holds_claimed, holds_first, holds_later, holds_back}
use Rattle.archive_shape_layout.specs.Holds.HoldAll.{holds_none, holds_more}
use Rattle.archive_shape_canonical.specs.Canonical.{IsCanonical, AreCanonical, end_of}
use Rattle.archive_shape_canonical.specs.Settled.{Fit, IsSettled}
use Rattle.cabinet_documents.proofs.Walkable.{Knowledge, IsKnown, AreKnown}

module _ (fit : Fit) (bytes : List ℕ) where
  abbrev pub Settled : Knowledge
  Settled p illegal vs = ⊤
  Settled p (plain l ps) vs = IsSettled fit bytes p ps vs
  Settled p (claimed s l ps) vs = IsSettled fit bytes p ps vs
  Settled p (counting cyclic t q len) vs = ⊤

  mutual
    pub settled_steps : {names : Names} {level : ℕ} {inside : List OpenShared} {p : Part} {v : Value} {regions : List Region} {before after : List Visit}
        → (h : Holds names bytes level inside p v regions before after) (low : ℕ) → IsCanonical fit h low → IsKnown Settled h
    settled_steps (holds_plain e legal all m) low c = (c.1, all_settled_steps all low c.2)
    settled_steps (holds_claimed e legal all m r) low c = (c.1, all_settled_steps all low c.2)
    settled_steps (holds_first e x y h d g) low c = settled_steps h low c.1
    settled_steps (holds_later e x y d g h) low c = tt
    settled_steps (holds_back e x d g h) low c = c

    all_settled_steps : {names : Names} {level : ℕ} {inside : List OpenShared} {ps : List Part} {vs : Values} {regions : List Region} {before after : List Visit}
        → (h : HoldAll names bytes level inside ps vs regions before after) (low : ℕ) → AreCanonical fit h low → AreKnown Settled h
    all_settled_steps (holds_none e f g) low c = tt
    all_settled_steps (holds_more h hs e r) low c = (settled_steps h low c.0, all_settled_steps hs (end_of h low) c.1)
