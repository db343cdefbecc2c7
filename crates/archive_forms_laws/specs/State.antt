-- The state of an archive that is being written: the position of the next byte, the shared values that were written,
-- and the keys of those that are being written.
use Rattle.std.specs.Prelude.{◌≡◌, ℕ, ◌+◌, ◌≤◌, ◌<◌, ◌==◌, cond, List, [], ◌∷◌, Option, Some, None, ⊤, ◌⊎◌}
use Rattle.archive_shape_layout.specs.Shape.{Pointee}
use Rattle.archive_shape_layout.specs.Value.{Value}
use Rattle.archive_shape_layout.specs.Holds.{Visit, OpenShared}
use Rattle.archive_shape_canonical.specs.Sharing.{erased}

-- a shared value that was written: its key, and how the layout has it
pub record Met : Type 0 where
  pub key : ℕ
  pub visit : Visit

pub record State : Type 0 where
  pub pos : ℕ
  -- the last one first
  pub met : List Met
  pub begun : List ℕ

-- nothing was written
abbrev pub initial : State
initial = record { pos = 0; met = []; begun = [] }

-- n bytes further, with these shared values written
abbrev pub advanced : ℕ → List Met → State → State
advanced n met st = record { pos = st.pos + n; met = met; begun = st.begun }

-- the value of a key is being written
abbrev pub with_begun : ℕ → State → State
with_begun key st = record { pos = st.pos; met = st.met; begun = key ∷ st.begun }

abbrev pub visits_of : List Met → List Visit
visits_of [] = []
visits_of (m ∷ ms) = m.visit ∷ visits_of ms

abbrev pub visit_of_key : List Met → ℕ → Option Visit
visit_of_key [] key = None
visit_of_key (m ∷ ms) key = cond (m.key == key) (Some m.visit) (visit_of_key ms key)

-- a key is none of these; it is one of them
abbrev pub IsNoneOf : ℕ → List ℕ → Type 0
IsNoneOf key [] = ⊤
IsNoneOf key (k ∷ ks) = (k ≡ key → ⊥) × IsNoneOf key ks

abbrev pub IsOneOf : ℕ → List ℕ → Type 0
IsOneOf key [] = ⊥
IsOneOf key (k ∷ ks) = (k ≡ key) ⊎ IsOneOf key ks

-- ---- states that writing reaches

-- all lie before a position
abbrev pub AllBefore : ℕ → List Met → Type 0
AllBefore n [] = ⊤
AllBefore n (m ∷ ms) = (m.visit.pos < n) × AllBefore n ms

-- each lies before those that were written after it
abbrev pub AreDescending : List Met → Type 0
AreDescending [] = ⊤
AreDescending (m ∷ ms) = AllBefore m.visit.pos ms × AreDescending ms

-- none has this key
abbrev pub IsNewKey : ℕ → List Met → Type 0
IsNewKey key [] = ⊤
IsNewKey key (m ∷ ms) = (m.key ≡ key → ⊥) × IsNewKey key ms

-- each has its own key
abbrev pub HaveOwnKeys : List Met → Type 0
HaveOwnKeys [] = ⊤
HaveOwnKeys (m ∷ ms) = IsNewKey m.key ms × HaveOwnKeys ms

abbrev pub AreNewKeys : List ℕ → List Met → Type 0
AreNewKeys [] ms = ⊤
AreNewKeys (key ∷ keys) ms = IsNewKey key ms × AreNewKeys keys ms

-- what was written lies before the next byte, each value under its own key, and none of it is being written
pub record IsConsistent (st : State) : Type 0 where
  pub before : AllBefore st.pos st.met
  pub descending : AreDescending st.met
  pub own_keys : HaveOwnKeys st.met
  pub new_keys : AreNewKeys st.begun st.met

-- shared positions that are being visited lie at a position or after it
abbrev pub AllFrom : ℕ → List OpenShared → Type 0
AllFrom n [] = ⊤
AllFrom n (o ∷ os) = (n ≤ o.pos) × AllFrom n os

-- ---- what keys denote

-- a type, a length, and a value without the positions of shared ones
pub record SharedValue : Type 0 where
  pub pointee : Pointee
  pub len : ℕ
  pub value : Value

abbrev pub Keys : Type 0
Keys = ℕ → Option SharedValue

-- each was written under a key that denotes it
abbrev pub AreKeyedBy : Keys → List Met → Type 0
AreKeyedBy keys [] = ⊤
AreKeyedBy keys (m ∷ ms) =
    (keys m.key ≡ Some (record { pointee = m.visit.pointee; len = m.visit.len; value = erased m.visit.value })) × AreKeyedBy keys ms

-- no two keys denote one value of one type
abbrev pub AreOneToOne : Keys → Type 0
AreOneToOne keys = (k l : ℕ) (a b : SharedValue) → keys k ≡ Some a → keys l ≡ Some b → a.pointee ≡ b.pointee → a.value ≡ b.value → k ≡ l
