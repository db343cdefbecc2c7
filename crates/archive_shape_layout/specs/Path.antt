-- Paths in a value, and the parts at them.
use Rattle.std.specs.Prelude.{◌≡◌, ℕ, zero, suc, ◌+◌, ◌-◌, nat_lt, cond, List, [], ◌∷◌, Option, Some, None}
use Rattle.archive_shape_layout.specs.Value.{Value, Values, count_values}
use Rattle.archive_shape_layout.specs.Value.Value.{group, chosen}
use Rattle.archive_shape_layout.specs.Value.Values.{no_values, more_values}
use Rattle.archive_shape_layout.specs.Content.{Names, Part, Span, Label, content_of, made, members, first_values, other_values}
use Rattle.archive_shape_layout.specs.Content.Content.{plain, claimed}
use Rattle.archive_shape_layout.specs.Content.Label.{same, second, whole, tagged, woven, total}
use Rattle.archive_shape_layout.specs.Holds.{Region, Visit, OpenShared, Holds, HoldAll}

-- ---- paths: each step is the number of a member of a group, or of a payload

abbrev pub value_in : ℕ → Values → Option Value
value_in i no_values = None
value_in zero (more_values v vs) = Some v
value_in (suc i) (more_values v vs) = value_in i vs

abbrev pub change_in : ℕ → (Value → Value) → Values → Values
change_in i f no_values = no_values
change_in zero f (more_values v vs) = more_values (f v) vs
change_in (suc i) f (more_values v vs) = more_values v (change_in i f vs)

abbrev pub and_then : Option Value → (Value → Option Value) → Option Value
and_then None f = None
and_then (Some v) f = f v

-- the value at a path
abbrev pub value_at : List ℕ → Value → Option Value
value_at [] v = Some v
value_at (i ∷ path) (group vs) = and_then (value_in i vs) (λ u. value_at path u)
value_at (i ∷ path) (chosen t vs) = and_then (value_in i vs) (λ u. value_at path u)
value_at (i ∷ path) v = None

-- the value with another one at a path
abbrev pub put_at : List ℕ → Value → Value → Value
put_at [] new v = new
put_at (i ∷ path) new (group vs) = group (change_in i (λ u. put_at path new u) vs)
put_at (i ∷ path) new (chosen t vs) = chosen t (change_in i (λ u. put_at path new u) vs)
put_at (i ∷ path) new v = v

-- ---- from the path in one part's value to that in the value which is made of all

abbrev pub beyond : ℕ → Option ℕ → Option ℕ
beyond n None = None
beyond n (Some i) = Some (n + i)

-- of children and entries in turn, the number of items before those of child i
abbrev pub child_place : ℕ → Values → Values → Option ℕ
child_place i no_values es = None
child_place zero (more_values (group items) cs) es = Some 0
child_place zero (more_values c cs) es = None
child_place (suc i) (more_values c cs) no_values = None
child_place (suc i) (more_values c cs) (more_values e es) = beyond (count_values (members c) + 1) (child_place i cs es)

-- and the number of items before entry i
abbrev pub entry_place : ℕ → Values → Values → Option ℕ
entry_place i no_values es = Some i
entry_place i (more_values c cs) no_values = None
entry_place zero (more_values c cs) (more_values e es) = Some (count_values (members c))
entry_place (suc i) (more_values c cs) (more_values e es) = beyond (count_values (members c) + 1) (entry_place i cs es)

abbrev pub in_child : Option ℕ → List ℕ → Option (List ℕ)
in_child (Some n) (j ∷ path) = Some ((n + j) ∷ path)
in_child _ _ = None

abbrev pub in_entry : Option ℕ → List ℕ → Option (List ℕ)
in_entry (Some n) path = Some (n ∷ path)
in_entry None path = None

-- the path in the whole, where part i has the path given
abbrev pub through : Label → Values → ℕ → List ℕ → Option (List ℕ)
through same vs zero path = Some path
through second vs (suc zero) path = Some path
through whole vs i path = Some (i ∷ path)
through (tagged t) vs i path = Some (i ∷ path)
through (woven n) vs i path =
    cond
    (nat_lt i n)
    (in_child (child_place i (first_values n vs) (other_values n vs)) path)
    (in_entry (entry_place (i - n) (first_values n vs) (other_values n vs)) path)
through (total n) vs zero (j ∷ path) = Some (j ∷ path)
through _ vs i path = None

-- ---- parts at paths

mutual
  -- at a level, inside the shared positions that are open and from those visited so far, the part q is in a part at a
  -- path of its value, and has the value w there. No shared pointer lies between.
  pub data Stands (names : Names) (bytes : List ℕ) (q : Part) (w : Value) : ℕ → List OpenShared → List Visit → Part → Value → List ℕ → Type 0 where
    stands_here :
        {level : ℕ} {inside : List OpenShared} {before : List Visit} {p : Part} {v : Value} {path : List ℕ}
        → p ≡ q
        → v ≡ w
        → path ≡ []
        → Stands names bytes q w level inside before p v path
    stands_plain :
        {level : ℕ} {inside : List OpenShared} {before : List Visit} {p : Part} {v : Value} {inner path : List ℕ} {l : Label} {ps : List Part} {vs : Values} {i : ℕ}
        → content_of names bytes p ≡ plain l ps
        → StandsIn names bytes q w level inside before ps vs i inner
        → made l vs ≡ Some v
        → through l vs i inner ≡ Some path
        → Stands names bytes q w level inside before p v path
    stands_claimed :
        {level : ℕ} {inside : List OpenShared} {before : List Visit} {p : Part} {v : Value} {inner path : List ℕ} {s : Span} {l : Label} {ps : List Part} {vs : Values} {i : ℕ}
        → content_of names bytes p ≡ claimed s l ps
        → StandsIn names bytes q w (suc level) inside before ps vs i inner
        → made l vs ≡ Some v
        → through l vs i inner ≡ Some path
        → Stands names bytes q w level inside before p v path

  -- it is in part i of a list of parts, with their values
  pub data StandsIn (names : Names) (bytes : List ℕ) (q : Part) (w : Value) : ℕ → List OpenShared → List Visit → List Part → Values → ℕ → List ℕ → Type 0 where
    stands_first :
        {level : ℕ} {inside : List OpenShared} {before between after : List Visit} {p : Part} {ps : List Part} {v : Value} {vs ws : Values} {here later : List Region} {i : ℕ} {path : List ℕ}
        → Stands names bytes q w level inside before p v path
        → Holds names bytes level inside p v here before between
        → HoldAll names bytes level inside ps vs later between after
        → ws ≡ more_values v vs
        → i ≡ 0
        → StandsIn names bytes q w level inside before (p ∷ ps) ws i path
    stands_later :
        {level : ℕ} {inside : List OpenShared} {before between : List Visit} {p : Part} {ps : List Part} {v : Value} {vs ws : Values} {here : List Region} {i j : ℕ} {path : List ℕ}
        → Holds names bytes level inside p v here before between
        → StandsIn names bytes q w level inside between ps vs i path
        → ws ≡ more_values v vs
        → j ≡ suc i
        → StandsIn names bytes q w level inside before (p ∷ ps) ws j path
