-- The items of a tree between two bounds.
use Rattle.std.specs.Prelude.{◌≡◌, ℕ, nat_eq, Bool, true, not, List, [], ◌∷◌, ◌++◌, Option, Some, None, All, AllPairs, take_while, ⊤}
use Rattle.archive_btree_layout.specs.Reading.{Place}

-- the calls of a test at the keys of these places return what this function does
abbrev pub Decides : {F : Type 0} → (F → ℕ → Bool → Type 0) → F → (Place → Bool) → List Place → Type 0
Decides post f test places = All (λ e. (r : Bool) → post f e.key r → r ≡ test e) places

-- once the test holds of an item, it holds of all that follow
abbrev pub Stays : {A : Type 0} → (A → Bool) → List A → Type 0
Stays test es = AllPairs (λ a b. test a ≡ true → test b ≡ true) es

-- P holds of the first, if there is one
abbrev pub IfFirst : {A : Type 0} → (A → Type 0) → List A → Type 0
IfFirst P [] = ⊤
IfFirst P (x ∷ xs) = P x

-- the position of the key of the first entry, if there is one
abbrev pub next_key : List Place → Option ℕ
next_key [] = None
next_key (e ∷ es) = Some e.key

-- these lie side by side in the whole
pub record IsRun {A : Type 0} (es whole : List A) : Type 0 where
  pub before : List A
  pub after : List A
  pub is : whole ≡ before ++ (es ++ after)

-- the items before the one whose key lies at a position; all where no position is given
abbrev pub before_key : Option ℕ → List Place → List Place
before_key None es = es
before_key (Some key) es = take_while (λ e. not (nat_eq e.key key)) es
