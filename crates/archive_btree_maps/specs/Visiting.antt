-- The results of calls of a closure at places in order.
use Rattle.std.specs.Prelude.{◌≡◌, List, ◌∷◌, ◌++◌, map, All}
use Rattle.std.specs.List.{FoldsTo}
use Rattle.std.specs.declared.ops.ControlFlow.{ControlFlow}
use Rattle.std.specs.declared.ops.ControlFlow.TheVariants.{Continue, Break}
use Rattle.archive_btree_layout.specs.Reading.{Place}
use Rattle.archive_btree_maps.specs.declared.nodes.searching.node.EntryAt.{EntryAt}
use Rattle.archive_btree_maps.specs.SearchingNodes.{place_of}

module _ {F B : Type 0} (step : F → EntryAt → ControlFlow B (Unit {0}) → F → Type 0) where
  -- the calls at each of these, in order, return to continue
  abbrev pub GoesOn : F → List EntryAt → F → Type 0
  GoesOn = FoldsTo (λ f e g. step f e (Continue tt) g)

  -- the places are those of the calls that take the closure from one state to another, and each returns to continue
  pub record VisitsAll (f g : F) (places : List Place) : Type 0 where
    pub called : List EntryAt
    pub whole : places ≡ map place_of called
    pub goes : GoesOn f called g

  -- the places begin with those of the calls: each returns to continue, except the last, which breaks with a value
  pub record BreaksWith (f g : F) (places : List Place) (value : B) : Type 0 where
    pub called : List EntryAt
    pub last : EntryAt
    pub rest : List Place
    pub begins : places ≡ map place_of called ++ place_of last ∷ rest
    pub before : F
    pub goes : GoesOn f called before
    pub breaks : step before last (Break value) g

-- in any state that it may have reached, the closure may be called at each of the places
abbrev pub IsCallableAt : {F : Type 0} → (F → EntryAt → Type 0) → List Place → Type 0
IsCallableAt {F} pre places = All (λ p. (f : F) (e : EntryAt) → place_of e ≡ p → pre f e) places
