-- The results of calls of a closure with the keys of a set, in order.
use Rattle.std.specs.Prelude.{◌≡◌, List, ◌∷◌, ◌++◌}
use Rattle.std.specs.List.{FoldsTo}
use Rattle.std.specs.declared.ops.ControlFlow.{ControlFlow}
use Rattle.std.specs.declared.ops.ControlFlow.TheVariants.{Continue, Break}

module _ {F A B : Type 0} (step : F → A → ControlFlow B (Unit {0}) → F → Type 0) where
  -- the calls with each of these take the closure from one state to another, and each returns to continue
  abbrev pub VisitsAll : F → F → List A → Type 0
  VisitsAll f g keys = FoldsTo (λ p key q. step p key (Continue tt) q) f keys g

  -- the calls are those with the first of these: each returns to continue, except the last, which breaks with a value
  pub record BreaksWith (f g : F) (keys : List A) (value : B) : Type 0 where
    pub called : List A
    pub last : A
    pub rest : List A
    pub begins : keys ≡ called ++ last ∷ rest
    pub before : F
    pub goes : VisitsAll f before called
    pub breaks : step before last (Break value) g
