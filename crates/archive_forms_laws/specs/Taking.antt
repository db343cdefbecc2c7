-- What an iterator gives, and what it may give.
use Rattle.std.specs.Prelude.{◌≡◌, List, [], ◌∷◌, Option, Some, None, ⊤}
use Rattle.std.specs.Iterator.{Yields}

module _ {I T : Type 0} (gives : I → Option T → I → Type 0) where
  -- this item may come, at once or later
  abbrev pub MayGive : I → T → Type 0
  MayGive from x = (xs : List T) × (upto : I) × (next : I) × Yields gives from xs upto × gives upto (Some x) next

  abbrev pub MayGiveAll : I → List T → Type 0
  MayGiveAll from [] = ⊤
  MayGiveAll from (x ∷ xs) = MayGive from x × MayGiveAll from xs

  -- a step may be called for each item that may come
  pub record TakesEach (takes : T → Type 0) (from : I) : Type 0 where
    pub each : (x : T) → MayGive from x → takes x

-- what an iterator gives, each item seen as another
abbrev pub GivesAs : {I T C : Type 0} → (T → C) → (I → Option T → I → Type 0) → I → Option C → I → Type 0
GivesAs view gives from None to = gives from None to
GivesAs {T = T} view gives from (Some y) to = (x : T) × gives from (Some x) to × (view x ≡ y)
