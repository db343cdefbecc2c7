-- What calls that write padding, and own bytes at a writer's position, ensure.
use Rattle.std.specs.Prelude.{◌≡◌, ℕ, ◌-◌, List, Result, MatchResult}
use Rattle.archive_shape_layout.specs.Bytes.{align_up}
use Rattle.archive_shape_layout.specs.Shape.{Shape}
use Rattle.archive_shape_layout.specs.Writing.{WriterMembers, Writes}
use Rattle.archive_shape_layout.specs.declared.error.Error.{Error}
use Rattle.archive_shape.specs.Bytes.{zeros}
use Rattle.archive_forms_laws.specs.Spelling.{Spelling}
use Rattle.archive_forms_laws.specs.Serializing.{Lays}
use Rattle.archive_forms_laws.specs.Regions.{placed_fits, placed_refused}

-- zeros are written up to the next multiple
abbrev pub Aligns : {Q W : Type 0} → WriterMembers W → W → W → (align : ℕ) → Result Q Error → Type 0
Aligns members old new align result =
    Writes members old new (zeros (align_up (members.pos old) align - members.pos old)) result

module _ {A R : Type 0} (w : Spelling A R) where
  -- the bytes become the own bytes of a value, for a position
  abbrev pub ResolvesWhole : A → R → (pos : ℕ) → List ℕ → Result (Unit {0}) Error → Type 0
  ResolvesWhole x r pos new result =
      MatchResult result
      (λ _. w.own_fits x r pos × (new ≡ w.own x r pos))
      (w.own_refused x r pos)

  -- the own bytes of a value are written at the writer's position
  abbrev pub LaysOwn : {W : Type 0} → Shape → WriterMembers W → A → R → W → W → Result (Unit {0}) Error → Type 0
  LaysOwn s members x r old new result =
      Lays members old new (w.own x r (members.pos old))
      (λ _. placed_fits w s x r (members.pos old))
      (placed_refused w s x r (members.pos old)) result
