-- Spellings that say the same of values say the same of lists of them, and a type that holds itself is archived alike
-- on each of its levels.
use Rattle.std.proofs.Common.{◌≡◌, ℕ, zero, suc, arith, ◌+◌, ◌-◌, ◌^◌, ◌<◌, ◌≤◌, List, [], ◌∷◌, ◌++◌, length, ◌⊎◌, Result, refl, subst}
use Rattle.archive_shape_layout.specs.Bytes.{align_up}
use Rattle.archive_shape_layout.specs.Shape.{Shape, size_of, align_of}
use Rattle.archive_shape_layout.specs.Value.{Value}
use Rattle.archive_shape_layout.specs.Value.Value.{group}
use Rattle.archive_shape_layout.specs.Value.Values.{more_values}
use Rattle.archive_shape_canonical.specs.Settled.{Fit}
use Rattle.archive_shape.specs.Bytes.{zeros}
use Rattle.archive_shape_layout.specs.Writing.{WriterMembers}
use Rattle.archive_shape_layout.specs.declared.error.Error.{Error}
use Rattle.archive_shape_layout.specs.declared.error.Error.TheVariants.{PositionTooLarge}
use Rattle.archive_forms_laws.specs.State.{State, Met, Keys, advanced}
use Rattle.archive_forms_laws.specs.Spelling.{Spelling}
use Rattle.archive_forms_laws.specs.Regions.{state_after_all, values, plain_values, all_suit, pieces, owns, pieces_fit, pieces_refused, owns_fit, owns_refused, region_at}
use Rattle.archive_forms_laws.specs.Pointers.{slice_spelling}
use Rattle.archive_forms_laws.specs.Levels.{levels_spelling, self_spelling}
use Rattle.archive_forms_laws.specs.Serializing.{IsAt, LaysData, Serializes}

-- what a spelling says of one value
pub record Said (R : Type 0) : Type 1 where
  pub value : State → Value
  pub plain : Value
  pub piece : State → List ℕ
  pub resolver : State → R
  pub met : State → List Met
  pub own : R → ℕ → List ℕ
  pub piece_fits : State → Type 0
  pub piece_refused : State → Error → Type 0
  pub own_fits : R → ℕ → Type 0
  pub own_refused : R → ℕ → Error → Type 0
  pub suits : Fit → Keys → Type 0

abbrev pub said : {A R : Type 0} → Spelling A R → A → Said R
said w x = record {
  value = w.value x;
  plain = w.plain x;
  piece = w.piece x;
  resolver = w.resolver x;
  met = w.met x;
  own = w.own x;
  piece_fits = w.piece_fits x;
  piece_refused = w.piece_refused x;
  own_fits = w.own_fits x;
  own_refused = w.own_refused x;
  suits = λ fit keys. w.suits fit keys x;
}

-- the state when the data of that value is written
abbrev pub state_said : {R : Type 0} → Said R → State → State
state_said o st = advanced (length (o.piece st)) (o.met st) st

-- a call that writes the data of a value by the one writes it by the other
pub serializes_alike :
    {A R W : Type 0} (w u : Spelling A R) (x : A) → said w x ≡ said u x
    → (m : WriterMembers W) (old new : W) (result : Result R Error)
    → Serializes w m x old new result → Serializes u m x old new result
serializes_alike {R = R} w u x alike m old new result h =
    let Promised : Said R → Type 0 = λ o.
    (st : State) → IsAt m.pos m.known old st
    → LaysData m old new (o.piece st) (λ r. (r ≡ o.resolver st) × o.piece_fits st × IsAt m.pos m.known new (state_said o st)) (o.piece_refused st) result in
    subst Promised alike h

module _ {A R : Type 0} (w u : Spelling A R) where
  -- they say the same of each value of a list
  abbrev pub AgreeOn : List A → Type 1
  AgreeOn [] = Unit {1}
  AgreeOn (x ∷ xs) = (said w x ≡ said u x) × AgreeOn xs

  states_agree : (xs : List A) → AgreeOn xs → (st : State) → state_after_all w xs st ≡ state_after_all u xs st
  states_agree [] h st = refl
  states_agree (x ∷ xs) h st = λ i. states_agree xs h.1 (state_said (h.0 i) st) i

  values_agree : (xs : List A) → AgreeOn xs → (st : State) → values w xs st ≡ values u xs st
  values_agree [] h st = refl
  values_agree (x ∷ xs) h st = λ i. more_values ((h.0 i).value st) (values_agree xs h.1 (state_said (h.0 i) st) i)

  plains_agree : (xs : List A) → AgreeOn xs → plain_values w xs ≡ plain_values u xs
  plains_agree [] h = refl
  plains_agree (x ∷ xs) h = λ i. more_values ((h.0 i).plain) (plains_agree xs h.1 i)

  suits_agree : (xs : List A) → AgreeOn xs → (fit : Fit) (keys : Keys) → all_suit w fit keys xs ≡ all_suit u fit keys xs
  suits_agree [] h fit keys = refl
  suits_agree (x ∷ xs) h fit keys = λ i. (h.0 i).suits fit keys × suits_agree xs h.1 fit keys i

  pieces_agree : (xs : List A) → AgreeOn xs → (st : State) → pieces w xs st ≡ pieces u xs st
  pieces_agree [] h st = refl
  pieces_agree (x ∷ xs) h st = λ i. (h.0 i).piece st ++ pieces_agree xs h.1 (state_said (h.0 i) st) i

  fits_agree : (xs : List A) → AgreeOn xs → (st : State) → pieces_fit w xs st ≡ pieces_fit u xs st
  fits_agree [] h st = refl
  fits_agree (x ∷ xs) h st = λ i. (h.0 i).piece_fits st × fits_agree xs h.1 (state_said (h.0 i) st) i

  refusals_agree : (xs : List A) → AgreeOn xs → (st : State) (e : Error) → pieces_refused w xs st e ≡ pieces_refused u xs st e
  refusals_agree [] h st e = refl
  refusals_agree (x ∷ xs) h st e = λ i. (h.0 i).piece_refused st e ⊎ refusals_agree xs h.1 (state_said (h.0 i) st) e i

  owns_agree : (xs : List A) → AgreeOn xs → (st : State) (pos : ℕ) → owns w xs st pos ≡ owns u xs st pos
  owns_agree [] h st pos = refl
  owns_agree (x ∷ xs) h st pos = λ i.
      let own = (h.0 i).own ((h.0 i).resolver st) pos in own ++ owns_agree xs h.1 (state_said (h.0 i) st) (pos + length own) i

  owns_fit_agree : (s : Shape) (xs : List A) → AgreeOn xs → (st : State) (pos : ℕ) → owns_fit w s xs st pos ≡ owns_fit u s xs st pos
  owns_fit_agree s [] h st pos = refl
  owns_fit_agree s (x ∷ xs) h st pos = λ i.
      ((h.0 i).own_fits ((h.0 i).resolver st) pos × (pos + size_of s < 2 ^ 64))
      × owns_fit_agree s xs h.1 (state_said (h.0 i) st) (pos + length ((h.0 i).own ((h.0 i).resolver st) pos)) i

  owns_refusals_agree : (s : Shape) (xs : List A) → AgreeOn xs → (st : State) (pos : ℕ) (e : Error) → owns_refused w s xs st pos e ≡ owns_refused u s xs st pos e
  owns_refusals_agree s [] h st pos e = refl
  owns_refusals_agree s (x ∷ xs) h st pos e = λ i.
      ((h.0 i).own_refused ((h.0 i).resolver st) pos e ⊎ ((2 ^ 64 ≤ pos + size_of s) × (e ≡ PositionTooLarge)))
      ⊎ owns_refusals_agree s xs h.1 (state_said (h.0 i) st) (pos + length ((h.0 i).own ((h.0 i).resolver st) pos)) e i

  -- where the region of a list lies
  regions_agree : (s : Shape) (xs : List A) → AgreeOn xs → (st : State) → region_at w s xs st ≡ region_at u s xs st
  regions_agree s xs h st = λ i. align_up (states_agree xs h st i).pos (align_of s)

  -- spellings that say the same of each value say the same of their list
  pub slices_agree : (s : Shape) (xs : List A) → AgreeOn xs → said (slice_spelling s w) xs ≡ said (slice_spelling s u) xs
  slices_agree s xs h = λ i. record {
    value = λ st. group (values_agree xs h st i);
    plain = group (plains_agree xs h i);
    piece = λ st. let start = regions_agree s xs h st i in pieces_agree xs h st i ++ (zeros (start - (states_agree xs h st i).pos) ++ owns_agree xs h st start i);
    resolver = λ st. regions_agree s xs h st i;
    met = λ st. (states_agree xs h st i).met;
    own = (slice_spelling s w).own xs;
    piece_fits = λ st. fits_agree xs h st i × (regions_agree s xs h st i < 2 ^ 32) × owns_fit_agree s xs h st (regions_agree s xs h st i) i;
    piece_refused = λ st e.
        refusals_agree xs h st e i
        ⊎ (((2 ^ 32 ≤ regions_agree s xs h st i) × (e ≡ PositionTooLarge)) ⊎ owns_refusals_agree s xs h st (regions_agree s xs h st i) e i);
    own_fits = (slice_spelling s w).own_fits xs;
    own_refused = (slice_spelling s w).own_refused xs;
    suits = λ fit keys. suits_agree xs h fit keys i;
  }

-- ---- types that hold themselves

module _ {A R : Type 0} (one : Spelling A R → Spelling A R) (none : Spelling A R) (below : A → ℕ)
    (law : (w u : Spelling A R) (x : A) → ((y : A) → suc (below y) ≤ below x → said w y ≡ said u y) → said (one w) x ≡ said (one u) x) where
  -- a value is archived alike on every level that it has
  levels_agree : (n m : ℕ) (x : A) → below x ≤ n → below x ≤ m → said (levels_spelling one none (suc n)) x ≡ said (levels_spelling one none (suc m)) x
  levels_agree zero m x h g = law none (levels_spelling one none m) x (λ y k. absurd (omega (arith, h, k)))
  levels_agree (suc n) zero x h g = law (levels_spelling one none (suc n)) none x (λ y k. absurd (omega (arith, g, k)))
  levels_agree (suc n) (suc m) x h g = law (levels_spelling one none (suc n)) (levels_spelling one none (suc m)) x (λ y k. levels_agree n m y (omega (arith, h, k)) (omega (arith, g, k)))

  -- and so as those below it are
  pub self_agrees : (x : A) → said (one (self_spelling one none below)) x ≡ said (self_spelling one none below) x
  self_agrees x = law (self_spelling one none below) (levels_spelling one none (below x)) x (λ y h. under y (below x) h)
    where
      under : (y : A) (n : ℕ) → suc (below y) ≤ n → said (self_spelling one none below) y ≡ said (levels_spelling one none n) y
      under y zero h = absurd (omega (arith, h))
      under y (suc n) h = levels_agree (below y) n y (omega arith) (omega (arith, h))
