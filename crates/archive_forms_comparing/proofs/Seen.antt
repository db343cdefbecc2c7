-- Values that are seen as their parts, and compared by them.
use Rattle.std.proofs.Common.{◌≡◌, ℕ, List, Option, Some, None, Result, Ok, Err, MatchOption, MatchResult, refl, sym, ap, subst, ◌∙◌}
use Rattle.archive_shape_layout.specs.Shape.{Shape}
use Rattle.archive_shape_layout.specs.Shape.Shape.{option, result, box}
use Rattle.archive_shape_layout.specs.Shape.Pointee.{sized}
use Rattle.archive_shape_layout.specs.Value.{Value}
use Rattle.archive_shape_layout.specs.Content.{Names}
use Rattle.archive_forms_laws.specs.Views.{option_of, result_of}
use Rattle.archive_forms_values.specs.Parts.{HasValue, IsSomeAt, some_position, IsOkAt, IsErrAt, outcome_position, both, IsBoxAt}
use Rattle.archive_forms_comparing.specs.Compared.{HasPart, OfBoth}

-- ---- the result of a call, in other words

pub option_matched : {A : Type 0} (P P' : Type 0) (Q Q' : A → Type 0) (o : Option A) → (P → P') → ((x : A) → Q x → Q' x) → MatchOption o P Q → MatchOption o P' Q'
option_matched P P' Q Q' None f g h = f h
option_matched P P' Q Q' (Some x) f g h = g x h

pub result_matched : {A B : Type 0} (P P' : A → Type 0) (Q Q' : B → Type 0) (r : Result A B) → ((x : A) → P x → P' x) → ((y : B) → Q y → Q' y) → MatchResult r P Q → MatchResult r P' Q'
result_matched P P' Q Q' (Ok x) f g h = f x h
result_matched P P' Q Q' (Err y) f g h = g y h

-- ---- parts

-- a part that is in bytes is in the same bytes
pub moved : {is_part : Value → Value → Type 0} {s t : Shape} {knows others : Names → Type 0} {bytes part_bytes : List ℕ} {pos at from : ℕ}
    → part_bytes ≡ bytes → from ≡ at → HasPart is_part s knows bytes pos t others bytes at → HasPart is_part s knows bytes pos t others part_bytes from
moved {is_part} {s} {t} {knows} {others} {bytes} {pos = pos} {from = from} b p h =
    subst (λ bs. HasPart is_part s knows bytes pos t others bs from) (sym b) (subst (λ n. HasPart is_part s knows bytes pos t others bytes n) (sym p) h)

module _ (s : Shape) (knows : Names → Type 0) (bytes : List ℕ) (pos : ℕ) where
  pub option_part : {part_bytes : List ℕ} {at : ℕ} → part_bytes ≡ bytes → at ≡ some_position s pos → HasValue (option s) knows bytes pos → IsSomeAt s knows bytes pos → HasPart (λ v x. option_of v ≡ Some x) (option s) knows bytes pos s knows part_bytes at
  option_part b p there is =
      let one = is there.value there.held in
      moved b p (record {
        there = record { value = one.payload; held = one.held };
        each = λ v h. let x = is v h in (x.payload, ap option_of x.is, x.held);
      })

  pub box_part : {part_bytes : List ℕ} {at to : ℕ} → part_bytes ≡ bytes → at ≡ to → HasValue (box (sized s)) knows bytes pos → IsBoxAt s knows bytes pos to → HasPart (λ v x. v ≡ x) (box (sized s)) knows bytes pos s knows part_bytes at
  box_part b p there is =
      moved b p (record {
        there = record { value = there.value; held = is.value there.value there.held };
        each = λ v h. (v, refl, is.value v h);
      })

module _ (s t : Shape) (knows others : Names → Type 0) (bytes : List ℕ) (pos : ℕ) where
  pub ok_part : {part_bytes : List ℕ} {at : ℕ} → part_bytes ≡ bytes → at ≡ outcome_position s t pos → HasValue (result s t) (both knows others) bytes pos → IsOkAt s t knows others bytes pos → HasPart (λ v x. result_of v ≡ Ok x) (result s t) (both knows others) bytes pos s knows part_bytes at
  ok_part b p there is =
      let one = is there.value there.held in
      moved b p (record {
        there = record { value = one.payload; held = one.held };
        each = λ v h. let x = is v h in (x.payload, ap result_of x.is, x.held);
      })

  pub err_part : {part_bytes : List ℕ} {at : ℕ} → part_bytes ≡ bytes → at ≡ outcome_position s t pos → HasValue (result s t) (both knows others) bytes pos → IsErrAt s t knows others bytes pos → HasPart (λ v x. result_of v ≡ Err x) (result s t) (both knows others) bytes pos t others part_bytes at
  err_part b p there is =
      let one = is there.value there.held in
      moved b p (record {
        there = record { value = one.payload; held = one.held };
        each = λ v h. let x = is v h in (x.payload, ap result_of x.is, x.held);
      })

-- values that are seen as their parts are compared by these
pub by_parts : {X : Type 0} {is_part : Value → Value → Type 0} {s t : Shape} {knows others : Names → Type 0} {bytes part_bytes other_bytes other_part_bytes : List ℕ} {pos at other_pos other_at : ℕ} {result : X}
    (f g : Value → Value → X)
    → ((v w x y : Value) → is_part v x → is_part w y → f x y ≡ g v w)
    → HasPart is_part s knows bytes pos t others part_bytes at
    → HasPart is_part s knows other_bytes other_pos t others other_part_bytes other_at
    → OfBoth t others part_bytes at other_part_bytes other_at f result
    → OfBoth s knows bytes pos other_bytes other_pos g result
by_parts f g same here there is v w h k =
    let x = here.each v h in
    let y = there.each w k in
    is x.0 y.0 x.2 y.2 ∙ same v w x.0 y.0 x.1 y.1

-- values that are seen as two kinds are compared by these alone
pub by_kinds : {X : Type 0} {is_part is_other : Value → Value → Type 0} {s t u : Shape} {knows others more : Names → Type 0} {bytes part_bytes other_bytes other_part_bytes : List ℕ} {pos at other_pos other_at : ℕ} {result : X}
    (g : Value → Value → X)
    → ((v w x y : Value) → is_part v x → is_other w y → result ≡ g v w)
    → HasPart is_part s knows bytes pos t others part_bytes at
    → HasPart is_other s knows other_bytes other_pos u more other_part_bytes other_at
    → OfBoth s knows bytes pos other_bytes other_pos g result
by_kinds g same here there v w h k =
    let x = here.each v h in
    let y = there.each w k in
    same v w x.0 y.0 x.1 y.1
