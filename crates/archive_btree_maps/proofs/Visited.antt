-- Visits of keys, one after the other.
use Rattle.std.proofs.Common.{◌≡◌, List, [], ◌∷◌, refl, ap}
use Rattle.std.specs.declared.ops.ControlFlow.{ControlFlow}
use Rattle.std.specs.declared.ops.ControlFlow.TheVariants.{Continue, Break}
use Rattle.archive_btree_maps.specs.SetVisits.{VisitsAll, BreaksWith}

module _ {F A B : Type 0} (step : F → A → ControlFlow B (Unit {0}) → F → Type 0) where
  pub visits_none : (f : F) (keys : List A) → keys ≡ [] → VisitsAll step f f keys
  visits_none f [] e = refl
  visits_none f (x ∷ xs) e = absurd cc

  pub visits_first : (f g h : F) (x : A) (xs : List A) → step f x (Continue tt) g → VisitsAll step g h xs → VisitsAll step f h (x ∷ xs)
  visits_first f g h x xs first v = (g, first, v)

  pub breaks_later : (f g h : F) (x : A) (xs : List A) (value : B) → step f x (Continue tt) g → BreaksWith step g h xs value → BreaksWith step f h (x ∷ xs) value
  breaks_later f g h x xs value first b =
      record {
        called = x ∷ b.called;
        last = b.last;
        rest = b.rest;
        begins = ap (λ s. x ∷ s) b.begins;
        before = b.before;
        goes = (g, first, b.goes);
        breaks = b.breaks;
      }

  pub breaks_first : (f g : F) (x : A) (xs : List A) (value : B) → step f x (Break value) g → BreaksWith step f g (x ∷ xs) value
  breaks_first f g x xs value first = record { called = []; last = x; rest = xs; begins = refl; before = f; goes = refl; breaks = first }
