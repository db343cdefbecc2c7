-- Visits of places, one after the other.
use Rattle.std.proofs.Common.{◌≡◌, List, [], ◌∷◌, refl, ap}
use Rattle.std.proofs.Common.{subst}
use Rattle.std.proofs.lemmas.List.Elements.{All-head, All-tail}
use Rattle.std.specs.declared.ops.ControlFlow.{ControlFlow}
use Rattle.std.specs.declared.ops.ControlFlow.TheVariants.{Continue, Break}
use Rattle.archive_btree_layout.specs.Reading.{Place}
use Rattle.archive_btree_maps.specs.declared.nodes.searching.node.EntryAt.{EntryAt}
use Rattle.archive_btree_maps.specs.SearchingNodes.{place_of}
use Rattle.archive_btree_maps.specs.Visiting.{VisitsAll, BreaksWith, IsCallableAt}

module _ {F B : Type 0} (step : F → EntryAt → ControlFlow B (Unit {0}) → F → Type 0) where
  pub visits_none : (f : F) (ps : List Place) → ps ≡ [] → VisitsAll step f f ps
  visits_none f ps e = record { called = []; whole = e; goes = refl }

  pub visits_first : (f g h : F) (e : EntryAt) (ps : List Place) → step f e (Continue tt) g → VisitsAll step g h ps → VisitsAll step f h (place_of e ∷ ps)
  visits_first f g h e ps first v = record { called = e ∷ v.called; whole = ap (λ s. place_of e ∷ s) v.whole; goes = (g, first, v.goes) }

  pub breaks_later : (f g h : F) (e : EntryAt) (ps : List Place) (value : B) → step f e (Continue tt) g → BreaksWith step g h ps value
      → BreaksWith step f h (place_of e ∷ ps) value
  breaks_later f g h e ps value first b =
      record {
        called = e ∷ b.called;
        last = b.last;
        rest = b.rest;
        begins = ap (λ s. place_of e ∷ s) b.begins;
        before = b.before;
        goes = (g, first, b.goes);
        breaks = b.breaks;
      }

  pub breaks_first : (f g : F) (e : EntryAt) (ps : List Place) (value : B) → step f e (Break value) g → BreaksWith step f g (place_of e ∷ ps) value
  breaks_first f g e ps value first = record { called = []; last = e; rest = ps; begins = refl; before = f; goes = refl; breaks = first }

module _ {F : Type 0} (pre : F → EntryAt → Type 0) (places rest : List Place) (e : EntryAt) (is : places ≡ place_of e ∷ rest) (all : IsCallableAt pre places) where
  pub callable_first : (f : F) → pre f e
  callable_first f =
      let own : IsCallableAt pre (place_of e ∷ rest) = subst (IsCallableAt pre) is all in
      All-head (λ p. (f : F) (e : EntryAt) → place_of e ≡ p → pre f e) (place_of e) rest own f e refl

  pub callable_rest : IsCallableAt pre rest
  callable_rest =
      let own : IsCallableAt pre (place_of e ∷ rest) = subst (IsCallableAt pre) is all in
      All-tail (λ p. (f : F) (e : EntryAt) → place_of e ≡ p → pre f e) (place_of e) rest own
