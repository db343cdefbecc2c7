-- What the bounds of a range say of a map's items.
use Rattle.std.proofs.Common.{◌≡◌, ◌∙◌, ℕ, Bool, true, false, List, All, refl, ap, sym, subst}
use Rattle.std.specs.Prelude.{not}
use Rattle.std.specs.Ordering.{is_lt, is_le, is_gt, is_ge}
use Rattle.std.specs.Range.Bound.{bound_map}
use Rattle.std.specs.declared.cmp.Ordering.{Ordering}
use Rattle.std.specs.declared.cmp.Ordering.TheVariants.{Greater}
use Rattle.std.specs.declared.ops.Bound.{Bound}
use Rattle.std.specs.declared.ops.Bound.TheVariants.{Included, Excluded, Unbounded}
use Rattle.archive_btree_layout.specs.Reading.{Place}
use Rattle.archive_btree_maps.specs.Ranges.{Stays}
use Rattle.archive_btree_maps.specs.Bounds.{is_before, is_behind, OfQuery, TellsBefore, TellsBehind, OrdersCalls, IsQueryOf}

not_above : (o : Ordering) → not (is_gt o) ≡ true → o ≡ Greater → ⊥
not_above o passes e = let f : not (is_gt o) ≡ false = ap (λ x. not (is_gt x)) e in absurd cc

below : (o : Ordering) → not (is_ge o) ≡ true → o ≡ Greater → ⊥
below o passes e = let f : not (is_ge o) ≡ false = ap (λ x. not (is_ge x)) e in absurd cc

less : (o : Ordering) → is_lt o ≡ true → o ≡ Greater → ⊥
less o passes e = let f : is_lt o ≡ false = ap is_lt e in absurd cc

at_most : (o : Ordering) → is_le o ≡ true → o ≡ Greater → ⊥
at_most o passes e = let f : is_le o ≡ false = ap is_le e in absurd cc

-- what the calls return is what the order says
module _ {F A Q : Type 0} (post : F → A → ℕ → Ordering → Type 0) (f : F) (see : A → Q) (order : Q → Place → Ordering) (places : List Place) where
  pub tells_before : (start : Bound A) → OfQuery (λ query. OrdersCalls post f query (order (see query)) places) start
      → All (λ e. (answer : Bool) → TellsBefore post f start e.key answer → answer ≡ is_before order (bound_map see start) e) places
  tells_before (Included query) h k d within answer t = t.2 ∙ ap is_gt (h.0 k d within t.0 t.1)
  tells_before (Excluded query) h k d within answer t = t.2 ∙ ap is_ge (h.0 k d within t.0 t.1)
  tells_before Unbounded h k d within answer t = t

  pub tells_behind : (end : Bound A) → OfQuery (λ query. OrdersCalls post f query (order (see query)) places) end
      → All (λ e. (answer : Bool) → TellsBehind post f end e.key answer → answer ≡ is_behind order (bound_map see end) e) places
  tells_behind (Included query) h k d within answer t = t.2 ∙ ap is_lt (h.0 k d within t.0 t.1)
  tells_behind (Excluded query) h k d within answer t = t.2 ∙ ap is_le (h.0 k d within t.0 t.1)
  tells_behind Unbounded h k d within answer t = t

  -- where the keys ascend, those after one that does not lie before the range do not either
  pub stays_from : (start : Bound A) → OfQuery (λ query. OrdersCalls post f query (order (see query)) places) start
      → Stays (λ e. not (is_before order (bound_map see start) e)) places
  stays_from (Included query) h i j d earlier within passes = ap (λ o. not (is_gt o)) (h.1 i j d earlier within (not_above _ passes))
  stays_from (Excluded query) h i j d earlier within passes = ap (λ o. not (is_ge o)) (h.1 i j d earlier within (below _ passes))
  stays_from Unbounded h i j d earlier within passes = refl

  -- and those after one that lies after the range lie after it too
  pub stays_behind : (end : Bound A) → OfQuery (λ query. OrdersCalls post f query (order (see query)) places) end
      → Stays (is_behind order (bound_map see end)) places
  stays_behind (Included query) h i j d earlier within passes = ap is_lt (h.1 i j d earlier within (less _ passes))
  stays_behind (Excluded query) h i j d earlier within passes = ap is_le (h.1 i j d earlier within (at_most _ passes))
  stays_behind Unbounded h i j d earlier within passes = passes

-- what holds of the query of a bound holds of what the bound lends
pub of_lent : {A Q : Type 0} (see : A → Q) (P : Q → Type 0) (R : A → Type 0) → ((query : A) → P (see query) → R query)
    → (lent : Bound A) (bound : Bound Q) → bound_map see lent ≡ bound → OfQuery P bound → OfQuery R lent
of_lent see P R step (Included query) bound e h = step query (subst (OfQuery P) (sym e) h)
of_lent see P R step (Excluded query) bound e h = step query (subst (OfQuery P) (sym e) h)
of_lent see P R step Unbounded bound e h = tt

-- what holds of each query that may be one of a bound holds of what the bound lends
pub of_known : {A Q : Type 0} (see : A → Q) (known : Type 0) (R : A → Type 0) (lent : Bound A) (bound : Bound Q)
    → (known → bound_map see lent ≡ bound) → ((query : A) → (known → IsQueryOf (see query) bound) → R query) → OfQuery R lent
of_known see known R (Included query) bound e h = h query (λ k. subst (IsQueryOf (see query)) (e k) refl)
of_known see known R (Excluded query) bound e h = h query (λ k. subst (IsQueryOf (see query)) (e k) refl)
of_known see known R Unbounded bound e h = tt

pub of_each : {A : Type 0} (R : A → Type 0) → ((query : A) → R query) → (bound : Bound A) → OfQuery R bound
of_each R h (Included query) = h query
of_each R h (Excluded query) = h query
of_each R h Unbounded = tt
