-- What holds of each item of a packed search tree, by the node that the items make.
use Rattle.std.proofs.Common.{◌≡◌, ℕ, zero, suc, ◌+◌, ◌<◌, ◌≤◌, Bool, true, false, cond, nat_le, List, [], ◌∷◌, ◌++◌, length, Option, ◌⊎◌, inl, inr, ⊎_elim, refl, sym, subst, arith, leb-true}
use Rattle.std.specs.Prelude.{⊤}
use Rattle.std.proofs.Math.Nat.{pow-zero}
use Rattle.archive_shape_layout.specs.Shape.{Shape}
use Rattle.archive_shape_canonical.specs.Packed.{full, levels_for}
use Rattle.archive_shape_layout.specs.declared.error.Error.{Error}
use Rattle.archive_forms_laws.specs.State.{State}
use Rattle.archive_forms_laws.specs.Spelling.{Spelling, state_after}
use Rattle.archive_forms_laws.specs.Regions.{pieces_fit, pieces_refused}
use Rattle.archive_btree_spelling.specs.Parted.{Parted, shares, between, parted}
use Rattle.archive_btree_spelling.specs.Written.{entry_spelling, state_after_children}
use Rattle.archive_btree_spelling.specs.Maps.{packed_spelling}
use Rattle.archive_btree_spelling.proofs.Levels.{levels_hold, above}
use Rattle.archive_btree_spelling.proofs.Shares.{IsWoven, AreLow, Shared, shared}

-- ---- each item of a list

module _ {C : Type 0} (P : C → Type 0) where
  abbrev pub EachIs : List C → Type 0
  EachIs [] = ⊤
  EachIs (x ∷ xs) = P x × EachIs xs

  each_apart : (xs ys : List C) → EachIs (xs ++ ys) → EachIs xs × EachIs ys
  each_apart [] ys h = (tt, h)
  each_apart (x ∷ xs) ys h = let rest = each_apart xs ys h.1 in ((h.0, rest.0), rest.1)

  each_joined : (xs ys : List C) → EachIs xs → EachIs ys → EachIs (xs ++ ys)
  each_joined [] ys g h = h
  each_joined (x ∷ xs) ys g h = (g.0, each_joined xs ys g.1 h)

  abbrev pub EachListIs : List (List C) → Type 0
  EachListIs [] = ⊤
  EachListIs (xs ∷ xss) = EachIs xs × EachListIs xss

  -- of lists with an item between each two
  each_below : (xs : List C) (xss : List (List C)) (es : List C) → IsWoven xs xss es → EachIs xs → EachListIs xss × EachIs es
  each_below xs [] es w h = absurd w
  each_below xs (c ∷ []) [] w h = ((subst EachIs w h, tt), tt)
  each_below xs (c ∷ []) (e ∷ es) w h = absurd w
  each_below xs (c ∷ (d ∷ ds)) [] w h = absurd w
  each_below xs (c ∷ (d ∷ ds)) (e ∷ es) w h =
      let both = each_apart c (e ∷ w.0) (subst EachIs w.1 h) in
      let rest = each_below w.0 (d ∷ ds) es w.2 both.1.1 in
      ((both.0, rest.0), (both.1.0, rest.1))

  each_whole : (xs : List C) (xss : List (List C)) (es : List C) → IsWoven xs xss es → EachListIs xss → EachIs es → EachIs xs
  each_whole xs [] es w g h = absurd w
  each_whole xs (c ∷ []) [] w g h = subst EachIs (sym w) g.0
  each_whole xs (c ∷ []) (e ∷ es) w g h = absurd w
  each_whole xs (c ∷ (d ∷ ds)) [] w g h = absurd w
  each_whole xs (c ∷ (d ∷ ds)) (e ∷ es) w g h =
      subst EachIs (sym w.1) (each_joined c (e ∷ w.0) g.0 (h.0, each_whole w.0 (d ∷ ds) es w.2 g.1 h.1))

-- ---- the node of items

module _ {C : Type 0} (most l : ℕ) (xs : List C) where
  -- a leaf of at most `most` items, or an inner node of more, whose children need at most l levels
  pub data IsParted (p : Parted C) : Type 0 where
    is_leaf : length xs ≤ most → p ≡ record { kind = 0; below = []; own = xs } → IsParted p
    is_inner :
        most < length xs → p ≡ record { kind = 1; below = shares most (length xs) 0 most xs; own = between most (length xs) 0 most xs }
        → Shared most (length xs) 0 most l xs
        → IsParted p

  pub parted_is : 0 < most → levels_for most (length xs) ≤ suc l → IsParted (parted most xs)
  parted_is some within = tested (nat_le (length xs) most) refl
    where
      tested : (b : Bool) → nat_le (length xs) most ≡ b
          → IsParted (cond b (record { kind = 0; below = []; own = xs }) (record { kind = 1; below = shares most (length xs) 0 most xs; own = between most (length xs) 0 most xs }))
      tested true e = is_leaf (leb-true (length xs) most e) refl
      tested false e = let more = above (length xs) most e in is_inner more refl (shared most (length xs) l xs some more refl within)

  -- what holds of each item holds of each below the node's pointers and of each of its own, and conversely
  module _ (P : C → Type 0) (p : Parted C) where
    pub parted_each : IsParted p → EachIs P xs → EachListIs P p.below × EachIs P p.own
    parted_each (is_leaf few e) h = subst (λ (q : Parted C). EachListIs P q.below × EachIs P q.own) (sym e) (tt, h)
    parted_each (is_inner more e s) h =
        subst (λ (q : Parted C). EachListIs P q.below × EachIs P q.own) (sym e) (each_below P xs (shares most (length xs) 0 most xs) (between most (length xs) 0 most xs) s.woven h)

    pub parted_whole : IsParted p → EachListIs P p.below → EachIs P p.own → EachIs P xs
    parted_whole (is_leaf few e) g h = subst (λ (q : Parted C). EachIs P q.own) e h
    parted_whole (is_inner more e s) g h =
        each_whole P xs (shares most (length xs) 0 most xs) (between most (length xs) 0 most xs) s.woven (subst (λ (q : Parted C). EachListIs P q.below) e g) (subst (λ (q : Parted C). EachIs P q.own) e h)

  abbrev pub NeedsFew : List C → Type 0
  NeedsFew c = levels_for most (length c) ≤ l

  pub parted_low : (p : Parted C) → IsParted p → EachIs NeedsFew p.below
  parted_low p (is_leaf few e) = subst (λ (q : Parted C). EachIs NeedsFew q.below) (sym e) tt
  parted_low p (is_inner more e s) = subst (λ (q : Parted C). EachIs NeedsFew q.below) (sym e) (low (shares most (length xs) 0 most xs) s.are_low)
    where
      low : (cs : List (List C)) → AreLow most (length xs) l cs → EachIs NeedsFew cs
      low [] h = tt
      low (c ∷ cs) h = (h.0, low cs h.1)

-- items need levels
pub no_levels : (most n : ℕ) → 0 < most → 0 < n → levels_for most n ≤ 0 → ⊥
no_levels most n some items within =
    let none : levels_for most n ≡ 0 = omega (arith, within) in
    let h : n ≤ full most 0 = subst (λ z. n ≤ full most z) none (levels_hold most n some) in
    omega (arith, h, items, pow-zero (most + 1))

-- ---- what holds of entries whose data fits

module _ {A B R Q : Type 0} (most : ℕ) (k v : Shape) (keys : Spelling A R) (vals : Spelling B Q) (P : A × B → Type 0) where
  abbrev entries : Spelling (A × B) (R × Q)
  entries = entry_spelling most k v keys vals

  abbrev packed : ℕ → Spelling (List (A × B)) (Option ℕ)
  packed l = packed_spelling most k v keys vals l

  abbrev pub IfFitting : A × B → Type 0
  IfFitting x = (st : State) → entries.piece_fits x st → P x

  own_hold : (es : List (A × B)) → EachIs IfFitting es → (st : State) → pieces_fit entries es st → EachIs P es
  own_hold [] each st f = tt
  own_hold (x ∷ es) each st f = (each.0 st f.0, own_hold es each.1 (state_after entries x st) f.1)

  children_hold :
      (l : ℕ) → ((c : List (A × B)) → EachIs IfFitting c → levels_for most (length c) ≤ l → (st : State) → (packed l).piece_fits c st → EachIs P c)
      → (xss : List (List (A × B))) → EachListIs IfFitting xss → EachIs (λ (c : List (A × B)). levels_for most (length c) ≤ l) xss → (st : State) → pieces_fit (packed l) xss st → EachListIs P xss
  children_hold l of_list [] each low st f = tt
  children_hold l of_list (c ∷ xss) each low st f = (of_list c each.0 low.0 st f.0, children_hold l of_list xss each.1 low.1 (state_after (packed l) c st) f.1)

  -- it holds of all entries of a tree that fits
  pub tree_holds : (l : ℕ) (xs : List (A × B)) → 0 < most → EachIs IfFitting xs → levels_for most (length xs) ≤ l → (st : State) → (packed l).piece_fits xs st → EachIs P xs
  tree_holds zero [] some each within st f = tt
  tree_holds zero (x ∷ xs) some each within st f = absurd (no_levels most (length (x ∷ xs)) some (omega arith) within)
  tree_holds (suc l) [] some each within st f = tt
  tree_holds (suc l) (x ∷ xs) some each within st f =
      let p = parted most (x ∷ xs) in
      let is = parted_is most l (x ∷ xs) some within in
      let apart = parted_each most l (x ∷ xs) IfFitting p is each in
      parted_whole most l (x ∷ xs) P p is
      (children_hold l (λ c each_c low. tree_holds l c some each_c low) p.below apart.0 (parted_low most l (x ∷ xs) p is) st f.0)
      (own_hold p.own apart.1 (state_after_children most k v keys vals (packed l) p st) f.1.0)

  -- ---- or is refused

  module _ (e : Error) where
    abbrev pub OrRefused : A × B → Type 0
    OrRefused x = (st : State) → P x ⊎ entries.piece_refused x st e

    own_decided : (es : List (A × B)) → EachIs OrRefused es → (st : State) → EachIs P es ⊎ pieces_refused entries es st e
    own_decided [] each st = inl tt
    own_decided (x ∷ es) each st =
        ⊎_elim (λ h. ⊎_elim (λ g. inl (h, g)) (λ r. inr (inr r)) (own_decided es each.1 (state_after entries x st))) (λ r. inr (inl r)) (each.0 st)

    children_decided :
        (l : ℕ) → ((c : List (A × B)) → EachIs OrRefused c → levels_for most (length c) ≤ l → (st : State) → EachIs P c ⊎ (packed l).piece_refused c st e)
        → (xss : List (List (A × B))) → EachListIs OrRefused xss → EachIs (λ (c : List (A × B)). levels_for most (length c) ≤ l) xss → (st : State) → EachListIs P xss ⊎ pieces_refused (packed l) xss st e
    children_decided l of_list [] each low st = inl tt
    children_decided l of_list (c ∷ xss) each low st =
        ⊎_elim (λ h. ⊎_elim (λ g. inl (h, g)) (λ r. inr (inr r)) (children_decided l of_list xss each.1 low.1 (state_after (packed l) c st))) (λ r. inr (inl r)) (of_list c each.0 low.0 st)

    pub tree_decided : (l : ℕ) (xs : List (A × B)) → 0 < most → EachIs OrRefused xs → levels_for most (length xs) ≤ l → (st : State) → EachIs P xs ⊎ (packed l).piece_refused xs st e
    tree_decided zero [] some each within st = inl tt
    tree_decided zero (x ∷ xs) some each within st = absurd (no_levels most (length (x ∷ xs)) some (omega arith) within)
    tree_decided (suc l) [] some each within st = inl tt
    tree_decided (suc l) (x ∷ xs) some each within st =
        let p = parted most (x ∷ xs) in
        let is = parted_is most l (x ∷ xs) some within in
        let apart = parted_each most l (x ∷ xs) OrRefused p is each in
        ⊎_elim
        (λ g. ⊎_elim (λ h. inl (parted_whole most l (x ∷ xs) P p is g h)) (λ r. inr (inr (inl r))) (own_decided p.own apart.1 (state_after_children most k v keys vals (packed l) p st)))
        (λ r. inr (inl r))
        (children_decided l (λ c each_c low. tree_decided l c some each_c low) p.below apart.0 (parted_low most l (x ∷ xs) p is) st)
