-- The tree that is written for items has the values of the items, each as it is written in some state.
use Rattle.std.proofs.Common.{◌≡◌, ℕ, zero, suc, ◌+◌, ◌<◌, ◌≤◌, nat_le, cond, Bool, true, false, List, [], ◌∷◌, ◌++◌, length, Option, refl, sym, subst, arith}
use Rattle.std.specs.Prelude.{⊤}
use Rattle.std.proofs.Math.Nat.{pow-zero}
use Rattle.archive_shape_layout.specs.Shape.{Shape}
use Rattle.archive_shape_layout.specs.Value.{Values, append_values}
use Rattle.archive_shape_layout.specs.Value.Values.{no_values, more_values}
use Rattle.archive_shape_layout.specs.Content.{members, weave}
use Rattle.archive_shape_canonical.specs.Packed.{full, levels_for}
use Rattle.archive_forms_laws.specs.State.{State}
use Rattle.archive_forms_laws.specs.Spelling.{Spelling, state_after}
use Rattle.archive_forms_laws.specs.Regions.{state_after_all, values}
use Rattle.archive_btree_spelling.specs.Parted.{Parted, shares, between}
use Rattle.archive_btree_spelling.specs.Written.{entry_spelling, node_values}
use Rattle.archive_btree_spelling.specs.Maps.{packed_spelling, btree_spelling}
use Rattle.archive_btree_spelling.proofs.Levels.{levels_hold, above}
use Rattle.archive_btree_spelling.proofs.Shares.{IsWoven, AreLow, Shared, shared}

module _ {C R : Type 0} (w : Spelling C R) where
  -- one value of each item, each in some state
  abbrev pub AreSpelled : Values → List C → Type 0
  AreSpelled no_values [] = ⊤
  AreSpelled no_values (x ∷ xs) = ⊥
  AreSpelled (more_values v vs) [] = ⊥
  AreSpelled (more_values v vs) (x ∷ xs) = ((st : State) × (v ≡ w.value x st)) × AreSpelled vs xs

  values_spelled : (xs : List C) (st : State) → AreSpelled (values w xs st) xs
  values_spelled [] st = tt
  values_spelled (x ∷ xs) st = ((st, refl), values_spelled xs (state_after w x st))

  append_spelled : (us vs : Values) (xs ys : List C) → AreSpelled us xs → AreSpelled vs ys → AreSpelled (append_values us vs) (xs ++ ys)
  append_spelled no_values vs [] ys a b = b
  append_spelled no_values vs (x ∷ xs) ys a b = absurd a
  append_spelled (more_values u us) vs [] ys a b = absurd a
  append_spelled (more_values u us) vs (x ∷ xs) ys a b = (a.0, append_spelled us vs xs ys a.1 b)

module _ {A B R Q : Type 0} (most : ℕ) (k v : Shape) (keys : Spelling A R) (vals : Spelling B Q) where
  abbrev AreEntries : Values → List (A × B) → Type 0
  AreEntries vs xs = AreSpelled (entry_spelling most k v keys vals) vs xs

  -- the items below the pointers of a node and its own in turn
  woven_spelled : (child : Spelling (List (A × B)) (Option ℕ)) (l : ℕ) (each : (c : List (A × B)) (st : State) → levels_for most (length c) ≤ l → AreEntries (members (child.value c st)) c)
      (n : ℕ) (xs : List (A × B)) (xss : List (List (A × B))) (es : List (A × B)) (st own : State)
      → IsWoven xs xss es → AreLow most n l xss → AreEntries (weave (values child xss st) (values (entry_spelling most k v keys vals) es own)) xs
  woven_spelled child l each n xs [] es st own h low = absurd h
  woven_spelled child l each n xs (c ∷ []) [] st own h low = subst (AreEntries (members (child.value c st))) (sym h) (each c st low.0)
  woven_spelled child l each n xs (c ∷ []) (e ∷ es) st own h low = absurd h
  woven_spelled child l each n xs (c ∷ (d ∷ ds)) [] st own h low = absurd h
  woven_spelled child l each n xs (c ∷ (d ∷ ds)) (e ∷ es) st own h low =
      let w = entry_spelling most k v keys vals in
      let rest = woven_spelled child l each n h.0 (d ∷ ds) es (state_after child c st) (state_after w e own) h.2 low.1 in
      let behind = more_values (w.value e own) (weave (values child (d ∷ ds) (state_after child c st)) (values w es (state_after w e own))) in
      subst (AreEntries (append_values (members (child.value c st)) behind)) (sym h.1)
      (append_spelled w (members (child.value c st)) behind c (e ∷ h.0) (each c st low.0) ((own, refl), rest))

  items_spelled : (levels : ℕ) (xs : List (A × B)) (st : State) → 0 < most → levels_for most (length xs) ≤ levels
      → AreEntries (members ((packed_spelling most k v keys vals levels).value xs st)) xs
  items_spelled zero [] st some within = tt
  items_spelled zero (x ∷ xs) st some within =
      let none : levels_for most (length (x ∷ xs)) ≡ 0 = omega (arith, within) in
      let h : length (x ∷ xs) ≤ full most 0 = subst (λ z. length (x ∷ xs) ≤ full most z) none (levels_hold most (length (x ∷ xs)) some) in
      absurd (omega (arith, h, pow-zero (most + 1)))
  items_spelled (suc l) [] st some within = tt
  items_spelled (suc l) (x ∷ xs) st some within = tested (nat_le (length (x ∷ xs)) most) refl (λ c then low. items_spelled l c then some low)
    where
      tested : (b : Bool) → nat_le (length (x ∷ xs)) most ≡ b
          → ((c : List (A × B)) (then : State) → levels_for most (length c) ≤ l → AreEntries (members ((packed_spelling most k v keys vals l).value c then)) c)
          → (let p = cond {A = Parted (A × B)} b (record { kind = 0; below = []; own = x ∷ xs }) (record { kind = 1; below = shares most (length (x ∷ xs)) 0 most (x ∷ xs); own = between most (length (x ∷ xs)) 0 most (x ∷ xs) }) in
          AreEntries (node_values most k v keys vals (packed_spelling most k v keys vals l) p st) (x ∷ xs))
      tested true e each = values_spelled (entry_spelling most k v keys vals) (x ∷ xs) st
      tested false e each =
          let n = length (x ∷ xs) in
          let child = packed_spelling most k v keys vals l in
          let parts : Shared most n 0 most l (x ∷ xs) = shared most n l (x ∷ xs) some (above n most e) refl within in
          woven_spelled child l each n (x ∷ xs) (shares most n 0 most (x ∷ xs)) (between most n 0 most (x ∷ xs)) st (state_after_all child (shares most n 0 most (x ∷ xs)) st) parts.woven parts.are_low

  pub entries_spelled : (xs : List (A × B)) (st : State) → 0 < most → AreEntries (members ((btree_spelling most k v keys vals).value xs st)) xs
  entries_spelled xs st some = items_spelled (levels_for most (length xs)) xs st some (omega arith)
