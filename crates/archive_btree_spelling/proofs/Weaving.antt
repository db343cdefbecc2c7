-- The values below the pointers of a node and those of its own entries in turn are those of all its items.
use Rattle.std.proofs.Common.{◌≡◌, ◌∙◌, ℕ, zero, suc, ◌+◌, ◌<◌, List, [], ◌∷◌, ◌++◌, length, refl, ap, ap₂, sym, subst, arith, length-append}
use Rattle.std.specs.Prelude.{⊤}
use Rattle.archive_shape_layout.specs.Value.{Values, append_values, count_values}
use Rattle.archive_shape_layout.specs.Value.Value.{group}
use Rattle.archive_shape_layout.specs.Value.Values.{no_values, more_values}
use Rattle.archive_shape_layout.specs.Content.{members, weave, first_values, other_values}
use Rattle.archive_shape_canonical.specs.Packed.{ArePacked}
use Rattle.archive_shape_canonical.specs.Seen.{blank, blanks, all_blank}
use Rattle.archive_shape_canonical.specs.Sharing.{erased, all_erased}
use Rattle.archive_shape_canonical.specs.Settled.{Fit}
use Rattle.archive_forms_laws.specs.State.{State, Keys}
use Rattle.archive_forms_laws.specs.Spelling.{Spelling, state_after}
use Rattle.archive_forms_laws.specs.Regions.{values, plain_values, all_suit}
use Rattle.archive_btree_spelling.proofs.Shares.{IsWoven, AreShares}
use Rattle.archive_btree_spelling.proofs.Trees.{Counted}

count_append : (xs ys : Values) → count_values (append_values xs ys) ≡ count_values xs + count_values ys
count_append no_values ys = omega arith
count_append (more_values x xs) ys = let e = count_append xs ys in omega (arith, e)

append_erased : (xs ys : Values) → all_erased (append_values xs ys) ≡ append_values (all_erased xs) (all_erased ys)
append_erased no_values ys = refl
append_erased (more_values x xs) ys = ap (more_values (erased x)) (append_erased xs ys)

append_blank : (xs ys : Values) → all_blank (append_values xs ys) ≡ append_values (all_blank xs) (all_blank ys)
append_blank no_values ys = refl
append_blank (more_values x xs) ys = ap (more_values (blank x)) (append_blank xs ys)

count_blanks : (xs : Values) → count_values (blanks xs) ≡ count_values xs
count_blanks no_values = refl
count_blanks (more_values x xs) = ap (λ z. 1 + z) (count_blanks xs)

count_blank : (xs : Values) → count_values (all_blank xs) ≡ count_values xs
count_blank no_values = refl
count_blank (more_values x xs) = ap (λ z. 1 + z) (count_blank xs)

-- the first values of some and others, and the others
pub first_append : (n : ℕ) (xs ys : Values) → count_values xs ≡ n → first_values n (append_values xs ys) ≡ xs
first_append zero no_values ys e = refl
first_append zero (more_values x xs) ys e = absurd (omega (arith, e))
first_append (suc n) no_values ys e = absurd (omega (arith, e))
first_append (suc n) (more_values x xs) ys e = ap (more_values x) (first_append n xs ys (omega (arith, e)))

pub other_append : (n : ℕ) (xs ys : Values) → count_values xs ≡ n → other_values n (append_values xs ys) ≡ ys
other_append zero no_values ys e = refl
other_append zero (more_values x xs) ys e = absurd (omega (arith, e))
other_append (suc n) no_values ys e = absurd (omega (arith, e))
other_append (suc n) (more_values x xs) ys e = other_append n xs ys (omega (arith, e))

-- with lists below the pointers, of elements that have their own values
module _ {C : Type 0} where
  -- each value has as many items as the list below its pointer
  abbrev pub AreCounted : List (List C) → Values → Type 0
  AreCounted [] no_values = ⊤
  AreCounted [] (more_values v vs) = ⊥
  AreCounted (xs ∷ xss) no_values = ⊥
  AreCounted (xs ∷ xss) (more_values v vs) = Counted (length xs) v × AreCounted xss vs

  pub count_counted : (xss : List (List C)) (vs : Values) → AreCounted xss vs → count_values vs ≡ length xss
  count_counted [] no_values h = refl
  count_counted [] (more_values v vs) h = absurd h
  count_counted (xs ∷ xss) no_values h = absurd h
  count_counted (xs ∷ xss) (more_values v vs) h = let e = count_counted xss vs h.1 in omega (arith, e)

  counted_blank : (xss : List (List C)) (vs : Values) → AreCounted xss vs → AreCounted xss (all_blank vs)
  counted_blank [] no_values h = tt
  counted_blank [] (more_values v vs) h = absurd h
  counted_blank (xs ∷ xss) no_values h = absurd h
  counted_blank (xs ∷ xss) (more_values v vs) h =
      (record { items = blanks h.0.items; is = ap blank h.0.is; count = count_blanks h.0.items ∙ h.0.count }, counted_blank xss vs h.1)

  -- the values of all have the same number of items
  pub count_woven : (xs : List C) (xss : List (List C)) (own : List C) (cs es : Values) → IsWoven xs xss own → AreCounted xss cs → count_values es ≡ length own
      → count_values (weave cs es) ≡ length xs
  count_woven xs [] own cs es w h e = absurd w
  count_woven xs (c ∷ []) [] no_values es w h e = absurd h
  count_woven xs (c ∷ []) [] (more_values v no_values) no_values w h e = ap (λ z. count_values (members z)) h.0.is ∙ h.0.count ∙ sym (ap length w)
  count_woven xs (c ∷ []) [] (more_values v no_values) (more_values u us) w h e = absurd (omega (arith, e))
  count_woven xs (c ∷ []) [] (more_values v (more_values u us)) es w h e = absurd h.1
  count_woven xs (c ∷ []) (o ∷ os) cs es w h e = absurd w
  count_woven xs (c ∷ (d ∷ ds)) [] cs es w h e = absurd w
  count_woven xs (c ∷ (d ∷ ds)) own no_values es w h e = absurd h
  count_woven xs (c ∷ (d ∷ ds)) (o ∷ os) (more_values v vs) no_values w h e = absurd (omega (arith, e))
  count_woven xs (c ∷ (d ∷ ds)) (o ∷ os) (more_values v vs) (more_values u us) w h e =
      let rest = count_woven w.0 (d ∷ ds) os vs us w.2 h.1 (omega (arith, e)) in
      let first : count_values (members v) ≡ length c = ap (λ z. count_values (members z)) h.0.is ∙ h.0.count in
      let all : length xs ≡ length c + suc (length w.0) = ap length w.1 ∙ length-append c (o ∷ w.0) in
      omega (arith, count_append (members v) (more_values u (weave vs us)), rest, first, all)

  packed_from : (most n i : ℕ) (xss : List (List C)) (vs : Values) → AreShares most n i xss → AreCounted xss vs → ArePacked most n i vs
  packed_from most n i [] no_values s h = tt
  packed_from most n i [] (more_values v vs) s h = absurd h
  packed_from most n i (xs ∷ xss) no_values s h = absurd h
  packed_from most n i (xs ∷ xss) (more_values v vs) s h =
      subst (λ z. ArePacked most n i (more_values z vs)) (sym h.0.is) (h.0.count ∙ s.0, packed_from most n (i + 1) xss vs s.1 h.1)

  -- so the children are packed
  pub woven_packed : (most n : ℕ) (xs : List C) (xss : List (List C)) (own : List C) (cs es : Values)
      → length xs ≡ n → most < n → length xss ≡ suc most → IsWoven xs xss own → AreShares most n 0 xss → AreCounted xss cs → count_values es ≡ length own
      → (most < count_values (weave (first_values (most + 1) (all_blank (append_values cs es))) (other_values (most + 1) (all_blank (append_values cs es)))))
      × ArePacked most (count_values (weave (first_values (most + 1) (all_blank (append_values cs es))) (other_values (most + 1) (all_blank (append_values cs es))))) 0 (first_values (most + 1) (all_blank (append_values cs es)))
  woven_packed most n xs xss own cs es size more width w s h e =
      let bs = all_blank cs in
      let ds = all_blank es in
      let blanked = counted_blank xss cs h in
      let wide : count_values bs ≡ most + 1 = omega (arith, count_counted xss bs blanked, width) in
      let parts : all_blank (append_values cs es) ≡ append_values bs ds = append_blank cs es in
      let first : first_values (most + 1) (all_blank (append_values cs es)) ≡ bs = ap (first_values (most + 1)) parts ∙ first_append (most + 1) bs ds wide in
      let other : other_values (most + 1) (all_blank (append_values cs es)) ≡ ds = ap (other_values (most + 1)) parts ∙ other_append (most + 1) bs ds wide in
      let count : count_values (weave (first_values (most + 1) (all_blank (append_values cs es))) (other_values (most + 1) (all_blank (append_values cs es)))) ≡ n =
      ap₂ (λ x y. count_values (weave x y)) first other ∙ count_woven xs xss own bs ds w blanked (count_blank es ∙ e) ∙ size in
      (omega (arith, count, more), subst (λ z. ArePacked most z 0 (first_values (most + 1) (all_blank (append_values cs es)))) (sym count) (subst (ArePacked most n 0) (sym first) (packed_from most n 0 xss bs s blanked)))

-- the value of an inner node is that of its parts
pub woven_values : (n : ℕ) (cs es : Values) → count_values cs ≡ n
    → weave (first_values n (append_values cs es)) (other_values n (append_values cs es)) ≡ weave cs es
woven_values n cs es e = ap₂ weave (first_append n cs es e) (other_append n cs es e)

-- of elements that are spelled
module _ {C Q : Type 0} (w : Spelling C Q) where
  abbrev pub plain_groups : List (List C) → Values
  plain_groups [] = no_values
  plain_groups (xs ∷ xss) = more_values (group (plain_values w xs)) (plain_groups xss)

  plain_append : (xs ys : List C) → plain_values w (xs ++ ys) ≡ append_values (plain_values w xs) (plain_values w ys)
  plain_append [] ys = refl
  plain_append (x ∷ xs) ys = ap (more_values (w.plain x)) (plain_append xs ys)

  -- without positions, they are those of the items
  pub plain_woven : (xs : List C) (xss : List (List C)) (own : List C) → IsWoven xs xss own → weave (plain_groups xss) (plain_values w own) ≡ plain_values w xs
  plain_woven xs [] own h = absurd h
  plain_woven xs (c ∷ []) [] h = ap (plain_values w) (sym h)
  plain_woven xs (c ∷ []) (e ∷ es) h = absurd h
  plain_woven xs (c ∷ (d ∷ ds)) [] h = absurd h
  plain_woven xs (c ∷ (d ∷ ds)) (e ∷ es) h =
      ap (λ z. append_values (plain_values w c) (more_values (w.plain e) z)) (plain_woven h.0 (d ∷ ds) es h.2)
      ∙ sym (plain_append c (e ∷ h.0))
      ∙ ap (plain_values w) (sym h.1)

  -- where all items suit a fit and keys, so do those below each pointer and the node's own
  pub suits_append : (fit : Fit) (given : Keys) (xs ys : List C) → all_suit w fit given (xs ++ ys) → all_suit w fit given xs × all_suit w fit given ys
  suits_append fit given [] ys h = (tt, h)
  suits_append fit given (x ∷ xs) ys h = let rest = suits_append fit given xs ys h.1 in ((h.0, rest.0), rest.1)

  pub count_of_values : (xs : List C) (st : State) → count_values (values w xs st) ≡ length xs
  count_of_values [] st = refl
  count_of_values (x ∷ xs) st = let e = count_of_values xs (state_after w x st) in omega (arith, e)

-- values that are groups are woven alike without positions
pub erased_weave : {C : Type 0} (xss : List (List C)) (cs es : Values) → AreCounted xss cs → all_erased (weave cs es) ≡ weave (all_erased cs) (all_erased es)
erased_weave [] no_values es h = refl
erased_weave [] (more_values v vs) es h = absurd h
erased_weave (xs ∷ xss) no_values es h = absurd h
erased_weave (xs ∷ xss) (more_values v vs) no_values h =
    ap (λ z. all_erased (members z)) h.0.is ∙ sym (ap (λ z. members (erased z)) h.0.is)
erased_weave (xs ∷ xss) (more_values v vs) (more_values e es) h =
    append_erased (members v) (more_values e (weave vs es))
    ∙ ap₂ (λ x y. append_values x (more_values (erased e) y)) (ap (λ z. all_erased (members z)) h.0.is ∙ sym (ap (λ z. members (erased z)) h.0.is)) (erased_weave xss vs es h.1)
