-- Which values are archived alike, by their parts, and that those read back of elements and entries are.
use Rattle.std.proofs.Common.{◌≡◌, ℕ, ℤ, Bool, true, ◌&&◌, List, [], ◌∷◌, map, Some, None, Ok, Err, refl, sym, ap, ap₂}
use Rattle.std.specs.List.{AllZip}
use Rattle.std.specs.Map.{keys_of}
use Rattle.std.specs.Option.{option_eq}
use Rattle.std.specs.Result.{result_eq}
use Rattle.std.specs.Cmp.Lexicographic.{pointwise}
use Rattle.archive_shape_layout.specs.Shape.{Shape}
use Rattle.archive_shape_layout.specs.Value.{Value, Values}
use Rattle.archive_shape_layout.specs.Value.Value.{natural, integer, boolean, string, group}
use Rattle.archive_forms_laws.specs.Spelling.{Spelling}
use Rattle.archive_forms_laws.specs.Fields.{tuple1_spelling, tuple2_spelling, tuple3_spelling, tuple4_spelling}
use Rattle.archive_forms_laws.specs.Options.{option_spelling}
use Rattle.archive_forms_laws.specs.Results.{result_spelling}
use Rattle.archive_forms_laws.specs.Regions.{plain_values}
use Rattle.archive_forms.specs.Faithful.{IsFaithful}
use Rattle.archive_forms.specs.Reading.{reads_all, reads_tuple2}
use Rattle.archive_forms.proofs.Faithful.{all_faithful, tuple2_faithful}
use Rattle.archive_forms.specs.Alike.{AreAlike, AlikeAreEqual, AlikeAreOne, AreElementsOf, AreAlikeEntries, AreEntriesOf}

-- ---- leaves

pub natural_one : (x y : ℕ) → natural x ≡ natural y → x ≡ y
natural_one x y e = cc

pub integer_one : (x y : ℤ) → integer x ≡ integer y → x ≡ y
integer_one x y e = cc

pub boolean_one : (x y : Bool) → boolean x ≡ boolean y → x ≡ y
boolean_one x y e = cc

pub string_one : (xs ys : List ℕ) → string xs ≡ string ys → xs ≡ ys
string_one xs ys e = cc

-- ---- lists

pub group_one : (us vs : Values) → group us ≡ group vs → us ≡ vs
group_one us vs e = cc

both : (a b : Bool) → a ≡ true → b ≡ true → (a && b) ≡ true
both a b p q = ap₂ (λ c d. c && d) p q

module _ {A R : Type 0} (w : Spelling A R) where
  -- lists with the same values have elements that are archived alike
  pub elements_alike : (xs ys : List A) → plain_values w xs ≡ plain_values w ys → AllZip (AreAlike w) xs ys
  elements_alike [] [] e = tt
  elements_alike [] (y ∷ ys) e = absurd (cc)
  elements_alike (x ∷ xs) [] e = absurd (cc)
  elements_alike (x ∷ xs) (y ∷ ys) e = (cc, elements_alike xs ys (cc))

  pub all_one : AlikeAreOne w → (xs ys : List A) → AllZip (AreAlike w) xs ys → ys ≡ xs
  all_one one [] [] h = refl
  all_one one [] (y ∷ ys) h = absurd h
  all_one one (x ∷ xs) [] h = absurd h
  all_one one (x ∷ xs) (y ∷ ys) h = ap₂ (λ z zs. z ∷ zs) (sym (one x y h.0)) (all_one one xs ys h.1)

  pub elements_of : (xs ys : List A) → AllZip (AreAlike w) xs ys → AreElementsOf w xs ys
  elements_of xs ys h = (h, λ one. all_one one xs ys h)

  all_equal : (eq : A → A → Bool) → AlikeAreEqual w eq → (xs ys : List A) → AllZip (AreAlike w) xs ys → pointwise eq xs ys ≡ true
  all_equal eq equal [] [] h = refl
  all_equal eq equal [] (y ∷ ys) h = absurd h
  all_equal eq equal (x ∷ xs) [] h = absurd h
  all_equal eq equal (x ∷ xs) (y ∷ ys) h = both (eq x y) (pointwise eq xs ys) (equal x y h.0) (all_equal eq equal xs ys h.1)

  -- what has the group of the values of its elements
  pub group_equal : {B : Type 0} (items : B → List A) (eq : A → A → Bool) → AlikeAreEqual w eq
      → (x y : B) → group (plain_values w (items x)) ≡ group (plain_values w (items y)) → pointwise eq (items x) (items y) ≡ true
  group_equal items eq equal x y e = all_equal eq equal (items x) (items y) (elements_alike (items x) (items y) (group_one _ _ e))

  pub group_same : AlikeAreOne w → (xs ys : List A) → group (plain_values w xs) ≡ group (plain_values w ys) → xs ≡ ys
  group_same one xs ys e = sym (all_one one xs ys (elements_alike xs ys (group_one _ _ e)))

  -- ---- options

  pub option_equal : (s : Shape) (eq : A → A → Bool) → AlikeAreEqual w eq → AlikeAreEqual (option_spelling s w) (option_eq eq)
  option_equal s eq equal None None e = refl
  option_equal s eq equal None (Some y) e = absurd (cc)
  option_equal s eq equal (Some x) None e = absurd (cc)
  option_equal s eq equal (Some x) (Some y) e = equal x y (cc)

  pub option_one : (s : Shape) → AlikeAreOne w → AlikeAreOne (option_spelling s w)
  option_one s one None None e = refl
  option_one s one None (Some y) e = absurd (cc)
  option_one s one (Some x) None e = absurd (cc)
  option_one s one (Some x) (Some y) e = ap Some (one x y (cc))

-- ---- results

module _ {A B R Q : Type 0} (s t : Shape) (a : Spelling A R) (b : Spelling B Q) where
  pub result_equal : (p : A → A → Bool) (q : B → B → Bool) → AlikeAreEqual a p → AlikeAreEqual b q → AlikeAreEqual (result_spelling s t a b) (result_eq p q)
  result_equal p q f g (Ok x) (Ok y) e = f x y (cc)
  result_equal p q f g (Ok x) (Err y) e = absurd (cc)
  result_equal p q f g (Err x) (Ok y) e = absurd (cc)
  result_equal p q f g (Err x) (Err y) e = g x y (cc)

  pub result_one : AlikeAreOne a → AlikeAreOne b → AlikeAreOne (result_spelling s t a b)
  result_one f g (Ok x) (Ok y) e = ap Ok (f x y (cc))
  result_one f g (Ok x) (Err y) e = absurd (cc)
  result_one f g (Err x) (Ok y) e = absurd (cc)
  result_one f g (Err x) (Err y) e = ap Err (g x y (cc))

-- ---- tuples

module _ {A B R Q : Type 0} (s t : Shape) (a : Spelling A R) (b : Spelling B Q) where
  pub tuple1_one : AlikeAreOne a → AlikeAreOne (tuple1_spelling s a)
  tuple1_one f x y e = let p : x.0 ≡ y.0 = f x.0 y.0 (cc) in λ i. record { 0 = p i }

  pub tuple1_equal : (p : A → A → Bool) → AlikeAreEqual a p → AlikeAreEqual (tuple1_spelling s a) (λ x y. p x.0 y.0)
  tuple1_equal p f x y e = f x.0 y.0 (cc)

  pub tuple2_one : AlikeAreOne a → AlikeAreOne b → AlikeAreOne (tuple2_spelling s a t b)
  tuple2_one f g x y e =
      let p : x.0 ≡ y.0 = f x.0 y.0 (cc) in
      let q : x.1 ≡ y.1 = g x.1 y.1 (cc) in
      λ i. (p i, q i)

  pub tuple2_equal : (p : A → A → Bool) (q : B → B → Bool) → AlikeAreEqual a p → AlikeAreEqual b q → AlikeAreEqual (tuple2_spelling s a t b) (λ x y. p x.0 y.0 && q x.1 y.1)
  tuple2_equal p q f g x y e = both (p x.0 y.0) (q x.1 y.1) (f x.0 y.0 (cc)) (g x.1 y.1 (cc))

  module _ {C P : Type 0} (u : Shape) (c : Spelling C P) where
    pub tuple3_one : AlikeAreOne a → AlikeAreOne b → AlikeAreOne c → AlikeAreOne (tuple3_spelling s a t b u c)
    tuple3_one f g h x y e =
        let p : x.0 ≡ y.0 = f x.0 y.0 (cc) in
        let q : x.1 ≡ y.1 = g x.1 y.1 (cc) in
        let r : x.2 ≡ y.2 = h x.2 y.2 (cc) in
        λ i. (p i, q i, r i)

    pub tuple3_equal : (p : A → A → Bool) (q : B → B → Bool) (r : C → C → Bool) → AlikeAreEqual a p → AlikeAreEqual b q → AlikeAreEqual c r
        → AlikeAreEqual (tuple3_spelling s a t b u c) (λ x y. (p x.0 y.0 && q x.1 y.1) && r x.2 y.2)
    tuple3_equal p q r f g h x y e =
        both (p x.0 y.0 && q x.1 y.1) (r x.2 y.2) (both (p x.0 y.0) (q x.1 y.1) (f x.0 y.0 (cc)) (g x.1 y.1 (cc))) (h x.2 y.2 (cc))

    module _ {D O : Type 0} (v : Shape) (d : Spelling D O) where
      pub tuple4_one : AlikeAreOne a → AlikeAreOne b → AlikeAreOne c → AlikeAreOne d → AlikeAreOne (tuple4_spelling s a t b u c v d)
      tuple4_one f g h k x y e =
          let p : x.0 ≡ y.0 = f x.0 y.0 (cc) in
          let q : x.1 ≡ y.1 = g x.1 y.1 (cc) in
          let r : x.2 ≡ y.2 = h x.2 y.2 (cc) in
          let z : x.3 ≡ y.3 = k x.3 y.3 (cc) in
          λ i. (p i, q i, r i, z i)

      pub tuple4_equal : (p : A → A → Bool) (q : B → B → Bool) (r : C → C → Bool) (z : D → D → Bool) → AlikeAreEqual a p → AlikeAreEqual b q → AlikeAreEqual c r → AlikeAreEqual d z
          → AlikeAreEqual (tuple4_spelling s a t b u c v d) (λ x y. ((p x.0 y.0 && q x.1 y.1) && r x.2 y.2) && z x.3 y.3)
      tuple4_equal p q r z f g h k x y e =
          both ((p x.0 y.0 && q x.1 y.1) && r x.2 y.2) (z x.3 y.3)
          (both (p x.0 y.0 && q x.1 y.1) (r x.2 y.2) (both (p x.0 y.0) (q x.1 y.1) (f x.0 y.0 (cc)) (g x.1 y.1 (cc))) (h x.2 y.2 (cc)))
          (k x.3 y.3 (cc))

-- ---- entries

-- with the same values, they have keys and values that are archived alike
module _ {A B R Q : Type 0} (s t : Shape) (keys : Spelling A R) (vals : Spelling B Q) where
  pub entries_alike : (es fs : List (A × B)) → plain_values (tuple2_spelling s keys t vals) es ≡ plain_values (tuple2_spelling s keys t vals) fs → AllZip (AreAlikeEntries keys vals) es fs
  entries_alike [] [] e = tt
  entries_alike [] (f ∷ fs) e = absurd (cc)
  entries_alike (x ∷ es) [] e = absurd (cc)
  entries_alike (x ∷ es) (y ∷ fs) e = ((cc, cc), entries_alike es fs (cc))

module _ {A B R Q : Type 0} (keys : Spelling A R) (vals : Spelling B Q) where
  pub entries_one : AlikeAreOne keys → AlikeAreOne vals → (es fs : List (A × B)) → AllZip (AreAlikeEntries keys vals) es fs → fs ≡ es
  entries_one f g [] [] h = refl
  entries_one f g [] (y ∷ fs) h = absurd h
  entries_one f g (x ∷ es) [] h = absurd h
  entries_one f g (x ∷ es) (y ∷ fs) h = ap₂ (λ z zs. z ∷ zs) (λ i. (f y.0 x.0 (sym h.0.0) i, g y.1 x.1 (sym h.0.1) i)) (entries_one f g es fs h.1)

  pub entries_of : (es fs : List (A × B)) → AllZip (AreAlikeEntries keys vals) es fs → AreEntriesOf keys vals es fs
  entries_of es fs h = (h, λ f g. entries_one f g es fs h)

-- ---- what is read back

-- of the values of elements
module _ {A R : Type 0} (w : Spelling A R) (reads : Value → A → Type 0) (same : IsFaithful w reads) where
  pub elements_read : (xs ys : List A) → reads_all reads (group (plain_values w xs)) ys → AllZip (AreAlike w) xs ys
  elements_read xs ys h = elements_alike w xs ys (sym (group_one _ _ (all_faithful w reads same (group (plain_values w xs)) ys h)))

-- and of entries
module _ {A B R Q : Type 0} (s t : Shape) (keys : Spelling A R) (vals : Spelling B Q) (read_keys : Value → A → Type 0) (read_vals : Value → B → Type 0)
    (same : IsFaithful keys read_keys) (also : IsFaithful vals read_vals) where
  pub entries_read : (es fs : List (A × B)) → reads_all (reads_tuple2 read_keys read_vals) (group (plain_values (tuple2_spelling s keys t vals) es)) fs → AllZip (AreAlikeEntries keys vals) es fs
  entries_read es fs h =
      let entry = tuple2_spelling s keys t vals in
      let read = all_faithful entry (reads_tuple2 read_keys read_vals) (tuple2_faithful s t keys vals read_keys read_vals same also) (group (plain_values entry es)) fs h in
      entries_alike s t keys vals es fs (sym (group_one _ _ read))

-- the keys of entries that are archived alike
module _ {A B R Q : Type 0} (keys : Spelling A R) (vals : Spelling B Q) where
  pub keys_alike : (es fs : List (A × B)) → AllZip (AreAlikeEntries keys vals) es fs → AllZip (AreAlike keys) (keys_of es) (keys_of fs)
  keys_alike [] [] h = tt
  keys_alike [] (y ∷ fs) h = absurd h
  keys_alike (x ∷ es) [] h = absurd h
  keys_alike (x ∷ es) (y ∷ fs) h = (h.0.0, keys_alike es fs h.1)

-- the keys of entries without values
pub keys_back : {A : Type 0} (ks : List A) → keys_of (map (λ k. (k, tt {0})) ks) ≡ ks
keys_back [] = refl
keys_back (k ∷ ks) = ap (λ l. k ∷ l) (keys_back ks)
