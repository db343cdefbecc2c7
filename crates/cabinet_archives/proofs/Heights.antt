-- How high parts are, from how high the parts in them are.
use Rattle.std.proofs.Common.{◌≡◌, ◌∙◌, ℕ, ◌+◌, ◌<◌, ◌≤◌, max, Bool, Bor, true, false, nat_lt, List, [], ◌∷◌, ◌++◌, Some, IfSome, Result, Err, cond, inl, inr, refl, sym, ap, ap₂, subst, arith, lt-ltb, le-ltb}
use Rattle.std.proofs.lemmas.Bool.Decides.{leb_tells}
use Rattle.std.specs.BTreeMap.{BTreeMap, get, is_at, Updates}
use Rattle.std.specs.Ordering.{is_eq, is_lt, is_le, nat_cmp, ord_max}
use Rattle.std.specs.Bool.{if◌then◌else◌}
use Rattle.std.specs.declared.cmp.Ordering.{Ordering}
use Rattle.std.specs.declared.cmp.Ordering.TheVariants.{Less, Equal, Greater}
use Rattle.std.proofs.lemmas.Map.Lookups.{exact_unsigned}
use Rattle.std.proofs.lemmas.Map.Keys.{ge_from_not_lt, le_from_is_le}
use Rattle.archive_shape_layout.specs.Shape.{Shape}
use Rattle.archive_shape_layout.specs.Value.{Value}
use Rattle.archive_shape_layout.specs.Content.{Part}
use Rattle.archive_shape_layout.specs.Content.Part.{at}
use Rattle.cabinet_documents.specs.Node.{node_shape, node_names}
use Rattle.cabinet_documents.specs.Walk.{Stop, Walks}
use Rattle.cabinet_documents.specs.Audit as audit
use Rattle.cabinet_documents.specs.Audit.{too_deep, unless, faults, first_of}
use Rattle.cabinet_archives.specs.declared.opening.refusal.OpenRefusal.{OpenRefusal}
use Rattle.cabinet_archives.specs.declared.opening.refusal.OpenRefusal.TheVariants as refusal
use Rattle.cabinet_archives.specs.Sound.{Audits, HasHeight, AreHeights, AuditsTo}
use Rattle.cabinet_archives.proofs.Walked.{Inner}

pub first_stays : (u : audit.Unsound) (xs ys : List audit.Unsound) → first_of xs ≡ Some u → first_of (xs ++ ys) ≡ Some u
first_stays u [] ys e = absurd (cc)
first_stays u (x ∷ xs) ys e = e

-- the greater of two numbers
pub max_is : (a b n : ℕ) → n ≡ ord_max nat_cmp a b → n ≡ max a b
max_is a b n e = by (is_lt (nat_cmp b a)) refl
  where
    below : (o : Ordering) → is_lt o ≡ true → is_le o ≡ true
    below Less f = refl
    below Equal f = absurd (cc)
    below Greater f = absurd (cc)

    by : (c : Bool) → is_lt (nat_cmp b a) ≡ c → n ≡ max a b
    by true f =
        let low = le_from_is_le b a (below (nat_cmp b a) f) in
        let is : n ≡ a = e ∙ ap (λ c. cond c a b) f in
        omega (arith, low, is)
    by false f =
        let low = ge_from_not_lt b a f in
        let is : n ≡ b = e ∙ ap (λ c. cond c a b) f in
        omega (arith, low, is)

-- inside `depth` containers, these are the faults of parts of which the highest is so high
abbrev pub AreAsHigh : (depth height : ℕ) → List audit.Unsound → Type 0
AreAsHigh depth height found = (depth + height ≤ 64 → found ≡ []) × (64 < depth + height → first_of found ≡ Some too_deep)

pub flat_high : (depth : ℕ) → depth ≤ 64 → AreAsHigh depth 0 []
flat_high depth low = (λ fits. refl, λ past. absurd (omega (arith, low, past)))

pub both_high : (depth h k : ℕ) (xs ys : List audit.Unsound) → AreAsHigh depth h xs → AreAsHigh depth k ys → AreAsHigh depth (max h k) (xs ++ ys)
both_high depth h k xs ys a b = (fits, past)
  where
    fits : depth + max h k ≤ 64 → xs ++ ys ≡ []
    fits low = ap₂ (λ us vs. us ++ vs) (a.0 (omega (arith, low))) (b.0 (omega (arith, low)))

    past : 64 < depth + max h k → first_of (xs ++ ys) ≡ Some too_deep
    past high =
        elim (leb_tells (depth + h) 64) [
          | inl low ↦ subst (λ us. first_of (us ++ ys) ≡ Some too_deep) (sym (a.0 low.1)) (b.1 (omega (arith, high, low.1)))
          | inr deep ↦ first_stays too_deep xs ys (a.1 deep.1)
        ]

module _ (bytes : List ℕ) where
  pub high_at : {p : Part} {height depth : ℕ} {v : Value} {walk : List Stop} → HasHeight bytes p height → depth ≤ 64 → Walks node_names bytes depth p v walk → AreAsHigh depth height (faults bytes walk)
  high_at {depth = depth} {v = v} {walk = walk} is low w = (λ fits. is.fits depth v walk fits w, λ past. is.past depth v walk low past w)

  -- a container has its own fault, and then those of what lies in it
  pub record IsAround (depth height : ℕ) (walk : List Stop) : Type 0 where
    pub rest : List audit.Unsound
    pub faults_are : faults bytes walk ≡ unless (nat_lt depth 64) too_deep ++ rest
    pub high : depth < 64 → AreAsHigh (depth + 1) height rest

  pub around_high : (p : Part) (height : ℕ) → ((depth : ℕ) (v : Value) (walk : List Stop) → Walks node_names bytes depth p v walk → IsAround depth height walk) → HasHeight bytes p (height + 1)
  around_high p height around = record {
    fits = λ depth v walk low w.
        let a = around depth v walk w in
        let less : depth < 64 = omega (arith, low) in
        a.faults_are ∙ ap (λ b. unless b too_deep ++ a.rest) (lt-ltb depth 64 less) ∙ (a.high less).0 (omega (arith, low));
    past = λ depth v walk low high w.
        let a = around depth v walk w in
        elim (leb_tells 64 depth) [
          | inl deep ↦ ap first_of a.faults_are ∙ ap (λ b. first_of (unless b too_deep ++ a.rest)) (le-ltb depth 64 deep.1)
          | inr less ↦ ap first_of (a.faults_are ∙ ap (λ b. unless b too_deep ++ a.rest) (lt-ltb depth 64 less.1)) ∙ (a.high less.1).1 (omega (arith, high))
        ];
  }

  -- what is so high that a container lies too deep is refused
  pub past_refused : (p : Part) (height depth : ℕ) → HasHeight bytes p height → depth ≤ 64 → 64 < depth + height → (r : OpenRefusal) → r ≡ refusal.TooDeep → Audits bytes depth p (Err r)
  past_refused p height depth is low high r e =
      subst (λ x. Audits bytes depth p (Err x)) (sym e) (λ v walk w. (too_deep, refl, is.past depth v walk low high w))

  -- a payload is as high as its node
  pub height_in : {p q : Part} (height : ℕ) → ((depth : ℕ) (v : Value) (walk : List Stop) → Walks node_names bytes depth p v walk → Inner bytes depth q walk) → HasHeight bytes q height → HasHeight bytes p height
  height_in height inner is = record {
    fits = λ depth v walk low w. let i = inner depth v walk w in i.faults_are ∙ is.fits depth i.value i.run low i.walked;
    past = λ depth v walk low high w. let i = inner depth v walk w in ap first_of i.faults_are ∙ is.past depth i.value i.run low high i.walked;
  }

  -- what has no fault at any depth is not high
  pub flat_height : (p : Part) → ((depth : ℕ) (v : Value) (walk : List Stop) → Walks node_names bytes depth p v walk → faults bytes walk ≡ []) → HasHeight bytes p 0
  flat_height p none = record { fits = λ depth v walk low w. none depth v walk w; past = λ depth v walk low high w. absurd (omega (arith, low, high)) }

-- ---- the same bytes at the same place

pub height_as : {x y : Bor (List ℕ)} {pos to : ℕ} (s : Shape) (height : ℕ) → x ≡ y → pos ≡ to → HasHeight x.now (at pos s) height → HasHeight y.now (at to s) height
height_as {x = x} {to = to} s height e f h = subst (λ (b : Bor (List ℕ)). HasHeight b.now (at to s) height) e (subst (λ n. HasHeight x.now (at n s) height) f h)

pub refuses_as : {x y : Bor (List ℕ)} {pos to : ℕ} (depth : ℕ) (s : Shape) (r : Result ℕ OpenRefusal) → x ≡ y → pos ≡ to → AuditsTo x.now depth (at pos s) r → AuditsTo y.now depth (at to s) r
refuses_as {x = x} {to = to} depth s r e f h = subst (λ (b : Bor (List ℕ)). AuditsTo b.now depth (at to s) r) e (subst (λ n. AuditsTo x.now depth (at n s) r) f h)

pub heights_as : {x y : Bor (List ℕ)} (m : BTreeMap ℕ ℕ) → x ≡ y → AreHeights x.now m → AreHeights y.now m
heights_as m e h = subst (λ (b : Bor (List ℕ)). AreHeights b.now m) e h

-- ---- the heights that are kept

module _ (bytes : List ℕ) (m : BTreeMap ℕ ℕ) (are : AreHeights bytes m) where
  abbrev IsHigh : ℕ → ℕ → Type 0
  IsHigh pos height = (height ≤ 64) × HasHeight bytes (at pos node_shape) height

  pub kept_height : (pos height : ℕ) → get nat_cmp m pos ≡ Some height → IsHigh pos height
  kept_height pos height e = subst (λ o. IfSome o (IsHigh pos)) e (are pos)

  same_position : (a b : ℕ) → is_eq (nat_cmp a b) ≡ true → a ≡ b
  same_position a b e = exact_unsigned a b (equal (nat_cmp a b) e)
    where
      equal : (o : Ordering) → is_eq o ≡ true → o ≡ Equal
      equal Less e = absurd (cc)
      equal Equal e = refl
      equal Greater e = absurd (cc)

  pub height_kept : (n : BTreeMap ℕ ℕ) (pos height : ℕ) → IsHigh pos height → Updates nat_cmp m n pos (Some height) → AreHeights bytes n
  height_kept n pos height is u other = by (is_at (nat_cmp pos) other) refl
    where
      by : (b : Bool) → is_at (nat_cmp pos) other ≡ b → IfSome (get nat_cmp n other) (IsHigh other)
      by true e = subst (λ o. IfSome o (IsHigh other)) (sym (u.0 other ∙ ap (λ c. if c then Some height else get nat_cmp m other) e)) (subst (λ p. IsHigh p height) (same_position pos other e) is)
      by false e = subst (λ o. IfSome o (IsHigh other)) (sym (u.0 other ∙ ap (λ c. if c then Some height else get nat_cmp m other) e)) (are other)
