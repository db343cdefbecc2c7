-- A number that is written over another in the bytes of an archive, and what a map answers after a call that it may be lent to.
use Rattle.std.specs.List.{find}
use Rattle.std.specs.Map.{set_value}
use Rattle.std.specs.Option.{IsSomeAnd, is_some, option_map}
use Rattle.std.specs.Ordering.{is_eq}
use Rattle.std.specs.declared.cmp.Ordering.{Ordering}
use Rattle.std.proofs.Common.{◌≡◌, ◌∙◌, ℕ, ◌+◌, ◌≤◌, Bool, true, false, List, [], ◌∷◌, length, take, drop, Option, Some, None, MatchOption, refl, ap, sym, subst, arith}
use Rattle.std.proofs.lemmas.List.{length-take, length-drop}
use Rattle.std.proofs.lemmas.List.Elements.{All-head}
use Rattle.archive_shape_layout.specs.Bytes.{window}
use Rattle.archive_shape_layout.specs.Content.{Names}
use Rattle.archive_shape_layout.specs.Holds.{Ascends}
use Rattle.archive_shape_layout.specs.Numbers.{Reads}
use Rattle.archive_shape_layout.specs.Shape.{Shape, size_of}
use Rattle.archive_shape_layout.specs.Value.Value.{natural}
use Rattle.archive_shape_layout.proofs.NumberReading.{leaf_is_read_law}
use Rattle.archive_shape_layout.proofs.Visited.{claimed_first}
use Rattle.archive_shape_canonical.specs.Canonical.{AreBytes}
use Rattle.archive_shape.specs.Bytes.{overwrite}
use Rattle.archive_shape.specs.Key.{HeldAt}
use Rattle.archive_shape.proofs.Written.{length-overwrite, overwrite_spares_law}
use Rattle.archive_forms_laws.specs.Spelling.{Spelling}
use Rattle.archive_forms_values.specs.Parts.{HasValue}
use Rattle.archive_forms_values.specs.Tuples.{tuple2}
use Rattle.archive_hash_maps.specs.Maps.{KeySays, LooksUpHash}
use Rattle.archive_hash_maps.specs.Walks.{DiffersAt}
use Rattle.archive_hash_maps.proofs.Stays.{nothing_written, piece_written}
use Rattle.archive_hash.specs.Answering.{AnswersKeys}
use Rattle.archive_example_stock.specs.Stock.{number_shape, counts_shape, stock_shape, any, any_entry, any_stock}
use Rattle.archive_example_stock.proofs.Read.{counts_there}
use Rattle.archive_example_stock.proofs.Tests.{none_set}

-- ---- a number

module _ (bytes own : List ℕ) (pos : ℕ) (long : length own ≡ 4) (fits : pos + 4 ≤ length bytes) where
  -- the bytes have the number that was written
  number_held : (n : ℕ) → Reads number_shape own (natural n) → HeldAt number_shape any (overwrite bytes pos own) pos (natural n)
  unfolding Ascends
  number_held n reads =
      let out = overwrite bytes pos own in
      let same_length = length-overwrite bytes pos own (omega (arith, long, fits)) in
      let written = overwrite_spares_law bytes pos own (omega (arith, long, fits)) in
      let there : window out pos 4 ≡ own = ap (window out pos) (sym long) ∙ written.stands in
      let read : Reads number_shape (window out pos (size_of number_shape)) (natural n) = subst (λ b. Reads number_shape b (natural n)) (sym there) reads in
      record {
        names = [];
        known = tt;
        level = 0;
        inside = [];
        regions = [];
        before = [];
        after = [];
        own_within = omega (arith, fits, same_length);
        low = 0;
        claimed = claimed_first tt;
        holds = (leaf_is_read_law number_shape out pos (natural n) read [] 0 [] (natural n) [] [] []).1 (record { value = refl; regions = refl; after = refl });
      }

  -- and differ there alone
  number_differs : DiffersAt 4 (pos ∷ []) bytes (overwrite bytes pos own)
  number_differs = piece_written 4 (pos ∷ []) pos bytes bytes own (λ P all. All-head P pos [] all) (omega (arith, long)) (omega (arith, long, fits)) (nothing_written 4 (pos ∷ []) bytes)

-- the own bytes of a number were lent, and are now those of another
pub number_put : (bytes left own was lent : List ℕ) (place n : ℕ) → left ≡ overwrite bytes place own → length own ≡ 4 → lent ≡ take 4 (drop place bytes) → length lent ≡ 4
    → own ≡ was → Reads number_shape was (natural n)
    → DiffersAt 4 (place ∷ []) bytes left × HeldAt number_shape any left place (natural n)
number_put bytes left own was lent place n is long own_is lent_long same reads =
    let there : length (take 4 (drop place bytes)) ≡ 4 = ap length (sym own_is) ∙ lent_long in
    let fits : place + 4 ≤ length bytes = omega (arith, there, length-take 4 (drop place bytes), length-drop place bytes) in
    let held = number_held bytes own place long fits n (subst (λ o. Reads number_shape o (natural n)) (sym same) reads) in
    (subst (DiffersAt 4 (place ∷ []) bytes) (sym is) (number_differs bytes own place long fits), subst (λ b. HeldAt number_shape any b place (natural n)) (sym is) held)

-- ---- the counts of a stock

module _ (bytes mid : List ℕ) (same : mid ≡ bytes) where
  pub counts_at : (pos at : ℕ) → at ≡ pos + 12 → HasValue stock_shape any_stock bytes pos → HasValue counts_shape any_entry mid at
  counts_at pos at e h = subst (λ b. HasValue counts_shape any_entry b at) (sym same) (subst (HasValue counts_shape any_entry bytes) (sym e) (counts_there bytes pos h))

  pub small_at : AreBytes bytes → AreBytes mid
  small_at h = subst AreBytes (sym same) h

-- ---- what a map answers

-- a call is made, or nothing is found
pub by_visit : {T X : Type 0} (S : Type 0) (C : ℕ → T → Type 0) (found : Option ℕ) (result : Option T)
    → MatchOption result ((found ≡ None) × S) (λ answer. (at : ℕ) × (found ≡ Some at) × C at answer)
    → (result ≡ None → found ≡ None → S → X)
    → ((at : ℕ) (answer : T) → result ≡ Some answer → found ≡ Some at → C at answer → X)
    → X
by_visit S C found None h none some = none refl h.0 h.1
by_visit S C found (Some answer) h none some = some h.0 answer refl h.1 h.2

pub not_some : {T : Type 0} (told : Bool) (result : Option T) (answer : T) → told ≡ is_some result → told ≡ false → result ≡ Some answer → ⊥
not_some told None answer e f g = absurd cc
not_some told (Some x) answer e f g = absurd (let true_is : true ≡ false = sym e ∙ f in cc)

-- something is lent where there is an entry
lent_or_none : {E T : Type 0} (P : ℕ → E → Type 0) (S : Type 0) (C : ℕ → T → Type 0) (first : Option E) (position found : Option ℕ) (result : Option T)
    → found ≡ option_map (λ at. at) position
    → MatchOption first (position ≡ None) (λ e. IsSomeAnd position (λ at. P at e))
    → MatchOption result ((found ≡ None) × S) (λ answer. (at : ℕ) × (found ≡ Some at) × C at answer)
    → is_some result ≡ is_some first
lent_or_none P S C None None found None is h lent = refl
lent_or_none P S C (Some e) None found None is h lent = absurd h
lent_or_none P S C first (Some at) found None is h lent = absurd (let none : found ≡ None = lent.0 in cc)
lent_or_none P S C first None found (Some answer) is h lent = absurd (let some : found ≡ Some lent.0 = lent.1 in cc)
lent_or_none P S C None (Some at) found (Some answer) is h lent = absurd cc
lent_or_none P S C (Some e) (Some at) found (Some answer) is h lent = refl

-- nothing is found where there is no entry
none_first : {E : Type 0} (P : ℕ → E → Type 0) (first : Option E) (position found : Option ℕ) → found ≡ option_map (λ at. at) position
    → MatchOption first (position ≡ None) (λ e. IsSomeAnd position (λ at. P at e)) → found ≡ None → first ≡ None
none_first P None position found is h none = refl
none_first P (Some e) None found is h none = absurd h
none_first P (Some e) (Some at) found is h none = absurd cc

pub seen_or_none : {E B : Type 0} (seen : E → B) (first : Option E) → is_some first ≡ is_some (option_map seen first)
seen_or_none seen None = refl
seen_or_none seen (Some e) = refl

module _ {A B R P Q : Type 0} (k v : Shape) (knows others : Names → Type 0) (keys : Spelling A R) (vals : Spelling B P) (key : A → Q) (order : Q → Q → Ordering) (hashes : Q → ℕ → Type 0)
    (key_of : List ℕ → ℕ → Q → Type 0) where
  abbrev Answered : List ℕ → ℕ → List (A × B) → Type 0
  Answered bytes pos es = AnswersKeys k v knows others keys vals bytes key order hashes key_of pos es

  pub answers_at : (bytes mid : List ℕ) (pos at : ℕ) (es : List (A × B)) → mid ≡ bytes → at ≡ pos → Answered bytes pos es → Answered mid at es
  answers_at bytes mid pos at es e f h = subst (λ b. Answered b at es) (sym e) (subst (λ p. Answered bytes p es) (sym f) h)

  module _ (mid : List ℕ) (at : ℕ) (es : List (A × B)) (here : Answered mid at es) (query : Q) {T : Type 0} (S : Type 0) (C : ℕ → T → Type 0) (found : Option ℕ) (result : Option T)
      (looked : LooksUpHash (hashes query) (KeySays key_of order mid query) (λ p. p) (tuple2 k v) here.buckets found) where
    abbrev test : A → Bool
    test x = is_eq (order (key x) query)

    -- the result is some where there is an entry of the query
    pub told_of : (told : Bool) → told ≡ is_some result → MatchOption result ((found ≡ None) × S) (λ answer. (p : ℕ) × (found ≡ Some p) × C p answer)
        → told ≡ is_some (find (λ e. test e.0) es)
    told_of told is lent =
        is ∙ lent_or_none _ S C (find (λ e. test e.0) es) looked.answers.position found result looked.answers.is
        (here.finds query looked.hash looked.strides looked.answers.position looked.is_hash looked.answers.looks_up) lent

    -- the bytes at the end answer for the entries with another value, or for the same where the query has no entry
    pub written_or_same : (b : B) (left out : List ℕ) (pos : ℕ)
        → MatchOption result ((found ≡ None) × (S × (left ≡ mid))) (λ answer. (p : ℕ) × (found ≡ Some p) × C p answer)
        → ((p : ℕ) (answer : T) → C p answer → LooksUpHash (hashes query) (KeySays key_of order mid query) (λ q. q) (tuple2 k v) here.buckets (Some p) → AreBytes left
        → Answered left at (set_value test es b))
        → at ≡ pos
        → AreBytes out
        → out ≡ left
        → Answered out pos (set_value test es b)
    written_or_same b left out pos lent written f small is =
        subst (λ o. Answered o pos (set_value test es b)) (sym is)
        (subst (λ p. Answered left p (set_value test es b)) f
        (by_visit (S × (left ≡ mid)) C found result lent
        (λ nothing none same.
        let first = none_first _ (find (λ e. test e.0) es) looked.answers.position found looked.answers.is
        (here.finds query looked.hash looked.strides looked.answers.position looked.is_hash looked.answers.looks_up) none in
        subst (λ o. Answered o at (set_value test es b)) (sym same.1) (subst (Answered mid at) (sym (none_set test b es first)) here))
        (λ p answer something some calls.
        written p answer calls (subst (λ o. LooksUpHash (hashes query) (KeySays key_of order mid query) (λ q. q) (tuple2 k v) here.buckets o) some looked) (subst AreBytes is small))))
