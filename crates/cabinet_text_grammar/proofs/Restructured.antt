-- Edits that add, replace and remove nodes leave a document with the same wholes.
use Rattle.std.proofs.Common.{◌≡◌, ◌≢◌, ℕ, zero, suc, ◌<◌, ◌≤◌, ◌^◌, ◌-◌, Bool, true, false, if◌then◌else◌, List, [], ◌∷◌, length, All, Ordering, ap, sym, subst, ◌∙◌, refl, arith, leb-true}
use Rattle.std.specs.Prelude.{⊤, IsUtf8, nat_le}
use Rattle.std.specs.Str.{bytes_eq}
use Rattle.std.specs.Ordering.{is_eq, is_lt, nat_cmp, ordering_reverse}
use Rattle.std.specs.declared.cmp.Ordering.TheVariants.{Less}
use Rattle.std.specs.Cmp.Lexicographic.{slice_cmp, nat_list_cmp_total}
use Rattle.std.proofs.lemmas.Bool.{false≢true}
use Rattle.std.proofs.lemmas.Slice.Eq.{bytes_eq-Decides}
use Rattle.std.proofs.lemmas.Map.Text.{is_eq-slice_cmp}
use Rattle.std.proofs.lemmas.List.Elements.{All-nil, All-cons, All-head, All-tail}
use Rattle.cabinet_text_grammar.specs.Keys.{MapKind, kept, MayFollow}
use Rattle.cabinet_text_grammar.specs.Tree.{Tree, nothing, just, list, map, whole, Trees, no_trees, more_trees, Pairs, no_pairs, more_pairs, count, pair_count, depth, most_depth, pairs_depth, IsLegal, AreLegal, ArePairs}
use Rattle.cabinet_text_grammar.specs.Wholes.{with_wholes, with_wholes_in, with_wholes_by, wholes_of, IsDocument}
use Rattle.cabinet_text_grammar.specs.Path.{Step, key, place, inside}
use Rattle.cabinet_text_grammar.specs.Line.{IsStep}
use Rattle.cabinet_text_grammar.specs.Restructuring.{Edited, edited, refused, within, without, in_place_of, comes_before, put_pair, put_element, put_step, insert_element, insert_step, remove_element, remove_pair, remove_step, at_last, at_last_in, at_last_by, if_shallow}
use Rattle.cabinet_text_grammar.specs.RestructuringLaws.{IsCounted, AreCounted, PairsAreCounted, StaysDocument, PutKeepsDocument, InsertKeepsDocument, RemoveKeepsDocument}
use Rattle.cabinet_text_grammar.proofs.WithoutWholes.{none, text_without_wholes}

-- ---- what becomes of edits

-- of what an edit makes, if it is done
abbrev pub IfEdited : {A : Type 0} → (A → Type 0) → Edited A → Type 0
IfEdited P (edited x) = P x
IfEdited P _ = ⊤

pub if_within :
    {A B : Type 0} {P : A → Type 0} (Q : B → Type 0) {f : A → B} → ((x : A) → P x → Q (f x)) → (r : Edited A) → IfEdited P r → IfEdited Q (within f r)
if_within Q h (edited x) p = h x p
if_within Q h _ p = tt

pub if_so : {A : Type 0} {P : A → Type 0} (Q : A → Type 0) → ((x : A) → P x → Q x) → (r : Edited A) → IfEdited P r → IfEdited Q r
if_so Q h (edited x) p = h x p
if_so Q h _ p = tt

pub if_without : {A : Type 0} (P : A → Type 0) (table : List Tree) (x : A) → (table ≡ [] → P x) → IfEdited P (without table x)
if_without P [] x h = h refl
if_without P (t ∷ table) x h = tt

pub if_either :
    {A : Type 0} (P : A → Type 0) (b : Bool) (r s : Edited A)
    → (b ≡ true → IfEdited P r) → (b ≡ false → IfEdited P s) → IfEdited P (if b then r else s)
if_either P true r s h g = h refl
if_either P false r s h g = g refl

pub shallow : (P : Tree → Type 0) (r : Edited Tree) (u : Tree) → IfEdited P r → if_shallow r ≡ edited u → P u × (depth u ≤ 64)
shallow P (edited t) u p done =
    let Is = λ (w : Tree). P w × (depth w ≤ 64) in
    subst (IfEdited Is) done (if_either Is (nat_le (depth t) 64) (edited t) refused (λ is. (p, leb-true (depth t) 64 is)) (λ differs. tt))
shallow P _ u p done = absurd (cc)

-- ---- edits by paths

-- the steps of a path but the last, and the last
abbrev pub front : Step → List Step → List Step
front step [] = []
front step (next ∷ path) = step ∷ front next path

abbrev pub last_of : Step → List Step → Step
last_of step [] = step
last_of step (next ∷ path) = last_of next path

-- Of relations between what is there before and after an edit, and the path to the container that is edited: what holds of a
-- part holds of what is around it. The pairs of a map have these keys before them.
module _
    (P : List Step → Tree → Tree → Type 0) (Q : ℕ → List Step → Trees → Trees → Type 0)
    (R : MapKind → List (List ℕ) → List ℕ → List Step → Pairs → Pairs → Type 0)
  where
    pub record IsCarried : Type 0 where
      pub in_just : (path : List Step) (t u : Tree) → P path t u → P (inside ∷ path) (just t) (just u)
      pub in_list : (i : ℕ) (path : List Step) (ts us : Trees) → Q i path ts us → P (place i ∷ path) (list ts) (list us)
      pub in_map :
          (kind : MapKind) (k : List ℕ) (path : List Step) (ps qs : Pairs) → R kind [] k path ps qs → P (key k ∷ path) (map kind ps) (map kind qs)
      pub first : (path : List Step) (ts : Trees) (t u : Tree) → P path t u → Q zero path (more_trees t ts) (more_trees u ts)
      pub later : (i : ℕ) (path : List Step) (t : Tree) (ts us : Trees) → Q i path ts us → Q (suc i) path (more_trees t ts) (more_trees t us)
      pub value :
          (kind : MapKind) (keys : List (List ℕ)) (k l : List ℕ) (path : List Step) (ps : Pairs) → bytes_eq l k ≡ true → (t u : Tree)
          → P path t u → R kind keys k path (more_pairs l t ps) (more_pairs l u ps)
      pub behind :
          (kind : MapKind) (keys : List (List ℕ)) (k l : List ℕ) (path : List Step) (t : Tree) → bytes_eq l k ≡ false → (ps qs : Pairs)
          → R kind (l ∷ keys) k path ps qs → R kind keys k path (more_pairs l t ps) (more_pairs l t qs)

    -- what holds of an edit by the last step of a path holds of that by the path
    module _ (carries : IsCarried) (edit : Tree → Step → Edited Tree) where
      abbrev HoldsAt : Step → List Step → Type 0
      HoldsAt step path = (c : Tree) → IfEdited (P [] c) (edit c (last_of step path))

      mutual
        pub carried : (t : Tree) (step : Step) (path : List Step) → HoldsAt step path → IfEdited (P (front step path) t) (at_last edit t step path)
        carried t step [] h = h t
        carried (just t) inside (next ∷ path) h = if_within _ (carries.in_just (front next path) t) _ (carried t next path h)
        carried (list ts) (place i) (next ∷ path) h = if_within _ (carries.in_list i (front next path) ts) _ (carried_in ts i next path h)
        carried (map kind ps) (key k) (next ∷ path) h =
            if_within _ (carries.in_map kind k (front next path) ps) _ (carried_by kind [] ps k next path h)
        carried (whole t) inside (next ∷ path) h = tt
        carried _ step (next ∷ path) h = tt

        carried_in :
            (ts : Trees) (i : ℕ) (step : Step) (path : List Step)
            → HoldsAt step path → IfEdited (Q i (front step path) ts) (at_last_in edit ts i step path)
        carried_in no_trees i step path h = tt
        carried_in (more_trees t ts) zero step path h = if_within _ (carries.first (front step path) ts t) _ (carried t step path h)
        carried_in (more_trees t ts) (suc i) step path h = if_within _ (carries.later i (front step path) t ts) _ (carried_in ts i step path h)

        carried_by :
            (kind : MapKind) (keys : List (List ℕ)) (ps : Pairs) (k : List ℕ) (step : Step) (path : List Step)
            → HoldsAt step path → IfEdited (R kind keys k (front step path) ps) (at_last_by edit ps k step path)
        carried_by kind keys no_pairs k step path h = tt
        carried_by kind keys (more_pairs l t ps) k step path h =
            if_either (R kind keys k (front step path) (more_pairs l t ps)) (bytes_eq l k) _ _
            (λ same. if_within _ (carries.value kind keys k l (front step path) ps same t) _ (carried t step path h))
            (λ differs. if_within _ (carries.behind kind keys k l (front step path) t differs ps) _ (carried_by kind (l ∷ keys) ps k step path h))

-- ---- keys

-- where all that may follow some keys may follow others, it may also after a further key
still_follows :
    (kind : MapKind) (before others : List (List ℕ)) → ((k : List ℕ) → MayFollow kind before k → MayFollow kind others k)
    → (l k : List ℕ) → MayFollow kind (l ∷ before) k → MayFollow kind (l ∷ others) k
still_follows kept before others h l k p =
    All-cons (λ x. x ≢ k) l others (All-head (λ x. x ≢ k) l before p) (h k (All-tail (λ x. x ≢ k) l before p))
still_follows _ before others h l k p = p

pairs_follow :
    (kind : MapKind) (before others : List (List ℕ)) → ((k : List ℕ) → MayFollow kind before k → MayFollow kind others k)
    → (ps : Pairs) → ArePairs kind before ps → ArePairs kind others ps
pairs_follow kind before others h no_pairs p = tt
pairs_follow kind before others h (more_pairs k t ps) p =
    ((p.0.0, h k p.0.1), (p.1.0, pairs_follow kind (k ∷ before) (k ∷ others) (still_follows kind before others h k) ps p.1.1))

-- what may follow a key may follow the keys before it
follows_without :
    (kind : MapKind) (keys : List (List ℕ)) (l : List ℕ) → MayFollow kind keys l
    → (k : List ℕ) → MayFollow kind (l ∷ keys) k → MayFollow kind keys k
follows_without kept keys l p k q = All-tail (λ x. x ≢ k) l keys q
follows_without _ [] l p k q = tt
follows_without _ (last ∷ keys) l p k q = nat_list_cmp_total.trans last l k p q

-- what an order of keys is, by what comparisons tell
is_less : (o : Ordering) → is_lt o ≡ true → o ≡ Less
is_less Less is = refl
is_less _ is = absurd (cc)

no_other_less : (o : Ordering) → is_eq o ≡ false → is_lt (ordering_reverse o) ≡ false → o ≡ Less
no_other_less Less differs not = refl
no_other_less _ differs not = absurd (cc)

-- a key that has no place before another one may follow it
passes :
    (kind : MapKind) (keys : List (List ℕ)) (l k : List ℕ) → bytes_eq l k ≡ false → comes_before kind k l ≡ false
    → MayFollow kind keys k → MayFollow kind (l ∷ keys) k
passes kept keys l k differs not p = All-cons (λ x. x ≢ k) l keys (λ e. false≢true (sym differs ∙ (bytes_eq-Decides l k).1 e)) p
passes _ keys l k differs not p =
    no_other_less (slice_cmp nat_cmp l k) (is_eq-slice_cmp l k ∙ differs) (sym (ap is_lt (nat_list_cmp_total.antisymm k l)) ∙ not)

-- pairs that a key comes before may follow it
pairs_behind :
    (kind : MapKind) (keys : List (List ℕ)) (k l : List ℕ) (t : Tree) (ps : Pairs)
    → comes_before kind k l ≡ true → ArePairs kind keys (more_pairs l t ps) → ArePairs kind (k ∷ keys) (more_pairs l t ps)
pairs_behind kept keys k l t ps is p = absurd (false≢true is)
pairs_behind kind keys k l t ps is p =
    ((p.0.0, is_less (slice_cmp nat_cmp k l) is), (p.1.0, pairs_follow kind (l ∷ keys) (l ∷ k ∷ keys) (λ m q. q) ps p.1.1))

may_begin : (kind : MapKind) (k : List ℕ) → MayFollow kind [] k
may_begin kept k = All-nil (λ x. x ≢ k)
may_begin _ k = tt

-- ---- what an edit keeps

-- The wholes, and legality where counts fit. `IsLess` says that the edit only removes: the depth is then at most what it was, and
-- counts fit where they did.
module _ (IsLess : Type 0) where
  abbrev Kept :
      {A : Type 0} (Legal Counted : A → Type 0) (wholes : List Tree → A → List Tree) (deep many : A → ℕ) → A → A → Type 0
  Kept Legal Counted wholes deep many x y =
      (Legal x → ((IsLess → ⊥) → Counted y) → Legal y) × ((table : List Tree) → wholes table y ≡ wholes table x)
      × (IsLess → deep y ≤ deep x) × ((n : ℕ) → many x < n → ((IsLess → ⊥) → many y < n) → many y < n)

  abbrev Keeps : Tree → Tree → Type 0
  Keeps = Kept IsLegal IsCounted with_wholes depth (λ t. 0)

  abbrev KeepAll : Trees → Trees → Type 0
  KeepAll = Kept AreLegal AreCounted with_wholes_in most_depth count

  abbrev KeepPairs : MapKind → List (List ℕ) → Pairs → Pairs → Type 0
  KeepPairs kind keys = Kept (ArePairs kind keys) PairsAreCounted with_wholes_by pairs_depth pair_count

  -- the bound of `Kept` on counts, with one more before and after
  one_more :
      (x y : ℕ) → ((n : ℕ) → x < n → ((IsLess → ⊥) → y < n) → y < n) → (n : ℕ) → suc x < n → ((IsLess → ⊥) → suc y < n) → suc y < n
  one_more x y h n low c = omega (arith, h (n - 1) (omega arith) (λ l. omega (arith, c l)))

  keeps : IsCarried (λ path. Keeps) (λ i path. KeepAll) (λ kind keys k path. KeepPairs kind keys)
  keeps = record {
    in_just = λ path t u h. (h.0, h.1, λ less. omega (arith, h.2 less), h.3);
    in_list = λ i path ts us h.
        (λ p c. (h.0 p.0 (λ n. (c n).0), h.3 (2 ^ 64) p.1 (λ n. (c n).1)), h.1, λ less. omega (arith, h.2 less), λ n low c. low);
    in_map = λ kind k path ps qs h.
        (λ p c. (h.0 p.0 (λ n. (c n).0), h.3 (2 ^ 64) p.1 (λ n. (c n).1)), h.1, λ less. omega (arith, h.2 less), λ n low c. low);
    first = λ path ts t u h.
        (λ p c. (h.0 p.0 (λ n. (c n).0), p.1), λ table. ap (λ w. with_wholes_in w ts) (h.1 table), λ less. omega (arith, h.2 less), λ n low c. low);
    later = λ i path t ts us h.
        (λ p c. (p.0, h.0 p.1 (λ n. (c n).1)), λ table. h.1 (with_wholes table t), λ less. omega (arith, h.2 less), one_more _ _ h.3);
    value = λ kind keys k l path ps same t u h.
        let wholes = λ (table : List Tree). ap (λ w. with_wholes_by w ps) (h.1 table) in
        (λ p c. (p.0, (h.0 p.1.0 (λ n. (c n).0), p.1.1)), wholes, λ less. omega (arith, h.2 less), λ n low c. low);
    behind = λ kind keys k l path t differs ps qs h.
        (λ p c. (p.0, (p.1.0, h.0 p.1.1 (λ n. (c n).1))), λ table. h.1 (with_wholes table t), λ less. omega (arith, h.2 less), one_more _ _ h.3);
  }

adds_none : (t : Tree) → wholes_of t ≡ [] → (table : List Tree) → with_wholes table t ≡ table
adds_none t h table = none t table ((text_without_wholes t).table.1 h)

-- ---- what is put or inserted

module _ (new : Tree) (legal : IsLegal new) (adds : (table : List Tree) → with_wholes table new ≡ table) where
  replaced : (t : Tree) → IfEdited (Keeps ⊥ t) (in_place_of t new)
  replaced t =
      if_without (Keeps ⊥ t) _ _ (λ h. (λ p c. legal, λ table. adds table ∙ sym (adds_none t h table), λ less. absurd less, λ n low c. low))

  first_added : (ts : Trees) → KeepAll ⊥ ts (more_trees new ts)
  first_added ts = (λ p c. (legal, p), λ table. ap (λ w. with_wholes_in w ts) (adds table), λ less. absurd less, λ n low c. c (λ e. e))

  pair_added :
      (kind : MapKind) (keys : List (List ℕ)) (k : List ℕ) (ps : Pairs)
      → IsUtf8 k → MayFollow kind keys k → (ArePairs kind keys ps → ArePairs kind (k ∷ keys) ps) → KeepPairs ⊥ kind keys ps (more_pairs k new ps)
  pair_added kind keys k ps utf8 follows behind =
      (λ p c. ((utf8, follows), (legal, behind p)), λ table. ap (λ w. with_wholes_by w ps) (adds table), λ less. absurd less, λ n low c. c (λ e. e))

  put_keeps_in : (ts : Trees) (i : ℕ) → IfEdited (KeepAll ⊥ ts) (put_element ts i new)
  put_keeps_in no_trees zero = first_added no_trees
  put_keeps_in no_trees (suc i) = tt
  put_keeps_in (more_trees t ts) zero = if_within _ ((keeps ⊥).first [] ts t) _ (replaced t)
  put_keeps_in (more_trees t ts) (suc i) = if_within _ ((keeps ⊥).later i [] t ts) _ (put_keeps_in ts i)

  put_keeps_by :
      (kind : MapKind) (keys : List (List ℕ)) (ps : Pairs) (k : List ℕ)
      → IsUtf8 k → MayFollow kind keys k → IfEdited (KeepPairs ⊥ kind keys ps) (put_pair kind ps k new)
  put_keeps_by kind keys no_pairs k utf8 follows = pair_added kind keys k no_pairs utf8 follows (λ p. tt)
  put_keeps_by kind keys (more_pairs l t ps) k utf8 follows =
      let Is = KeepPairs ⊥ kind keys (more_pairs l t ps) in
      if_either Is (bytes_eq l k) _ _
      (λ same. if_within _ ((keeps ⊥).value kind keys k l [] ps same t) _ (replaced t))
      (λ differs. if_either Is (comes_before kind k l) _ _
      (λ is. pair_added kind keys k (more_pairs l t ps) utf8 follows (pairs_behind kind keys k l t ps is))
      (λ not. if_within _ ((keeps ⊥).behind kind keys k l [] t differs ps) _
      (put_keeps_by kind (l ∷ keys) ps k utf8 (passes kind keys l k differs not follows))))

  put_keeps : (t : Tree) (step : Step) → IsStep step → IfEdited (Keeps ⊥ t) (put_step t step new)
  put_keeps nothing inside is = (λ p c. legal, adds, λ less. absurd less, λ n low c. low)
  put_keeps (just t) inside is = if_within _ ((keeps ⊥).in_just [] t) _ (replaced t)
  put_keeps (list ts) (place i) is = if_within _ ((keeps ⊥).in_list i [] ts) _ (put_keeps_in ts i)
  put_keeps (map kind ps) (key k) is = if_within _ ((keeps ⊥).in_map kind k [] ps) _ (put_keeps_by kind [] ps k is (may_begin kind k))
  put_keeps (whole t) inside is = tt
  put_keeps _ step is = tt

  insert_keeps_in : (ts : Trees) (i : ℕ) → IfEdited (KeepAll ⊥ ts) (insert_element ts i new)
  insert_keeps_in ts zero = first_added ts
  insert_keeps_in no_trees (suc i) = tt
  insert_keeps_in (more_trees t ts) (suc i) = if_within _ ((keeps ⊥).later i [] t ts) _ (insert_keeps_in ts i)

  insert_keeps : (t : Tree) (step : Step) → IfEdited (Keeps ⊥ t) (insert_step t step new)
  insert_keeps (list ts) (place i) = if_within _ ((keeps ⊥).in_list i [] ts) _ (insert_keeps_in ts i)
  insert_keeps (whole t) inside = tt
  insert_keeps _ step = tt

-- ---- what is removed

remove_keeps_in : (ts : Trees) (i : ℕ) → IfEdited (KeepAll ⊤ ts) (remove_element ts i)
remove_keeps_in no_trees i = tt
remove_keeps_in (more_trees t ts) zero =
    if_without (KeepAll ⊤ (more_trees t ts)) _ _
    (λ h. (λ p c. p.1, λ table. ap (λ w. with_wholes_in w ts) (sym (adds_none t h table)), λ less. omega arith, λ n low c. omega arith))
remove_keeps_in (more_trees t ts) (suc i) = if_within _ ((keeps ⊤).later i [] t ts) _ (remove_keeps_in ts i)

remove_keeps_by : (kind : MapKind) (keys : List (List ℕ)) (ps : Pairs) (k : List ℕ) → IfEdited (KeepPairs ⊤ kind keys ps) (remove_pair ps k)
remove_keeps_by kind keys no_pairs k = tt
remove_keeps_by kind keys (more_pairs l t ps) k =
    let Is = KeepPairs ⊤ kind keys (more_pairs l t ps) in
    if_either Is (bytes_eq l k) _ _
    (λ same. if_without Is _ _ (λ h. (
      λ p c. pairs_follow kind (l ∷ keys) keys (follows_without kind keys l p.0.1) ps p.1.1,
      λ table. ap (λ w. with_wholes_by w ps) (sym (adds_none t h table)),
      λ less. omega arith,
      λ n low c. omega arith,
    )))
    (λ differs. if_within _ ((keeps ⊤).behind kind keys k l [] t differs ps) _ (remove_keeps_by kind (l ∷ keys) ps k))

remove_keeps : (t : Tree) (step : Step) → IfEdited (Keeps ⊤ t) (remove_step t step)
remove_keeps (just t) inside =
    if_without (Keeps ⊤ (just t)) _ _ (λ h. (λ p c. tt, λ table. sym (adds_none t h table), λ less. omega arith, λ n low c. low))
remove_keeps (list ts) (place i) = if_within _ ((keeps ⊤).in_list i [] ts) _ (remove_keeps_in ts i)
remove_keeps (map kind ps) (key k) = if_within _ ((keeps ⊤).in_map kind k [] ps) _ (remove_keeps_by kind [] ps k)
remove_keeps (whole t) inside = tt
remove_keeps _ step = tt

-- ---- documents

stays : (IsLess : Type 0) (t u : Tree) → IsDocument t → Keeps IsLess t u → depth u ≤ 64 → ((IsLess → ⊥) → IsCounted u) → StaysDocument t u
stays IsLess t u is h deep counted =
    record { document = (h.0 is.0 counted, deep, subst (λ w. length w < 2 ^ 64) (sym (h.1 [])) is.2); wholes = h.1 [] }

last_is_step : (step : Step) (path : List Step) → All IsStep (step ∷ path) → IsStep (last_of step path)
last_is_step step [] are = All-head IsStep step [] are
last_is_step step (next ∷ path) are = last_is_step next path (All-tail IsStep step (next ∷ path) are)

pub put_keeps_document : PutKeepsDocument
put_keeps_document [] are t new u is legal no_wholes done counted =
    let h = shallow (Keeps ⊥ t) _ u (replaced new legal (adds_none new no_wholes) t) done in
    stays ⊥ t u is h.0 h.1 (λ n. counted)
put_keeps_document (step ∷ path) are t new u is legal no_wholes done counted =
    let last = last_of step path in
    let h = shallow (Keeps ⊥ t) _ u (carried _ _ _ (keeps ⊥) (λ c s. put_step c s new) t step path
    (λ c. put_keeps new legal (adds_none new no_wholes) c last (last_is_step step path are))) done in
    stays ⊥ t u is h.0 h.1 (λ n. counted)

pub insert_keeps_document : InsertKeepsDocument
insert_keeps_document [] t new u is legal no_wholes done counted = absurd (cc)
insert_keeps_document (step ∷ path) t new u is legal no_wholes done counted =
    let h = shallow (Keeps ⊥ t) _ u (carried _ _ _ (keeps ⊥) (λ c s. insert_step c s new) t step path
    (λ c. insert_keeps new legal (adds_none new no_wholes) c (last_of step path))) done in
    stays ⊥ t u is h.0 h.1 (λ n. counted)

pub remove_keeps_document : RemoveKeepsDocument
remove_keeps_document t u [] is done = absurd (cc)
remove_keeps_document t u (step ∷ path) is done =
    let h = subst (IfEdited (Keeps ⊤ t)) done (carried _ _ _ (keeps ⊤) remove_step t step path (λ c. remove_keeps c (last_of step path))) in
    stays ⊤ t u is h (omega (arith, h.2 tt, is.1)) (λ n. absurd (n tt))
