-- An archive has fewer wholes than bytes: each lies at a position of its own.
use Rattle.std.proofs.Common.{◌≡◌, ℕ, suc, ◌+◌, ◌-◌, ◌<◌, ◌≤◌, ◌==◌, ◌^◌, Bool, true, false, cond, List, [], ◌∷◌, ◌++◌, length, Option, Some, None, refl, sym, ap, subst, ◌∙◌, arith, ◌⊎◌, inl, inr, ⊎_elim}
use Rattle.std.specs.Prelude.{⊤, IsTrue, ◌||◌}
use Rattle.std.specs.List.{AllByRecursion, IsDistinct, list_any}
use Rattle.std.proofs.lemmas.Bool.{false≢true, or_left}
use Rattle.std.proofs.lemmas.Bool.Decides.{eqb_tells}
use Rattle.std.proofs.lemmas.Map.Steps.{length-le_from_distinct_below}
use Rattle.archive_shape_layout.specs.Value.{Value, Values}
use Rattle.archive_shape_layout.specs.Holds.{Region, region_of, Visit, visited, Ascends, Holds, HasRoot, root_position}
use Rattle.archive_shape_layout.specs.Holds.Holds.{holds_plain, holds_claimed, holds_first, holds_later, holds_back}
use Rattle.archive_shape_layout.specs.Content.{pointee_content}
use Rattle.archive_shape_layout.specs.Content.Part.{behind}
use Rattle.archive_shape_layout.specs.Shape.Pointee.{sized}
use Rattle.cabinet_text_grammar.specs.Keys.{ordered, hashed, kept}
use Rattle.cabinet_text_grammar.specs.Tree.{Tree, leaf, shared, nothing, just, list, map, whole, Trees, no_trees, more_trees, Pairs, no_pairs, more_pairs}
use Rattle.cabinet_text_grammar.specs.Wholes.{has, with_tree, with_wholes, with_wholes_in, with_wholes_by, wholes_of, IsTable}
use Rattle.cabinet_text_grammar.proofs.Equal.{itself, same_tells}
use Rattle.cabinet_text_grammar.proofs.Tables.{has_more}
use Rattle.cabinet_documents.specs.Node.{node_shape, node_names}
use Rattle.cabinet_documents.specs.Denotes.{Denotes, DenoteAll, DenotePairs}
use Rattle.cabinet_documents.specs.Denotes.Denotes.{denotes_truth, denotes_number, denotes_text, denotes_shared, denotes_nothing, denotes_some, denotes_list, denotes_ordered, denotes_hashed, denotes_kept, denotes_whole}
use Rattle.cabinet_documents.specs.Denotes.DenoteAll.{denote_none, denote_more}
use Rattle.cabinet_documents.specs.Denotes.DenotePairs.{denote_no_pairs, denote_pair}
use Rattle.cabinet_documents.specs.Order.{is_below, inserted, arranged}
use Rattle.cabinet_documents.proofs.Denoted.{one_tree}
use Rattle.cabinet_documents.proofs.Places.{node_behind}
use Rattle.cabinet_documents.proofs.Counted.{Counted, CountedIn, Begin, Seen, found_at}

-- ---- trees in wholes

abbrev mutual
  -- a tree lies in a whole of another
  Wrapped : Tree → Tree → Type 0
  Wrapped u (just t) = Wrapped u t
  Wrapped u (list ts) = WrappedIn u ts
  Wrapped u (map kind ps) = WrappedBy u ps
  Wrapped u (whole t) = (t ≡ u) ⊎ Wrapped u t
  Wrapped u _ = ⊥

  WrappedIn : Tree → Trees → Type 0
  WrappedIn u no_trees = ⊥
  WrappedIn u (more_trees t ts) = Wrapped u t ⊎ WrappedIn u ts

  WrappedBy : Tree → Pairs → Type 0
  WrappedBy u no_pairs = ⊥
  WrappedBy u (more_pairs k t ps) = Wrapped u t ⊎ WrappedBy u ps

in_table : (table : List Tree) (t u : Tree) → IsTrue (has (with_tree table t) u) → IsTrue (has table u) ⊎ (t ≡ u)
in_table table t u h = by_case (has table t) h
  where
    by_case : (b : Bool) → IsTrue (has (cond b table (t ∷ table)) u) → IsTrue (has table u) ⊎ (t ≡ u)
    by_case true h = inl h
    by_case false h =
        elim (same_tells t u) [
          | inl is ↦ inr is.1
          | inr differs ↦ inl (sym (ap (λ b. b || has table u) differs.0) ∙ h)
        ]

mutual
  -- each tree of the table that a walk makes was in it before, or lies in a whole
  wrapped : (table : List Tree) (t u : Tree) → IsTrue (has (with_wholes table t) u) → IsTrue (has table u) ⊎ Wrapped u t
  wrapped table (leaf l) u h = inl h
  wrapped table (shared s) u h = inl h
  wrapped table nothing u h = inl h
  wrapped table (just t) u h = wrapped table t u h
  wrapped table (list ts) u h = wrapped_in table ts u h
  wrapped table (map kind ps) u h = wrapped_by table ps u h
  wrapped table (whole t) u h =
      ⊎_elim (λ there. ⊎_elim (λ i. inl i) (λ i. inr (inr i)) (wrapped table t u there)) (λ is. inr (inl is)) (in_table (with_wholes table t) t u h)

  wrapped_in : (table : List Tree) (ts : Trees) (u : Tree) → IsTrue (has (with_wholes_in table ts) u) → IsTrue (has table u) ⊎ WrappedIn u ts
  wrapped_in table no_trees u h = inl h
  wrapped_in table (more_trees t ts) u h =
      ⊎_elim (λ there. ⊎_elim (λ i. inl i) (λ i. inr (inl i)) (wrapped table t u there)) (λ i. inr (inr i)) (wrapped_in (with_wholes table t) ts u h)

  wrapped_by : (table : List Tree) (ps : Pairs) (u : Tree) → IsTrue (has (with_wholes_by table ps) u) → IsTrue (has table u) ⊎ WrappedBy u ps
  wrapped_by table no_pairs u h = inl h
  wrapped_by table (more_pairs k t ps) u h =
      ⊎_elim (λ there. ⊎_elim (λ i. inl i) (λ i. inr (inl i)) (wrapped table t u there)) (λ i. inr (inr i)) (wrapped_by (with_wholes table t) ps u h)

-- the order of pairs is no matter
wrapped_inserted : (u : Tree) (k : List ℕ) (t : Tree) (ps : Pairs) → WrappedBy u (inserted k t ps) → Wrapped u t ⊎ WrappedBy u ps
wrapped_inserted u k t no_pairs h = h
wrapped_inserted u k t (more_pairs l x ps) h = by_order (is_below l k) (wrapped_inserted u k t ps) h
  where
    by_order : (b : Bool) → (WrappedBy u (inserted k t ps) → Wrapped u t ⊎ WrappedBy u ps)
        → WrappedBy u (cond b (more_pairs l x (inserted k t ps)) (more_pairs k t (more_pairs l x ps))) → Wrapped u t ⊎ (Wrapped u x ⊎ WrappedBy u ps)
    by_order true rest (inl i) = inr (inl i)
    by_order true rest (inr i) = ⊎_elim (λ j. inl j) (λ j. inr (inr j)) (rest i)
    by_order false rest i = i

wrapped_arranged : (u : Tree) (ps : Pairs) → WrappedBy u (arranged ps) → WrappedBy u ps
wrapped_arranged u no_pairs h = h
wrapped_arranged u (more_pairs k t ps) h = ⊎_elim (λ i. inl i) (λ i. inr (wrapped_arranged u ps i)) (wrapped_inserted u k t (arranged ps) h)

-- ---- what lies in a whole is counted

record IsCounted (u : Tree) (v : Value) : Type 0 where
  at : ℕ
  inner : Value
  counted : Counted at inner v
  denotes : Denotes inner u

record AreCounted (u : Tree) (vs : Values) : Type 0 where
  at : ℕ
  inner : Value
  counted : CountedIn at inner vs
  denotes : Denotes inner u

mutual
  counted_where : {v : Value} {t : Tree} → Denotes v t → (u : Tree) → Wrapped u t → IsCounted u v
  counted_where (denotes_truth e f) u h = absurd (subst (Wrapped u) f h)
  counted_where (denotes_number e f) u h = absurd (subst (Wrapped u) f h)
  counted_where (denotes_text e f) u h = absurd (subst (Wrapped u) f h)
  counted_where (denotes_shared e f) u h = absurd (subst (Wrapped u) f h)
  counted_where (denotes_nothing e f) u h = absurd (subst (Wrapped u) f h)
  counted_where (denotes_some e f d) u h =
      let c = counted_where d u (subst (Wrapped u) f h) in
      record { at = c.at; inner = c.inner; counted = subst (Counted c.at c.inner) (sym e) (inl (inl c.counted)); denotes = c.denotes }
  counted_where (denotes_list e f ds) u h =
      let c = counted_in ds u (subst (Wrapped u) f h) in
      record { at = c.at; inner = c.inner; counted = subst (Counted c.at c.inner) (sym e) (inl c.counted); denotes = c.denotes }
  counted_where (denotes_ordered e f ds) u h =
      let c = counted_by ds u (subst (Wrapped u) f h) in
      record { at = c.at; inner = c.inner; counted = subst (Counted c.at c.inner) (sym e) (inl c.counted); denotes = c.denotes }
  counted_where (denotes_hashed {ps = ps} e f ds) u h =
      let c = counted_by ds u (wrapped_arranged u ps (subst (Wrapped u) f h)) in
      record { at = c.at; inner = c.inner; counted = subst (Counted c.at c.inner) (sym e) (inl c.counted); denotes = c.denotes }
  counted_where (denotes_kept e f ds) u h =
      let c = counted_by ds u (subst (Wrapped u) f h) in
      record { at = c.at; inner = c.inner; counted = subst (Counted c.at c.inner) (sym e) (inl c.counted); denotes = c.denotes }
  counted_where (denotes_whole {v = v} {w = w} {u = x} {at = at} e f d) u h =
      ⊎_elim
      (λ is. record { at = at; inner = w; counted = subst (Counted at w) (sym e) (inl (inl (refl, refl))); denotes = subst (Denotes w) is d })
      (λ inside.
      let c = counted_where d u inside in
      record { at = c.at; inner = c.inner; counted = subst (Counted c.at c.inner) (sym e) (inl (inr c.counted)); denotes = c.denotes })
      (subst (Wrapped u) f h)

  counted_in : {vs : Values} {ts : Trees} → DenoteAll vs ts → (u : Tree) → WrappedIn u ts → AreCounted u vs
  counted_in (denote_none e f) u h = absurd (subst (WrappedIn u) f h)
  counted_in (denote_more e f d ds) u h =
      ⊎_elim
      (λ i. let c = counted_where d u i in record { at = c.at; inner = c.inner; counted = subst (CountedIn c.at c.inner) (sym e) (inl c.counted); denotes = c.denotes })
      (λ i. let c = counted_in ds u i in record { at = c.at; inner = c.inner; counted = subst (CountedIn c.at c.inner) (sym e) (inr c.counted); denotes = c.denotes })
      (subst (WrappedIn u) f h)

  counted_by : {vs : Values} {ps : Pairs} → DenotePairs vs ps → (u : Tree) → WrappedBy u ps → AreCounted u vs
  counted_by (denote_no_pairs e f) u h = absurd (subst (WrappedBy u) f h)
  counted_by (denote_pair e f d ds) u h =
      ⊎_elim
      (λ i. let c = counted_where d u i in record { at = c.at; inner = c.inner; counted = subst (CountedIn c.at c.inner) (sym e) (inl (inr (inl c.counted))); denotes = c.denotes })
      (λ i. let c = counted_by ds u i in record { at = c.at; inner = c.inner; counted = subst (CountedIn c.at c.inner) (sym e) (inr c.counted); denotes = c.denotes })
      (subst (WrappedBy u) f h)

-- ---- each tree of a table lies at a position of its own

module _ (visits : List Visit) where
  -- what was visited somewhere denotes it
  record IsPlaced (u : Tree) : Type 0 where
    at : ℕ
    visit : Visit
    visited_there : visited visits at ≡ Some visit
    denotes : Denotes visit.value u

  abbrev ArePlaced : List Tree → Type 0
  ArePlaced [] = ⊤
  ArePlaced (u ∷ us) = IsPlaced u × ArePlaced us

  all_placed : (us : List Tree) → ((u : Tree) → IsTrue (has us u) → IsPlaced u) → ArePlaced us
  all_placed [] each = tt
  all_placed (u ∷ us) each = (each u (or_left _ _ (itself u)), all_placed us (λ x h. each x (has_more u us x h)))

  abbrev positions : (us : List Tree) → ArePlaced us → List ℕ
  positions [] ps = []
  positions (u ∷ us) ps = ps.0.at ∷ positions us ps.1

  length-positions : (us : List Tree) (ps : ArePlaced us) → length (positions us ps) ≡ length us
  length-positions [] ps = refl
  length-positions (u ∷ us) ps = ap suc (length-positions us ps.1)

  one_place : (u x : Tree) (p : IsPlaced u) (q : IsPlaced x) → p.at ≡ q.at → u ≡ x
  one_place u x p q is =
      let both : Some p.visit ≡ Some q.visit = sym p.visited_there ∙ ap (visited visits) is ∙ q.visited_there in
      let visit_is : p.visit ≡ q.visit = cc in
      one_tree (subst (λ (y : Visit). Denotes y.value u) visit_is p.denotes) q.denotes

  apart_from : (u : Tree) (p : IsPlaced u) (us : List Tree) (ps : ArePlaced us) → has us u ≡ false → AllByRecursion (λ n. (p.at == n) ≡ false) (positions us ps)
  apart_from u p [] ps none = tt
  apart_from u p (x ∷ us) ps none =
      elim (same_tells x u) [
        | inl is ↦ absurd (false≢true (sym none ∙ or_left _ _ is.0))
        | inr differs ↦
            let later : has us u ≡ false = sym (ap (λ b. b || has us u) differs.0) ∙ none in
            elim (eqb_tells p.at ps.0.at) [
              | inl here ↦ absurd (differs.1 (sym (one_place u x p ps.0 here.1)))
              | inr apart ↦ (apart.0, apart_from u p us ps.1 later)
            ]
      ]

  distinct_positions : (us : List Tree) (ps : ArePlaced us) → IsTable us → IsDistinct (λ m n. m == n) (positions us ps)
  unfolding IsDistinct
  distinct_positions [] ps is = tt
  distinct_positions (u ∷ us) ps is = (apart_from u ps.0 us ps.1 is.2, distinct_positions us ps.1 is.3)

  positions_below : (high : ℕ) → ((p : ℕ) (x : Visit) → visited visits p ≡ Some x → p ≤ high) → (us : List Tree) (ps : ArePlaced us) (q : ℕ) → list_any (λ n. q == n) (positions us ps) ≡ true → q < suc high
  positions_below high below [] ps q h = absurd (false≢true h)
  positions_below high below (u ∷ us) ps q h =
      elim (eqb_tells q ps.0.at) [
        | inl here ↦ omega (arith, here.1, below ps.0.at ps.0.visit ps.0.visited_there)
        | inr apart ↦ positions_below high below us ps.1 q (sym (ap (λ b. b || list_any (λ n. q == n) (positions us ps.1)) apart.0) ∙ h)
      ]

  few_placed : (high : ℕ) → ((p : ℕ) (x : Visit) → visited visits p ≡ Some x → p ≤ high) → (us : List Tree) → IsTable us → ((u : Tree) → IsTrue (has us u) → IsPlaced u) → length us ≤ suc high
  few_placed high below us is each =
      let ps = all_placed us each in
      let few = length-le_from_distinct_below (positions us ps) (suc high) (distinct_positions us ps is) (positions_below high below us ps) in
      omega (arith, few, length-positions us ps)

-- ---- the regions of an archive begin no later than its root

low_last : (low top : ℕ) (rs : List Region) (r : Region) → Ascends low top (rs ++ r ∷ []) → low ≤ r.start
unfolding Ascends
low_last low top [] r a = a.0.after
low_last low top (x ∷ rs) r a = let first = a.0.after in let rest = low_last (x.start + x.size) top rs r a.1 in omega (arith, first, rest)

last_inside : (low top : ℕ) (rs : List Region) (r : Region) → Ascends low top (rs ++ r ∷ []) → r.start + r.size ≤ top
unfolding Ascends
last_inside low top [] r a = a.0.inside
last_inside low top (x ∷ rs) r a = last_inside (x.start + x.size) top rs r a.1

begin_last : (low top : ℕ) (rs : List Region) (r : Region) → Ascends low top (rs ++ r ∷ []) → Begin r.start (rs ++ r ∷ [])
unfolding Ascends
begin_last low top [] r a = (omega arith, tt)
begin_last low top (x ∷ rs) r a = let rest = low_last (x.start + x.size) top rs r a.1 in (omega (arith, rest), begin_last (x.start + x.size) top rs r a.1)

module _ (bytes : List ℕ) where
  record Root (regions : List Region) : Type 0 where
    high : ℕ
    begin : Begin high regions
    within : high + 24 ≤ length bytes

  root_last : {pos : ℕ} {v : Value} {regions : List Region} {visits : List Visit} → Holds node_names bytes 0 [] (behind pos (sized node_shape) 1) v regions [] visits → Ascends 0 (length bytes) regions → Root regions
  unfolding pointee_content
  root_last (holds_plain e legal all m) a = absurd (cc)
  root_last {pos = pos} {regions = regions} (holds_claimed {within = within} {s = s} e legal all m r) a =
      let up = subst (Ascends 0 (length bytes)) r a in
      let size : s.size ≡ 24 = cc in
      let inside = last_inside 0 (length bytes) within (region_of s 0) up in
      record { high = s.start; begin = subst (Begin s.start) (sym r) (begin_last 0 (length bytes) within (region_of s 0) up); within = omega (arith, inside, size) }
  root_last (holds_first e x y h d g) a = absurd (cc)
  root_last (holds_later e x y d g h) a = absurd (cc)
  root_last (holds_back e x d g h) a = absurd (cc)

  -- fewer than there are bytes
  pub few_wholes : {v : Value} {regions : List Region} {visits : List Visit} → HasRoot node_names bytes (root_position (length bytes) node_shape) node_shape v regions visits
      → (t : Tree) → Denotes v t → IsTable (wholes_of t) → length (wholes_of t) < length bytes
  few_wholes {v = v} {visits = visits} root t denotes table =
      let last = root_last root.holds root.ascends in
      let pos = root_position (length bytes) node_shape in
      let none : Seen last.high [] = record { below = λ p x e. absurd (cc); inner = λ p x e. absurd (cc) } in
      let found = found_at bytes last.high root.holds node_behind pos refl last.begin none in
      let placed : (u : Tree) → IsTrue (has (wholes_of t) u) → IsPlaced visits u = λ u h.
      let w = ⊎_elim (λ none_yet. absurd (false≢true none_yet)) (λ i. i) (wrapped [] t u h) in
      let c = counted_where denotes u w in
      let seen = found.found c.at c.inner c.counted in
      record { at = c.at; visit = seen.0; visited_there = seen.1; denotes = subst (λ y. Denotes y u) (sym seen.2) c.denotes }
      in
      let few = few_placed visits last.high found.seen.below (wholes_of t) table placed in
      let fits = last.within in
      omega (arith, few, fits)
