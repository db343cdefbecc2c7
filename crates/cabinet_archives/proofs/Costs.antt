-- What the steps of a path take, one after the other.
use Rattle.std.proofs.Common.{◌≡◌, ℕ, ◌+◌, ◌-◌, ◌^◌, min, List, [], ◌∷◌, ◌++◌, Bor, refl, sym, subst, ◌∙◌, arith}
use Rattle.archive_shape.specs.Key.{HeldAt}
use Rattle.archive_forms_values.specs.Parts.{HasValue}
use Rattle.cabinet_text_grammar.specs.Path.{Step, key, place, inside}
use Rattle.cabinet_documents.specs.Node.{node_shape, KnowsNode}
use Rattle.cabinet_documents.specs.Table.{hashed_at, kept_at, table_of}
use Rattle.cabinet_archived.specs.Kind.{IsTagged}
use Rattle.cabinet_archives.specs.Cost.{Compares, Searches, StepTakes, in_ordered, in_hashed, in_kept, no_look_up, takes_none, takes_step, takes_no_more, CountsPath}
use Rattle.cabinet_archives.specs.Found.{Reaches, ReachesNone}
use Rattle.cabinet_archives.specs.Hashed.{table_shape}
use Rattle.cabinet_archives.specs.Kept.{index_shape}
use Rattle.cabinet_archives.specs.Keyed.{OfMap, knows_pairs}
use Rattle.cabinet_archives.specs.Ordered.{map_shape}
use Rattle.cabinet_archives.proofs.Tags.{tag_is}

-- ---- one step

pub inside_takes : (bytes : List ℕ) (pos : ℕ) (s : Step) → s ≡ inside → StepTakes bytes pos s 0 0
inside_takes bytes pos s is = no_look_up (λ look. let other = sym is ∙ look.1 in cc) refl refl

pub place_takes : (bytes : List ℕ) (pos : ℕ) (s : Step) (i : ℕ) → s ≡ place i → StepTakes bytes pos s 0 0
place_takes bytes pos s i is = no_look_up (λ look. let other = sym is ∙ look.1 in cc) refl refl

module _ (bytes : Bor (List ℕ)) (pos : ℕ) (there : HasValue node_shape KnowsNode bytes.now pos) (lent : Bor (List ℕ)) (to : ℕ) (same : lent ≡ bytes) (behind : to ≡ pos + 4) (s : Step) (k : List ℕ) (is : s ≡ key k) (n m : ℕ) where
  pub ordered_takes : IsTagged bytes.now pos 6 map_shape knows_pairs to → Compares lent.now to k n → m ≡ 0 → StepTakes bytes.now pos s n m
  ordered_takes tagged compares none =
      in_ordered is (tag_is bytes.now pos there tagged) (subst (λ p. Compares bytes.now p k n) behind (subst (λ (b : Bor (List ℕ)). Compares b.now to k n) same compares)) none

  pub hashed_takes : IsTagged bytes.now pos 7 table_shape knows_pairs to → n ≡ 0 → OfMap table_shape lent.now to (λ v. Searches (table_of hashed_at lent.now to v) k m) → StepTakes bytes.now pos s n m
  hashed_takes tagged none searches =
      let v = tagged.there.value in
      let all = subst (λ (b : Bor (List ℕ)). OfMap table_shape b.now to (λ w. Searches (table_of hashed_at b.now to w) k m)) same searches in
      in_hashed {v = v} is (tag_is bytes.now pos there tagged) (subst (λ p. HeldAt table_shape knows_pairs bytes.now p v) behind tagged.there.held)
      (subst (λ p. Searches (table_of hashed_at bytes.now p v) k m) behind (all v tagged.there.held)) none

  pub kept_takes : IsTagged bytes.now pos 8 index_shape knows_pairs to → n ≡ 0 → OfMap index_shape lent.now to (λ v. Searches (table_of kept_at lent.now to v) k m) → StepTakes bytes.now pos s n m
  kept_takes tagged none searches =
      let v = tagged.there.value in
      let all = subst (λ (b : Bor (List ℕ)). OfMap index_shape b.now to (λ w. Searches (table_of kept_at b.now to w) k m)) same searches in
      in_kept {v = v} is (tag_is bytes.now pos there tagged) (subst (λ p. HeldAt index_shape knows_pairs bytes.now p v) behind tagged.there.held)
      (subst (λ p. Searches (table_of kept_at bytes.now p v) k m) behind (all v tagged.there.held)) none

-- ---- paths

module _ (bytes : List ℕ) (root : ℕ) where
  pub counts_none : CountsPath bytes root [] 0 0
  counts_none = record { met = 0; stops = 0; takes = takes_none refl refl refl; comparisons_are = refl; searches_are = refl }

  pub counts_step : {before : List Step} {from a b e f : ℕ} (s : Step) (c d : ℕ) → CountsPath bytes root before a b → Reaches bytes root before from → StepTakes bytes from s e f → c ≡ min (a + e) (2 ^ 64 - 1) → d ≡ min (b + f) (2 ^ 64 - 1)
      → CountsPath bytes root (before ++ (s ∷ [])) c d
  counts_step {e = e} {f = f} s c d so_far reaches step c_is d_is =
      let a_is = so_far.comparisons_are in
      let b_is = so_far.searches_are in
      record {
        met = so_far.met + e;
        stops = so_far.stops + f;
        takes = takes_step refl so_far.takes reaches step refl refl;
        comparisons_are = omega (arith, a_is, c_is);
        searches_are = omega (arith, b_is, d_is);
      }

  pub counts_no_more : {before : List Step} {c d : ℕ} (after : List Step) → CountsPath bytes root before c d → ReachesNone bytes root before → CountsPath bytes root (before ++ after) c d
  counts_no_more after so_far none = record {
    met = so_far.met;
    stops = so_far.stops;
    takes = takes_no_more after refl so_far.takes none;
    comparisons_are = so_far.comparisons_are;
    searches_are = so_far.searches_are;
  }
