-- A map answers a key exactly if it is among its pairs.
use Rattle.std.proofs.Common.{◌≡◌, ℕ, List, [], Bool, true, false, ◌∷◌, inl, inr, Option, Some, if◌then◌else◌, refl, sym, ap, ◌∙◌}
use Rattle.std.specs.Str.{bytes_eq}
use Rattle.std.proofs.lemmas.Slice.Eq.{bytes_eq-Decides}
use Rattle.std.proofs.lemmas.Option.{same_Some, none-some}
use Rattle.std.proofs.lemmas.Bool.{false_from_ne_true}
use Rattle.cabinet_text_grammar.specs.Keys.{MapKind}
use Rattle.cabinet_text_grammar.specs.Tree.{Tree, Pairs, no_pairs, more_pairs, ArePairs}
use Rattle.cabinet_text_grammar.specs.Path.{node_by}
use Rattle.cabinet_text_grammar.specs.PairsLaws.{HasPair, MapAnswersItsPairs}
use Rattle.cabinet_text_grammar.proofs.DistinctKeys.{later_differ}

of_first :
    (b : Bool) (l k : List ℕ) (t u : Tree) (ps : Pairs)
    → (b ≡ true → l ≡ k)
    → (node_by ps k [] ≡ Some u → HasPair k u ps)
    → (if b then Some t else node_by ps k []) ≡ Some u
    → HasPair k u (more_pairs l t ps)
of_first true l k t u ps same later e = inl (same refl, same_Some t u e)
of_first false l k t u ps same later e = inr (later e)

of_pair : (ps : Pairs) (k : List ℕ) (u : Tree) → node_by ps k [] ≡ Some u → HasPair k u ps
of_pair no_pairs k u e = none-some u e
of_pair (more_pairs l t ps) k u e = of_first (bytes_eq l k) l k t u ps ((bytes_eq-Decides l k).0) (of_pair ps k u) e

some_there : (b : Bool) (t : Tree) (found : Option Tree) → (u : Tree) × (found ≡ Some u) → (u : Tree) × ((if b then Some t else found) ≡ Some u)
some_there true t found there = (t, refl)
some_there false t found there = there

is_there : (ps : Pairs) (k : List ℕ) (t : Tree) → HasPair k t ps → (u : Tree) × (node_by ps k [] ≡ Some u)
is_there no_pairs k t h = absurd h
is_there (more_pairs l u ps) k t (inl h) = (u, ap (λ b. if b then Some u else node_by ps k []) ((bytes_eq-Decides l k).1 h.0))
is_there (more_pairs l u ps) k t (inr h) = some_there (bytes_eq l k) u (node_by ps k []) (is_there ps k t h)

is_own : (kind : MapKind) (keys : List (List ℕ)) (ps : Pairs) (k : List ℕ) (t : Tree) → ArePairs kind keys ps → HasPair k t ps → node_by ps k [] ≡ Some t
is_own kind keys no_pairs k t p h = absurd h
is_own kind keys (more_pairs l u ps) k t p (inl h) = ap (λ b. if b then Some u else node_by ps k []) ((bytes_eq-Decides l k).1 h.0) ∙ ap Some h.1
is_own kind keys (more_pairs l u ps) k t p (inr h) =
    let differs : bytes_eq l k ≡ false = false_from_ne_true (bytes_eq l k) (λ e. later_differ kind l keys ps p.1.1 k t h (sym ((bytes_eq-Decides l k).0 e))) in
    ap (λ b. if b then Some u else node_by ps k []) differs ∙ is_own kind (l ∷ keys) ps k t p.1.1 h

pub map_answers_its_pairs : MapAnswersItsPairs
map_answers_its_pairs kind ps k = record {
  of_pair = of_pair ps k;
  is_there = is_there ps k;
  is_own = λ legal t. is_own kind [] ps k t legal.0;
}
