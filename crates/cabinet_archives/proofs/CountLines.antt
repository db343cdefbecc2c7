-- The lines of numbers.
use Rattle.std.proofs.Common.{◌≡◌, ◌∙◌, ℕ, zero, suc, ◌+◌, ◌<◌, ◌≤◌, Bor, List, ◌∷◌, ◌++◌, length, map, drop, get_or, codes, refl, sym, ap, drop-cons, add-one}
use Rattle.std.proofs.lemmas.List.{drop_all}
use Rattle.std.specs.Fmt.{decimal}
use Rattle.cabinet_archives.specs.MapLines.{right, plus, spelled_count, spelled_counts}

-- of a number that is not 0
pub count_line : (n : ℕ) (word : List ℕ) → (n ≡ 0 → ⊥) → spelled_count n word ≡ right 21 (decimal n) ++ (codes " " ++ (word ++ codes "\n"))
count_line zero word e = absurd (e refl)
count_line (suc n) word e = refl

-- the words from place i on
abbrev pub words_from : ℕ → List (Bor (List ℕ)) → List (List ℕ)
words_from i words = map (λ (w : Bor (List ℕ)). w.now) (drop i words)

-- the line of the number at a place, and those after it
pub lines_next : (counts : List ℕ) (words : List (Bor (List ℕ))) (i sum n : ℕ) (d : Bor (List ℕ)) → i < length words → n ≡ get_or counts i 0
    → spelled_counts counts i sum (words_from i words)
    ≡ spelled_count n (get_or words i d).now ++ spelled_counts counts (i + 1) (plus sum n) (words_from (i + 1) words)
unfolding spelled_counts
lines_next counts words i sum n d less is =
    let next = drop-cons words i d less ∙ ap (λ j. get_or words i d ∷ drop j words) (sym (add-one i)) in
    rw is (ap (λ x. spelled_counts counts i sum (words_from 0 x)) next)

-- that of the sum is the last
pub lines_end : (counts : List ℕ) (words : List (Bor (List ℕ))) (i sum : ℕ) → length words ≤ i
    → spelled_counts counts i sum (words_from i words) ≡ spelled_count sum (codes "in all")
unfolding spelled_counts
lines_end counts words i sum all = ap (λ x. spelled_counts counts i sum (words_from 0 x)) (drop_all i words all)
