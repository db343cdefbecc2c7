-- The spelling of a path, and spaces.
use Rattle.std.proofs.Common.{◌≡◌, ◌∙◌, ℕ, ◌-◌, ◌≤◌, List, [], ◌∷◌, ◌++◌, length, take, replicate, codes, Option, refl, sym, ap, arith, append-nil, append_assoc}
use Rattle.std.proofs.lemmas.List.{take-replicate}
use Rattle.cabinet_text_grammar.specs.Line.{spelled_step, spelled_path}
use Rattle.cabinet_text_grammar.specs.Path.{Step, key, place, inside}
use Rattle.cabinet_archives.specs.MapLines.{spelled_steps, spelled_column}
use Rattle.cabinet_archives.specs.MapPaths.{path_of}
use Rattle.cabinet_archives.specs.declared.mapping.path.Path.{Path, Root, Key', Place', Inside'}

pub spelled_last : (p : List Step) (s : Step) → spelled_path (p ++ s ∷ []) ≡ spelled_path p ++ (codes " " ++ spelled_step s)
spelled_last [] s = ap (λ x. codes " " ++ x) (append-nil (spelled_step s))
spelled_last (first ∷ p) s =
    ap (λ x. codes " " ++ (spelled_step first ++ x)) (spelled_last p s)
    ∙ ap (λ x. codes " " ++ x) (sym (append_assoc (spelled_step first) (spelled_path p) (codes " " ++ spelled_step s)))

-- a sign, and what comes after it
pub signed_last : (p : List Step) (s : Step) (sign rest : List ℕ) → codes " " ++ spelled_step s ≡ sign ++ rest
    → spelled_path (p ++ s ∷ []) ≡ (spelled_path p ++ sign) ++ rest
signed_last p s sign rest e = spelled_last p s ∙ ap (λ x. spelled_path p ++ x) e ∙ sym (append_assoc (spelled_path p) sign rest)

column_last : (most : Option ℕ) (word : List ℕ) (p : List Step) (s : Step)
    → spelled_column most word (p ++ s ∷ []) ≡ replicate (8 - length word) 32 ++ spelled_steps most (p ++ s ∷ [])
column_last most word [] s = refl
column_last most word (first ∷ p) s = refl

-- the column of a path that has steps
pub column_is : (most : Option ℕ) (word : List ℕ) (path : Path) → (path ≡ Root → ⊥)
    → spelled_column most word (path_of path) ≡ replicate (8 - length word) 32 ++ spelled_steps most (path_of path)
column_is most word Root some = absurd (some refl)
column_is most word (Key' p outer k) some = column_last most word (path_of outer) (key k.now)
column_is most word (Place' p outer i) some = column_last most word (path_of outer) (place i)
column_is most word (Inside' p outer) some = column_last most word (path_of outer) inside

-- spaces of a constant
pub spaces_taken : (n width len : ℕ) → n ≡ width - len → width ≤ 21 → take {A = ℕ} n (replicate 21 32) ≡ replicate (width - len) 32
spaces_taken n width len is low = take-replicate n 21 32 (omega (arith, is, low)) ∙ ap (λ m. replicate {A = ℕ} m 32) is
