-- Paths that grow by a step at the end.
use Rattle.std.proofs.Common.{◌≡◌, ℕ, ◌+◌, ◌<◌, length, get_or, take, drop, add-one, List, [], ◌∷◌, ◌++◌, sym, ap, ◌∙◌}
use Rattle.std.proofs.Math.Seq.{take-suc}
use Rattle.std.proofs.lemmas.List.{take-append-drop, map-append}
use Rattle.cabinet_text_nodes.specs.View.{step_of, path_of}
use Rattle.cabinet_text_nodes.specs.declared.line.Step.{Step}

-- the steps through an index are those before it and the one there
pub path_through : (path : List Step) (i : ℕ) (step : Step) → i < length path → step ≡ get_or path i step → path_of (take (i + 1) path) ≡ path_of (take i path) ++ (step_of step ∷ [])
path_through path i step within is =
    ap (λ j. path_of (take j path)) (add-one i)
    ∙ (ap path_of (take-suc path i step within)
    ∙ (map-append step_of (take i path) (get_or path i step ∷ [])
    ∙ ap (λ s. path_of (take i path) ++ (step_of s ∷ [])) (sym is)))

-- a path is its steps before an index and those from there on
pub path_parts : (path : List Step) (i : ℕ) → path_of path ≡ path_of (take i path) ++ path_of (drop i path)
path_parts path i = ap path_of (sym (take-append-drop i path)) ∙ map-append step_of (take i path) (drop i path)
