-- The paths to regions.
use Rattle.std.specs.Prelude.{List, [], ◌∷◌, ◌++◌}
use Rattle.cabinet_text_grammar.specs.Path.{Step, key, place, inside}
use Rattle.cabinet_archives.specs.declared.mapping.path.Path.{Path, Root, Key', Place', Inside'}

abbrev pub path_of : Path → List Step
path_of Root = []
path_of (Key' p outer k) = path_of outer ++ key k.now ∷ []
path_of (Place' p outer i) = path_of outer ++ place i ∷ []
path_of (Inside' p outer) = path_of outer ++ inside ∷ []
