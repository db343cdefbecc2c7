-- The file beside an archive, and the folder of both.
use Rattle.std.specs.Prelude.{◌≡◌, ℕ, ◌<◌, ◌⊎◌, List, ◌++◌, length, Option, Some, codes, ◌==◌, if◌then◌else◌, unwrap_or}
use Rattle.std.specs.Option.{option_map}
use Rattle.std.specs.Fmt.{decimal}
use Rattle.std.specs.Path.{cur_dir, path_parent, path_file_name, path_with_file_name}
use Rattle.std.specs.declared.io.ErrorKind.{ErrorKind}
use Rattle.std.specs.declared.io.ErrorKind.TheVariants.{PermissionDenied, ReadOnlyFilesystem, ResourceBusy, InvalidFilename, Unsupported}

-- the name of file n beside one with this name
abbrev pub name_beside : List ℕ → ℕ → List ℕ
name_beside name n = codes "." ++ (name ++ (codes ".cab-" ++ decimal n))

-- the path of file n beside the one at a path, which has a name
abbrev pub path_beside : List ℕ → ℕ → Option (List ℕ)
path_beside path n = option_map (λ name. path_with_file_name path (name_beside name n)) (path_file_name path)

-- the path of a file beside the one at a path, of as many as are tried
abbrev pub IsBeside : (path : List ℕ) → (tries : ℕ) → (beside : List ℕ) → Type 0
IsBeside path tries beside = (n : ℕ) × (n < tries) × (path_beside path n ≡ Some beside)

-- the folder of a path: its parent, or `.` where that is not written
abbrev pub folder_of : List ℕ → List ℕ
folder_of path = let parent = unwrap_or (path_parent path) cur_dir in if length parent == 0 then cur_dir else parent

-- The folder takes no new file of the name, or none with the owner of the old one, or does not let it be renamed; or
-- no regular file is there. A full disk is no such reason.
abbrev pub IsIrreplaceable : ErrorKind → Type 0
IsIrreplaceable kind = (kind ≡ PermissionDenied) ⊎ (kind ≡ ReadOnlyFilesystem) ⊎ (kind ≡ ResourceBusy) ⊎ (kind ≡ InvalidFilename) ⊎ (kind ≡ Unsupported)
