use Rattle.std.specs.String.{string_bytes}
use Rattle.std.specs.Box.{boxed_str_bytes}
use Rattle.std.specs.Cmp.Lexicographic.{bytes_decides}
use Rattle.archive_forms.proofs.AlikeParts.{string_one}
use Rattle.archive_forms.proofs.alike.alike_texts_are_equal.Goals as goal

pub returns-clause-texts : goal.returns-clause-texts
returns-clause-texts c = λ x y e. (bytes_decides (string_bytes x) (string_bytes y)).1 (string_one (string_bytes x) (string_bytes y) e)

pub returns-clause-boxed : goal.returns-clause-boxed
returns-clause-boxed c = λ x y e. (bytes_decides (boxed_str_bytes x) (boxed_str_bytes y)).1 (string_one (boxed_str_bytes x) (boxed_str_bytes y) e)
