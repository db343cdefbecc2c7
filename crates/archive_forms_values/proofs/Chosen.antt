-- A choice of contents, where its condition is known.
use Rattle.std.specs.Prelude.{◌≡◌, Bool, true, false, refl}
use Rattle.archive_shape_layout.specs.Content.{Content, choose}

pub chosen : (b : Bool) (c d : Content) → b ≡ true → choose b c d ≡ c
unfolding choose
chosen b c d e = rw e refl

pub not_chosen : (b : Bool) (c d : Content) → b ≡ false → choose b c d ≡ d
unfolding choose
not_chosen b c d e = rw e refl
