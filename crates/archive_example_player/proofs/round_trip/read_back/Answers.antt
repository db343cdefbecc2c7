use Rattle.std.proofs.Common.{◌≡◌, [], IfOk, MatchResult, Result, Ok, Err, None, ◌⊎◌, inl, refl}
use Rattle.archive_shape_layout.specs.declared.error.Error.{Error}
use Rattle.archive_shape_layout.specs.declared.error.Error.TheVariants.{OutOfMemory}
use Rattle.archive_shape_canonical.specs.Settled.{free}
use Rattle.archive_forms_laws.specs.State.{Keys}
use Rattle.archive_core.specs.Written.{MadeArchive}
use Rattle.archive_example_player.specs.Player.{player_shape, KnowsPlayer, player_spelling}
use Rattle.archive_example_player.proofs.round_trip.read_back.Goals as goal

-- what is read, of which there is none only for want of memory
told : {A : Type 0} (There Same Equal : A → Type 0) (Refused : Error → Type 0) (r : Result A Error)
    → IfOk r There
    → MatchResult r Same (λ e. e ≡ OutOfMemory)
    → ((y : A) → There y → Equal y)
    → MatchResult r Equal (λ e. (e ≡ OutOfMemory) ⊎ Refused e)
told There Same Equal Refused (Ok y) there memory equal = equal y there
told There Same Equal Refused (Err e) there memory equal = inl memory

pub from_bytes-requires : goal.from_bytes-requires
from_bytes-requires c = record { named = ([], (tt, tt, tt)) }

pub read_back_is_equal-requires : goal.read_back_is_equal-requires
read_back_is_equal-requires c = record { faithful = c.player_is_faithful.ensures; alike = c.alike_players_are_equal.ensures }

pub returns : goal.returns
returns c =
    let player = c.args.player.now in
    let keys : Keys = λ _. None in
    let made : MadeArchive player_shape KnowsPlayer player_spelling player c.as_slice-archive.result.now = rw c.as_slice-archive.ensures.value c.in-Ok.ensures.archive in
    told _ _ _ _ c.from_bytes.result c.from_bytes.ensures.value (c.from_bytes.ensures.written refl player made)
    (λ y there. c.read_back_is_equal.ensures player y c.as_slice-archive.result.now free [] keys (tt, tt, tt) (c.unshared_suits.ensures refl player keys) made there)
