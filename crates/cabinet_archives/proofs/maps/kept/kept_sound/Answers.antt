use Rattle.std.proofs.Common.{Err}
use Rattle.std.proofs.lemmas.Result.{err_from_is_err_and}
use Rattle.cabinet_archives.proofs.IndexAudit.{told_found, told_tags, told_keys}
use Rattle.cabinet_archives.proofs.maps.kept.kept_sound.Goals as goal

pub returns-in-Ok : goal.returns-in-Ok
returns-in-Ok g c = told_found c.args.map.bytes c.args.map.pos c.requires c.in-Ok.ensures

pub returns-in_err-tags_sound-in-Err : goal.returns-in_err-tags_sound-in-Err
returns-in_err-tags_sound-in-Err g c =
    let p = err_from_is_err_and c.from_residual.result c.from_residual.ensures.1 in
    rw (p.1, p.2) (told_tags c.args.map.bytes c.args.map.pos c.in_err-tags_sound-in-Err.field-0.0 c.in_err-tags_sound-in-Err.ensures)

pub returns-in_ok-tags_sound-in-Err : goal.returns-in_ok-tags_sound-in-Err
returns-in_ok-tags_sound-in-Err g c = told_keys c.args.map.bytes c.args.map.pos (Err c.in-Err.lost) c.in_ok-tags_sound-in-Err.ensures c.in-Err.ensures
