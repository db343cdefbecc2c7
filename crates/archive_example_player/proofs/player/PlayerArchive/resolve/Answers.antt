use Rattle.std.proofs.Common.{◌≡◌, rules, Err}
use Rattle.archive_example_player.proofs.Resolved.{level_can, level_refused, name_can, name_refused, scores_can, scores_refused, player_resolved}
use Rattle.archive_example_player.proofs.player.PlayerArchive.resolve.Goals as goal

pub resolve_field-requires : goal.resolve_field-requires
resolve_field-requires c = level_can c.args.self.now c.args.resolver c.args.out.out.now c.args.out.start c.args.out.pos c.requires

pub returns-in_err-end : goal.returns-in_err-end
returns-in_err-end c =
    let passed : c.from_residual.result ≡ Err c.in_err-end.field-0.0 = search rules in
    rw passed (level_refused c.args.self.now c.args.resolver c.args.out.out.now c.args.out.start c.args.out.pos c.requires _ _ c.in_err-end.ensures)

pub resolve_field-requires-2 : goal.resolve_field-requires-2
resolve_field-requires-2 c = name_can c.args.self.now c.args.resolver c.args.out.out.now c.args.out.start c.args.out.pos c.requires _ _ c.in_ok-end.ensures

pub returns-in_err-end-2 : goal.returns-in_err-end-2
returns-in_err-end-2 c =
    let passed : c.from_residual-in_err-end-2.result ≡ Err c.in_err-end-2.field-0.0 = search rules in
    rw passed (name_refused c.args.self.now c.args.resolver c.args.out.out.now c.args.out.start c.args.out.pos c.requires _ _ c.in_ok-end.ensures _ _ c.in_err-end-2.ensures)

pub resolve_field-requires-3 : goal.resolve_field-requires-3
resolve_field-requires-3 c = scores_can c.args.self.now c.args.resolver c.args.out.out.now c.args.out.start c.args.out.pos c.requires _ _ c.in_ok-end.ensures _ _ c.in_ok-end-2.ensures

pub returns-in_err-resolve_field : goal.returns-in_err-resolve_field
returns-in_err-resolve_field c =
    let passed : c.from_residual-in_err-resolve_field.result ≡ Err c.in_err-resolve_field.field-0.0 = search rules in
    rw passed (scores_refused c.args.self.now c.args.resolver c.args.out.out.now c.args.out.start c.args.out.pos c.requires _ _ c.in_ok-end.ensures _ _ c.in_ok-end-2.ensures _ _ c.in_err-resolve_field.ensures)

pub returns : goal.returns
returns c =
    player_resolved c.args.self.now c.args.resolver c.args.out.out.now c.args.out.start c.args.out.pos c.requires _ _ c.in_ok-end.ensures _ _ c.in_ok-end-2.ensures _ _ c.in_ok-resolve_field.ensures
