use Rattle.std.proofs.Common.{map, eqb}
use Rattle.archive_hash_probing.proofs.MarkLemmas.{lanes_right, exact_match}
use Rattle.archive_hash_probing.proofs.scanning.scan.Group16Scan.match_byte.Goals as goal

pub returns : goal.returns
returns c =
    let lanes = c.args.self.lanes in
    let tag = c.args.tag in
    (map (λ x. eqb x tag) lanes, lanes_right (λ x y. eqb x y) lanes tag c.args.self.sixteen, exact_match tag lanes c.requires)
