use Rattle.std.proofs.Common.{◌≡◌, ◌+◌, ◌*◌, true, false, cond, eqb, [], ◌∷◌, refl}
use mir.Val.{bool_byte}
use Rattle.archive_hash_probing.proofs.MarkLemmas.{exact_match}
use Rattle.archive_hash_probing.proofs.scanning.scan.Group1Scan.match_byte.Goals as goal

pub returns : goal.returns
returns c = (eqb c.args.self.control c.args.tag ∷ [], elim (eqb c.args.self.control c.args.tag) as (λ b. bool_byte b ≡ cond b 1 0 + 2 * 0) [ true ↦ refl | false ↦ refl ], exact_match c.args.tag (c.args.self.control ∷ []) c.requires)
