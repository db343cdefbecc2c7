use Rattle.std.proofs.Common.{◌≡◌, true, subst}
use Rattle.archive_forms.proofs.alike.one_is_equal.Goals as goal

pub returns : goal.returns
returns g c = λ x y e. subst (λ z. g.T.PartialEq.eq x z ≡ true) (c.requires x y e) (g.met.T.Eq.laws.refl x)
