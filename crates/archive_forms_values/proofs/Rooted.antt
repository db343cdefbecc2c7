-- The value of a root.
use Rattle.std.proofs.Common.{◌≡◌, ℕ, List, [], Some, subst, arith}
use Rattle.archive_shape_layout.specs.Shape.{Shape}
use Rattle.archive_shape_layout.specs.Value.{Value}
use Rattle.archive_shape_layout.specs.Content.{Names, made}
use Rattle.archive_shape_layout.specs.Content.Part.{at}
use Rattle.archive_shape_layout.specs.Content.Label.{same}
use Rattle.archive_shape_layout.specs.Holds.{Region, Visit, Holds, HasRoot}
use Rattle.archive_shape_layout.proofs.Unique.{by_claimed}
use Rattle.archive_shape_layout.proofs.Visited.{claimed_first, claimed_inside}
use Rattle.archive_shape.specs.Key.{HeldAt}
use Rattle.archive_forms_values.proofs.Contents.{sized_is}
use Rattle.archive_forms_values.proofs.Inside.{one_held}
use Rattle.archive_forms_values.proofs.Pointed.{made_same}

-- it is the one at the root's position
pub root_held : (s : Shape) (knows : Names → Type 0) (names : Names) (bytes : List ℕ) (pos : ℕ) (v : Value) (regions : List Region) (visits : List Visit)
    → knows names → HasRoot names bytes pos s v regions visits → HeldAt s knows bytes pos v
root_held s knows names bytes pos v regions visits known root =
    let says = by_claimed names bytes (sized_is names bytes pos s 1) root.holds in
    let one = one_held names bytes says.all in
    let value : one.value ≡ v = made_same one.value v (subst (λ x. made same x ≡ Some v) one.is says.is_made) in
    let inner = claimed_inside says.regions_are (claimed_first root.ascends) in
    let ends = inner.ends in
    record {
      names = names;
      known = known;
      level = 1;
      inside = [];
      regions = says.within;
      before = [];
      after = visits;
      own_within = omega (arith, ends);
      low = 0;
      claimed = inner.claimed;
      holds = subst (λ x. Holds names bytes 1 [] (at pos s) x says.within [] visits) value one.holds;
    }
