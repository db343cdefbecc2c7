use Rattle.std.proofs.Common.{refl}
use Rattle.archive_forms_laws.specs.Spelling.{Spelling}
use Rattle.archive_btree.specs.Owned.{IsSpelledAs}
use Rattle.archive_btree.proofs.laws.spelled_as_entries.Goals as goal

same : {A R : Type 0} (w : Spelling A R) → IsSpelledAs w w
same w = record {
  value = λ _ _. refl;
  plain = λ _. refl;
  piece = λ _ _. refl;
  resolver = λ _ _. refl;
  met = λ _ _. refl;
  own = λ _ _ _. refl;
  piece_fits = λ _ _. (λ h. h, λ h. h);
  piece_refused = λ _ _ _. (λ h. h, λ h. h);
  own_fits = λ _ _ _. (λ h. h, λ h. h);
  own_refused = λ _ _ _ _. (λ h. h, λ h. h);
  suits = λ _ _ _. (λ h. h, λ h. h);
}

pub returns-clause-maps : goal.returns-clause-maps
returns-clause-maps g c = same _

pub returns-clause-sets : goal.returns-clause-sets
returns-clause-sets g c = same _
