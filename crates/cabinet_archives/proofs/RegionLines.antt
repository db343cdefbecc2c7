-- The lines of one region: a region of no bytes has none.
use Rattle.std.proofs.Common.{◌≡◌, ℕ, zero, suc, [], refl, append-nil}
use Rattle.cabinet_archives.specs.Mapping.{Name, listed_region}
use Rattle.cabinet_archives.specs.MapLines.{written, written_region, tallied, past_region}
use Rattle.cabinet_archives.specs.declared.mapping.tally.Tally.{Tally}

module _ (t : Tally) (start : ℕ) (n : Name) where
  pub empty_written : (size : ℕ) → size ≡ 0 → written t (listed_region start size n) ≡ []
  unfolding written listed_region
  empty_written zero e = refl
  empty_written (suc size) e = absurd (cc)

  pub empty_tallied : (size : ℕ) → size ≡ 0 → tallied t (listed_region start size n) ≡ t
  unfolding tallied listed_region
  empty_tallied zero e = refl
  empty_tallied (suc size) e = absurd (cc)

  pub region_written : (size : ℕ) → (size ≡ 0 → ⊥) → written t (listed_region start size n) ≡ written_region t start size n
  unfolding written listed_region
  region_written zero e = absurd (e refl)
  region_written (suc size) e = append-nil (written_region t start (suc size) n)

  pub region_tallied : (size : ℕ) → (size ≡ 0 → ⊥) → tallied t (listed_region start size n) ≡ past_region t start size n
  unfolding tallied listed_region
  region_tallied zero e = absurd (e refl)
  region_tallied (suc size) e = refl
