-- How a value is archived by what stands beside it.
use Rattle.archive_forms_laws.specs.Spelling.{Spelling}

abbrev pub beside_spelling : {A B R : Type 0} → (A → Spelling B R) → Spelling (A × B) R
beside_spelling by = record {
  value = λ x st. (by x.0).value x.1 st;
  plain = λ x. (by x.0).plain x.1;
  piece = λ x st. (by x.0).piece x.1 st;
  resolver = λ x st. (by x.0).resolver x.1 st;
  met = λ x st. (by x.0).met x.1 st;
  own = λ x r pos. (by x.0).own x.1 r pos;
  piece_fits = λ x st. (by x.0).piece_fits x.1 st;
  piece_refused = λ x st e. (by x.0).piece_refused x.1 st e;
  own_fits = λ x r pos. (by x.0).own_fits x.1 r pos;
  own_refused = λ x r pos e. (by x.0).own_refused x.1 r pos e;
  suits = λ fit keys x. (by x.0).suits fit keys x.1;
}
