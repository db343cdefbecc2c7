use Rattle.archive_forms_values.proofs.Lengths.{greatest_length}
use Rattle.archive_forms_values.proofs.text.laws.out_of_line_capacity.Goals as goal

pub returns : goal.returns
returns c = greatest_length
