use Rattle.archive_example.proofs.print_fields.Goals as goal

-- after the tag is the vector
pub print_scores-requires : goal.print_scores-requires
print_scores-requires g c =
    let vector = c.in-Some.ensures.2 c.scores.ensures.there.value c.scores.ensures.there.held in
    record { value = vector.payload; held = rw (c.in-Some.ensures.0, c.in-Some.ensures.1) vector.held }
