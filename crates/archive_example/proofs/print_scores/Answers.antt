use Rattle.archive_example.proofs.print_scores.Goals as goal

-- what was returned is one of the elements
pub native_of-requires : goal.native_of-requires
native_of-requires g c =
    let got = c.in-Some.ensures in
    let score = (got.2.value c.requires.value c.requires.held).each _ got.3.0 in
    record { value = score.0; held = rw (got.3.1, got.3.2) score.2 }
