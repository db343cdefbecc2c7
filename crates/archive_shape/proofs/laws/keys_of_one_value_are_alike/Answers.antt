use Rattle.archive_shape.proofs.laws.keys_of_one_value_are_alike.Goals as goal

pub returns : goal.returns
returns g c bytes other pos other_pos value here there a b x y query =
    g.met.K.ArchivedKey.one_value value a b (g.met.K.ArchivedKey.held_stands_for bytes pos value here a x)
    (g.met.K.ArchivedKey.held_stands_for other other_pos value there b y) query
