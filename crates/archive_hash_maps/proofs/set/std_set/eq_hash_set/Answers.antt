use Rattle.std.proofs.Common.{◌∙◌, true, [], ◌∷◌, All, Contains, inr, sym, subst}
use Rattle.std.proofs.lemmas.List.Elements.{All-nil, All-cons, Contains-append_right}
use Rattle.archive_hash_maps.specs.Maps.{HashesTo}
use Rattle.archive_hash_maps.specs.StdMaps.{IsSaid}
use Rattle.archive_hash_maps.proofs.Same.{first_among}
use Rattle.archive_hash_maps.proofs.set.std_set.eq_hash_set.Goals as goal

pub returns-then-not-contains-clause-unequal : goal.returns-then-not-contains-clause-unequal
returns-then-not-contains-clause-unequal g c b is e =
    let q : g.row.Q.Denot = c.in-Some.key.now in
    let looks = c.contains.ensures.answers b is in
    inr (
      q,
      c.loop-key.invariant.among q (first_among q c.next.new.self c.loop-key.key-iterator c.in-Some.ensures.steps),
      record { found = looks.0; says = sym c.if-not-contains.true ∙ looks.1; looks_up = looks.2 },
    )

pub loop-key-preserved : goal.loop-key-preserved
loop-key-preserved g c =
    let q : g.row.Q.Denot = c.in-Some.key.now in
    record {
      decide = λ b is all.
          let P : g.row.Q.Denot → Type 0 = λ x. IsSaid g.K.ArchivedKey.key_of g.K.ArchivedKey.order (λ x. HashesTo g.H.Default.is_default g.H.Hasher.write g.H.Hasher.finish (g.Q.Hash.hash_input x)) c.args.this.now.bytes.now g.K.Portable.shape b x true in
          let looks = c.contains.ensures.answers b is in
          let first : P q = record { found = looks.0; says = sym c.if-not-contains.false ∙ looks.1; looks_up = looks.2 } in
          c.loop-key.invariant.decide b is (subst (All P) (sym c.in-Some.ensures.steps) (All-cons P q c.next.new.self first all));
      among = λ x within. c.loop-key.invariant.among x (subst (λ s. Contains s x) (sym c.in-Some.ensures.steps) (Contains-append_right (q ∷ []) c.next.new.self x within));
    }

pub returns-clause-equal : goal.returns-clause-equal
returns-clause-equal g c b is e =
    let P : g.row.Q.Denot → Type 0 = λ x. IsSaid g.K.ArchivedKey.key_of g.K.ArchivedKey.order (λ x. HashesTo g.H.Default.is_default g.H.Hasher.write g.H.Hasher.finish (g.Q.Hash.hash_input x)) c.args.this.now.bytes.now g.K.Portable.shape b x true in
    (sym (c.len.ensures b is) ∙ c.if-len.false ∙ c.len-2.ensures.len, c.loop-key.invariant.decide b is (subst (All P) (sym c.in-None.ensures.steps.0) (All-nil P)))
