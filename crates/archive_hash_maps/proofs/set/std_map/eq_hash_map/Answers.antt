use Rattle.std.proofs.Common.{◌∙◌, true, [], ◌∷◌, All, Contains, inr, sym, subst}
use Rattle.std.proofs.lemmas.List.Elements.{All-nil, All-cons, Contains-append_right}
use Rattle.archive_hash_maps.specs.Maps.{HashesTo}
use Rattle.archive_hash_maps.specs.StdMaps.{LeadsTo}
use Rattle.archive_hash_maps.proofs.Same.{first_among}
use Rattle.archive_hash_maps.proofs.set.std_map.eq_hash_map.Goals as goal

pub returns-then-not-leads_to-clause-unequal : goal.returns-then-not-leads_to-clause-unequal
returns-then-not-leads_to-clause-unequal g c b is e =
    let pair : g.row.Q.Denot × g.row.W.Denot = (c.in-Some.key.now, c.in-Some.value.now) in
    inr (
      pair,
      c.loop-key.invariant.among pair (first_among pair c.next.new.self c.loop-key.key-iterator c.in-Some.ensures.steps),
      subst (LeadsTo g.K.ArchivedKey.key_of g.K.ArchivedKey.order g.V.ArchivedKey.key_of g.V.ArchivedKey.order (λ q. HashesTo g.H.Default.is_default g.H.Hasher.write g.H.Hasher.finish (g.Q.Hash.hash_input q)) c.args.this.now.bytes.now g.K.Portable.shape g.V.Portable.shape b pair) c.if-not-leads_to.true (c.leads_to.ensures b is),
    )

pub loop-key-preserved : goal.loop-key-preserved
loop-key-preserved g c =
    let pair : g.row.Q.Denot × g.row.W.Denot = (c.in-Some.key.now, c.in-Some.value.now) in
    record {
      decide = λ b is all.
          let P : g.row.Q.Denot × g.row.W.Denot → Type 0 = λ e. LeadsTo g.K.ArchivedKey.key_of g.K.ArchivedKey.order g.V.ArchivedKey.key_of g.V.ArchivedKey.order (λ q. HashesTo g.H.Default.is_default g.H.Hasher.write g.H.Hasher.finish (g.Q.Hash.hash_input q)) c.args.this.now.bytes.now g.K.Portable.shape g.V.Portable.shape b e true in
          let first : P pair = subst (LeadsTo g.K.ArchivedKey.key_of g.K.ArchivedKey.order g.V.ArchivedKey.key_of g.V.ArchivedKey.order (λ q. HashesTo g.H.Default.is_default g.H.Hasher.write g.H.Hasher.finish (g.Q.Hash.hash_input q)) c.args.this.now.bytes.now g.K.Portable.shape g.V.Portable.shape b pair) c.if-not-leads_to.false (c.leads_to.ensures b is) in
          c.loop-key.invariant.decide b is (subst (All P) (sym c.in-Some.ensures.steps) (All-cons P pair c.next.new.self first all));
      among = λ e within. c.loop-key.invariant.among e (subst (λ s. Contains s e) (sym c.in-Some.ensures.steps) (Contains-append_right (pair ∷ []) c.next.new.self e within));
    }

pub returns-clause-equal : goal.returns-clause-equal
returns-clause-equal g c b is e =
    let P : g.row.Q.Denot × g.row.W.Denot → Type 0 = λ p. LeadsTo g.K.ArchivedKey.key_of g.K.ArchivedKey.order g.V.ArchivedKey.key_of g.V.ArchivedKey.order (λ q. HashesTo g.H.Default.is_default g.H.Hasher.write g.H.Hasher.finish (g.Q.Hash.hash_input q)) c.args.this.now.bytes.now g.K.Portable.shape g.V.Portable.shape b p true in
    (sym (c.len.ensures b is) ∙ c.if-len.false ∙ c.len-2.ensures.len, c.loop-key.invariant.decide b is (subst (All P) (sym c.in-None.ensures.steps.0) (All-nil P)))
