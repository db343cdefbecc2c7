use Rattle.std.proofs.Common.{ℕ, Bool, Some, None, refl, ap, subst}
use Rattle.archive_hash_maps.specs.Places.{LooksUp, FindsAccepted, FindsTheOnly, item_at}
use Rattle.archive_hash_maps.proofs.Lookups.{item_is, item_there, items_there}
use Rattle.archive_hash_maps.proofs.map.table.ArchivedHashTable.get_counted.Goals as goal

pub search_table-found-requires : goal.search_table-found-requires
search_table-found-requires g c =
    let there = items_there g.T.Portable.shape g.T.Portable.knows c.args.this.bytes.now c.args.this.pos c.requires.has in
    record { has = c.requires.has; callable = λ b is i d less. c.requires.callable _ (there b is i d less) }

pub returns-in-Some-clause-answers : goal.returns-in-Some-clause-answers
returns-in-Some-clause-answers g c b is =
    let says : ℕ → Bool → Type 0 = λ at x. goal.F-post g c.args.accepts.now (item_at {T = g.row.T.Denot} c.args.this.bytes at) x in
    let f = c.search_table-found.ensures in
    record {
      position = Some c.in-Some.at;
      is = ap Some (item_is c.args.this.bytes c.in-Some.at c.new.result c.new.ensures.bytes c.new.ensures.pos);
      looks_up = subst (λ o. LooksUp says g.T.Portable.shape b c.args.hash o c.search_table-found.result.1) c.in-Some.is (f.answers b is);
      accepted = subst (FindsAccepted says g.T.Portable.shape b) c.in-Some.is (f.accepted b is);
      only = subst (FindsTheOnly says g.T.Portable.shape b c.args.hash) c.in-Some.is (f.findable b is);
      few = f.few b is;
    }

pub returns-in-Some-clause-there : goal.returns-in-Some-clause-there
returns-in-Some-clause-there g c =
    let says : ℕ → Bool → Type 0 = λ at x. goal.F-post g c.args.accepts.now (item_at {T = g.row.T.Denot} c.args.this.bytes at) x in
    let there =
    item_there g.T.Portable.shape g.T.Portable.knows c.args.this.bytes.now c.args.this.pos c.in-Some.at says c.requires.has
    (λ b is. subst (FindsAccepted says g.T.Portable.shape b) c.in-Some.is (c.search_table-found.ensures.accepted b is))
    in
    rw (c.new.ensures.bytes, c.new.ensures.pos) there

pub returns-in-None-clause-answers : goal.returns-in-None-clause-answers
returns-in-None-clause-answers g c b is =
    let says : ℕ → Bool → Type 0 = λ at x. goal.F-post g c.args.accepts.now (item_at {T = g.row.T.Denot} c.args.this.bytes at) x in
    let f = c.search_table-found.ensures in
    record {
      position = None;
      is = refl;
      looks_up = subst (λ o. LooksUp says g.T.Portable.shape b c.args.hash o c.search_table-found.result.1) c.in-None.is (f.answers b is);
      accepted = subst (FindsAccepted says g.T.Portable.shape b) c.in-None.is (f.accepted b is);
      only = subst (FindsTheOnly says g.T.Portable.shape b c.args.hash) c.in-None.is (f.findable b is);
      few = f.few b is;
    }
