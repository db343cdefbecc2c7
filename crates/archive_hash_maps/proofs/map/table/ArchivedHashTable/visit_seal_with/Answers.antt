use denote.MutBor.{as_bor}
use Rattle.std.proofs.Common.{ℕ, Bool, ◌+◌, ◌≤◌, length, Some, None, refl, subst, arith}
use Rattle.archive_hash_maps.specs.Places.{LooksUp, FindsAccepted, FindsTheOnly, calls}
use Rattle.archive_hash_maps.proofs.Lookups.{item_there, items_there}
use Rattle.archive_hash_maps.proofs.map.table.ArchivedHashTable.visit_seal_with.Goals as goal

pub search_table-requires-clause-callable : goal.search_table-requires-clause-callable
search_table-requires-clause-callable g c b is i d less =
    c.requires.callable (as_bor c.args.this.bytes) _ refl (items_there g.T.Portable.shape g.T.Portable.knows c.args.this.bytes.now c.args.this.pos c.requires.has b is i d less)

pub visit_own-requires-clause-within : goal.visit_own-requires-clause-within
visit_own-requires-clause-within g c =
    let s = g.T.Portable.shape in
    let says : ℕ → Bool → Type 0 = calls (goal.F-post g) c.args.accepts.now (as_bor c.args.this.bytes) in
    let there = item_there s g.T.Portable.knows c.args.this.bytes.now c.args.this.pos c.in-Some.at says c.requires.has (λ b is. subst (FindsAccepted says s b) c.in-Some.is (c.search_table.ensures.accepted b is)) in
    omega (arith, there.held.own_within, g.met.T.Portable.sized)

pub visit_own-requires-clause-callable : goal.visit_own-requires-clause-callable
visit_own-requires-clause-callable g c item lent =
    let s = g.T.Portable.shape in
    let says : ℕ → Bool → Type 0 = calls (goal.F-post g) c.args.accepts.now (as_bor c.args.this.bytes) in
    let there = item_there s g.T.Portable.knows c.args.this.bytes.now c.args.this.pos c.in-Some.at says c.requires.has (λ b is. subst (FindsAccepted says s b) c.in-Some.is (c.search_table.ensures.accepted b is)) in
    c.requires.visitable c.in-Some.at item there lent

pub returns : goal.returns
returns g c b is =
    let s = g.T.Portable.shape in
    let says : ℕ → Bool → Type 0 = calls (goal.F-post g) c.args.accepts.now (as_bor c.args.this.bytes) in
    let f = c.search_table.ensures in (
      as_bor c.args.this.bytes,
      Some c.in-Some.at,
      c.search_table.result.1,
      refl,
      record {
        position = Some c.in-Some.at;
        is = refl;
        looks_up = subst (λ o. LooksUp says s b c.args.hash o c.search_table.result.1) c.in-Some.is (f.answers b is);
        accepted = subst (FindsAccepted says s b) c.in-Some.is (f.accepted b is);
        only = subst (FindsTheOnly says s b c.args.hash) c.in-Some.is (f.findable b is);
        few = f.few b is;
      },
      (c.in-Some.at, refl, c.visit_own.ensures),
    )

pub returns-in_default : goal.returns-in_default
returns-in_default g c b is =
    let s = g.T.Portable.shape in
    let says : ℕ → Bool → Type 0 = calls (goal.F-post g) c.args.accepts.now (as_bor c.args.this.bytes) in
    let f = c.search_table.ensures in (
      as_bor c.args.this.bytes,
      None,
      c.search_table.result.1,
      refl,
      record {
        position = None;
        is = refl;
        looks_up = subst (λ o. LooksUp says s b c.args.hash o c.search_table.result.1) c.in_default.is (f.answers b is);
        accepted = subst (FindsAccepted says s b) c.in_default.is (f.accepted b is);
        only = subst (FindsTheOnly says s b c.args.hash) c.in_default.is (f.findable b is);
        few = f.few b is;
      },
      (refl, (refl, refl)),
    )
