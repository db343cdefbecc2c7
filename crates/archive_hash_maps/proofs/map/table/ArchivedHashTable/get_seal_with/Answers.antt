use denote.MutBor.{as_bor}
use Rattle.std.proofs.Common.{ℕ, Bool, Some, None, refl, ap, sym, subst}
use Rattle.archive_forms_values.specs.Parts.{HasValue}
use Rattle.archive_hash_maps.specs.Places.{LooksUp, FindsAccepted, FindsTheOnly, calls}
use Rattle.archive_hash_maps.proofs.Lookups.{item_there, items_there}
use Rattle.archive_hash_maps.proofs.map.table.ArchivedHashTable.get_seal_with.Goals as goal

pub search_table-requires-clause-callable : goal.search_table-requires-clause-callable
search_table-requires-clause-callable g c b is i d less =
    c.requires.callable (as_bor c.args.this.bytes) _ refl (items_there g.T.Portable.shape g.T.Portable.knows c.args.this.bytes.now c.args.this.pos c.requires.has b is i d less)

pub returns-in-Some-clause-there : goal.returns-in-Some-clause-there
returns-in-Some-clause-there g c =
    let s = g.T.Portable.shape in
    let says : ℕ → Bool → Type 0 = calls (goal.F-post g) c.args.accepts.now (as_bor c.args.this.bytes) in
    let there =
    item_there s g.T.Portable.knows c.args.this.bytes.now c.args.this.pos c.in-Some.at says c.requires.has
    (λ b is. subst (FindsAccepted says s b) c.in-Some.is (c.search_table.ensures.accepted b is))
    in
    subst (λ bs. HasValue s g.T.Portable.knows bs c.new.result.pos) (sym c.new.ensures.bytes) (subst (HasValue s g.T.Portable.knows c.args.this.bytes.now) (sym c.new.ensures.pos) there)

pub returns-in-Some-clause-answers : goal.returns-in-Some-clause-answers
returns-in-Some-clause-answers g c b is =
    let s = g.T.Portable.shape in
    let says : ℕ → Bool → Type 0 = calls (goal.F-post g) c.args.accepts.now (as_bor c.args.this.bytes) in
    let f = c.search_table.ensures in (
      as_bor c.args.this.bytes,
      c.search_table.result.1,
      refl,
      record {
        position = Some c.in-Some.at;
        is = ap Some c.new.ensures.pos;
        looks_up = subst (λ o. LooksUp says s b c.args.hash o c.search_table.result.1) c.in-Some.is (f.answers b is);
        accepted = subst (FindsAccepted says s b) c.in-Some.is (f.accepted b is);
        only = subst (FindsTheOnly says s b c.args.hash) c.in-Some.is (f.findable b is);
        few = f.few b is;
      },
    )

pub returns-in-None-clause-answers : goal.returns-in-None-clause-answers
returns-in-None-clause-answers g c b is =
    let s = g.T.Portable.shape in
    let says : ℕ → Bool → Type 0 = calls (goal.F-post g) c.args.accepts.now (as_bor c.args.this.bytes) in
    let f = c.search_table.ensures in (
      as_bor c.args.this.bytes,
      c.search_table.result.1,
      refl,
      record {
        position = None;
        is = refl;
        looks_up = subst (λ o. LooksUp says s b c.args.hash o c.search_table.result.1) c.in-None.is (f.answers b is);
        accepted = subst (FindsAccepted says s b) c.in-None.is (f.accepted b is);
        only = subst (FindsTheOnly says s b c.args.hash) c.in-None.is (f.findable b is);
        few = f.few b is;
      },
    )
