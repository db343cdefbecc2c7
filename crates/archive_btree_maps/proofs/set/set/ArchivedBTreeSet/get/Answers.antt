use Rattle.std.proofs.Common.{Some, None, ap}
use Rattle.archive_btree_layout.specs.Descent.{descend}
use Rattle.archive_btree_maps.proofs.Found.{key_found}
use Rattle.archive_btree_maps.proofs.set.set.ArchivedBTreeSet.get.Goals as goal

pub returns-in-Some-clause-found : goal.returns-in-Some-clause-found
returns-in-Some-clause-found g c t h =
    let found = simp c.as_map.ensures at c.in-Some.ensures.found in
    let f = found t h in
    (f.0, f.1, f.2, ap (λ e. e.0) f.3)

pub returns-in-Some-clause-answers : goal.returns-in-Some-clause-answers
returns-in-Some-clause-answers g c t order h q =
    let answers = simp c.as_map.ensures at c.in-Some.ensures.answers in
    key_found c.args.this.bytes (Some (c.in-Some.key, c.in-Some.field-0-1)) (descend order t) (answers t order h q)

pub returns-in-None-clause-answers : goal.returns-in-None-clause-answers
returns-in-None-clause-answers g c t order h q =
    let answers = simp c.as_map.ensures at c.in-None.ensures.answers in
    key_found c.args.this.bytes None (descend order t) (answers t order h q)

pub returns-in-Some-clause-looks_up : goal.returns-in-Some-clause-looks_up
returns-in-Some-clause-looks_up g c t h =
    let looks_up = simp c.as_map.ensures at c.in-Some.ensures.looks_up in
    let look = looks_up t h in
    (look.0, look.1, key_found c.args.this.bytes (Some (c.in-Some.key, c.in-Some.field-0-1)) look.0 look.2)

pub returns-in-None-clause-looks_up : goal.returns-in-None-clause-looks_up
returns-in-None-clause-looks_up g c t h =
    let looks_up = simp c.as_map.ensures at c.in-None.ensures.looks_up in
    let look = looks_up t h in
    (look.0, look.1, key_found c.args.this.bytes None look.0 look.2)
