use Rattle.std.proofs.Common.{sym, ◌∙◌, refl, subst, inl, inr}
use Rattle.cabinet_text_reading.specs.Seen.{AddsKey, has_key, seen_keys}
use Rattle.cabinet_text_reading.proofs.Found.{kept_key, lacks_unless_found, found_unless_lacks}
use Rattle.cabinet_text_reading.proofs.Wrong.{after_where_lacks, not_after_where_found}
use Rattle.cabinet_text_reading.proofs.stack.kept.KeptPairs.with_key.Goals as goal

pub returns-in-Ok-None-clause-fault : goal.returns-in-Ok-None-clause-fault
returns-in-Ok-None-clause-fault c =
    let bytes = c.args.argument.now in
    let ps = c.self.inside.pairs.items in
    let found = sym (c.self.invariant.1 bytes) ∙ subst (AddsKey (seen_keys c.self.inside.seen) bytes) c.in-Ok-None.field-0-is c.in-Ok-None.ensures.seen in
    rw (← c.self.view_is) (inl (refl, not_after_where_found ps bytes c.requires (found_unless_lacks bytes ps found)))

pub returns-in-Err-clause-fault : goal.returns-in-Err-clause-fault
returns-in-Err-clause-fault c =
    let bytes = c.args.argument.now in
    let ps = c.self.inside.pairs.items in
    rw (← c.self.view_is) (inr (refl, after_where_lacks ps bytes (lacks_unless_found bytes ps (sym (c.self.invariant.1 bytes) ∙ c.in-Err.ensures.memory))))

pub invariant_of-result : goal.invariant_of-result
invariant_of-result c =
    let old = c.self.inside in
    let seen = c.in-Ok-Some.seen in
    let added = subst (AddsKey (seen_keys old.seen) c.args.argument.now) c.in-Ok-Some.field-0-is c.in-Ok-Some.ensures.seen in
    (added.1, λ bytes. kept_key bytes c.args.argument.now (has_key bytes (seen_keys old.seen)) (has_key bytes (seen_keys seen)) old.pairs.items c.in-Ok.key c.in-Ok.ensures.text (c.self.invariant.1 bytes) (added.2 bytes))

pub returns-in-Ok-clause-after : goal.returns-in-Ok-clause-after
returns-in-Ok-clause-after c =
    let bytes = c.args.argument.now in
    let ps = c.self.inside.pairs.items in
    let added = subst (AddsKey (seen_keys c.self.inside.seen) bytes) c.in-Ok-Some.field-0-is c.in-Ok-Some.ensures.seen in
    let lacks = sym (c.self.invariant.1 bytes) ∙ added.0 in
    rw (← c.self.view_is) (after_where_lacks ps bytes (lacks_unless_found bytes ps lacks))

pub returns-clause-fault : goal.returns-clause-fault
returns-clause-fault c =
    let bytes = c.args.argument.now in
    let ps = c.self.inside.pairs.items in
    let added = subst (AddsKey (seen_keys c.self.inside.seen) bytes) c.in-Ok-Some.field-0-is c.in-Ok-Some.ensures.seen in
    let lacks = sym (c.self.invariant.1 bytes) ∙ added.0 in
    rw (← c.self.view_is) (inr (refl, after_where_lacks ps bytes (lacks_unless_found bytes ps lacks)))
