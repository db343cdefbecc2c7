use Rattle.std.specs.Hash as fed
use Rattle.std.specs.List.{fold}
use Rattle.std.proofs.Common.{ℕ, List, ◌∙◌, sym, ap, ap₂}
use Rattle.archive_forms_laws.specs.Orders.{Equality, Hashed}
use Rattle.archive_forms_tests.proofs.comparing.by_parts.hashed_alike.Goals as goal

pub returns-clause-hashed : goal.returns-clause-hashed
returns-clause-hashed g c = λ v here. c.hash.ensures v here ∙ ap (λ (F : Hashed). fold g.H.Hasher.write c.args.first.now (F v)) c.labelled_are_hashed_by_parts.ensures

pub returns-clause-alike : goal.returns-clause-alike
returns-clause-alike g c = λ same is.
    let this = c.requires.this in
    let other = c.requires.other in
    let laws = c.equal_values_are_hashed_alike.ensures in
    let alike = laws.options _ _ (laws.tuples _ _ (laws.more_fields _ _ _ _ (laws.naturals fed.u32) (laws.more_fields _ _ _ _ laws.texts laws.no_fields))) in
    let equal = sym (c.eq.ensures this.value other.value this.held other.held ∙ ap (λ (E : Equality). E this.value other.value) c.labelled_are_equal_by_parts.ensures) ∙ is in
    let one = c.hash.ensures this.value this.held ∙ ap (λ (F : Hashed). fold g.H.Hasher.write c.args.first.now (F this.value)) c.labelled_are_hashed_by_parts.ensures in
    let two = c.hash-2.ensures other.value other.held ∙ ap (λ (F : Hashed). fold g.H.Hasher.write c.args.second.now (F other.value)) c.labelled_are_hashed_by_parts.ensures in
    one ∙ ap₂ (λ h (ws : List (List ℕ)). fold g.H.Hasher.write h ws) same (alike.fed this.value other.value equal) ∙ sym two
