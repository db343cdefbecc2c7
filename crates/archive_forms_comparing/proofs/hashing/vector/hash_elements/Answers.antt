use Rattle.std.proofs.Common.{◌≡◌, ◌∙◌, sym, ap, length, arith}
use Rattle.std.specs.List.{fold, flat_map}
use Rattle.archive_forms_laws.specs.Views.{elements_of}
use Rattle.archive_forms_comparing.proofs.Elements.{elements_counted}
use Rattle.archive_forms_comparing.proofs.Hashed.{length_hashed, none_left}
use Rattle.archive_forms_comparing.proofs.hashing.vector.hash_elements.Goals as goal

pub loop-index-init : goal.loop-index-init
loop-index-init g c = record {
  rest = λ v h. length_hashed g.H.Hasher.write g.T.ArchivedHash.hashed _ _ c.len.result (elements_of v) (elements_counted h ∙ sym c.len.ensures) c.write_usize.ensures;
}

pub returns : goal.returns
returns g c = λ v h.
    let counted = elements_counted h in
    let ends : length (elements_of v) ≡ c.loop-index.index =
    omega (arith, counted, c.loop-index.auto.index-end, c.loop-index-test.false, c.len-index-end.ensures) in
    sym (ap (λ l. fold g.H.Hasher.write c.loop-index.state (flat_map g.T.ArchivedHash.hashed l)) (none_left (elements_of v) c.loop-index.index ends))
    ∙ c.loop-index.invariant.rest v h
