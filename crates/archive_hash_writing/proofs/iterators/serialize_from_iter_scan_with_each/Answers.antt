use Rattle.std.proofs.Common.{◌≡◌, ℕ, ◌∙◌, List, Err, arith, ap, refl, sym, subst, inl, inr, length, rules}
use Rattle.std.specs.Fn.{FnReturnsAt}
use Rattle.std.specs.List.{AllZip}
use Rattle.std.proofs.lemmas.Slice.Zip.{AllZip-long}
use Rattle.archive_shape_layout.specs.Writing.{WriterMembers}
use Rattle.archive_forms_laws.specs.Serializing.{Serializes}
use Rattle.archive_forms_writing.specs.Steps.{IsElement, StepTakes}
use Rattle.archive_hash_probing.specs.Loads.{IsLoadFactor}
use Rattle.archive_hash_writing.specs.Claimed.{written_spelling}
use Rattle.archive_hash_writing.proofs.iterators.serialize_from_iter_scan_with_each.Goals as goal

pub returns-in_err-items : goal.returns-in_err-items
returns-in_err-items g c =
    let failed : c.from_residual.result ≡ Err c.in_err-items.field-0.0 = search rules in
    rw failed
    (let load : IsLoadFactor c.args.load_factor = (omega arith, omega arith) in
    inr (load, inl (ap Err c.in_err-items.ensures, refl)))

pub returns-then-actual-len : goal.returns-then-actual-len
returns-then-actual-len g c =
    let load : IsLoadFactor c.args.load_factor = (omega arith, omega arith) in
    inr (load, inr (c.in_ok-items.items.items, c.in_ok-items.ensures, inr (search rules, search rules, refl)))

pub hash_items-requires : goal.hash_items-requires
hash_items-requires g c = λ x el.
    let P : List g.row.T.Denot → Type 0 = λ l. IsElement l x.now in
    c.requires.hashes _ _ c.in_ok-items.ensures.1 c.in_ok-items.ensures.2 x (subst P c.as_slice-items.ensures.value el)

pub returns-in_err-hashes : goal.returns-in_err-hashes
returns-in_err-hashes g c =
    let failed : c.from_residual-in_err-hashes.result ≡ Err c.in_err-hashes.field-0.0 = search rules in
    rw failed
    (let load : IsLoadFactor c.args.load_factor = (omega arith, omega arith) in
    inr (load, inl (ap Err c.in_err-hashes.ensures, refl)))

pub serialize_hashed-requires-clause-load : goal.serialize_hashed-requires-clause-load
serialize_hashed-requires-clause-load g c = (omega arith, omega arith)

pub serialize_hashed-requires-clause-even : goal.serialize_hashed-requires-clause-even
serialize_hashed-requires-clause-even g c = ap length c.as_slice-hashes.ensures.value ∙ AllZip-long _ _ _ c.in_ok-hashes.ensures

pub serialize_hashed-requires-clause-takes : goal.serialize_hashed-requires-clause-takes
serialize_hashed-requires-clause-takes g c =
    let s : WriterMembers g.row.S.Denot = record { known = g.S.Registry.known; pos = g.S.Positional.pos; OBSERVABLE = g.S.Writer.OBSERVABLE; COUNTS = g.S.Writer.COUNTS; contents = g.S.Writer.contents; failures = g.S.Writer.failures; last_error = g.S.Writer.last_error } in
    let P : List g.row.T.Denot → Type 0 = λ xs. StepTakes g.F.Fn s c.args.step xs in
    subst P (sym c.as_slice-items.ensures.value) (c.requires.takes _ _ c.in_ok-items.ensures.1 c.in_ok-items.ensures.2)

pub returns : goal.returns
returns g c =
    let s : WriterMembers g.row.S.Denot = record { known = g.S.Registry.known; pos = g.S.Positional.pos; OBSERVABLE = g.S.Writer.OBSERVABLE; COUNTS = g.S.Writer.COUNTS; contents = g.S.Writer.contents; failures = g.S.Writer.failures; last_error = g.S.Writer.last_error } in
    let load : IsLoadFactor c.args.load_factor = (omega arith, omega arith) in
    let is = c.as_slice-items.ensures.value in
    let hashes : g.row.T.Denot → ℕ → Type 0 = λ x h. FnReturnsAt g.H.Fn c.args.hash x h in
    let P : List g.row.T.Denot → Type 0 = λ xs. AllZip hashes xs c.as_slice-hashes.result.now in
    let Q : List g.row.T.Denot → Type 0 = λ xs. Serializes (written_spelling c.args.load_factor g.A.Archived.Portable.shape (g.A.ArchiveWith.spelling c.args.with.now) c.as_slice-hashes.result.now) s xs c.args.serializer.now c.serialize_hashed.new.serializer c.serialize_hashed.result in
    let beside = AllZip hashes c.as_slice-items.result.now in
    inr (load, inr (c.in_ok-items.items.items, c.in_ok-items.ensures, inl (search rules, c.as_slice-hashes.result.now, subst P is (subst beside (sym c.as_slice-hashes.ensures.value) c.in_ok-hashes.ensures), subst Q is c.serialize_hashed.ensures)))
