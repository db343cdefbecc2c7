use Rattle.std.proofs.Common.{rules, ◌≡◌, Err, ◌∙◌, ℕ, List, arith, ap, sym, subst, inl, length}
use Rattle.std.proofs.lemmas.Slice.Zip.{AllZip-long}
use Rattle.archive_shape_layout.specs.Writing.{WriterMembers}
use Rattle.archive_forms_values.specs.Tuples.{tuple2}
use Rattle.archive_forms_laws.specs.Fields.{tuple2_spelling}
use Rattle.archive_forms_laws.specs.Serializing.{Serializes, of_data}
use Rattle.archive_forms_writing.proofs.Laying.{stopped_before}
use Rattle.archive_hash_probing.specs.Inputs.{input_hash}
use Rattle.archive_hash_writing.specs.IndexResolvers.{pairs_spelling, written_map}
use Rattle.archive_index.proofs.TableAndEntries.{hashes_computed}
use Rattle.archive_index.proofs.writing.entries.serialize_pairs_each.Goals as goal

pub returns-in_err-hashes : goal.returns-in_err-hashes
returns-in_err-hashes g c =
    let failed : c.from_residual.result ≡ Err c.in_err-hashes.field-0.0 = search rules in
    rw failed
    (λ st at.
    let s : WriterMembers g.row.S.Denot = record { known = g.S.Registry.known; pos = g.S.Positional.pos; OBSERVABLE = g.S.Writer.OBSERVABLE; COUNTS = g.S.Writer.COUNTS; contents = g.S.Writer.contents; failures = g.S.Writer.failures; last_error = g.S.Writer.last_error } in
    let spelled = pairs_spelling (λ x. input_hash (g.K.Hash.hash_input x)) g.K.Archived.Portable.shape g.A.Archived.Portable.shape g.K.Archive.spelling (g.A.ArchiveWith.spelling c.args.with.now) in
    stopped_before (of_data s) c.args.serializer.now (spelled.piece c.args.entries.now st) (spelled.piece_refused c.args.entries.now st) _ (inl c.in_err-hashes.ensures))

pub serialize_hashed_map-requires-clause-load : goal.serialize_hashed_map-requires-clause-load
serialize_hashed_map-requires-clause-load g c = (omega arith, omega arith)

pub serialize_hashed_map-requires-clause-even : goal.serialize_hashed_map-requires-clause-even
serialize_hashed_map-requires-clause-even g c = ap length c.as_slice-hashes.ensures.value ∙ AllZip-long _ _ _ c.in_ok-hashes.ensures

pub serialize_hashed_map-requires-clause-takes : goal.serialize_hashed_map-requires-clause-takes
serialize_hashed_map-requires-clause-takes g c = λ x t el room state.
    (subst (g.C.EntryStep.takes c.args.step.now c.args.with.now) (sym el.2) (c.requires.takes el.0 x.now el.1), (room, state))

pub returns : goal.returns
returns g c =
    let s : WriterMembers g.row.S.Denot = record { known = g.S.Registry.known; pos = g.S.Positional.pos; OBSERVABLE = g.S.Writer.OBSERVABLE; COUNTS = g.S.Writer.COUNTS; contents = g.S.Writer.contents; failures = g.S.Writer.failures; last_error = g.S.Writer.last_error } in
    let k = g.K.Archived.Portable.shape in
    let v = g.A.Archived.Portable.shape in
    let w = tuple2_spelling k g.K.Archive.spelling v (g.A.ArchiveWith.spelling c.args.with.now) in
    let old = c.args.serializer.now in
    let hash : g.row.K.Denot × g.row.V.Denot → ℕ = λ e. input_hash (g.K.Hash.hash_input e.0) in
    let computed = hashes_computed _ hash (λ e h says. says.says.met ∙ ap (λ x. input_hash (g.K.Hash.hash_input x.0)) says.shows) c.args.entries.now c.in_ok-hashes.hashes.items c.in_ok-hashes.ensures in
    let P : List ℕ → Type 0 = λ hs. Serializes (written_map (7, 8) (tuple2 k v) w hs) s c.args.entries.now old c.serialize_hashed_map.new.serializer c.serialize_hashed_map.result in
    subst P (c.as_slice-hashes.ensures.value ∙ computed) c.serialize_hashed_map.ensures
