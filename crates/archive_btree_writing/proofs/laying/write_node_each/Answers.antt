use Rattle.std.proofs.Common.{rules, ◌≡◌, arith, ◌<◌, ◌≤◌, ◌+◌, List, sym, ap, ◌∙◌, ◌∷◌, [], ◌++◌, subst, length, length-set, take, Err, refl, inl}
use Rattle.std.proofs.lemmas.List.{length-replicate}
use Rattle.archive_shape_layout.specs.Writing.{WriterMembers}
use Rattle.archive_forms_writing.proofs.Loops.{Reached, next_of, none_left, reached_first, first_stopped, reached_next, reached_stopped, reached_all}
use Rattle.archive_forms_writing.proofs.Arrays.{take_set, take_one}
use Rattle.archive_btree_writing.specs.Nodes.{borrowed, borrowed_entry, node_of}
use Rattle.archive_forms_laws.specs.Serializing.{of_data}
use Rattle.archive_forms_writing.proofs.Laying.{stopped_before}
use Rattle.archive_btree_writing.proofs.Sizes.{few_fit, few_within}
use Rattle.archive_btree_writing.proofs.Placing.{Behind, data_stopped, node_laid}
use Rattle.archive_btree_writing.proofs.Viewed.{lays_seen}
use Rattle.archive_btree_writing.proofs.laying.write_node_each.Goals as goal

pub returns-in_err-first : goal.returns-in_err-first
returns-in_err-first g c =
    let some : 0 < length c.args.entries.now = c.requires.some in
    let w = borrowed_entry g.row.E g.K.Archived.Portable.shape g.A.Archived.Portable.shape g.K.Archive.spelling (g.A.ArchiveWith.spelling c.args.with.now) in
    let e = next_of c.args.entries.now 0 _ some c.index-entries-0.is in
    let k = g.K.Archived.Portable.shape in
    let v = g.A.Archived.Portable.shape in
    let keys = borrowed g.K.Archive.spelling in
    let vals = borrowed (g.A.ArchiveWith.spelling c.args.with.now) in
    let n = node_of c.args.children c.args.entries.now in
    let old = c.args.serializer.now in
    let new = c.serialize_entry.new.serializer in
    let s : WriterMembers g.row.S.Denot = record { known = g.S.Registry.known; pos = g.S.Positional.pos; OBSERVABLE = g.S.Writer.OBSERVABLE; COUNTS = g.S.Writer.COUNTS; contents = g.S.Writer.contents; failures = g.S.Writer.failures; last_error = g.S.Writer.last_error } in
    let failed : c.from_residual.result ≡ Err c.in_err-first.field-0.0 = search rules in
    rw failed
    (lays_seen g.row.E k v (λ b. b.now) (λ b. b.now) g.K.Archive.spelling (g.A.ArchiveWith.spelling c.args.with.now) s n old new (Err c.in_err-first.field-0.0)
    (λ st at. data_stopped g.row.E k v keys vals s n st old new c.in_err-first.field-0.0 (first_stopped w s c.args.entries.now _ st _ _ _ e at (c.in_err-first.ensures st at))))

pub loop-i-init : goal.loop-i-init
loop-i-init g c =
    let some : 0 < length c.args.entries.now = c.requires.some in
    let more : 0 < g.row.E = omega (arith, some, c.requires.few) in
    let w = borrowed_entry g.row.E g.K.Archived.Portable.shape g.A.Archived.Portable.shape g.K.Archive.spelling (g.A.ArchiveWith.spelling c.args.with.now) in
    let e = next_of c.args.entries.now 0 _ some c.index-entries-0.is in
    let s : WriterMembers g.row.S.Denot = record { known = g.S.Registry.known; pos = g.S.Positional.pos; OBSERVABLE = g.S.Writer.OBSERVABLE; COUNTS = g.S.Writer.COUNTS; contents = g.S.Writer.contents; failures = g.S.Writer.failures; last_error = g.S.Writer.last_error } in
    record {
      whole = length-replicate g.row.E c.in_ok-first.first;
      within = some;
      reached = λ st at.
          let P : List (g.row.K-Resolver.Denot × g.row.A-Resolver.Denot) → Type 0 = λ l. Reached w s c.args.entries.now c.args.serializer.now st 1 c.serialize_entry.new.serializer l in
          let l = c.in_ok-first.ensures st at in
          let z = reached_first w s c.args.entries.now _ st _ _ e at l.0 l.1.1 l.1.2 in
          subst P (sym (take_one g.row.E c.in_ok-first.first more ∙ ap (λ q. q ∷ []) l.1.0)) z;
    }

pub serialize_entry-requires-in-loop-i-clause-room : goal.serialize_entry-requires-in-loop-i-clause-room
serialize_entry-requires-in-loop-i-clause-room g c =
    let r = c.loop-i.invariant.reached c.requires.state.state c.requires.state.is_at in omega (arith, r.wrote.is_quiet, c.requires.room)

pub serialize_entry-requires-in-loop-i-clause-state : goal.serialize_entry-requires-in-loop-i-clause-state
serialize_entry-requires-in-loop-i-clause-state g c =
    let r = c.loop-i.invariant.reached c.requires.state.state c.requires.state.is_at in record { state = r.left; is_at = r.is_at }

pub returns-in_err-kept : goal.returns-in_err-kept
returns-in_err-kept g c =
    let less : c.loop-i.i < length c.args.entries.now = c.loop-i-test.true in
    let k = g.K.Archived.Portable.shape in
    let v = g.A.Archived.Portable.shape in
    let keys = borrowed g.K.Archive.spelling in
    let vals = borrowed (g.A.ArchiveWith.spelling c.args.with.now) in
    let n = node_of c.args.children c.args.entries.now in
    let old = c.args.serializer.now in
    let new = c.serialize_entry-in-loop-i.new.serializer in
    let s : WriterMembers g.row.S.Denot = record { known = g.S.Registry.known; pos = g.S.Positional.pos; OBSERVABLE = g.S.Writer.OBSERVABLE; COUNTS = g.S.Writer.COUNTS; contents = g.S.Writer.contents; failures = g.S.Writer.failures; last_error = g.S.Writer.last_error } in
    let failed : c.from_residual-in_err-kept.result ≡ Err c.in_err-kept.field-0.0 = search rules in
    rw failed
    (lays_seen g.row.E k v (λ b. b.now) (λ b. b.now) g.K.Archive.spelling (g.A.ArchiveWith.spelling c.args.with.now) s n old new (Err c.in_err-kept.field-0.0)
    (λ st at.
    let r = c.loop-i.invariant.reached st at in
    data_stopped g.row.E k v keys vals s n st old new c.in_err-kept.field-0.0
    (reached_stopped _ _ _ _ _ c.loop-i.i _ _ _ _ _ (next_of c.args.entries.now c.loop-i.i _ less c.index-entries-i.is) r (c.in_err-kept.ensures r.left r.is_at))))

pub loop-i-preserved : goal.loop-i-preserved
loop-i-preserved g c =
    let less : c.loop-i.i < length c.args.entries.now = c.loop-i-test.true in
    let inside : c.loop-i.i < length c.loop-i.kept = omega (arith, c.loop-i-test.true, c.loop-i.invariant.whole, c.requires.few) in
    let w = borrowed_entry g.row.E g.K.Archived.Portable.shape g.A.Archived.Portable.shape g.K.Archive.spelling (g.A.ArchiveWith.spelling c.args.with.now) in
    let s : WriterMembers g.row.S.Denot = record { known = g.S.Registry.known; pos = g.S.Positional.pos; OBSERVABLE = g.S.Writer.OBSERVABLE; COUNTS = g.S.Writer.COUNTS; contents = g.S.Writer.contents; failures = g.S.Writer.failures; last_error = g.S.Writer.last_error } in
    let e = next_of c.args.entries.now c.loop-i.i _ less c.index-entries-i.is in
    let before = take c.loop-i.i c.loop-i.kept in
    record {
      whole = length-set _ _ _ ∙ c.loop-i.invariant.whole;
      within = omega (arith, less);
      reached = λ st at.
          let P : List (g.row.K-Resolver.Denot × g.row.A-Resolver.Denot) → Type 0 = λ l. Reached w s c.args.entries.now c.args.serializer.now st (c.loop-i.i + 1) c.serialize_entry-in-loop-i.new.serializer l in
          let r = c.loop-i.invariant.reached st at in
          let l = c.in_ok-kept.ensures r.left r.is_at in
          let z = reached_next _ _ _ _ _ c.loop-i.i _ _ _ _ e r l.0 l.1.1 l.1.2 in
          subst P (sym (take_set c.loop-i.kept c.loop-i.i c.in_ok-kept.field-0 inside ∙ ap (λ q. before ++ (q ∷ [])) l.1.0)) z;
    }

pub write_behind-requires-clause-room : goal.write_behind-requires-clause-room
write_behind-requires-clause-room g c =
    let r = c.loop-i.invariant.reached c.requires.state.state c.requires.state.is_at in omega (arith, r.wrote.is_quiet, c.requires.room)

pub write_behind-requires-clause-made : goal.write_behind-requires-clause-made
write_behind-requires-clause-made g c =
    let end : length c.args.entries.now ≤ c.loop-i.i = c.loop-i-test.false in
    let all = reached_all _ _ _ _ _ c.loop-i.i _ _ (none_left _ _ end) (c.loop-i.invariant.reached c.requires.state.state c.requires.state.is_at) in
    let counted : length c.args.entries.now ≡ c.loop-i.i = omega (arith, end, c.loop-i.invariant.within) in
    (c.requires.state.state, ap (λ n. take n c.loop-i.kept) counted ∙ all.kept_is)

pub returns : goal.returns
returns g c =
    let end : length c.args.entries.now ≤ c.loop-i.i = c.loop-i-test.false in
    let counted : length c.args.entries.now ≡ c.loop-i.i = omega (arith, end, c.loop-i.invariant.within) in
    let k = g.K.Archived.Portable.shape in
    let v = g.A.Archived.Portable.shape in
    let keys = borrowed g.K.Archive.spelling in
    let vals = borrowed (g.A.ArchiveWith.spelling c.args.with.now) in
    let n = node_of c.args.children c.args.entries.now in
    let old = c.args.serializer.now in
    let mid = c.loop-i.serializer in
    let new = c.write_behind.new.serializer in
    let s : WriterMembers g.row.S.Denot = record { known = g.S.Registry.known; pos = g.S.Positional.pos; OBSERVABLE = g.S.Writer.OBSERVABLE; COUNTS = g.S.Writer.COUNTS; contents = g.S.Writer.contents; failures = g.S.Writer.failures; last_error = g.S.Writer.last_error } in
    lays_seen g.row.E k v (λ b. b.now) (λ b. b.now) g.K.Archive.spelling (g.A.ArchiveWith.spelling c.args.with.now) s n old new c.write_behind.result
    (λ st at.
    let all = reached_all _ _ _ _ _ c.loop-i.i _ _ (none_left _ _ end) (c.loop-i.invariant.reached st at) in
    let made = ap (λ n. take n c.loop-i.kept) counted ∙ all.kept_is in
    let written : Behind g.row.E k v keys vals s n st old mid = record { wrote = all.wrote; fits = all.fits; is_at = all.is_at } in
    node_laid g.row.E k v keys vals s n st old mid new c.write_behind.result at written (c.write_behind.ensures st made))

pub returns-then-size_of_val-gt-LARGEST : goal.returns-then-size_of_val-gt-LARGEST
returns-then-size_of_val-gt-LARGEST g c = λ st at.
    let s : WriterMembers g.row.S.Denot = record { known = g.S.Registry.known; pos = g.S.Positional.pos; OBSERVABLE = g.S.Writer.OBSERVABLE; COUNTS = g.S.Writer.COUNTS; contents = g.S.Writer.contents; failures = g.S.Writer.failures; last_error = g.S.Writer.last_error } in
    stopped_before (of_data s) c.args.serializer.now _ _ _ (inl refl)

pub offset_bounds-kept-i : goal.offset_bounds-kept-i
offset_bounds-kept-i g c =
    let fits = few_fit g.row.E _ _ _ _ c.size_of_val.ensures c.if-size_of_val-gt-LARGEST.false c.requires.small in
    let inside : c.loop-i.i ≤ g.row.E = omega (arith, c.loop-i-test.true, c.requires.few) in
    let within = few_within c.loop-i.i g.row.E _ _ inside fits in
    omega (arith, within)

pub shared_whole_as_slice-kept : goal.shared_whole_as_slice-kept
shared_whole_as_slice-kept g c = few_fit g.row.E _ _ _ _ c.size_of_val.ensures c.if-size_of_val-gt-LARGEST.false c.requires.small
