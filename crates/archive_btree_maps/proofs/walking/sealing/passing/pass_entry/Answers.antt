use Rattle.std.proofs.Common.{◌+◌, ◌≤◌, [], length, refl, take, arith}
use Rattle.archive_shape_layout.specs.Shape.{size_of}
use Rattle.archive_btree_layout.specs.Tree.{items}
use Rattle.archive_btree_maps.specs.SearchingNodes.{place_of}
use Rattle.archive_btree_maps.proofs.Ranged.{no_run}
use Rattle.archive_forms_comparing.proofs.Seen.{option_matched}
use Rattle.archive_forms_values.specs.Parts.{HasValue}
use Rattle.archive_btree_maps.proofs.Sealed.{walk_goes_on, rest_among, first_among, keys_before, values_within, matched_some}
use Rattle.archive_btree_maps.proofs.walking.sealing.passing.pass_entry.Goals as goal

pub returns-clause-there : goal.returns-clause-there
returns-clause-there g c =
    let r = c.requires in
    let m = r.1 in
    let w = r.3.left c.args.bytes.now r.4 in
    let k = g.K.Portable.shape in
    let v = g.V.Portable.shape in
    let knows = g.K.Portable.knows in
    matched_some _ c.step.result (c.step.ensures w.layout w.root r.2 w.left) (λ e p.
    let own = first_among m (place_of e) r.2 p.0 p.1 r.3.among (λ p. p.value + size_of v ≤ length m.bytes) (values_within r.0 k v knows g.V.Portable.knows m.bytes m.pos m.has m.search_tree m.map) in (
      first_among m (place_of e) r.2 p.0 p.1 r.3.among (λ p. HasValue k knows (take p.value c.args.bytes.now) p.key)
          (keys_before r.0 k v knows g.V.Portable.knows m.bytes m.pos m.has m.search_tree m.map c.args.bytes.now r.4),
      omega (arith, own, r.4.same_length, g.met.V.Portable.sized),
    ))

pub returns-clause-steps : goal.returns-clause-steps
returns-clause-steps g c most m es goes written =
    let w = goes.left c.args.bytes.now written in
    option_matched _ _ _ _ c.step.result
    (λ p. (p.0, walk_goes_on m c.args.bytes.now written c.step.new.self [] (no_run [] (items m.search_tree) refl) (record { layout = w.layout; root = w.root; leads = w.leads; left = p.1 })))
    (λ e p. (
      p.0,
      p.1,
      walk_goes_on m c.args.bytes.now written c.step.new.self p.0 (rest_among m (place_of e) es p.0 p.1 goes.among) (record { layout = w.layout; root = w.root; leads = w.leads; left = p.2 }),
    ))
    (c.step.ensures w.layout w.root es w.left)
