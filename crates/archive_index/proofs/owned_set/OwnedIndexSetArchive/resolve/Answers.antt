use Rattle.std.proofs.Common.{rules, ◌≡◌, ◌∙◌, length, sym, arith}
use Rattle.std.proofs.lemmas.List.{length-map}
use Rattle.archive_forms_laws.specs.Fields.{unit_spelling}
use Rattle.archive_hash_probing.specs.Inputs.{input_hash}
use Rattle.archive_hash.specs.Owned.{key_entries}
use Rattle.archive_index.specs.Sets.{unit_shape}
use Rattle.archive_index.proofs.Resolved.{pairs_resolve}
use Rattle.archive_index.proofs.owned_set.OwnedIndexSetArchive.resolve.Goals as goal

pub returns : goal.returns
returns g c =
    let keys = c.args.self.now.keys in
    let len : c.len.result ≡ length keys.items = omega (arith, c.len.ensures, keys.ok) in
    pairs_resolve (λ k. input_hash (g.K.Hash.hash_input k)) g.K.Archived.Portable.shape unit_shape g.K.Archive.spelling unit_spelling (key_entries keys.items) c.args.resolver c.len.result c.args.out.pos c.args.out.start c.args.out.out.now _ c.requires.room c.resolve_from_len.result
    (len ∙ sym (length-map keys.items (λ k. (k, tt)))) (search rules)
