-- The documents of new archives.
use Rattle.std.proofs.Common.{◌≡◌, [], refl, sym, subst, arith}
use Rattle.cabinet_text_grammar.specs.Tree.{Tree}
use Rattle.cabinet_text_grammar.specs.Wholes.{wholes_of, IsDocument}
use Rattle.cab_files.specs.Editing.{root_tree}
use Rattle.cab_files.specs.declared.editing.command.NewRoot.{NewRoot}
use Rattle.cab_files.specs.declared.editing.command.NewRoot.TheVariants as root

document : (r : NewRoot) → IsDocument (root_tree r)
document root.List = ((tt, omega arith), omega arith, omega arith)
document root.Ordered = ((tt, omega arith), omega arith, omega arith)
document root.Hashed = ((tt, omega arith), omega arith, omega arith)
document root.Kept = ((tt, omega arith), omega arith, omega arith)
document root.Nothing = (tt, omega arith, omega arith)

without_wholes : (r : NewRoot) → wholes_of (root_tree r) ≡ []
without_wholes root.List = refl
without_wholes root.Ordered = refl
without_wholes root.Hashed = refl
without_wholes root.Kept = refl
without_wholes root.Nothing = refl

-- the tree of a new root is a document
pub new_document : (r : NewRoot) (t : Tree) → t ≡ root_tree r → IsDocument t
new_document r t is = subst IsDocument (sym is) (document r)

-- and has no wholes
pub new_has_no_wholes : (r : NewRoot) (t : Tree) → t ≡ root_tree r → wholes_of t ≡ []
new_has_no_wholes r t is = subst (λ u. wholes_of u ≡ []) (sym is) (without_wholes r)
