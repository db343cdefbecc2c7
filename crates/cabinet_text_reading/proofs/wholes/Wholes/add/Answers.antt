use Rattle.std.proofs.Common.{ℕ, Bor, List, [], ◌∷◌, ◌-◌, ap, ◌∙◌, sym, subst, arith}
use Rattle.std.specs.List.{list_any}
use Rattle.std.specs.Str.{bytes_eq}
use Rattle.cabinet_text_grammar.specs.Completing.{texts_of}
use Rattle.cabinet_text_nodes.specs.Faults.{AreDepths}
use Rattle.cabinet_text_nodes.specs.View.{node_tree, table_of}
use Rattle.cabinet_text_reading.specs.Wholes.{table_in}
use Rattle.cabinet_text_nodes.proofs.Added.{table_of-push, texts_more, depths_more}
use Rattle.cabinet_text_reading.proofs.wholes.Wholes.add.Goals as goal

pub returns-clause-reading : goal.returns-clause-reading
returns-clause-reading c =
    let table = ap table_of c.in_ok-push.ensures.items ∙ table_of-push c.args.self.now.entries.items c.args.tree in
    ap (λ t. record { lacking = c.args.self.now.lacking - 1; table = t; stack = [] }) table

pub returns-clause-known : goal.returns-clause-known
returns-clause-known c known legal deep same =
    let old = table_in c.args.self.now in
    let t = node_tree old c.args.tree in
    let table = ap table_of c.in_ok-push.ensures.items ∙ table_of-push c.args.self.now.entries.items c.args.tree in
    let depths = c.in_ok-push-2.ensures.items in
    let keys = c.in_ok-insert.ensures.keys in
    record {
      depths = subst (λ w. AreDepths w c.push-2.new.self.items) (sym table) (subst (AreDepths (t ∷ old)) (sym depths) (depths_more old t c.args.self.now.depths.items c.depth_of-depth.result known.depths (c.depth_of-depth.ensures old (subst (AreDepths old) (sym c.as_slice.ensures.value) known.depths) (omega (arith, deep)))));
      texts = λ bytes. ap (λ ks. list_any (λ k. bytes_eq k.now bytes) ks) keys ∙ texts_more (λ (k : Bor (List ℕ)). k.now) old t c.args.self.now.texts.keys c.args.lines known.texts same bytes ∙ ap (λ w. list_any (λ x. bytes_eq x bytes) (texts_of w)) (sym table);
    }
