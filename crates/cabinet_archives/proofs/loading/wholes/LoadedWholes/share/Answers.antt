use Rattle.std.proofs.Common.{◌<◌, ◌^◌, [], length, sym, ◌∙◌, arith}
use Rattle.cabinet_text_nodes.specs.View.{node_tree}
use Rattle.cabinet_text_nodes.proofs.Entries.{legal_known, length_after}
use Rattle.cabinet_archives.specs.Loading.{loaded_table}
use Rattle.cabinet_archives.proofs.LoadedWholes.{shared_found, shared_table, shared_number, shared_wholes, table_again}
use Rattle.cabinet_archives.proofs.loading.wholes.LoadedWholes.share.Goals as goal

pub returns-in-Some-clause-number : goal.returns-in-Some-clause-number
returns-in-Some-clause-number c = λ bytes are.
    let table = loaded_table c.args.self.now in
    let known = legal_known table c.args.node c.requires.legal in
    let text = c.in-Ok.ensures table are.table known in
    let few : length table < 2 ^ 64 = omega (arith, c.args.self.now.nodes.small, length_after [] c.args.self.now.nodes.items) in
    shared_found bytes c.args.self.now are few c.args.node c.requires.legal c.in-Ok.text text c.in-Some.number.now (sym c.in-Some.ensures.value)

pub returns-in-Some-clause-table : goal.returns-in-Some-clause-table
returns-in-Some-clause-table c = λ bytes are.
    let table = loaded_table c.args.self.now in
    let known = legal_known table c.args.node c.requires.legal in
    let text = c.in-Ok.ensures table are.table known in
    let few : length table < 2 ^ 64 = omega (arith, c.args.self.now.nodes.small, length_after [] c.args.self.now.nodes.items) in
    table_again table (node_tree table c.args.node) c.in-Some.number.now (shared_found bytes c.args.self.now are few c.args.node c.requires.legal c.in-Ok.text text c.in-Some.number.now (sym c.in-Some.ensures.value))

pub returns-clause-number : goal.returns-clause-number
returns-clause-number c = λ bytes are.
    let table = loaded_table c.args.self.now in
    let known = legal_known table c.args.node c.requires.legal in
    let text = c.in-Ok.ensures table are.table known in
    let few : length table < 2 ^ 64 = omega (arith, c.args.self.now.nodes.small, length_after [] c.args.self.now.nodes.items) in
    shared_number bytes c.args.self.now are few c.args.node c.requires.legal c.in-Ok.text text (sym c.in_default-get.ensures.value) c.requires.low c.insert.new.self c.len-number.result (c.len-number.ensures ∙ c.args.self.now.nodes.ok.0) c.in_ok-insert.ensures.updates c.push.new.self c.in_ok-push.ensures.items

pub returns-clause-table : goal.returns-clause-table
returns-clause-table c = λ bytes are.
    let table = loaded_table c.args.self.now in
    let known = legal_known table c.args.node c.requires.legal in
    let text = c.in-Ok.ensures table are.table known in
    let few : length table < 2 ^ 64 = omega (arith, c.args.self.now.nodes.small, length_after [] c.args.self.now.nodes.items) in
    shared_table bytes c.args.self.now are few c.args.node c.requires.legal c.in-Ok.text text (sym c.in_default-get.ensures.value) c.requires.low c.insert.new.self c.len-number.result (c.len-number.ensures ∙ c.args.self.now.nodes.ok.0) c.in_ok-insert.ensures.updates c.push.new.self c.in_ok-push.ensures.items

pub returns-clause-knows : goal.returns-clause-knows
returns-clause-knows c = λ bytes are.
    let table = loaded_table c.args.self.now in
    let known = legal_known table c.args.node c.requires.legal in
    let text = c.in-Ok.ensures table are.table known in
    let few : length table < 2 ^ 64 = omega (arith, c.args.self.now.nodes.small, length_after [] c.args.self.now.nodes.items) in
    shared_wholes bytes c.args.self.now are few c.args.node c.requires.legal c.in-Ok.text text (sym c.in_default-get.ensures.value) c.requires.low c.insert.new.self c.len-number.result (c.len-number.ensures ∙ c.args.self.now.nodes.ok.0) c.in_ok-insert.ensures.updates c.push.new.self c.in_ok-push.ensures.items
