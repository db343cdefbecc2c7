use Rattle.std.proofs.Common.{[], length, ap, subst, arith}
use Rattle.cabinet_text_nodes.specs.Faults.{AllLegal, NodeFault, IsFault}
use Rattle.cabinet_text_nodes.specs.View.{node_tree, known_below}
use Rattle.cabinet_text_nodes.proofs.Faults.{same_refusal, refused_is_no_document}
use Rattle.cabinet_text_nodes.proofs.Entries.{no_depths, legal_known, no_wholes}
use Rattle.cabinet_text_nodes.proofs.document.Document.new.Goals as goal

pub returns-in-Some-clause-refusal : goal.returns-in-Some-clause-refusal
returns-in-Some-clause-refusal c =
    let fault = subst (λ d. NodeFault d 64 c.args.root c.fault_of.result) c.default.ensures c.fault_of.ensures in
    let told = subst (λ r. IsFault (AllLegal []) 64 (known_below 0 c.args.root) (node_tree [] c.args.root) r) c.in-Some.is (fault [] no_depths) in
    same_refusal (AllLegal []) (Unit {0}) 64 (known_below 0 c.args.root) (node_tree [] c.args.root) c.in-Some.refusal told

pub returns-in-Some-clause-none : goal.returns-in-Some-clause-none
returns-in-Some-clause-none c document =
    let fault = subst (λ d. NodeFault d 64 c.args.root c.fault_of.result) c.default.ensures c.fault_of.ensures in
    let told = subst (λ r. IsFault (AllLegal []) 64 (known_below 0 c.args.root) (node_tree [] c.args.root) r) c.in-Some.is (fault [] no_depths) in
    refused_is_no_document c.args.root c.in-Some.refusal (same_refusal (AllLegal []) (Unit {0}) 64 (known_below 0 c.args.root) (node_tree [] c.args.root) c.in-Some.refusal told) document (legal_known [] c.args.root document.0)

pub invariant_of-result : goal.invariant_of-result
invariant_of-result c =
    let fault = subst (λ d. NodeFault d 64 c.args.root c.fault_of.result) c.default.ensures c.fault_of.ensures in
    let told = subst (λ r. IsFault (AllLegal []) 64 (known_below 0 c.args.root) (node_tree [] c.args.root) r) c.in-None.is (fault [] no_depths) in
    let legal = told.1 (λ n t there. cc) in
    let none = no_wholes c.args.root legal in
    ((legal, told.2, omega (arith, ap length none)), none)
