use Rattle.std.proofs.Common.{Bor, List, ℕ, refl, sym, ap, subst, true, false}
use Rattle.std.proofs.lemmas.Bool.{eq-eqb, ne_eqb}
use Rattle.archive_forms_laws.specs.Text.{HasText, HasLength}
use Rattle.cabinet_text_nodes.specs.View.{lent_leaf}
use Rattle.cabinet_archives.proofs.Put.{has_text, put_refused, truth_put, number_put, text_put, not_truth, not_number, not_text, container_refuses, of_same}
use Rattle.cabinet_archives.proofs.setting.putting.put_leaf.Goals as goal

pub len-requires : goal.len-requires
len-requires c =
    let says = c.in-Text-Text.ensures in
    subst (λ (b : Bor (List ℕ)). HasText b.now c.in-Text-Text.there.pos) (sym says.0) (has_text c.new.result.bytes.now c.in-Text-Text.there.pos says.2.there)

pub returns-then-len-text-clause-answer : goal.returns-then-len-text-clause-answer
returns-then-len-text-clause-answer c =
    let says = c.in-Text-Text.ensures in
    let there = subst (λ (b : Bor (List ℕ)). HasLength b.now c.in-Text-Text.there.pos c.len.result) says.0 c.len.ensures in
    of_same _ c.new.ensures.bytes c.new.ensures.pos
    (text_put c.new.result.bytes.now c.new.result.pos (lent_leaf c.args.leaf) c.in-Text-Text.text.now c.len.result false (ap lent_leaf c.in-Text-Text.is-1) says.2 there (ne_eqb _ _ c.if-len-text.true))

pub returns-in-Bool-Bool-clause-answer : goal.returns-in-Bool-Bool-clause-answer
returns-in-Bool-Bool-clause-answer c =
    of_same _ c.new.ensures.bytes c.new.ensures.pos
    (truth_put c.new.result.bytes.now c.new.result.pos (lent_leaf c.args.leaf) c.in-Bool-Bool.value (ap lent_leaf c.in-Bool-Bool.is-1) c.in-Bool-Bool.ensures.2)

pub returns-in-Int-Int-clause-answer : goal.returns-in-Int-Int-clause-answer
returns-in-Int-Int-clause-answer c =
    of_same _ c.new.ensures.bytes c.new.ensures.pos
    (number_put c.new.result.bytes.now c.new.result.pos (lent_leaf c.args.leaf) c.in-Int-Int.number (ap lent_leaf c.in-Int-Int.is-1) c.in-Int-Int.ensures.2)

pub returns-else-len-text-clause-answer : goal.returns-else-len-text-clause-answer
returns-else-len-text-clause-answer c =
    let says = c.in-Text-Text.ensures in
    let there = subst (λ (b : Bor (List ℕ)). HasLength b.now c.in-Text-Text.there.pos c.len.result) says.0 c.len.ensures in
    of_same _ c.new.ensures.bytes c.new.ensures.pos
    (text_put c.new.result.bytes.now c.new.result.pos (lent_leaf c.args.leaf) c.in-Text-Text.text.now c.len.result true (ap lent_leaf c.in-Text-Text.is-1) says.2 there (eq-eqb _ _ c.if-len-text.false))

pub returns-in_default : goal.returns-in_default
returns-in_default c =
    record {
      answer =
          of_same _ c.new.ensures.bytes c.new.ensures.pos
          (put_refused c.new.result.bytes.now c.new.result.pos (lent_leaf c.args.leaf) 0 c.in_default.ensures.2 (not_truth c.args.leaf c.in_default.not-Bool-1));
      bytes = refl;
    }

pub returns-in_default-2 : goal.returns-in_default-2
returns-in_default-2 c =
    record {
      answer =
          of_same _ c.new.ensures.bytes c.new.ensures.pos
          (put_refused c.new.result.bytes.now c.new.result.pos (lent_leaf c.args.leaf) 1 c.in_default.ensures.2 (not_number c.args.leaf c.in_default.not-Int-1));
      bytes = refl;
    }

pub returns-in_default-3 : goal.returns-in_default-3
returns-in_default-3 c =
    record {
      answer =
          of_same _ c.new.ensures.bytes c.new.ensures.pos
          (put_refused c.new.result.bytes.now c.new.result.pos (lent_leaf c.args.leaf) 2 c.in_default.ensures.2 (not_text c.args.leaf c.in_default.not-Text-1));
      bytes = refl;
    }

pub returns-in_default-4-clause-answer : goal.returns-in_default-4-clause-answer
returns-in_default-4-clause-answer c =
    of_same _ c.new.ensures.bytes c.new.ensures.pos
    (container_refuses c.new.result.bytes c.new.result.pos c.kind.result (lent_leaf c.args.leaf) c.kind.ensures c.in_default.not-Bool-0 c.in_default.not-Int-0 c.in_default.not-Text-0)
