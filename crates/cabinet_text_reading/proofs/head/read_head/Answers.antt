use Rattle.std.proofs.Common.{codes, refl, inl, subst, IsUtf8}
use Rattle.std.proofs.lemmas.Result.{err_from_is_err_and}
use Rattle.std.proofs.lemmas.Str.{IsUtf8-string_bytes}
use Rattle.std.specs.Rc.{rc_str_bytes}
use Rattle.cabinet_text_grammar.proofs.Utf8.{IsUtf8-unescaped}
use Rattle.cabinet_text_grammar.specs.Tree.{text}
use Rattle.cabinet_text_grammar.specs.Item.{leaf_item}
use Rattle.cabinet_text_reading.proofs.Heads.{after_word, not_after_word, after_word_utf8, text_refused, shared_refused, number_unread, other_unknown, text_in_memory, shared_in_memory}
use Rattle.cabinet_text_reading.proofs.head.read_head.Goals as goal

pub read_escaped-requires : goal.read_escaped-requires
read_escaped-requires c =
    after_word_utf8 (codes "text '") _ _ refl (after_word _ _ _ (codes "text '") _ c.as_bytes-bytes.ensures.value c.as_slice.ensures c.in-Some.ensures) c.utf8.line

pub returns-in_err-text-clause-fault : goal.returns-in_err-text-clause-fault
returns-in_err-text-clause-fault c table are is_table =
    let p = err_from_is_err_and c.from_residual.result c.from_residual.ensures.1 in
    rw (p.1, p.2) (text_refused table c.args.depth (codes "text '") _ _ (λ t. leaf_item (text t)) _ (λ t. refl) (λ t u. u) (λ t some. inl some) inl
    (after_word _ _ _ (codes "text '") _ c.as_bytes-bytes.ensures.value c.as_slice.ensures c.in-Some.ensures) c.utf8.line c.in_err-text.ensures.fault)

pub returns-in-Some-clause-head : goal.returns-in-Some-clause-head
returns-in-Some-clause-head c table are = IsUtf8-string_bytes c.in_ok-text.text

pub read_shared-requires : goal.read_shared-requires
read_shared-requires c =
    after_word_utf8 (codes "shared '") _ _ refl (after_word _ _ _ (codes "shared '") _ c.as_bytes-bytes.ensures.value c.as_slice-2.ensures c.in-Some-after_prefix.ensures) c.utf8.line

pub returns-in-Some-after_prefix-clause-head : goal.returns-in-Some-after_prefix-clause-head
returns-in-Some-after_prefix-clause-head c table are =
    let line = after_word _ _ _ (codes "shared '") _ c.as_bytes-bytes.ensures.value c.as_slice-2.ensures c.in-Some-after_prefix.ensures in
    IsUtf8-unescaped (rc_str_bytes c.in_ok-text-2.text) (subst IsUtf8 c.in_ok-text-2.ensures.text (after_word_utf8 (codes "shared '") _ _ refl line c.utf8.line))

pub returns-in_err-text-2-clause-fault : goal.returns-in_err-text-2-clause-fault
returns-in_err-text-2-clause-fault c table are is_table =
    let p = err_from_is_err_and c.from_residual-in_err-text-2.result c.from_residual-in_err-text-2.ensures.1 in
    rw (p.1, p.2) (shared_refused table c.args.depth _ c.in-Some-after_prefix.argument.now _ (after_word _ _ _ (codes "shared '") _ c.as_bytes-bytes.ensures.value c.as_slice-2.ensures c.in-Some-after_prefix.ensures) c.utf8.line c.in_err-text-2.ensures.fault)

pub returns-in-None-clause-fault : goal.returns-in-None-clause-fault
returns-in-None-clause-fault c table are is_table =
    number_unread table c.args.depth _ c.in-Some-after_prefix-2.digits.now (after_word _ _ _ (codes "int ") _ c.as_bytes-bytes.ensures.value c.as_slice-3.ensures c.in-Some-after_prefix-2.ensures) c.utf8.line c.in-None.ensures

pub returns-in-None-read_option-clause-fault : goal.returns-in-None-read_option-clause-fault
returns-in-None-read_option-clause-fault c table are is_table =
    let bytes = c.as_bytes-bytes.ensures.value in
    other_unknown table c.args.depth _ c.utf8.line
    (not_after_word _ _ _ (codes "text '") bytes c.as_slice.ensures c.in_default.ensures)
    (not_after_word _ _ _ (codes "shared '") bytes c.as_slice-2.ensures c.in_default-after_prefix.ensures)
    (not_after_word _ _ _ (codes "int ") bytes c.as_slice-3.ensures c.in_default-after_prefix-2.ensures)
    (rw (← bytes) c.in_default-count_argument.ensures)
    (rw (← bytes) c.in_default-read_truth.ensures)
    (rw (← bytes) c.in-None-read_option.ensures)

pub returns-in_err-text-clause-memory : goal.returns-in_err-text-clause-memory
returns-in_err-text-clause-memory c =
    let p = err_from_is_err_and c.from_residual.result c.from_residual.ensures.1 in
    let line = after_word _ _ _ (codes "text '") _ c.as_bytes-bytes.ensures.value c.as_slice.ensures c.in-Some.ensures in
    rw (p.1, p.2) (λ is. text_in_memory c.args.line.now c.in-Some.argument.now _ line c.in_err-text.ensures.fault is)

pub returns-in_err-text-2-clause-memory : goal.returns-in_err-text-2-clause-memory
returns-in_err-text-2-clause-memory c =
    let p = err_from_is_err_and c.from_residual-in_err-text-2.result c.from_residual-in_err-text-2.ensures.1 in
    let line = after_word _ _ _ (codes "shared '") _ c.as_bytes-bytes.ensures.value c.as_slice-2.ensures c.in-Some-after_prefix.ensures in
    rw (p.1, p.2) (λ is. shared_in_memory c.args.line.now c.in-Some-after_prefix.argument.now _ line c.in_err-text-2.ensures.fault is)

pub returns-in-Some-read_truth-clause-fault : goal.returns-in-Some-read_truth-clause-fault
returns-in-Some-read_truth-clause-fault c table are is_table = tt

pub returns-in-Some-read_truth-clause-memory : goal.returns-in-Some-read_truth-clause-memory
returns-in-Some-read_truth-clause-memory c = tt
