-- A question does no edit.
use Rattle.std.proofs.Common.{◌≡◌, ℕ, List, Option, Some, None, refl, sym, subst}
use Rattle.cabinet_text_grammar.specs.Keys.{ordered, hashed, kept}
use Rattle.cabinet_text_grammar.specs.Tree.{Tree, leaf, shared, nothing, just, list, map, whole}
use Rattle.cabinet_text_grammar.specs.Path.{node_at}
use Rattle.cabinet_text_grammar.specs.Line as spec_line
use Rattle.cabinet_text_grammar.specs.Line.{get, keys, range, set}
use Rattle.cabinet_text_grammar.specs.Answering.{Answer, answer, head, head_of, if_there, keys_of, keys_within}
use Rattle.cabinet_text_nodes.specs.Lines.{IsQuestion}
use Rattle.cabinet_text_nodes.specs.View.{line_of}
use Rattle.cabinet_text_nodes.specs.declared.line.Line.{Line}
use Rattle.cabinet_text.specs.Calls.{IsReply, answer_by}
use Rattle.cabinet_text.specs.Session.{one_if_done}
use Rattle.cabinet_text.specs.declared.session.editing.Reply.{Reply}
use Rattle.cabinet_text.specs.declared.session.editing.Reply.TheVariants as reply

none_done : (found : Option Tree) (f : Tree → Answer) → ((t : Tree) → one_if_done (f t) ≡ 0) → one_if_done (if_there found f) ≡ 0
none_done None f h = refl
none_done (Some t) f h = h t

keys_done : (t : Tree) → one_if_done (keys_of t) ≡ 0
keys_done (leaf l) = refl
keys_done (shared s) = refl
keys_done nothing = refl
keys_done (just u) = refl
keys_done (list ts) = refl
keys_done (map ordered ps) = refl
keys_done (map hashed ps) = refl
keys_done (map kept ps) = refl
keys_done (whole u) = refl

within_done : (low high : List ℕ) (t : Tree) → one_if_done (keys_within low high t) ≡ 0
within_done low high (leaf l) = refl
within_done low high (shared s) = refl
within_done low high nothing = refl
within_done low high (just u) = refl
within_done low high (list ts) = refl
within_done low high (map ordered ps) = refl
within_done low high (map hashed ps) = refl
within_done low high (map kept ps) = refl
within_done low high (whole u) = refl

pub question_done : (t : Tree) (line : spec_line.Line) → IsQuestion line → one_if_done (answer t line) ≡ 0
question_done t (get path) h = none_done (node_at t path) (λ u. head (head_of u)) (λ u. refl)
question_done t (keys path) h = none_done (node_at t path) keys_of keys_done
question_done t (range low high path) h = none_done (node_at t path) (keys_within low high) (within_done low high)
question_done t (set path l) h = absurd h

-- the reply that a question is left
pub question_replied : (t : Tree) (q : Line) (r : Reply) → r ≡ reply.Question q → IsReply r → 0 ≡ one_if_done (answer_by t r)
question_replied t q r is h =
    subst (λ s. 0 ≡ one_if_done (answer_by t s)) (sym is) (sym (question_done t (line_of q) (subst IsReply is h)))
