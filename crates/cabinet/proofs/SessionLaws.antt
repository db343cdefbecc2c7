-- The laws of sessions.
use Rattle.std.proofs.Common.{◌≡◌, ℕ, ◌+◌, suc, zero, List, [], ◌∷◌, take, refl, sym, ap, subst, ◌∙◌, arith, Option, Some, None}
use Rattle.archive_shape_layout.specs.Value.{Value}
use Rattle.cabinet_text_grammar.specs.Tree.{Tree, Leaf}
use Rattle.cabinet_text_grammar.specs.Path.{Step}
use Rattle.cabinet_text_grammar.specs.Line.{Line, get, keys, range, set, Says}
use Rattle.cabinet_text_grammar.specs.Answering.{Answer, head, keys_are, wrong, missing, done, refused, bad, answer, reply}
use Rattle.cabinet_documents.specs.Accepted.{Accepted}
use Rattle.cabinet_documents.specs.Image.{Image}
use Rattle.cabinet_archives.specs.Setting.{EditLeaves}
use Rattle.cabinet_archives.proofs.Kept.{set_keeps_accepted, set_keeps_image}
use Rattle.cabinet_text.specs.Session.{lines_in_place, AllSay, next, after_all, edits, one_if_done}
use Rattle.cabinet.specs.Editing.{LineLeaves, LinesLeave, no_line, more_lines}
use Rattle.cabinet.specs.Laws.{IsAfter, AcceptedAfterEachLine, ImageAfterEachLine, UneditedBytesStay}

-- ---- after one line

next_accepted : (x y : List ℕ) (t : Tree) (text : List ℕ) (line : Option Line) → Says text line → (a : Accepted x t) → LineLeaves x a.value t line y → Accepted y (next t line)
next_accepted x y t text None h a l = subst (λ b. Accepted b t) (sym l) a
next_accepted x y t text (Some (get path)) h a l = subst (λ b. Accepted b t) (sym l) a
next_accepted x y t text (Some (keys path)) h a l = subst (λ b. Accepted b t) (sym l) a
next_accepted x y t text (Some (range low high path)) h a l = subst (λ b. Accepted b t) (sym l) a
next_accepted x y t text (Some (set path new)) h a l = set_keeps_accepted x y t path new h.0.1 a l

next_image : (x y : List ℕ) (t : Tree) (text : List ℕ) (line : Option Line) → Says text line → (i : Image t x) → (a : Accepted x t) → LineLeaves x a.value t line y → Image (next t line) y
next_image x y t text None h i a l = subst (Image t) (sym l) i
next_image x y t text (Some (get path)) h i a l = subst (Image t) (sym l) i
next_image x y t text (Some (keys path)) h i a l = subst (Image t) (sym l) i
next_image x y t text (Some (range low high path)) h i a l = subst (Image t) (sym l) i
next_image x y t text (Some (set path new)) h i a l = set_keeps_image x y t path new h.0.1 i a l

-- ---- after each line

-- the bytes between, of which a property is true that each line keeps
module _ (Is : Tree → List ℕ → Type 0)
    (keeps : (x y : List ℕ) (t : Tree) (text : List ℕ) (line : Option Line) → Says text line → Is t x → (a : Accepted x t) → LineLeaves x a.value t line y → Is (next t line) y)
  where
    after_each : (t : Tree) (x y : List ℕ) (texts : List (List ℕ)) (said : List (Option Line)) (lines : ℕ)
        → Is t x → AllSay lines_in_place texts said → LinesLeave x t said y → (mid : List ℕ) × IsAfter x y t said lines mid × Is (after_all lines_in_place t (take lines said)) mid
    after_each t x y texts said zero i h l = (x, record { before = no_line refl refl; later = l }, i)
    after_each t x y texts [] (suc n) i h l = (x, record { before = no_line refl refl; later = l }, i)
    after_each t x y [] (line ∷ said) (suc n) i h l = absurd h
    after_each t x y (text ∷ texts) (line ∷ said) (suc n) i h (no_line e f) = absurd (cc)
    after_each t x y (text ∷ texts) (line ∷ said) (suc n) i h (more_lines {mid = mid} {line = first} {rest = rest} e a left later) =
        let same : first ≡ line = cc in
        let others : rest ≡ said = cc in
        let left_here : LineLeaves x a.value t line mid = subst (λ s. LineLeaves x a.value t s mid) same left in
        let later_here : LinesLeave mid (next t line) said y =
        subst (λ s. LinesLeave mid (next t s) said y) same (subst (λ ss. LinesLeave mid (next t first) ss y) others later)
        in
        let r = after_each (next t line) mid y texts said n (keeps x mid t text line h.0 i a left_here) h.1 later_here in
        (r.0, record { before = more_lines refl a left_here r.1.before; later = r.1.later }, r.2)

pub accepted_after_each_line : AcceptedAfterEachLine
accepted_after_each_line t x y texts said lines a h l =
    after_each (λ u bytes. Accepted bytes u) (λ x y u text line says i b left. next_accepted x y u text line says b left) t x y texts said lines a h l

pub image_after_each_line : ImageAfterEachLine
image_after_each_line t x y texts said lines i h l = after_each Image next_image t x y texts said lines i h l

-- ---- no edit

put_none : (x y : List ℕ) (root : Value) (path : List Step) (new : Leaf) (r : Answer) → one_if_done r ≡ 0 → EditLeaves x root path new r y → y ≡ x
put_none x y root path new (head i) e l = l
put_none x y root path new (keys_are ks) e l = l
put_none x y root path new wrong e l = l
put_none x y root path new missing e l = l
put_none x y root path new done e l = absurd (omega arith)
put_none x y root path new refused e l = l
put_none x y root path new bad e l = l

line_unedited : (x y : List ℕ) (root : Value) (t : Tree) (line : Option Line) → one_if_done (reply t line) ≡ 0 → LineLeaves x root t line y → y ≡ x
line_unedited x y root t None e l = l
line_unedited x y root t (Some (get path)) e l = l
line_unedited x y root t (Some (keys path)) e l = l
line_unedited x y root t (Some (range low high path)) e l = l
line_unedited x y root t (Some (set path new)) e l = put_none x y root path new (answer t (set path new)) e l

lines_unedited : {x y : List ℕ} {t : Tree} {said : List (Option Line)} → LinesLeave x t said y → edits lines_in_place t said ≡ 0 → y ≡ x
lines_unedited (no_line e f) h = f
lines_unedited {x = x} {t = t} (more_lines {mid = mid} {line = line} {rest = rest} e a left later) h =
    let sum : one_if_done (reply t line) + edits lines_in_place (next t line) rest ≡ 0 = sym (ap (edits lines_in_place t) e) ∙ h in
    let first : mid ≡ x = line_unedited x mid a.value t line (omega (arith, sum)) left in
    lines_unedited later (omega (arith, sum)) ∙ first

pub unedited_bytes_stay : UneditedBytesStay
unedited_bytes_stay x y t lines a e = lines_unedited (e.edits_done.bytes t a) (sym (e.edits_counted t a))
