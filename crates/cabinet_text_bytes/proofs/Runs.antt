-- Texts that are written in runs between their escapes.
use Rattle.std.proofs.Common.{◌≡◌, ℕ, ◌+◌, ◌-◌, ◌<◌, ◌≤◌, Bool, List, [], ◌∷◌, ◌++◌, length, get_or, take, drop, sym, ap, ◌∙◌, subst, arith, append_assoc, append-nil, length-drop, Result}
use Rattle.std.proofs.lemmas.List.{take_more, take-append-drop, take_all, get_or-drop}
use Rattle.archive_shape_layout.specs.Progress.{Progress}
use Rattle.archive_shape_layout.specs.declared.error.Error.{Error}
use Rattle.archive_shape_layout.specs.Writing.{Written, Failed, Appends}
use Rattle.archive_shape_layout.proofs.Joined.{written_both, failed_first, failed_after, appends_after}
use Rattle.cabinet_text_grammar.specs.Spelling.{escaped, escaped_byte}
use Rattle.cabinet_text_grammar.proofs.Escapes.{escaped-append}

-- the bytes from i on, before j
abbrev pub run : List ℕ → ℕ → ℕ → List ℕ
run text i j = take (j - i) (drop i text)

-- up to `end`, the bytes from `start` on represent themselves
abbrev pub IsRun : List ℕ → ℕ → ℕ → Type 0
IsRun text start end = escaped (take end text) ≡ escaped (take start text) ++ run text start end

escaped-take_more : (text : List ℕ) (end : ℕ) → end < length text → escaped (take (end + 1) text) ≡ escaped (take end text) ++ escaped_byte (get_or text end 0)
escaped-take_more text end within =
    let b = get_or text end 0 in
    ap escaped (take_more text end 0 within) ∙ escaped-append (take end text) (b ∷ []) ∙ ap (λ w. escaped (take end text) ++ w) (append-nil (escaped_byte b))

run_more : (text : List ℕ) (start end : ℕ) → start ≤ end → end < length text → run text start (end + 1) ≡ run text start end ++ get_or text end 0 ∷ []
run_more text start end below within =
    let count : (end + 1) - start ≡ (end - start) + 1 = omega arith in
    let there : start + (end - start) ≡ end = omega arith in
    let inside : end - start < length (drop start text) = omega (arith, length-drop start text) in
    ap (λ n. take n (drop start text)) count
    ∙ take_more (drop start text) (end - start) 0 inside
    ∙ ap (λ b. run text start end ++ b ∷ []) (get_or-drop start text (end - start) 0 ∙ ap (λ n. get_or text n 0) there)

-- a byte that represents itself
pub longer_run : (text : List ℕ) (start end : ℕ) → start ≤ end → end < length text → escaped_byte (get_or text end 0) ≡ get_or text end 0 ∷ [] → IsRun text start end → IsRun text start (end + 1)
longer_run text start end below within plain is_run =
    let b = get_or text end 0 in
    escaped-take_more text end within
    ∙ ap (λ w. escaped (take end text) ++ w) plain
    ∙ ap (λ w. w ++ b ∷ []) is_run
    ∙ append_assoc (escaped (take start text)) (run text start end) (b ∷ [])
    ∙ ap (λ w. escaped (take start text) ++ w) (sym (run_more text start end below within))

-- a byte that is escaped
pub run_and_escape : (text escape : List ℕ) (start end : ℕ) → end < length text → escaped_byte (get_or text end 0) ≡ escape → IsRun text start end → escaped (take (end + 1) text) ≡ escaped (take start text) ++ (run text start end ++ escape)
run_and_escape text escape start end within is_escape is_run =
    escaped-take_more text end within
    ∙ ap (λ w. escaped (take end text) ++ w) is_escape
    ∙ ap (λ w. w ++ escape) is_run
    ∙ append_assoc (escaped (take start text)) (run text start end) escape

pub empty_run : (text : List ℕ) (n : ℕ) → IsRun text n n
empty_run text n =
    let none : n - n ≡ 0 = omega arith in
    sym (append-nil (escaped (take n text))) ∙ ap (λ k. escaped (take n text) ++ take k (drop n text)) (sym none)

pub last_run : (text : List ℕ) (start end : ℕ) → end ≡ length text → IsRun text start end → escaped text ≡ escaped (take start text) ++ run text start (length text)
last_run text start end whole is_run =
    let all : take end text ≡ text = take_all end text (omega arith) in
    sym (ap escaped all) ∙ is_run ∙ ap (λ n. escaped (take start text) ++ run text start n) whole

-- what is left after an escape
pub text_after : (text escape : List ℕ) (start end : ℕ) → end < length text → escaped_byte (get_or text end 0) ≡ escape → IsRun text start end → escaped text ≡ escaped (take start text) ++ ((run text start end ++ escape) ++ escaped (drop (end + 1) text))
text_after text escape start end within is_escape is_run =
    let after = escaped (drop (end + 1) text) in
    sym (ap escaped (take-append-drop (end + 1) text))
    ∙ escaped-append (take (end + 1) text) (drop (end + 1) text)
    ∙ ap (λ w. w ++ after) (run_and_escape text escape start end within is_escape is_run)
    ∙ append_assoc (escaped (take start text)) (run text start end ++ escape) after

module _ {W : Type 0} {observable counts : Bool} {contents : W → List ℕ} {pos failures : W → ℕ} {last_error : W → Error} {known : W → ℕ → Progress ℕ} where
  -- a run and the escape after it were written
  pub written_more : {old mid new : W} (text escape : List ℕ) (start end : ℕ) → end < length text → escaped_byte (get_or text end 0) ≡ escape → IsRun text start end
      → Written observable counts contents pos failures last_error known old mid (escaped (take start text))
      → Written observable counts contents pos failures last_error known mid new (run text start end ++ escape)
      → Written observable counts contents pos failures last_error known old new (escaped (take (end + 1) text))
  written_more {old = old} {new = new} text escape start end within is_escape is_run before now =
      let P : List ℕ → Type 0 = λ piece. Written observable counts contents pos failures last_error known old new piece in
      subst P (sym (run_and_escape text escape start end within is_escape is_run)) (written_both before now)

  -- the writer failed in a run or in the escape after it
  pub failed_among_runs : {old mid new : W} {e : Error} (text escape : List ℕ) (start end : ℕ) → end < length text → escaped_byte (get_or text end 0) ≡ escape → IsRun text start end
      → Written observable counts contents pos failures last_error known old mid (escaped (take start text))
      → Failed observable counts contents pos failures last_error known mid new (run text start end ++ escape) e
      → Failed observable counts contents pos failures last_error known old new (escaped text) e
  failed_among_runs {old = old} {new = new} {e = e} text escape start end within is_escape is_run before failed =
      let P : List ℕ → Type 0 = λ piece. Failed observable counts contents pos failures last_error known old new piece e in
      subst P (sym (text_after text escape start end within is_escape is_run)) (failed_after before (failed_first (escaped (drop (end + 1) text)) failed))

  -- the last run is written
  pub appends_last : {A : Type 0} {old mid : W} (new : W) (text : List ℕ) (start end : ℕ) (result : Result A Error) → end ≡ length text → IsRun text start end
      → Written observable counts contents pos failures last_error known old mid (escaped (take start text))
      → Appends observable counts contents pos failures last_error known mid new (run text start (length text)) result
      → Appends observable counts contents pos failures last_error known old new (escaped text) result
  appends_last {old = old} new text start end result whole is_run before now =
      let P : List ℕ → Type 0 = λ piece. Appends observable counts contents pos failures last_error known old new piece result in
      subst P (sym (last_run text start end whole is_run)) (appends_after new (run text start (length text)) result before now)
