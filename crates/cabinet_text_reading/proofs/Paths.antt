-- Where the words of a line end, and how a path begins.
use Rattle.std.proofs.Common.{◌≡◌, ◌≢◌, ℕ, ◌<◌, Bool, true, false, List, [], ◌∷◌, ◌++◌, length, Bor, sym, ap, subst, ◌∙◌, refl, arith, append_assoc, append-nil, length-append, codes, All}
use Rattle.std.specs.Bool.{OnTrue, OnFalse}
use Rattle.std.specs.Fmt.{decimal}
use Rattle.std.proofs.lemmas.List.{map-append}
use Rattle.std.proofs.lemmas.List.Elements.{All-cons, All-head, All-tail, All-push}
use Rattle.cabinet_text_bytes.specs.Words.{IsEscaped, HasNoSpace, IsAtSpace}
use Rattle.cabinet_text_grammar.specs.Spelling.{escaped}
use Rattle.cabinet_text_grammar.specs.Path.{Step, key, place, inside}
use Rattle.cabinet_text_grammar.specs.Line.{IsStep, spelled_step, spelled_path}
use Rattle.cabinet_text_grammar.proofs.Escapes.{first_same, rest_same, first_differs}
use Rattle.cabinet_text_grammar.proofs.Lacking.{Lacks, Lacks-from_get_or}
use Rattle.cabinet_text_grammar.proofs.Lines.{Lacks-step, TwoWords}
use Rattle.cabinet_text_nodes.specs.View.{step_of, path_of}
use Rattle.cabinet_text_nodes.specs.declared.line.LineRefusal.{LineRefusal}
use Rattle.cabinet_text_nodes.specs.declared.line.LineRefusal.TheVariants.{Bad, OutOfMemory}
use Rattle.cabinet_text_nodes.specs.declared.line.Step as code
use Rattle.cabinet_text_reading.specs.Parts.{IsPath, IsSpelledStep, BeginsWithWord, BeginsByKey, RefusesStep, RefusesSteps, RefusesText, PlaceFits, lent_step}
use Rattle.cabinet_text_reading.specs.declared.lines.path.StepRef.{StepRef}
use Rattle.cabinet_text_reading.specs.declared.lines.path.StepRef.TheVariants.{Key, Place, Inside}

-- bytes are cut before their first space in one way only
pub same_cut : (u v x y : List ℕ) → Lacks 32 u → Lacks 32 v → IsAtSpace x → IsAtSpace y → u ++ x ≡ v ++ y → (u ≡ v) × (x ≡ y)
same_cut [] [] x y p q r s h = (refl, h)
same_cut [] (d ∷ v) [] y p q r s h = absurd cc
same_cut [] (d ∷ v) (c ∷ x) y p q r s h = absurd (q.0 (sym (first_same h) ∙ r))
same_cut (b ∷ u) [] x [] p q r s h = absurd cc
same_cut (b ∷ u) [] x (c ∷ y) p q r s h = absurd (p.0 (first_same h ∙ s))
same_cut (b ∷ u) (d ∷ v) x y p q r s h =
    let rest = same_cut u v x y p.1 q.1 r s (rest_same h) in
    let first = first_same h in
    (cc, rest.1)

pub Lacks-from_HasNoSpace : (bytes : List ℕ) → HasNoSpace bytes → Lacks 32 bytes
Lacks-from_HasNoSpace bytes p = Lacks-from_get_or 32 bytes (λ i within. p i 0 within)

Lacks-spelled_step : (word : List ℕ) → IsSpelledStep word → Lacks 32 word
Lacks-spelled_step word (step, p, e) = subst (Lacks 32) (sym e) (Lacks-step step p)

pub IsAtSpace-path : (path : List Step) → IsAtSpace (spelled_path path)
IsAtSpace-path [] = tt
IsAtSpace-path (step ∷ path) = refl

-- two words and the bytes after them are cut in one way only
pub same_words : (u v x y : List ℕ) → TwoWords u → TwoWords v → IsAtSpace x → IsAtSpace y → u ++ x ≡ v ++ y → (u ≡ v) × (x ≡ y)
same_words u v x y a b r s h =
    let whole : a.word ++ 32 ∷ (a.argument ++ x) ≡ b.word ++ 32 ∷ (b.argument ++ y) =
    sym (append_assoc a.word (32 ∷ a.argument) x) ∙ ap (λ w. w ++ x) (sym a.spelled) ∙ h ∙ ap (λ w. w ++ y) b.spelled ∙ append_assoc b.word (32 ∷ b.argument) y in
    let words = same_cut a.word b.word (32 ∷ (a.argument ++ x)) (32 ∷ (b.argument ++ y)) a.first_word b.first_word refl refl whole in
    let arguments = same_cut a.argument b.argument x y a.second_word b.second_word r s (rest_same words.1) in
    (a.spelled ∙ ap (λ w. w ++ 32 ∷ a.argument) words.0 ∙ ap (λ w. b.word ++ 32 ∷ w) arguments.0 ∙ sym b.spelled, arguments.1)

-- bytes without a space are no two words
pub one_word : (word : List ℕ) (v y : List ℕ) → Lacks 32 word → TwoWords v → word ≢ v ++ y
one_word word v y p b h =
    let whole : word ++ [] ≡ b.word ++ 32 ∷ (b.argument ++ y) =
    append-nil word ∙ h ∙ ap (λ w. w ++ y) b.spelled ∙ append_assoc b.word (32 ∷ b.argument) y in
    let cut = same_cut word b.word [] (32 ∷ (b.argument ++ y)) p b.first_word tt refl whole in
    absurd (cc (cut.1))

-- a word that begins with none of the signs of a step
pub no_sign :
    (word question hash quote : List ℕ)
    → word ≢ question → question ≡ codes "?"
    → ((rest : List ℕ) → word ≢ hash ++ rest) → hash ≡ codes "#"
    → ((rest : List ℕ) → word ≢ quote ++ rest) → quote ≡ codes "'"
    → IsSpelledStep word → ⊥
no_sign word question hash quote no_option is_question no_place is_hash no_key is_quote (key k, p, e) =
    no_key (escaped k) (e ∙ ap (λ w. w ++ escaped k) (sym is_quote))
no_sign word question hash quote no_option is_question no_place is_hash no_key is_quote (place n, p, e) =
    no_place (decimal n) (e ∙ ap (λ w. w ++ decimal n) (sym is_hash))
no_sign word question hash quote no_option is_question no_place is_hash no_key is_quote (inside, p, e) =
    no_option (e ∙ sym is_question)

-- a path is nothing, or a step and a path after it
pub IsPath-step : (bytes word rest : List ℕ) → BeginsWithWord bytes word rest → IsSpelledStep word → IsPath rest → IsPath bytes
IsPath-step bytes word rest begins first (path, steps, h) =
    (first.0 ∷ path, All-cons IsStep first.0 path first.1 steps, begins.spelled ∙ ap (λ w. 32 ∷ (w ++ rest)) first.2 ∙ ap (λ w. 32 ∷ (spelled_step first.0 ++ w)) h)

-- a path that begins with a step, cut after it
pub cut_after_word : (bytes word rest : List ℕ) (step : Step) (path : List Step) → BeginsWithWord bytes word rest → IsStep step → bytes ≡ spelled_path (step ∷ path) → (word ≡ spelled_step step) × (rest ≡ spelled_path path)
cut_after_word bytes word rest step path begins p h =
    same_cut word (spelled_step step) rest (spelled_path path) (Lacks-from_HasNoSpace word begins.no_space) (Lacks-step step p) begins.space (IsAtSpace-path path) (rest_same (sym begins.spelled ∙ h))

pub IsPath-word : (bytes word rest : List ℕ) → BeginsWithWord bytes word rest → IsPath bytes → IsSpelledStep word × IsPath rest
IsPath-word bytes word rest begins ([], steps, h) = absurd (cc (begins.spelled, h))
IsPath-word bytes word rest begins (step ∷ path, steps, h) =
    let p = All-head IsStep step path steps in
    let cut = cut_after_word bytes word rest step path begins p h in
    ((step, p, cut.0), (path, All-tail IsStep step path steps, cut.1))

-- what does not begin with a space is no path, unless it is empty
pub no_space : (bytes sign : List ℕ) → sign ≡ codes " " → ((rest : List ℕ) → bytes ≢ sign ++ rest) → IsPath bytes → bytes ≡ []
no_space bytes sign e none ([], steps, h) = h
no_space bytes sign e none (step ∷ path, steps, h) =
    let after = spelled_step step ++ spelled_path path in
    absurd (none after (h ∙ ap (λ w. w ++ after) (sym e)))

-- nor is what has no step after the space
pub no_word : (bytes sign spaced word rest : List ℕ) → sign ≡ codes " " → bytes ≡ sign ++ spaced → spaced ≡ word ++ rest → HasNoSpace word → IsAtSpace rest → (IsSpelledStep word → ⊥) → IsPath bytes → bytes ≡ []
no_word bytes sign spaced word rest e whole cut lacks space none ([], steps, h) = h
no_word bytes sign spaced word rest e whole cut lacks space none (step ∷ path, steps, h) =
    let p = All-head IsStep step path steps in
    let both : word ++ rest ≡ spelled_step step ++ spelled_path path =
    rest_same (ap (λ w. 32 ∷ w) (sym cut) ∙ ap (λ w. w ++ spaced) (sym e) ∙ sym whole ∙ h) in
    let words = same_cut word (spelled_step step) rest (spelled_path path) (Lacks-from_HasNoSpace word lacks) (Lacks-step step p) space (IsAtSpace-path path) both in
    absurd (none (step, p, words.0))

-- the word that a path begins with
pub begins : (bytes sign spaced word rest step : List ℕ) → sign ≡ codes " " → bytes ≡ sign ++ spaced → spaced ≡ word ++ rest → HasNoSpace word → IsAtSpace rest → word ≡ step → BeginsWithWord bytes step rest
begins bytes sign spaced word rest step e whole cut lacks space is = record {
  no_space = subst HasNoSpace is lacks;
  spelled = whole ∙ ap (λ w. w ++ spaced) e ∙ ap (λ w. 32 ∷ w) (cut ∙ ap (λ w. w ++ rest) is);
  space = space;
}

-- a path that does not begin with a key
pub no_key : (bytes : List ℕ) → (IsPath bytes → bytes ≡ []) → BeginsByKey bytes → ⊥
no_key bytes none (k, path, utf8, steps, h) =
    absurd (cc (h, none (key k ∷ path, All-cons IsStep (key k) path utf8 steps, h)))

pub other_step : (bytes rest : List ℕ) (step : StepRef) → BeginsWithWord bytes (lent_step step) rest → ((argument : Bor (List ℕ)) → step ≡ Key argument → ⊥) → BeginsByKey bytes → ⊥
other_step bytes rest (Key argument) begins none by_key = none argument refl
other_step bytes rest (Place n) begins none (k, path, utf8, steps, h) =
    absurd (first_differs refl (cut_after_word bytes (lent_step (Place n)) rest (key k) path begins utf8 h).0)
other_step bytes rest Inside begins none (k, path, utf8, steps, h) =
    absurd (first_differs refl (cut_after_word bytes (lent_step Inside) rest (key k) path begins utf8 h).0)

spelled_path-append : (p q : List Step) → spelled_path (p ++ q) ≡ spelled_path p ++ spelled_path q
spelled_path-append [] q = refl
spelled_path-append (step ∷ p) q =
    ap (λ w. 32 ∷ (spelled_step step ++ w)) (spelled_path-append p q)
    ∙ ap (λ w. 32 ∷ w) (sym (append_assoc (spelled_step step) (spelled_path p) (spelled_path q)))

-- one more step is read
pub All-step : (path : List code.Step) (step : code.Step) → IsStep (step_of step) → All IsStep (path_of path) → All IsStep (path_of (path ++ step ∷ []))
All-step path step possible p =
    rw (map-append step_of path (step ∷ [])) (All-push IsStep (path_of path) (step_of step) p possible)

pub spelled-step : (path : List code.Step) (step : code.Step) (word bytes rest after : List ℕ) → bytes ≡ spelled_path (path_of path) ++ rest → BeginsWithWord rest word after → word ≡ spelled_step (step_of step) → bytes ≡ spelled_path (path_of (path ++ step ∷ [])) ++ after
spelled-step path step lent bytes rest after h begins is =
    let word = spelled_step (step_of step) in
    let one : spelled_path (step_of step ∷ []) ++ after ≡ 32 ∷ (word ++ after) = ap (λ w. 32 ∷ (w ++ after)) (append-nil word) in
    let whole : spelled_path (path_of (path ++ step ∷ [])) ≡ spelled_path (path_of path) ++ spelled_path (step_of step ∷ []) =
    ap spelled_path (map-append step_of path (step ∷ [])) ∙ spelled_path-append (path_of path) (step_of step ∷ []) in
    h ∙ ap (λ w. spelled_path (path_of path) ++ w) (begins.spelled ∙ ap (λ w. 32 ∷ (w ++ after)) is ∙ sym one)
    ∙ sym (append_assoc (spelled_path (path_of path)) (spelled_path (step_of step ∷ [])) after)
    ∙ ap (λ w. w ++ after) (sym whole)

-- the bytes after a word are fewer
pub less_left : (bytes word rest : List ℕ) → BeginsWithWord bytes word rest → length rest < length bytes
less_left bytes word rest begins = omega (arith, ap length begins.spelled, length-append word rest)

-- a key in a line, and what it is where it is read
pub key_step : (argument : List ℕ) → IsEscaped argument → IsSpelledStep (39 ∷ argument)
key_step argument (k, p, e) = (key k, p, ap (λ w. 39 ∷ w) e)

-- a borrowed key that is a step is an escaped text
pub IsEscaped-key : (argument : List ℕ) → IsSpelledStep (39 ∷ argument) → IsEscaped argument
IsEscaped-key argument (key k, p, e) = (k, p, rest_same e)
IsEscaped-key argument (place n, p, e) = absurd (first_differs refl e)
IsEscaped-key argument (inside, p, e) = absurd (first_differs refl e)

-- the refusal of a borrowed key
pub key_refused : (argument : List ℕ) (refusal : LineRefusal) → RefusesText argument refusal → RefusesStep (39 ∷ argument) refusal
key_refused argument Bad none = λ step. let k = IsEscaped-key argument step in none k.0 k.1 k.2
key_refused argument OutOfMemory r = key_step argument r.0

-- the refusal of a step, in bytes that are a path only if it is a step
pub step_refused : (bytes word : List ℕ) (refusal : LineRefusal) → (IsPath bytes → IsSpelledStep word) → bytes ≢ [] → RefusesStep word refusal → RefusesSteps bytes refusal
step_refused bytes word Bad only some none = λ path. none (only path)
step_refused bytes word OutOfMemory only some r = some

-- a borrowed step that is no key is a step
pub place_step : (step : StepRef) (n : ℕ) → step ≡ Place n → PlaceFits step → IsSpelledStep (lent_step step)
place_step step n e small = rw e (place n, subst PlaceFits e small, refl)

pub inside_step : (step : StepRef) → step ≡ Inside → IsSpelledStep (lent_step step)
inside_step step e = rw e (inside, tt, refl)

pub key_tells : (b : Bool) (step : StepRef) (argument : Bor (List ℕ)) → step ≡ Key argument → OnTrue b (IsEscaped argument.now) → OnTrue b (IsSpelledStep (lent_step step))
key_tells false step argument e h = tt
key_tells true step argument e h = rw e (key_step argument.now h)

pub key_tells_not : (b : Bool) (step : StepRef) (argument : Bor (List ℕ)) → step ≡ Key argument → OnFalse b (IsEscaped argument.now → ⊥) → OnFalse b (IsSpelledStep (lent_step step) → ⊥)
key_tells_not true step argument e h = tt
key_tells_not false step argument e h = rw e (λ s. h (IsEscaped-key argument.now s))

pub some_left : (bytes before rest : List ℕ) → bytes ≡ before ++ rest → rest ≢ [] → bytes ≢ []
some_left bytes [] rest e some none = some (sym e ∙ none)
some_left bytes (b ∷ before) rest e some none = absurd (cc (e, none))
