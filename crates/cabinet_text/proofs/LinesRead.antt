-- How far a reader of lines is in its input after it takes bytes, and the faults that it finds.
use Rattle.std.proofs.Common.{◌≡◌, ◌≢◌, ℕ, Bool, ◌+◌, ◌-◌, ◌<◌, ◌≤◌, ◌==◌, ◌⊎◌, inl, inr, true, false, cond, List, [], ◌∷◌, ◌++◌, length, take, drop, refl, sym, ap, subst, ◌∙◌, append_assoc, append-nil, length-append, get_or, arith}
use Rattle.std.proofs.lemmas.Bool.{ne_eqb}
use Rattle.std.specs.Prelude.{MatchBool, not}
use Rattle.std.proofs.lemmas.List.{take_all, take-append-le, take-append-drop, drop_more, take-take, drop-take, drop-drop}
use Rattle.cabinet_text.specs.Input.{lines_of, longest_line, longest_input, newlines, line_begun, begun_in, IsMemoryRefused, IsReadFault, IsLineTooLong, IsInputTooLong}
use Rattle.cabinet_text.specs.LineReading.{LinesRead, behind_line, at_end, FindsNext, FindsNone}
use Rattle.cabinet_text.specs.declared.session.RunCause.{RunCause}
use Rattle.cabinet_text.specs.LineSteps.{bytes_between, line_in, Progress, GoesOn, EndsLine, EndsAt, FailsIn}
use Rattle.cabinet_text.proofs.Inputs.{newlines-append, line_begun-append, line_begun-clean, begun_clean, FirstLine, first_line, line_alone, lines_behind, next_line}

module _ (input : List ℕ) (lines : ℕ) (begun : List ℕ) (total : ℕ) where
  -- the same bytes are left
  pub same_left : (rest rest' : List ℕ) → rest ≡ rest' → Progress input lines begun total rest → Progress input lines begun total rest'
  same_left rest rest' e p = subst (λ r. Progress input lines begun total r) e p

  -- a part of them that is known by another name
  pub in_part : (part bytes left : List ℕ) → part ≡ bytes → Progress input lines begun total (bytes ++ left)
      → Progress input lines begun total (part ++ left)
  in_part part bytes left e p = rw e p

  -- ---- the line begun

  pub length_left : (rest : List ℕ) → Progress input lines begun total rest → length input ≡ total + length rest
  length_left rest p = omega (arith, ap length p.input_is, length-append p.given rest, p.total_is)

  pub line_is : (rest more : List ℕ) → Progress input lines begun total (rest ++ 10 ∷ more) → newlines rest ≡ 0
      → drop lines (lines_of input) ≡ (begun ++ rest) ∷ lines_of more
  line_is rest more p h =
      ap (λ n. drop n (lines_of input)) p.lines_are ∙ ap (λ l. drop (newlines p.given) (lines_of l)) p.input_is
      ∙ next_line p.given rest more h ∙ ap (λ b. (b ++ rest) ∷ lines_of more) (sym p.begun_is)

  pub last_line_is : Progress input lines begun total [] → 0 < length begun → drop lines (lines_of input) ≡ begun ∷ []
  last_line_is p l =
      let clean : newlines begun ≡ 0 = ap newlines p.begun_is ∙ begun_clean [] p.given refl in
      ap (λ n. drop n (lines_of input)) p.lines_are ∙ ap (λ i. drop (newlines p.given) (lines_of i)) p.input_is
      ∙ lines_behind p.given [] ∙ ap lines_of (append-nil (begun_in p.given) ∙ sym p.begun_is) ∙ line_alone begun clean l

  pub no_line_is : Progress input lines begun total [] → begun ≡ [] → drop lines (lines_of input) ≡ []
  no_line_is p e =
      ap (λ n. drop n (lines_of input)) p.lines_are ∙ ap (λ i. drop (newlines p.given) (lines_of i)) p.input_is
      ∙ lines_behind p.given [] ∙ ap (λ b. lines_of (b ++ [])) (sym p.begun_is ∙ e)

  -- the line begun is left, which bytes lengthen
  pub line_left : (bytes more : List ℕ) → Progress input lines begun total (bytes ++ more) → newlines bytes ≡ 0
      → 0 < length begun + length bytes → IsMemoryRefused input lines
  line_left bytes more p clean some =
      by
      (first_line (begun_in p.given ++ bytes) more
      (omega (arith, newlines-append (begun_in p.given) bytes, begun_clean [] p.given refl, clean))
      (omega (arith, length-append (begun_in p.given) bytes, ap length p.begun_is, some)))
    where
      by : FirstLine ((begun_in p.given ++ bytes) ++ more) → IsMemoryRefused input lines
      by first = record {
        line = first.line;
        later = first.later;
        left =
            ap (λ n. drop n (lines_of input)) p.lines_are ∙ ap (λ i. drop (newlines p.given) (lines_of i)) p.input_is
            ∙ lines_behind p.given (bytes ++ more) ∙ ap lines_of (sym (append_assoc (begun_in p.given) bytes more)) ∙ first.is;
        some = first.some;
      }

  -- ---- more of the input

  pub taken : (bytes more : List ℕ) → Progress input lines begun total (bytes ++ more) → newlines bytes ≡ 0
      → Progress input lines (begun ++ bytes) (total + length bytes) more
  taken bytes more p h = record {
    given = p.given ++ bytes;
    input_is = p.input_is ∙ sym (append_assoc p.given bytes more);
    total_is = omega (arith, length-append p.given bytes, p.total_is);
    lines_are = omega (arith, newlines-append p.given bytes, p.lines_are);
    begun_is = ap (λ b. b ++ bytes) p.begun_is ∙ sym (line_begun-append [] p.given bytes ∙ line_begun-clean (begun_in p.given) bytes h);
  }

  pub gone_on : (bytes more begun' : List ℕ) (total' : ℕ) → Progress input lines begun total (bytes ++ more) → newlines bytes ≡ 0
      → GoesOn begun total bytes begun' total' → Progress input lines begun' total' more
  gone_on bytes more begun' total' p h g = rw (g.longer, g.more) (taken bytes more p h)

  pub ended_line : (total' : ℕ) (rest more : List ℕ) → Progress input lines begun total (rest ++ 10 ∷ more) → newlines rest ≡ 0
      → total' ≡ total + (length rest + 1) → Progress input (lines + 1) [] total' more
  ended_line total' rest more p h t = record {
    given = p.given ++ (rest ++ 10 ∷ []);
    input_is =
        p.input_is ∙ ap (λ l. p.given ++ l) (sym (append_assoc rest (10 ∷ []) more)) ∙ sym (append_assoc p.given (rest ++ 10 ∷ []) more);
    total_is = omega (arith, length-append p.given (rest ++ 10 ∷ []), length-append rest (10 ∷ []), p.total_is);
    lines_are = omega (arith, newlines-append p.given (rest ++ 10 ∷ []), newlines-append rest (10 ∷ []), p.lines_are);
    begun_is = sym (line_begun-append [] p.given (rest ++ 10 ∷ []) ∙ line_begun-append (begun_in p.given) rest (10 ∷ []));
  }

  -- ---- faults

  pub read_fault : (rest : List ℕ) → Progress input lines begun total rest → IsReadFault input rest lines
  read_fault rest p = record { given = p.given; input_is = p.input_is; lines_are = p.lines_are }

  pub line_too_long : (bytes more : List ℕ) → Progress input lines begun total (bytes ++ more) → newlines bytes ≡ 0
      → longest_line < length begun + length bytes → total + length bytes ≤ longest_input + 1 → IsLineTooLong input lines
  line_too_long bytes more p h l w =
      let q = taken bytes more p h in
      record {
        given = q.given;
        rest = more;
        input_is = q.input_is;
        within = omega (arith, q.total_is);
        long = subst (λ b. longest_line < length b) q.begun_is (omega (arith, length-append begun bytes));
        lines_are = q.lines_are;
      }

  -- the byte after the last one that an input may have
  one_more : (b : ℕ) (more : List ℕ) (p : Progress input lines begun total (b ∷ more)) → total ≡ longest_input
      → take (longest_input + 1) input ≡ p.given ++ b ∷ []
  one_more b more p t =
      let n : length (p.given ++ b ∷ []) ≡ longest_input + 1 = omega (arith, length-append p.given (b ∷ []), p.total_is) in
      let i : input ≡ (p.given ++ b ∷ []) ++ more = p.input_is ∙ sym (append_assoc p.given (b ∷ []) more) in
      ap (take (longest_input + 1)) i ∙ take-append-le (longest_input + 1) (p.given ++ b ∷ []) more (omega arith)
      ∙ take_all (longest_input + 1) (p.given ++ b ∷ []) (omega arith)

  given_is : (b : ℕ) (more : List ℕ) (p : Progress input lines begun total (b ∷ more)) → total ≡ longest_input
      → take longest_input input ≡ p.given
  given_is b more p t =
      ap (take longest_input) p.input_is ∙ take-append-le longest_input p.given (b ∷ more) (omega (arith, p.total_is))
      ∙ take_all longest_input p.given (omega (arith, p.total_is))

  begun_with : (b : ℕ) (begin : List ℕ) → (b ≡ 10) ⊎ (length begin < longest_line) → length (line_begun begin (b ∷ [])) ≤ longest_line
  begun_with b begin (inl e) = rw e (omega arith)
  begun_with b begin (inr l) =
      elim (b == 10) as (λ t. length (cond t (line_begun [] []) (line_begun (begin ++ b ∷ []) [])) ≤ longest_line) [
        | true ↦ omega arith
        | false ↦ omega (arith, length-append begin (b ∷ []))
      ]

  pub input_too_long : (b : ℕ) (more : List ℕ) → Progress input lines begun total (b ∷ more) → total ≡ longest_input
      → (b ≡ 10) ⊎ (length begun < longest_line) → IsInputTooLong input lines
  input_too_long b more p t h = record {
    long = omega (arith, length_left (b ∷ more) p);
    no_long_line =
        subst (λ l. length (begun_in l) ≤ longest_line) (sym (one_more b more p t))
        (subst (λ l. length l ≤ longest_line) (sym (line_begun-append [] p.given (b ∷ [])))
        (begun_with b (begun_in p.given) (subst (λ l. (b ≡ 10) ⊎ (length l < longest_line)) p.begun_is h)));
    lines_are = p.lines_are ∙ sym (ap newlines (given_is b more p t));
  }

-- a piece that is longer than what an input may still have
pub cut_at : (piece more : List ℕ) (n : ℕ) → n < length piece
    → piece ++ more ≡ take n piece ++ (get_or piece n 0 ∷ (drop (n + 1) piece ++ more))
cut_at piece more n h =
    ap (λ b. b ++ more) (sym (take-append-drop n piece) ∙ ap (λ l. take n piece ++ l) (drop_more piece n 0 h))
    ∙ append_assoc (take n piece) (get_or piece n 0 ∷ drop (n + 1) piece) more

pub one_other : (b : ℕ) → b ≢ 10 → newlines (b ∷ []) ≡ 0
one_other b h = rw (ne_eqb b 10 h) refl

-- a fault in the first of some bytes is a fault in them
pub fails_within : (line : List ℕ) (total : ℕ) (bytes front rest : List ℕ) (cause : RunCause) → bytes ≡ front ++ rest
    → FailsIn line total front cause → FailsIn line total bytes cause
fails_within line total bytes front rest cause e f = λ input left more lines p.
    f input left (rest ++ more) lines (same_left input lines line total _ _ (ap (λ b. b ++ more) e ∙ append_assoc front rest more) p)

-- ---- parts of a piece

pub between_front : (start end len : ℕ) (piece : List ℕ) → start + end ≤ len
    → bytes_between start (start + end) piece ≡ take end (bytes_between start len piece)
between_front start end len piece h =
    let e : start + end - start ≡ end = omega arith in
    ap (λ n. take n (drop start piece)) e ∙ sym (take-take end (len - start) (drop start piece) (omega arith))

pub between_behind : (start end len : ℕ) (piece : List ℕ) → start + end + 1 ≤ len
    → bytes_between (start + end + 1) len piece ≡ drop (end + 1) (bytes_between start len piece)
between_behind start end len piece h =
    let m : ℕ = len - (start + end + 1) in
    let e : len - start ≡ end + 1 + m = omega arith in
    let f : start + (end + 1) ≡ start + end + 1 = omega arith in
    sym
    (ap (λ n. drop (end + 1) (take n (drop start piece))) e ∙ drop-take (end + 1) m (drop start piece)
    ∙ ap (take m) (drop-drop (end + 1) start piece ∙ ap (λ n. drop n piece) f))

pub between_all : (n : ℕ) (piece : List ℕ) → bytes_between 0 n piece ≡ take n piece
between_all n piece = let e : n - 0 ≡ n = omega arith in ap (λ k. take k piece) e

-- ---- what a reader finds

-- a line that a newline ends
pub found_next : (input left : List ℕ) (lines : ℕ) (begun : List ℕ) (total : ℕ) (bytes : List ℕ) (end : ℕ) (line' : List ℕ)
    (total' : ℕ) (here : List ℕ) (r : LinesRead) → Progress input lines begun total (bytes ++ left) → EndsAt bytes end
    → EndsLine begun total (take end bytes) line' total' → here ≡ take end bytes → r.line ≡ line_in line' here → r.total ≡ total'
    → r.unread ≡ drop (end + 1) bytes → r.ended ≡ false → FindsNext input left lines r
found_next input left lines begun total bytes end line' total' here r p at e h l t unread goes =
    let rest = drop (end + 1) bytes ++ left in
    let along : bytes ++ left ≡ take end bytes ++ 10 ∷ rest =
    ap (λ b. b ++ left) at.parts ∙ append_assoc (take end bytes) (10 ∷ drop (end + 1) bytes) left in
    let q = same_left input lines begun total (bytes ++ left) (take end bytes ++ 10 ∷ rest) along p in
    let n = ended_line input lines begun total total' (take end bytes) rest q at.clean e.more in
    record {
      later = lines_of rest;
      next =
          line_is input lines begun total (take end bytes) rest q at.clean
          ∙ ap (λ b. b ∷ lines_of rest) (sym (l ∙ ap (line_in line') h ∙ e.whole));
      behind =
          behind_line n.given (n.input_is ∙ ap (λ u. n.given ++ (u ++ left)) (sym unread)) (t ∙ n.total_is) n.lines_are (sym n.begun_is) goes;
    }

-- the last line, if the input does not end with a newline
pub found_last : (input left : List ℕ) (lines : ℕ) (begun : List ℕ) (total : ℕ) (here : List ℕ) (r : LinesRead) (none : Bool) (n : ℕ)
    → Progress input lines begun total [] → total ≤ longest_input → none ≡ (n == 0) → n ≡ length begun
    → r.line ≡ line_in begun here → r.ended ≡ true → MatchBool (not none) (FindsNext input left lines r) (FindsNone input lines)
found_last input left lines [] total here r none n p w e l line ends =
    let is : none ≡ true = e ∙ ap (λ k. k == 0) l in
    rw is (record { none = no_line_is input lines [] total p refl; short = omega (arith, length_left input lines [] total [] p) })
found_last input left lines (b ∷ bs) total here r none n p w e l line ends =
    let is : none ≡ false = e ∙ ne_eqb n 0 (λ z. absurd (omega arith)) in
    let last = last_line_is input lines (b ∷ bs) total p (omega arith) in
    rw is (record {
      later = [];
      next = last ∙ ap (λ x. x ∷ []) (sym line);
      behind =
          at_end ends (sym (drop-drop 1 lines (lines_of input)) ∙ ap (drop 1) last) (omega (arith, length_left input lines (b ∷ bs) total [] p));
    })
