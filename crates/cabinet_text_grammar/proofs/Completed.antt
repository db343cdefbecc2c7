-- Lines that complete a tree: whether it is new, or the first cause that applies.
use Rattle.std.proofs.Common.{◌≡◌, ◌≢◌, ℕ, zero, suc, ◌<◌, List, [], ◌∷◌, IsUtf8, ◌⊎◌, ap, ◌∙◌, refl, inl, inr, arith}
use Rattle.std.specs.Prelude.{IsTrue}
use Rattle.std.proofs.lemmas.Bool.{cases_Bool}
use Rattle.cabinet_text_grammar.specs.Tree.{Tree}
use Rattle.cabinet_text_grammar.specs.Wholes.{has, wholes_of, IsTable}
use Rattle.cabinet_text_grammar.specs.Item.{Item}
use Rattle.cabinet_text_grammar.specs.Due.{nothing_more, Admits}
use Rattle.cabinet_text_grammar.specs.Frame.{Frame, in_option, in_list, at_key, at_value}
use Rattle.cabinet_text_grammar.specs.Due.{due_in}
use Rattle.cabinet_text_grammar.specs.Machine.{State, going, complete, stuck, step}
use Rattle.cabinet_text_grammar.specs.Reading.{Reading, IsReading, due_of, due_at, reading, IsNew, Suits}
use Rattle.cabinet_text_grammar.specs.Spelling.{spelled}
use Rattle.cabinet_text_grammar.specs.Fault.{HasCause, rank, IsFirstCause}
use Rattle.cabinet_text_grammar.specs.declared.cause.Cause.{Cause}
use Rattle.cabinet_text_grammar.specs.declared.cause.Cause.TheVariants.{NotUtf8, NoNewline, EndTooEarly, KeyExpected, BadEscape, KeyOrder, KeyRepeated, UnknownHead, BadNumber, UnknownWhole, TooDeep, RepeatedWhole, WholeOrder, LineAfterEnd, OutOfMemory}
use Rattle.cabinet_text_grammar.proofs.Pieces.{ended_piece}
use Rattle.cabinet_text_grammar.proofs.Equal.{same_tells}
use Rattle.cabinet_text_grammar.proofs.Faults.{due_blameless}
use Rattle.cabinet_text_grammar.proofs.FirstCauses.{at_reading}
use Rattle.cabinet_text_grammar.proofs.Verdicts.{says, wrong, HasTable, due_verdict}

decide_trees : (ts us : List Tree) → Dec (ts ≡ us)
decide_trees [] [] = yes refl
decide_trees [] (u ∷ us) = no (λ h. cc)
decide_trees (t ∷ ts) [] = no (λ h. cc)
decide_trees (t ∷ ts) (u ∷ us) =
    elim (same_tells t u) [
      | inr differs ↦ no (λ h. differs.1 (first h))
      | inl is ↦ elim (decide_trees ts us) [
        | yes same ↦ yes (ap (λ v. v ∷ ts) is.1 ∙ ap (λ vs. u ∷ vs) same)
        | no other ↦ no (λ h. other (rest h))
      ]
    ]
  where
    first : t ∷ ts ≡ u ∷ us → t ≡ u
    first h = cc

    rest : t ∷ ts ≡ u ∷ us → ts ≡ us
    rest h = cc

-- a line that completes the tree of an earlier whole
pub repeated_whole :
    (r : Reading) (i : Item) (t : Tree) → Admits (due_at r) i → step r.table r.stack i ≡ complete t → 0 < r.lacking → IsTrue (has r.table t)
    → IsFirstCause (reading r) (ended_piece (spelled i)) RepeatedWhole
repeated_whole r i t p done some there = record { has_cause = (t, (i, p, refl, done), some, there); first = earlier } where
  earlier : (other : Cause) → rank other < 11 → HasCause (reading r) (ended_piece (spelled i)) other → ⊥
  earlier NotUtf8 below b = due_blameless (due_at r) i p NotUtf8 (λ h. cc) b
  earlier NoNewline below b = due_blameless (due_at r) i p NoNewline (λ h. cc) b
  earlier EndTooEarly below b = due_blameless (due_at r) i p EndTooEarly (λ h. cc) b
  earlier KeyExpected below b = due_blameless (due_at r) i p KeyExpected (λ h. cc) b
  earlier BadEscape below b = due_blameless (due_at r) i p BadEscape (λ h. cc) b
  earlier KeyOrder below b = due_blameless (due_at r) i p KeyOrder (λ h. cc) b
  earlier KeyRepeated below b = due_blameless (due_at r) i p KeyRepeated (λ h. cc) b
  earlier UnknownHead below b = due_blameless (due_at r) i p UnknownHead (λ h. cc) b
  earlier BadNumber below b = due_blameless (due_at r) i p BadNumber (λ h. cc) b
  earlier UnknownWhole below b = due_blameless (due_at r) i p UnknownWhole (λ h. cc) b
  earlier TooDeep below b = due_blameless (due_at r) i p TooDeep (λ h. cc) b
  earlier RepeatedWhole below b = absurd (omega (arith, below))
  earlier WholeOrder below b = absurd (omega (arith, below))
  earlier LineAfterEnd below b = absurd (omega (arith, below))
  earlier OutOfMemory below b = absurd (omega (arith, below))

-- a line that completes the root of other wholes
pub whole_order :
    (r : Reading) (i : Item) (t : Tree) → Admits (due_at r) i → step r.table r.stack i ≡ complete t → r.lacking ≡ 0 → wholes_of t ≢ r.table
    → IsFirstCause (reading r) (ended_piece (spelled i)) WholeOrder
whole_order r i t p done none differs = record { has_cause = (t, (i, p, refl, done), none, differs); first = earlier } where
  earlier : (other : Cause) → rank other < 12 → HasCause (reading r) (ended_piece (spelled i)) other → ⊥
  earlier NotUtf8 below b = due_blameless (due_at r) i p NotUtf8 (λ h. cc) b
  earlier NoNewline below b = due_blameless (due_at r) i p NoNewline (λ h. cc) b
  earlier EndTooEarly below b = due_blameless (due_at r) i p EndTooEarly (λ h. cc) b
  earlier KeyExpected below b = due_blameless (due_at r) i p KeyExpected (λ h. cc) b
  earlier BadEscape below b = due_blameless (due_at r) i p BadEscape (λ h. cc) b
  earlier KeyOrder below b = due_blameless (due_at r) i p KeyOrder (λ h. cc) b
  earlier KeyRepeated below b = due_blameless (due_at r) i p KeyRepeated (λ h. cc) b
  earlier UnknownHead below b = due_blameless (due_at r) i p UnknownHead (λ h. cc) b
  earlier BadNumber below b = due_blameless (due_at r) i p BadNumber (λ h. cc) b
  earlier UnknownWhole below b = due_blameless (due_at r) i p UnknownWhole (λ h. cc) b
  earlier TooDeep below b = due_blameless (due_at r) i p TooDeep (λ h. cc) b
  earlier RepeatedWhole below b = omega (arith, none, b.2)
  earlier WholeOrder below b = absurd (omega (arith, below))
  earlier LineAfterEnd below b = absurd (omega (arith, below))
  earlier OutOfMemory below b = absurd (omega (arith, below))

-- the line is taken in, or another cause applies first
pub data Verdict (r : Reading) (line : List ℕ) : Type 0 where
  taken : (i : Item) → Admits (due_at r) i → Suits r (step r.table r.stack i) → line ≡ spelled i → Verdict r line
  faulty : (cause : Cause) → cause ≢ OutOfMemory → IsFirstCause (reading r) (ended_piece line) cause → Verdict r line

of_new : (lacking : ℕ) (table : List Tree) (t : Tree) → IsNew lacking table t ⊎ (((0 < lacking) × IsTrue (has table t)) ⊎ ((lacking ≡ 0) × (wholes_of t ≢ table)))
of_new zero table t =
    elim (decide_trees (wholes_of t) table) [
      | yes same ↦ inl same
      | no other ↦ inr (inr (refl, other))
    ]
of_new (suc lacking) table t =
    elim (cases_Bool (has table t)) [
      | inl there ↦ inr (inl (omega arith, there))
      | inr new ↦ inl new
    ]

of_item : (r : Reading) (i : Item) (line : List ℕ) → Admits (due_at r) i → line ≡ spelled i → Verdict r line
of_item r i line p is = at (step r.table r.stack i) refl
  where
    at : (s : State) → step r.table r.stack i ≡ s → Verdict r line
    at (going fs) h = taken i p (rw h tt) is
    at stuck h = taken i p (rw h tt) is
    at (complete t) h =
        elim (of_new r.lacking r.table t) [
          | inl new ↦ taken i p (rw h new) is
          | inr old ↦ elim old [
            | inl twice ↦ rw is (faulty RepeatedWhole (λ e. cc) (repeated_whole r i t p h twice.0 twice.1))
            | inr other ↦ rw is (faulty WholeOrder (λ e. cc) (whole_order r i t p h other.0 other.1))
          ]
        ]

due_table : (lacking : ℕ) (r : Reading) (fs : List Frame) → IsReading r → HasTable (due_of lacking r.table fs)
due_table lacking r fs is = at lacking r.table fs is.table
  where
    inner : (table : List Tree) (n : ℕ) (gs : List Frame) → IsTable table → HasTable (due_in table n gs)
    inner table n [] known = known
    inner table n (in_option ∷ outer) known = known
    inner table n (in_list k ts ∷ outer) known = known
    inner table n (at_key kind k ps ∷ outer) known = tt
    inner table n (at_value kind k ps l ∷ outer) known = known

    at : (m : ℕ) (table : List Tree) (gs : List Frame) → IsTable table → HasTable (due_of m table gs)
    at zero [] [] known = tt
    at zero [] (f ∷ gs) known = inner [] 0 (f ∷ gs) known
    at zero (t ∷ table) gs known = inner (t ∷ table) 0 gs known
    at (suc m) table gs known = inner table 1 gs known

pub something_due : (r : Reading) → due_at r ≢ nothing_more
something_due r = at r.lacking r.table r.stack
  where
    inner : (table : List Tree) (n : ℕ) (gs : List Frame) → due_in table n gs ≢ nothing_more
    inner table n [] h = cc
    inner table n (in_option ∷ outer) h = cc
    inner table n (in_list k ts ∷ outer) h = cc
    inner table n (at_key kind k ps ∷ outer) h = cc
    inner table n (at_value kind k ps l ∷ outer) h = cc

    at : (m : ℕ) (table : List Tree) (gs : List Frame) → due_of m table gs ≢ nothing_more
    at zero [] [] h = cc
    at zero [] (f ∷ gs) h = inner [] 0 (f ∷ gs) h
    at zero (t ∷ table) gs h = inner (t ∷ table) 0 gs h
    at (suc m) table gs h = inner table 1 gs h

pub verdict : (r : Reading) (line : List ℕ) → IsReading r → IsUtf8 line → Verdict r line
verdict r line is utf8 =
    elim (due_verdict (due_at r) line (something_due r) (due_table r.lacking r r.stack is) utf8) [
      | says i admitted line_is ↦ of_item r i line admitted line_is
      | wrong cause other low first ↦ faulty cause other (at_reading r (ended_piece line) cause low first)
    ]
