-- The stage after one more item is legal where the item is allowed there, and only there.
use Rattle.std.proofs.Common.{◌≡◌, ℕ, zero, suc, ◌+◌, ◌<◌, ◌≤◌, ◌^◌, List, [], ◌∷◌, length, sym, ap, refl, subst, arith}
use Rattle.cabinet_text_grammar.specs.Tree.{Tree}
use Rattle.cabinet_text_grammar.specs.Wholes.{IsNumbered, IsTable, wholes_of}
use Rattle.cabinet_text_grammar.specs.Item.{Item, leaf_item, shared_item, none_item, some_item, list_item, map_item, key_item, whole_item, wholes_item, whole_head}
use Rattle.cabinet_text_grammar.specs.Frame.{Frame, in_option, in_list, at_key, at_value}
use Rattle.cabinet_text_grammar.specs.Due.{the_start, due_in, AdmitsHead, Admits}
use Rattle.cabinet_text_grammar.specs.Machine.{State, going, complete, stuck, step}
use Rattle.cabinet_text_grammar.specs.Reading.{Reading, around, IsReading, due_of, due_at, Stage, reading, read, nowhere, onward, announce, take, IsNew, Suits}
use Rattle.cabinet_text_grammar.proofs.Legal.{IsLegalState, legal-step, legal-before_step}
use Rattle.cabinet_text_grammar.proofs.Tables.{document_table, document_numbered}
use Rattle.cabinet_text_grammar.proofs.Stages.{IsLegalStage, takes}

-- it is not the number of wholes
abbrev pub IsOther : Item → Type 0
IsOther (wholes_item n) = ⊥
IsOther _ = Unit {0}

pub take-other : (r : Reading) (i : Item) → IsOther i → take r i ≡ onward r.lacking r.table (step r.table r.stack i)
take-other r (leaf_item l) other = refl
take-other r (shared_item t) other = refl
take-other r none_item other = refl
take-other r some_item other = refl
take-other r (list_item n) other = refl
take-other r (map_item kind n) other = refl
take-other r (key_item k) other = refl
take-other r (whole_item n) other = refl
take-other r (wholes_item n) other = absurd other
take-other r whole_head other = refl

low : (lacking : ℕ) → around lacking ≤ 64
low zero = omega arith
low (suc lacking) = omega arith

at_first : (i : Item) → IsOther i → Admits the_start i → AdmitsHead [] 0 i
at_first (leaf_item l) other p = p
at_first (shared_item t) other p = p
at_first none_item other p = p
at_first some_item other p = p
at_first (list_item n) other p = p
at_first (map_item kind n) other p = p
at_first (key_item k) other p = p
at_first (whole_item n) other p = p
at_first (wholes_item n) other p = absurd other
at_first whole_head other p = p

pub first_too : (i : Item) → AdmitsHead [] 0 i → Admits the_start i
first_too (leaf_item l) p = p
first_too (shared_item t) p = p
first_too none_item p = p
first_too some_item p = p
first_too (list_item n) p = p
first_too (map_item kind n) p = p
first_too (key_item k) p = absurd p
first_too (whole_item n) p = p
first_too (wholes_item n) p = absurd p
first_too whole_head p = absurd p

plain_due : (lacking : ℕ) (table : List Tree) (fs : List Frame) (i : Item) → IsOther i → Admits (due_of lacking table fs) i → Admits (due_in table (around lacking) fs) i
plain_due zero [] [] i other p = at_first i other p
plain_due zero [] (f ∷ fs) i other p = p
plain_due zero (t ∷ table) fs i other p = p
plain_due (suc lacking) table fs i other p = p

own_due : (lacking : ℕ) (table : List Tree) (fs : List Frame) (i : Item) → Admits (due_in table (around lacking) fs) i → Admits (due_of lacking table fs) i
own_due zero [] [] i p = first_too i p
own_due zero [] (f ∷ fs) i p = p
own_due zero (t ∷ table) fs i p = p
own_due (suc lacking) table fs i p = p

no_wholes_in : (table : List Tree) (n : ℕ) (fs : List Frame) (m : ℕ) → Admits (due_in table n fs) (wholes_item m) → ⊥
no_wholes_in table n [] m p = p
no_wholes_in table n (in_option ∷ outer) m p = p
no_wholes_in table n (in_list k ts ∷ outer) m p = p
no_wholes_in table n (at_key kind k ps ∷ outer) m p = p
no_wholes_in table n (at_value kind k ps l ∷ outer) m p = p

legal-announce : (lacking : ℕ) (table : List Tree) (fs : List Frame) (n : ℕ) → Admits (due_of lacking table fs) (wholes_item n) → IsLegalStage (announce lacking table fs n)
legal-announce zero [] [] zero p = absurd (omega (arith, p.0))
legal-announce zero [] [] (suc n) p = record { counted = omega (arith, p.1); table = tt; stack = tt }
legal-announce zero [] (f ∷ fs) n p = absurd (no_wholes_in [] 0 (f ∷ fs) n p)
legal-announce zero (t ∷ table) fs n p = absurd (no_wholes_in (t ∷ table) 0 fs n p)
legal-announce (suc lacking) table fs n p = absurd (no_wholes_in table 1 fs n p)

legal-complete : (lacking : ℕ) (table : List Tree) (t : Tree) → lacking + length table < 2 ^ 64 → IsTable table → IsLegalState table (around lacking) (complete t) → IsNew lacking table t → IsLegalStage (onward lacking table (complete t))
legal-complete zero table t counted is legal new =
    let few : length (wholes_of t) < 2 ^ 64 = omega (arith, counted, ap length new) in
    ((legal.0, omega (arith, legal.1), few), new)
legal-complete (suc lacking) table t counted is legal new =
    record { counted = omega (arith, counted); table = ((legal.0, omega (arith, legal.1)), legal.2, new, is); stack = tt }

node : (r : Reading) (i : Item) → IsReading r → IsOther i → Admits (due_at r) i → Suits r (step r.table r.stack i) → IsLegalStage (take r i)
node r i is other p suits =
    subst IsLegalStage (sym (take-other r i other))
    (at (step r.table r.stack i) (legal-step r.table (around r.lacking) (low r.lacking) is.table r.stack i is.stack (plain_due r.lacking r.table r.stack i other p)) suits)
  where
    at : (s : State) → IsLegalState r.table (around r.lacking) s → Suits r s → IsLegalStage (onward r.lacking r.table s)
    at (going fs) legal new = record { counted = is.counted; table = is.table; stack = legal }
    at (complete t) legal new = legal-complete r.lacking r.table t is.counted is.table legal new
    at stuck legal new = absurd legal

-- an item that is allowed next and suits leads to a legal stage
pub legal-take : (r : Reading) (i : Item) → IsReading r → Admits (due_at r) i → Suits r (step r.table r.stack i) → IsLegalStage (take r i)
legal-take r (wholes_item n) is p suits = legal-announce r.lacking r.table r.stack n p
legal-take r (leaf_item l) is p suits = node r (leaf_item l) is tt p suits
legal-take r (shared_item t) is p suits = node r (shared_item t) is tt p suits
legal-take r none_item is p suits = node r none_item is tt p suits
legal-take r some_item is p suits = node r some_item is tt p suits
legal-take r (list_item n) is p suits = node r (list_item n) is tt p suits
legal-take r (map_item kind n) is p suits = node r (map_item kind n) is tt p suits
legal-take r (key_item k) is p suits = node r (key_item k) is tt p suits
legal-take r (whole_item n) is p suits = node r (whole_item n) is tt p suits
legal-take r whole_head is p suits = node r whole_head is tt p suits

-- ---- and only such an item does

record Before (r : Reading) (s : State) : Type 0 where
  pub counted : r.lacking + length r.table < 2 ^ 64
  pub table : IsTable r.table
  pub state : IsLegalState r.table (around r.lacking) s
  pub suits : Suits r s

before_complete : (lacking : ℕ) (table : List Tree) (fs : List Frame) (t : Tree) → IsLegalStage (onward lacking table (complete t)) → Before (record { lacking = lacking; table = table; stack = fs }) (complete t)
before_complete zero table fs t is = record {
  counted = omega (arith, is.0.2, ap length is.1);
  table = subst IsTable is.1 (document_table t is.0);
  state = (is.0.0, omega (arith, is.0.1), subst (λ w. IsNumbered w t) is.1 (document_numbered t));
  suits = is.1;
}
before_complete (suc lacking) table fs t is = record {
  counted = omega (arith, is.counted);
  table = is.table.3;
  state = (is.table.0.0, omega (arith, is.table.0.1), is.table.1);
  suits = is.table.2;
}

before_onward : (r : Reading) (s : State) → IsLegalStage (onward r.lacking r.table s) → Before r s
before_onward r (going fs) is = record { counted = is.counted; table = is.table; state = is.stack; suits = tt }
before_onward r (complete t) is = before_complete r.lacking r.table r.stack t is
before_onward r stuck is = absurd is

pub record Allows (r : Reading) (i : Item) : Type 0 where
  pub is_reading : IsReading r
  pub admitted : Admits (due_at r) i
  pub suits : Suits r (step r.table r.stack i)

allows_other : (r : Reading) (i : Item) → IsOther i → IsLegalStage (take r i) → Allows r i
allows_other r i other is =
    let b = before_onward r (step r.table r.stack i) (subst IsLegalStage (take-other r i other) is) in
    let s = legal-before_step r.table (around r.lacking) (omega (arith, b.counted)) r.stack i b.state in
    record {
      is_reading = record { counted = b.counted; table = b.table; stack = s.0 };
      admitted = own_due r.lacking r.table r.stack i s.1;
      suits = b.suits;
    }

allows_number : (lacking : ℕ) (table : List Tree) (fs : List Frame) (n : ℕ) → IsLegalStage (announce lacking table fs n) → Allows (record { lacking = lacking; table = table; stack = fs }) (wholes_item n)
allows_number zero [] [] zero is = absurd is
allows_number zero [] [] (suc n) is = record {
  is_reading = record { counted = omega arith; table = tt; stack = tt };
  admitted = (omega arith, omega (arith, is.counted));
  suits = tt;
}
allows_number zero [] (f ∷ fs) n is = absurd is
allows_number zero (t ∷ table) fs n is = absurd is
allows_number (suc lacking) table fs n is = absurd is

pub allows : (r : Reading) (i : Item) → IsLegalStage (take r i) → Allows r i
allows r (wholes_item n) is = allows_number r.lacking r.table r.stack n is
allows r (leaf_item l) is = allows_other r (leaf_item l) tt is
allows r (shared_item t) is = allows_other r (shared_item t) tt is
allows r none_item is = allows_other r none_item tt is
allows r some_item is = allows_other r some_item tt is
allows r (list_item n) is = allows_other r (list_item n) tt is
allows r (map_item kind n) is = allows_other r (map_item kind n) tt is
allows r (key_item k) is = allows_other r (key_item k) tt is
allows r (whole_item n) is = allows_other r (whole_item n) tt is
allows r whole_head is = allows_other r whole_head tt is

legal-before_takes : (s : Stage) (is : List Item) → IsLegalStage (takes s is) → IsLegalStage s
legal-before_takes s [] legal = legal
legal-before_takes (reading r) (i ∷ is) legal = (allows r i (legal-before_takes (take r i) is legal)).is_reading
legal-before_takes (read table t) (i ∷ is) legal = absurd legal
legal-before_takes nowhere (i ∷ is) legal = absurd legal

-- where items continue after those of a reading, the next one is allowed there
pub allowed : (r : Reading) (i : Item) (is : List Item) → IsLegalStage (takes (reading r) (i ∷ is)) → Allows r i
allowed r i is legal = allows r i (legal-before_takes (take r i) is legal)
