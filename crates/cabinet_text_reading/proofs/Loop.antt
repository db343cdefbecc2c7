-- A line that a stack expects, at the stage that was reached.
use Rattle.std.proofs.Common.{◌≡◌, ℕ, zero, suc, ◌+◌, List, [], ◌∷◌, Some, None, refl, sym, ap, ◌∙◌, subst, arith, Vec, Global, codes, ◌++◌}
use Rattle.cabinet_text_grammar.specs.Due.{the_start, a_head, due_in, AdmitsHead, Admits}
use Rattle.cabinet_text_grammar.specs.Fault.{Piece, HasDueCause, Completes, IsFirstCause}
use Rattle.cabinet_text_grammar.specs.Frame.{Frame, at_key}
use Rattle.cabinet_text_grammar.specs.Item.{Item, leaf_item, shared_item, none_item, some_item, list_item, map_item, key_item, whole_item, wholes_item, whole_head}
use Rattle.cabinet_text_grammar.specs.Machine.{State, going, complete, stuck, step}
use Rattle.cabinet_text_grammar.specs.Reading.{Reading, around, nothing_read, due_of, due_at, reading, onward, IsNew, Suits}
use Rattle.cabinet_text_grammar.specs.Spelling.{escaped, spelled}
use Rattle.cabinet_text_grammar.specs.Tree.{Tree, truth, number, text}
use Rattle.cabinet_text_grammar.specs.declared.cause.Cause.{Cause}
use Rattle.cabinet_text_grammar.specs.declared.cause.Cause.TheVariants.{NotUtf8, NoNewline, EndTooEarly, KeyExpected, BadEscape, KeyOrder, KeyRepeated, UnknownHead, BadNumber, UnknownWhole, TooDeep, RepeatedWhole, WholeOrder, LineAfterEnd, OutOfMemory}
use Rattle.cabinet_text_grammar.proofs.Completed.{repeated_whole, whole_order}
use Rattle.cabinet_text_grammar.proofs.FirstCauses as grammar
use Rattle.cabinet_text_grammar.proofs.LegalStages.{first_too, IsOther, take-other}
use Rattle.cabinet_text_grammar.specs.Completing.{EndsAlone}
use Rattle.cabinet_text_grammar.specs.Steps.{TakesLine}
use Rattle.cabinet_text_reading.proofs.Lifted.{lift_open, lift_memory}
use Rattle.cabinet_text_grammar.proofs.Pieces.{ended_piece}
use Rattle.cabinet_text_grammar.proofs.Start.{HasNoWholes}
use Rattle.cabinet_text_reading.specs.Causes.{IsFirstOf}
use Rattle.cabinet_text_reading.specs.Heads.{IsTextItem}
use Rattle.cabinet_text_reading.specs.View.{kind_of, entries_of, key_due, stack_of, inside_map}
use Rattle.cabinet_text_reading.specs.declared.stack.frame.OpenMap.{OpenMap}
use Rattle.cabinet_text_nodes.specs.View.{node_pairs}
use Rattle.cabinet_text_reading.specs.declared.stack.frame.Frame as code
use Rattle.cabinet_text_reading.proofs.Stacks.{head_told, key_told, counted_items}
use Rattle.cabinet_text_reading.specs.Wholes.{table_in, reading_of, IsAtLine, RefusesTree, number_of}
use Rattle.cabinet_text_reading.specs.declared.wholes.Wholes.{Wholes}

-- the first line, if it is not the number of wholes, is a head
start_first : (line : List ℕ) (cause : Cause) → HasNoWholes line → IsFirstOf (HasDueCause (a_head [] 0) (ended_piece line)) cause → IsFirstOf (HasDueCause the_start (ended_piece line)) cause
start_first line cause none h =
    let first = grammar.at_start line cause none (record { has_cause = h.has_cause; first = h.first }) in
    record { has_cause = first.has_cause; first = first.first }

module _ (d : ℕ) (line : List ℕ) where
  -- where a head is expected
  pub head_first :
      (lacking : ℕ) (table : List Tree) (fs : List Frame) (cause : Cause)
      → due_in table (around lacking) fs ≡ a_head table d
      → (record { lacking = lacking; table = table; stack = fs } ≡ nothing_read → HasNoWholes line)
      → IsFirstOf (HasDueCause (a_head table d) (ended_piece line)) cause → IsFirstOf (HasDueCause (due_of lacking table fs) (ended_piece line)) cause
  head_first zero [] [] cause due none h =
      let same : a_head [] 0 ≡ a_head [] d = due in
      start_first line cause (none refl) (subst (λ x. IsFirstOf (HasDueCause x (ended_piece line)) cause) (sym same) h)
  head_first zero [] (f ∷ fs) cause due none h = subst (λ x. IsFirstOf (HasDueCause x (ended_piece line)) cause) (sym due) h
  head_first zero (t ∷ table) fs cause due none h = subst (λ x. IsFirstOf (HasDueCause x (ended_piece line)) cause) (sym due) h
  head_first (suc lacking) table fs cause due none h = subst (λ x. IsFirstOf (HasDueCause x (ended_piece line)) cause) (sym due) h

pub head_admitted :
    (d lacking : ℕ) (table : List Tree) (fs : List Frame) (i : Item)
    → due_in table (around lacking) fs ≡ a_head table d → AdmitsHead table d i → Admits (due_of lacking table fs) i
head_admitted d zero [] [] i due h =
    let same : a_head [] 0 ≡ a_head [] d = due in
    first_too i (subst (λ x. Admits x i) (sym same) h)
head_admitted d zero [] (f ∷ fs) i due h = subst (λ x. Admits x i) (sym due) h
head_admitted d zero (t ∷ table) fs i due h = subst (λ x. Admits x i) (sym due) h
head_admitted d (suc lacking) table fs i due h = subst (λ x. Admits x i) (sym due) h

-- a line that completes no tree suits
pub suits_open : (r : Reading) (s : State) → ((t : Tree) → s ≡ complete t → ⊥) → Suits r s
suits_open r (going fs) h = tt {0}
suits_open r (complete t) h = absurd (h t refl)
suits_open r stuck h = tt {0}

pub suits_tree : (r : Reading) (s : State) (t : Tree) → s ≡ complete t → IsNew r.lacking r.table t → Suits r s
suits_tree r s t is new = subst (Suits r) (sym is) new

-- a line that completes a tree which is refused
pub tree_refused : (r : Reading) (i : Item) (t : Tree) (cause : Cause) → Admits (due_at r) i → step r.table r.stack i ≡ complete t → RefusesTree r.lacking r.table t cause → IsFirstCause (reading r) (ended_piece (spelled i)) cause
tree_refused r i t RepeatedWhole admitted done h = repeated_whole r i t admitted done h.0 h.1
tree_refused r i t WholeOrder admitted done h = whole_order r i t admitted done h.0 h.1
tree_refused r i t NotUtf8 admitted done h = absurd h
tree_refused r i t NoNewline admitted done h = absurd h
tree_refused r i t EndTooEarly admitted done h = absurd h
tree_refused r i t KeyExpected admitted done h = absurd h
tree_refused r i t BadEscape admitted done h = absurd h
tree_refused r i t KeyOrder admitted done h = absurd h
tree_refused r i t KeyRepeated admitted done h = absurd h
tree_refused r i t UnknownHead admitted done h = absurd h
tree_refused r i t BadNumber admitted done h = absurd h
tree_refused r i t UnknownWhole admitted done h = absurd h
tree_refused r i t TooDeep admitted done h = absurd h
tree_refused r i t LineAfterEnd admitted done h = absurd h
tree_refused r i t OutOfMemory admitted done h = absurd h

-- the line of a text tells no number, and is allowed wherever a head is
pub text_number : (i : Item) → IsTextItem i → None ≡ number_of i
text_number (leaf_item (text t)) h = refl
text_number (shared_item t) h = refl
text_number (leaf_item (truth b)) h = absurd h
text_number (leaf_item (number n)) h = absurd h
text_number none_item h = absurd h
text_number some_item h = absurd h
text_number (list_item n) h = absurd h
text_number (map_item kind n) h = absurd h
text_number (key_item k) h = absurd h
text_number (whole_item n) h = absurd h
text_number (wholes_item n) h = absurd h
text_number whole_head h = absurd h

pub text_admitted : (table : List Tree) (d : ℕ) (i : Item) → IsTextItem i → AdmitsHead table d i
text_admitted table d (leaf_item (text t)) h = h
text_admitted table d (shared_item t) h = h
text_admitted table d (leaf_item (truth b)) h = absurd h
text_admitted table d (leaf_item (number n)) h = absurd h
text_admitted table d none_item h = absurd h
text_admitted table d some_item h = absurd h
text_admitted table d (list_item n) h = absurd h
text_admitted table d (map_item kind n) h = absurd h
text_admitted table d (key_item k) h = absurd h
text_admitted table d (whole_item n) h = absurd h
text_admitted table d (wholes_item n) h = absurd h
text_admitted table d whole_head h = absurd h

-- ---- lines of texts for which memory was refused

-- the tree that a text completes
pub text_ends : (i : Item) → IsTextItem i → EndsAlone i
text_ends (leaf_item (text t)) h = tt {0}
text_ends (shared_item t) h = tt {0}
text_ends (leaf_item (truth b)) h = absurd h
text_ends (leaf_item (number n)) h = absurd h
text_ends none_item h = absurd h
text_ends some_item h = absurd h
text_ends (list_item n) h = absurd h
text_ends (map_item kind n) h = absurd h
text_ends (key_item k) h = absurd h
text_ends (whole_item n) h = absurd h
text_ends (wholes_item n) h = absurd h
text_ends whole_head h = absurd h

-- memory that is refused for a line which completes no tree, or one that is new
pub memory_open : (r : Reading) (i : Item) → Admits (due_at r) i → ((t : Tree) → step r.table r.stack i ≡ complete t → ⊥) → HasDueCause (due_at r) (ended_piece (spelled i)) OutOfMemory → IsFirstCause (reading r) (ended_piece (spelled i)) OutOfMemory
memory_open r i admitted none memory = lift_memory r i admitted (suits_open r (step r.table r.stack i) none) memory

pub memory_new : (r : Reading) (i : Item) (t : Tree) → Admits (due_at r) i → step r.table r.stack i ≡ complete t → IsNew r.lacking r.table t → HasDueCause (due_at r) (ended_piece (spelled i)) OutOfMemory → IsFirstCause (reading r) (ended_piece (spelled i)) OutOfMemory
memory_new r i t admitted done new memory = lift_memory r i admitted (suits_tree r (step r.table r.stack i) t done new) memory

pub not_wholes : (table : List Tree) (d : ℕ) (i : Item) → AdmitsHead table d i → IsOther i
not_wholes table d (leaf_item l) h = tt {0}
not_wholes table d (shared_item t) h = tt {0}
not_wholes table d none_item h = tt {0}
not_wholes table d some_item h = tt {0}
not_wholes table d (list_item n) h = tt {0}
not_wholes table d (map_item kind n) h = tt {0}
not_wholes table d (key_item k) h = absurd h
not_wholes table d (whole_item n) h = tt {0}
not_wholes table d (wholes_item n) h = absurd h
not_wholes table d whole_head h = absurd h

-- the line of a head that is allowed and suits
pub head_taken : (r : Reading) (i : Item) (table : List Tree) (d : ℕ) (line : List ℕ) (s : State) → Admits (due_at r) i → AdmitsHead table d i → line ≡ spelled i → Suits r (step r.table r.stack i) → s ≡ step r.table r.stack i → TakesLine r line (onward r.lacking r.table s)
head_taken r i table d line s admitted head is suits next = record {
  item = i;
  admitted = admitted;
  line_is = is;
  suits = suits;
  stage_is = ap (onward r.lacking r.table) next ∙ sym (take-other r i (not_wholes table d i head));
}

-- the depth at which a head is expected
pub depth_due : (table : List Tree) (lacking : ℕ) (v : Vec code.Frame Global) (n a : ℕ) → n ≡ v.len → a ≡ around lacking → due_in table (around lacking) (stack_of table v.items) ≡ a_head table (n + a)
depth_due table lacking v n a counted outside = head_told table (around lacking) v.items ∙ ap (a_head table) (omega (arith, counted_items v, counted, outside))

-- what is known where the line of a head is read
pub record AtHead (w : Wholes) (stack : Vec code.Frame Global) (d : ℕ) (line lines : List ℕ) : Type 0 where
  pub at : IsAtLine w (stack_of (table_in w) stack.items) line lines
  pub due : due_in (table_in w) (around w.lacking) (stack_of (table_in w) stack.items) ≡ a_head (table_in w) d

pub at_head : (w : Wholes) (stack : Vec code.Frame Global) (n a : ℕ) (line lines : List ℕ) → n ≡ stack.len → a ≡ around w.lacking → IsAtLine w (stack_of (table_in w) stack.items) line lines → AtHead w stack (n + a) line lines
at_head w stack n a line lines counted outside at = record { at = at; due = depth_due (table_in w) w.lacking stack n a counted outside }

module _ {w : Wholes} {stack : Vec code.Frame Global} {d : ℕ} {line lines : List ℕ} (h : AtHead w stack d line lines) where
  -- the first cause of those of a head is that of what is due
  pub due_here : (cause : Cause) → IsFirstOf (HasDueCause (a_head (table_in w) d) (ended_piece line)) cause → IsFirstOf (HasDueCause (due_at (reading_of w (stack_of (table_in w) stack.items))) (ended_piece line)) cause
  due_here cause first = head_first d line w.lacking (table_in w) (stack_of (table_in w) stack.items) cause h.due h.at.begun first

  pub admitted_here : (i : Item) → AdmitsHead (table_in w) d i → Admits (due_at (reading_of w (stack_of (table_in w) stack.items))) i
  admitted_here i head = head_admitted d w.lacking (table_in w) (stack_of (table_in w) stack.items) i h.due head

  pub here_for : (i : Item) → line ≡ spelled i → IsAtLine w (stack_of (table_in w) stack.items) (spelled i) lines
  here_for i is = subst (λ l. IsAtLine w (stack_of (table_in w) stack.items) l lines) is h.at

-- ---- keys

key_due_in : (lacking : ℕ) (table : List Tree) (f : Frame) (fs : List Frame) → due_of lacking table (f ∷ fs) ≡ due_in table (around lacking) (f ∷ fs)
key_due_in zero [] f fs = refl
key_due_in zero (t ∷ table) f fs = refl
key_due_in (suc lacking) table f fs = refl

module _ (w : Wholes) (m : OpenMap) (fs : List code.Frame) where
  -- where a key is expected
  pub key_here : due_at (reading_of w (inside_map (table_in w) m fs)) ≡ key_due m.pairs
  key_here = key_due_in w.lacking (table_in w) (at_key (kind_of m.pairs) m.count (node_pairs (table_in w) (entries_of m.pairs))) (stack_of (table_in w) fs) ∙ key_told (table_in w) (around w.lacking) m fs

  no_tree_of_key : (i : Item) (t : Tree) → Admits (key_due m.pairs) i → step (table_in w) (inside_map (table_in w) m fs) i ≡ complete t → ⊥
  no_tree_of_key (key_item k) t admitted done = cc
  no_tree_of_key (leaf_item l) t admitted done = absurd admitted
  no_tree_of_key (shared_item u) t admitted done = absurd admitted
  no_tree_of_key none_item t admitted done = absurd admitted
  no_tree_of_key some_item t admitted done = absurd admitted
  no_tree_of_key (list_item n) t admitted done = absurd admitted
  no_tree_of_key (map_item kind n) t admitted done = absurd admitted
  no_tree_of_key (whole_item n) t admitted done = absurd admitted
  no_tree_of_key (wholes_item n) t admitted done = absurd admitted
  no_tree_of_key whole_head t admitted done = absurd admitted

  no_key_completes : (line : List ℕ) (t : Tree) → Completes (reading_of w (inside_map (table_in w) m fs)) line t → ⊥
  no_key_completes line t h = no_tree_of_key h.0 t (subst (λ due. Admits due h.0) key_here h.1) h.3

  -- the first cause of those of a key
  pub key_first : (p : Piece) (cause : Cause) → IsFirstOf (HasDueCause (key_due m.pairs) (Some p)) cause → IsFirstCause (reading (reading_of w (inside_map (table_in w) m fs))) (Some p) cause
  key_first p cause first =
      lift_open (reading_of w (inside_map (table_in w) m fs)) p cause (λ h. no_key_completes p.bytes h.0 h.1) (λ h. no_key_completes p.bytes h.0 h.1)
      (subst (λ due. IsFirstOf (HasDueCause due (Some p)) cause) (sym key_here) first)

  -- the line of a key that is allowed
  pub key_taken : (k line argument : List ℕ) (after : List Frame) → Admits (key_due m.pairs) (key_item k) → line ≡ codes "'" ++ argument → argument ≡ escaped k → going after ≡ step (table_in w) (inside_map (table_in w) m fs) (key_item k)
      → TakesLine (reading_of w (inside_map (table_in w) m fs)) line (onward w.lacking (table_in w) (going after))
  key_taken k line argument after admitted is told next = record {
    item = key_item k;
    admitted = subst (λ due. Admits due (key_item k)) (sym key_here) admitted;
    line_is = is ∙ ap (λ b. codes "'" ++ b) told;
    suits = tt {0};
    stage_is = ap (onward w.lacking (table_in w)) next;
  }
