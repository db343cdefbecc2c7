-- Whether the item of a line is allowed where something is expected, or the first cause that applies to the line.
use Rattle.std.proofs.Common.{◌≡◌, ◌≢◌, ℕ, ◌+◌, ◌<◌, ◌^◌, List, [], ◌++◌, length, IsUtf8, sym, ap, ◌∙◌, refl, inl, inr, subst, arith, codes}
use Rattle.std.specs.Fmt.{decimal}
use Rattle.std.specs.Str.Parse.{digits_value}
use Rattle.std.proofs.lemmas.Fmt.{digits_value-decimal}
use Rattle.std.proofs.lemmas.Bool.{cases_lt}
use Rattle.cabinet_text_grammar.specs.Keys.{MapKind, ordered, hashed, kept}
use Rattle.cabinet_text_grammar.specs.Tree.{Tree, number, text, depth as tree_depth}
use Rattle.cabinet_text_grammar.specs.Wholes.{IsTable}
use Rattle.cabinet_text_grammar.specs.Item.{Item, leaf_item, shared_item, none_item, some_item, list_item, map_item, key_item, whole_item, wholes_item, whole_head}
use Rattle.cabinet_text_grammar.specs.Due.{Due, the_start, a_head, a_key, nothing_more, AdmitsHead, Admits}
use Rattle.cabinet_text_grammar.specs.Machine.{step}
use Rattle.cabinet_text_grammar.specs.Reading.{Reading, due_at, reading, Suits}
use Rattle.cabinet_text_grammar.specs.Spelling.{escaped, spelled}
use Rattle.cabinet_text_grammar.specs.Fault.{HasBadEscape, HasCount, IsHead, bad_number, bad_count, HasDueCause, rank, IsFirstCause}
use Rattle.cabinet_text_grammar.specs.declared.cause.Cause.{Cause}
use Rattle.cabinet_text_grammar.specs.declared.cause.Cause.TheVariants.{KeyExpected, BadEscape, UnknownHead, BadNumber, UnknownWhole, TooDeep, OutOfMemory}
use Rattle.cabinet_text_grammar.proofs.Escapes.{first_differs, rest_same}
use Rattle.cabinet_text_grammar.proofs.Lacking.{own}
use Rattle.cabinet_text_grammar.proofs.Utf8.{IsUtf8-unescaped, IsUtf8-past_word}
use Rattle.cabinet_text_grammar.proofs.Pieces.{ended_piece}
use Rattle.cabinet_text_grammar.proofs.ReadBack.{IsItem, unescaped, unescaped-escaped, item_of_line, read_back, same_item, no_bad_escape}
use Rattle.cabinet_text_grammar.proofs.Tables.{some_same, is_numbered, deep_numbered}
use Rattle.cabinet_text_grammar.proofs.LegalStages.{first_too}
use Rattle.cabinet_text_grammar.proofs.Faults.{head_item, blameless}
use Rattle.cabinet_text_grammar.proofs.FirstCauses.{IsFirstOf, key_expected, bad_key_escape, wrong_key_cause, wrong_key, bad_escape, no_item, unknown_head, bad_number_first, unknown_whole, too_deep, at_start, bad_wholes}
use Rattle.cabinet_text_grammar.proofs.Decided.{decide_same, decide_below, decide_item, IsAfter, decide_word, decide_follows}

-- OutOfMemory is the first cause where it applies to the line of an item that is allowed there and suits
pub memory_first :
    (r : Reading) (i : Item) → Admits (due_at r) i → Suits r (step r.table r.stack i) → HasDueCause (due_at r) (ended_piece (spelled i)) OutOfMemory
    → IsFirstCause (reading r) (ended_piece (spelled i)) OutOfMemory
memory_first r i p suits applies = record {
  has_cause = applies;
  first = λ other below b. blameless r i p suits other (λ same. omega (arith, below, ap rank same)) b;
}

-- the line is that of an item that is allowed there, or another cause applies first
pub data Verdict (due : Due) (line : List ℕ) : Type 0 where
  says : (i : Item) → Admits due i → line ≡ spelled i → Verdict due line
  wrong : (cause : Cause) → cause ≢ OutOfMemory → rank cause < 11 → IsFirstOf due (ended_piece line) cause → Verdict due line

pub no_words : (line : List ℕ) → ((rest : List ℕ) → line ≢ codes "text '" ++ rest) → ((rest : List ℕ) → line ≢ codes "shared '" ++ rest) → HasBadEscape line → ⊥
no_words line no_text no_shared (inl b) = no_text b.0 b.1
no_words line no_text no_shared (inr b) = no_shared b.0 b.1

-- the item of a line where a head is expected
of_container : (table : List Tree) (depth : ℕ) (i : Item) (line : List ℕ) → AdmitsHead table 0 i → (depth < 64 → AdmitsHead table depth i) → (AdmitsHead table depth i → depth < 64) → line ≡ spelled i → Verdict (a_head table depth) line
of_container table depth i line first may may_not is =
    elim (decide_below depth 64) [
      | yes room ↦ says i (may room) is
      | no full ↦ rw is (wrong TooDeep (λ h. cc) (omega arith) (too_deep table depth i first (λ p. full (may_not p))))
    ]

no_count : (k rest : List ℕ) → HasCount (spelled (key_item k)) rest → ⊥
no_count k rest (inl h) = first_differs refl h
no_count k rest (inr (inl h)) = first_differs refl h
no_count k rest (inr (inr (inl h))) = first_differs refl h
no_count k rest (inr (inr (inr (inl h)))) = first_differs refl h
no_count k rest (inr (inr (inr (inr h)))) = first_differs refl h

-- a line of an item that is no head
no_head_line : (table : List Tree) (depth : ℕ) (i : Item) → IsUtf8 (spelled i) → IsItem i → (IsHead i → ⊥) → ((rest : List ℕ) → spelled i ≢ codes "int " ++ rest) → ((rest : List ℕ) → HasCount (spelled i) rest → ⊥) → IsFirstOf (a_head table depth) (ended_piece (spelled i)) UnknownHead
no_head_line table depth i utf8 is other no_number none =
    unknown_head table depth (spelled i) utf8 (no_bad_escape i is) (λ j p h. other (subst IsHead (sym (same_item i j is (head_item j p) h)) p)) no_number none

no_count_wholes : (n : ℕ) (rest : List ℕ) → HasCount (spelled (wholes_item n)) rest → ⊥
no_count_wholes n rest (inl h) = first_differs refl h
no_count_wholes n rest (inr (inl h)) = first_differs refl h
no_count_wholes n rest (inr (inr (inl h))) = first_differs refl h
no_count_wholes n rest (inr (inr (inr (inl h)))) = first_differs refl h
no_count_wholes n rest (inr (inr (inr (inr h)))) = first_differs refl (rest_same (rest_same (rest_same (rest_same (rest_same h)))))

no_count_whole : (rest : List ℕ) → HasCount (spelled whole_head) rest → ⊥
no_count_whole rest (inl h) = first_differs refl h
no_count_whole rest (inr (inl h)) = first_differs refl h
no_count_whole rest (inr (inr (inl h))) = first_differs refl h
no_count_whole rest (inr (inr (inr (inl h)))) = first_differs refl h
no_count_whole rest (inr (inr (inr (inr h)))) = cc

of_whole : (table : List Tree) (depth n : ℕ) (line : List ℕ) → n < 2 ^ 64 → IsTable table → line ≡ spelled (whole_item n) → Verdict (a_head table depth) line
of_whole table depth n line p is_table is =
    elim (cases_lt n (length table)) [
      | inr above ↦ rw is (wrong UnknownWhole (λ h. cc) (omega arith) (unknown_whole table depth n p above))
      | inl below ↦
          let found = is_numbered table n below in
          let t = found.0 in
          elim (decide_below (depth + tree_depth t) 64) [
            | yes room ↦ says (whole_item n) (p, (t, found.1, room)) is
            | no full ↦
                rw is
                (wrong TooDeep (λ h. cc) (omega arith) (too_deep table depth (whole_item n) (p, (t, found.1, omega (arith, deep_numbered table n t is_table found.1)))
                (λ q. full (subst (λ u. depth + tree_depth u < 64) (some_same q.1.0 t (sym q.1.1 ∙ found.1)) q.1.2))))
          ]
    ]

of_item : (table : List Tree) (depth : ℕ) (i : Item) (line : List ℕ) → IsTable table → IsUtf8 line → IsItem i → line ≡ spelled i → Verdict (a_head table depth) line
of_item table depth (leaf_item l) line is_table utf8 p is = says (leaf_item l) p is
of_item table depth (shared_item t) line is_table utf8 p is = says (shared_item t) p is
of_item table depth none_item line is_table utf8 p is = of_container table depth none_item line (omega arith) (λ room. room) (λ room. room) is
of_item table depth some_item line is_table utf8 p is = of_container table depth some_item line (omega arith) (λ room. room) (λ room. room) is
of_item table depth (list_item n) line is_table utf8 p is = of_container table depth (list_item n) line (p, omega arith) (λ room. (p, room)) (λ q. q.1) is
of_item table depth (map_item kind n) line is_table utf8 p is = of_container table depth (map_item kind n) line (p, omega arith) (λ room. (p, room)) (λ q. q.1) is
of_item table depth (whole_item n) line is_table utf8 p is = of_whole table depth n line p is_table is
of_item table depth (key_item k) line is_table utf8 p is =
    rw is (wrong UnknownHead (λ h. cc) (omega arith) (no_head_line table depth (key_item k) (subst IsUtf8 is utf8) p (λ h. h) (λ rest h. first_differs refl h) (no_count k)))
of_item table depth (wholes_item n) line is_table utf8 p is =
    rw is (wrong UnknownHead (λ h. cc) (omega arith) (no_head_line table depth (wholes_item n) (subst IsUtf8 is utf8) p (λ h. h) (λ rest h. first_differs refl h) (no_count_wholes n)))
of_item table depth whole_head line is_table utf8 p is =
    rw is (wrong UnknownHead (λ h. cc) (omega arith) (no_head_line table depth whole_head (subst IsUtf8 is utf8) p (λ h. h) (λ rest h. first_differs refl h) no_count_whole))

-- a line that is no item's
abbrev IsNoItem : List ℕ → Type 0
IsNoItem line = (i : Item) → IsItem i → line ≢ spelled i

not_counted : (line rest : List ℕ) → IsNoItem line → HasCount line rest → (n : ℕ) → n < 2 ^ 64 → rest ≢ decimal n
not_counted line rest none (inl h) n below e = none (list_item n) below (h ∙ ap (λ w. codes "list " ++ w) e)
not_counted line rest none (inr (inl h)) n below e = none (map_item ordered n) below (h ∙ ap (λ w. codes "ordered " ++ w) e)
not_counted line rest none (inr (inr (inl h))) n below e = none (map_item hashed n) below (h ∙ ap (λ w. codes "hashed " ++ w) e)
not_counted line rest none (inr (inr (inr (inl h)))) n below e = none (map_item kept n) below (h ∙ ap (λ w. codes "kept " ++ w) e)
not_counted line rest none (inr (inr (inr (inr h)))) n below e = none (whole_item n) below (h ∙ ap (λ w. codes "whole " ++ w) e)

decide_count : (line : List ℕ) → Dec ((rest : List ℕ) × HasCount line rest)
decide_count line =
    elim (decide_word (codes "list ") line) [
      | yes h ↦ yes (h.0, inl h.1)
      | no no_list ↦ elim (decide_word (codes "ordered ") line) [
        | yes h ↦ yes (h.0, inr (inl h.1))
        | no no_ordered ↦ elim (decide_word (codes "hashed ") line) [
          | yes h ↦ yes (h.0, inr (inr (inl h.1)))
          | no no_hashed ↦ elim (decide_word (codes "kept ") line) [
            | yes h ↦ yes (h.0, inr (inr (inr (inl h.1))))
            | no no_kept ↦ elim (decide_word (codes "whole ") line) [
              | yes h ↦ yes (h.0, inr (inr (inr (inr h.1))))
              | no no_whole ↦ no (λ c. uncounted c.0 no_list no_ordered no_hashed no_kept no_whole c.1)
            ]
          ]
        ]
      ]
    ]
  where
    uncounted : (rest : List ℕ) → (IsAfter (codes "list ") line → ⊥) → (IsAfter (codes "ordered ") line → ⊥) → (IsAfter (codes "hashed ") line → ⊥) → (IsAfter (codes "kept ") line → ⊥) → (IsAfter (codes "whole ") line → ⊥) → HasCount line rest → ⊥
    uncounted rest no_list no_ordered no_hashed no_kept no_whole (inl h) = no_list (rest, h)
    uncounted rest no_list no_ordered no_hashed no_kept no_whole (inr (inl h)) = no_ordered (rest, h)
    uncounted rest no_list no_ordered no_hashed no_kept no_whole (inr (inr (inl h))) = no_hashed (rest, h)
    uncounted rest no_list no_ordered no_hashed no_kept no_whole (inr (inr (inr (inl h)))) = no_kept (rest, h)
    uncounted rest no_list no_ordered no_hashed no_kept no_whole (inr (inr (inr (inr h)))) = no_whole (rest, h)

-- the cause that applies where a head is expected, if neither a text nor a shared text begins the line
number_or_none : (table : List Tree) (depth : ℕ) (line : List ℕ) → IsUtf8 line → IsNoItem line → (HasBadEscape line → ⊥) → Verdict (a_head table depth) line
number_or_none table depth line utf8 none well =
    elim (decide_word (codes "int ") line) [
      | yes h ↦
          wrong BadNumber (λ h. cc) (omega arith) (bad_number_first table depth line utf8 well (bad_number h.0 h.1 (λ n fits e. none (leaf_item (number n)) fits (h.1 ∙ ap (λ w. codes "int " ++ w) e))))
      | no no_number ↦ elim (decide_count line) [
        | yes h ↦ wrong BadNumber (λ h. cc) (omega arith) (bad_number_first table depth line utf8 well (bad_count h.0 h.1 (not_counted line h.0 none h.1)))
        | no uncounted ↦
            wrong UnknownHead (λ h. cc) (omega arith) (unknown_head table depth line utf8 well (λ i p. none i (head_item i p)) (λ rest h. no_number (rest, h)) (λ rest h. uncounted (rest, h)))
      ]
    ]

of_no_item : (table : List Tree) (depth : ℕ) (line : List ℕ) → IsUtf8 line → IsNoItem line → Verdict (a_head table depth) line
of_no_item table depth line utf8 none =
    elim (decide_word (codes "text '") line) [
      | yes h ↦ wrong BadEscape (λ h. cc) (omega arith) (bad_escape table depth line utf8 (inl (h.0, h.1, λ t u e. none (leaf_item (text t)) u (h.1 ∙ ap (λ w. codes "text '" ++ w) e))))
      | no no_text ↦ elim (decide_word (codes "shared '") line) [
        | yes h ↦ wrong BadEscape (λ h. cc) (omega arith) (bad_escape table depth line utf8 (inr (h.0, h.1, λ t u e. none (shared_item t) u (h.1 ∙ ap (λ w. codes "shared '" ++ w) e))))
        | no no_shared ↦ number_or_none table depth line utf8 none (no_words line (λ rest h. no_text (rest, h)) (λ rest h. no_shared (rest, h)))
      ]
    ]

of_head : (table : List Tree) (depth : ℕ) (line : List ℕ) → IsTable table → IsUtf8 line → Verdict (a_head table depth) line
of_head table depth line is_table utf8 =
    elim (decide_same (spelled (item_of_line line)) line) [
      | no differs ↦ of_no_item table depth line utf8 (no_item line differs)
      | yes is ↦ elim (decide_item (item_of_line line)) [
        | yes p ↦ of_item table depth (item_of_line line) line is_table utf8 p (sym is)
        | no p ↦ of_no_item table depth line utf8 (λ i q h. p (subst IsItem (sym (ap item_of_line h ∙ read_back i q)) q))
      ]
    ]

-- ---- the first line

-- where the word of their number begins the line
of_wholes : (line rest : List ℕ) → IsUtf8 line → line ≡ codes "wholes " ++ rest → Verdict the_start line
of_wholes line rest utf8 is =
    elim (decide_same rest (decimal (digits_value 10 rest))) [
      | no differs ↦
          wrong BadNumber (λ h. cc) (omega arith) (bad_wholes line utf8 (rest, is, λ n some below h. differs (h ∙ ap decimal (sym (digits_value-decimal own n below)) ∙ ap (λ w. decimal (digits_value 10 w)) (sym h))))
      | yes same ↦
          let n = digits_value 10 rest in
          elim (decide_below 0 n) [
            | no none ↦ wrong BadNumber (λ h. cc) (omega arith) (bad_wholes line utf8 (rest, is, λ m some below h. none (same_count m below h some)))
            | yes some ↦ elim (decide_below n (2 ^ 64)) [
              | no above ↦ wrong BadNumber (λ h. cc) (omega arith) (bad_wholes line utf8 (rest, is, λ m some below h. above (same_bound m below h)))
              | yes below ↦ says (wholes_item n) (some, below) (is ∙ ap (λ w. codes "wholes " ++ w) same)
            ]
          ]
    ]
  where
    value : (m : ℕ) → m < 2 ^ 64 → rest ≡ decimal m → digits_value 10 rest ≡ m
    value m below h = ap (digits_value 10) h ∙ digits_value-decimal own m below

    same_count : (m : ℕ) → m < 2 ^ 64 → rest ≡ decimal m → 0 < m → 0 < digits_value 10 rest
    same_count m below h some = omega (arith, some, value m below h)

    same_bound : (m : ℕ) → m < 2 ^ 64 → rest ≡ decimal m → digits_value 10 rest < 2 ^ 64
    same_bound m below h = omega (arith, below, value m below h)

of_first : (line : List ℕ) → IsUtf8 line → Verdict the_start line
of_first line utf8 =
    elim (decide_word (codes "wholes ") line) [
      | yes h ↦ of_wholes line h.0 utf8 h.1
      | no none ↦ elim (of_head [] 0 line tt utf8) [
        | says i admitted is ↦ says i (first_too i admitted) is
        | wrong cause other low first ↦ wrong cause other low (at_start line cause (λ rest h. none (rest, h)) first)
      ]
    ]

not_memory : (kind : MapKind) → wrong_key_cause kind ≢ OutOfMemory
not_memory ordered h = cc
not_memory hashed h = cc
not_memory kept h = cc

low_key : (kind : MapKind) → rank (wrong_key_cause kind) < 11
low_key ordered = omega arith
low_key hashed = omega arith
low_key kept = omega arith

of_key : (kind : MapKind) (keys : List (List ℕ)) (line k : List ℕ) → IsUtf8 k → line ≡ spelled (key_item k) → Verdict (a_key kind keys) line
of_key kind keys line k utf8 is =
    elim (decide_follows kind keys k) [
      | yes follows ↦ says (key_item k) (utf8, follows) is
      | no follows ↦ rw is (wrong (wrong_key_cause kind) (not_memory kind) (low_key kind) (wrong_key kind keys k utf8 follows))
    ]

-- bytes that are not escaped as they would be read back are no text's escaped form
not_escaped : (rest : List ℕ) → rest ≢ escaped (unescaped rest) → (t : List ℕ) → rest ≢ escaped t
not_escaped rest differs t h = differs (h ∙ ap escaped (sym (unescaped-escaped t)) ∙ ap (λ w. escaped (unescaped w)) (sym h))

of_key_line : (kind : MapKind) (keys : List (List ℕ)) (line : List ℕ) → IsUtf8 line → Verdict (a_key kind keys) line
of_key_line kind keys line utf8 =
    elim (decide_word (codes "'") line) [
      | no unquoted ↦ wrong KeyExpected (λ h. cc) (omega arith) (key_expected kind keys line utf8 (λ rest h. unquoted (rest, h)))
      | yes h ↦ elim (decide_same h.0 (escaped (unescaped h.0))) [
        | no differs ↦ wrong BadEscape (λ h. cc) (omega arith) (bad_key_escape kind keys line utf8 (h.0, h.1, λ t u. not_escaped h.0 differs t))
        | yes is ↦
            of_key kind keys line (unescaped h.0) (IsUtf8-unescaped (unescaped h.0) (subst IsUtf8 is (IsUtf8-past_word (codes "'") h.0 refl (subst IsUtf8 h.1 utf8))))
            (h.1 ∙ ap (λ w. codes "'" ++ w) is)
      ]
    ]

-- wholes whose numbers may follow are those of a table
abbrev pub HasTable : Due → Type 0
HasTable (a_head table depth) = IsTable table
HasTable _ = Unit {0}

pub due_verdict : (due : Due) (line : List ℕ) → due ≢ nothing_more → HasTable due → IsUtf8 line → Verdict due line
due_verdict the_start line more is_table utf8 = of_first line utf8
due_verdict (a_head table depth) line more is_table utf8 = of_head table depth line is_table utf8
due_verdict (a_key kind keys) line more is_table utf8 = of_key_line kind keys line utf8
due_verdict nothing_more line more is_table utf8 = absurd (more refl)
