-- The stages that the items of a document lead to.
use Rattle.std.proofs.Common.{◌≡◌, ◌≢◌, ℕ, zero, suc, ◌+◌, List, [], ◌∷◌, ◌++◌, length, sym, ap, ◌∙◌, refl, subst, arith}
use Rattle.cabinet_text_grammar.specs.Tree.{Tree, nothing}
use Rattle.cabinet_text_grammar.specs.Wholes.{IsNumbered, wholes_of, IsDocument}
use Rattle.cabinet_text_grammar.specs.Item.{Item, leaf_item, shared_item, none_item, some_item, list_item, map_item, key_item, whole_item, wholes_item, whole_head, items, items_of_table, header, document_items}
use Rattle.cabinet_text_grammar.specs.Frame.{Frame, items_of_stack}
use Rattle.cabinet_text_grammar.specs.Machine.{State, going, complete, stuck, step, run}
use Rattle.cabinet_text_grammar.specs.Reading.{Reading, nothing_read, around, items_of_reading, IsReading, Stage, reading, read, nowhere, onward, take}
use Rattle.cabinet_text_grammar.proofs.Items.{IsUnstuck}
use Rattle.cabinet_text_grammar.proofs.Runs.{run_all, stack_run}
use Rattle.cabinet_text_grammar.proofs.Tables.{IsListed, listed_table, listed_wholes, document_numbered}

abbrev pub IsLegalStage : Stage → Type 0
IsLegalStage (reading r) = IsReading r
IsLegalStage (read table t) = IsDocument t × (wholes_of t ≡ table)
IsLegalStage nowhere = ⊥

abbrev pub items_of_stage : Stage → List Item
items_of_stage (reading r) = items_of_reading r
items_of_stage (read table t) = header (length table) ++ (items_of_table table ++ items table t)
items_of_stage nowhere = []

abbrev pub takes : Stage → List Item → Stage
takes s [] = s
takes (reading r) (i ∷ is) = takes (take r i) is
takes (read table t) (i ∷ is) = nowhere
takes nowhere (i ∷ is) = nowhere

takes-nowhere : (is : List Item) → takes nowhere is ≡ nowhere
takes-nowhere [] = refl
takes-nowhere (i ∷ is) = refl

pub takes-append : (s : Stage) (xs ys : List Item) → takes s (xs ++ ys) ≡ takes (takes s xs) ys
takes-append s [] ys = refl
takes-append (reading r) (x ∷ xs) ys = takes-append (take r x) xs ys
takes-append (read table t) (x ∷ xs) ys = sym (takes-nowhere ys)
takes-append nowhere (x ∷ xs) ys = sym (takes-nowhere ys)

run-stuck : (table : List Tree) (is : List Item) → run table stuck is ≡ stuck
run-stuck table [] = refl
run-stuck table (i ∷ is) = refl

-- an item of a tree leads where it leads among the containers
one_item : (lacking : ℕ) (table : List Tree) (fs : List Frame) (i : Item) (is : List Item) → IsUnstuck (run table (step table fs i) is) → take (record { lacking = lacking; table = table; stack = fs }) i ≡ onward lacking table (step table fs i)
one_item lacking table fs (leaf_item l) is u = refl
one_item lacking table fs (shared_item t) is u = refl
one_item lacking table fs none_item is u = refl
one_item lacking table fs some_item is u = refl
one_item lacking table fs (list_item n) is u = refl
one_item lacking table fs (map_item kind n) is u = refl
one_item lacking table fs (key_item k) is u = refl
one_item lacking table fs (whole_item n) is u = refl
one_item lacking table fs (wholes_item n) is u = absurd (subst IsUnstuck (run-stuck table is) u)
one_item lacking table fs whole_head is u = refl

pub takes-run : (lacking : ℕ) (table : List Tree) (s : State) (is : List Item) → IsUnstuck (run table s is) → takes (onward lacking table s) is ≡ onward lacking table (run table s is)
takes-run lacking table s [] u = refl
takes-run lacking table (going fs) (i ∷ is) u =
    ap (λ w. takes w is) (one_item lacking table fs i is u) ∙ takes-run lacking table (step table fs i) is u
takes-run lacking table (complete t) (i ∷ is) u = absurd u
takes-run lacking table stuck (i ∷ is) u = absurd u

-- the items of a tree complete it
pub takes-tree : (lacking : ℕ) (table : List Tree) (t : Tree) → IsNumbered table t → takes (reading (record { lacking = lacking; table = table; stack = [] })) (items table t) ≡ onward lacking table (complete t)
takes-tree lacking table t is =
    let all = run_all table t [] is in
    takes-run lacking table (going []) (items table t) (subst IsUnstuck (sym all) tt) ∙ ap (onward lacking table) all

announced : (n : ℕ) → takes (reading nothing_read) (header n) ≡ reading (record { lacking = n; table = []; stack = [] })
announced zero = refl
announced (suc n) = refl

takes-table : (lacking : ℕ) (table : List Tree) → IsListed table → takes (reading (record { lacking = lacking + length table; table = []; stack = [] })) (items_of_table table) ≡ reading (record { lacking = lacking; table = table; stack = [] })
takes-table lacking [] is = ap (λ n. reading (record { lacking = n; table = []; stack = [] })) (omega arith)
takes-table lacking (t ∷ table) is =
    ap (λ n. takes (reading (record { lacking = n; table = []; stack = [] })) (items_of_table table ++ items table t)) (omega arith)
    ∙ takes-append (reading (record { lacking = suc lacking + length table; table = []; stack = [] })) (items_of_table table) (items table t)
    ∙ ap (λ w. takes w (items table t)) (takes-table (suc lacking) table is.1)
    ∙ takes-tree (suc lacking) table t is.0

-- what was read after the number of wholes and the trees in those
begun : (lacking : ℕ) (table : List Tree) (more : List Item) → IsListed table → takes (reading nothing_read) (header (lacking + length table) ++ (items_of_table table ++ more)) ≡ takes (reading (record { lacking = lacking; table = table; stack = [] })) more
begun lacking table more is =
    takes-append (reading nothing_read) (header (lacking + length table)) (items_of_table table ++ more)
    ∙ ap (λ w. takes w (items_of_table table ++ more)) (announced (lacking + length table))
    ∙ takes-append (reading (record { lacking = lacking + length table; table = []; stack = [] })) (items_of_table table) more
    ∙ ap (λ w. takes w more) (takes-table lacking table is)

pub takes-reading : (r : Reading) → IsReading r → takes (reading nothing_read) (items_of_reading r) ≡ reading r
takes-reading r is =
    let all = stack_run r.table (around r.lacking) r.stack is.stack in
    begun r.lacking r.table (items_of_stack r.table r.stack) (listed_table r.table is.table)
    ∙ takes-run r.lacking r.table (going []) (items_of_stack r.table r.stack) (subst IsUnstuck (sym all) tt)
    ∙ ap (onward r.lacking r.table) all

pub takes-document : (t : Tree) → takes (reading nothing_read) (document_items t) ≡ read (wholes_of t) t
takes-document t =
    let table = wholes_of t in
    ap (λ n. takes (reading nothing_read) (header n ++ (items_of_table table ++ items table t))) (omega arith)
    ∙ begun 0 table (items table t) (listed_wholes [] t tt)
    ∙ takes-tree 0 table t (document_numbered t)

-- ---- what the items tell

abbrev pub root_of : Stage → Tree
root_of (read table t) = t
root_of _ = nothing

abbrev reading_of : Stage → Reading
reading_of (reading r) = r
reading_of _ = nothing_read

pub same_document : (s t : Tree) → document_items s ≡ document_items t → s ≡ t
same_document s t h = ap root_of (sym (takes-document s) ∙ ap (takes (reading nothing_read)) h ∙ takes-document t)

pub same_reading : (r q : Reading) → IsReading r → IsReading q → items_of_reading r ≡ items_of_reading q → r ≡ q
same_reading r q is it h = ap reading_of (sym (takes-reading r is) ∙ ap (takes (reading nothing_read)) h ∙ takes-reading q it)

pub reading_or_document : (r : Reading) (t : Tree) → IsReading r → items_of_reading r ≢ document_items t
reading_or_document r t is h =
    let same : reading r ≡ read (wholes_of t) t = sym (takes-reading r is) ∙ ap (takes (reading nothing_read)) h ∙ takes-document t in
    cc

-- what the items after those of a reading lead to
pub goes_on : (r q : Reading) (more : List Item) → IsReading r → IsReading q → items_of_reading q ≡ items_of_reading r ++ more → takes (reading r) more ≡ reading q
goes_on r q more is it h =
    ap (λ w. takes w more) (sym (takes-reading r is))
    ∙ sym (takes-append (reading nothing_read) (items_of_reading r) more)
    ∙ ap (takes (reading nothing_read)) (sym h)
    ∙ takes-reading q it

pub ends_on : (r : Reading) (t : Tree) (more : List Item) → IsReading r → document_items t ≡ items_of_reading r ++ more → takes (reading r) more ≡ read (wholes_of t) t
ends_on r t more is h =
    ap (λ w. takes w more) (sym (takes-reading r is))
    ∙ sym (takes-append (reading nothing_read) (items_of_reading r) more)
    ∙ ap (takes (reading nothing_read)) (sym h)
    ∙ takes-document t

after_all : (t : Tree) (i : Item) (more : List Item) → takes (reading nothing_read) (document_items t ++ i ∷ more) ≡ nowhere
after_all t i more = takes-append (reading nothing_read) (document_items t) (i ∷ more) ∙ ap (λ w. takes w (i ∷ more)) (takes-document t)

-- no item follows where a document has ended
pub no_more : (t : Tree) (q : Reading) (i : Item) (more : List Item) → IsReading q → items_of_reading q ≢ document_items t ++ i ∷ more
no_more t q i more it h =
    let same : nowhere ≡ reading q = sym (after_all t i more) ∙ ap (takes (reading nothing_read)) (sym h) ∙ takes-reading q it in
    cc

pub no_more_tree : (t s : Tree) (i : Item) (more : List Item) → document_items s ≢ document_items t ++ i ∷ more
no_more_tree t s i more h =
    let same : nowhere ≡ read (wholes_of s) s = sym (after_all t i more) ∙ ap (takes (reading nothing_read)) (sym h) ∙ takes-document s in
    cc
