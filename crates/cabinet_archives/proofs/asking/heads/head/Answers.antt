use Rattle.std.proofs.Common.{sym, subst, ap, ◌∙◌, Bor, List, ℕ, to_z, of_z, arith}
use Rattle.std.proofs.lemmas.Int.{to_z-of_z}
use Rattle.std.specs.Prelude.{true, false, ⊤}
use Rattle.std.specs.Int.{w64}
use Rattle.archive_shape_layout.specs.Bytes.{window}
use Rattle.archive_shape_layout.specs.Shape.Shape.{number, truth, text}
use Rattle.archive_shape_layout.specs.Shape.Pointee.{str}
use Rattle.archive_shape_layout.specs.Value.Value.{integer}
use Rattle.archive_shape.specs.Key.{HeldAt}
use Rattle.archive_forms_laws.specs.Text.{HasText, IsText}
use Rattle.archive_forms_rc.specs.Pointers.{HasCounted, IsRcStrAt}
use Rattle.archive_forms_values.specs.Parts.{IsNoneAt, IsSomeAt, IsVecAt}
use Rattle.archive_btree_maps.specs.Maps.{IsMapAt}
use Rattle.archive_hash_maps.specs.Tables.{IsTableAt}
use Rattle.cabinet_text_grammar.specs.Tree as tree
use Rattle.cabinet_documents.specs.Node.{node_shape, pair_shape, KnowsNode}
use Rattle.archive_index.specs.Maps.{IsMapAt as IsIndexAt}
use Rattle.cabinet_archived.proofs.Shared.{counted_there}
use Rattle.cabinet_archives.proofs.Ways.{Boxed}
use Rattle.cabinet_archives.proofs.Payloads.{text_has, text_is, leaf_head, shared_head, none_head, some_head, list_head, ordered_head, hashed_head, kept_head, whole_is_head}
use Rattle.cabinet_archives.proofs.asking.heads.head.Goals as goal

pub as_str-requires : goal.as_str-requires
as_str-requires c =
    let is = c.in-Text.ensures in
    subst (λ (b : Bor (List ℕ)). HasText b.now c.in-Text.text.pos) (sym is.0) (text_has (λ _. ⊤) c.args.node.bytes.now c.in-Text.text.pos is.2.there)

pub returns-in-Bool : goal.returns-in-Bool
returns-in-Bool c =
    let is = c.in-Bool.ensures in
    leaf_head c.args.node.bytes.now c.args.node.pos (tree.truth c.native_of.result) 0 truth (λ _. ⊤) c.in-Bool.value.pos (omega arith) is.2
    (λ w h. c.native_of.ensures w (subst (λ (b : Bor (List ℕ)). HeldAt truth (λ _. ⊤) b.now c.in-Bool.value.pos w) (sym is.0) h))

pub returns-in-Int : goal.returns-in-Int
returns-in-Int c =
    let is = c.in-Int.ensures in
    let n = c.native_of-in-Int.result in
    let same = to_z-of_z w64 n (record { sfits = c.native_of-in-Int.type_inv }) in
    leaf_head c.args.node.bytes.now c.args.node.pos (tree.number (to_z w64 (of_z w64 n))) 1 (number w64 true) (λ _. ⊤) c.in-Int.number.pos (omega arith) is.2
    (λ w h. ap integer same ∙ c.native_of-in-Int.ensures w (subst (λ (b : Bor (List ℕ)). HeldAt (number w64 true) (λ _. ⊤) b.now c.in-Int.number.pos w) (sym is.0) h))

pub returns-in-Text : goal.returns-in-Text
returns-in-Text c =
    let is = c.in-Text.ensures in
    let there = subst (λ (b : Bor (List ℕ)). IsText b.now c.in-Text.text.pos c.as_str.result.now) is.0 c.as_str.ensures in
    leaf_head c.args.node.bytes.now c.args.node.pos (tree.text c.as_str.result.now) 2 text (λ _. ⊤) c.in-Text.text.pos (omega arith) is.2
    (text_is (λ _. ⊤) c.args.node.bytes.now c.in-Text.text.pos c.as_str.result.now there)

pub get-requires : goal.get-requires
get-requires c =
    let is = c.in-Shared.ensures in
    subst (λ (b : Bor (List ℕ)). HasCounted false str (λ _. ⊤) b.now c.in-Shared.text.pos) (sym is.0) (counted_there str (λ _. ⊤) c.args.node.bytes.now c.in-Shared.text.pos is.2.there)

pub returns-in-Shared : goal.returns-in-Shared
returns-in-Shared c =
    let is = c.in-Shared.ensures in
    let got = c.get.ensures in
    shared_head c.args.node.bytes.now c.args.node.pos c.in-Shared.text.pos got.0 got.1 c.get.result.now is.2
    (subst (λ (b : Bor (List ℕ)). IsRcStrAt false b.now c.in-Shared.text.pos got.0 got.1) is.0 got.2)
    (got.3 ∙ ap (λ (b : Bor (List ℕ)). window b.now got.0 got.1) is.0)

pub returns-then-is_none : goal.returns-then-is_none
returns-then-is_none c =
    let is = c.in-Maybe.ensures in
    none_head c.args.node.bytes.now c.args.node.pos c.in-Maybe.maybe.pos is.2
    (subst (λ (b : Bor (List ℕ)). IsNoneAt Boxed KnowsNode b.now c.in-Maybe.maybe.pos) is.0 c.if-is_none.ensures)

pub returns-else-is_none : goal.returns-else-is_none
returns-else-is_none c =
    let is = c.in-Maybe.ensures in
    some_head c.args.node.bytes.now c.args.node.pos c.in-Maybe.maybe.pos is.2
    (subst (λ (b : Bor (List ℕ)). IsSomeAt Boxed KnowsNode b.now c.in-Maybe.maybe.pos) is.0 c.if-is_none.ensures)

pub returns-in-List : goal.returns-in-List
returns-in-List c =
    let is = c.in-List.ensures in
    let has = c.len.ensures in
    list_head c.args.node.bytes.now c.args.node.pos c.in-List.list.pos has.0 c.len.result is.2
    (subst (λ (b : Bor (List ℕ)). IsVecAt node_shape KnowsNode b.now c.in-List.list.pos has.0 c.len.result) is.0 has.1)

pub returns-in-Ordered : goal.returns-in-Ordered
returns-in-Ordered c =
    let is = c.in-Ordered.ensures in
    ordered_head c.args.node.bytes.now c.args.node.pos c.in-Ordered.map.pos c.len-in-Ordered.result is.2
    (λ t m. c.len-in-Ordered.ensures t (subst (λ (b : Bor (List ℕ)). IsMapAt b.now 5 text node_shape c.in-Ordered.map.pos t) (sym is.0) m))

pub returns-in-Hashed : goal.returns-in-Hashed
returns-in-Hashed c =
    let is = c.in-Hashed.ensures in
    hashed_head c.args.node.bytes.now c.args.node.pos c.in-Hashed.map.pos c.len-in-Hashed.result is.2
    (λ b table. c.len-in-Hashed.ensures b (subst (λ (x : Bor (List ℕ)). IsTableAt x.now pair_shape c.in-Hashed.map.pos b) (sym is.0) table))

pub returns-in-Kept : goal.returns-in-Kept
returns-in-Kept c =
    let is = c.in-Kept.ensures in
    kept_head c.args.node.bytes.now c.args.node.pos c.in-Kept.map.pos c.len-in-Kept.result is.2
    (λ m stands. c.len-in-Kept.ensures m (subst (λ (x : Bor (List ℕ)). IsIndexAt x.now text node_shape c.in-Kept.map.pos m) (sym is.0) stands))

pub returns-in-Whole : goal.returns-in-Whole
returns-in-Whole c = whole_is_head c.args.node.bytes.now c.args.node.pos c.in-Whole.field-0.pos c.in-Whole.ensures.2
