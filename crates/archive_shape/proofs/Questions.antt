-- The questions of a value, a text or a pointer are answered by yes where its content is known.
use Rattle.std.proofs.Common.{◌≡◌, ℕ, ◌==◌, nat_lt, nat_le, ◌||◌, not, cond, Bool, true, false, List, [], ◌∷◌, ◌++◌, slice_index, Option, Some, None, ◌⊎◌, inl, inr, ⊎_elim, refl, arith, eqb-true, lt-ltb}
use Rattle.archive_shape_layout.specs.Bytes.{word_at, target_from}
use Rattle.archive_shape_layout.specs.Shape.{Shape}
use Rattle.archive_shape_layout.specs.Shape.Shape.{number, nonzero, truth, character, text, tuple, array, option, result, choice, box, vector, shared, weak, tree, table, index_map, named}
use Rattle.archive_shape_layout.specs.Content.{Names, Part, Item, Label, Content, item, place, choose, following, option_content, shape_content, text_content, text_length, shared_content, table_parts, node_size, child_content, place_content}
use Rattle.archive_shape_layout.specs.Content.Content.{illegal}
use Rattle.archive_shape.specs.Range.{Range}
use Rattle.archive_shape.specs.Questions.{Question, AreAnswered, leads, is_some, has_payload, questions_of_text, questions_of_shape}
use Rattle.archive_shape.specs.Questions.Question.{test}
use Rattle.archive_shape_layout.specs.declared.error.Error.TheVariants.{TooManyLevels}
use Rattle.archive_shape.proofs.Inverted.{IsKnown}

pub AreAnswered-append : (k : Range) (xs ys : List Question) → AreAnswered k xs → AreAnswered k ys → AreAnswered k (xs ++ ys)
AreAnswered-append k [] ys h i = i
AreAnswered-append k (q ∷ xs) ys h i = (h.0, AreAnswered-append k xs ys h.1 i)

-- ---- known contents

pub tested_known : (b : Bool) (x : Content) → IsKnown (choose b x illegal) → (b ≡ true) × IsKnown x
unfolding choose
tested_known true x h = (refl, h)
tested_known false x h = absurd h

pub followed_known : (o : Option ℕ) (f : ℕ → Content) → IsKnown (following o f) → (t : ℕ) × (o ≡ Some t) × IsKnown (f t)
unfolding following
followed_known None f h = absurd h
followed_known (Some t) f h = (t, refl, h)

-- an offset that leads before position 0
pub leads_nowhere : (o : Option ℕ) → o ≡ None → is_some o ≡ true → ⊥
leads_nowhere o e h = let none : is_some o ≡ false = rw e refl in cc

leads_to : (o : Option ℕ) (f : ℕ → Content) → IsKnown (following o f) → is_some o ≡ true
unfolding following
leads_to None f h = absurd h
leads_to (Some t) f h = refl

pub one_tag : (a b : Bool) (x y : Content) → IsKnown (choose a x (choose b y illegal)) → (a ≡ true) ⊎ (b ≡ true)
unfolding choose
one_tag true b x y h = inl refl
one_tag false true x y h = inr refl
one_tag false false x y h = absurd h

two_tags : (n : ℕ) (x y : Content) → IsKnown (choose (n == 0) x (choose (n == 1) y illegal)) → nat_lt n 2 ≡ true
two_tags n x y h =
    ⊎_elim
    (λ e. let is : n ≡ 0 = eqb-true n 0 e in lt-ltb n 2 (omega arith))
    (λ e. let is : n ≡ 1 = eqb-true n 1 e in lt-ltb n 2 (omega arith))
    (one_tag (n == 0) (n == 1) x y h)

not_legal_known : (b : Bool) (x : Content) → IsKnown (choose b illegal x) → not b ≡ true
unfolding choose
not_legal_known true x h = absurd h
not_legal_known false x h = refl

payload_known : (o : Option Shape) (f : Shape → Content) → IsKnown (option_content o f) → has_payload o ≡ true
payload_known None f h = absurd h
payload_known (Some s) f h = refl

-- one content or another by a test, and one list of questions or another
pub by_test : (k : Range) (b : Bool) (x y : Content) (qs rs : List Question) → (IsKnown x → AreAnswered k qs) → (IsKnown y → AreAnswered k rs) → IsKnown (choose b x y) → AreAnswered k (cond b qs rs)
unfolding choose
by_test k true x y qs rs f g h = f h
by_test k false x y qs rs f g h = g h

-- ---- values

text_answered : (k : Range) (pos : ℕ) (own : List ℕ) → IsKnown (text_content pos own) → AreAnswered k (questions_of_text pos own)
unfolding text_content
text_answered k pos own h =
    let first = slice_index own 0 in
    let len = text_length (word_at own 0) in
    by_test k (nat_lt first 128 || nat_le 192 first) _ _ _ _
    (λ _. tt)
    (λ i. let x = tested_known (nat_lt 8 len) _ i in (x.0, (leads_to _ _ x.1, tt)))
    h

table_answered : (k : Range) (pos : ℕ) (own : List ℕ) (it : Item) (rest : List Part) (l : Label) → IsKnown (table_parts pos own it rest l) → (nat_lt (word_at own 4) (word_at own 8) ≡ true) × (is_some (target_from pos (word_at own 0)) ≡ true)
unfolding table_parts
table_answered k pos own it rest l h = let x = tested_known _ _ h in (x.0, leads_to _ _ x.1)

pub shape_answered : (names : Names) (k : Range) (pos : ℕ) (own : List ℕ) (s : Shape) → IsKnown (shape_content names pos own s) → AreAnswered k (questions_of_shape pos own s)
unfolding shape_content shared_content
shape_answered names k pos own (number w signed) h = tt
shape_answered names k pos own (nonzero w signed) h = (not_legal_known _ _ h, tt)
shape_answered names k pos own truth h = ((tested_known _ _ h).0, tt)
shape_answered names k pos own character h = ((tested_known _ _ h).0, tt)
shape_answered names k pos own text h = text_answered k pos own h
shape_answered names k pos own (tuple ss) h = tt
shape_answered names k pos own (array n s) h = tt
shape_answered names k pos own (option s) h = (two_tags _ _ _ h, tt)
shape_answered names k pos own (result s t) h = (two_tags _ _ _ h, tt)
shape_answered names k pos own (choice ss) h = (payload_known _ _ h, tt)
shape_answered names k pos own (box p) h = (leads_to _ _ h, tt)
shape_answered names k pos own (vector s) h = (leads_to _ _ h, tt)
shape_answered names k pos own (shared cyclic p) h = (leads_to _ _ h, tt)
shape_answered names k pos own (weak cyclic p) h = (two_tags _ _ _ h, tt)
shape_answered names k pos own (tree most key value) h =
    by_test k (word_at own 4 == 0) _ _ _ _ (λ _. tt) (λ i. (leads_to _ _ i, tt)) h
shape_answered names k pos own (table s) h =
    by_test k (word_at own 4 == 0) _ _ _ _ (λ _. tt) (λ i. let x = table_answered k pos own (item s) _ _ i in (x.0, (x.1, tt))) h
shape_answered names k pos own (index_map key value) h =
    by_test k (word_at own 4 == 0) _ _ _ _ (λ _. tt)
    (λ i. let f = followed_known _ _ i in let x = table_answered k pos own (place (word_at own 4)) _ _ f.2 in (x.0, (x.1, tt)))
    h
shape_answered names k pos own (named name size align) h = tt

pub child_answered : (k : Range) (level most : ℕ) (key value : Shape) (pos : ℕ) (own : List ℕ) → IsKnown (child_content level most key value pos own) → AreAnswered k (cond (word_at own 0 == 1) [] (test (nat_le level 32) TooManyLevels ∷ leads (target_from pos (word_at own 0)) (node_size most key value) ∷ []))
unfolding child_content
child_answered k level most key value pos own h =
    by_test k (word_at own 0 == 1) _ _ _ _ (λ _. tt) (λ i. let x = tested_known _ _ i in (x.0, (leads_to _ _ x.1, tt))) h

pub place_known : (limit : ℕ) (own : List ℕ) → IsKnown (place_content limit own) → nat_lt (word_at own 0) limit ≡ true
unfolding place_content
place_known limit own h = (tested_known _ _ h).0
