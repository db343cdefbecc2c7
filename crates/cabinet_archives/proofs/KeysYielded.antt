-- Keys that an iterator yields, what is left of them, and what is written of them.
use Rattle.std.proofs.Common.{◌≡◌, ℕ, List, [], ◌∷◌, ◌++◌, flat_map, map, length, Option, Some, None, refl, sym, ap, subst, ◌∙◌}
use Rattle.std.specs.Prelude.{⊤, All}
use Rattle.std.specs.Iterator.{AlwaysYields, YieldsFirst}
use Rattle.std.specs.List.{AllZip}
use Rattle.std.proofs.lemmas.List.{length-map}
use Rattle.std.proofs.lemmas.List.Elements.{All-nil, All-cons, All-head, All-tail}
use Rattle.archive_shape_layout.specs.Bytes.{window}
use Rattle.archive_shape.specs.declared.references.refs.Ref.{Ref}
use Rattle.archive_forms_values.specs.declared.text.string.ArchivedString.{ArchivedString}
use Rattle.archive_shape_layout.specs.Shape.Shape.{text}
use Rattle.archive_forms_laws.specs.Text.{IsText}
use Rattle.archive_forms_values.specs.Parts.{HasValue}
use Rattle.cabinet_text_grammar.specs.Answering.{spelled_keys}
use Rattle.cabinet_archives.specs.Keys.{YieldsTexts}
use Rattle.cabinet_archives.proofs.Ascending.{text_of, HasTextIn}
use Rattle.cabinet_archives.proofs.Payloads.{text_has}
use Rattle.cabinet_archives.proofs.Texts.{text_is}
use Rattle.cabinet_archives.proofs.Within.{key_piece}

abbrev pub IsTextOf : Ref ArchivedString → List ℕ → Type 0
IsTextOf r t = IsText r.bytes.now r.pos t

text_there : (r : Ref ArchivedString) → HasTextIn r → IsTextOf r (text_of r)
text_there r h =
    let made : IsText r.bytes.now r.pos (window r.bytes.now h.start h.len) = record { there = h; is = refl } in
    subst (IsText r.bytes.now r.pos) (text_is r.bytes.now r.pos (window r.bytes.now h.start h.len) made) made

-- ---- of an iterator that is the list of what it has left

pub all_yielded : (xs : List (Ref ArchivedString)) → AlwaysYields (YieldsFirst (λ ys. ys)) (λ r. r) xs xs
all_yielded [] = λ x j h. cc
all_yielded (x ∷ xs) = (λ j h. let e = h.0 in cc, λ y j h. let first : x ≡ y = cc in let rest : xs ≡ j = cc in (sym first, subst (λ zs. AlwaysYields (YieldsFirst (λ ys. ys)) (λ r. r) zs xs) rest (all_yielded xs)))

same_list : (xs ys : List (Ref ArchivedString)) → AlwaysYields (YieldsFirst (λ zs. zs)) (λ r. r) xs ys → xs ≡ ys
same_list [] [] h = refl
same_list [] (y ∷ ys) h = absurd (h.0 [] (refl, refl))
same_list (x ∷ xs) [] h = absurd (h x xs refl)
same_list (x ∷ xs) (y ∷ ys) h = let r = h.1 x xs refl in let rest = same_list xs ys r.1 in let first = r.0 in cc

texts_there : (refs : List (Ref ArchivedString)) → All HasTextIn refs → AllZip IsTextOf refs (map text_of refs)
texts_there [] h = tt
texts_there (r ∷ rs) h = (text_there r (All-head HasTextIn r rs h), texts_there rs (All-tail HasTextIn r rs h))

texts_are : (refs : List (Ref ArchivedString)) (ts : List (List ℕ)) → AllZip IsTextOf refs ts → ts ≡ map text_of refs
texts_are [] [] h = refl
texts_are [] (t ∷ ts) h = absurd h
texts_are (r ∷ rs) [] h = absurd h
texts_are (r ∷ rs) (t ∷ ts) h = ap (λ k. k ∷ ts) (text_is r.bytes.now r.pos t h.0) ∙ ap (λ ks. text_of r ∷ ks) (texts_are rs ts h.1)

pub yields_texts : (xs : List (Ref ArchivedString)) → All HasTextIn xs → YieldsTexts (YieldsFirst (λ ys. ys)) xs (map text_of xs)
yields_texts xs h = (xs, all_yielded xs, texts_there xs h)

pub one_yield : (xs : List (Ref ArchivedString)) (ts : List (List ℕ)) → YieldsTexts (YieldsFirst (λ ys. ys)) xs ts → ts ≡ map text_of xs
one_yield xs ts y = texts_are y.0 ts y.2 ∙ ap (map text_of) (sym (same_list xs y.0 y.1))

pub yield_counted : (xs : List (Ref ArchivedString)) (n : ℕ) → length xs ≡ n → (ts : List (List ℕ)) → YieldsTexts (YieldsFirst (λ ys. ys)) xs ts → length ts ≡ n
yield_counted xs n is ts y = ap length (one_yield xs ts y) ∙ (length-map xs text_of ∙ is)

-- texts stand where texts are held
pub texts_held : (refs : List (Ref ArchivedString)) → All (λ r. HasValue text (λ _. ⊤) r.bytes.now r.pos) refs → All HasTextIn refs
texts_held [] h = All-nil HasTextIn
texts_held (r ∷ rs) h =
    let Held : Ref ArchivedString → Type 0 = λ q. HasValue text (λ _. ⊤) q.bytes.now q.pos in
    All-cons HasTextIn r rs (text_has (λ _. ⊤) r.bytes.now r.pos (All-head Held r rs h)) (texts_held rs (All-tail Held r rs h))

-- ---- what is written of them

pub texts_pieces : (refs : List (Ref ArchivedString)) (ts : List (List ℕ)) → AllZip IsTextOf refs ts → flat_map key_piece refs ≡ spelled_keys ts
texts_pieces refs ts h = pieces refs ∙ ap spelled_keys (sym (texts_are refs ts h))
  where
    pieces : (rs : List (Ref ArchivedString)) → flat_map key_piece rs ≡ spelled_keys (map text_of rs)
    pieces [] = refl
    pieces (r ∷ rs) = ap (λ w. key_piece r ++ w) (pieces rs)

-- ---- what is left of an iterator

module _ {S : Type 0} (steps : S → Option (Ref ArchivedString) → S → Type 0) where
  -- these keys, which are texts
  pub record AreLeft (s : S) (refs : List (Ref ArchivedString)) : Type 0 where
    pub texts : List (List ℕ)
    pub yields : AlwaysYields steps (λ r. r) s refs
    pub are : AllZip IsTextOf refs texts

  pub all_left : (s : S) (ts : List (List ℕ)) (y : YieldsTexts steps s ts) → AreLeft s y.0
  all_left s ts y = record { texts = ts; yields = y.1; are = y.2 }

  pub record NextLeft (key : Ref ArchivedString) (next : S) (refs : List (Ref ArchivedString)) : Type 0 where
    pub others : List (Ref ArchivedString)
    pub is : refs ≡ key ∷ others
    pub text : HasTextIn key
    pub left : AreLeft next others

  pub next_left : (s next : S) (key : Ref ArchivedString) (refs : List (Ref ArchivedString)) → AreLeft s refs → steps s (Some key) next → NextLeft key next refs
  next_left s next key refs a step = by refs a.texts a.yields a.are
    where
      by : (rs : List (Ref ArchivedString)) (ts : List (List ℕ)) → AlwaysYields steps (λ r. r) s rs → AllZip IsTextOf rs ts → NextLeft key next rs
      by [] ts y are = absurd (y key next step)
      by (r ∷ rs) [] y are = absurd are
      by (r ∷ rs) (t ∷ ts) y are =
          let o = y.1 key next step in
          let same = o.0 in
          record { others = rs; is = ap (λ x. x ∷ rs) (sym same); text = subst HasTextIn (sym same) are.0.there; left = record { texts = ts; yields = o.1; are = are.1 } }

  pub none_left : (s next : S) (refs : List (Ref ArchivedString)) → AreLeft s refs → steps s None next → refs ≡ []
  none_left s next refs a step = by refs a.yields
    where
      by : (rs : List (Ref ArchivedString)) → AlwaysYields steps (λ r. r) s rs → rs ≡ []
      by [] y = refl
      by (r ∷ rs) y = absurd (y.0 next step)
