-- What is written of a list.
use denote.Hole.Carrier.{out, roll}
use Rattle.std.proofs.Common.{◌≡◌, ℕ, List as Listed, Option, Some, None, Ok, Err, Result, refl, ap, subst, ◌∙◌}
use Rattle.std.specs.Prelude.{Box, MatchResult}
use Rattle.std.specs.Global.{Global}
use Rattle.archive_shape.specs.Bytes.{overwrite}
use Rattle.archive_shape_canonical.specs.Sharing.{erased}
use Rattle.archive_shape_layout.specs.Writing.{WriterMembers}
use Rattle.archive_shape_layout.specs.declared.error.Error.{Error}
use Rattle.archive_shape_layout.specs.declared.error.Error.TheVariants.{IsizeOverflow}
use Rattle.archive_shape_layout.specs.Shape.Shape.{box}
use Rattle.archive_shape_layout.specs.Shape.Pointee.{sized}
use Rattle.archive_shape_layout.specs.Value.Value.{chosen}
use Rattle.archive_shape_layout.specs.Value.Values.{no_values, more_values}
use Rattle.archive_forms_laws.specs.Spelling.{Spelling}
use Rattle.archive_forms_laws.specs.Options.{option_spelling}
use Rattle.archive_shape.specs.Offsets.{FitsOffset, offset_bytes}
use Rattle.archive_forms_laws.specs.Serializing.{Resolves, Serializes}
use Rattle.archive_forms_laws.proofs.Resolved as laws
use Rattle.archive_forms_writing.specs.Owned.{boxed_spelling}
use Rattle.archive_forms_values.specs.declared.reading.resolving.BoxResolver.{BoxResolver}
use Rattle.archive_forms.specs.Deserializing.{IsReadAt}
use Rattle.archive_forms.specs.Reading.{reads_as, reads_in, reads_option}
use Rattle.archive_forms.proofs.Faithful.{option_faithful}
use Rattle.archive_forms_tests.specs.declared.recursive.list.List.{List, List', None', Some', out-List}
use Rattle.archive_forms_tests.specs.declared.recursive.list.List.TheViews.{roll-List}
use Rattle.archive_forms_tests.specs.Recursive.{list_shape, list_body, KnowsList}
use Rattle.archive_forms_tests.specs.Lists.{list_next, linked_spelling, list_spelling}
use Rattle.archive_forms_tests.proofs.Named.{list_held}

value_of : Option (Box List Global) → Option List
value_of None = None
value_of (Some b) = Some b.value

next_as : (x : List) → list_next x ≡ value_of (out-List x).next
unfolding out-List value_of out
next_as (List' None') = refl
next_as (List' (Some' p y)) = refl

pub none_is : (x : List) → (out-List x).next ≡ None → list_next x ≡ None
unfolding value_of
none_is x e = next_as x ∙ ap value_of e

pub next_is : (x : List) (b : Box List Global) → (out-List x).next ≡ Some b → list_next x ≡ Some b.value
unfolding value_of
next_is x b e = next_as x ∙ ap value_of e

-- a box is resolved where its offset is written
pub box_resolved :
    (w : Spelling List (Option BoxResolver)) (x : List) (r : BoxResolver) (pos start : ℕ) (old new : Listed ℕ) (result : Result (Unit {0}) Error)
    → MatchResult result (λ _. FitsOffset pos r.pos × (new ≡ overwrite old start (offset_bytes pos r.pos))) (λ e. (e ≡ IsizeOverflow) × ((FitsOffset pos r.pos → ⊥) × (new ≡ old)))
    → Resolves (linked_spelling w) (box (sized list_shape)) x r pos start old new result
box_resolved w x r pos start old new result h = laws.box_resolved list_shape (box (sized list_shape)) w x r.pos pos start old new result h

-- a list is written where its box is
pub next_written :
    {W : Type 0} (m : WriterMembers W) (x : List) (b : Box List Global) (old new : W) (r : BoxResolver)
    → list_next x ≡ Some b.value
    → Serializes (boxed_spelling list_shape list_spelling) m b old new (Ok r)
    → Serializes list_spelling m x old new (Ok (Some r))
next_written m (List' None') b old new r e h = absurd (cc)
next_written m (List' (Some' p y)) b old new r e h =
    let same : b.value ≡ y = cc in
    let P : List → Type 0 = λ z. Serializes (linked_spelling list_spelling) m z old new (Ok r) in
    let below : P y = subst P same h in
    λ st at. let o = below st at in (o.0, (ap (λ (q : BoxResolver). Some q) o.1.0, o.1.1, o.1.2))

pub next_refused :
    {W : Type 0} (m : WriterMembers W) (x : List) (b : Box List Global) (old new : W) (error : Error)
    → list_next x ≡ Some b.value
    → Serializes (boxed_spelling list_shape list_spelling) m b old new (Err error)
    → Serializes list_spelling m x old new (Err error)
next_refused m (List' None') b old new error e h = absurd (cc)
next_refused m (List' (Some' p y)) b old new error e h =
    let same : b.value ≡ y = cc in
    let P : List → Type 0 = λ z. Serializes (linked_spelling list_spelling) m z old new (Err error) in
    subst P same h

-- ---- lists that are read back

-- the option of a box as which a list is read
abbrev next_spelling : Spelling (Option (Box List Global)) (Option BoxResolver)
next_spelling = option_spelling (box (sized list_shape)) (boxed_spelling list_shape list_spelling)

made_next : (o : Option (Box List Global)) → list_next (roll-List record { next = o }) ≡ value_of o
unfolding roll-List roll value_of
made_next None = refl
made_next (Some b) = refl

-- a list has the value that the option has which it is made of
next_plain : (x : List) (o : Option (Box List Global)) → list_next x ≡ value_of o → list_spelling.plain x ≡ next_spelling.plain o
unfolding value_of
next_plain (List' None') None e = refl
next_plain (List' None') (Some b) e = absurd (cc)
next_plain (List' (Some' p y)) None e = absurd (cc)
next_plain (List' (Some' p y)) (Some b) e =
    let value : y ≡ b.value = cc in
    ap (λ z. chosen 1 (more_values (list_spelling.plain z) no_values)) value

pub list_read :
    (bytes : Listed ℕ) (pos : ℕ) (o : Option (Box List Global))
    → IsReadAt (reads_option (reads_in (λ (b : Box List Global). b.value) (reads_as list_spelling))) list_body KnowsList bytes pos o
    → IsReadAt (reads_as list_spelling) list_shape KnowsList bytes pos (roll-List record { next = o })
list_read bytes pos o read v h = next_plain (roll-List record { next = o }) o (made_next o)
    ∙ option_faithful (boxed_spelling list_shape list_spelling) _ (λ u b e. e) (box (sized list_shape)) (erased v) o (read v (list_held bytes pos v h))
