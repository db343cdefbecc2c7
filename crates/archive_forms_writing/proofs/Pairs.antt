-- The data of a key, and of its value after it.
use Rattle.std.proofs.Common.{◌≡◌, ap, Ok, Err}
use Rattle.archive_shape_layout.specs.Shape.{Shape}
use Rattle.archive_shape_layout.specs.Writing.{WriterMembers}
use Rattle.archive_shape_layout.specs.declared.error.Error.{Error}
use Rattle.archive_forms_laws.specs.State.{State}
use Rattle.archive_forms_laws.specs.Spelling.{Spelling, state_after}
use Rattle.archive_forms_laws.specs.Fields.{FieldsSpelling, no_fields, more_fields, tuple2_spelling}
use Rattle.archive_forms_laws.specs.Serializing.{IsAt, HasState, Serializes, SerializesBy}
use Rattle.archive_forms_writing.proofs.Structs.{Reached, reached_none, reached_next, reached_stopped, reached_all}

module _ {A B R Q W : Type 0} (k v : Shape) (keys : Spelling A R) (vals : Spelling B Q) (m : WriterMembers W) (a : A) (b : B) (old : W) where
  abbrev pair : Spelling (A × B) (R × Q)
  pair = tuple2_spelling k keys v vals

  abbrev behind_key : FieldsSpelling (B × Unit {0}) (Q × Unit {0})
  behind_key = more_fields v vals (no_fields {A = Unit {0}})

  abbrev both : FieldsSpelling (A × (B × Unit {0})) (R × (Q × Unit {0}))
  both = more_fields k keys behind_key

  abbrev fields : A × (B × Unit {0})
  fields = (a, (b, tt {0}))

  -- a call stopped in that of the key
  pub key_stopped : {C : Type 0} (kept : C → R) (mid : W) (e : Error) → SerializesBy kept keys m a old mid (Err e) → Serializes pair m (a, b) old mid (Err e)
  key_stopped kept mid e h = λ st at.
      reached_stopped m both fields old st k keys behind_key fields _ st old (reached_none m both fields old st at) mid e (h st at)

  -- it was written
  module _ {C : Type 0} (kept : C → R) (mid : W) (key : C) (h : SerializesBy kept keys m a old mid (Ok key)) where
    pub key_quiet : HasState m.pos m.known old → m.failures mid ≡ m.failures old
    key_quiet s = let l = h s.state s.is_at in l.0.is_quiet

    pub key_state : HasState m.pos m.known old → HasState m.pos m.known mid
    key_state s = let l = h s.state s.is_at in record { state = state_after keys a s.state; is_at = l.1.2 }

    reached : (st : State) → IsAt m.pos m.known old st → Reached m both fields old st behind_key (b, tt {0}) (λ q. (kept key, q)) (state_after keys a st) mid
    reached st at =
        let l = h st at in
        reached_next m both fields old st k keys behind_key fields (λ q. q) st old (reached_none m both fields old st at) mid (kept key) l.0 l.1.0 l.1.1 l.1.2

    module _ {D : Type 0} (answered : D → Q) (new : W) where
      -- a call stopped in that of the value
      pub value_stopped : (e : Error) → SerializesBy answered vals m b mid new (Err e) → Serializes pair m (a, b) old new (Err e)
      value_stopped e g = λ st at.
          let r = reached st at in
          reached_stopped m both fields old st v vals (no_fields {A = Unit {0}}) (b, tt {0}) _ (state_after keys a st) mid r new e (g (state_after keys a st) r.is_at)

      -- both were written
      pub pair_written : (value : D) → SerializesBy answered vals m b mid new (Ok value) → Serializes pair m (a, b) old new (Ok (kept key, answered value))
      pair_written value g = λ st at.
          let r = reached st at in
          let l = g (state_after keys a st) r.is_at in
          let two = reached_next m both fields old st v vals (no_fields {A = Unit {0}}) (b, tt {0}) _ (state_after keys a st) mid r new (answered value) l.0 l.1.0 l.1.1 l.1.2 in
          let done = reached_all m both fields old st (tt {0}) _ _ new two in
          (done.0, (ap (λ q. (q.0, q.1.0)) done.1.0, done.1.1, done.1.2))
