use Rattle.std.proofs.Common.{◌≡◌, ℕ, Some, Ok, ap}
use Rattle.archive_shape_layout.specs.Value.Value.{natural}
use Rattle.archive_shape_canonical.specs.Settled.{free}
use Rattle.archive_core_tests.proofs.archives.parts.number_in.Goals as goal

same_number : (a b : ℕ) → natural a ≡ natural b → a ≡ b
same_number a b is = cc

pub as_ref-requires-in-Ok : goal.as_ref-requires-in-Ok
as_ref-requires-in-Ok c =
    let option = c.in-Ok.ensures.2 c.requires.value c.requires.held in
    record { value = option.payload; held = rw (c.in-Ok.ensures.0, c.in-Ok.ensures.1) option.held }

pub get-requires : goal.get-requires
get-requires c =
    let option = c.in-Ok.ensures.2 c.requires.value c.requires.held in
    let boxed = c.in-Some.ensures.2 option.payload (rw (c.in-Ok.ensures.0, c.in-Ok.ensures.1) option.held) in
    record { value = boxed.payload; held = rw (c.in-Some.ensures.0, c.in-Some.ensures.1) boxed.held }

pub native_of-requires : goal.native_of-requires
native_of-requires c =
    let option = c.in-Ok.ensures.2 c.requires.value c.requires.held in
    let boxed = c.in-Some.ensures.2 option.payload (rw (c.in-Ok.ensures.0, c.in-Ok.ensures.1) option.held) in
    record { value = boxed.payload; held = rw c.get.ensures.bytes (c.get.ensures.value.value boxed.payload (rw (c.in-Some.ensures.0, c.in-Some.ensures.1) boxed.held)) }

-- the box is written where the option in the result has its value, and the number where the box leads
pub returns-in-Some : goal.returns-in-Some
returns-in-Some c = λ names keys boxed there.
    let bytes = c.args.root.bytes.now in
    let option = c.outcome_is_written.ensures.ok_readable (Some boxed) bytes c.args.root.pos names keys there in
    let box = c.some_is_written.ensures.readable boxed bytes _ names keys option in
    let points = rw (c.in-Some.ensures.0, c.in-Some.ensures.1, c.in-Ok.ensures.0, c.in-Ok.ensures.1) at c.get.ensures.value.points in
    let number = c.boxed_is_written.ensures.readable boxed bytes _ _ names keys box points in
    let held = c.part_is_held-2.ensures boxed.value bytes _ free names keys tt tt number in
    ap Some (same_number _ _ (c.native_of.ensures _ (rw (c.get.ensures.bytes, c.in-Some.ensures.0, c.in-Ok.ensures.0) held.0)))

pub returns-in-None : goal.returns-in-None
returns-in-None c = λ names keys boxed there.
    let held = c.part_is_held.ensures (Ok (Some boxed)) c.args.root.bytes.now c.args.root.pos free names keys (tt, tt) tt there in
    let option = c.in-Ok.ensures.2 _ held.0 in
    let none = c.in-None.ensures option.payload (rw (c.in-Ok.ensures.0, c.in-Ok.ensures.1) option.held) in
    let is = option.is in
    absurd (cc)

pub returns-in-Err : goal.returns-in-Err
returns-in-Err c = λ names keys boxed there.
    let held = c.part_is_held.ensures (Ok (Some boxed)) c.args.root.bytes.now c.args.root.pos free names keys (tt, tt) tt there in
    let error = c.in-Err.ensures.2 _ held.0 in
    let is = error.is in
    absurd (cc)
