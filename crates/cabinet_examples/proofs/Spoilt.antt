-- The layout accepts the spoilt documents, by computation; each has the value of a canonical archive with other bytes, so
-- it is not canonical itself.
use Rattle.std.proofs.Common.{◌≡◌, ℕ, false, List, [], ◌∷◌, refl, ap, ◌∙◌}
use Rattle.archive_shape_layout.specs.Value.{Value}
use Rattle.archive_shape_layout.specs.Holds.{Region, Visit}
use Rattle.archive_shape_layout.proofs.Evaluate.{run}
use Rattle.archive_shape_layout.proofs.Evaluated.{root_found}
use Rattle.archive_shape_layout.proofs.Unique.{one_value}
use Rattle.archive_shape_canonical.specs.Sharing.{erased}
use Rattle.archive_shape_canonical.specs.FirstFit.{first_fit}
use Rattle.archive_shape_canonical.proofs.SameValue.{same_numbers, numbers_differ}
use Rattle.archive_shape_canonical.proofs.One.{one_archive_law}
use Rattle.archive_shape_canonical.specs.Hash.{text_hash}
use Rattle.cabinet_examples.specs.Node.{node_shape, node_names}
use Rattle.cabinet_examples.specs.Pieces.{item_of, region}
use Rattle.cabinet_examples.specs.Documents.{HoldsDocument, number_value, text_value, shared_value, some_value, list_value, ordered_value, hashed_value, kept_value, empty_leaf_bytes}
use Rattle.cabinet_examples.specs.Canonical.{IsArchive, text_visit, five_ordered_value, six_ordered_value}
use Rattle.cabinet_examples.specs.Spoilt.{IsSpoilt, byte_behind_root_bytes, gap_before_box_bytes, gap_before_root_bytes, leaf_on_the_right_bytes, marked_bucket_bytes, marked_padding_bytes, marked_slot_bytes, offset_to_nothing_bytes, other_control_bytes, other_filler_bytes, other_kept_place_bytes, other_place_bytes, room_for_nothing_bytes, room_to_spare_bytes, text_standing_twice_bytes, wrong_tag_bytes, MarkedPadding, MarkedSlot, MarkedBucket, OtherFiller, OtherControl, RoomForNothing, OffsetToNothing, GapBeforeRoot, GapBeforeBox, ByteBehindRoot, TextStandingTwice, LeafOnTheRight, LeafOfNone, OtherPlace, OtherKeptPlace, WrongTag, RoomToSpare}
use Rattle.cabinet_examples.proofs.CanonicalLemmas.{canonical_empty_kept_map, canonical_empty_ordered_map, canonical_hashed_map, canonical_kept_map, canonical_leaf_of_five, canonical_number, canonical_ordered_map, canonical_shared_text, canonical_short_text, canonical_some_number, canonical_tree_of_six}

-- other bytes are the one archive of the value that bytes have
spoilt : {bytes others : List ℕ} {size pos from : ℕ} {v w : Value} {rs qs : List Region} {visits : List Visit}
    → HoldsDocument bytes size pos v rs → IsArchive others from w qs visits → erased v ≡ erased w → same_numbers bytes others ≡ false → IsSpoilt bytes size pos v rs
spoilt {bytes = bytes} {others = others} {pos = pos} {from = from} {v = v} {w = w} {rs = rs} {qs = qs} {visits = visits} accepted archive alike differ =
    record { accepted = accepted; not_canonical = none }
  where
    none : (u : Value) (us : List Region) (seen : List Visit) → IsArchive bytes pos u us seen → ⊥
    none u us seen a =
        let same = one_value node_names bytes v rs accepted.visits a.root.holds accepted.has_root.holds in
        let whole : bytes ≡ others = one_archive_law (first_fit text_hash) node_names bytes others 0 pos from node_shape u w us qs seen visits refl a archive (ap erased same.value ∙ alike) in
        numbers_differ bytes others differ whole

marked_padding_accepted : HoldsDocument marked_padding_bytes 24 0 (number_value 5) (region 0 24 8 0 ∷ [])
unfolding run
marked_padding_accepted = record { has_size = refl; has_position = refl; visits = []; has_root = root_found _ _ 90 _ _ _ _ _ refl }

pub marked_padding : MarkedPadding
marked_padding = spoilt marked_padding_accepted canonical_number refl refl

marked_slot_accepted : HoldsDocument marked_slot_bytes 200 176 (ordered_value (item_of "coffee" (number_value 300) ∷ item_of "tea" (number_value 250) ∷ [])) (region 0 176 8 1 ∷ region 176 24 8 0 ∷ [])
unfolding run
marked_slot_accepted = record { has_size = refl; has_position = refl; visits = []; has_root = root_found _ _ 90 _ _ _ _ _ refl }

pub marked_slot : MarkedSlot
marked_slot = spoilt marked_slot_accepted canonical_ordered_map refl refl

marked_bucket_accepted : HoldsDocument marked_bucket_bytes 120 96 (hashed_value (item_of "a" (text_value "world") ∷ [])) (region 0 95 8 1 ∷ region 96 24 8 0 ∷ [])
unfolding run
marked_bucket_accepted = record { has_size = refl; has_position = refl; visits = []; has_root = root_found _ _ 90 _ _ _ _ _ refl }

pub marked_bucket : MarkedBucket
marked_bucket = spoilt marked_bucket_accepted canonical_hashed_map refl refl

other_filler_accepted : HoldsDocument other_filler_bytes 24 0 (text_value "world") (region 0 24 8 0 ∷ [])
unfolding run
other_filler_accepted = record { has_size = refl; has_position = refl; visits = []; has_root = root_found _ _ 90 _ _ _ _ _ refl }

pub other_filler : OtherFiller
other_filler = spoilt other_filler_accepted canonical_short_text refl refl

other_control_accepted : HoldsDocument other_control_bytes 120 96 (hashed_value (item_of "a" (text_value "world") ∷ [])) (region 0 95 8 1 ∷ region 96 24 8 0 ∷ [])
unfolding run
other_control_accepted = record { has_size = refl; has_position = refl; visits = []; has_root = root_found _ _ 90 _ _ _ _ _ refl }

pub other_control : OtherControl
other_control = spoilt other_control_accepted canonical_hashed_map refl refl

room_for_nothing_accepted : HoldsDocument room_for_nothing_bytes 24 0 (kept_value []) (region 0 24 8 0 ∷ [])
unfolding run
room_for_nothing_accepted = record { has_size = refl; has_position = refl; visits = []; has_root = root_found _ _ 90 _ _ _ _ _ refl }

pub room_for_nothing : RoomForNothing
room_for_nothing = spoilt room_for_nothing_accepted canonical_empty_kept_map refl refl

offset_to_nothing_accepted : HoldsDocument offset_to_nothing_bytes 24 0 (ordered_value []) (region 0 24 8 0 ∷ [])
unfolding run
offset_to_nothing_accepted = record { has_size = refl; has_position = refl; visits = []; has_root = root_found _ _ 90 _ _ _ _ _ refl }

pub offset_to_nothing : OffsetToNothing
offset_to_nothing = spoilt offset_to_nothing_accepted canonical_empty_ordered_map refl refl

gap_before_root_accepted : HoldsDocument gap_before_root_bytes 56 32 (some_value (number_value 5)) (region 0 24 8 1 ∷ region 32 24 8 0 ∷ [])
unfolding run
gap_before_root_accepted = record { has_size = refl; has_position = refl; visits = []; has_root = root_found _ _ 90 _ _ _ _ _ refl }

pub gap_before_root : GapBeforeRoot
gap_before_root = spoilt gap_before_root_accepted canonical_some_number refl refl

gap_before_box_accepted : HoldsDocument gap_before_box_bytes 56 32 (some_value (number_value 5)) (region 8 24 8 1 ∷ region 32 24 8 0 ∷ [])
unfolding run
gap_before_box_accepted = record { has_size = refl; has_position = refl; visits = []; has_root = root_found _ _ 90 _ _ _ _ _ refl }

pub gap_before_box : GapBeforeBox
gap_before_box = spoilt gap_before_box_accepted canonical_some_number refl refl

byte_behind_root_accepted : HoldsDocument byte_behind_root_bytes 25 0 (number_value 5) (region 0 24 8 0 ∷ [])
unfolding run
byte_behind_root_accepted = record { has_size = refl; has_position = refl; visits = []; has_root = root_found _ _ 90 _ _ _ _ _ refl }

pub byte_behind_root : ByteBehindRoot
byte_behind_root = spoilt byte_behind_root_accepted canonical_number refl refl

text_standing_twice_accepted : HoldsDocument text_standing_twice_bytes 96 72 (list_value (shared_value 0 "hello world!" ∷ shared_value 12 "hello world!" ∷ [])) (region 0 12 1 2 ∷ region 12 12 1 2 ∷ region 24 48 8 1 ∷ region 72 24 8 0 ∷ [])
unfolding run
text_standing_twice_accepted = record { has_size = refl; has_position = refl; visits = text_visit 12 12 "hello world!" ∷ (text_visit 0 12 "hello world!" ∷ []); has_root = root_found _ _ 90 _ _ _ _ _ refl }

pub text_standing_twice : TextStandingTwice
text_standing_twice = spoilt text_standing_twice_accepted canonical_shared_text refl refl

leaf_on_the_right_accepted : HoldsDocument leaf_on_the_right_bytes 392 368 six_ordered_value (region 0 176 8 2 ∷ region 176 192 8 1 ∷ region 368 24 8 0 ∷ [])
unfolding run
leaf_on_the_right_accepted = record { has_size = refl; has_position = refl; visits = []; has_root = root_found _ _ 90 _ _ _ _ _ refl }

pub leaf_on_the_right : LeafOnTheRight
leaf_on_the_right = spoilt leaf_on_the_right_accepted canonical_tree_of_six refl refl

leaf_of_none_accepted : HoldsDocument empty_leaf_bytes 392 368 five_ordered_value (region 0 176 8 2 ∷ region 176 192 8 1 ∷ region 368 24 8 0 ∷ [])
unfolding run
leaf_of_none_accepted = record { has_size = refl; has_position = refl; visits = []; has_root = root_found _ _ 90 _ _ _ _ _ refl }

pub leaf_of_none : LeafOfNone
leaf_of_none = spoilt leaf_of_none_accepted canonical_leaf_of_five refl refl

other_place_accepted : HoldsDocument other_place_bytes 120 96 (hashed_value (item_of "a" (text_value "world") ∷ [])) (region 0 95 8 1 ∷ region 96 24 8 0 ∷ [])
unfolding run
other_place_accepted = record { has_size = refl; has_position = refl; visits = []; has_root = root_found _ _ 90 _ _ _ _ _ refl }

pub other_place : OtherPlace
other_place = spoilt other_place_accepted canonical_hashed_map refl refl

other_kept_place_accepted : HoldsDocument other_kept_place_bytes 136 112 (kept_value (item_of "z" (number_value 1) ∷ item_of "a" (number_value 2) ∷ [])) (region 0 43 4 1 ∷ region 48 64 8 1 ∷ region 112 24 8 0 ∷ [])
unfolding run
other_kept_place_accepted = record { has_size = refl; has_position = refl; visits = []; has_root = root_found _ _ 90 _ _ _ _ _ refl }

pub other_kept_place : OtherKeptPlace
other_kept_place = spoilt other_kept_place_accepted canonical_kept_map refl refl

wrong_tag_accepted : HoldsDocument wrong_tag_bytes 120 96 (hashed_value (item_of "a" (text_value "world") ∷ [])) (region 0 95 8 1 ∷ region 96 24 8 0 ∷ [])
unfolding run
wrong_tag_accepted = record { has_size = refl; has_position = refl; visits = []; has_root = root_found _ _ 90 _ _ _ _ _ refl }

pub wrong_tag : WrongTag
wrong_tag = spoilt wrong_tag_accepted canonical_hashed_map refl refl

room_to_spare_accepted : HoldsDocument room_to_spare_bytes 152 128 (hashed_value (item_of "a" (text_value "world") ∷ [])) (region 0 127 8 1 ∷ region 128 24 8 0 ∷ [])
unfolding run
room_to_spare_accepted = record { has_size = refl; has_position = refl; visits = []; has_root = root_found _ _ 90 _ _ _ _ _ refl }

pub room_to_spare : RoomToSpare
room_to_spare = spoilt room_to_spare_accepted canonical_hashed_map refl refl
