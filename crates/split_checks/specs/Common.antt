-- The definitions of this crate that many of its files cite, passed on from one place. Declares nothing.
pub use Rattle.split_checks.specs.Cuts.{AreCuts, all_pairs, codes, cut_at, paired_face}
pub use Rattle.split_checks.specs.begin_checks.Conditions.{early_refusal, HasFlatFaces}
pub use Rattle.split_checks.specs.begin_checks.Flaws.{first_showing, has_flaw, shows}
pub use Rattle.split_checks.specs.cut_places.Crossings.{AreCrossing, IsCrossing, crossings_in, crossings_met, is_off, leads_across}
pub use Rattle.split_checks.specs.cut_places.Meetings.{AreTold, IsFaceMet, IsMeeting, IsMet, IsRound, IsSolidMet, all_places, face_met, faces_in, unmarked, with_side}
pub use Rattle.split_checks.specs.cut_places.Noted.{AreNoted, AreSides, IsSide}
pub use Rattle.split_checks.specs.cut_places.Places.{AreFacesAlong, IsFaceAlong, touches}
pub use Rattle.split_checks.specs.cut_places.Sides.{lies, opposite_signs, reaches, same_sign, side_reached, some_lie, some_start}
pub use Rattle.split_checks.specs.cut_places.Walks.{AreThere}
pub use Rattle.split_checks.specs.place_order.Order.{AreCrossings, ArePlacesAlong, IsPlaceAlong, Key, are_crossed, entries_of, key, places_of}
