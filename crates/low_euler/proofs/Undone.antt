-- An operator that was applied leaves a sound model, in which its inverse is accepted and gives the model before.
use Rattle.low_euler.proofs.Prelude.{◌≡◌, ℕ, List, ap, ◌∙◌, Kind, Solid, Face, Loop, Edge, Vertex, Model, first_false, effect, inverse, Store, Op, effect_keeps_sound, inverse_goes, inverse_undoes, IsReady, AllRoom, HasRoomFor, Accepts, after, made, KeepsRoom}
use Rattle.std.specs.Prelude.{Option, Some, None}
use Rattle.low_euler.proofs.Made.{room_kept}
use Rattle.low_euler.specs.Told.{AcceptsTold, after_told}

pub ready_after : (s : Store) (o : Op) → Accepts s o → IsReady (after s o)
ready_after s o ok = record { sound = effect_keeps_sound s.model o ok.ready.sound ok.holds; bare = ok.ready.bare }

-- what an operator tells, applied if it tells something
pub ready_told : (s : Store) (told : Option Op) → AcceptsTold s told → IsReady (after_told s told)
ready_told s (Some o) ok = ready_after s o ok
ready_told s None ready = ready

-- another model leaves each room
pub keeps_room : (s : Store) (M : Model) → KeepsRoom s (record s { model = M })
keeps_room s M Solid n there = there
keeps_room s M Face n there = there
keeps_room s M Loop n there = there
keeps_room s M Edge n there = there
keeps_room s M Vertex n there = there

pub room_after : (s : Store) (o : Op) (ks : List (Kind × ℕ)) → AllRoom s ks → AllRoom (after s o) ks
room_after s o ks all = room_kept s (after s o) ks (keeps_room s (effect s.model o)) all

module _ (s : Store) (o i : Op) (ok : Accepts s o) (is : i ≡ inverse s.model o) where
  pub inverse_accepted : HasRoomFor s i → Accepts (after s o) i
  inverse_accepted room = record {
    ready = ready_after s o ok;
    holds = ap (first_false (effect s.model o)) is ∙ inverse_goes s.model o ok.ready.sound ok.holds;
    room = room_after s o (made i) room;
  }

  pub inverse_back : after (after s o) i ≡ s
  inverse_back = ap (λ (M : Model). record s { model = M }) (ap (effect (effect s.model o)) is ∙ inverse_undoes s.model o ok.ready.sound ok.holds)
