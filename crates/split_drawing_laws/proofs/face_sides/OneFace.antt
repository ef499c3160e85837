-- Faces drawn one after the other: what stays beside each, and that it and the faces that are cut off it lie each on one side.
use Rattle.split_drawing_laws.proofs.Prelude.{◌≡◌, ℕ, ◌+◌, List, [], ◌∷◌, ◌∙◌, ◌≢◌, Bool, true, false, cond, nat_eq, nat_lt, ◌&&◌, length, is_some, refl, sym, ap, subst, arith, inl, inr, fold, map, nat_tests, eqb_tells, false_from_ne_true, Model, holds, content, loop_of, face_of, outer, solid_of, Sound, HasHalf, Has, face_at, lists, has_rings, Plane, count, IsIn, same_content, same_face, same_outer, loop_there, same_solid, row_elsewhere, no_row, tick_same, tick_other, no_rings_means, Drawing, join_next, draw_next, stuck_at, all_joined, ring_free, all_drawn, rings_above, with_rings, rings_shared, drawn_between, FacePairs, next_drawn, vertices_on, some_above, Stays, DrawnIn, AllOf, AllFit, pairs_in, Joining, Going, Ready, Drawable}
use Rattle.euler_operators.specs.Table as table
use Rattle.split_drawing_laws.proofs.drawings.Pairs.{was_free}
use Rattle.split_drawing_laws.proofs.drawings.Passes.{all_of_last, either_now, joins_keep, cut_off, can_now, draws_keep, stuck_now}
use Rattle.split_drawing_laws.proofs.drawings.Stays.{draw_stays, stays_on, row_else}
use Rattle.split_drawing_laws.proofs.drawings.Drawn.{loops_joined_faces, CanDraw, face_drawn_else, face_drawn, ring_rows}
use Rattle.split_drawing_laws.proofs.face_sides.Beside.{Alone, draw_alone, Beside, ComesOf, joined_beside, drawn_beside, loop_beside, Lone, nothing_beside, never_free, given_has, given_else, given_face}
use Rattle.split_drawing_laws.proofs.drawings.Faces.{drawn_is, can_alone, face_goes, begun_joining, joins, going}
use Rattle.split_drawing_laws.proofs.loop_sides.SidesWhole.{draws_go_on, not_stuck}
use Rattle.split_drawing_laws.proofs.half_sides.PlaceEnds.{AllUp}
use Rattle.split_drawing_laws.proofs.face_sides.Shared.{above_stays, HeldOn, LiesOnSide, Cut, old_lies, new_lies}
use Rattle.split_drawing_laws.proofs.drawings.Whole.{ready, drawable_on, next_is}

-- the half-edges of pairs are in B
abbrev pub AllOld : Model → List (ℕ × ℕ) → Type 0
AllOld B = AllOf (λ q. HasHalf B q.0 × HasHalf B q.1)

module _ (B M : Model) (f : ℕ) where
  -- ---- first pass

  -- what stands beside stays, and so do all faces
  pub record Joined (d : Drawing) : Type 0 where
    pub beside : Beside M d.model f
    pub faces : d.model.faces ≡ M.faces
    pub old : AllOld B d.left

  pub joins_beside : (d : Drawing) (qs : List (ℕ × ℕ)) (n : ℕ) → AllFit M f qs → AllOld B qs → Joining M f d qs n → Joined d → Joined (fold join_next d qs)
  joins_beside d qs n fit in_b w a = (joins_keep M f (λ x rs. Joined x × AllOld B rs)
      (λ d q qs n fits w e a. (record { beside = a.0.beside; faces = a.0.faces; old = all_of_last (λ q. HasHalf B q.0 × HasHalf B q.1) d.left q a.0.old a.1.0 }, a.1.1))
      (λ d q qs n fits w e a.
      let r = either_now M f d q qs n fits w e (λ X. Beside M X f × (X.faces ≡ M.faces))
      (λ c k can at to. (joined_beside M d.model f c k (d.taken.edge + 1) can at a.0.beside, loops_joined_faces d.model c k (d.taken.edge + 1) ∙ a.0.faces)) in
      (record { beside = r.0; faces = r.1; old = a.0.old }, a.1.1)) d qs n fit w (a, in_b)).0

  -- ---- second pass, where no loop of the face is a ring

  module _ (sound : Sound M) where
    pub record Parting (d : Drawing) : Type 0 where
      pub beside : Beside M d.model f
      pub stays : Stays B d.model
      pub alone : Alone B M d.model f

    pub draws_part : (d : Drawing) (qs : List (ℕ × ℕ)) (n : ℕ) → AllFit M f qs → AllOld B qs → Going M f d qs n → Parting d → Parting (fold (draw_next f) d qs)
    draws_part d qs n fit old w a = (draws_keep M f (λ x rs. Parting x × AllOld B rs) sound
        (λ d q qs n fits w e a. (record { beside = a.0.beside; stays = a.0.stays; alone = a.0.alone }, a.1.1))
        (λ d q qs n fits w e a.
        let can = can_now M f sound d q qs n fits w e in
        let drawn : ComesOf M f (face_at d.model q.0) = w.drawn.within q.0 fits.u_there fits.u_face in (
          record {
            beside = drawn_beside d.model q.0 q.1 (d.taken.edge + 1) (d.taken.face + 1) (d.taken.loop + 1) can M f drawn (was_free M d.model w.drawn.stays (d.taken.face + 1) can.face_free) a.0.beside;
            stays = stays_on B d.model (cut_off d q).model a.0.stays (draw_stays d.model q.0 q.1 (d.taken.edge + 1) (d.taken.face + 1) (d.taken.loop + 1) can);
            alone = draw_alone d.model q.0 q.1 (d.taken.edge + 1) (d.taken.face + 1) (d.taken.loop + 1) can B M f a.0.stays a.1.0.0 a.1.0.1 drawn a.0.alone;
          },
          a.1.1,
        )) d qs n fit w (a, old)).0

-- ---- one face drawn: it and the faces that are cut off it each lie on one side

-- face f and its loops are in X as in B
pub record Untouched (B X : Model) (f : ℕ) : Type 0 where
  pub there : Has X.faces f
  pub row : table.get X.faces f ≡ table.get B.faces f
  pub loops : (q : ℕ) → Has X.loops q → face_of X q ≡ f → table.get X.loops q ≡ table.get B.loops q

-- face g lies on one side
abbrev pub IsSided : Model → Model → (ℕ → Bool) → ℕ → Type 0
IsSided B N side g = (b : Bool) × LiesOnSide B N side g b

-- what is asked of the pairs qs and the rings of face f in B
pub record PairsOf (B : Model) (side : ℕ → Bool) (p : Plane) (f : ℕ) (qs : List (ℕ × ℕ)) : Type 0 where
  pub some_pair : qs ≢ []
  pub old : AllOld B qs
  pub ups : AllUp side qs
  pub single : (q : ℕ × ℕ) → qs ≡ q ∷ [] → loop_of B q.0 ≡ outer B f
  pub rings : (r : ℕ) → Has B.loops r → face_of B r ≡ f → HeldOn B B side r (some_above B p (vertices_on B (content B r)))

-- what is drawn then
pub record FaceDone (B M N : Model) (side : ℕ → Bool) (f : ℕ) : Type 0 where
  pub beside : Beside M N f
  pub sided : (g : ℕ) → Has N.faces g → ComesOf M f g → IsSided B N side g

-- a half-edge of a loop that is as in B stands in the same loop
module _ (B X : Model) (B_sound : Sound B) (X_sound : Sound X) where
  pub loop_back : (h : ℕ) → HasHalf X h → table.get X.loops (loop_of X h) ≡ table.get B.loops (loop_of X h) → loop_of B h ≡ loop_of X h
  loop_back h there same = B_sound.one_loop h (loop_of X h) (ap (holds h) (sym (same_content B X (loop_of X h) same)) ∙ X_sound.stands h there)

  pub loop_on : (h q : ℕ) → HasHalf B h → loop_of B h ≡ q → table.get X.loops q ≡ table.get B.loops q → loop_of X h ≡ q
  loop_on h q there at same = X_sound.one_loop h q (ap (holds h) (same_content B X q same) ∙ subst (λ r. holds h (content B r) ≡ true) at (B_sound.stands h there))

-- ---- one pair

module _ (B : Model) (side : ℕ → Bool) (p : Plane) (f : ℕ) (q : ℕ × ℕ) (d : Drawing) (n : ℕ) (w : Ready p f (q ∷ []) d n) (B_sound : Sound B) (stays : Stays B d.model) (untouched : Untouched B d.model f) (pairs : PairsOf B side p f (q ∷ [])) where
  abbrev X : Model
  X = d.model

  abbrev e : ℕ
  e = d.taken.edge + 1

  abbrev g : ℕ
  g = d.taken.face + 1

  abbrev l : ℕ
  l = d.taken.loop + 1

  abbrev K : Model
  K = face_drawn X q.0 q.1 e g l

  shared_is : (drawn_between p f (q ∷ []) d).model ≡ with_rings K (rings_above K p f) g
  shared_is = ap (λ x. (rings_shared p f (q ∷ []) x).model) (drawn_is p f q d n w)

  can : CanDraw X q.0 q.1 e g l
  can = can_alone p f q d n w

  outer_is : outer X f ≡ loop_of X q.0
  outer_is = same_outer B X f untouched.row ∙ sym (pairs.single q refl)
      ∙ loop_back B X B_sound w.sound q.0 w.fit.0.u_there (untouched.loops (loop_of X q.0) (loop_there X w.sound q.0 w.fit.0.u_there) w.fit.0.u_face)

  K_stays : Stays X K
  K_stays = draw_stays X q.0 q.1 e g l can

  ring_then : (r : ℕ) → Has X.loops r → face_of X r ≡ f → r ≢ outer X f → HeldOn B X side r (some_above K p (vertices_on K (content K r)))
  ring_then r there face inner =
      let row : table.get X.loops r ≡ table.get B.loops r = untouched.loops r there face in
      let was = pairs.rings r (ap is_some (sym row) ∙ there) (sym (same_face B X r row) ∙ face) in
      let same : content K r ≡ content B r = same_content X K r (row_else X q.0 q.1 e g l can r (λ s. inner (s ∙ sym outer_is)) (row_elsewhere X.loops r l there can.loop_free)) ∙ same_content B X r row in
      record {
        held = record { half = was.held.half; old = was.held.old; at = loop_on B X B_sound w.sound was.held.half r was.held.old was.held.at row };
        on = was.on ∙ sym (above_stays B K (stays_on B X K stays K_stays) p r B_sound same);
      }

  cut : Cut B X side p f q.0 q.1 e g l
  cut = record {
    can = can;
    stays = stays;
    u_old = pairs.old.0.0;
    k_old = pairs.old.0.1;
    u_face = w.fit.0.u_face;
    f_there = untouched.there;
    u_outer = outer_is;
    u_side = pairs.ups.0.0;
    k_side = pairs.ups.0.1;
    rings = ring_then;
  }

  abbrev W : Model
  W = with_rings K (rings_above K p f) g

  W_sound : Sound W
  W_sound = subst Sound shared_is (face_goes p f (q ∷ []) d n w).drawn.sound

  K_beside : Beside X K f
  K_beside = drawn_beside X q.0 q.1 e g l can X f (inl w.fit.0.u_face) can.face_free (nothing_beside X f)

  faces_are : W.faces ≡ K.faces
  faces_are = ap (λ N. N.faces) (ring_rows K (rings_above K p f) g)

  W_beside : Beside X W f
  W_beside = record {
    faces = λ h there. ap (λ t. table.get t h) faces_are ∙ K_beside.faces h there;
    loops = λ r there ne old. given_or_not r there ne old (lists (rings_above K p f) r) refl;
  } where
    given_or_not : (r : ℕ) → Has W.loops r → face_of W r ≢ f → Has X.faces (face_of W r) → (b : Bool) → lists (rings_above K p f) r ≡ b → table.get W.loops r ≡ table.get X.loops r
    given_or_not r there ne old true i = absurd (never_free X.faces (face_of W r) old (ap (table.get X.faces) (given_face K (rings_above K p f) g r i (sym (given_has K (rings_above K p f) g r) ∙ there)) ∙ can.face_free))
    given_or_not r there ne old false i = loop_beside X K W f r K_beside (given_else K (rings_above K p f) g r i) there ne old

  W_sided : (h : ℕ) → Has W.faces h → ComesOf X f h → IsSided B W side h
  W_sided h there drawn = elim drawn [
    | inl a ↦ (false, subst (λ z. LiesOnSide B W side z false) (sym a) (old_lies B X side p f q.0 q.1 e g l cut K_stays W_sound))
    | inr none ↦ elim (eqb_tells h g) [
      | inl b ↦ (true, subst (λ z. LiesOnSide B W side z true) (sym b.1) (new_lies B X side p f q.0 q.1 e g l cut K_stays W_sound))
      | inr b ↦ absurd (never_free W.faces h there (ap (λ t. table.get t h) faces_are ∙ face_drawn_else X q.0 q.1 e g l h b.1 ∙ none))
    ]
  ]

  pub single_done : FaceDone B d.model (drawn_between p f (q ∷ []) d).model side f
  single_done = subst (λ Y. FaceDone B X Y side f) (sym shared_is) (record { beside = W_beside; sided = W_sided })

-- ---- more pairs

module _ (B : Model) (side : ℕ → Bool) (p : Plane) (f : ℕ) (q r : ℕ × ℕ) (qs : List (ℕ × ℕ)) (d : Drawing) (n : ℕ) (w : Ready p f (q ∷ r ∷ qs) d n) (stays : Stays B d.model) (old : AllOld B (q ∷ r ∷ qs))
    (some : f ≢ 0) (free : (drawn_between p f (q ∷ r ∷ qs) d).stuck ≡ 0) where
  abbrev ps : List (ℕ × ℕ)
  ps = q ∷ r ∷ qs

  abbrev J : Drawing
  J = all_joined ps d

  abbrev D : Drawing
  D = all_drawn f J

  not_one : nat_eq (length ps) 1 ≡ false
  not_one = grind (arith, nat_tests)

  more : nat_lt 1 (length ps) ≡ true
  more = grind (arith, nat_tests)

  unshared : drawn_between p f ps d ≡ all_drawn f (ring_free f ps J)
  unshared = ap (λ b. cond b (record (all_drawn f (ring_free f ps J)) { model = with_rings (all_drawn f (ring_free f ps J)).model (rings_above (all_drawn f (ring_free f ps J)).model p f) (all_drawn f (ring_free f ps J)).taken.face }) (all_drawn f (ring_free f ps J))) not_one

  not_stopped : (nat_lt 1 (length ps) && has_rings J.model f) ≡ false
  not_stopped =
      false_from_ne_true (nat_lt 1 (length ps) && has_rings J.model f) (λ e. (draws_go_on f (stuck_at f J) J.left).stuck (stuck_now f J some)
      (sym (ap (λ b. (all_drawn f (cond b (stuck_at f J) J)).stuck) e) ∙ ap (λ x. x.stuck) (sym unshared) ∙ free))

  many_is : drawn_between p f ps d ≡ D
  many_is = unshared ∙ ap (λ b. all_drawn f (cond b (stuck_at f J) J)) not_stopped

  joined : Joined B d.model f J
  joined = joins_beside B d.model f (record d { left = [] }) ps n w.fit old (begun_joining p f ps d n w) (record { beside = nothing_beside d.model f; faces = refl; old = tt })

  state_sound : Sound J.model
  state_sound = (joins p f ps d n w).state.joined.drawn.sound

  q_there : HasHalf J.model q.0
  q_there = (joins p f ps d n w).state.joined.drawn.stays.halves q.0 w.fit.0.u_there

  q_face : face_at J.model q.0 ≡ f
  q_face = (joins p f ps d n w).state.joined.faces q.0 w.fit.0.u_there ∙ w.fit.0.u_face

  q_outer : outer J.model f ≡ loop_of J.model q.0
  q_outer = no_rings_means J.model f (grind (arith, more, not_stopped)) (loop_of J.model q.0) (loop_there J.model state_sound q.0 q_there) q_face

  begun_alone : Alone B d.model J.model f
  begun_alone z there drawn = elim drawn [
    | inl a ↦
        let is : outer J.model f ≡ z = no_rings_means J.model f (grind (arith, more, not_stopped)) z there a in
        record { outer_is = ap (outer J.model) a ∙ is; held = record { half = q.0; old = old.0.0; at = sym q_outer ∙ is } }
    | inr none ↦ absurd (never_free J.model.faces (face_of J.model z) (state_sound.loops_of_faces z there) (ap (λ t. table.get t (face_of J.model z)) joined.faces ∙ none))
  ]

  parting : Parting B d.model f w.sound D
  parting = draws_part B d.model f w.sound J J.left n (joins p f ps d n w).state.pairs joined.old (going p f ps d n w)
      (record { beside = joined.beside; stays = stays_on B d.model J.model stays (joins p f ps d n w).state.joined.drawn.stays; alone = begun_alone })

  D_sided : (h : ℕ) → Has D.model.faces h → ComesOf d.model f h → IsSided B D.model side h
  D_sided h there drawn =
      let o = (subst (λ x. Sound x.model) many_is (face_goes p f ps d n w).drawn.sound).outers_there h there in
      let a : Lone B D.model (outer D.model h) = parting.alone (outer D.model h) o.0 (subst (ComesOf d.model f) (sym o.1) drawn) in (
        side a.held.half,
        λ z z_there face.
            let b : Lone B D.model z = parting.alone z z_there (subst (ComesOf d.model f) (sym face) drawn) in
            subst (λ y. HeldOn B D.model side y (side a.held.half)) (sym (ap (outer D.model) face) ∙ b.outer_is) (record { held = a.held; on = refl }),
      )

  pub many_done : FaceDone B d.model (drawn_between p f (q ∷ r ∷ qs) d).model side f
  many_done = subst (λ x. FaceDone B d.model x.model side f) (sym many_is) (record { beside = parting.beside; sided = D_sided })

pub face_done : (B : Model) (side : ℕ → Bool) (p : Plane) (f : ℕ) (qs : List (ℕ × ℕ)) (d : Drawing) (n : ℕ) → Ready p f qs d n → Sound B → Stays B d.model → Untouched B d.model f → PairsOf B side p f qs → f ≢ 0 →
    (drawn_between p f qs d).stuck ≡ 0 → FaceDone B d.model (drawn_between p f qs d).model side f
face_done B side p f [] d n w sound stays untouched pairs some free = absurd (pairs.some_pair refl)
face_done B side p f (q ∷ []) d n w sound stays untouched pairs some free = single_done B side p f q d n w sound stays untouched pairs
face_done B side p f (q ∷ r ∷ qs) d n w sound stays untouched pairs some free = many_done B side p f q r qs d n w stays pairs.old some free

-- ---- faces drawn one after the other: those that are done lie each on one side, and the others are as they were

-- X is B with edges drawn in some of the faces `all`; `rest` are still to be drawn
pub record Stage (B X : Model) (side : ℕ → Bool) (s : ℕ) (all rest : List ℕ) : Type 0 where
  pub stays : Stays B X
  pub kept : (h : ℕ) → HasHalf B h → count (face_at B h) all ≡ 0 → face_at X h ≡ face_at B h
  pub rows : (g : ℕ) → Has B.faces g → table.get X.faces g ≡ table.get B.faces g
  pub done : (g : ℕ) → Has X.faces g → solid_of X g ≡ s → count g rest ≡ 0 → IsSided B X side g
  pub to_do : (f : ℕ) → IsIn f rest → Untouched B X f

-- the pairs of each of some faces are such pairs
abbrev pub AllPairsOf : Model → (ℕ → Bool) → Plane → List FacePairs → Type 0
AllPairsOf B side p = AllOf (λ q. PairsOf B side p q.face q.pairs)

module _ (B : Model) (side : ℕ → Bool) (s : ℕ) (all : List ℕ) (p : Plane) (sound : Sound B) where
  module _ (d : Drawing) (q : FacePairs) (qs : List FacePairs) (n : ℕ) (w : Drawable d (q ∷ qs) n) (some : q.face ≢ 0) (of_all : IsIn q.face all) (pairs : PairsOf B side p q.face q.pairs)
      (not_stuck_now : (next_drawn p d q).stuck ≡ 0) (a : Stage B d.model side s all (q.face ∷ map (λ q. q.face) qs)) where
    abbrev f : ℕ
    f = q.face

    abbrev fs : List ℕ
    fs = map (λ q. q.face) qs

    abbrev Z : Model
    Z = d.model

    abbrev Y : Model
    Y = (next_drawn p d q).model

    f_in : IsIn f (f ∷ fs)
    f_in = omega (arith, tick_same f)

    now : Ready p f q.pairs d (pairs_in qs + n)
    now = ready p d q qs n w

    drawn : DrawnIn Z Y f
    drawn = subst (λ x. DrawnIn Z x.model f) (sym (next_is p d q qs n w)) (face_goes p f q.pairs d (pairs_in qs + n) now).drawn

    face : FaceDone B Z Y side f
    face = subst (λ x. FaceDone B Z x.model side f) (sym (next_is p d q qs n w))
        (face_done B side p f q.pairs d (pairs_in qs + n) now sound a.stays (a.to_do f f_in) pairs some (ap (λ x. x.stuck) (sym (next_is p d q qs n w)) ∙ not_stuck_now))

    -- another face lies where it did
    lies_still : (g : ℕ) (b : Bool) → g ≢ f → Has Z.faces g → LiesOnSide B Z side g b → LiesOnSide B Y side g b
    lies_still g b ne old lies q there at =
        let row : table.get Y.loops q ≡ table.get Z.loops q = face.beside.loops q there (λ z. ne (sym at ∙ z)) (subst (Has Z.faces) (sym at) old) in
        let at_first : face_of Z q ≡ g = sym (same_face Z Y q row) ∙ at in
        let was = lies q (ap is_some (sym row) ∙ there) at_first in
        record {
          held = record {
            half = was.held.half;
            old = was.held.old;
            at = (drawn.beside was.held.half (a.stays.halves was.held.half was.held.old) (λ z. ne (sym (ap (face_of Z) was.held.at ∙ at_first) ∙ z))).0 ∙ was.held.at;
          };
          on = was.on;
        }

    done_then : (g : ℕ) → Has Y.faces g → solid_of Y g ≡ s → count g fs ≡ 0 → IsSided B Y side g
    done_then g there of_s z = elim (eqb_tells g f) [
      | inl e ↦ face.sided g there (inl e.1)
      | inr ne ↦ old_or_new (table.has Z.faces g) refl ne.1
    ] where
      old_or_new : (b : Bool) → table.has Z.faces g ≡ b → g ≢ f → IsSided B Y side g
      old_or_new false e ne = face.sided g there (inr (no_row (table.get Z.faces g) e))
      old_or_new true e ne =
          let was = a.done g e (sym (same_solid Z Y g (face.beside.faces g e)) ∙ of_s) (omega (arith, z, tick_other g f ne)) in
          (was.0, lies_still g was.0 ne e was.1)

    to_do_then : (g : ℕ) → IsIn g fs → Untouched B Y g
    to_do_then g i =
        let ne : g ≢ f = λ e. absurd (omega (arith, i, w.apart f, tick_same f, ap (λ z. count z fs) e)) in
        let was : Untouched B Z g = a.to_do g (omega (arith, i)) in
        record {
          there = drawn.stays.faces g was.there;
          row = face.beside.faces g was.there ∙ was.row;
          loops = λ q there at.
              let row : table.get Y.loops q ≡ table.get Z.loops q = face.beside.loops q there (λ z. ne (sym at ∙ z)) (subst (Has Z.faces) (sym at) was.there) in
              row ∙ was.loops q (ap is_some (sym row) ∙ there) (sym (same_face Z Y q row) ∙ at);
        }

    pub stage_on : Stage B Y side s all fs
    stage_on = record {
      stays = stays_on B Z Y a.stays drawn.stays;
      kept = λ h there z.
          let was : face_at Z h ≡ face_at B h = a.kept h there z in
          (drawn.beside h (a.stays.halves h there) (λ e. absurd (omega (arith, of_all, z, ap (λ x. count x all) (sym was ∙ e))))).1 ∙ was;
      rows = λ g there. face.beside.faces g (a.stays.faces g there) ∙ a.rows g there;
      done = done_then;
      to_do = to_do_then;
    }

  pub all_done : (d : Drawing) (qs : List FacePairs) (n : ℕ) → Drawable d qs n → ((f : ℕ) → IsIn f (map (λ q. q.face) qs) → f ≢ 0) → ((f : ℕ) → IsIn f (map (λ q. q.face) qs) → IsIn f all) → AllPairsOf B side p qs →
      (fold (next_drawn p) d qs).stuck ≡ 0 → Stage B d.model side s all (map (λ q. q.face) qs) → Stage B (fold (next_drawn p) d qs).model side s all []
  all_done d [] n w some within pairs ends a = a
  all_done d (q ∷ qs) n w some within pairs ends a =
      let i : IsIn q.face (q.face ∷ map (λ q. q.face) qs) = omega (arith, tick_same q.face) in
      all_done (next_drawn p d q) qs n (drawable_on p d q qs n w) (λ g j. some g (omega (arith, j))) (λ g j. within g (omega (arith, j))) pairs.1 ends
      (stage_on d q qs n w (some q.face i) (within q.face i) pairs.0 (not_stuck p (next_drawn p d q) qs ends) a)
