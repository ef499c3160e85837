-- The upper faces that are left parted from the solid: a split from its first operator to its two solids.
use Rattle.split_laws.proofs.Prelude.{◌≡◌, ℕ, Bool, true, false, cond, List, [], ◌∷◌, None, is_some, IsTrue, refl, sym, ap, ◌∙◌, subst, ◌+◌, ◌≤◌, not, ◌++◌, arith, ◌<◌, length, unwrap_or, filter, map, fold, mate, Model, solid_of, is_number, no_face, Has, HasHalf, Sound, face_at, lists, strictly_rises, effect, part, faces_to_solid, count, IsIn, IsApart, Plane, Part, Op, mate_there, same_truth, map_alike, tick_same, count-append, IsIn-filter, count-filter, filter_passes, mate-mate, IsIn-from_listed, listed-from_in, PartGoes, part_accepted, counted_once, none_counted, effects_keep_sound, half_face, Leads, leads_one, leads_on, Caps, outer_caps, hole_closed, upper_left, opened_at, split_refusal, split_model, split_drawn, Drawing, with_drawings, below_halves, section_cycles, has_stray_hole, faces_above, ArePlain, cap_faces, HasCaps, upper_faces, CanBeOpenedInTurn, filter_rises, false_from_ne_true, above_there, all_on, caps_rise, rewritings_accepted, rewritings_made, closing_ops, hole_ops, openings_ops, upper_ops, ops_above, split_above, split_ops, later_ops, HasFace}
use Rattle.euler_operators.specs.Table as table
use Rattle.split_laws.proofs.Holes.{CanPart, AreClosed, AreLevel, CanClose, none_closed, all_close, can_close, holes_counted}
use Rattle.euler_laws.specs.Laws.{AreAccepted, effects}
use Rattle.split_drawing_laws.specs.pairs.Laws.{rewriting_ops}
use Rattle.split_laws.proofs.Flags.{flags_are, one_outer, IsOld, all_old, solids_still}
use Rattle.split_laws.proofs.Openings.{openings_go}
use Rattle.split_laws.proofs.drawn.Drawn.{begins, t_fits, no_stray, t_free, can_open_all, no_caps, some_above, some_below}
use Rattle.split_laws.proofs.Stages.{openings}

-- those of some faces that are there
abbrev pub still_there : Model → List ℕ → List ℕ
still_there N fs = filter (table.has N.faces) fs

-- what is listed in a thinned list passes the test and stands in the whole
filter_lists : (p : ℕ → Bool) (fs : List ℕ) (f : ℕ) → lists (filter p fs) f ≡ true → (p f ≡ true) × (lists fs f ≡ true)
filter_lists p fs f l = let i = IsIn-from_listed f (filter p fs) l in (filter_passes p f fs i, listed-from_in f fs (omega (arith, i, count-filter p f fs)))

-- and the other way
lists_filter : (p : ℕ → Bool) (fs : List ℕ) (f : ℕ) → p f ≡ true → lists fs f ≡ true → lists (filter p fs) f ≡ true
lists_filter p fs f t l = listed-from_in f (filter p fs) (IsIn-filter p f fs (IsIn-from_listed f fs l) t)

-- of what is there, all that is listed is still
pub still_lists : (N : Model) (us : List ℕ) (f : ℕ) → Has N.faces f → lists (still_there N us) f ≡ lists us f
still_lists N us f t = same_truth (lists (still_there N us) f) (lists us f) (λ l. (filter_lists (table.has N.faces) us f l).1) (λ l. lists_filter (table.has N.faces) us f t l)

-- listing also faces that are gone changes nothing
pub part_same : (N : Model) (s t : ℕ) (us : List ℕ) → part N s t (still_there N us) ≡ part N s t us
unfolding part
part_same N s t us = λ i. record {
  solids = table.put N.solids t tt;
  faces = map_alike (faces_to_solid (λ f _. lists (still_there N us) f) t) (faces_to_solid (λ f _. lists us f) t) N.faces
      (λ q x at. ap (λ b. cond b (record x { solid = t }) x) (still_lists N us q (ap is_some at))) i;
  loops = N.loops;
  edges = N.edges;
  vertices = N.vertices;
}

-- a face of solid s on either side
pub record BothSides (N : Model) (s : ℕ) (us : List ℕ) : Type 0 where
  pub upper : ℕ
  pub upper_there : Has N.faces upper
  pub upper_listed : lists us upper ≡ true
  pub lower : ℕ
  pub lower_there : Has N.faces lower
  pub lower_of : solid_of N lower ≡ s
  pub lower_unlisted : lists us lower ≡ false

module _ (N : Model) (s t : ℕ) (us : List ℕ) (w : CanPart N s us) (both : BothSides N s us) (rises : strictly_rises us ≡ true) (t_free : table.get N.solids t ≡ None) (t_fits : IsTrue (is_number t)) where
  abbrev fs : List ℕ
  fs = still_there N us

  goes : PartGoes N s t fs
  goes = record {
    s_there = subst (Has N.solids) both.lower_of (w.sound.faces_of_solids both.lower both.lower_there);
    t_free = t_free;
    t_fits = t_fits;
    each = λ f l. let k = filter_lists (table.has N.faces) us f l in (k.0, w.of_solid f k.1 k.0);
    listed = (both.upper, still_lists N us both.upper both.upper_there ∙ both.upper_listed);
    rises = filter_rises (table.has N.faces) us rises;
    left = (both.lower, both.lower_there, both.lower_of, still_lists N us both.lower both.lower_there ∙ both.lower_unlisted);
    whole = λ x h. still_lists N us (face_at N x) (half_face N w.sound x h) ∙ w.whole x h ∙ sym (still_lists N us (face_at N (mate x)) (half_face N w.sound (mate x) (mate_there N x h)));
  }

  pub part_leads : Leads N (part N s t (still_there N us)) (Part s t (still_there N us) ∷ [])
  unfolding effect
  part_leads = leads_one N (part N s t fs) (Part s t fs) (part_accepted N s t fs w.sound goes) refl

-- ---- which of the upper faces are left when the holes are closed

abbrev holes_of : List Caps → List Caps
holes_of ks = filter (λ k. k.hole) ks

abbrev others_of : List Caps → List Caps
others_of ks = filter (λ k. not k.hole) ks

-- the test tells of each caps above whether they are no hole's
abbrev Tells : (ℕ → Bool) → List Caps → Type 0
Tells p [] = Unit {0}
Tells p (k ∷ ks) = (p k.upper ≡ not k.hole) × Tells p ks

filter_front : (p : ℕ → Bool) (fs gs : List ℕ) → ((f : ℕ) → IsIn f fs → p f ≡ true) → filter p (fs ++ gs) ≡ fs ++ filter p gs
filter_front p [] gs passes = refl
filter_front p (f ∷ fs) gs passes = grind (arith, tick_same, filter_front p fs gs (λ g i. passes g (omega (arith, i))))

filter_uppers : (p : ℕ → Bool) (ks : List Caps) → Tells p ks → filter p (map (λ k. k.upper) ks) ≡ map (λ k. k.upper) (others_of ks)
filter_uppers p [] w = refl
filter_uppers p (k ∷ ks) w = grind (arith, filter_uppers p ks w.1)

parts_counted : (x : ℕ) (ks : List Caps) → count x (cap_faces (holes_of ks)) + count x (cap_faces (others_of ks)) ≡ count x (cap_faces ks)
parts_counted x [] = refl
parts_counted x (k ∷ ks) = grind (arith, parts_counted x ks)

module _ (N K : Model) (s : ℕ) (us : List ℕ) (all : List Caps) (ops : List Op) (closed : AreClosed N K s us ops (holes_of all)) (apart : IsApart (cap_faces all)) where
  -- a hole's caps are gone
  hole_gone : (x : ℕ) → IsIn x (cap_faces (holes_of all)) → table.has K.faces x ≡ false
  hole_gone x i = ap is_some (closed.gone x i)

  -- others are there
  other_there : (x : ℕ) → IsIn x (cap_faces (others_of all)) → Has N.faces x → table.has K.faces x ≡ true
  other_there x i there = ap is_some (closed.rows x (omega (arith, i, apart x, parts_counted x all))) ∙ there

  tells : (ks : List Caps) → ArePlain N s ks → ((x : ℕ) → count x (cap_faces (holes_of ks)) ≤ count x (cap_faces (holes_of all))) → ((x : ℕ) → count x (cap_faces (others_of ks)) ≤ count x (cap_faces (others_of all))) → Tells (table.has K.faces) ks
  tells [] w holes others = tt
  tells (k ∷ ks) w holes others = (first, tells ks w.2 (λ x. rest_holes x) (λ x. rest_others x)) where
    more : (b : Bool) (x : ℕ) (js : List Caps) → count x (cap_faces js) ≤ count x (cap_faces (cond b (k ∷ js) js))
    more true x js = omega arith
    more false x js = omega arith

    rest_holes : (x : ℕ) → count x (cap_faces (holes_of ks)) ≤ count x (cap_faces (holes_of all))
    rest_holes x = omega (arith, more k.hole x (holes_of ks), holes x)

    rest_others : (x : ℕ) → count x (cap_faces (others_of ks)) ≤ count x (cap_faces (others_of all))
    rest_others x = omega (arith, more (not k.hole) x (others_of ks), others x)

    hole_or_other : (b : Bool) → count k.upper (cap_faces (cond b (k ∷ holes_of ks) (holes_of ks))) ≤ count k.upper (cap_faces (holes_of all)) →
        count k.upper (cap_faces (cond (not b) (k ∷ others_of ks) (others_of ks))) ≤ count k.upper (cap_faces (others_of all)) → table.has K.faces k.upper ≡ not b
    hole_or_other true l m = hole_gone k.upper (omega (arith, l, tick_same k.upper))
    hole_or_other false l m = other_there k.upper (omega (arith, m, tick_same k.upper)) w.1.there

    first : table.has K.faces k.upper ≡ not k.hole
    first = hole_or_other k.hole (holes k.upper) (others k.upper)

-- the faces above and the caps above of the outer cycles
pub left_are : (N K : Model) (s : ℕ) (us above : List ℕ) (ks : List Caps) (ops : List Op) → AreClosed N K s us ops (filter (λ k. k.hole) ks) → ArePlain N s ks → IsApart (cap_faces ks) → ((f : ℕ) → IsIn f above → Has K.faces f) →
    still_there K (upper_faces above ks) ≡ upper_left above ks
left_are N K s us above ks ops closed plain apart there = filter_front (table.has K.faces) above (map (λ k. k.upper) ks) there
    ∙ ap (λ fs. above ++ fs) (filter_uppers (table.has K.faces) ks (tells N K s us ks ops closed apart ks plain (λ x. omega arith) (λ x. omega arith)))

-- ---- a split from its first operator to its two solids: the holes of the section closed, and the upper faces that are left parted

-- ---- which of the caps are listed

pub not_listed : (x : ℕ) (ns : List ℕ) → count x ns ≡ 0 → lists ns x ≡ false
not_listed x ns z = false_from_ne_true (lists ns x) (λ e. absurd (omega (arith, z, IsIn-from_listed x ns e)))

pub caps_counted : (x : ℕ) (ks : List Caps) → count x (cap_faces ks) ≡ count x (map (λ k. k.lower) ks) + count x (map (λ k. k.upper) ks)
caps_counted x [] = refl
caps_counted x (k ∷ ks) = omega (arith, caps_counted x ks)

module _ (above : List ℕ) (all : List Caps) (once : (x : ℕ) → count x above + count x (cap_faces all) ≤ 1) where
  level_in : (ks : List Caps) → ((x : ℕ) → count x (map (λ k. k.lower) ks) ≤ count x (map (λ k. k.lower) all)) → ((x : ℕ) → count x (map (λ k. k.upper) ks) ≤ count x (map (λ k. k.upper) all)) → AreLevel (upper_faces above all) ks
  level_in [] low up = tt
  level_in (k ∷ ks) low up = grind (arith, not_listed, caps_counted, tick_same, count-append, listed-from_in, level_in ks (λ x. omega (arith, low x)) (λ x. omega (arith, up x)))

-- ---- all openings made

module _ (d : Drawing) (above : List ℕ) (s : ℕ) (p : Plane)
    (opens : CanBeOpenedInTurn above s (record { model = d.model; taken = d.taken; caps = [] }) (section_cycles d.model (below_halves d.model above s)))
    (bare : HasCaps above s (record { model = d.model; taken = d.taken; caps = [] }))
    (no_stray : has_stray_hole d.model p (section_cycles d.model (below_halves d.model above s)) ≡ false) where
  abbrev pub D : Model
  D = d.model

  open openings d above s p use {cycles, begun, opened as X, upper as us, closed as K}

  abbrev pub ks : List Caps
  ks = (opened_at d above s p).caps

  pub opened : CanBeOpenedInTurn above s X []
  opened = all_on above s p begun cycles opens

  pub caps : HasCaps above s X
  caps = caps_rise above s p begun cycles opens bare

  pub old : (f : ℕ) → Has D.faces f → IsOld D X f
  old f there = all_old D above s p begun cycles opens f there (record { row = refl; no_cap = refl })

  pub once : (x : ℕ) → count x above + count x (cap_faces ks) ≤ 1
  once x = omega (arith, counted_once x (above ++ cap_faces ks) caps.all_rise, count-append x above (cap_faces ks))

  never_across : (x : ℕ) → HasHalf X.model x → lists us (face_at X.model x) ≡ false → lists us (face_at X.model (mate x)) ≡ true → ⊥
  never_across x there f g = absurd (omega (arith, opened.between.only x there f g))

  whole : (x : ℕ) → HasHalf X.model x → lists us (face_at X.model x) ≡ lists us (face_at X.model (mate x))
  whole x there = listed_alike (lists us (face_at X.model x)) (lists us (face_at X.model (mate x))) refl refl where
    listed_alike : (a b : Bool) → lists us (face_at X.model x) ≡ a → lists us (face_at X.model (mate x)) ≡ b → lists us (face_at X.model x) ≡ lists us (face_at X.model (mate x))
    listed_alike true true e f = e ∙ sym f
    listed_alike false false e f = e ∙ sym f
    listed_alike false true e f = absurd (never_across x there e f)
    listed_alike true false e f = absurd (never_across (mate x) (mate_there X.model x there) f (ap (λ y. lists us (face_at X.model y)) (mate-mate x) ∙ e))

  can_part : CanPart X.model s us
  can_part = record { sound = opened.sound; of_solid = λ f l there. opened.upper_of_solid f l; whole = whole }

  -- ---- the holes closed

  pub level : AreLevel us ks
  level = level_in above ks once ks (λ x. omega arith) (λ x. omega arith)

  abbrev pub holes : List Caps
  holes = filter (λ k. k.hole) (opened_at d above s p).caps

  can_take : length holes < length ks → CanClose X.model s us (outer_caps ks) holes
  can_take = can_close X.model s us ks can_part caps.plain (λ x. omega (arith, once x)) level

  outer_left : (hs : List Caps) → holes ≡ hs → 0 < length hs → length holes < length ks
  outer_left hs e l = omega (arith, one_outer D p cycles ks (flags_are above s p begun cycles opens) no_stray (subst (λ x. 0 < length x) (sym e) l))

  close : (hs : List Caps) → holes ≡ hs → AreClosed X.model (fold (hole_closed (outer_caps ks)) X.model hs) s us (closing_ops (outer_caps ks) hs) hs
  close [] e = none_closed X.model s us can_part
  close (h ∷ hs) e = all_close X.model s us (outer_caps ks) (h ∷ hs) (subst (CanClose X.model s us (outer_caps ks)) e (can_take (outer_left (h ∷ hs) e (omega arith))))

  pub closed : AreClosed X.model K s us (hole_ops ks) holes
  closed = close holes refl

  -- ---- a face on either side is left

  pub left_row : (f : ℕ) → Has D.faces f → table.get K.faces f ≡ table.get D.faces f
  left_row f there = let o = old f there in closed.rows f (omega (arith, o.no_cap, holes_counted f ks)) ∙ o.row

  pub faces_left : still_there K us ≡ upper_left above ks
  faces_left = left_are X.model K s us above ks (hole_ops ks) closed caps.plain (λ x. omega (arith, once x)) (λ f i. let l = listed-from_in f above i in
      let there : Has D.faces f = above_there above s begun cycles opens f l in ap is_some (left_row f there) ∙ there)

  -- listing also the caps that are gone changes nothing
  pub parted_alike : (t : ℕ) → part K s t (upper_left above ks) ≡ part K s t us
  parted_alike t = ap (part K s t) (sym faces_left) ∙ part_same K s t us

  -- ---- the operators from the drawn model on, where it has a face of the solid on either side

  module _ (first_above : HasFace d.model s above true) (first_below : HasFace d.model s above false) (t : ℕ) (t_free : table.get d.model.solids t ≡ None) (t_fits : IsTrue (is_number t)) where
    sides : BothSides K s us
    unfolding solid_of
    sides =
        let o = old first_below.face first_below.there in
        record {
          upper = first_above.face;
          upper_there = ap is_some (left_row first_above.face first_above.there) ∙ first_above.there;
          upper_listed = listed-from_in first_above.face us (omega (arith, IsIn-from_listed first_above.face above first_above.is, count-append first_above.face above (map (λ k. k.upper) ks)));
          lower = first_below.face;
          lower_there = ap is_some (left_row first_below.face first_below.there) ∙ first_below.there;
          lower_of = ap (λ o. (unwrap_or o no_face).solid) (left_row first_below.face first_below.there) ∙ first_below.of_solid;
          lower_unlisted = not_listed first_below.face us (omega (arith, none_counted first_below.face above first_below.is, o.no_cap, caps_counted first_below.face ks, count-append first_below.face above (map (λ k. k.upper) ks)));
        }

    t_left : table.get K.solids t ≡ None
    t_left = ap (λ u. table.get u t) (closed.solids ∙ solids_still above s p begun cycles opens) ∙ t_free

    parted : Leads K (part K s t (upper_left above ks)) (Part s t (upper_left above ks) ∷ [])
    parted = subst (λ fs. Leads K (part K s t fs) (Part s t fs ∷ [])) faces_left (part_leads K s t us closed.part sides caps.upper_rise t_left t_fits)

    pub drawn_leads : Leads d.model (split_drawn d above s p t) (later_ops d above s p t)
    drawn_leads = leads_on D X.model (part K s t (upper_left above ks)) (openings_ops above s p begun cycles) (upper_ops X above s t) (openings_go above s p begun cycles opens)
        (leads_on X.model K (part K s t (upper_left above ks)) (hole_ops ks) (Part s t (upper_left above ks) ∷ []) closed.leads parted)

-- ---- a split from its first operator to its two solids

module _ (M : Model) (s : ℕ) (p : Plane) (t : ℕ) (sound : Sound M) (accepted : split_refusal M s p t ≡ None) where
  abbrev d : Drawing
  d = with_drawings M s p

  later : Leads d.model (split_above d s p t) (ops_above d s p t)
  later = drawn_leads d (faces_above d.model p s) s p (can_open_all M s p t sound accepted) (no_caps M s p t sound accepted) (no_stray M s p t sound accepted)
      (some_above M s p t sound accepted) (some_below M s p t sound accepted) t (t_free M s p t sound accepted) (t_fits M s p t sound accepted)

  first : Leads M d.model (rewriting_ops M s p)
  first = record { accepted = rewritings_accepted M s p t sound (begins M s p t sound accepted); made = rewritings_made M s p t sound (begins M s p t sound accepted) }

  all : Leads M (split_above d s p t) (rewriting_ops M s p ++ ops_above d s p t)
  all = leads_on M d.model (split_above d s p t) (rewriting_ops M s p) (ops_above d s p t) first later

  -- no operator of a split is refused
  pub split_accepted : AreAccepted M (split_ops M s p t)
  unfolding split_ops
  split_accepted = all.accepted

  -- and they make its model
  pub split_made : effects M (split_ops M s p t) ≡ split_model M s p t
  unfolding split_ops split_model
  split_made = all.made

  pub split_sound : Sound (split_model M s p t)
  split_sound = subst Sound split_made (effects_keep_sound M (split_ops M s p t) sound split_accepted)
