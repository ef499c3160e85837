-- One face drawn between its pairs, step by step as the code does it.
use Rattle.split_drawing.proofs.Prelude.{◌≡◌, ℕ, ◌+◌, Bool, true, false, cond, ◌&&◌, nat_eq, nat_lt, None, List, [], ◌∷◌, ◌++◌, length, map, ◌≢◌, refl, sym, ap, ◌∙◌, subst, ne_eqb, eq-eqb, fold, arith, append_assoc, append-nil, slice_index_or, length-map, Plane, Model, content, Has, has_rings, first_false, effect, Op, AreAccepted, vertices_on, some_above, Drawing, join_pair, join_next, draw_pair, draw_next, all_joined, ring_free, all_drawn, rings_above, with_rings, rings_shared, drawn_between, join_ops, draw_ops, ring_ops, share_ops, face_ops, begun_joining, joins, going, going_on, fitting_on, last, newer_face, AreNoted, noted_still, Noted, Pair, Progress, codes, Counters, taken_of, join_next_one, stuck_at, drawing_of, CanJoin, CanDraw, CanDrawFace, put_aside}
use Rattle.euler_operators.specs.Table as table
use Rattle.shapes.specs.split.Drawing as drawing
use Rattle.split_drawing_laws.proofs.drawings.Rings.{Moved, rings_move, rings_are, rings_apart}
use Rattle.split_drawing.proofs.face_drawing_laws.Turns.{draw_accepted, drew}

-- looked at between the two passes
module _ (f : ℕ) (c : Progress) (N : Model) (L : List (ℕ × ℕ)) where
  either_stuck : (b : Bool) → drawing_of (cond b (stuck_at c f) c) N L ≡ cond b (drawing.stuck_at f (drawing_of c N L)) (drawing_of c N L)
  either_stuck true = refl
  either_stuck false = refl

  pub looked_at : (qs : List (ℕ × ℕ)) (X : Model) (n : ℕ) (t : Progress) → X ≡ N → n ≡ length qs → t ≡ cond (nat_lt 1 n && has_rings X f) (stuck_at c f) c
      → drawing_of t N L ≡ ring_free f qs (drawing_of c N L)
  looked_at qs X n t x l e = ap (λ t. drawing_of t N L) (e ∙ (λ i. cond (nat_lt 1 (l i) && has_rings (x i) f) (stuck_at c f) c)) ∙ either_stuck (nat_lt 1 (length qs) && has_rings N f)

module _ (p : Plane) (f : ℕ) (qs : List (ℕ × ℕ)) (d : Drawing) (w : CanDrawFace p f qs d) where
  abbrev J : Drawing
  J = all_joined qs d

  abbrev R : Drawing
  R = ring_free f qs J

  abbrev L : Drawing
  L = all_drawn f R

  -- the first pass
  pub can_join : CanJoin f (record d { left = [] }) qs
  can_join = record { before = d.model; fit = w.ready.fit; joining = begun_joining p f qs d 0 w.ready }

  pub joined_there : (D : Drawing) → D ≡ all_joined qs d → Has D.model.faces f
  joined_there D e = subst (λ (x : Drawing). Has x.model.faces f) (sym e) ((going p f qs d 0 w.ready).drawn.stays.faces f w.there)

  -- the second
  abbrev stops : Bool
  stops = nat_lt 1 (length qs) && has_rings J.model f

  ready_to_draw : CanDraw f R R.left
  ready_to_draw = record {
    before = d.model;
    sound = w.ready.sound;
    fit = fitting_on d.model f f stops J (joins p f qs d 0 w.ready).state.pairs;
    going = going_on d.model f 0 stops J (going p f qs d 0 w.ready);
  }

  pub can_draw : (D : Drawing) → D ≡ ring_free f qs (all_joined qs d) → CanDraw f D D.left
  can_draw D e = subst (λ (x : Drawing). CanDraw f x x.left) (sym e) ready_to_draw

  -- with one pair, the rings above
  pub drawn_there : (D : Drawing) → D ≡ all_drawn f (ring_free f qs (all_joined qs d)) → Has D.model.faces f
  drawn_there D e = subst (λ (x : Drawing). Has x.model.faces f) (sym e) ((last p f qs d 0 w.ready).drawn.stays.faces f w.there)

  moved : length qs ≡ 1 → Moved d.model L.model f L.taken.face (rings_above L.model p f) L.taken
  moved one = rings_move d.model L.model f L.taken.face (rings_above L.model p f) L.taken (last p f qs d 0 w.ready).drawn
      (rings_are L.model f (λ l. some_above L.model p (vertices_on L.model (content L.model l))))
      (rings_apart L.model f (λ l. some_above L.model p (vertices_on L.model (content L.model l))))
      (newer_face p f qs d 0 w.ready one) (last p f qs d 0 w.ready).fresh

  pub rings_go : length qs ≡ 1 → (D : Drawing) → D ≡ all_drawn f (ring_free f qs (all_joined qs d)) → AreAccepted D.model (ring_ops (rings_above D.model p f) D.taken.face)
  rings_go one D e = subst (λ (x : Drawing). AreAccepted x.model (ring_ops (rings_above x.model p f) x.taken.face)) (sym e) (moved one).leads.accepted

  pub shared : nat_eq (length qs) 1 ≡ true → (D : Drawing) → D ≡ all_drawn f (ring_free f qs (all_joined qs d)) → (K : Model) → K ≡ with_rings D.model (rings_above D.model p f) D.taken.face
      → record D { model = K; left = [] } ≡ put_aside (drawn_between p f qs d)
  shared one D e K is = grind arith

  pub unshared : nat_eq (length qs) 1 ≡ false → (D : Drawing) → D ≡ all_drawn f (ring_free f qs (all_joined qs d)) → put_aside D ≡ put_aside (drawn_between p f qs d)
  unshared more D e = sym (ap (λ b. put_aside (cond b (record D { model = with_rings D.model (rings_above D.model p f) D.taken.face }) D)) more)
      ∙ ap (λ x. put_aside (rings_shared p f qs x)) e

-- the same as the code does it: joined, looked at, drawn, and the rings above given
module _ (p : Plane) (f : ℕ) (pairs : List Pair) (from : Progress) (M : Model) (w : CanDrawFace p f (map codes pairs) (drawing_of from M []))
    (c : Progress) (N : Model) (left : List Pair) (joined : drawing_of c N (map codes left) ≡ fold join_next (drawing_of from M []) (map codes pairs)) where
  abbrev ps : List (ℕ × ℕ)
  ps = map codes pairs

  abbrev begun : Drawing
  begun = drawing_of from M []

  pub then_there : Has N.faces f
  then_there = joined_there p f ps begun w (drawing_of c N (map codes left)) joined

  module _ (X : Model) (same : X ≡ N) (t : Progress) (told : t ≡ cond (nat_lt 1 (length pairs) && has_rings X f) (stuck_at c f) c) (now : List Pair) (are : now ≡ left) where
    looked_is : drawing_of t N (map codes now) ≡ ring_free f (map codes pairs) (all_joined (map codes pairs) (drawing_of from M []))
    looked_is = ap (λ (qs : List Pair). drawing_of t N (map codes qs)) are
        ∙ looked_at f c N (map codes left) ps X (length pairs) t same (sym (length-map pairs codes)) told
        ∙ ap (ring_free f ps) joined

    pub then_draw : CanDraw f (drawing_of t N (map codes now)) (map codes now)
    then_draw = can_draw p f ps begun w (drawing_of t N (map codes now)) looked_is

    module _ (u : Progress) (K : Model) (drawn : drawing_of u K (map codes now) ≡ fold (draw_next f) (drawing_of t N (map codes now)) (map codes now)) where
      last_is : drawing_of u K (map codes now) ≡ all_drawn f (ring_free f (map codes pairs) (all_joined (map codes pairs) (drawing_of from M [])))
      last_is = drawn ∙ ap (all_drawn f) looked_is

      pub last_there : Has K.faces f
      last_there = drawn_there p f ps begun w (drawing_of u K (map codes now)) last_is

      pub last_noted : (ns : List Noted) → AreNoted M p ns → AreNoted K p ns
      last_noted ns are = noted_still M K p (λ v _. ap (λ (x : Drawing). table.get x.model.vertices v) last_is ∙ ap (λ t. table.get t v) (last p f ps begun 0 w.ready).drawn.stays.vertices) ns are

      pub last_rings : length pairs ≡ 1 → AreAccepted K (ring_ops (rings_above K p f) u.taken.faces)
      last_rings one = rings_go p f ps begun w (length-map pairs codes ∙ one) (drawing_of u K (map codes now)) last_is

      pub with_shared : length pairs ≡ 1 → (Z : Model) → Z ≡ with_rings K (rings_above K p f) u.taken.faces → drawing_of u Z [] ≡ put_aside (drawn_between p f (map codes pairs) (drawing_of from M []))
      with_shared one Z is = shared p f ps begun w (eq-eqb (length ps) 1 (length-map pairs codes ∙ one)) (drawing_of u K (map codes now)) last_is Z is

      pub with_none : length pairs ≢ 1 → drawing_of u K [] ≡ put_aside (drawn_between p f (map codes pairs) (drawing_of from M []))
      with_none more = unshared p f ps begun w (ne_eqb (length ps) 1 (λ e. more (sym (length-map pairs codes) ∙ e))) (drawing_of u K (map codes now)) last_is

      -- the steps of both passes, and with one pair those that give the rings above
      abbrev second : List Op
      second = draw_ops f (drawing_of t N (map codes now)) (map codes now)

      abbrev given : List Op
      given = ring_ops (rings_above K p f) u.taken.faces

      second_is : draw_ops f (drawing_of t N (map codes now)) (map codes now) ≡ draw_ops f (ring_free f ps (all_joined ps begun)) (ring_free f ps (all_joined ps begun)).left
      second_is = ap (λ (x : Drawing). draw_ops f x x.left) looked_is

      pub steps_with_shared : length pairs ≡ 1 → (join_ops (drawing_of from M []) (map codes pairs) ++ draw_ops f (drawing_of t N (map codes now)) (map codes now)) ++ ring_ops (rings_above K p f) u.taken.faces
          ≡ face_ops p f (map codes pairs) (drawing_of from M [])
      steps_with_shared one =
          let last : given ≡ share_ops p f ps (all_drawn f (ring_free f ps (all_joined ps begun))) =
          sym (ap (λ b. cond b given []) (eq-eqb (length ps) 1 (length-map pairs codes ∙ one))) ∙ ap (share_ops p f ps) last_is in
          append_assoc (join_ops begun ps) second given ∙ (λ i. join_ops begun ps ++ (second_is i ++ last i))

      pub steps_with_none : length pairs ≢ 1 → join_ops (drawing_of from M []) (map codes pairs) ++ draw_ops f (drawing_of t N (map codes now)) (map codes now) ≡ face_ops p f (map codes pairs) (drawing_of from M [])
      steps_with_none more =
          let none : [] ≡ share_ops p f ps (all_drawn f (ring_free f ps (all_joined ps begun))) =
          sym (ap (λ b. cond b given []) (ne_eqb (length ps) 1 (λ e. more (sym (length-map pairs codes) ∙ e)))) ∙ ap (share_ops p f ps) last_is in
          ap (λ (xs : List Op). join_ops begun ps ++ xs) (sym (append-nil second) ∙ (λ i. second_is i ++ none i))

-- a face with only one pair, which stands in one loop: the first pass leaves it, and the second draws it
module _ (p : Plane) (f : ℕ) (pair : Pair) (from : Progress) (M : Model) (w : CanDrawFace p f (codes pair ∷ []) (drawing_of from M [])) where
  lone_joined : drawing_of from M (codes pair ∷ []) ≡ fold join_next (drawing_of from M []) (map codes (pair ∷ []))
  lone_joined = sym (join_next_one (drawing_of from M []) (codes pair) w.ready.alone)

  lone_can : CanDraw f (drawing_of from M (codes pair ∷ [])) (map codes (pair ∷ []))
  lone_can = then_draw p f (pair ∷ []) from M w from M (pair ∷ []) lone_joined M refl from refl (pair ∷ []) refl

  pub lone_accepted : first_false M (draw_pair (taken_of from.taken) (codes pair)) ≡ None
  lone_accepted = draw_accepted f from M (codes pair ∷ []) (pair ∷ []) (omega arith) lone_can w.ready.alone

  module _ (K : Model) (is : K ≡ effect M (draw_pair (taken_of from.taken) (codes pair))) (t : Counters)
      (counted : t ≡ record from.taken { faces = from.taken.faces + 1; loops = from.taken.loops + 1; edges = from.taken.edges + 1 }) where
    abbrev lone_drew : CanDraw f (drawing_of (record from { taken = t }) K (codes pair ∷ [])) []
        × (drawing_of (record from { taken = t }) K (codes pair ∷ []) ≡ fold (draw_next f) (drawing_of from M (codes pair ∷ [])) (map codes (pair ∷ [])))
        × (draw_pair (taken_of from.taken) (codes pair) ∷ [] ≡ draw_ops f (drawing_of from M (codes pair ∷ [])) (map codes (pair ∷ [])))
    lone_drew = drew f from M (codes pair ∷ []) (pair ∷ []) (omega arith) lone_can w.ready.alone K is t counted

    pub lone_there : Has K.faces f
    lone_there = last_there p f (pair ∷ []) from M w from M (pair ∷ []) lone_joined M refl from refl (pair ∷ []) refl (record from { taken = t }) K lone_drew.1

    pub lone_noted : (ns : List Noted) → AreNoted M p ns → AreNoted K p ns
    lone_noted = last_noted p f (pair ∷ []) from M w from M (pair ∷ []) lone_joined M refl from refl (pair ∷ []) refl (record from { taken = t }) K lone_drew.1

    pub lone_rings : AreAccepted K (ring_ops (rings_above K p f) t.faces)
    lone_rings = last_rings p f (pair ∷ []) from M w from M (pair ∷ []) lone_joined M refl from refl (pair ∷ []) refl (record from { taken = t }) K lone_drew.1 refl

    pub lone_shared : (Z : Model) → Z ≡ with_rings K (rings_above K p f) t.faces → drawing_of (record from { taken = t }) Z [] ≡ put_aside (drawn_between p f (codes pair ∷ []) (drawing_of from M []))
    lone_shared = with_shared p f (pair ∷ []) from M w from M (pair ∷ []) lone_joined M refl from refl (pair ∷ []) refl (record from { taken = t }) K lone_drew.1 refl

    pub lone_steps : draw_pair (taken_of from.taken) (codes pair) ∷ ring_ops (rings_above K p f) t.faces ≡ face_ops p f (codes pair ∷ []) (drawing_of from M [])
    lone_steps = (λ i. ((cond (sym w.ready.alone i) [] (join_pair M (codes pair) (from.taken.edges + 1) ∷ []) ++ []) ++ lone_drew.2 i) ++ ring_ops (rings_above K p f) t.faces)
        ∙ steps_with_shared p f (pair ∷ []) from M w from M (pair ∷ []) lone_joined M refl from refl (pair ∷ []) refl (record from { taken = t }) K lone_drew.1 refl

-- the only pair of a list
pub lone_pair : (qs : List Pair) (none : Pair) → length qs ≡ 1 → codes (slice_index_or qs 0 none) ∷ [] ≡ map codes qs
lone_pair [] none one = absurd (omega (arith, one))
lone_pair (q ∷ []) none one = refl
lone_pair (q ∷ r ∷ qs) none one = absurd (omega (arith, one))
