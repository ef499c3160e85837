-- What a plane meets of corners, added up.
use Rattle.split_checks.proofs.Prelude.{list_any, ◌≡◌, ℕ, ◌+◌, ◌-◌, ◌≤◌, nat_lt, vec_len, arith, Bool, true, false, cond, not, ◌&&◌, ◌||◌, List, [], ◌∷◌, ◌++◌, map, length, refl, sym, ap, ◌∙◌, subst, append_assoc, take, filter, append-nil, length-append, take_at, map-append, length-map, take-map, nat_tests, filter-append, list_any-append, Plane, Sign, Below, On, Above, HalfEdge, code, edge_of, height, sign_of, is_on, are_opposite, Point, Model, LoopContent, items_of, content, outer, rings_of, tail, point_of, before, Lone, Tells, edge_of-code, is_first-code, and_false, or_false, start, finish, boundary, corners, loops_of, items_in, vertices_on, vertices_in, is_place, is_touched, is_cut_often, places, crosses, reaches_above, reaches_below, straddles, items_joined, vertices_joined, leads_across, crossings_met, IsFaceMet, IsMeeting, with_side, face_met, all_places, touches, Looked, Met}
use Rattle.split_checks.specs.Common.{crossings_in, IsMet, IsRound, unmarked, same_sign, opposite_signs, lies, some_lie}
use Rattle.split_checks.proofs.cut_places_laws.PlaceWalks.{crossings_both}
use Rattle.split_checks.proofs.cut_places_laws.Signs.{sign_lies, signs_opposite}

pub and_joined : (a b c : Bool) → (a && b) && c ≡ a && (b && c)
and_joined a b c = grind arith

pub and_true : (a : Bool) → a ≡ a && true
and_true a = grind arith

or_turned : (a b : Bool) → a || b ≡ b || a
or_turned a b = grind arith

pub or_joined : (a b c : Bool) → (a || b) || c ≡ a || (b || c)
or_joined a b c = grind arith

module _ (M : Model) (p : Plane) where
  -- ---- nothing, and more after that

  pub nothing_met : (o : Looked) → IsMet M p o o [] []
  nothing_met o = grind (arith, or_false, append-nil)

  lie_both : (side : Sign) (us vs : List ℕ) → some_lie side M p (us ++ vs) ≡ some_lie side M p us || some_lie side M p vs
  lie_both side us vs = list_any-append (λ v. lies side p (point_of M v)) us vs

  flag_on : (a b c : Bool) (x y z : Bool) → b ≡ a || x → c ≡ b || y → z ≡ x || y → c ≡ a || z
  flag_on a b c x y z e f g = f ∙ ap (λ k. k || y) e ∙ or_joined a x y ∙ ap (λ k. a || k) (sym g)

  list_on : {X : Type 0} (ls ms ns xs ys zs : List X) → ms ≡ ls ++ xs → ns ≡ ms ++ ys → zs ≡ xs ++ ys → ns ≡ ls ++ zs
  list_on {X} ls ms ns xs ys zs e f g = f ∙ ap (λ (ks : List X). ks ++ ys) e ∙ append_assoc ls xs ys ∙ ap (λ (ks : List X). ls ++ ks) (sym g)

  pub more_met : (a b c : Looked) (hs ks us vs : List ℕ) → IsMet M p a b hs us → IsMet M p b c ks vs → IsMet M p a c (hs ++ ks) (us ++ vs)
  more_met a b c hs ks us vs h k = grind (arith, flag_on, lie_both, list_any-append, list_on, crossings_both, filter-append)

  -- ---- one half-edge

  -- a corner on a side is marked
  marked : (from side : Sign) (h : ℕ) (old new : Bool) → from ≡ sign_of (height p (start M h)) → new ≡ same_sign from side || old → new ≡ old || some_lie side M p (tail M h ∷ [])
  marked from side h old new is e =
      e ∙ or_turned (same_sign from side) old ∙ ap (λ b. old || b) (ap (λ s. same_sign s side) is ∙ sign_lies side p (start M h) ∙ sym (or_false (lies side p (start M h))))

  kept_if : {X : Type 0} (q : ℕ → Bool) (b : Bool) (g : ℕ → X) (h : ℕ) (x : X) → b ≡ q h → x ≡ g h → cond b (x ∷ []) [] ≡ map g (filter q (h ∷ []))
  kept_if {X} q b g h x e f = grind arith

  codes_if : (b : Bool) (h : HalfEdge) → map code (cond b (h ∷ []) []) ≡ cond b (code h ∷ []) []
  codes_if true h = refl
  codes_if false h = refl

  module _ (h : HalfEdge) (from : Sign) (is_from : from ≡ sign_of (height p (start M (code h)))) where
    pub one_met : (old new : Looked) (cross place touch : Bool) → cross ≡ leads_across M p (code h) → place ≡ is_place M p (code h) → touch ≡ touches M p (code h)
        → new.above ≡ same_sign from Above || old.above → new.below ≡ same_sign from Below || old.below → new.touched ≡ old.touched || touch
        → new.edges.items ≡ old.edges.items ++ cond cross (h.edge ∷ []) [] → new.places.items ≡ old.places.items ++ cond place (h ∷ []) []
        → IsMet M p old new (code h ∷ []) (tail M (code h) ∷ [])
    one_met old new cross place touch is_cross is_placed is_touch a b t es hs = record {
      above = marked from Above (code h) old.above new.above is_from a;
      below = marked from Below (code h) old.below new.below is_from b;
      touched = t ∙ ap (λ k. old.touched || k) (is_touch ∙ sym (or_false (touches M p (code h))));
      edges = es ∙ ap (λ (ks : List ℕ). old.edges.items ++ ks) (kept_if (leads_across M p) cross edge_of (code h) h.edge is_cross (sym (edge_of-code h)));
      places = ap (λ (ks : List HalfEdge). map code ks) hs ∙ map-append code old.places.items (cond place (h ∷ []) [])
          ∙ ap (λ (ks : List ℕ). map code old.places.items ++ ks) (codes_if place h ∙ ap (λ k. cond k (code h ∷ []) []) is_placed);
    }

  -- what the sides on which a half-edge starts and ends say of it
  module _ (h : HalfEdge) (from to : Sign) (is_from : from ≡ sign_of (height p (start M (code h)))) (is_to : to ≡ sign_of (height p (finish M (code h)))) where
    abbrev on : Bool
    on = is_on p (start M (code h))

    abbrev through : Bool
    through = are_opposite p (start M (before M (code h))) (finish M (code h))

    crossed : opposite_signs from to ≡ crosses M p (code h)
    crossed = (λ i. opposite_signs (is_from i) (is_to i)) ∙ signs_opposite (height p (start M (code h))) (height p (finish M (code h)))

    on_told : same_sign from On ≡ on
    on_told = ap (λ s. same_sign s On) is_from ∙ sign_lies On p (start M (code h))

    place_is : is_place M p (code h) ≡ crosses M p (code h) || (on && through)
    unfolding is_place
    place_is = refl

    pub across_is : (b : Bool) → opposite_signs from to ≡ b → leads_across M p (code h) ≡ h.first && b
    across_is b e = (λ i. is_first-code h i && (sym crossed ∙ e) i)

    -- it crosses
    pub place_across : opposite_signs from to ≡ true → true ≡ is_place M p (code h)
    place_across e = sym (place_is ∙ ap (λ b. b || (on && through)) (sym crossed ∙ e))

    -- or starts on the plane
    pub place_on : opposite_signs from to ≡ false → same_sign from On ≡ true → (b : Bool) → b ≡ through → b ≡ is_place M p (code h)
    place_on e o b t = t ∙ sym (place_is ∙ (λ i. (sym crossed ∙ e) i || ((sym on_told ∙ o) i && through)))

    -- or neither
    pub place_off : opposite_signs from to ≡ false → same_sign from On ≡ false → false ≡ is_place M p (code h)
    place_off e o = sym (place_is ∙ (λ i. (sym crossed ∙ e) i || ((sym on_told ∙ o) i && through)))

    pub touch_place : true ≡ is_place M p (code h) → false ≡ touches M p (code h)
    touch_place e = sym (and_false on) ∙ ap (λ b. on && not b) e

    pub touch_on : same_sign from On ≡ true → false ≡ is_place M p (code h) → true ≡ touches M p (code h)
    touch_on o e = (λ i. sym (sym on_told ∙ o) i && not (e i))

    pub touch_off : same_sign from On ≡ false → false ≡ touches M p (code h)
    touch_off o = ap (λ b. b && not (is_place M p (code h))) (sym (sym on_told ∙ o))

  -- a lone vertex, and the loop that is nothing else
  pub lone_met : (l : LoopContent) (v : ℕ) (q : Point) (old : Looked) (from : Sign) → Tells l (Lone v) → q ≡ point_of M v → from ≡ sign_of (height p q) → IsMet M p old (with_side old from) (items_of l) (vertices_on M l)
  lone_met l v q old from tells is at = grind (arith, or_false, append-nil, or_turned, sign_lies)

  pub lone_holds : (l : LoopContent) (v : ℕ) (q : Point) (old new : Looked) (from : Sign) → Tells l (Lone v) → q ≡ point_of M v → from ≡ sign_of (height p q) → new ≡ with_side old from → IsMet M p old new (items_of l) (vertices_on M l)
  lone_holds l v q old new from tells at is made = subst (λ o. IsMet M p old o (items_of l) (vertices_on M l)) (sym made) (lone_met l v q old from tells at is)

  -- ---- how many cut places there are

  module _ (old new : Looked) (hs vs : List ℕ) (met : IsMet M p old new hs vs) (m n : ℕ) (before : m ≡ vec_len old.places) (now : n ≡ vec_len new.places) where
    before_is : m ≡ length (map code old.places.items)
    before_is = before ∙ omega (arith, old.places.ok.0) ∙ sym (length-map old.places.items code)

    now_is : n ≡ m + length (filter (is_place M p) hs)
    now_is = now ∙ omega (arith, new.places.ok.0) ∙ sym (length-map new.places.items code) ∙ ap (λ (ks : List ℕ). length ks) met.places
        ∙ length-append (map code old.places.items) (filter (is_place M p) hs) ∙ ap (λ k. k + length (filter (is_place M p) hs)) (sym before_is)

    pub no_fewer : m ≤ n
    no_fewer = omega (arith, now_is)

    pub counted : n - m ≡ length (filter (is_place M p) hs)
    counted = omega (arith, now_is)

    pub some_told : nat_lt m n ≡ list_any (is_place M p) hs
    some_told = ap (nat_lt m) now_is ∙ more_if_any hs where
      more_if_any : (ks : List ℕ) → nat_lt m (m + length (filter (is_place M p) ks)) ≡ list_any (is_place M p) ks
      more_if_any [] = grind (arith, nat_tests)
      more_if_any (k ∷ ks) = grind (arith, nat_tests, more_if_any ks)

    -- those found before are still the first
    pub cut_back : map code (take m new.places.items) ≡ map code old.places.items
    cut_back = sym (take-map code m new.places.items) ∙ ap (take m) met.places ∙ take_at (map code old.places.items) (filter (is_place M p) hs) m (sym before_is)

  -- ---- a walk that has come so far

  pub record Walked (old now : Looked) (rest all : List ℕ) : Type 0 where
    pub done : List ℕ
    pub whole : done ++ rest ≡ all
    pub met : IsRound M p old now done

  pub walk_begins : (o : Looked) (all : List ℕ) → Walked o o all all
  walk_begins o all = record { done = []; whole = refl; met = nothing_met o }

  pub walk_on : (old now next : Looked) (h : ℕ) (rest all : List ℕ) → Walked old now (h ∷ rest) all → IsMet M p now next (h ∷ []) (tail M h ∷ []) → Walked old next rest all
  walk_on old now next h rest all w m = record {
    done = w.done ++ h ∷ [];
    whole = append_assoc w.done (h ∷ []) rest ∙ w.whole;
    met = subst (IsMet M p old next (w.done ++ h ∷ [])) (sym (map-append (tail M) w.done (h ∷ []))) (more_met old now next w.done (h ∷ []) (map (tail M) w.done) (tail M h ∷ []) w.met m);
  }

  pub walk_ends : (old now : Looked) (rest all : List ℕ) → Walked old now rest all → rest ≡ [] → IsRound M p old now all
  walk_ends old now rest all w none =
      subst (IsRound M p old now) (sym (append-nil w.done) ∙ ap (λ (ks : List ℕ). w.done ++ ks) (sym none) ∙ w.whole) w.met

  -- so has a walk over loops
  pub record LoopsWalked (old now : Looked) (rest all : List ℕ) : Type 0 where
    pub done : List ℕ
    pub whole : done ++ rest ≡ all
    pub met : IsMet M p old now (items_in M done) (vertices_in M done)

  pub loops_begin : (o : Looked) (all : List ℕ) → LoopsWalked o o all all
  loops_begin o all = record { done = []; whole = refl; met = nothing_met o }

  pub loops_on : (old now next : Looked) (l : ℕ) (rest all : List ℕ) → LoopsWalked old now (l ∷ rest) all → IsMet M p now next (items_of (content M l)) (vertices_on M (content M l)) → LoopsWalked old next rest all
  loops_on old now next l rest all w m = record {
    done = w.done ++ l ∷ [];
    whole = append_assoc w.done (l ∷ []) rest ∙ w.whole;
    met = subst (λ (hs : List ℕ). IsMet M p old next hs (vertices_in M (w.done ++ l ∷ []))) (ap (λ (hs : List ℕ). items_in M w.done ++ hs) (sym (append-nil (items_of (content M l)))) ∙ sym (items_joined M w.done (l ∷ [])))
        (subst (IsMet M p old next (items_in M w.done ++ items_of (content M l))) (ap (λ (vs : List ℕ). vertices_in M w.done ++ vs) (sym (append-nil (vertices_on M (content M l)))) ∙ sym (vertices_joined M w.done (l ∷ [])))
        (more_met old now next (items_in M w.done) (items_of (content M l)) (vertices_in M w.done) (vertices_on M (content M l)) w.met m));
  }

  pub loops_end : (old now : Looked) (rest all : List ℕ) → LoopsWalked old now rest all → rest ≡ [] → IsMet M p old now (items_in M all) (vertices_in M all)
  loops_end old now rest all w none =
      subst (λ (ls : List ℕ). IsMet M p old now (items_in M ls) (vertices_in M ls)) (sym (append-nil w.done) ∙ ap (λ (ks : List ℕ). w.done ++ ks) (sym none) ∙ w.whole) w.met

  -- ---- a face: its outer loop, and then its rings

  pub face_looked : (f : ℕ) (a b c : Looked) (l : ℕ) → l ≡ outer M f → IsMet M p a b (items_of (content M l)) (vertices_on M (content M l)) → IsMet M p b c (items_in M (rings_of M f)) (vertices_in M (rings_of M f))
      → IsMet M p a c (boundary M f) (corners M f)
  unfolding boundary corners loops_of
  face_looked f a b c l e h k =
      more_met a b c (items_of (content M (outer M f))) (items_in M (rings_of M f)) (vertices_on M (content M (outer M f))) (vertices_in M (rings_of M f))
      (subst (λ q. IsMet M p a b (items_of (content M q)) (vertices_on M (content M q))) e h) k

  -- what it adds to those before, where b tells whether it straddles
  pub face_done : (f : ℕ) (old new : Met) (n : Looked) (b : Bool) → IsMet M p (unmarked old.looked) n (boundary M f) (corners M f) → b ≡ n.above && n.below
      → new.above ≡ old.above || n.above → new.below ≡ old.below || n.below → new.looked.edges.items ≡ n.edges.items
      → new.faces.items ≡ old.faces.items ++ cond b (face_met M p f ∷ []) [] → map code new.looked.places.items ≡ map code old.looked.places.items ++ cond b (places M p f) [] → IsFaceMet M p old new f
  unfolding straddles
  face_done f old new n b met is a l es fs hs = grind arith

  pub face_told : (f : ℕ) (o n : Looked) (touched often : Bool) (many : ℕ) → IsMet M p (unmarked o) n (boundary M f) (corners M f) → touched ≡ n.touched → often ≡ is_cut_often M p f → many ≡ length (places M p f)
      → record { face = f; touched = touched; often = often; places = many } ≡ face_met M p f
  unfolding is_touched
  face_told f o n touched often many met t c e = λ i. record { face = f; touched = (t ∙ met.touched) i; often = c i; places = e i }

  pub places_told : (f : ℕ) (o n : Looked) (m k : ℕ) → IsMet M p (unmarked o) n (boundary M f) (corners M f) → m ≡ vec_len o.places → k ≡ vec_len n.places → k - m ≡ length (places M p f)
  unfolding places
  places_told f o n m k met before now = counted (unmarked o) n (boundary M f) (corners M f) met m k before now

  pub places_added : (f : ℕ) (o n : Looked) → IsMet M p (unmarked o) n (boundary M f) (corners M f) → map code n.places.items ≡ map code o.places.items ++ places M p f
  unfolding places
  places_added f o n met = met.places

  -- ---- faces, one after the other

  pub record FacesWalked (met : Met) (rest all : List ℕ) : Type 0 where
    pub done : List ℕ
    pub whole : done ++ rest ≡ all
    pub meets : IsMeeting M p done met

  pub faces_begin : (met : Met) (all : List ℕ) → met.above ≡ false → met.below ≡ false → met.looked.edges.items ≡ [] → met.faces.items ≡ [] → met.looked.places.items ≡ [] → FacesWalked met all all
  faces_begin met all a b e f h = record { done = []; whole = refl; meets = record { above = a; below = b; edges = e; faces = f; places = ap (λ (ks : List HalfEdge). map code ks) h } }

  edges_joined : (fs : List ℕ) (f : ℕ) → crossings_met M p (fs ++ f ∷ []) ≡ crossings_met M p fs ++ crossings_in M p (boundary M f)
  edges_joined [] f = append-nil (crossings_in M p (boundary M f))
  edges_joined (g ∷ fs) f = ap (λ (es : List ℕ). crossings_in M p (boundary M g) ++ es) (edges_joined fs f) ∙ sym (append_assoc (crossings_in M p (boundary M g)) (crossings_met M p fs) (crossings_in M p (boundary M f)))

  all_joined : (fs gs : List ℕ) → all_places M p (fs ++ gs) ≡ all_places M p fs ++ all_places M p gs
  all_joined [] gs = refl
  all_joined (f ∷ fs) gs = ap (λ (hs : List ℕ). places M p f ++ hs) (all_joined fs gs) ∙ sym (append_assoc (places M p f) (all_places M p fs) (all_places M p gs))

  met_if : (b : Bool) (f : ℕ) → map (face_met M p) (cond b (f ∷ []) []) ≡ cond b (face_met M p f ∷ []) []
  met_if true f = refl
  met_if false f = refl

  places_if : (b : Bool) (f : ℕ) → all_places M p (cond b (f ∷ []) []) ≡ cond b (places M p f) []
  places_if true f = append-nil (places M p f)
  places_if false f = refl

  abbrev straddling : List ℕ → List ℕ
  straddling fs = filter (straddles M p) fs

  one_more : (done : List ℕ) (old new : Met) (f : ℕ) → IsMeeting M p done old → IsFaceMet M p old new f → IsMeeting M p (done ++ f ∷ []) new
  one_more done old new f m h = record {
    above = h.above ∙ (λ i. m.above i || sym (or_false (reaches_above M p f)) i) ∙ sym (list_any-append (reaches_above M p) done (f ∷ []));
    below = h.below ∙ (λ i. m.below i || sym (or_false (reaches_below M p f)) i) ∙ sym (list_any-append (reaches_below M p) done (f ∷ []));
    edges = h.edges ∙ ap (λ (es : List ℕ). es ++ crossings_in M p (boundary M f)) m.edges ∙ sym (edges_joined done f);
    faces = h.faces ∙ (λ i. m.faces i ++ sym (met_if (straddles M p f) f) i) ∙ sym (map-append (face_met M p) (straddling done) (straddling (f ∷ []))) ∙ ap (map (face_met M p)) (sym (filter-append (straddles M p) done (f ∷ [])));
    places = h.places ∙ (λ i. m.places i ++ sym (places_if (straddles M p f) f) i) ∙ sym (all_joined (straddling done) (straddling (f ∷ []))) ∙ ap (all_places M p) (sym (filter-append (straddles M p) done (f ∷ [])));
  }

  pub faces_on : (old new : Met) (f : ℕ) (rest all : List ℕ) → FacesWalked old (f ∷ rest) all → IsFaceMet M p old new f → FacesWalked new rest all
  faces_on old new f rest all w h = record { done = w.done ++ f ∷ []; whole = append_assoc w.done (f ∷ []) rest ∙ w.whole; meets = one_more w.done old new f w.meets h }

  pub faces_end : (met : Met) (rest all : List ℕ) → FacesWalked met rest all → rest ≡ [] → IsMeeting M p all met
  faces_end met rest all w none = subst (λ fs. IsMeeting M p fs met) (sym (append-nil w.done) ∙ ap (λ (ks : List ℕ). w.done ++ ks) (sym none) ∙ w.whole) w.meets
