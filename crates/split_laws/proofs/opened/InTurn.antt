-- The six volumes of a solid that is opened along a cycle on a plane, and those of the other solids.
use Rattle.split_laws.proofs.Prelude.{◌≡◌, ◌≢◌, ℕ, ◌+◌, ℤ, pos, ◌+ℤ◌, neg_ℤ, Bool, true, not, nat_eq, List, [], ◌∷◌, length, is_some, refl, sym, ap, subst, ◌∙◌, arith, inl, inr, false, ◌&&◌, true≢false, ◌⊎◌, map, ne_eqb, eqb_tells, and_parts, ints, Plane, origin, dot, same_point, direction, cross, is_on, count, IsIn, SameItems, mate, Model, FaceRow, items_of, tail, content, face_of, loop_of, outer, solid_of, faces_of, cycle, point_of, Has, HasHalf, canonical, tick_other, count-append, from_map, in-holds, in_use_within, get-put_other, row_some, none_added, count-canonical, IsIn_head, all_mapped, face_in, Taken, area, anchor, is_plane_of, volume_in, six_volume, normal, opened_along, Caps, Opening, all_opened, start, rewritten, told_alike, some_direction, dot_back, get-put_cases, CanBeOpened, halves_in, CanBeOpenedInTurn, ArePlain, HasCaps, faces_are, face_still, upper_row, renamed_not, there_in, can_open, openings_carry, capped_carry, opened_next, new_caps, one_if, passed, count_where, same_search, volume_of, volume_same, same_volumes, AllTellAlike, TellsAlike, LiesAlong, AllLieAlong, LieOn}
use Rattle.euler_operators.specs.Table as table
use Rattle.split_opening_laws.proofs.sections.OpenedRows.{loop_row}
use Rattle.split_laws.proofs.opened.Starts.{swap, point_old, swapped, start_old}
use Rattle.split_laws.proofs.opened.Kept as kept
use Rattle.split_laws.proofs.opened.Caps.{lower_row, loop_kinds, lower_normal, upper_normal, cycle_across, lower_along, upper_along, anchor_along}
use Rattle.split_laws.proofs.Holes.{IsOfEach, each_last}

module _ (M : Model) (above : List ℕ) (s : ℕ) (c : Taken) (bs : List ℕ) (w : CanBeOpened M above s c bs) where
  abbrev N : Model
  N = opened_along M above s c bs

  abbrev lower : ℕ
  lower = c.face + 1

  abbrev upper : ℕ
  upper = c.face + length bs + 1

  -- its loops are rewritten, and the two new ones are of new faces
  pub is_rewritten : kept.Renumbered M N (swap M above s c bs w)
  is_rewritten = record {
    sound = w.sound;
    faces = face_still M above s c bs w.sound w.free;
    loops = loop_row M above s c bs w.sound w.free;
    others = λ l row at. elim (loop_kinds M above s c bs w l row at) [
      | inl q ↦ inr (ap (table.get M.faces) q.1 ∙ w.free.faces upper (omega arith))
      | inr q ↦ grind arith
    ];
    stays = swapped M above s c bs w;
    points = λ v there. point_old M above s c bs w v (in_use_within M.vertices c.vertex w.free.vertices v there);
  }

  -- ---- which faces there are

  abbrev of : ℕ → ℕ → FaceRow → Bool
  of u k row = nat_eq row.solid u

  other_row : (k : ℕ) → k ≢ lower → k ≢ upper → table.get N.faces k ≡ table.get M.faces k
  other_row k a b = ap (λ t. table.get t k) (faces_are M above s c bs) ∙ get-put_other _ upper _ k b ∙ get-put_other M.faces lower _ k a

  abbrev SameAt : ℕ → Type 0
  SameAt k = count k (faces_of N s) ≡ count k (lower ∷ upper ∷ faces_of M s)

  at_lower : SameAt lower
  at_lower = grind (arith, count_where, lower_row)

  at_upper : SameAt upper
  at_upper = grind (arith, count_where, upper_row)

  at_other : (k : ℕ) → k ≢ lower → k ≢ upper → SameAt k
  at_other k a b = grind (arith, count_where, other_row, tick_other)

  -- the solid has its faces and the caps
  pub same_faces : SameItems (faces_of N s) (lower ∷ upper ∷ faces_of M s)
  same_faces k = grind (arith, at_lower, at_upper, at_other)

  -- another solid has its own
  other_faces : (u : ℕ) → u ≢ s → faces_of N u ≡ faces_of M u
  other_faces u ne = same_search (of u) (of u) N.faces M.faces (λ k. elim (eqb_tells k lower) [
    | inl e ↦ grind (arith, passed, lower_row, one_if, ne_eqb, w.free.faces lower (omega arith))
    | inr a ↦ elim (eqb_tells k upper) [
      | inl e ↦ grind (arith, passed, upper_row, one_if, ne_eqb, w.free.faces upper (omega arith))
      | inr b ↦ ap (passed (of u) k) (other_row k a.1 b.1)
    ]
  ])

  -- ---- another solid

  module _ (u : ℕ) (ne : u ≢ s) where
    no_mate : (k y : ℕ) → Has M.faces k → solid_of M k ≡ u → IsIn y (items_of (content M (outer M k))) → IsIn y (map mate bs) → ⊥
    no_mate k y there is i j =
        let r = from_map mate y bs j in
        let at : face_of M (loop_of M y) ≡ k = ap (face_of M) (w.sound.one_loop y (outer M k) (in-holds y (content M (outer M k)) i)) ∙ (w.sound.outers_there k there).1 in
        ne (sym is ∙ ap (solid_of M) (sym at) ∙ ap (λ h. solid_of M (face_of M (loop_of M h))) r.2 ∙ sym (w.sound.one_solid r.0 (w.cycle.halves r.0 r.1).there) ∙ (w.cycle.halves r.0 r.1).of_solid)

    nothing_replaced : (k : ℕ) → Has M.faces k → solid_of M k ≡ u → (y : ℕ) → IsIn y (items_of (content M (outer M k))) → swap M above s c bs w y ≡ y
    nothing_replaced k there is y i = grind (arith, no_mate, renamed_not)

    other_keeps : six_volume N u ≡ six_volume M u
    unfolding six_volume
    other_keeps = ap (volume_in N) (other_faces u ne) ∙ same_volumes M N (faces_of M u)
        (λ k i. let r = face_in M u k i in kept.volume_same M N (swap M above s c bs w) is_rewritten k r.0 (nothing_replaced k r.0 r.1))

  -- ---- the solid

  module _ (p : Plane) (on : is_plane_of M p (map (tail M) bs) ≡ true) where
    opposite : (a b : ℤ) → a ≡ b → neg_ℤ a +ℤ b ≡ pos 0
    opposite a b e = omega (arith, ints)

    -- together the caps add nothing
    caps_nothing : volume_of N lower +ℤ volume_of N upper ≡ pos 0
    caps_nothing =
        let a = area M bs in
        (λ i. (ap (dot (anchor N lower)) (lower_normal M above s c bs w) ∙ dot_back (anchor N lower) a) i +ℤ ap (dot (anchor N upper)) (upper_normal M above s c bs w) i)
        ∙ opposite (dot (anchor N lower) a) (dot (anchor N upper) a)
        (told_alike N p a (anchor N lower) (anchor N upper) (some_direction p (and_parts (not (same_point (direction p) origin)) _ on).0) (cycle_across M above s c bs w p on)
        (anchor_along N p lower (lower_along M above s c bs w p on)) (anchor_along N p upper (upper_along M above s c bs w p on)))

    solid_keeps : AllTellAlike M s → six_volume N s ≡ six_volume M s
    unfolding six_volume
    solid_keeps alike = volume_same N (faces_of N s) (lower ∷ upper ∷ faces_of M s) same_faces
        ∙ none_added (volume_of N lower) (volume_of N upper) (volume_in N (faces_of M s)) caps_nothing
        ∙ same_volumes M N (faces_of M s) (λ k i. let r = face_in M s k i in kept.volume_is M N (swap M above s c bs w) is_rewritten k r.0 (alike k r.0 r.1))

pub opening_keeps : (M : Model) (above : List ℕ) (s : ℕ) (c : Taken) (bs : List ℕ) (p : Plane) (u : ℕ) → CanBeOpened M above s c bs → AllTellAlike M s →
    is_plane_of M p (map (tail M) bs) ≡ true → six_volume (opened_along M above s c bs) u ≡ six_volume M u
opening_keeps M above s c bs p u w alike on = elim (eqb_tells u s) [
  | inl e ↦ subst (λ v. six_volume (opened_along M above s c bs) v ≡ six_volume M v) (sym e.1) (solid_keeps M above s c bs w p on alike)
  | inr e ↦ other_keeps M above s c bs w u e.1
]

-- ---- the six volumes of a solid that is opened along all cycles of its section, one after the other

pub some_way : (p : Plane) → same_point (direction p) origin ≡ false → direction p ≢ origin
some_way p e z = true≢false (sym (ap (λ v. same_point v origin) z) ∙ e)

-- a face that lies along a plane tells the same from each corner
pub along_alike : (M : Model) (p : Plane) (f : ℕ) → direction p ≢ origin → LiesAlong M p f → TellsAlike M f
along_alike M p f way a h i = told_alike M p (normal M f) (start M h) (anchor M f) way a.across (a.on_plane h (omega (arith, i, ap (λ c. count h (items_of c)) a.outer_is))) (anchor_along M p f a)

module _ (M : Model) (above : List ℕ) (s : ℕ) (c : Taken) (bs : List ℕ) (p : Plane) (w : CanBeOpened M above s c bs) (on : is_plane_of M p (map (tail M) bs) ≡ true) (way : direction p ≢ origin) where
  abbrev K : Model
  K = opened_along M above s c bs

  abbrev new : ℕ → ℕ
  new = swap M above s c bs w

  -- each face is a cap or was there
  face_kinds : (f : ℕ) → Has K.faces f → (f ≡ c.face + length bs + 1) ⊎ ((f ≡ c.face + 1) ⊎ Has M.faces f)
  face_kinds f there =
      let r = row_some (table.get K.faces f) there in
      elim (get-put_cases _ (c.face + length bs + 1) _ f r.0 (sym (ap (λ t. table.get t f) (faces_are M above s c bs)) ∙ r.1)) [
        | inl q ↦ inl q.0
        | inr q ↦ elim (get-put_cases M.faces (c.face + 1) _ f r.0 q.1) [
          | inl z ↦ inr (inl z.0)
          | inr z ↦ inr (inr (ap is_some z.1))
        ]
      ]

  pub alike_still : AllTellAlike M s → AllTellAlike K s
  alike_still alike f there of = elim (face_kinds f there) [
    | inl e ↦ subst (TellsAlike K) (sym e) (along_alike K p (c.face + length bs + 1) way (upper_along M above s c bs w p on))
    | inr k ↦ elim k [
      | inl e ↦ subst (TellsAlike K) (sym e) (along_alike K p (c.face + 1) way (lower_along M above s c bs w p on))
      | inr t ↦ kept.still_alike M K new (is_rewritten M above s c bs w) f t (alike f t (sym (kept.solid_is M K new (is_rewritten M above s c bs w) f t) ∙ of))
    ]
  ]

  no_item : (xs : List ℕ) → xs ≢ [] → canonical (map new xs) ≢ []
  no_item [] ne e = ne refl
  no_item (x ∷ xs) ne e = absurd (omega (arith, ap (count (new x)) e, count-canonical (new x) (map new (x ∷ xs)), IsIn_head (new x) (map new xs)))

  -- a cap still lies along the plane
  pub along_still : (f : ℕ) → Has M.faces f → LiesAlong M p f → LiesAlong K p f
  along_still f t a =
      let r = is_rewritten M above s c bs w in
      let now : content K (outer K f) ≡ cycle (canonical (map new a.items)) = kept.outer_content M K new r f t ∙ ap (λ x. rewritten (map new) x) a.outer_is in record {
        items = canonical (map new a.items);
        some_item = no_item a.items a.some_item;
        outer_is = now;
        on_plane = λ h i. let q = kept.corner_from M K new r f t h (omega (arith, i, ap (λ x. count h (items_of x)) now)) in ap (is_on p) q.2 ∙ a.on_plane q.0 (omega (arith, q.1, ap (λ x. count q.0 (items_of x)) a.outer_is));
        across = ap (cross (direction p)) (kept.normal_is M K new r f t) ∙ a.across;
      }

  pub all_along_still : (ks : List Caps) → ArePlain M s ks → AllLieAlong M p ks → AllLieAlong K p ks
  all_along_still [] plain a = tt
  all_along_still (k ∷ ks) plain a = (along_still k.lower plain.0.there a.0, along_still k.upper plain.1.there a.1, all_along_still ks plain.2 a.2)

pub along_each : (M : Model) (p : Plane) → IsOfEach (AllLieAlong M p) (λ k. LiesAlong M p k.lower × LiesAlong M p k.upper)
along_each M p = record { one = λ k ks a. (a.0, a.1); others = λ k ks a. a.2; both = λ k ks o a. (o.0, o.1, a) }

-- ---- along cycles that start on the plane

pub first_on : (M : Model) (p : Plane) (bs : List ℕ) (cs : List (List ℕ)) → LieOn M p (bs ∷ cs) → is_plane_of M p (map (tail M) bs) ≡ true
first_on M p bs cs on = λ i. not (on.some_way i) && all_mapped (λ v. is_on p (point_of M v)) (tail M) bs (λ h j. on.on_plane h (omega (arith, j, count-append h bs (halves_in cs)))) i

next_on : (above : List ℕ) (s : ℕ) (p : Plane) (o : Opening) (bs : List ℕ) (cs : List (List ℕ)) → CanBeOpenedInTurn above s o (bs ∷ cs) → LieOn o.model p (bs ∷ cs) → LieOn (opened_along o.model above s o.taken bs) p cs
next_on above s p o bs cs w on = record {
  some_way = on.some_way;
  on_plane = λ b i.
      let there : HasHalf o.model b = there_in o.model above s o.taken bs w.sound w.free w.cycles.cycles.0 cs w.cycles.cycles.1 b i in
      ap (is_on p) (start_old o.model above s o.taken bs (can_open above s o bs cs w) b there) ∙ on.on_plane b (omega (arith, i, count-append b bs (halves_in cs)));
}

-- what an opening along a cycle on the plane keeps holds after all of them
pub flat_carry : (above : List ℕ) (s : ℕ) (p : Plane) (P : Opening → Type 0) →
    ((o : Opening) (bs : List ℕ) (cs : List (List ℕ)) → CanBeOpenedInTurn above s o (bs ∷ cs) → is_plane_of o.model p (map (tail o.model) bs) ≡ true → P o → P (opened_next p above s o bs)) →
    (o : Opening) (cs : List (List ℕ)) → CanBeOpenedInTurn above s o cs → LieOn o.model p cs → P o → P (all_opened p above s o cs)
flat_carry above s p P step o cs w on a = (openings_carry above s p (λ x ds. LieOn x.model p ds × P x)
    (λ x bs ds w a. (next_on above s p x bs ds w a.0, step x bs ds w (first_on x.model p bs ds a.0) a.1)) o cs w (on, a)).1

pub openings_keep : (above : List ℕ) (s : ℕ) (p : Plane) (o : Opening) (cs : List (List ℕ)) (u : ℕ) → CanBeOpenedInTurn above s o cs → AllTellAlike o.model s → LieOn o.model p cs →
    six_volume (all_opened p above s o cs).model u ≡ six_volume o.model u
openings_keep above s p o cs u w alike on = (flat_carry above s p (λ x. AllTellAlike x.model s × (six_volume x.model u ≡ six_volume o.model u)) (λ x bs ds w flat a.
    let can = can_open above s x bs ds w in
    (alike_still x.model above s x.taken bs p can flat (some_way p on.some_way) a.0, opening_keeps x.model above s x.taken bs p u can a.0 flat ∙ a.1)) o cs w on (alike, refl)).1

pub openings_lie : (above : List ℕ) (s : ℕ) (p : Plane) (o : Opening) (cs : List (List ℕ)) → CanBeOpenedInTurn above s o cs → HasCaps above s o → AllLieAlong o.model p o.caps → LieOn o.model p cs →
    AllLieAlong (all_opened p above s o cs).model p (all_opened p above s o cs).caps
openings_lie above s p o cs w caps a on = (capped_carry above s p (λ x ds. LieOn x.model p ds × AllLieAlong x.model p x.caps) (λ x bs ds w caps a.
    let M = x.model in
    let can = can_open above s x bs ds w in
    let flat = first_on M p bs ds a.0 in (
      next_on above s p x bs ds w a.0,
      each_last (AllLieAlong (opened_along M above s x.taken bs) p) _ (along_each (opened_along M above s x.taken bs) p) x.caps (new_caps p x bs)
          (all_along_still M above s x.taken bs p can flat (some_way p on.some_way) x.caps caps.plain a.1) (lower_along M above s x.taken bs can p flat, upper_along M above s x.taken bs can p flat, tt),
    )) o cs w caps (on, a)).1
