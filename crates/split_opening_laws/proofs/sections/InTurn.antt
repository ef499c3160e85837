-- A solid is opened along the cycles of its section one after the other, and then nothing holds its upper faces to the others.
use Rattle.split_opening_laws.proofs.Prelude.{◌≡◌, ℕ, ◌+◌, ◌*◌, true, List, [], ◌∷◌, ◌++◌, length, map, is_some, refl, sym, ap, subst, ◌∙◌, arith, length-append, ◌≤◌, ◌<◌, Option, Some, None, unwrap_or, true≢false, ◌⊎◌, inl, inr, option_map, append_assoc, append-nil, map-append, eqb_tells, Plane, IsIn, count, mate, plus, Model, solid_of, rings_of, LoopRow, no_face, face_of, outer, Sound, Has, lists, torn_edge, strictly_rises, get-map_rows, plus_row, minus_row, mate_plus, mate_minus, all_where_none, first_where_zero, in_use_within, get-put_here, get-put_other, count-append, tick_same, tick_other, IsIn_or_not, face_row, IsIn_push, loop_row, listed_front, listed-from_in, rises_over, rises_on, AreFree, AreLeft, Taken, numbers_after, below_halves, section_cycles, is_hole, Caps, Opening, opened_along, next_opened, all_opened, both_lists, rewritten_row, renamed, get-put_cases, AreOf, IsUnbranched, halves_in, AreBetween, upper_faces, CanBeOpenedInTurn, CanBeOpened}
use Rattle.std.proofs.lemmas.Grind.{flat_map-append}
use Rattle.euler_operators.specs.Table as table
use Rattle.split_opening_laws.specs.Numbers.{needed_for_openings}
use Rattle.split_opening_laws.specs.sections.Capped.{IsPlain, ArePlain, cap_faces, HasCaps}
use Rattle.split_opening_laws.proofs.cycles.BelowHalves.{halves_are, is_half}
use Rattle.split_opening_laws.proofs.cycles.NextBelow.{cycles_cover, cycles_long, cycles_apart}
use Rattle.split_opening_laws.proofs.opening.Whole.{opened_sound}
use Rattle.split_opening_laws.proofs.sections.StillBetween.{cycles_stay, still_between, still_there, still_of_solid}
use Rattle.split_opening_laws.proofs.sections.StillFree.{still_free}
use Rattle.split_opening_laws.proofs.cycles.RisingLists.{rises_cons}
use Rattle.split_opening_laws.proofs.sections.OpenedRows.{faces_are, loops_are, face_still, solid_kept, upper_row}

pub upper_next : (above : List ℕ) (ks : List Caps) (k : Caps) → upper_faces above (ks ++ k ∷ []) ≡ upper_faces above ks ++ k.upper ∷ []
upper_next above ks k = ap (λ q. above ++ q) (map-append (λ k. k.upper) ks (k ∷ [])) ∙ sym (append_assoc above (map (λ k. k.upper) ks) (k.upper ∷ []))

-- the faces above are there
pub above_there : (above : List ℕ) (s : ℕ) (o : Opening) (cs : List (List ℕ)) → CanBeOpenedInTurn above s o cs → (f : ℕ) → lists above f ≡ true → Has o.model.faces f
above_there above s o cs w f l = w.upper_there f (listed_front above (map (λ k. k.upper) o.caps) f l)

-- what can be opened along some cycles in turn can be opened along the first
pub can_open : (above : List ℕ) (s : ℕ) (o : Opening) (bs : List ℕ) (cs : List (List ℕ)) → CanBeOpenedInTurn above s o (bs ∷ cs) → CanBeOpened o.model above s o.taken bs
can_open above s o bs cs w =
    let n : length (halves_in (bs ∷ cs)) ≡ length bs + length (halves_in cs) = length-append bs (halves_in cs) in
    let l : AreLeft o.taken (needed_for_openings (length (halves_in (bs ∷ cs))) (length (bs ∷ cs))) = w.left in
    record {
      sound = w.sound;
      free = w.free;
      left = record {
        faces = omega (arith, l.faces, n);
        loops = omega (arith, l.loops, n);
        edges = omega (arith, l.edges, n);
        vertices = omega (arith, l.vertices, n);
      };
      cycle = w.cycles.cycles.0;
      above_there = above_there above s o (bs ∷ cs) w;
    }

-- and that leaves a sound model
pub openings_sound : (above : List ℕ) (s : ℕ) (p : Plane) (o : Opening) (bs : List ℕ) (cs : List (List ℕ)) → CanBeOpenedInTurn above s o (bs ∷ cs) → Sound (next_opened p above s o bs).model
unfolding next_opened
openings_sound above s p o bs cs w = opened_sound o.model above s o.taken bs (can_open above s o bs cs w)

pub can_be_opened : (M : Model) (above : List ℕ) (s : ℕ) (c : Taken) → Sound M → AreFree M c → AreOf M above s → ((f : ℕ) → lists above f ≡ true → Has M.faces f) →
    IsUnbranched M (below_halves M above s) → AreLeft c (needed_for_openings (length (below_halves M above s)) (length (section_cycles M (below_halves M above s)))) →
    CanBeOpenedInTurn above s (record { model = M; taken = c; caps = [] }) (section_cycles M (below_halves M above s))
can_be_opened M above s c sound free of there unbranched left =
    let halves : List ℕ = below_halves M above s in
    let cs : List (List ℕ) = section_cycles M halves in
    let same = cycles_cover M above s sound of unbranched in
    let inside : (h : ℕ) → IsIn h (halves_in cs) → IsIn h halves = λ h i. omega (arith, i, same h) in
    let bare : AreBetween M above (halves_in cs) = record {
      below = λ h i. (halves_are M above s sound h (inside h i)).below;
      mates_above = λ h i. (halves_are M above s sound h (inside h i)).mate_above;
      only = λ h t f g. omega (arith, is_half M above s sound of h t f g, same h);
    } in record {
      sound = sound;
      free = free;
      left = subst (λ n. AreLeft c (needed_for_openings n (length cs))) (sym (cycles_long M above s sound of unbranched)) left;
      cycles = cycles_apart M above s sound of unbranched;
      upper_there = subst (λ fs. (f : ℕ) → lists fs f ≡ true → Has M.faces f) (sym (append-nil above)) there;
      upper_of_solid = subst (λ fs. (f : ℕ) → lists fs f ≡ true → solid_of M f ≡ s) (sym (append-nil above)) of;
      between = subst (λ fs. AreBetween M fs (halves_in cs)) (sym (append-nil above)) bare;
    }

still_left : (c : Taken) (m n k t : ℕ) → t ≡ m + n → AreLeft c (needed_for_openings t (k + 1)) → AreLeft (record { face = c.face + m + 1; loop = c.loop + m + 1; edge = c.edge + 2 * m; vertex = c.vertex + m }) (needed_for_openings n k)
still_left c m n k t e l = grind arith

pub others_on : (above : List ℕ) (s : ℕ) (p : Plane) (o : Opening) (bs : List ℕ) (cs : List (List ℕ)) → CanBeOpenedInTurn above s o (bs ∷ cs) → CanBeOpenedInTurn above s (next_opened p above s o bs) cs
unfolding next_opened
others_on above s p o bs cs w =
    let fs : List ℕ = upper_faces above o.caps in
    let N : Model = opened_along o.model above s o.taken bs in
    let then_sound : Sound (opened_along o.model above s o.taken bs) = openings_sound above s p o bs cs w in
    let k : Caps = record { lower = o.taken.face + 1; upper = o.taken.face + length bs + 1; hole = is_hole o.model p bs } in
    let now : upper_faces above (o.caps ++ k ∷ []) ≡ fs ++ (o.taken.face + length bs + 1) ∷ [] = upper_next above o.caps k in
    record {
      sound = then_sound;
      free = still_free above s p o bs w.free;
      left = still_left o.taken (length bs) (length (halves_in cs)) (length cs) (length (halves_in (bs ∷ cs))) (length-append bs (halves_in cs)) (subst (λ k. AreLeft o.taken (needed_for_openings (length (halves_in (bs ∷ cs))) k)) (one_more cs) w.left);
      cycles = cycles_stay o.model above s o.taken bs cs w.sound w.free w.cycles;
      upper_there = subst (λ gs. (f : ℕ) → lists gs f ≡ true → Has N.faces f) (sym now) (still_there o.model above s o.taken bs cs fs w.sound w.free w.cycles w.upper_there w.between then_sound);
      upper_of_solid = subst (λ gs. (f : ℕ) → lists gs f ≡ true → solid_of N f ≡ s) (sym now) (still_of_solid o.model above s o.taken bs cs fs w.sound w.free w.cycles w.upper_there w.between then_sound w.upper_of_solid);
      between = subst (λ gs. AreBetween N gs (halves_in cs)) (sym now) (still_between o.model above s o.taken bs cs fs w.sound w.free w.cycles w.upper_there w.between then_sound);
    }
  where
    one_more : (ds : List (List ℕ)) → length (bs ∷ ds) ≡ length ds + 1
    one_more ds = omega arith

pub all_on : (above : List ℕ) (s : ℕ) (p : Plane) (o : Opening) (cs : List (List ℕ)) → CanBeOpenedInTurn above s o cs → CanBeOpenedInTurn above s (all_opened p above s o cs) []
all_on above s p o [] w = w
all_on above s p o (bs ∷ cs) w = all_on above s p (next_opened p above s o bs) cs (others_on above s p o bs cs w)

module _ (above : List ℕ) (s : ℕ) (o : Opening) (w : CanBeOpenedInTurn above s o []) where
  abbrev upper : List ℕ
  upper = upper_faces above o.caps

  pub none_torn : torn_edge o.model (upper_faces above o.caps) ≡ 0
  none_torn = grind (arith, first_where_zero, plus_row, mate_plus, minus_row, mate_minus)

-- ---- the caps that openings leave: they have no rings, and rise

-- one more at the end of a rising list
rises_last : (fs : List ℕ) (u : ℕ) → strictly_rises fs ≡ true → ((f : ℕ) → IsIn f fs → f < u) → strictly_rises (fs ++ u ∷ []) ≡ true
rises_last [] u r l = refl
rises_last (f ∷ fs) u r l = rises_cons f (fs ++ u ∷ []) less (rises_last fs u (rises_on f fs r) (λ k i. l k (omega (arith, i)))) where
  less : (k : ℕ) → IsIn k (fs ++ u ∷ []) → f < k
  less k i = elim (IsIn_push k u fs i) [ inl j ↦ rises_over f k fs r j | inr e ↦ omega (arith, l f (omega (arith, tick_same f)), e) ]

caps_there : (M : Model) (s : ℕ) (ks : List Caps) → ArePlain M s ks → (f : ℕ) → IsIn f (cap_faces ks) → Has M.faces f
caps_there M s [] w f i = absurd (omega arith)
caps_there M s (k ∷ ks) w f i = elim (eqb_tells f k.lower) [
  | inl e ↦ subst (Has M.faces) (sym e.1) w.0.there
  | inr e ↦ elim (eqb_tells f k.upper) [
    | inl d ↦ subst (Has M.faces) (sym d.1) w.1.there
    | inr d ↦ caps_there M s ks w.2 f (omega (arith, i, tick_other f k.lower e.1, tick_other f k.upper d.1))
  ]
]

caps_more : (M : Model) (s : ℕ) (ks : List Caps) (k : Caps) → ArePlain M s ks → IsPlain M s k.lower → IsPlain M s k.upper → ArePlain M s (ks ++ k ∷ [])
caps_more M s [] k w a b = (a, b, tt)
caps_more M s (j ∷ ks) k w a b = (w.0, w.1, caps_more M s ks k w.2 a b)

cap_faces_next : (above : List ℕ) (ks : List Caps) (k : Caps) → above ++ cap_faces (ks ++ k ∷ []) ≡ ((above ++ cap_faces ks) ++ k.lower ∷ []) ++ k.upper ∷ []
cap_faces_next above ks k = grind (arith, flat_map-append, append_assoc)

-- ---- one opening

module _ (M : Model) (above : List ℕ) (s : ℕ) (c : Taken) (bs : List ℕ) (w : CanBeOpened M above s c bs) where
  abbrev N : Model
  N = opened_along M above s c bs

  abbrev swaps : List (ℕ × ℕ)
  swaps = both_lists (map mate bs) (map plus (numbers_after c.edge (length bs)))

  pub lower_row : table.get N.faces (c.face + 1) ≡ Some (record { solid = s; outer = c.loop + 1 })
  lower_row = ap (λ t. table.get t (c.face + 1)) (faces_are M above s c bs) ∙ get-put_other _ (c.face + length bs + 1) _ (c.face + 1) (λ e. absurd (omega (arith, e, w.cycle.two_halves))) ∙ get-put_here _ (c.face + 1) _

  -- in which face a loop is: in that of one of the caps, or where it was
  old_row : (l : ℕ) (o : Option LoopRow) (row : LoopRow) → table.get M.loops l ≡ o → option_map (rewritten_row (map (renamed swaps)) l) o ≡ Some row → Has M.loops l × (face_of M l ≡ row.face)
  old_row l None row e at = absurd (true≢false (sym (ap is_some at)))
  old_row l (Some old) row e at = (ap is_some e, face_row M l old e ∙ ap (λ o. (unwrap_or o row).face) at)

  pub loop_kinds : (l : ℕ) (row : LoopRow) → table.get N.loops l ≡ Some row →
      ((l ≡ c.loop + length bs + 1) × (row.face ≡ c.face + length bs + 1)) ⊎ (((l ≡ c.loop + 1) × (row.face ≡ c.face + 1)) ⊎ (Has M.loops l × (face_of M l ≡ row.face)))
  loop_kinds l row at = elim (get-put_cases _ (c.loop + length bs + 1) _ l row (sym (ap (λ t. table.get t l) (loops_are M above s c bs)) ∙ at)) [
    | inl q ↦ inl (q.0, ap (λ x. x.face) q.1)
    | inr q ↦ elim (get-put_cases _ (c.loop + 1) _ l row q.1) [
      | inl r ↦ inr (inl (r.0, ap (λ x. x.face) r.1))
      | inr r ↦ inr (inr (old_row l (table.get M.loops l) row refl (sym (get-map_rows (rewritten_row (map (renamed swaps))) M.loops l) ∙ r.1)))
    ]
  ]

  loop_cases : (l : ℕ) → Has N.loops l → ((l ≡ c.loop + length bs + 1) × (face_of N l ≡ c.face + length bs + 1)) ⊎ (((l ≡ c.loop + 1) × (face_of N l ≡ c.face + 1)) ⊎ (Has M.loops l × (face_of M l ≡ face_of N l)))
  loop_cases l t = loop_kinds l _ (loop_row N l t)

  old_loop : (l : ℕ) → Has M.loops l → face_of M l ≤ c.face
  old_loop l there = in_use_within M.faces c.face w.free.faces (face_of M l) (w.sound.loops_of_faces l there)

  -- a face without rings has none then
  still_plain : (f : ℕ) → IsPlain M s f → IsPlain N s f
  unfolding outer
  still_plain f v = let l : f ≤ c.face = in_use_within M.faces c.face w.free.faces f v.there in record {
    there = ap is_some (face_still M above s c bs w.sound w.free f v.there) ∙ v.there;
    of_solid = solid_kept M above s c bs w.sound w.free f v.there ∙ v.of_solid;
    no_ring = λ k t e. elim (loop_cases k t) [
      | inl p ↦ absurd (omega (arith, l, e, p.1))
      | inr q ↦ elim q [
        | inl p ↦ absurd (omega (arith, l, e, p.1))
        | inr p ↦ v.no_ring k p.0 (p.1 ∙ e) ∙ sym (ap (λ o. (unwrap_or o no_face).outer) (face_still M above s c bs w.sound w.free f v.there))
      ]
    ];
  }

  pub plain_lower : IsPlain N s (c.face + 1)
  unfolding solid_of outer
  plain_lower = grind (arith, lower_row, loop_cases, old_loop)

  pub plain_upper : IsPlain N s (c.face + length bs + 1)
  unfolding solid_of outer
  plain_upper = grind (arith, upper_row, loop_cases, old_loop)

  all_still : (ks : List Caps) → ArePlain M s ks → ArePlain N s ks
  all_still [] v = tt
  all_still (k ∷ ks) v = (still_plain k.lower v.0, still_plain k.upper v.1, all_still ks v.2)

pub plain_alone : (M : Model) (s f : ℕ) → IsPlain M s f → rings_of M f ≡ []
plain_alone M s f w = grind (arith, all_where_none, face_row)

-- ---- in turn

pub caps_stay : (above : List ℕ) (s : ℕ) (p : Plane) (o : Opening) (bs : List ℕ) (cs : List (List ℕ)) → CanBeOpenedInTurn above s o (bs ∷ cs) → HasCaps above s o → HasCaps above s (next_opened p above s o bs)
unfolding next_opened
caps_stay above s p o bs cs w caps =
    let M : Model = o.model in
    let c : Taken = o.taken in
    let can : CanBeOpened M above s c bs = can_open above s o bs cs w in
    let some : 1 ≤ length bs = omega (arith, can.cycle.two_halves) in
    let k : Caps = record { lower = c.face + 1; upper = c.face + length bs + 1; hole = is_hole M p bs } in
    let low : (f : ℕ) → IsIn f (above ++ cap_faces o.caps) → f ≤ c.face = λ f i. in_use_within M.faces c.face w.free.faces f (all_there f i (IsIn_or_not f above)) in
    let low_upper : (f : ℕ) → IsIn f (upper_faces above o.caps) → f ≤ c.face = λ f i. in_use_within M.faces c.face w.free.faces f (w.upper_there f (listed-from_in f (upper_faces above o.caps) i)) in
    record {
      plain = caps_more (opened_along M above s c bs) s o.caps k (all_still M above s c bs can o.caps caps.plain) (plain_lower M above s c bs can) (plain_upper M above s c bs can);
      all_rise = ap strictly_rises (cap_faces_next above o.caps k)
          ∙ rises_last ((above ++ cap_faces o.caps) ++ (c.face + 1) ∷ []) (c.face + length bs + 1)
          (rises_last (above ++ cap_faces o.caps) (c.face + 1) caps.all_rise (λ f i. omega (arith, low f i)))
          (λ f i. elim (IsIn_push f (c.face + 1) (above ++ cap_faces o.caps) i) [ inl j ↦ omega (arith, low f j) | inr e ↦ omega (arith, e, some) ]);
      upper_rise = ap strictly_rises (upper_next above o.caps k) ∙ rises_last (upper_faces above o.caps) (c.face + length bs + 1) caps.upper_rise (λ f i. omega (arith, low_upper f i));
    }
  where
    all_there : (f : ℕ) → IsIn f (above ++ cap_faces o.caps) → IsIn f above ⊎ (count f above ≡ 0) → Has o.model.faces f
    all_there f i (inl j) = above_there above s o (bs ∷ cs) w f (listed-from_in f above j)
    all_there f i (inr z) = caps_there o.model s o.caps caps.plain f (omega (arith, i, z, count-append f above (cap_faces o.caps)))

pub caps_rise : (above : List ℕ) (s : ℕ) (p : Plane) (o : Opening) (cs : List (List ℕ)) → CanBeOpenedInTurn above s o cs → HasCaps above s o → HasCaps above s (all_opened p above s o cs)
caps_rise above s p o [] w caps = caps
caps_rise above s p o (bs ∷ cs) w caps = caps_rise above s p (next_opened p above s o bs) cs (others_on above s p o bs cs w) (caps_stay above s p o bs cs w caps)

-- ---- what each opening keeps holds after all of them

-- the caps of a cycle
abbrev pub new_caps : Plane → Opening → List ℕ → Caps
new_caps p o bs = record { lower = o.taken.face + 1; upper = o.taken.face + length bs + 1; hole = is_hole o.model p bs }

-- the opening after a cycle more
abbrev pub opened_next : Plane → List ℕ → ℕ → Opening → List ℕ → Opening
opened_next p above s o bs = let m = length bs in let c = o.taken in record {
  model = opened_along o.model above s c bs;
  taken = record { face = c.face + m + 1; loop = c.loop + m + 1; edge = c.edge + 2 * m; vertex = c.vertex + m };
  caps = o.caps ++ new_caps p o bs ∷ [];
}

opened_is : (p : Plane) (above : List ℕ) (s : ℕ) (o : Opening) (bs : List ℕ) → opened_next p above s o bs ≡ next_opened p above s o bs
unfolding next_opened
opened_is p above s o bs = refl

module _ (above : List ℕ) (s : ℕ) (p : Plane) (P : Opening → List (List ℕ) → Type 0) where
  pub openings_carry : ((o : Opening) (bs : List ℕ) (cs : List (List ℕ)) → CanBeOpenedInTurn above s o (bs ∷ cs) → P o (bs ∷ cs) → P (opened_next p above s o bs) cs) →
      (o : Opening) (cs : List (List ℕ)) → CanBeOpenedInTurn above s o cs → P o cs → P (all_opened p above s o cs) []
  openings_carry step o [] w a = a
  openings_carry step o (bs ∷ cs) w a = openings_carry step (next_opened p above s o bs) cs (others_on above s p o bs cs w) (subst (λ n. P n cs) (opened_is p above s o bs) (step o bs cs w a))

  -- where the caps have no rings
  pub capped_carry : ((o : Opening) (bs : List ℕ) (cs : List (List ℕ)) → CanBeOpenedInTurn above s o (bs ∷ cs) → HasCaps above s o → P o (bs ∷ cs) → P (opened_next p above s o bs) cs) →
      (o : Opening) (cs : List (List ℕ)) → CanBeOpenedInTurn above s o cs → HasCaps above s o → P o cs → P (all_opened p above s o cs) []
  capped_carry step o [] w caps a = a
  capped_carry step o (bs ∷ cs) w caps a =
      capped_carry step (next_opened p above s o bs) cs (others_on above s p o bs cs w) (caps_stay above s p o bs cs w caps) (subst (λ n. P n cs) (opened_is p above s o bs) (step o bs cs w caps a))
