-- A solid opened along its section, its holes closed and its upper faces parted: other solids stay as they were.
use Rattle.command_laws.proofs.Prelude.{◌≡◌, ◌≢◌, ℕ, ◌+◌, true, false, cond, not, ◌&&◌, List, [], ◌∷◌, length, map, Some, None, is_some, refl, sym, ap, subst, ◌∙◌, ◌⊎◌, inl, inr, filter, fold, option_map, arith, eqb-false, false_from_ne_true, Plane, count, IsIn, edge_of, mate, minus, plus, get-map_rows, items_of, Model, content, face_of, solid_of, tail, Sound, Has, HasHalf, face_at, first_false, lists, effect, kfmrh, part, Kfmrh, mate_plus, IsIn_or_not, from_map, item_loop, face_row, number_real, plus_there, same_solid, solid_row, in_use_within, row_some, kfmrh_goes, listed_front, loop_row as row_of, get-put_cases, none_replaced, Taken, numbers_after, renamed, Caps, Opening, all_opened, both_lists, hole_closed, holes_closed, no_caps, opened_along, opened_row, opened_tail, outer_caps, ArePlain, CanBeOpenedInTurn, CanBeOpened, opened_sound, can_open, openings_carry, upper_row, edges_are, face_still, renamed_not, rim_below, closing_ops, vertex_still, loop_kinds, lower_row}
use Rattle.euler_operators.specs.Table as table
use Rattle.euler_laws.specs.Laws.{AreAccepted}
use Rattle.split_opening_laws.proofs.sections.OpenedRows.{faces_are, loop_row}
use Rattle.command_laws.proofs.Owners.{agree_none, is_of, solid_of_half, solid_of_loop}
use Rattle.command_laws.proofs.Inner.{AgreeBut}
use Rattle.command_laws.proofs.splits_laws.Steps.{kill_within, own_edge, face_in}
use Rattle.command_laws.proofs.splits_laws.DrawnWithin.{within_on}

-- ---- opened along one cycle

module _ (M : Model) (above : List ℕ) (s : ℕ) (c : Taken) (bs : List ℕ) (w : CanBeOpened M above s c bs) (after : Sound (opened_along M above s c bs)) (of : (f : ℕ) → lists above f ≡ true → solid_of M f ≡ s) where
  abbrev N : Model
  N = opened_along M above s c bs

  abbrev mates : List ℕ
  mates = map mate bs

  abbrev copies : List (ℕ × ℕ)
  copies = both_lists (map (tail M) bs) (numbers_after c.vertex (length bs))

  abbrev rims : List ℕ
  rims = map plus (numbers_after c.edge (length bs))

  abbrev swap : ℕ → ℕ
  swap = renamed (both_lists mates rims)

  -- a mate of the cycle is of the solid
  mate_of : (h : ℕ) → IsIn h mates → solid_of_half M h ≡ s
  mate_of h i = let r = from_map mate h bs i in let b = w.cycle.halves r.0 r.1 in ap (solid_of_half M) r.2 ∙ sym (w.sound.one_solid r.0 b.there) ∙ b.of_solid

  no_mate : (h : ℕ) → solid_of_half M h ≢ s → count h mates ≡ 0
  no_mate h ne = elim (IsIn_or_not h mates) [ inl i ↦ absurd (ne (mate_of h i)) | inr z ↦ z ]

  not_above : (h : ℕ) → solid_of_half M h ≢ s → lists above (face_at M h) ≡ false
  not_above h ne = false_from_ne_true (lists above (face_at M h)) (λ e. ne (of (face_at M h) e))

  -- ---- faces

  face_kinds : (f : ℕ) → Has N.faces f → Has M.faces f ⊎ (solid_of N f ≡ s)
  face_kinds f there =
      let r = row_some (table.get N.faces f) there in
      elim (get-put_cases _ (c.face + length bs + 1) _ f r.0 (sym (ap (λ t. table.get t f) (faces_are M above s c bs)) ∙ r.1)) [
        | inl q ↦ inr (ap (solid_of N) q.0 ∙ solid_row N (c.face + length bs + 1) _ (upper_row M above s c bs))
        | inr q ↦ elim (get-put_cases M.faces (c.face + 1) _ f r.0 q.1) [
          | inl z ↦ inr (ap (solid_of N) z.0 ∙ solid_row N (c.face + 1) _ (lower_row M above s c bs w))
          | inr z ↦ inl (ap is_some z.1)
        ]
      ]

  -- ---- loops

  module _ (l : ℕ) (there : Has M.loops l) (ne : solid_of_loop M l ≢ s) where
    none_swapped : (h : ℕ) → IsIn h (items_of (content M l)) → swap h ≡ h
    none_swapped h i = renamed_not mates rims h (no_mate h (λ e. ne (ap (solid_of_loop M) (sym (item_loop M w.sound l h i)) ∙ e)))

    loop_left : table.get N.loops l ≡ table.get M.loops l
    loop_left = let row = row_of M l there in
        loop_row M above s c bs w.sound w.free l _ row ∙ ap (λ x. Some (record { face = face_of M l; content = x })) (none_replaced swap (content M l) (λ hs is. w.sound.cycles l hs there is) none_swapped) ∙ sym row

  loop_back : (l : ℕ) → Has N.loops l → solid_of_loop N l ≢ s → table.get N.loops l ≡ table.get M.loops l
  loop_back l there ne =
      let r = row_some (table.get N.loops l) there in
      let at = face_row N l r.0 r.1 in
      elim (loop_kinds M above s c bs w l r.0 r.1) [
        | inl q ↦ absurd (ne (ap (solid_of N) (at ∙ q.1) ∙ solid_row N (c.face + length bs + 1) _ (upper_row M above s c bs)))
        | inr (inl q) ↦ absurd (ne (ap (solid_of N) (at ∙ q.1) ∙ solid_row N (c.face + 1) _ (lower_row M above s c bs w)))
        | inr (inr q) ↦ loop_left l q.0 (λ e. ne (ap (solid_of N) (at ∙ sym q.1) ∙ same_solid M N (face_of M l) (face_still M above s c bs w.sound w.free (face_of M l) (w.sound.loops_of_faces l q.0)) ∙ e))
      ]

  -- ---- edges

  tail_left : (h v : ℕ) → solid_of_half M h ≢ s → opened_tail M above mates copies h v ≡ v
  tail_left h v ne = ap (λ b. cond (b && not (lists mates h)) (renamed copies v) v) (not_above h ne)

  edge_left : (h : ℕ) → HasHalf M h → solid_of_half M h ≢ s → table.get N.edges (edge_of h) ≡ table.get M.edges (edge_of h)
  edge_left h there ne =
      let e = edge_of h in
      let row = row_some (table.get M.edges e) there in
      let first : solid_of_half M (plus e) ≢ s = λ o. ne (sym (own_edge M w.sound h there) ∙ o) in
      let second : solid_of_half M (minus e) ≢ s = λ o. first (w.sound.one_solid (plus e) (plus_there M e there) ∙ ap (solid_of_half M) (mate_plus e) ∙ o) in
      ap (λ t. table.get t e) (edges_are M above s c bs)
      ∙ rim_below (table.map_rows (opened_row M above mates copies) M.edges) c.edge c.vertex (length bs) (length bs) e (in_use_within M.edges c.edge w.free.edges e there)
      ∙ get-map_rows (opened_row M above mates copies) M.edges e ∙ ap (option_map (opened_row M above mates copies e)) row.1
      ∙ (λ i. Some (record { plus_tail = tail_left (plus e) row.0.plus_tail first i; minus_tail = tail_left (minus e) row.0.minus_tail second i })) ∙ sym row.1

  pub opened_within : AgreeBut s M (opened_along M above s c bs)
  opened_within = record {
    before = w.sound;
    after = after;
    faces = λ k there out. (face_still M above s c bs w.sound w.free k there, out);
    faces_back = λ k there out. elim (face_kinds k there) [
      | inl t ↦ (face_still M above s c bs w.sound w.free k t, out)
      | inr e ↦ absurd (eqb-false (solid_of N k) s out e)
    ];
    loops = λ l there out. loop_left l there (eqb-false (solid_of_loop M l) s out);
    loops_back = λ l there out. loop_back l there (eqb-false (solid_of_loop N l) s out);
    edges = λ h there out. edge_left h there (eqb-false (solid_of_half M h) s out);
  }

-- ---- along all cycles

pub openings_within : (above : List ℕ) (s : ℕ) (p : Plane) (o : Opening) (cs : List (List ℕ)) → CanBeOpenedInTurn above s o cs → AgreeBut s o.model (all_opened p above s o cs).model
openings_within above s p o cs w = openings_carry above s p (λ x ds. AgreeBut s o.model x.model) (λ x bs ds w a.
    let can = can_open above s x bs ds w in
    within_on s o.model x.model (opened_along x.model above s x.taken bs) a
    (opened_within x.model above s x.taken bs can (opened_sound x.model above s x.taken bs can) (λ f l. w.upper_of_solid f (listed_front above (map (λ k. k.upper) x.caps) f l)))) o cs w (agree_none o.model (is_of s) w.sound)

pub openings_vertices : (above : List ℕ) (s : ℕ) (p : Plane) (o : Opening) (cs : List (List ℕ)) → CanBeOpenedInTurn above s o cs → (v : ℕ) → Has o.model.vertices v → table.get (all_opened p above s o cs).model.vertices v ≡ table.get o.model.vertices v
openings_vertices above s p o cs w v there = openings_carry above s p (λ x ds. table.get x.model.vertices v ≡ table.get o.model.vertices v)
    (λ x bs ds w a. vertex_still x.model above s x.taken bs v (in_use_within x.model.vertices x.taken.vertex w.free.vertices v (ap is_some a ∙ there)) ∙ a) o cs w refl

-- ---- the holes closed

kfmrh_is : (M : Model) (f g : ℕ) → effect M (Kfmrh f g) ≡ kfmrh M f g
unfolding effect
kfmrh_is M f g = refl

-- a cap becomes a ring of a face that was of the solid
one_closed : (s : ℕ) (M N : Model) (f g : ℕ) → AgreeBut s M N → solid_of M f ≡ s → first_false N (Kfmrh f g) ≡ None → AgreeBut s M (kfmrh N f g)
one_closed s M N f g w of accepted =
    let goes = kfmrh_goes N f g accepted in
    within_on s M N (kfmrh N f g) w (kill_within N w.after f g s accepted (face_in s M N w f goes.f_there of))

closing_within : (s : ℕ) (M N : Model) (o : Caps) (hs : List Caps) → AgreeBut s M N → solid_of M o.lower ≡ s → solid_of M o.upper ≡ s → AreAccepted N (closing_ops o hs) → AgreeBut s M (fold (hole_closed o) N hs)
closing_within s M N o [] w low up accepted = w
closing_within s M N o (k ∷ ks) w low up accepted =
    let A = kfmrh N o.lower k.lower in
    let first : AgreeBut s M A = one_closed s M N o.lower k.lower w low accepted.0 in
    let then : AreAccepted A (Kfmrh o.upper k.upper ∷ closing_ops o ks) = subst (λ X. AreAccepted X (Kfmrh o.upper k.upper ∷ closing_ops o ks)) (kfmrh_is N o.lower k.lower) accepted.1 in
    let second : AgreeBut s M (kfmrh A o.upper k.upper) = one_closed s M A o.upper k.upper first up then.0 in
    closing_within s M (kfmrh A o.upper k.upper) o ks second low up (subst (λ X. AreAccepted X (closing_ops o ks)) (kfmrh_is A o.upper k.upper) then.1)

-- the outer cycle's caps are of the solid, or there are none
outer_of : (M : Model) (s : ℕ) (ks : List Caps) → ArePlain M s ks → (outer_caps ks ≡ no_caps) ⊎ ((solid_of M (outer_caps ks).lower ≡ s) × (solid_of M (outer_caps ks).upper ≡ s))
outer_of M s [] w = inl refl
outer_of M s (k ∷ ks) w = grind (arith, outer_of M s ks w.2)

-- without an outer cycle nothing is closed
none_closed : (s : ℕ) (M : Model) (hs : List Caps) → Sound M → AreAccepted M (closing_ops no_caps hs) → AgreeBut s M (fold (hole_closed no_caps) M hs)
none_closed s M [] sound accepted = agree_none M (is_of s) sound
none_closed s M (k ∷ ks) sound accepted = absurd (number_real 0 (sound.faces_fit 0 (kfmrh_goes M 0 k.lower accepted.0).f_there) refl)

pub holes_within : (M : Model) (s : ℕ) (ks : List Caps) → Sound M → ArePlain M s ks → AreAccepted M (closing_ops (outer_caps ks) (filter (λ k. k.hole) ks)) → AgreeBut s M (holes_closed M ks)
holes_within M s ks sound plain accepted = let hs = filter (λ k. k.hole) ks in elim (outer_of M s ks plain) [
  | inl e ↦ subst (λ o. AgreeBut s M (fold (hole_closed o) M hs)) (sym e) (none_closed s M hs sound (subst (λ o. AreAccepted M (closing_ops o hs)) e accepted))
  | inr e ↦ closing_within s M M (outer_caps ks) hs (agree_none M (is_of s) sound) e.0 e.1 accepted
]

-- ---- no vertex moves, once the solid is opened

pub kill_keeps : (M : Model) (f g : ℕ) → ((kfmrh M f g).vertices ≡ M.vertices) × ((kfmrh M f g).edges ≡ M.edges)
unfolding kfmrh
kill_keeps M f g = (refl, refl)

pub holes_keep : (o : Caps) (M : Model) (hs : List Caps) → let K = fold (hole_closed o) M hs in (K.vertices ≡ M.vertices) × (K.edges ≡ M.edges)
holes_keep o M [] = (refl, refl)
holes_keep o M (k ∷ ks) =
    let A = kfmrh M o.lower k.lower in
    let first = kill_keeps M o.lower k.lower in
    let second = kill_keeps A o.upper k.upper in
    let rest = holes_keep o (kfmrh A o.upper k.upper) ks in
    (rest.0 ∙ second.0 ∙ first.0, rest.1 ∙ second.1 ∙ first.1)

pub part_keeps : (M : Model) (s t : ℕ) (fs : List ℕ) → ((part M s t fs).vertices ≡ M.vertices) × ((part M s t fs).edges ≡ M.edges)
unfolding part
part_keeps M s t fs = (refl, refl)
