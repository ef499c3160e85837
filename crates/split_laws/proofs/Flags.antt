-- Whether a cycle is a hole is told by the model before the openings.
use Rattle.split_laws.proofs.Prelude.{◌≡◌, ◌<◌, ◌≤◌, ℕ, suc, ◌+◌, Bool, false, cond, pos, List, [], ◌∷◌, ◌++◌, length, map, unwrap_or, refl, sym, ap, ◌∙◌, arith, filter, flat_map, int_lt, append_assoc, append-nil, length-map, map-append, Plane, dot, direction, count, IsIn, mate, Model, tail, point_of, no_point, Sound, Has, HasHalf, count-append, tick_other, in_use_within, mate_there, AreFree, start, Taken, negated, is_hole, has_stray_hole, Caps, Opening, opened_along, next_opened, all_opened, area_kept, area_mates, IsSectionCycle, AreSectionCycles, CanBeOpenedInTurn, cap_faces, in_numbers, other_number, vertices_are, face_still, start_same, end_same, starts_elsewhere, openings_carry, opened_next, new_caps, nat_tests}
use Rattle.std.proofs.lemmas.Grind.{flat_map-append}
use Rattle.euler_operators.specs.Table as table
use Rattle.split_opening_laws.proofs.sections.StillFree.{copied_other}

-- ---- one opening

-- a vertex stays where it is
pub vertex_still : (M : Model) (above : List ℕ) (s : ℕ) (c : Taken) (bs : List ℕ) (v : ℕ) → v ≤ c.vertex → table.get (opened_along M above s c bs).vertices v ≡ table.get M.vertices v
vertex_still M above s c bs v low = grind (arith, vertices_are, copied_other, in_numbers)

module _ (M : Model) (above : List ℕ) (s : ℕ) (c : Taken) (bs : List ℕ) (sound : Sound M) (free : AreFree M c) (first : IsSectionCycle M above s bs) where
  abbrev N : Model
  N = opened_along M above s c bs

  point_still : (v : ℕ) → Has M.vertices v → point_of N v ≡ point_of M v
  unfolding point_of
  point_still v there = ap (λ o. unwrap_or o no_point) (vertex_still M above s c bs v (in_use_within M.vertices c.vertex free.vertices v there))

  start_still : (h : ℕ) → HasHalf M h → tail N h ≡ tail M h → start N h ≡ start M h
  start_still h there e = ap (point_of N) e ∙ point_still (tail M h) (sound.tails_there h there)

  -- another cycle
  module _ (ds : List ℕ) (w : IsSectionCycle M above s ds) (elsewhere : (d : ℕ) → IsIn d ds → count (tail M d) (map (tail M) bs) ≡ 0) where
    begins_still : (d : ℕ) → IsIn d ds → start N d ≡ start M d
    begins_still d i = start_still d (w.halves d i).there (start_same M above s c bs sound free first ds w elsewhere d i)

    ends_still : (d : ℕ) → IsIn d ds → start N (mate d) ≡ start M (mate d)
    ends_still d i = start_still (mate d) (mate_there M d (w.halves d i).there) (end_same M above s c bs sound free first ds w elsewhere d i)

    hole_still : (p : Plane) → is_hole N p ds ≡ is_hole M p ds
    unfolding is_hole
    hole_still p = ap (λ a. int_lt (dot a (direction p)) (pos 0)) (area_mates N ds ∙ ap negated (area_kept M N ds (λ d i. (begins_still d i, ends_still d i))) ∙ sym (area_mates M ds))

  holes_still : (p : Plane) (cs : List (List ℕ)) → AreSectionCycles M above s cs → ((d : ℕ) → IsIn d (flat_map (λ bs. bs) cs) → count (tail M d) (map (tail M) bs) ≡ 0) → map (is_hole N p) cs ≡ map (is_hole M p) cs
  holes_still p [] w e = refl
  holes_still p (ds ∷ cs) w e = λ k.
      hole_still ds w.0 (λ d i. e d (omega (arith, i, count-append d ds (flat_map (λ bs. bs) cs)))) p k
      ∷ holes_still p cs w.1 (λ d i. e d (omega (arith, i, count-append d ds (flat_map (λ bs. bs) cs)))) k

pub next_flags : (above : List ℕ) (s : ℕ) (p : Plane) (o : Opening) (bs : List ℕ) → map (λ k. k.hole) (next_opened p above s o bs).caps ≡ map (λ k. k.hole) o.caps ++ is_hole o.model p bs ∷ []
unfolding next_opened
next_flags above s p o bs = map-append (λ k. k.hole) o.caps (record { lower = o.taken.face + 1; upper = o.taken.face + length bs + 1; hole = is_hole o.model p bs } ∷ [])

-- ---- all openings

pub flags_are : (above : List ℕ) (s : ℕ) (p : Plane) (o : Opening) (cs : List (List ℕ)) → CanBeOpenedInTurn above s o cs →
    map (λ k. k.hole) (all_opened p above s o cs).caps ≡ map (λ k. k.hole) o.caps ++ map (is_hole o.model p) cs
flags_are above s p o cs w = sym (append-nil (map (λ k. k.hole) (all_opened p above s o cs).caps))
    ∙ openings_carry above s p (λ x ds. map (λ k. k.hole) x.caps ++ map (is_hole x.model p) ds ≡ map (λ k. k.hole) o.caps ++ map (is_hole o.model p) cs) next o cs w refl where
      next : (x : Opening) (bs : List ℕ) (ds : List (List ℕ)) → CanBeOpenedInTurn above s x (bs ∷ ds) → map (λ k. k.hole) x.caps ++ map (is_hole x.model p) (bs ∷ ds) ≡ map (λ k. k.hole) o.caps ++ map (is_hole o.model p) cs →
          let n = opened_next p above s x bs in map (λ k. k.hole) n.caps ++ map (is_hole n.model p) ds ≡ map (λ k. k.hole) o.caps ++ map (is_hole o.model p) cs
      next x bs ds w a = grind (arith, map-append, new_caps, holes_still, starts_elsewhere, append_assoc)

-- ---- how many are holes

abbrev pub trues : List Bool → ℕ
trues [] = 0
trues (b ∷ bs) = cond b (suc (trues bs)) (trues bs)

pub filter_trues : {X : Type 0} (f : X → Bool) (xs : List X) → length (filter f xs) ≡ trues (map f xs)
filter_trues f [] = refl
filter_trues f (x ∷ xs) = grind (arith, filter_trues f xs)

-- where a hole isn't stray and there is one, one cap alone is no hole's
pub one_outer : (M : Model) (p : Plane) (cs : List (List ℕ)) (ks : List Caps) → map (λ k. k.hole) ks ≡ map (is_hole M p) cs → has_stray_hole M p cs ≡ false → 0 < length (filter (λ k. k.hole) ks) →
    length ks ≡ length (filter (λ k. k.hole) ks) + 1
one_outer M p cs ks flags stray some = grind (arith, filter_trues, length-map)

-- ---- the faces that were there before the openings stay, and are none of the caps

-- face f has its row of M, and is none of the caps
pub record IsOld (M : Model) (o : Opening) (f : ℕ) : Type 0 where
  pub row : table.get o.model.faces f ≡ table.get M.faces f
  pub no_cap : count f (cap_faces o.caps) ≡ 0

old_next : (M : Model) (above : List ℕ) (s : ℕ) (p : Plane) (o : Opening) (bs : List ℕ) (cs : List (List ℕ)) → CanBeOpenedInTurn above s o (bs ∷ cs) → (f : ℕ) → Has M.faces f → IsOld M o f → IsOld M (opened_next p above s o bs) f
old_next M above s p o bs cs w f there a =
    grind (arith, nat_tests, in_use_within, face_still, flat_map-append, count-append, tick_other, other_number)

pub all_old : (M : Model) (above : List ℕ) (s : ℕ) (p : Plane) (o : Opening) (cs : List (List ℕ)) → CanBeOpenedInTurn above s o cs → (f : ℕ) → Has M.faces f → IsOld M o f → IsOld M (all_opened p above s o cs) f
all_old M above s p o cs w f there a = openings_carry above s p (λ x ds. IsOld M x f) (λ x bs ds w a. old_next M above s p x bs ds w f there a) o cs w a

-- openings change no solid
pub solids_still : (above : List ℕ) (s : ℕ) (p : Plane) (o : Opening) (cs : List (List ℕ)) → CanBeOpenedInTurn above s o cs → (all_opened p above s o cs).model.solids ≡ o.model.solids
unfolding opened_along
solids_still above s p o cs w = openings_carry above s p (λ x ds. x.model.solids ≡ o.model.solids) (λ x bs ds w a. a) o cs w refl
