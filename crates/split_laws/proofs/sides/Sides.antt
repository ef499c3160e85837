-- The sides on which faces lie, and that no loop of a solid is lone, from step to step of a split.
use Rattle.split_laws.proofs.Prelude.{◌≡◌, ◌≢◌, ℕ, ◌+◌, Bool, true, false, cond, List, [], ◌∷◌, ◌++◌, length, is_some, refl, sym, ap, subst, ◌∙◌, arith, true≢false, inl, inr, map, append-nil, eq-eqb, eqb_tells, Point, Plane, is_on, is_above, is_below, count, IsIn, Model, items_of, tail, content, face_of, outer, solid_of, LoopContent, lone, point_of, faces_of, cycle, Has, IsLoneAt, Sound, lists, kfmrh, part, row_some, content_row, never_lone, lone_there, filter_passes, count-append, tick_same, IsIn_or_not, other_last, passes_listed, IsIn-from_listed, listed-from_in, face_there, all_where_has, start, loops_of, corners, corners_in, vertices_of, Taken, is_plane_of, Drawing, below_halves, section_cycles, Opening, opened_along, all_opened, split_drawn, rewritten, reaches_above, reaches_below, straddles, face_is_above, faces_above, CanBeOpened, upper_faces, CanBeOpenedInTurn, upper_next, can_open, openings_carry, new_caps, LiesAlong, LieOn, CanBeSplit, CanBeParted, IsOnSide, IsOfSolid, AreSided, list_any, face_of_loop, replaced_start, NoLoopIsLone, tail_in_face, solid_facts, TailIn, tail_in, none_from}
use Rattle.euler_operators.specs.Table as table
use Rattle.split_laws.proofs.opened.Starts.{swap}
use Rattle.split_laws.proofs.opened.Kept as kept
use Rattle.split_laws.proofs.opened.Caps.{loop_kinds, outer_lower, outer_upper, lower_along, upper_along, lower_loop, upper_loop}
use Rattle.split_laws.proofs.opened.InTurn.{is_rewritten, flat_carry}
use Rattle.split_laws.proofs.volumes.Taken as taken
use Rattle.split_laws.proofs.volumes.Closed.{closing_carries}
use Rattle.split_laws.proofs.volumes.Split as split
use Rattle.split_opening_laws.proofs.cycles.Meets.{count_filter}
use Rattle.split_drawing_laws.proofs.pairs.LoopPlaces.{none_passes}

-- a point on the plane lies on both sides
on_both : (p : Plane) (r : Point) (b : Bool) → is_on p r ≡ true → IsOnSide p b r
on_both p r b e = grind arith

-- what stands in the outer loop of a face that lies along the plane starts on it
along_on : (M : Model) (p : Plane) (f : ℕ) → LiesAlong M p f → (h : ℕ) → IsIn h (items_of (content M (outer M f))) → is_on p (start M h) ≡ true
along_on M p f a h i = a.on_plane h (omega (arith, i, ap (λ c. count h (items_of c)) a.outer_is))

-- no lone loop is of a face of solid u
abbrev pub NoneLone : Model → ℕ → Type 0
NoneLone M u = (l v : ℕ) → IsLoneAt M l v → Has M.faces (face_of M l) → solid_of M (face_of M l) ≢ u

-- a loop that is lone once its cycle is rewritten was lone
still_lone : (new : ℕ → ℕ) (c : LoopContent) (v : ℕ) → rewritten (map new) c ≡ lone v → c ≡ lone v
still_lone new c v e = grind (arith, never_lone)

-- ---- one opening

module _ (M : Model) (above : List ℕ) (s : ℕ) (c : Taken) (bs : List ℕ) (w : CanBeOpened M above s c bs) where
  abbrev N : Model
  N = opened_along M above s c bs

  abbrev new : ℕ → ℕ
  new = swap M above s c bs w

  module _ (p : Plane) (on : is_plane_of M p (map (tail M) bs) ≡ true) (fs : List ℕ) where
    opened_sided : AreSided M p s fs → AreSided N p s (fs ++ (c.face + length bs + 1) ∷ [])
    opened_sided sided l h i =
        let upper : ℕ = c.face + length bs + 1 in
        let r = row_some (table.get N.loops l) i.loop_there in
        elim (loop_kinds M above s c bs w l r.0 r.1) [
          | inl q ↦ on_both p (start N h) (lists (fs ++ upper ∷ []) (face_of N l))
              (along_on N p upper (upper_along M above s c bs w p on) h (subst (λ k. IsIn h (items_of (content N k))) (q.0 ∙ sym (outer_upper M above s c bs w)) i.item))
          | inr k ↦ elim k [
            | inl q ↦ on_both p (start N h) (lists (fs ++ upper ∷ []) (face_of N l))
                (along_on N p (c.face + 1) (lower_along M above s c bs w p on) h (subst (λ k. IsIn h (items_of (content N k))) (q.0 ∙ sym (outer_lower M above s c bs w)) i.item))
            | inr q ↦
                let rewritten = is_rewritten M above s c bs w in
                let y = replaced_start (kept.replaced M N new rewritten l q.0) h i.item in
                let face : face_of N l ≡ face_of M l = kept.face_is M N new rewritten l q.0 in
                let there : Has M.faces (face_of M l) = w.sound.loops_of_faces l q.0 in
                let old : face_of M l ≢ upper = λ e. true≢false (sym there ∙ ap is_some (ap (table.get M.faces) e ∙ w.free.faces upper (omega arith))) in
                let was : IsOfSolid M s l y.0 = record { loop_there = q.0; face_there = there; of_solid = sym (kept.solid_is M N new rewritten (face_of M l) there) ∙ ap (solid_of N) (sym face) ∙ i.of_solid; item = y.1 } in
                (λ j. cond ((ap (lists (fs ++ upper ∷ [])) face ∙ other_last fs upper (face_of M l) old) j) (is_below p (y.2 j)) (is_above p (y.2 j))) ∙ sided l y.0 was
          ]
        ]

  -- the new loops are cycles
  opened_none : (u : ℕ) → NoneLone M u → NoneLone N u
  opened_none u none l v at face_there of_u =
      let r = row_some (table.get N.loops l) (lone_there N l v at) in
      elim (loop_kinds M above s c bs w l r.0 r.1) [
        | inl q ↦ never_lone _ v (sym (ap (content N) q.0 ∙ content_row N (c.loop + length bs + 1) _ (upper_loop M above s c bs w)) ∙ at)
        | inr k ↦ elim k [
          | inl q ↦ never_lone _ v (sym (ap (content N) q.0 ∙ content_row N (c.loop + 1) _ (lower_loop M above s c bs w)) ∙ at)
          | inr q ↦
              let rewritten = is_rewritten M above s c bs w in
              let there : Has M.faces (face_of M l) = w.sound.loops_of_faces l q.0 in
              none l v (still_lone new (content M l) v (sym (kept.replaced M N new rewritten l q.0).content_is ∙ at)) there
              (sym (kept.solid_is M N new rewritten (face_of M l) there) ∙ ap (solid_of N) (sym (kept.face_is M N new rewritten l q.0)) ∙ of_u)
        ]
      ]

-- ---- all openings

pub openings_sided : (above : List ℕ) (s : ℕ) (p : Plane) (o : Opening) (cs : List (List ℕ)) → CanBeOpenedInTurn above s o cs → LieOn o.model p cs → AreSided o.model p s (upper_faces above o.caps) →
    AreSided (all_opened p above s o cs).model p s (upper_faces above (all_opened p above s o cs).caps)
openings_sided above s p o cs w on sided = flat_carry above s p (λ x. AreSided x.model p s (upper_faces above x.caps)) (λ x bs ds w flat a.
    subst (AreSided (opened_along x.model above s x.taken bs) p s) (sym (upper_next above x.caps (new_caps p x bs)))
    (opened_sided x.model above s x.taken bs (can_open above s x bs ds w) p flat (upper_faces above x.caps) a)) o cs w on sided

openings_none : (above : List ℕ) (s : ℕ) (p : Plane) (o : Opening) (cs : List (List ℕ)) (u : ℕ) → CanBeOpenedInTurn above s o cs → NoneLone o.model u → NoneLone (all_opened p above s o cs).model u
openings_none above s p o cs u w none = openings_carry above s p (λ x ds. NoneLone x.model u) (λ x bs ds w a. opened_none x.model above s x.taken bs (can_open above s x bs ds w) u a) o cs w none

-- ---- a cap that becomes a ring

-- a loop that isn't the ring keeps its face, which was there, and of the same solid
taken_face : (p : Plane) (M : Model) (f g : ℕ) → taken.CanTake M p f g → (l : ℕ) → Has M.loops l → l ≢ outer M g → let N = kfmrh M f g in Has N.faces (face_of N l) →
    (face_of N l ≡ face_of M l) × Has M.faces (face_of M l) × (solid_of N (face_of N l) ≡ solid_of M (face_of M l))
taken_face p M f g w l there ne face_there =
    let N : Model = kfmrh M f g in
    let face : face_of N l ≡ face_of M l = taken.face_else M p f g w l there ne in
    let other : face_of M l ≢ g = λ q. true≢false (sym face_there ∙ ap is_some (ap (table.get N.faces) (face ∙ q) ∙ taken.face_goes M p f g w)) in
    (face, sym (ap is_some (taken.face_stays M p f g w (face_of M l) other)) ∙ ap (table.has N.faces) (sym face) ∙ face_there, ap (solid_of N) face ∙ taken.solid_same M p f g w (face_of M l) other)

taken_sided : (p : Plane) (s : ℕ) (fs : List ℕ) (M : Model) (f g : ℕ) → taken.CanTake M p f g → AreSided M p s fs → AreSided (kfmrh M f g) p s fs
taken_sided p s fs M f g w sided l h i =
    let N : Model = kfmrh M f g in
    let there : Has M.loops l = sym (taken.loop_there M p f g w l) ∙ i.loop_there in
    let item : IsIn h (items_of (content M l)) = subst (λ c. IsIn h (items_of c)) (taken.content_same M p f g w l) i.item in
    let same : start N h ≡ start M h = taken.start_same M p f g w h in
    elim (eqb_tells l (outer M g)) [
      | inl e ↦ on_both p (start N h) (lists fs (face_of N l)) (ap (is_on p) same ∙ along_on M p g w.g_along h (subst (λ k. IsIn h (items_of (content M k))) e.1 item))
      | inr e ↦ let r = taken_face p M f g w l there e.1 i.face_there in (λ j. cond (lists fs (r.0 j)) (is_below p (same j)) (is_above p (same j)))
          ∙ sided l h (record { loop_there = there; face_there = r.1; of_solid = sym r.2 ∙ i.of_solid; item = item })
    ]

taken_none : (p : Plane) (u : ℕ) (M : Model) (f g : ℕ) → taken.CanTake M p f g → NoneLone M u → NoneLone (kfmrh M f g) u
taken_none p u M f g w none l v at face_there of_u =
    let N : Model = kfmrh M f g in
    let is : IsLoneAt M l v = sym (taken.content_same M p f g w l) ∙ at in
    let there : Has M.loops l = lone_there M l v is in
    elim (eqb_tells l (outer M g)) [
      | inl e ↦ grind (arith, taken.solid_same, taken.face_taken)
      | inr e ↦ let r = taken_face p M f g w l there e.1 face_there in none l v is r.1 (sym r.2 ∙ of_u)
    ]

-- ---- the parts

of_lower : (b : Bool) (a s t : ℕ) → s ≢ t → cond b t a ≡ s → (b ≡ false) × (a ≡ s)
of_lower b a s t e f = grind arith

module _ (M : Model) (s t : ℕ) (fs : List ℕ) (parts : CanBeParted M s t fs) where
  abbrev P : Model
  P = part M s t fs

  loops_stay : (l : ℕ) → table.has P.loops l ≡ table.has M.loops l
  unfolding part
  loops_stay l = refl

  face_stays : (l : ℕ) → face_of P l ≡ face_of M l
  unfolding part face_of
  face_stays l = refl

  -- a face went to t where it is listed, and else is of its solid
  solid_then : (k : ℕ) → Has P.faces k → Has M.faces k × (solid_of P k ≡ cond (lists fs k) t (solid_of M k))
  unfolding solid_of
  solid_then k there = grind (arith, split.row_is)

  -- the face of a loop was there and of s, and is listed where it is of t now
  abbrev Was : ℕ → Bool → Type 0
  Was l b = Has M.faces (face_of M l) × (lists fs (face_of M l) ≡ b) × (solid_of M (face_of M l) ≡ s)

  face_then : (l u : ℕ) → Has P.faces (face_of P l) → solid_of P (face_of P l) ≡ u → Has M.faces (face_of M l) × (cond (lists fs (face_of M l)) t (solid_of M (face_of M l)) ≡ u)
  face_then l u there of_u = let r = solid_then (face_of M l) (ap (table.has P.faces) (sym (face_stays l)) ∙ there) in (r.0, sym r.1 ∙ ap (solid_of P) (sym (face_stays l)) ∙ of_u)

  lower_was : (l : ℕ) → Has P.faces (face_of P l) → solid_of P (face_of P l) ≡ s → Was l false
  lower_was l there of_s = let r = face_then l s there of_s in let q = of_lower (lists fs (face_of M l)) (solid_of M (face_of M l)) s t parts.apart r.1 in (r.0, q.0, q.1)

  upper_was : (l : ℕ) → Has P.faces (face_of P l) → solid_of P (face_of P l) ≡ t → Was l true
  upper_was l there of_t = grind (arith, face_then)

  part_sided : (p : Plane) (l h u : ℕ) (b : Bool) → AreSided M p s fs → IsOfSolid P u l h → Was l b → IsOnSide p b (start P h)
  part_sided p l h u b sided i was = grind (arith, split.start_same, loops_stay, split.content_same)

  part_lone : (l v : ℕ) (b : Bool) → NoneLone M s → IsLoneAt P l v → Was l b → ⊥
  part_lone l v b none at was = none l v (sym (split.content_same M s t fs l) ∙ at) was.0 was.2

pub parts_sided : (d : Drawing) (above : List ℕ) (s : ℕ) (p : Plane) (t : ℕ) → CanBeSplit d above s p t → AreSided d.model p s above → (l h : ℕ) →
    (IsOfSolid (split_drawn d above s p t) s l h → is_above p (start (split_drawn d above s p t) h) ≡ false)
    × (IsOfSolid (split_drawn d above s p t) t l h → is_below p (start (split_drawn d above s p t) h) ≡ false)
parts_sided d above s p t w sided l h =
    let o : Opening = split.o d above s p t w in
    let C : Model = split.C d above s p t w in
    let fs : List ℕ = upper_faces above o.caps in
    let begun : Opening = record { model = d.model; taken = d.taken; caps = [] } in
    let opened : AreSided o.model p s fs = openings_sided above s p begun (section_cycles d.model (below_halves d.model above s)) w.opens w.lie_on (subst (AreSided d.model p s) (sym (append-nil above)) sided) in
    let closed : AreSided C p s fs = closing_carries o.model s p o.caps (λ A. AreSided A p s fs) (taken_sided p s fs) (split.closes d above s p t w) opened in
    let q = split.parts d above s p t w in
    subst (λ P. (IsOfSolid P s l h → is_above p (start P h) ≡ false) × (IsOfSolid P t l h → is_below p (start P h) ≡ false)) (sym (split.split_is d above s p t w)) (
      (λ i. part_sided C s t fs q p l h s false closed i (lower_was C s t fs q l i.face_there i.of_solid)),
      (λ i. part_sided C s t fs q p l h t true closed i (upper_was C s t fs q l i.face_there i.of_solid)),
    )

pub parts_none : (d : Drawing) (above : List ℕ) (s : ℕ) (p : Plane) (t : ℕ) → CanBeSplit d above s p t → NoneLone d.model s → NoneLone (split_drawn d above s p t) s × NoneLone (split_drawn d above s p t) t
parts_none d above s p t w none =
    let o : Opening = split.o d above s p t w in
    let C : Model = split.C d above s p t w in
    let fs : List ℕ = upper_faces above o.caps in
    let begun : Opening = record { model = d.model; taken = d.taken; caps = [] } in
    let opened : NoneLone o.model s = openings_none above s p begun (section_cycles d.model (below_halves d.model above s)) s w.opens none in
    let closed : NoneLone C s = closing_carries o.model s p o.caps (λ A. NoneLone A s) (taken_none p s) (split.closes d above s p t w) opened in
    let q = split.parts d above s p t w in
    subst (λ P. NoneLone P s × NoneLone P t) (sym (split.split_is d above s p t w)) (
      (λ l v at there e. part_lone C s t fs q l v false closed at (lower_was C s t fs q l there e)),
      (λ l v at there e. part_lone C s t fs q l v true closed at (upper_was C s t fs q l there e)),
    )

-- ---- the sides on which the faces of a drawn solid lie

module _ (M : Model) (p : Plane) (s : ℕ) where
  not_above : (f : ℕ) → face_is_above M p f ≡ false → reaches_above M p f ≡ false
  unfolding face_is_above
  not_above f e = grind arith

  not_below : (f : ℕ) → straddles M p f ≡ false → face_is_above M p f ≡ true → reaches_below M p f ≡ false
  unfolding face_is_above straddles
  not_below f n e = grind arith

  pub begun_sided : Sound M → ((f : ℕ) → lists (faces_of M s) f ≡ true → straddles M p f ≡ false) → AreSided M p s (faces_above M p s)
  begun_sided sound none l h i = on_its_side (face_is_above M p (face_of M l)) refl where
    face_listed : lists (faces_of M s) (face_of M l) ≡ true
    face_listed = passes_listed _ M.faces (face_of M l) _ (face_there M (face_of M l) i.face_there) (eq-eqb (solid_of M (face_of M l)) s i.of_solid)

    corner : IsIn (tail M h) (corners M (face_of M l))
    corner = tail_in_face M h l i.loop_there i.item

    unlisted : (b : Bool) → lists (faces_above M p s) (face_of M l) ≡ b → face_is_above M p (face_of M l) ≡ false → b ≡ false
    unlisted true e q = absurd (true≢false (sym (filter_passes (face_is_above M p) (face_of M l) (faces_of M s) (IsIn-from_listed (face_of M l) (faces_above M p s) e)) ∙ q))
    unlisted false e q = refl

    on_its_side : (b : Bool) → face_is_above M p (face_of M l) ≡ b → IsOnSide p (lists (faces_above M p s) (face_of M l)) (start M h)
    on_its_side true e = subst (λ b. IsOnSide p b (start M h)) (sym (listed-from_in (face_of M l) (faces_above M p s) (omega (arith, count_filter (face_is_above M p) (face_of M l) (faces_of M s) e, IsIn-from_listed (face_of M l) (faces_of M s) face_listed))))
        (none_passes (λ v. is_below p (point_of M v)) (tail M h) (corners M (face_of M l)) (not_below (face_of M l) (none (face_of M l) face_listed) e) corner)
    on_its_side false e = subst (λ b. IsOnSide p b (start M h)) (sym (unlisted (lists (faces_above M p s) (face_of M l)) refl e))
        (none_passes (λ v. is_above p (point_of M v)) (tail M h) (corners M (face_of M l)) (not_above (face_of M l) e) corner)

-- ---- from the half-edges of a solid to its vertices

-- what isn't lone is a cycle
cycle_unless : (c : LoopContent) → ((v : ℕ) → c ≢ lone v) → c ≡ cycle (items_of c)
cycle_unless (lone v) never = absurd (never v refl)
cycle_unless (cycle hs) never = refl

-- a corner of some faces is one of a face among them
from_faces : (N : Model) (v : ℕ) (fs : List ℕ) → IsIn v (corners_in N fs) → (f : ℕ) × IsIn f fs × IsIn v (corners N f)
from_faces N v [] i = absurd (omega (arith, i))
from_faces N v (f ∷ fs) i = elim (IsIn_or_not v (corners N f)) [
  | inl j ↦ (f, omega (arith, tick_same f), j)
  | inr z ↦ let r = from_faces N v fs (omega (arith, i, z, count-append v (corners N f) (corners_in N fs))) in (r.0, omega (arith, r.1), r.2)
]

-- vertex v is where a half-edge of solid u starts
record StartOf (N : Model) (u v : ℕ) : Type 0 where
  loop : ℕ
  half : ℕ
  of_solid : IsOfSolid N u loop half
  starts : point_of N v ≡ start N half

module _ (N : Model) (sound : Sound N) (u : ℕ) (none : NoLoopIsLone N u) where
  start_of : (f v : ℕ) → IsIn f (faces_of N u) → IsIn v (corners N f) → StartOf N u v
  unfolding corners
  start_of f v i c =
      let there : Has N.faces f = (solid_facts N u f i).0 in
      let of_u : solid_of N f ≡ u = (solid_facts N u f i).1 in
      let of : (l : ℕ) → IsIn l (loops_of N f) → Has N.loops l × (face_of N l ≡ f) = λ l j. face_of_loop N sound f l there (listed-from_in l (loops_of N f) j) in
      let r : TailIn N v (loops_of N f) = tail_in N v (loops_of N f) (λ l j. cycle_unless (content N l) (λ x at. none l x at (ap (solid_of N) (of l j).1 ∙ of_u))) c in
      record {
        loop = r.loop;
        half = r.half;
        of_solid = record {
          loop_there = (of r.loop r.loop_in).0;
          face_there = ap (table.has N.faces) (of r.loop r.loop_in).1 ∙ there;
          of_solid = ap (solid_of N) (of r.loop r.loop_in).1 ∙ of_u;
          item = r.half_in;
        };
        starts = ap (point_of N) r.is;
      }

  -- a test that no start of a half-edge passes no vertex passes
  pub vertices_fail : (test : Point → Bool) → ((l h : ℕ) → IsOfSolid N u l h → test (start N h) ≡ false) → list_any (λ v. test (point_of N v)) (vertices_of N u) ≡ false
  vertices_fail test fails = none_from (λ v. test (point_of N v)) (vertices_of N u) (λ v i.
      let listed = all_where_has (λ x _. lists (corners_in N (faces_of N u)) x) N.vertices v i in
      let f = from_faces N v (faces_of N u) (IsIn-from_listed v (corners_in N (faces_of N u)) listed.2) in
      let a : StartOf N u v = start_of f.0 v f.1 f.2 in
      ap test a.starts ∙ fails a.loop a.half a.of_solid)
