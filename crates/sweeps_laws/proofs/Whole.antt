-- A whole face swept: its loops one after the other, each a closed path.
use Rattle.sweeps_laws.proofs.Prelude.{◌≡◌, ◌≢◌, ℕ, zero, suc, ◌≤◌, ◌<◌, ℤ, pos, ◌+ℤ◌, ◌*ℤ◌, List, [], ◌∷◌, ◌++◌, length, get_or, None, is_some, refl, sym, ap, subst, ◌∙◌, arith, ints, get_or_append_left, get_or_at, Point, dot, head_or, tick, count, IsIn, IsPath, IsRing, mate, Model, LoopContent, cycle, items_of, tail, content, face_of, outer, solid_of, point_of, rings_of, after, Sound, Has, HasHalf, tick_same, IsIn-get_or, IsIn_head, IsIn_rest, in-holds, content_row, face_row, mate_there, dot_moved, dot_origin, dot_turned, twice_sum, three_times, add_none, add_assoc, loop_sound, IsLoop, items_in, loops_of, Taken, growing, taken_in, next_place, prism_from, prism_model, prism_refusal, area, normal, six_volume, area-append, area_kept, loops_of_apart, SweepAdds, SweepKeepsOthers, taken_after}
use Rattle.sweeps_laws.proofs.swept.Bounds.{HasFree}
use Rattle.sweeps_laws.proofs.swept.Lifted.{IsPathOf, swept, solid_after, outer_after}
use Rattle.sweeps_laws.proofs.swept.Numbers.{next_cases}
use Rattle.sweeps_laws.proofs.Loops.{head_is, normal_is}
use Rattle.sweeps_laws.proofs.LaminaRows.{ring_adds, outer_adds, others_kept}
use Rattle.sweeps_laws.proofs.prism.Accepted.{face_there, begins}
use Rattle.sweeps_laws.proofs.prism.Whole as stages
use Rattle.sweeps_laws.proofs.prism.Whole.{Going}

-- ---- places of a ring

-- each leads to the one after it, and the last to the end of the path
place_after : (next : ℕ → ℕ) (xs : List ℕ) (e i : ℕ) → IsPath next xs e → i < length xs → next (get_or xs i 0) ≡ get_or (xs ++ e ∷ []) (suc i) 0
place_after next [] e i p l = absurd (omega arith)
place_after next (x ∷ []) e i p l = grind (arith, p.0)
place_after next (x ∷ y ∷ ys) e zero p l = p.0
place_after next (x ∷ y ∷ ys) e (suc i) p l = place_after next (y ∷ ys) e i p.1 (omega (arith, l))

place_next : (next : ℕ → ℕ) (xs : List ℕ) (i : ℕ) → IsRing next xs → i < length xs → next (get_or xs i 0) ≡ get_or xs (next_place (length xs) i) 0
place_next next xs i r l = grind (arith, head_is, next_cases, place_after next xs (head_or 0 xs) i r l, get_or_append_left xs (head_or 0 xs ∷ []) 0 (suc i), get_or_at xs (head_or 0 xs) [] 0 (suc i))

some_items : (hs : List ℕ) → hs ≢ [] → 0 < length hs
some_items [] ne = absurd (ne refl)
some_items (h ∷ hs) ne = omega arith

module _ (M : Model) (sound : Sound M) where
  -- a loop that isn't lone is a closed path
  pub sound_path : (f l : ℕ) (hs : List ℕ) → Has M.loops l → face_of M l ≡ f → content M l ≡ cycle hs → IsPathOf M f l hs
  sound_path f l hs there of is = record {
    there = there;
    of_face = of;
    content = is;
    some_item = some_items hs (sound.cycles l hs there is).some_item;
    linked = λ i m. ap (point_of M) (sym (sound.ends_meet (get_or hs i 0) (half i m)) ∙ ap (tail M) (place_next (after M) hs i (ring (content M l) is (loop_sound M sound l there)) m));
  } where
    half : (i : ℕ) → i < length hs → HasHalf M (get_or hs i 0)
    half i m = sound.only_edges (get_or hs i 0) l (in-holds (get_or hs i 0) (content M l) (subst (λ x. IsIn (get_or hs i 0) (items_of x)) (sym is) (IsIn-get_or hs i 0 m)))

    ring : (x : LoopContent) → x ≡ cycle hs → IsLoop (after M) x → IsRing (after M) hs
    ring x e w = (subst (IsLoop (after M)) e w).1

-- ---- one loop after the other

module _ (M : Model) (f : ℕ) (d : Point) where
  module _ {N : Model} {c : Taken} {l : ℕ} {ls : List ℕ} (g : Going M N c f d (l ∷ ls)) where
    abbrev items : List ℕ
    items = items_of (content M l)

    abbrev now : Model
    now = swept N c (solid_of N f) d (items_of (content M l)) f l

    pub has_free : HasFree N c
    has_free = record { sound = g.sound; free = g.free }

    pub path : IsPathOf N f l (items_of (content M l))
    path = let row = g.rows l (IsIn_head l ls) in sound_path N g.sound f l items (ap is_some row) (face_row N l _ row) (content_row N l _ row)

    there : Has N.faces f
    there = subst (Has N.faces) path.of_face (g.sound.loops_of_faces l path.there)

    -- it has the area that it had at first
    first_area : area N items ≡ area M items
    first_area = area_kept M N items (λ h i. let t = g.items_there l (IsIn_head l ls) h i in (g.starts h t, g.starts (mate h) (mate_there M h t)))

  -- a loop, and others, add twice their areas along d
  both : (l : ℕ) (ls : List ℕ) (v : ℤ) → (v +ℤ pos 2 *ℤ dot (area M (items_of (content M l))) d) +ℤ pos 2 *ℤ dot (area M (items_in M ls)) d ≡ v +ℤ pos 2 *ℤ dot (area M (items_in M (l ∷ ls))) d
  both l ls v = grind (arith, add_assoc, twice_sum, dot_moved, area-append)

  -- rings, one after the other
  rings_swept : (ls : List ℕ) (N : Model) (c : Taken) → Going M N c f d ls → (s : ℕ) → solid_of N f ≡ s → ((q : ℕ) → IsIn q ls → outer N f ≢ q) →
      six_volume (prism_from f d (record { model = N; taken = c }) ls).model s ≡ six_volume N s +ℤ pos 2 *ℤ dot (area M (items_in M ls)) d
  rings_swept [] N c g s of rings = sym (add_none (six_volume N s)) ∙ ap (λ x. (six_volume N s) +ℤ pos 2 *ℤ x) (sym (dot_origin d))
  rings_swept (l ∷ ls) N c g s of rings =
      let hs = items_of (content M l) in
      ap (λ x. six_volume (prism_from f d x ls).model s) (stages.raised_is M N c f l d ls g)
      ∙ rings_swept ls (now g) (taken_after c (length hs)) (stages.next M N c f l d ls g) s (solid_after N c (solid_of N f) d hs f l (has_free g) (path g) (there g) ∙ of)
      (λ q i e. rings q (IsIn_rest q l ls i) (sym (outer_after N c (solid_of N f) d hs f l (has_free g) (path g) (there g)) ∙ e))
      ∙ ap (λ v. v +ℤ pos 2 *ℤ dot (area M (items_in M ls)) d) (subst (λ u. six_volume (now g) u ≡ six_volume N u +ℤ pos 2 *ℤ dot (area M hs) d) of
      (ring_adds (solid_of N f) d (has_free g) (path g) (rings l (IsIn_head l ls)) ∙ ap (λ a. six_volume N (solid_of N f) +ℤ pos 2 *ℤ dot a d) (first_area g)))
      ∙ both l ls (six_volume N s)

  -- another solid, whatever loops of the face are swept
  others_swept : (u : ℕ) (ls : List ℕ) (N : Model) (c : Taken) → Going M N c f d ls → u ≢ solid_of N f → six_volume (prism_from f d (record { model = N; taken = c }) ls).model u ≡ six_volume N u
  others_swept u [] N c g ne = refl
  others_swept u (l ∷ ls) N c g ne =
      let hs = items_of (content M l) in
      ap (λ x. six_volume (prism_from f d x ls).model u) (stages.raised_is M N c f l d ls g)
      ∙ others_swept u ls (now g) (taken_after c (length hs)) (stages.next M N c f l d ls g) (λ e. ne (e ∙ solid_after N c (solid_of N f) d hs f l (has_free g) (path g) (there g)))
      ∙ others_kept (solid_of N f) d (has_free g) (path g) u ne refl

  -- ---- the face, its outer loop first

  module _ (sound : Sound M) (accepted : prism_refusal M f d ≡ None) where
    abbrev o : ℕ
    o = outer M f

    begun : Going M M (taken_in M) f d (outer M f ∷ rings_of M f)
    unfolding loops_of
    begun = begins M f d sound accepted

    prism_is : prism_model M f d ≡ (prism_from f d (growing M) (outer M f ∷ rings_of M f)).model
    unfolding prism_model loops_of
    prism_is = refl

    not_outer : (q : ℕ) → IsIn q (rings_of M f) → outer M f ≢ q
    unfolding loops_of
    not_outer q i e = let a : count q (outer M f ∷ rings_of M f) ≤ 1 = loops_of_apart M sound f q in absurd (omega (arith, a, i, ap (tick q) e, tick_same q))

    three : (v u w : ℤ) → u ≡ w → (v +ℤ w) +ℤ pos 2 *ℤ u ≡ v +ℤ pos 3 *ℤ u
    three v u w e = grind (arith, ints, three_times)

    adds : six_volume (prism_model M f d) (solid_of M f) ≡ six_volume M (solid_of M f) +ℤ pos 3 *ℤ dot (normal M f) d
    adds =
        let s = solid_of M f in
        let hs = items_of (content M o) in
        let is_there = face_there M f d sound accepted in
        ap (λ x. six_volume x s) prism_is
        ∙ ap (λ x. six_volume (prism_from f d x (rings_of M f)).model s) (stages.raised_is M M (taken_in M) f o d (rings_of M f) begun)
        ∙ rings_swept (rings_of M f) (now begun) (taken_after (taken_in M) (length hs)) (stages.next M M (taken_in M) f o d (rings_of M f) begun) s
        (solid_after M (taken_in M) s d hs f o (has_free begun) (path begun) is_there)
        (λ q i e. not_outer q i (sym (outer_after M (taken_in M) s d hs f o (has_free begun) (path begun) is_there) ∙ e))
        ∙ ap (λ v. v +ℤ pos 2 *ℤ dot (area M (items_in M (rings_of M f))) d) (outer_adds s d (has_free begun) (path begun) refl is_there refl)
        ∙ both o (rings_of M f) (six_volume M s +ℤ dot d (normal M f))
        ∙ ap (λ a. (six_volume M s +ℤ dot d (normal M f)) +ℤ pos 2 *ℤ dot a d) (sym (normal_is M f))
        ∙ three (six_volume M s) (dot (normal M f) d) (dot d (normal M f)) (dot_turned (normal M f) d)

    others : (u : ℕ) → u ≢ solid_of M f → six_volume (prism_model M f d) u ≡ six_volume M u
    others u ne = ap (λ x. six_volume x u) prism_is ∙ others_swept u (outer M f ∷ rings_of M f) M (taken_in M) begun ne

-- the laws of sweeps
pub sweep_adds : SweepAdds
sweep_adds = adds

pub sweep_keeps_others : SweepKeepsOthers
sweep_keeps_others M f d u sound e ne = others M f d sound e u ne
