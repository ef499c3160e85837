-- The caps once a solid is opened along all cycles of its section: their corners and their normals.
use Rattle.command_laws.proofs.Prelude.{◌≡◌, ℕ, zero, suc, ◌+◌, ◌<◌, true, List, [], ◌∷◌, ◌++◌, length, map, get_or, refl, sym, ap, subst, ◌∙◌, arith, ◌≢◌, ◌≤◌, ℤ, ◌+ℤ◌, Bool, false, cond, nat_eq, pos, int_lt, filter, append_assoc, append-nil, eq-eqb, ne_eqb, ints, map-append, eqb_tells, Plane, Point, IsIn, count, direction, dot, is_on, moved, origin, Model, content, face_of, outer, point_of, Has, edge_of, mate, kfmrh, from_map, tick_same, mate_there, none_moved, vertices_on, Taken, normal, negated, is_hole, Caps, Opening, all_opened, no_caps, opened_along, holes_closed, outer_caps, area_mates, moved_back, ArePlain, HasCaps, IsPlain, cap_faces, CanBeOpenedInTurn, CanBeOpened, AreSectionCycles, can_open, capped_carry, new_caps, LiesAlong, lower_normal, upper_normal, area_kept, is_rewritten, swap, finish_old, start_old, ClearOf, closing, closing_leads, CanTake, IsOfEach, each_last, area_below, sum_of}
use Rattle.split_laws.specs.volumes.Closing.{CanClose}
use Rattle.split_laws.proofs.opened.Kept as kept
use Rattle.split_laws.proofs.volumes.Taken as taken

-- ---- normals

-- the cap above has the opposite normal, and the cap below points against the plane's direction where it is a hole's
pub record FacesApart (M : Model) (p : Plane) (k : Caps) : Type 0 where
  pub opposite : normal M k.upper ≡ negated (normal M k.lower)
  pub told : k.hole ≡ int_lt (dot (normal M k.lower) (direction p)) (pos 0)

abbrev pub AllFaceApart : Model → Plane → List Caps → Type 0
AllFaceApart M p [] = Unit {0}
AllFaceApart M p (k ∷ ks) = FacesApart M p k × AllFaceApart M p ks

pub apart_each : (M : Model) (p : Plane) → IsOfEach (AllFaceApart M p) (FacesApart M p)
apart_each M p = record { one = λ k ks a. a.0; others = λ k ks a. a.1; both = λ k ks o a. (o, a) }

twice_turned : (v : Point) → v ≡ negated (negated v)
twice_turned v = grind (arith, ints, v.x, v.y, v.z)

module _ (M : Model) (above : List ℕ) (s : ℕ) (c : Taken) (bs : List ℕ) (w : CanBeOpened M above s c bs) where
  abbrev N : Model
  N = opened_along M above s c bs

  old_normals : (ks : List Caps) → ArePlain M s ks → map (λ k. normal N k.lower) ks ≡ map (λ k. normal M k.lower) ks
  old_normals [] plain = refl
  old_normals (k ∷ ks) plain = λ i. kept.normal_is M N (swap M above s c bs w) (is_rewritten M above s c bs w) k.lower plain.0.there i ∷ old_normals ks plain.2 i

  later_areas : (cs : List (List ℕ)) → AreSectionCycles M above s cs → map (area_below N) cs ≡ map (area_below M) cs
  later_areas [] a = refl
  later_areas (ds ∷ cs) a = λ i. area_kept M N (map mate ds) (λ h j.
      let r = from_map mate h ds j in
      let there = subst (λ x. Has M.edges (edge_of x)) (sym r.2) (mate_there M r.0 (a.0.halves r.0 r.1).there) in
      (start_old M above s c bs w h there, finish_old M above s c bs w h there)) i ∷ later_areas cs a.1 i

  new_normal : normal N (c.face + 1) ≡ area_below M bs
  new_normal = lower_normal M above s c bs w ∙ sym (area_mates M bs)

  new_apart : (p : Plane) → FacesApart N p (record { lower = c.face + 1; upper = c.face + length bs + 1; hole = is_hole M p bs })
  unfolding is_hole
  new_apart p = grind (arith, upper_normal, twice_turned, lower_normal, area_mates)

  still_apart : (p : Plane) (k : Caps) → Has M.faces k.lower → Has M.faces k.upper → FacesApart M p k → FacesApart N p k
  still_apart p k low up a =
      let r = is_rewritten M above s c bs w in
      let same_low = kept.normal_is M N (swap M above s c bs w) r k.lower low in
      let same_up = kept.normal_is M N (swap M above s c bs w) r k.upper up in
      record { opposite = same_up ∙ a.opposite ∙ ap negated (sym same_low); told = a.told ∙ ap (λ v. int_lt (dot v (direction p)) (pos 0)) (sym same_low) }

  all_still : (p : Plane) (ks : List Caps) → ArePlain M s ks → AllFaceApart M p ks → AllFaceApart N p ks
  all_still p [] plain a = tt
  all_still p (k ∷ ks) plain a = (still_apart p k plain.0.there plain.1.there a.0, all_still p ks plain.2 a.1)

pub caps_apart : (above : List ℕ) (s : ℕ) (p : Plane) (o : Opening) (cs : List (List ℕ)) → CanBeOpenedInTurn above s o cs → HasCaps above s o → AllFaceApart o.model p o.caps →
    AllFaceApart (all_opened p above s o cs).model p (all_opened p above s o cs).caps
caps_apart above s p o cs w caps a = capped_carry above s p (λ x ds. AllFaceApart x.model p x.caps) (λ x bs ds w caps a.
    let can = can_open above s x bs ds w in
    let N = opened_along x.model above s x.taken bs in
    each_last (AllFaceApart N p) _ (apart_each N p) x.caps (new_caps p x bs) (all_still x.model above s x.taken bs can p x.caps caps.plain a) (new_apart x.model above s x.taken bs can p, tt)) o cs w caps a

-- ---- corners

-- all vertices of a face's loops lie on the plane
abbrev pub LiesOn : Model → Plane → ℕ → Type 0
LiesOn M p f = (l : ℕ) → Has M.loops l → face_of M l ≡ f → (v : ℕ) → IsIn v (vertices_on M (content M l)) → is_on p (point_of M v) ≡ true

-- the vertices of the outer loop of a face that lies along the plane
pub outer_on : (M : Model) (p : Plane) (f : ℕ) → LiesAlong M p f → (v : ℕ) → IsIn v (vertices_on M (content M (outer M f))) → is_on p (point_of M v) ≡ true
outer_on M p f a v i = grind (arith, from_map, a.items, a.outer_is, a.on_plane)

pub plain_lies : (M : Model) (p : Plane) (s f : ℕ) → IsPlain M s f → LiesAlong M p f → LiesOn M p f
plain_lies M p s f plain a l there of v i = outer_on M p f a v (subst (λ q. IsIn v (vertices_on M (content M q))) (plain.no_ring l there of) i)

-- ---- vectors

moved_on : (a b c : Point) → moved a (moved b c) ≡ moved (moved b a) c
moved_on a b c = λ i. record { x = on a.x b.x c.x i; y = on a.y b.y c.y i; z = on a.z b.z c.z i } where
  on : (a b c : ℤ) → a +ℤ (b +ℤ c) ≡ b +ℤ a +ℤ c
  on a b c = omega (arith, ints)

-- ---- the caps below, once the solid is opened

abbrev pub lowers : Model → List Caps → List Point
lowers M ks = map (λ k. normal M k.lower) ks

abbrev pub uppers : Model → List Caps → List Point
uppers M ks = map (λ k. normal M k.upper) ks

pub normals_are : (above : List ℕ) (s : ℕ) (p : Plane) (o : Opening) (cs : List (List ℕ)) → CanBeOpenedInTurn above s o cs → HasCaps above s o →
    let x = all_opened p above s o cs in map (λ k. normal x.model k.lower) x.caps ≡ map (λ k. normal o.model k.lower) o.caps ++ map (area_below o.model) cs
normals_are above s p o cs w caps = sym (append-nil (lowers (all_opened p above s o cs).model (all_opened p above s o cs).caps))
    ∙ capped_carry above s p (λ x ds. lowers x.model x.caps ++ map (area_below x.model) ds ≡ lowers o.model o.caps ++ map (area_below o.model) cs) (λ x bs ds w caps a.
    let can = can_open above s x bs ds w in
    (λ i. (map-append (λ k. normal (opened_along x.model above s x.taken bs) k.lower) x.caps (new_caps p x bs ∷ [])
    ∙ (λ j. old_normals x.model above s x.taken bs can x.caps caps.plain j ++ new_normal x.model above s x.taken bs can j ∷ [])) i ++ later_areas x.model above s x.taken bs can ds w.cycles.cycles.1 i)
    ∙ append_assoc (lowers x.model x.caps) (area_below x.model bs ∷ []) (map (area_below x.model) ds) ∙ a) o cs w caps refl

-- ---- two lists that tell the same

pub no_first : {X : Type 0} {v : X} {vs : List X} → v ∷ vs ≡ [] → ⊥
no_first e = cc

firsts : {X : Type 0} {u v : X} {us vs : List X} → u ∷ us ≡ v ∷ vs → (u ≡ v) × (us ≡ vs)
firsts e = (cc, cc)

module _ {X : Type 0} (f : Caps → X) (g : List ℕ → X) where
  pub told_at : (ks : List Caps) (cs : List (List ℕ)) (i : ℕ) → i < length ks → map f ks ≡ map g cs → f (get_or ks i no_caps) ≡ g (get_or cs i [])
  told_at [] cs i l e = absurd (omega (arith, l))
  told_at (k ∷ ks) [] i l e = absurd (no_first e)
  told_at (k ∷ ks) (c ∷ cs) zero l e = (firsts e).0
  told_at (k ∷ ks) (c ∷ cs) (suc i) l e = told_at ks cs i (omega (arith, l)) (firsts e).1

  pub told_filtered : (q : List ℕ → Bool) (ks : List Caps) (cs : List (List ℕ)) → map f ks ≡ map g cs → map (λ k. k.hole) ks ≡ map q cs → map f (filter (λ k. k.hole) ks) ≡ map g (filter q cs)
  told_filtered q [] [] e h = refl
  told_filtered q [] (c ∷ cs) e h = grind (arith, no_first)
  told_filtered q (k ∷ ks) [] e h = grind (arith, no_first)
  told_filtered q (k ∷ ks) (c ∷ cs) e h = grind (arith, (told_filtered q ks cs (firsts e).1 (firsts h).1), firsts)

-- ---- the holes closed

-- the normals of the faces that become rings of face x
abbrev pub taken_by : Model → ℕ → List (ℕ × ℕ) → Point
taken_by M x [] = origin
taken_by M x (q ∷ qs) = cond (nat_eq q.0 x) (moved (normal M q.1) (taken_by M x qs)) (taken_by M x qs)

-- face x becomes no ring
abbrev IsNeverTaken : ℕ → List (ℕ × ℕ) → Type 0
IsNeverTaken x [] = Unit {0}
IsNeverTaken x (q ∷ qs) = (x ≢ q.1) × IsNeverTaken x qs

-- then its normal and those that it takes sum to t
record Sums (x : ℕ) (t : Point) (qs : List (ℕ × ℕ)) (A : Model) : Type 0 where
  never : IsNeverTaken x qs
  sum : moved (taken_by A x qs) (normal A x) ≡ t

module _ (A : Model) (p : Plane) (q : ℕ × ℕ) (w : CanTake A p q.0 q.1) where
  abbrev B : Model
  B = kfmrh A q.0 q.1

  same_taken : (x : ℕ) (rs : List (ℕ × ℕ)) → ClearOf q.0 q.1 rs → taken_by B x rs ≡ taken_by A x rs
  same_taken x [] c = refl
  same_taken x (r ∷ rs) c = λ i. cond (nat_eq r.0 x) (moved (taken.normal_same A p q.0 q.1 w r.1 c.2 c.1 i) (same_taken x rs c.3 i)) (same_taken x rs c.3 i)

  sums_on : (x : ℕ) (t : Point) (rs : List (ℕ × ℕ)) → ClearOf q.0 q.1 rs → Sums x t (q ∷ rs) A → Sums x t rs B
  sums_on x t rs c s =
      let one = moved_on (taken_by A x rs) (normal A q.1) (normal A x) in
      grind (arith, s.never, eqb_tells q.0 x, taken.normal_f A p q.0 q.1 w, same_taken x rs c, one, s.sum, taken.normal_same A p q.0 q.1 w x)

never_taken : (x : ℕ) (o : Caps) (hs : List Caps) → count x (cap_faces hs) ≡ 0 → IsNeverTaken x (closing o hs)
never_taken x o [] z = tt
never_taken x o (h ∷ hs) z = grind (arith, (never_taken x o hs (omega (arith, z))), tick_same)

-- once the holes are closed, a face that is no cap of theirs has its own normal and those that it took
pub closed_normal : (M : Model) (s : ℕ) (p : Plane) (ks : List Caps) → CanClose M s p ks → (x : ℕ) → let hs = filter (λ k. k.hole) ks in count x (cap_faces hs) ≡ 0 →
    normal (holes_closed M ks) x ≡ moved (taken_by M x (closing (outer_caps ks) hs)) (normal M x)
closed_normal M s p ks w x z =
    let o = outer_caps ks in
    let hs = filter (λ k. k.hole) ks in
    let t = moved (taken_by M x (closing o hs)) (normal M x) in
    sym (none_moved (normal (holes_closed M ks) x)) ∙ (closing_leads M s p ks (Sums x t) (λ A q rs c clear n. sums_on A p q c x t rs clear n) w (record { never = never_taken x o hs z; sum = refl })).sum

-- the outer cycle's caps take those of the holes
pub both_take : (M : Model) (o : Caps) (hs : List Caps) → o.lower ≢ o.upper → (taken_by M o.lower (closing o hs) ≡ sum_of (lowers M hs)) × (taken_by M o.upper (closing o hs) ≡ sum_of (uppers M hs))
both_take M o [] ne = (refl, refl)
both_take M o (h ∷ hs) ne = grind (arith, (both_take M o hs ne), closing, h.lower, h.upper, eq-eqb, ne_eqb)

-- ---- where there is a hole there is one outer cycle

counted_holes : (ks : List Caps) (i : ℕ) → i < length ks → (get_or ks i no_caps).hole ≡ false → length (filter (λ k. k.hole) ks) < length ks
counted_holes [] i l e = absurd (omega (arith, l))
counted_holes (k ∷ ks) zero l e = omega (arith, ap (λ b. length (cond b (k ∷ filter (λ k. k.hole) ks) (filter (λ k. k.hole) ks))) e, no_more ks) where
  no_more : (ks : List Caps) → length (filter (λ k. k.hole) ks) ≤ length ks
  no_more [] = omega arith
  no_more (k ∷ ks) = one_more k.hole (no_more ks) where
    one_more : (b : Bool) → length (filter (λ k. k.hole) ks) ≤ length ks → length (cond b (k ∷ filter (λ k. k.hole) ks) (filter (λ k. k.hole) ks)) ≤ suc (length ks)
    one_more true r = omega (arith, r)
    one_more false r = omega (arith, r)
counted_holes (k ∷ ks) (suc i) l e = grind (arith, counted_holes ks i)

pub outer_is : (ks : List Caps) (i : ℕ) → i < length ks → (get_or ks i no_caps).hole ≡ false → length ks ≡ length (filter (λ k. k.hole) ks) + 1 → outer_caps ks ≡ get_or ks i no_caps
outer_is [] i l e one = absurd (omega (arith, l))
outer_is (k ∷ ks) zero l e one = ap (λ b. cond b (outer_caps ks) k) e
outer_is (k ∷ ks) (suc i) l e one = grind (arith, outer_is ks i, counted_holes ks i)

-- ---- opposite vectors

pub both_opposite : (a b u v : Point) → u ≡ negated a → v ≡ negated b → moved u v ≡ negated (moved a b)
both_opposite a b u v e f = (λ i. moved (e i) (f i)) ∙ moved_back a b
