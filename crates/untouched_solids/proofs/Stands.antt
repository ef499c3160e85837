-- What stays of a solid where no row of it changes: all that belongs to it, and its volume.
use Rattle.untouched_solids.proofs.Prelude.{◌≡◌, ◌≢◌, ℕ, Bool, true, false, cond, nat_eq, List, [], ◌∷◌, ◌++◌, Option, Some, None, is_some, refl, sym, ap, subst, ◌∙◌, ◌⊎◌, inl, inr, arith, eqb-true, eq-eqb, true≢false, map, nat_cmp, eqb_tells, nat_cmp-IsAntisymmetric, IsIn, mate, edge_of, plus, dot, Table, Model, LoopContent, lone, cycle, items_of, holds, tail, content, face_of, loop_of, outer, point_of, solid_of, faces_of, Sound, Has, HasHalf, StandsIn, IsLoneAt, lists, same_table, same_content, same_face, same_outer, same_solid, loop_there, item_there, item_loop, mate_there, plus_row, from_map, tick_other, IsIn_head, IsIn_rest, same_point, same_tail, IsIn-from_listed, first_listed, rest_listed, start, finish, loops_of, vertices_on, vertices_in, loops_in, corners, corners_in, area, anchor, first_vertex, volume_in, six_volume, AgreeOn, area_kept, normal_agrees, loops_agree, rising_one, same_volumes, volume_of, corners_are, on_one, face_of_loop, listed_face, face_listed, faces_rise, loop_in_solid}
use Rattle.std.specs.FinMap.Entries as entries
use Rattle.euler_operators.specs.Table as table
use Rattle.untouched_solids.specs.Alone.{kept, alone, solid_at, StandsAs}

-- ---- the rows that are kept

get-kept : {X : Type 0} (p : ℕ → Bool) (t : Table X) (q : ℕ) → table.get (kept p t) q ≡ cond (p q) (table.get t q) None
unfolding kept table.get
get-kept p t q = entries.find-where_key nat_cmp p q (λ x e. sym (ap p (nat_cmp-IsAntisymmetric q x e))) t.rows

row_alike : {X : Type 0} (a b : Bool) (x y : Option X) → (is_some y ≡ true → b ≡ true → (x ≡ y) × (a ≡ true)) →
    (is_some x ≡ true → a ≡ true → (x ≡ y) × (b ≡ true)) → cond a x None ≡ cond b y None
row_alike true true (Some x) y on back = (back refl refl).0
row_alike true true None (Some y) on back = (on refl refl).0
row_alike true true None None on back = refl
row_alike true false (Some x) y on back = absurd (true≢false (sym (back refl refl).1))
row_alike true false None y on back = refl
row_alike false true x (Some y) on back = absurd (true≢false (sym (on refl refl).1))
row_alike false true x None on back = refl
row_alike false false x y on back = refl

-- two tables keep the same rows, if each row that one of them keeps is the same in the other, and kept there
kept_same : {X : Type 0} (p q : ℕ → Bool) (s t : Table X) → ((n : ℕ) → Has t n → q n ≡ true → (table.get s n ≡ table.get t n) × (p n ≡ true)) →
    ((n : ℕ) → Has s n → p n ≡ true → (table.get s n ≡ table.get t n) × (q n ≡ true)) → kept p s ≡ kept q t
kept_same p q s t on back = same_table _ _ (λ n. get-kept p s n ∙ row_alike (p n) (q n) (table.get s n) (table.get t n) (on n) (back n) ∙ sym (get-kept q t n))

-- ---- models that have the same rows of a solid

-- each row of M or N is the same in both, or not of solid u: an edge's is of the solid of its halves, and a vertex's of that of its loops in M
pub record Frame (M N : Model) (u : ℕ) : Type 0 where
  pub solids : table.get N.solids u ≡ table.get M.solids u
  pub faces : (f : ℕ) → (table.get N.faces f ≡ table.get M.faces f) ⊎ ((Has M.faces f → solid_of M f ≢ u) × (Has N.faces f → solid_of N f ≢ u))
  pub loops : (l : ℕ) → (table.get N.loops l ≡ table.get M.loops l) ⊎ ((Has M.loops l → solid_at M l ≢ u) × (Has N.loops l → solid_at N l ≢ u))
  pub edges : (h : ℕ) → HasHalf M h → (table.get N.edges (edge_of h) ≡ table.get M.edges (edge_of h)) ⊎ (solid_at M (loop_of M h) ≢ u)
  pub lones : (l v : ℕ) → IsLoneAt M l v → (table.get N.vertices v ≡ table.get M.vertices v) ⊎ (solid_at M l ≢ u)
  pub tails : (h : ℕ) → HasHalf M h → (table.get N.vertices (tail M h) ≡ table.get M.vertices (tail M h)) ⊎ (solid_at M (loop_of M h) ≢ u)

module _ {M N : Model} {u : ℕ} (sound : Sound M) (sound_N : Sound N) (frame : Frame M N u) where
  face_on : (f : ℕ) → Has M.faces f → solid_of M f ≡ u → table.get N.faces f ≡ table.get M.faces f
  face_on f t e = elim (frame.faces f) [ inl s ↦ s | inr a ↦ absurd (a.0 t e) ]

  face_back : (f : ℕ) → Has N.faces f → solid_of N f ≡ u → table.get N.faces f ≡ table.get M.faces f
  face_back f t e = elim (frame.faces f) [ inl s ↦ s | inr a ↦ absurd (a.1 t e) ]

  face_own : (f : ℕ) → Has M.faces f → solid_of M f ≡ u → Has N.faces f × (solid_of N f ≡ u)
  face_own f t e = let r = face_on f t e in (ap is_some r ∙ t, same_solid M N f r ∙ e)

  face_was : (f : ℕ) → Has N.faces f → solid_of N f ≡ u → Has M.faces f × (solid_of M f ≡ u)
  face_was f t e = let r = sym (face_back f t e) in (ap is_some r ∙ t, same_solid N M f r ∙ e)

  loop_on : (l : ℕ) → Has M.loops l → solid_at M l ≡ u → table.get N.loops l ≡ table.get M.loops l
  loop_on l t e = elim (frame.loops l) [ inl s ↦ s | inr a ↦ absurd (a.0 t e) ]

  loop_back : (l : ℕ) → Has N.loops l → solid_at N l ≡ u → table.get N.loops l ≡ table.get M.loops l
  loop_back l t e = elim (frame.loops l) [ inl s ↦ s | inr a ↦ absurd (a.1 t e) ]

  loop_own : (l : ℕ) → Has M.loops l → solid_at M l ≡ u → solid_at N l ≡ u
  loop_own l t e = ap (solid_of N) (same_face M N l (loop_on l t e)) ∙ (face_own (face_of M l) (sound.loops_of_faces l t) e).1

  loop_was : (l : ℕ) → Has N.loops l → solid_at N l ≡ u → solid_at M l ≡ u
  loop_was l t e = ap (solid_of M) (same_face N M l (sym (loop_back l t e))) ∙ (face_was (face_of N l) (sound_N.loops_of_faces l t) e).1

  half_on : (h : ℕ) → HasHalf M h → solid_at M (loop_of M h) ≡ u → StandsIn N h (loop_of M h)
  half_on h t e = ap (holds h) (same_content M N (loop_of M h) (loop_on (loop_of M h) (loop_there M sound h t) e)) ∙ sound.stands h t

  half_own : (h : ℕ) → HasHalf M h → solid_at M (loop_of M h) ≡ u → solid_at N (loop_of N h) ≡ u
  half_own h t e = ap (solid_at N) (sound_N.one_loop h (loop_of M h) (half_on h t e)) ∙ loop_own (loop_of M h) (loop_there M sound h t) e

  half_was : (h : ℕ) → HasHalf N h → solid_at N (loop_of N h) ≡ u → HasHalf M h × (solid_at M (loop_of M h) ≡ u)
  half_was h t e =
      let l = loop_of N h in let there = loop_there N sound_N h t in
      let s : StandsIn M h l = ap (holds h) (sym (same_content M N l (loop_back l there e))) ∙ sound_N.stands h t in
      (sound.only_edges h l s, ap (solid_at M) (sound.one_loop h l s) ∙ loop_was l there e)

  edge_on : (h : ℕ) → HasHalf M h → solid_at M (loop_of M h) ≡ u → table.get N.edges (edge_of h) ≡ table.get M.edges (edge_of h)
  edge_on h t e = elim (frame.edges h t) [ inl s ↦ s | inr a ↦ absurd (a e) ]

  -- ---- where its half-edges start and end

  tail_kept : (h : ℕ) → HasHalf M h → solid_at M (loop_of M h) ≡ u → tail N h ≡ tail M h
  tail_kept h t e = same_tail M N h (edge_on h t e)

  vertex_kept : (h : ℕ) → HasHalf M h → solid_at M (loop_of M h) ≡ u → table.get N.vertices (tail M h) ≡ table.get M.vertices (tail M h)
  vertex_kept h t e = elim (frame.tails h t) [ inl s ↦ s | inr a ↦ absurd (a e) ]

  lone_kept : (l v : ℕ) → IsLoneAt M l v → solid_at M l ≡ u → table.get N.vertices v ≡ table.get M.vertices v
  lone_kept l v is e = elim (frame.lones l v is) [ inl s ↦ s | inr a ↦ absurd (a e) ]

  start_kept : (h : ℕ) → HasHalf M h → solid_at M (loop_of M h) ≡ u → start N h ≡ start M h
  start_kept h t e = ap (point_of N) (tail_kept h t e) ∙ same_point M N (tail M h) (vertex_kept h t e)

  finish_kept : (h : ℕ) → HasHalf M h → solid_at M (loop_of M h) ≡ u → finish N h ≡ finish M h
  finish_kept h t e = start_kept (mate h) (mate_there M h t) (sym (sound.one_solid h t) ∙ e)

  tails_kept : (hs : List ℕ) → ((h : ℕ) → IsIn h hs → HasHalf M h × (solid_at M (loop_of M h) ≡ u)) → map (tail N) hs ≡ map (tail M) hs
  tails_kept [] each = refl
  tails_kept (h ∷ hs) each = let o = each h (IsIn_head h hs) in λ i. tail_kept h o.0 o.1 i ∷ tails_kept hs (λ x j. each x (IsIn_rest x h hs j)) i

  -- ---- one loop of it

  module _ (l : ℕ) (there : Has M.loops l) (own : solid_at M l ≡ u) where
    content_kept : content N l ≡ content M l
    content_kept = same_content M N l (loop_on l there own)

    item_own : (h : ℕ) → IsIn h (items_of (content M l)) → HasHalf M h × (solid_at M (loop_of M h) ≡ u)
    item_own h j = (item_there M sound l h j, ap (solid_at M) (item_loop M sound l h j) ∙ own)

    loop_area : area N (items_of (content N l)) ≡ area M (items_of (content M l))
    loop_area = ap (λ c. area N (items_of c)) content_kept
        ∙ area_kept M N (items_of (content M l)) (λ h j. let o = item_own h j in (start_kept h o.0 o.1, finish_kept h o.0 o.1))

    first_on : (c : LoopContent) → content M l ≡ c → point_of N (first_vertex N c) ≡ point_of M (first_vertex M c)
    first_on (lone v) is = same_point M N v (lone_kept l v is own)
    first_on (cycle []) is = absurd ((sound.cycles l [] there is).some_item refl)
    first_on (cycle (h ∷ hs)) is = let o = item_own h (subst (λ c. IsIn h (items_of c)) (sym is) (IsIn_head h hs)) in start_kept h o.0 o.1

    vertices_of_content : (c : LoopContent) → content M l ≡ c → vertices_on N c ≡ vertices_on M c
    vertices_of_content (lone v) is = refl
    vertices_of_content (cycle hs) is = tails_kept hs (λ h j. item_own h (subst (λ c. IsIn h (items_of c)) (sym is) j))

    on_loop : vertices_on N (content N l) ≡ vertices_on M (content M l)
    on_loop = ap (vertices_on N) content_kept ∙ vertices_of_content (content M l) refl

    vertex_in : (v : ℕ) (c : LoopContent) → content M l ≡ c → IsIn v (vertices_on M c) → table.get N.vertices v ≡ table.get M.vertices v
    vertex_in v (lone w) is i = grind (arith, eqb_tells v w, tick_other v w, lone_kept l w is own)
    vertex_in v (cycle hs) is i =
        let x = from_map (tail M) v hs i in let o = item_own x.0 (subst (λ c. IsIn x.0 (items_of c)) (sym is) x.1) in
        subst (λ w. table.get N.vertices w ≡ table.get M.vertices w) (sym x.2) (vertex_kept x.0 o.0 o.1)

  -- ---- one face of it

  module _ (k : ℕ) (there : Has M.faces k) (own : solid_of M k ≡ u) where
    loop_of_it : (l : ℕ) → lists (loops_of M k) l ≡ true → Has M.loops l × (solid_at M l ≡ u)
    loop_of_it l i = let o = face_of_loop M sound k l there i in (o.0, ap (solid_of M) o.1 ∙ own)

    agree : AgreeOn M N k
    agree = record {
      outer_is = same_outer M N k (face_on k there own);
      stay = λ l t e. let r = loop_on l t (ap (solid_of M) e ∙ own) in (ap is_some r ∙ t, same_face M N l r ∙ e);
      back = λ l t e. let r = sym (loop_back l t (ap (solid_of N) e ∙ (face_own k there own).1)) in (ap is_some r ∙ t, same_face N M l r ∙ e);
      areas = λ l i. let o = loop_of_it l i in loop_area l o.0 o.1;
    }

    anchor_kept : anchor N k ≡ anchor M k
    anchor_kept =
        let o = sound.outers_there k there in let of_u = ap (solid_of M) o.1 ∙ own in
        ap (λ q. point_of N (first_vertex N (content N q))) agree.outer_is ∙ ap (λ c. point_of N (first_vertex N c)) (content_kept (outer M k) o.0 of_u)
        ∙ first_on (outer M k) o.0 of_u (content M (outer M k)) refl

    volume_kept : volume_of N k ≡ volume_of M k
    volume_kept = λ i. dot (anchor_kept i) (normal_agrees agree i)

    vertices_kept : (ls : List ℕ) → ((l : ℕ) → lists ls l ≡ true → Has M.loops l × (solid_at M l ≡ u)) → vertices_in N ls ≡ vertices_in M ls
    vertices_kept [] each = refl
    vertices_kept (l ∷ ls) each = let o = each l (first_listed l ls) in λ i. on_loop l o.0 o.1 i ++ vertices_kept ls (λ q j. each q (rest_listed l q ls j)) i

    corners_kept : corners N k ≡ corners M k
    unfolding corners
    corners_kept = ap (vertices_in N) (loops_agree agree) ∙ vertices_kept (loops_of M k) loop_of_it

  -- ---- all of it

  faces_list : faces_of N u ≡ faces_of M u
  faces_list = rising_one (faces_of N u) (faces_of M u) (faces_rise N sound_N u) (faces_rise M sound u)
      (λ f i. let o = listed_face N sound_N u f i in let w = face_was f o.0 o.1 in face_listed M sound u f w.0 w.1)
      (λ f i. let o = listed_face M sound u f i in let w = face_own f o.0 o.1 in face_listed N sound_N u f w.0 w.1)

  volume : six_volume N u ≡ six_volume M u
  unfolding six_volume
  volume = ap (volume_in N) faces_list ∙ same_volumes M N (faces_of M u) (λ k i. let o = listed_face M sound u k i in volume_kept k o.0 o.1)

  corners_of_faces : (fs : List ℕ) → ((f : ℕ) → lists fs f ≡ true → Has M.faces f × (solid_of M f ≡ u)) → corners_in N fs ≡ corners_in M fs
  corners_of_faces [] each = refl
  corners_of_faces (f ∷ fs) each = let o = each f (first_listed f fs) in λ i. corners_kept f o.0 o.1 i ++ corners_of_faces fs
      (λ q j. each q (rest_listed f q fs j)) i

  corners_list : corners_in N (faces_of N u) ≡ corners_in M (faces_of M u)
  corners_list = ap (corners_in N) faces_list ∙ corners_of_faces (faces_of M u) (listed_face M sound u)

  vertex_on : (v : ℕ) → lists (corners_in M (faces_of M u)) v ≡ true → table.get N.vertices v ≡ table.get M.vertices v
  vertex_on v i =
      let x = on_one M (loops_in M (faces_of M u)) v (subst (IsIn v) (corners_are M (faces_of M u)) (IsIn-from_listed v (corners_in M (faces_of M u)) i)) in
      let o = loop_in_solid M sound u x.0 x.1 in vertex_in x.0 o.0 o.1 v (content M x.0) refl x.2

  solid_row : (n : ℕ) → nat_eq u n ≡ true → table.get N.solids n ≡ table.get M.solids n
  solid_row n e = subst (λ k. table.get N.solids k ≡ table.get M.solids k) (eqb-true u n e) frame.solids

  edge_row : (e : ℕ) → HasHalf M (plus e) → solid_at M (loop_of M (plus e)) ≡ u → table.get N.edges e ≡ table.get M.edges e
  edge_row e t own = subst (λ k. table.get N.edges k ≡ table.get M.edges k) (plus_row e).0 (edge_on (plus e) t own)

  half_of_edge : (X : Model) (e : ℕ) → Has X.edges e → HasHalf X (plus e)
  half_of_edge X e t = subst (Has X.edges) (sym (plus_row e).0) t

  pub stands : StandsAs M N u
  unfolding alone
  stands = record {
    same = λ i. record {
      solids = kept_same (nat_eq u) (nat_eq u) N.solids M.solids (λ n t e. (solid_row n e, e)) (λ n t e. (solid_row n e, e)) i;
      faces = kept_same (λ f. nat_eq (solid_of N f) u) (λ f. nat_eq (solid_of M f) u) N.faces M.faces
          (λ f t e. let o = eqb-true _ _ e in (face_on f t o, eq-eqb _ _ (face_own f t o).1))
          (λ f t e. let o = eqb-true _ _ e in (face_back f t o, eq-eqb _ _ (face_was f t o).1)) i;
      loops = kept_same (λ l. nat_eq (solid_at N l) u) (λ l. nat_eq (solid_at M l) u) N.loops M.loops
          (λ l t e. let o = eqb-true _ _ e in (loop_on l t o, eq-eqb _ _ (loop_own l t o)))
          (λ l t e. let o = eqb-true _ _ e in (loop_back l t o, eq-eqb _ _ (loop_was l t o))) i;
      edges = kept_same (λ e. nat_eq (solid_at N (loop_of N (plus e))) u) (λ e. nat_eq (solid_at M (loop_of M (plus e))) u) N.edges M.edges
          (λ e t b. let h = half_of_edge M e t in let o = eqb-true _ _ b in (edge_row e h o, eq-eqb _ _ (half_own (plus e) h o)))
          (λ e t b. let w = half_was (plus e) (half_of_edge N e t) (eqb-true _ _ b) in (edge_row e w.0 w.1, eq-eqb _ _ w.1)) i;
      vertices = kept_same (lists (corners_in N (faces_of N u))) (lists (corners_in M (faces_of M u))) N.vertices M.vertices
          (λ v t e. (vertex_on v e, ap (λ vs. lists vs v) corners_list ∙ e))
          (λ v t e. let o = ap (λ vs. lists vs v) (sym corners_list) ∙ e in (vertex_on v o, o)) i;
    };
    volume = volume;
  }
