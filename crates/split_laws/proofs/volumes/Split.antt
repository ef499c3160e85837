-- The six volumes of a solid some of whose faces go to a new solid.
use Rattle.split_laws.proofs.Prelude.{list_any, ◌≡◌, ◌≢◌, ℕ, ◌+◌, ◌+ℤ◌, Bool, true, false, cond, not, nat_eq, ◌&&◌, List, [], ◌∷◌, ◌++◌, Option, is_some, unwrap_or, refl, sym, ap, ◌∙◌, arith, ◌<◌, length, subst, true≢false, ◌⊎◌, inl, inr, ◌≤◌, option_map, map, filter, ne_eqb, eq-eqb, append-nil, dot, SameItems, count, get-map_rows, Model, FaceRow, no_face, items_of, mate, tail, content, outer, point_of, faces_of, solid_of, lists, strictly_rises, part, faces_to_solid, Plane, Has, count-append, IsIn_or_not, solid_row, get-put_here, get-put_other, solid_either, start, items_in, loops_of, boundary, area, first_vertex, normal, six_volume, Drawing, is_hole, has_stray_hole, Caps, Opening, holes_closed, opened_at, split_drawn, area_kept, areas_kept, corner_kept, one_if, passed, count_where, same_search, volume_of, volume_append, volume_same, same_volumes, upper_faces, CanBeOpenedInTurn, cap_faces, HasCaps, CanBeParted, CanBeSplit, CanClose, hole_ops}
use Rattle.euler_operators.specs.Table as table
use Rattle.split_laws.proofs.volumes.Closed.{closing_keeps}
use Rattle.split_laws.proofs.opened.InTurn.{some_way, openings_keep, openings_lie}
use Rattle.split_laws.proofs.Flags.{flags_are, one_outer, solids_still}
use Rattle.split_laws.proofs.Holes.{AreClosed, some_other}
use Rattle.split_laws.proofs.Whole as whole
use Rattle.split_laws.proofs.Stages.{openings}

-- what is of s or of t then was of s
one_of_two : (b : Bool) (a s t : ℕ) → s ≢ t → (b ≡ true → a ≡ s) → a ≢ t → one_if (nat_eq (cond b t a) s) + one_if (nat_eq (cond b t a) t) ≡ one_if (nat_eq a s)
one_of_two b a s t e f g = grind (arith, one_if, ne_eqb, eq-eqb)

of_another : (b : Bool) (a s t u : ℕ) → u ≢ s → u ≢ t → (b ≡ true → a ≡ s) → one_if (nat_eq (cond b t a) u) ≡ one_if (nat_eq a u)
of_another b a s t u e f g = grind (arith, one_if, ne_eqb)

module _ (M : Model) (s t : ℕ) (fs : List ℕ) where
  abbrev N : Model
  N = part M s t fs

  abbrev pub to_new : ℕ → FaceRow → FaceRow
  to_new = faces_to_solid (λ f _. lists fs f) t

  pub row_is : (k : ℕ) → table.get N.faces k ≡ option_map (to_new k) (table.get M.faces k)
  unfolding part
  row_is k = get-map_rows to_new M.faces k

  -- ---- loops and points stay

  pub content_same : (l : ℕ) → content N l ≡ content M l
  unfolding part content
  content_same l = refl

  pub start_same : (h : ℕ) → start N h ≡ start M h
  unfolding part tail point_of
  start_same h = refl

  point_same : (v : ℕ) → point_of N v ≡ point_of M v
  unfolding part point_of
  point_same v = refl

  -- ---- so each face adds what it did

  outer_in : (k : ℕ) (o : Option FaceRow) → (unwrap_or (option_map (to_new k) o) no_face).outer ≡ (unwrap_or o no_face).outer
  outer_in k o = grind arith

  outer_same : (k : ℕ) → outer N k ≡ outer M k
  unfolding outer
  outer_same k = ap (λ o. (unwrap_or o no_face).outer) (row_is k) ∙ outer_in k (table.get M.faces k)

  loops_same : (k : ℕ) → loops_of N k ≡ loops_of M k
  unfolding loops_of part
  loops_same k = λ i. outer_same k i ∷ (ap (λ o. table.all_where (λ l row. nat_eq row.face k && not (nat_eq o l)) M.loops) (outer_same k) i)

  pub normal_same : (k : ℕ) → normal N k ≡ normal M k
  unfolding normal boundary
  normal_same k = ap (λ ls. area N (items_in N ls)) (loops_same k) ∙ areas_kept M N (loops_of M k) (λ l i. ap (λ c. area N (items_of c)) (content_same l) ∙ area_kept M N (items_of (content M l)) (λ h j. (start_same h, start_same (mate h))))

  volume_kept : (k : ℕ) → volume_of N k ≡ volume_of M k
  volume_kept k = λ i. dot ((ap (λ c. point_of N (first_vertex N c)) (content_same (outer N k) ∙ ap (content M) (outer_same k)) ∙ corner_kept M N (content M (outer M k)) start_same point_same) i) (normal_same k i)

  -- ---- which faces go

  module _ (w : CanBeParted M s t fs) where
    abbrev of : ℕ → ℕ → FaceRow → Bool
    of u k row = nat_eq row.solid u

    shared_row : (k : ℕ) (o : Option FaceRow) → table.get M.faces k ≡ o → passed (of s) k (option_map (to_new k) o) + passed (of t) k (option_map (to_new k) o) ≡ passed (of s) k o
    shared_row k o e = grind (arith, one_if, solid_either, one_of_two, solid_row)

    other_row : (u : ℕ) → u ≢ s → u ≢ t → (k : ℕ) (o : Option FaceRow) → table.get M.faces k ≡ o → passed (of u) k (option_map (to_new k) o) ≡ passed (of u) k o
    other_row u e f k o g = grind (arith, one_if, solid_either, of_another, solid_row)

    both_faces : SameItems (faces_of M s) (faces_of N s ++ faces_of N t)
    both_faces k = grind (arith, count-append, count_where, row_is, shared_row)

    shares : six_volume M s ≡ six_volume N s +ℤ six_volume N t
    unfolding six_volume
    shares = sym (same_volumes M N (faces_of M s) (λ k i. volume_kept k)) ∙ volume_same N (faces_of M s) (faces_of N s ++ faces_of N t) both_faces ∙ volume_append N (faces_of N s) (faces_of N t)

    keeps : (u : ℕ) → u ≢ s → u ≢ t → six_volume N u ≡ six_volume M u
    unfolding six_volume
    keeps u not_s not_t = grind (arith, same_search, row_is, other_row, volume_kept)

pub part_shares : (M : Model) (s t : ℕ) (fs : List ℕ) → CanBeParted M s t fs → six_volume M s ≡ six_volume (part M s t fs) s +ℤ six_volume (part M s t fs) t
part_shares M s t fs w = shares M s t fs w

pub part_keeps : (M : Model) (s t : ℕ) (fs : List ℕ) (u : ℕ) → CanBeParted M s t fs → u ≢ s → u ≢ t → six_volume (part M s t fs) u ≡ six_volume M u
part_keeps M s t fs u w not_s not_t = keeps M s t fs w u not_s not_t

-- ---- the six volumes of the two parts of a split solid

closable_of : (M : Model) (p : Plane) (cs : List (List ℕ)) (ks : List Caps) → map (λ k. k.hole) ks ≡ map (is_hole M p) cs → has_stray_hole M p cs ≡ false →
    (list_any (λ k. not k.hole) ks ≡ true) ⊎ (filter (λ k. k.hole) ks ≡ [])
closable_of M p cs ks same e = any_closable (filter (λ k. k.hole) ks) refl where
  any_closable : (hs : List Caps) → filter (λ k. k.hole) ks ≡ hs → (list_any (λ k. not k.hole) ks ≡ true) ⊎ (filter (λ k. k.hole) ks ≡ [])
  any_closable [] is = inr is
  any_closable (h ∷ hs) is = inl (some_other ks (omega (arith, one_outer M p cs ks same e (subst (λ xs. 0 < length xs) (sym is) (omega arith)))))

-- ---- the parts

module _ (d : Drawing) (above : List ℕ) (s : ℕ) (p : Plane) (t : ℕ) (w : CanBeSplit d above s p t) where
  open openings d above s p use {begun, cycles}

  abbrev pub o : Opening
  o = opened_at d above s p

  abbrev pub C : Model
  C = holes_closed (opened_at d above s p).model (opened_at d above s p).caps

  pub bare : HasCaps above s begun
  bare = record { plain = tt; all_rise = ap strictly_rises (append-nil above) ∙ w.above_rise; upper_rise = ap strictly_rises (append-nil above) ∙ w.above_rise }

  pub ended : CanBeOpenedInTurn above s o []
  ended = whole.opened d above s p w.opens bare w.no_stray

  pub caps : HasCaps above s o
  caps = whole.caps d above s p w.opens bare w.no_stray

  pub once : (x : ℕ) → count x above + count x (cap_faces o.caps) ≤ 1
  once = whole.once d above s p w.opens bare w.no_stray

  -- the caps of holes are those of the cycles that are holes
  pub flags : map (λ k. k.hole) o.caps ≡ map (is_hole d.model p) cycles
  flags = flags_are above s p begun cycles w.opens

  pub closed : AreClosed o.model C s (upper_faces above o.caps) (hole_ops o.caps) (filter (λ k. k.hole) o.caps)
  closed = whole.closed d above s p w.opens bare w.no_stray

  pub solids_stay : C.solids ≡ d.model.solids
  solids_stay = closed.solids ∙ solids_still above s p begun cycles w.opens

  pub closes : CanClose o.model s p o.caps
  closes = record {
    outers = ended.sound.outers_there;
    some_way = some_way p w.lie_on.some_way;
    plain = caps.plain;
    along = openings_lie above s p begun cycles w.opens bare tt w.lie_on;
    apart = λ x. omega (arith, once x);
    closable = closable_of d.model p cycles o.caps flags w.no_stray;
  }

  closed_keeps : (u : ℕ) → six_volume C u ≡ six_volume d.model u
  closed_keeps u = closing_keeps o.model s p o.caps u closes ∙ openings_keep above s p begun cycles u w.opens w.alike w.lie_on

  -- a face that is there once the holes are closed was there
  same_row : (f : ℕ) → Has C.faces f → table.get C.faces f ≡ table.get o.model.faces f
  same_row f there = elim (IsIn_or_not f (cap_faces (filter (λ k. k.hole) o.caps))) [
    | inl i ↦ absurd (true≢false (sym there ∙ ap is_some (closed.gone f i)))
    | inr z ↦ closed.rows f z
  ]

  solid_there : (f : ℕ) → Has C.faces f → solid_of C f ≡ solid_of o.model f
  unfolding solid_of
  solid_there f there = ap (λ r. (unwrap_or r no_face).solid) (same_row f there)

  was_there : (f : ℕ) → Has C.faces f → Has o.model.faces f
  was_there f there = ap is_some (sym (same_row f there)) ∙ there

  pub parts : CanBeParted C s t (upper_faces above o.caps)
  parts = record {
    apart = w.apart;
    fresh = λ f there e. true≢false (sym (ended.sound.faces_of_solids f (was_there f there)) ∙ ap is_some (ap (table.get o.model.solids) (sym (solid_there f there) ∙ e) ∙ ap (λ q. table.get q t) (solids_still above s p begun cycles w.opens) ∙ w.fresh));
    of_solid = λ f there l. solid_there f there ∙ ended.upper_of_solid f l;
  }

  -- listing also the caps that are gone changes nothing
  pub split_is : split_drawn d above s p t ≡ part C s t (upper_faces above o.caps)
  split_is = whole.parted_alike d above s p w.opens bare w.no_stray t

-- ---- both parts are solids

parted_solids : (M : Model) (s t : ℕ) (fs : List ℕ) → (part M s t fs).solids ≡ table.put M.solids t tt
unfolding part
parted_solids M s t fs = refl

pub both_there : (d : Drawing) (above : List ℕ) (s : ℕ) (p : Plane) (t : ℕ) → CanBeSplit d above s p t → Has d.model.solids s → Has (split_drawn d above s p t).solids s × Has (split_drawn d above s p t).solids t
both_there d above s p t w there = grind (arith, parted_solids, get-put_other, solids_stay, get-put_here)

-- ---- their six volumes

pub split_shares : (d : Drawing) (above : List ℕ) (s : ℕ) (p : Plane) (t : ℕ) → CanBeSplit d above s p t →
    six_volume d.model s ≡ six_volume (split_drawn d above s p t) s +ℤ six_volume (split_drawn d above s p t) t
split_shares d above s p t w = grind (arith, split_is, closed_keeps, part_shares, parts)

pub split_keeps : (d : Drawing) (above : List ℕ) (s : ℕ) (p : Plane) (t u : ℕ) → CanBeSplit d above s p t → u ≢ s → u ≢ t → six_volume (split_drawn d above s p t) u ≡ six_volume d.model u
split_keeps d above s p t u w not_s not_t = grind (arith, split_is, part_keeps, parts, closed_keeps)
