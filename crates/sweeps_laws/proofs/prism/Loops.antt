-- A whole loop swept: the first item raised, the rounds, and the last side closed.
use Rattle.sweeps_laws.proofs.Prelude.{◌≡◌, ◌≢◌, ℕ, zero, suc, ◌+◌, ◌-◌, ◌≤◌, ◌<◌, List, [], ◌∷◌, ◌++◌, length, Some, None, refl, sym, ap, ◌∙◌, subst, arith, get_or, drop, nat_tests, drop_all, Point, moved, IsIn, canonical, plus, minus, Table, tables, same_table, Model, cycle, tail, solid_of, Sound, first_false, effect, count-append, tick_other, canonical_same, IsIn-get_or, get-put_here, get-put_other, plus_tail_row, minus_tail_row, AreAccepted, effects, effect_keeps_sound, Leads, leads_one, leads_on, leads_sound, Around, apart_xs, start, Taken, riser, top_edge, top_items, next_place, with_side, with_sides, lifted, lifted_part, prism_part, raise, close, close_last, rounds, loop_ops, Ready}
use Rattle.euler_operators.specs.Table as table
use Rattle.sweeps_laws.proofs.prism.Steps.{with_chord, mev_does, mev_fits, mef_does, mef_fits}
use Rattle.sweeps_laws.proofs.prism.Sides.{fits, next_last, two_items, from_least, drop_next, loop_within, part_loop, part_edge_free, part_face_free, part_loop_free, part_riser, part_solid, round_accepted, round_is}
use Rattle.sweeps_laws.proofs.swept.Numbers.{riser_cases, top_cases}
use Rattle.sweeps_laws.proofs.lamina.Lists.{canonical_first}

-- the top edges rise from the first one
pub tops_head : (e n i : ℕ) → (ks : List ℕ) × (top_items e n (suc i) ≡ plus (top_edge e n 0) ∷ ks)
tops_head e n zero = ([], refl)
tops_head e n (suc i) = let h = tops_head e n i in (h.0 ++ plus (top_edge e n (suc i)) ∷ [], ap (λ xs. xs ++ plus (top_edge e n (suc i)) ∷ []) h.1)

tops_above : (e n i y : ℕ) → 2 ≤ n → IsIn y (top_items e n i) → plus (top_edge e n 0) ≤ y
tops_above e n zero y two h = absurd (omega arith)
tops_above e n (suc i) y two h = grind (arith, top_cases e n 0, top_cases e n i, count-append, tick_other, tops_above e n i y)

put_last_over : {X : Type 0} (t : Table X) (l r : ℕ) (a x y : X) → l ≢ r → table.put (table.put (table.put t l a) l x) r y ≡ table.put (table.put t r y) l x
put_last_over t l r a x y ne = same_table _ _ (λ q. grind (arith, nat_tests, tables))

module _ (M : Model) (c : Taken) (f l : ℕ) (d : Point) (hs : List ℕ) (w : Ready M c f l d hs) where
  -- the model with the loop swept
  abbrev swept : Model
  swept = lifted (with_sides c (solid_of M f) d hs (length hs) M) f l (top_items c.edge (length hs) (length hs))

  -- ---- the first item

  abbrev first_item : ℕ
  first_item = get_or hs 0 0

  abbrev more_items : List ℕ
  more_items = drop 1 hs

  some_items : 0 < length hs
  some_items = let t = two_items M c f l d hs w in omega arith

  items_are : hs ≡ first_item ∷ more_items
  items_are = drop_next hs 0 some_items

  around_first : Around M l f ([] ++ first_item ∷ more_items)
  around_first = record { sound = w.sound; at = w.at ∙ ap (λ xs. Some (record { face = f; content = cycle xs })) (sym (from_least M c f l d hs w) ∙ ap canonical items_are) }

  pub first_accepted : first_false M (raise M c d hs 0) ≡ None
  first_accepted = mev_fits M l f [] more_items first_item (riser c.edge 0) (c.vertex + 1 + 0) (moved (start M first_item) d) around_first
      (w.free.edges (riser c.edge 0) (omega arith)) (w.free.vertices (c.vertex + 1 + 0) (omega arith))
      (fits (riser c.edge 0) (omega arith) (omega (arith, w.left.edges, some_items))) (fits (c.vertex + 1 + 0) (omega arith) (omega (arith, w.left.vertices, some_items)))
      (w.points_fit first_item (IsIn-get_or hs 0 0 some_items))

  first_is : effect M (raise M c d hs 0) ≡ prism_part c f l d hs 0 M
  unfolding prism_part
  first_is = mev_does M l f [] more_items first_item (riser c.edge 0) (c.vertex + 1 + 0) (moved (start M first_item) d) around_first (w.free.edges (riser c.edge 0) (omega arith))
      ∙ (λ i. record M {
        loops = table.put M.loops l (record { face = f; content = cycle (canonical (plus (riser c.edge 0) ∷ minus (riser c.edge 0) ∷ (sym items_are) i)) });
        edges = table.put M.edges (riser c.edge 0) (record { plus_tail = tail M first_item; minus_tail = c.vertex + 1 + 0 });
        vertices = table.put M.vertices (c.vertex + 1 + 0) (moved (start M first_item) d);
      })

  -- ---- the rounds

  abbrev pub Rounds : ℕ → Type 0
  Rounds i = Leads M (prism_part c f l d hs i M) (rounds M c d hs i)

  part_sound : (i : ℕ) → Rounds i → Sound (prism_part c f l d hs i M)
  part_sound i = leads_sound M (prism_part c f l d hs i M) (rounds M c d hs i) w.sound

  pub rounds_go : (i : ℕ) → i < length hs → Rounds i
  rounds_go zero lt = leads_one M (prism_part c f l d hs 0 M) (raise M c d hs 0) first_accepted first_is
  rounds_go (suc i) lt =
      let r : Rounds i = rounds_go i (omega arith) in
      let s : Sound (prism_part c f l d hs i M) = part_sound i r in
      leads_on M (prism_part c f l d hs i M) (prism_part c f l d hs (suc i) M) (rounds M c d hs i) (raise M c d hs (suc i) ∷ close c (length hs) i ∷ []) r
      (record { accepted = round_accepted w i lt s; made = round_is w i lt s })

  -- the row of the first top edge
  first_top : (i : ℕ) → i < length hs → table.get (with_sides c (solid_of M f) d hs (suc i) M).edges (top_edge c.edge (length hs) 0) ≡ Some (record { plus_tail = c.vertex + 1 + 0; minus_tail = c.vertex + 1 + next_place (length hs) 0 })
  unfolding with_side
  first_top zero lt = get-put_here _ _ _
  first_top (suc i) lt =
      let two = two_items M c f l d hs w in
      get-put_other _ _ _ (top_edge c.edge (length hs) 0) (λ s. omega (arith, top_cases c.edge (length hs) 0, top_cases c.edge (length hs) (suc i)))
      ∙ get-put_other _ _ _ (top_edge c.edge (length hs) 0) (λ s. omega (arith, top_cases c.edge (length hs) 0, riser_cases c.edge (suc i)))
      ∙ first_top i (omega arith)

  -- ---- the last side, over item j + 1

  module _ (j : ℕ) (last : suc (suc j) ≡ length hs) (sound : Sound (prism_part c f l d hs (suc j) M)) where
    abbrev P : Model
    P = prism_part c f l d hs (suc j) M

    abbrev k : ℕ
    k = plus (top_edge c.edge (length hs) 0)

    abbrev T : List ℕ
    T = (tops_head c.edge (length hs) j).0

    abbrev a : ℕ
    a = plus (riser c.edge 0)

    abbrev b : ℕ
    b = minus (riser c.edge (suc j))

    abbrev h : ℕ
    h = get_or hs (suc j) 0

    abbrev t : ℕ
    t = top_edge c.edge (length hs) (suc j)

    abbrev s : ℕ
    s = c.face + 1 + suc j

    abbrev r : ℕ
    r = c.loop + 1 + suc j

    abbrev X2 : List ℕ
    X2 = (b ∷ h ∷ a ∷ []) ++ k ∷ T

    abbrev X3 : List ℕ
    X3 = plus t ∷ k ∷ T

    abbrev X4 : List ℕ
    X4 = (b ∷ h ∷ a ∷ []) ++ minus t ∷ []

    abbrev N : Model
    N = with_chord P l f X3 t (record { plus_tail = tail P b; minus_tail = tail P k }) s r X4

    tops_are : top_items c.edge (length hs) (suc j) ≡ k ∷ T
    tops_are = (tops_head c.edge (length hs) j).1

    list_is : lifted_part c hs (suc j) ≡ (a ∷ k ∷ T) ++ b ∷ h ∷ []
    list_is = (λ i. a ∷ tops_are i ++ b ∷ (drop_next hs (suc j) (omega (arith, last)) ∙ ap (λ xs. h ∷ xs) (drop_all (suc (suc j)) hs (omega (arith, last)))) i)

    around_part : Around P l f ((a ∷ k ∷ T) ++ b ∷ h ∷ [])
    around_part = record { sound = sound; at = part_loop w (suc j) ∙ ap (λ xs. Some (record { face = f; content = cycle (canonical xs) })) list_is }

    turned : canonical ((a ∷ k ∷ T) ++ b ∷ h ∷ []) ≡ canonical X2
    turned = canonical_same ((a ∷ k ∷ T) ++ b ∷ h ∷ []) X2 (record { front = a ∷ k ∷ T; back = b ∷ h ∷ []; here = refl; there = refl }) (apart_xs P l f ((a ∷ k ∷ T) ++ b ∷ h ∷ []) around_part)

    around_last : Around P l f X2
    around_last = record { sound = sound; at = around_part.at ∙ ap (λ xs. Some (record { face = f; content = cycle xs })) turned }

    two : 2 ≤ length hs
    two = two_items M c f l d hs w

    t_free : table.get P.edges t ≡ None
    t_free = part_edge_free w (suc j) t (λ e. omega (arith, last, top_cases c.edge (length hs) (suc j), riser_cases c.edge (suc j)))
        (λ i lt. ((λ e. omega (arith, last, top_cases c.edge (length hs) (suc j), riser_cases c.edge i)), (λ e. omega (arith, last, top_cases c.edge (length hs) (suc j), top_cases c.edge (length hs) i))))
        (omega (arith, top_cases c.edge (length hs) (suc j)))

    r_other : l ≢ r
    r_other e = omega (arith, loop_within w)

    r_free : table.get P.loops r ≡ None
    r_free = part_loop_free w (suc j) r (omega arith)

    tail_b : tail P b ≡ c.vertex + 1 + suc j
    tail_b = minus_tail_row P (riser c.edge (suc j)) _ (part_riser w (suc j))

    first_row : table.get P.edges (top_edge c.edge (length hs) 0) ≡ Some (record { plus_tail = c.vertex + 1 + 0; minus_tail = c.vertex + 1 + next_place (length hs) 0 })
    unfolding prism_part
    first_row = get-put_other _ _ _ (top_edge c.edge (length hs) 0) (λ e. omega (arith, two, top_cases c.edge (length hs) 0, riser_cases c.edge (suc j))) ∙ first_top j (omega (arith, last))

    tail_k : tail P k ≡ c.vertex + 1 + 0
    tail_k = plus_tail_row P (top_edge c.edge (length hs) 0) _ first_row

    accepted : first_false P (close_last c (length hs) (suc j)) ≡ None
    accepted = mef_fits P l f b k (h ∷ a ∷ []) T t s r around_last t_free r_free (part_face_free w (suc j) s (omega arith))
        (λ e. let q : c.vertex + 1 + suc j ≡ c.vertex + 1 + 0 = sym tail_b ∙ e ∙ tail_k in omega arith)
        (fits t (omega (arith, top_cases c.edge (length hs) (suc j))) (omega (arith, top_cases c.edge (length hs) (suc j), w.left.edges, last)))
        (fits s (omega arith) (omega (arith, w.left.faces, last)))
        (fits r (omega arith) (omega (arith, w.left.loops, last)))

    does : effect P (close_last c (length hs) (suc j)) ≡ N
    does = mef_does P l f b k (h ∷ a ∷ []) T t s r around_last t_free r_free

    sound_after : Sound N
    sound_after = subst Sound does (effect_keeps_sound P (close_last c (length hs) (suc j)) sound accepted)

    kept_there : Around N l f X3
    kept_there = record { sound = sound_after; at = get-put_other _ r _ l r_other ∙ get-put_here _ l _ }

    side_there : Around N r s X4
    side_there = record { sound = sound_after; at = get-put_here _ r _ }

    all_tops : top_items c.edge (length hs) (suc (suc j)) ≡ k ∷ (T ++ plus t ∷ [])
    all_tops = ap (λ xs. xs ++ plus t ∷ []) tops_are

    kept_is : canonical X3 ≡ top_items c.edge (length hs) (length hs)
    kept_is = canonical_same X3 (k ∷ (T ++ plus t ∷ [])) (record { front = plus t ∷ []; back = k ∷ T; here = refl; there = refl }) (apart_xs N l f X3 kept_there)
        ∙ canonical_first k (T ++ plus t ∷ []) (λ y i. tops_above c.edge (length hs) (suc (suc j)) y two (subst (IsIn y) (sym all_tops) (omega (arith, i))))
        ∙ sym all_tops ∙ ap (top_items c.edge (length hs)) last

    next_is : next_place (length hs) (suc j) ≡ 0
    next_is = next_last (length hs) (suc j) (omega (arith, last))

    side_is : canonical X4 ≡ canonical (h ∷ plus (riser c.edge (next_place (length hs) (suc j))) ∷ minus t ∷ b ∷ [])
    side_is = canonical_same X4 (h ∷ a ∷ minus t ∷ b ∷ []) (record { front = b ∷ []; back = h ∷ a ∷ minus t ∷ []; here = refl; there = refl }) (apart_xs N r s X4 side_there)
        ∙ ap (λ q. canonical (h ∷ plus (riser c.edge q) ∷ minus t ∷ b ∷ [])) (sym next_is)

    abbrev W : Model
    W = lifted (with_sides c (solid_of M f) d hs (suc (suc j)) M) f l (top_items c.edge (length hs) (length hs))

    faces_are : N.faces ≡ W.faces
    unfolding prism_part with_side
    faces_are = ap (λ q. table.put (with_sides c (solid_of M f) d hs (suc j) M).faces s (record { solid = q; outer = r })) (part_solid w (suc j))

    loops_are : N.loops ≡ W.loops
    unfolding prism_part with_side
    loops_are = put_last_over _ l r _ _ _ r_other
        ∙ (λ i. table.put (table.put (with_sides c (solid_of M f) d hs (suc j) M).loops r (record { face = s; content = cycle (side_is i) })) l (record { face = f; content = cycle (kept_is i) }))

    edges_are : N.edges ≡ W.edges
    unfolding prism_part with_side
    edges_are = λ i. table.put P.edges t (record { plus_tail = tail_b i; minus_tail = (tail_k ∙ ap (λ q. c.vertex + 1 + q) (sym next_is)) i })

    made : N ≡ W
    unfolding prism_part with_side
    made = λ i. record { solids = W.solids; faces = faces_are i; loops = loops_are i; edges = edges_are i; vertices = W.vertices }

    last_leads : Leads P swept (close_last c (length hs) (suc j) ∷ [])
    last_leads = leads_one P swept (close_last c (length hs) (suc j)) accepted (cc (does, made))

  -- the operators of a loop sweep it
  leads_at : (j : ℕ) → suc (suc j) ≡ length hs → Leads M swept (rounds M c d hs (suc j) ++ close_last c (length hs) (suc j) ∷ [])
  leads_at j last = let r : Rounds (suc j) = rounds_go (suc j) (omega (arith, last)) in
      leads_on M (prism_part c f l d hs (suc j) M) swept (rounds M c d hs (suc j)) (close_last c (length hs) (suc j) ∷ []) r (last_leads j last (part_sound (suc j) r))

  pub loop_leads : Leads M swept (loop_ops M c d hs)
  loop_leads =
      let two : 2 ≤ length hs = two_items M c f l d hs w in
      let is : suc (length hs - 2) ≡ length hs - 1 = omega arith in
      subst (λ i. Leads M swept (rounds M c d hs i ++ close_last c (length hs) i ∷ [])) is (leads_at (length hs - 2) (omega arith))

  pub loop_swept : AreAccepted M (loop_ops M c d hs) × (effects M (loop_ops M c d hs) ≡ swept)
  loop_swept = (loop_leads.accepted, loop_leads.made)
