-- The cycles of a section, along which a solid is opened one after the other.
use Rattle.plane_split.proofs.Prelude.{◌≡◌, ℕ, ◌+◌, ◌*◌, ◌≤◌, Bool, false, List, [], ◌∷◌, ◌++◌, length, map, slice_index_or, sym, ap, ◌∙◌, subst, drop, append_assoc, length-map, map-append, Plane, HalfEdge, code, Model, effects, is_hole, Opening, opened_along, next_opened, all_opened, CanBeOpenedInTurn, opening_ops, opening_made, openings_ops, others, parts, taken_of, halves_of, caps_of, all_caps, opening_of, CanOpen, Caps}
use Rattle.split_opening_laws.proofs.sections.InTurn.{can_open, others_on}
use Rattle.split_laws.proofs.Flags.{flags_are, next_flags}
use Rattle.split_drawing.specs.declared.Counters.{Counters}
use Rattle.split_sections.specs.declared.section_cycles.cycle.Cycle.{Cycle}

-- ---- hole flags

cancel : (xs ys zs : List Bool) → xs ++ ys ≡ xs ++ zs → ys ≡ zs
cancel [] ys zs e = e
cancel (x ∷ xs) ys zs e = cancel xs ys zs (ap (drop 1) e)

-- the first of some flags, or false
abbrev head_flag : List Bool → Bool
head_flag [] = false
head_flag (b ∷ bs) = b

-- an opening leaves the other cycles the holes that they were
next_holes : (above : List ℕ) (s : ℕ) (p : Plane) (o : Opening) (bs : List ℕ) (cs : List (List ℕ)) → CanBeOpenedInTurn above s o (bs ∷ cs) → CanBeOpenedInTurn above s (next_opened p above s o bs) cs →
    map (is_hole (next_opened p above s o bs).model p) cs ≡ map (is_hole o.model p) cs
next_holes above s p o bs cs w next =
    let k : Bool = is_hole o.model p bs in
    let before : List Bool = map (λ k. k.hole) o.caps in
    let here : List Bool = map (is_hole o.model p) cs in
    let then : List Bool = map (is_hole (next_opened p above s o bs).model p) cs in
    let known : before ++ (k ∷ then) ≡ before ++ (k ∷ here) =
    sym (append_assoc before (k ∷ []) then)
    ∙ ap (λ hs. hs ++ then) (sym (next_flags above s p o bs))
    ∙ sym (flags_are above s p (next_opened p above s o bs) cs next)
    ∙ flags_are above s p o (bs ∷ cs) w in
    ap (drop 1) (cancel before (k ∷ then) (k ∷ here) known)

-- ---- the next cycle

module _ (above : List ℕ) (s : ℕ) (p : Plane) (M : Model) (c : Counters) (caps : List Caps) (k : Cycle) (ks : List Cycle) (w : CanBeOpenedInTurn above s (opening_of M c caps) (halves_of k ∷ map halves_of ks)) where
  abbrev o : Opening
  o = opening_of M c caps

  abbrev bs : List ℕ
  bs = halves_of k

  abbrev cs : List (List ℕ)
  cs = map halves_of ks

  abbrev n : ℕ
  n = length k.halves.items

  can_next : CanOpen M s (taken_of c) (halves_of k)
  can_next = (above, can_open above s o bs cs w)

  others_next : CanBeOpenedInTurn above s (next_opened p above s o bs) cs
  others_next = others_on above s p o bs cs w

  -- where it is told whether the cycles are holes, and the solid is opened along the first
  module _ (flags : k.hole ∷ map (λ q. q.hole) ks ≡ is_hole M p (halves_of k) ∷ map (is_hole M p) (map halves_of ks)) (K : Model) (e : K ≡ effects M (opening_ops M s (taken_of c) (halves_of k)))
      (d : Counters) (counted : d ≡ record c { faces = c.faces + length k.halves.items + 1; loops = c.loops + length k.halves.items + 1; edges = c.edges + 2 * length k.halves.items; vertices = c.vertices + length k.halves.items })
      (more : List Caps) (pushed : more ≡ caps ++ record { lower = c.faces + 1; upper = c.faces + length k.halves.items + 1; hole = k.hole } ∷ []) where
    size : n ≡ length bs
    size = sym (length-map k.halves.items code)

    model_is : K ≡ opened_along M above s (taken_of c) bs
    unfolding can_next
    model_is = e ∙ opening_made M above s (taken_of c) bs can_next.1

    caps_are : all_caps more ≡ all_caps caps ++ record { lower = c.faces + 1; upper = c.faces + length bs + 1; hole = is_hole M p bs } ∷ []
    caps_are = ap all_caps pushed
        ∙ map-append caps_of caps (record { lower = c.faces + 1; upper = c.faces + n + 1; hole = k.hole } ∷ [])
        ∙ (λ j. all_caps caps ++ record { lower = c.faces + 1; upper = c.faces + size j + 1; hole = head_flag (flags j) } ∷ [])

    opened : opening_of K d more ≡ next_opened p above s o bs
    unfolding next_opened
    opened = λ j. record {
      model = model_is j;
      taken = (ap taken_of counted ∙ (λ i. record { face = c.faces + size i + 1; loop = c.loops + size i + 1; edge = c.edges + 2 * size i; vertex = c.vertices + size i })) j;
      caps = caps_are j;
    }

    -- then it can be opened along the others
    opens_next : CanBeOpenedInTurn above s (opening_of K d more) (map halves_of ks)
    opens_next = subst (λ x. CanBeOpenedInTurn above s x cs) (sym opened) others_next

    -- these are the holes that they were
    holes_next : map (λ q. q.hole) ks ≡ map (is_hole K p) (map halves_of ks)
    holes_next = ap (drop 1) flags ∙ sym (next_holes above s p o bs cs w others_next) ∙ ap (λ (x : Opening). map (is_hole x.model p) cs) (sym opened)

    -- and what all of them make stays the same
    made_next : all_opened p above s (opening_of K d more) (map halves_of ks) ≡ all_opened p above s (opening_of M c caps) (halves_of k ∷ map halves_of ks)
    made_next = ap (λ x. all_opened p above s x cs) opened

    -- its operators come first, and then those of the others
    ops_next : opening_ops M s (taken_of c) (halves_of k) ++ openings_ops above s p (opening_of K d more) (map halves_of ks) ≡ openings_ops above s p (opening_of M c caps) (halves_of k ∷ map halves_of ks)
    ops_next = ap (λ x. opening_ops M s (taken_of c) bs ++ openings_ops above s p x cs) opened

-- ---- the next cycle of a list, as the code opens it

module _ (above : List ℕ) (s : ℕ) (p : Plane) (M : Model) (c : Counters) (caps : List Caps) (rest : List Cycle) (k : Cycle) (l : 1 ≤ length rest) (is : k ≡ slice_index_or rest 0 k)
    (w : CanBeOpenedInTurn above s (opening_of M c caps) (map halves_of rest)) (hs : List HalfEdge) (value : hs ≡ k.halves.items) where
  whole : rest ≡ k ∷ others rest
  whole = parts rest k l ∙ ap (λ (x : Cycle). x ∷ others rest) (sym is)

  w_next : CanBeOpenedInTurn above s (opening_of M c caps) (halves_of k ∷ map halves_of (others rest))
  w_next = subst (λ r. CanBeOpenedInTurn above s (opening_of M c caps) (map halves_of r)) whole w

  -- the solid can be opened along it
  pub cycle_opens : CanOpen M s (taken_of c) (map code hs)
  cycle_opens = subst (λ gs. CanOpen M s (taken_of c) (map code gs)) (sym value) (can_next above s p M c caps k (others rest) w_next)

  -- once it is
  module _ (flags : map (λ q. q.hole) rest ≡ map (is_hole M p) (map halves_of rest)) (K : Model) (e : K ≡ effects M (opening_ops M s (taken_of c) (map code hs)))
      (d : Counters) (counted : d ≡ record c { faces = c.faces + length hs + 1; loops = c.loops + length hs + 1; edges = c.edges + 2 * length hs; vertices = c.vertices + length hs })
      (cap : Caps) (cap_is : cap ≡ record { lower = c.faces + 1; upper = c.faces + length hs + 1; hole = k.hole }) (more : List Caps) (pushed : more ≡ caps ++ cap ∷ []) where
    flags_next : k.hole ∷ map (λ q. q.hole) (others rest) ≡ is_hole M p (halves_of k) ∷ map (is_hole M p) (map halves_of (others rest))
    flags_next = sym (ap (map (λ q. q.hole)) whole) ∙ flags ∙ ap (λ (r : List Cycle). map (is_hole M p) (map halves_of r)) whole

    made_of : K ≡ effects M (opening_ops M s (taken_of c) (halves_of k))
    made_of = e ∙ ap (λ (gs : List HalfEdge). effects M (opening_ops M s (taken_of c) (map code gs))) value

    counted_by : d ≡ record c { faces = c.faces + length k.halves.items + 1; loops = c.loops + length k.halves.items + 1; edges = c.edges + 2 * length k.halves.items; vertices = c.vertices + length k.halves.items }
    counted_by = counted ∙ ap (λ n. record c { faces = c.faces + n + 1; loops = c.loops + n + 1; edges = c.edges + 2 * n; vertices = c.vertices + n }) (ap length value)

    pushed_on : more ≡ caps ++ record { lower = c.faces + 1; upper = c.faces + length k.halves.items + 1; hole = k.hole } ∷ []
    pushed_on = pushed ∙ ap (λ (x : Caps). caps ++ x ∷ []) (cap_is ∙ ap (λ n. record { lower = c.faces + 1; upper = c.faces + n + 1; hole = k.hole }) (ap length value))

    -- it can be opened along the others, these are the holes that they were, what all make stays the same, and so do their operators
    pub others_left : CanBeOpenedInTurn above s (opening_of K d more) (map halves_of (others rest))
        × (map (λ q. q.hole) (others rest) ≡ map (is_hole K p) (map halves_of (others rest)))
        × (all_opened p above s (opening_of K d more) (map halves_of (others rest)) ≡ all_opened p above s (opening_of M c caps) (map halves_of rest))
        × (opening_ops M s (taken_of c) (map code hs) ++ openings_ops above s p (opening_of K d more) (map halves_of (others rest)) ≡ openings_ops above s p (opening_of M c caps) (map halves_of rest))
    others_left = (
      opens_next above s p M c caps k (others rest) w_next flags_next K made_of d counted_by more pushed_on,
      holes_next above s p M c caps k (others rest) w_next flags_next K made_of d counted_by more pushed_on,
      made_next above s p M c caps k (others rest) w_next flags_next K made_of d counted_by more pushed_on ∙ ap (λ (r : List Cycle). all_opened p above s (opening_of M c caps) (map halves_of r)) (sym whole),
      ap (λ (gs : List HalfEdge). opening_ops M s (taken_of c) (map code gs) ++ openings_ops above s p (opening_of K d more) (map halves_of (others rest))) value
          ∙ ops_next above s p M c caps k (others rest) w_next flags_next K made_of d counted_by more pushed_on ∙ ap (λ (r : List Cycle). openings_ops above s p (opening_of M c caps) (map halves_of r)) (sym whole),
    )
