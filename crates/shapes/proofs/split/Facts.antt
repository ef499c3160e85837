-- What it says that a split isn't refused.
use Rattle.shapes.proofs.Prelude.{list_any, ◌≡◌, ℕ, ◌+◌, ◌*◌, true, false, not, List, length, None, sym, ◌∙◌, arith, and_parts, not-true, not-false, Plane, IsCutPlane, origin, direction, same_point, cuts_lattice, IsIn, plus, Model, is_number, faces_of, Has, AllHold, first_refusal, coordinate_within, offset_within, all_hold, AreLeft, Needed, start, finish, least_lone, first_such, taken_in, is_flat, reaches_above, reaches_below, crossing_edges, straddling_faces, is_touched, is_cut_often, is_crossed, pair_count, Drawing, with_drawings, faces_above, below_halves, section_ends, least_branched, section_cycles, has_stray_hole, plane_in_range, early_split_conditions, first_conditions, later_conditions, section_conditions, split_conditions, split_refusal}
use Rattle.euler_operators.specs.Table as table
use Rattle.shapes.proofs.fresh.Tests.{first_refusal-append, first_refusal-front, none_found, none_such, numbers_are_left, zero_found}

-- what it takes to cut the edges and draw the faces
abbrev pub needed_for_rewritings : Model → ℕ → Plane → Needed
needed_for_rewritings M s p = let e = length (crossing_edges M p s) in let n = pair_count M p (straddling_faces M p s) in record { faces = n; loops = n; edges = e + n; vertices = e }

-- the edges that cross the plane, and the faces that straddle it, can be cut
pub record Cuttable (M : Model) (s : ℕ) (p : Plane) : Type 0 where
  pub whole : (e : ℕ) → IsIn e (crossing_edges M p s) → cuts_lattice p (start M (plus e)) (finish M (plus e)) ≡ true
  pub untouched : (f : ℕ) → IsIn f (straddling_faces M p s) → is_touched M p f ≡ false
  pub not_often : (f : ℕ) → IsIn f (straddling_faces M p s) → is_cut_often M p f ≡ false
  pub uncrossed : (f : ℕ) → IsIn f (straddling_faces M p s) → is_crossed M p f ≡ false
  pub left : AreLeft (taken_in M) (needed_for_rewritings M s p)

-- what the first conditions of a split say, by name
pub record SplitBegins (M : Model) (s : ℕ) (p : Plane) (t : ℕ) : Type 0 where
  pub t_fits : is_number t ≡ true
  pub s_there : Has M.solids s
  pub t_free : table.has M.solids t ≡ false
  pub in_range : IsCutPlane p
  pub directed : same_point (direction p) origin ≡ false
  pub none_lone : least_lone M (faces_of M s) ≡ None
  pub none_bent : first_such (λ f. not (is_flat M f)) (faces_of M s) ≡ None
  pub meets : (list_any (reaches_above M p) (faces_of M s) ≡ true) × (list_any (reaches_below M p) (faces_of M s) ≡ true)
  pub cuttable : Cuttable M s p

-- a plane in range
pub plane_within : (p : Plane) → AllHold (plane_in_range p) → IsCutPlane p
plane_within p (a, (b, (c, (d, _)))) = ((coordinate_within p.a a, coordinate_within p.b b, coordinate_within p.c c), offset_within p.d d)

pub split_begins : (M : Model) (s : ℕ) (p : Plane) (t : ℕ) → first_refusal (first_conditions M s p t) ≡ None → SplitBegins M s p t
unfolding first_conditions early_split_conditions
split_begins M s p t begins = named (all_hold (first_conditions M s p t) begins) where
  named : AllHold (first_conditions M s p t) → SplitBegins M s p t
  named (_, (upper_number, (solid, (upper, (a, (b, (c, (d, (some_way, (lone, (bent, (reached, (off, (touched, (often, (crossed, room)))))))))))))))) = record {
    t_fits = upper_number;
    s_there = solid;
    t_free = not-true _ upper;
    in_range = plane_within p (a, (b, (c, (d, (some_way, tt)))));
    directed = not-true _ some_way;
    none_lone = none_found (least_lone M _) lone;
    none_bent = none_found (first_such (λ f. not (is_flat M f)) _) bent;
    meets = and_parts _ _ reached;
    cuttable = record {
      whole = λ e i. not-false _ (none_such (λ q. not (cuts_lattice p (start M (plus q)) (finish M (plus q)))) _ (none_found _ off) e i);
      untouched = none_such (is_touched M p) _ (none_found _ touched);
      not_often = none_such (is_cut_often M p) _ (none_found _ often);
      uncrossed = none_such (is_crossed M p) _ (none_found _ crossed);
      left = numbers_are_left (taken_in M) _ room;
    };
  }

-- the section of a drawn solid: its edges, each by its half in the face below, and their cycles
abbrev pub halves_in : Drawing → ℕ → Plane → List ℕ
halves_in d s p = below_halves d.model (faces_above d.model p s) s

abbrev pub cycles_in : Drawing → ℕ → Plane → List (List ℕ)
cycles_in d s p = section_cycles d.model (halves_in d s p)

-- the numbers that it takes to open the section
abbrev pub needed_in : Drawing → ℕ → Plane → Needed
needed_in d s p = let n = length (halves_in d s p) in let m = length (cycles_in d s p) in record { faces = n + m; loops = n + m; edges = 2 * n; vertices = n }

-- what the conditions say that are tested once the faces are drawn
pub record SectionOpens (s : ℕ) (p : Plane) (d : Drawing) : Type 0 where
  pub never_stuck : d.stuck ≡ 0
  pub unbranched : least_branched d.model (section_ends d.model (halves_in d s p)) ≡ None
  pub no_stray : has_stray_hole d.model p (cycles_in d s p) ≡ false
  pub left : AreLeft d.taken (needed_in d s p)

section_opens : (s : ℕ) (p : Plane) (d : Drawing) → AllHold (later_conditions s p d) → SectionOpens s p d
unfolding section_conditions
section_opens s p d hold = grind (arith, hold, zero_found, none_found, not-true, numbers_are_left)

module _ (M : Model) (s : ℕ) (p : Plane) (t : ℕ) (accepted : split_refusal M s p t ≡ None) where
  pub none_first : first_refusal (first_conditions M s p t) ≡ None
  unfolding split_conditions
  none_first = first_refusal-front (first_conditions M s p t) (later_conditions s p (with_drawings M s p)) accepted

  pub split_opens : SectionOpens s p (with_drawings M s p)
  unfolding split_conditions
  split_opens = section_opens s p (with_drawings M s p) (all_hold (later_conditions s p (with_drawings M s p))
      (sym (first_refusal-append (first_conditions M s p t) (later_conditions s p (with_drawings M s p)) none_first) ∙ accepted))
