-- Edges that are still to be cut.
use Rattle.split_drawing.proofs.Prelude.{◌≡◌, ℕ, ◌+◌, ◌≤◌, List, [], ◌∷◌, length, map, slice_index_or, None, refl, sym, ap, ◌∙◌, subst, arith, Point, Plane, At, IsCutPlane, are_opposite, cut_between, count, half, plus, minus, Model, after, no_point, Sound, first_false, effect, Mev, tick_same, mate_plus, plus_there, minus_there, start, finish, Taken, taken_in, Growing, growing, crossing_edges, next_cut, cut_edge, crossing_ops, taken_of, Counters, CutEdge, others, parts, CanBeCut}
use Rattle.shapes.proofs.split.Facts.{split_begins}
use Rattle.split_drawing_laws.specs.crossings.CrossingOps.{ops_from}
use Rattle.split_drawing_laws.proofs.crossings.Steps.{CutGoes, cut_accepted}
use Rattle.split_drawing_laws.proofs.crossings.Runs.{cut_at, Crossing, Going, kept_start, goes_now, next_model, going_on}
use Rattle.split_drawing_laws.proofs.crossings.Whole as whole
use Rattle.split_checks.specs.Cuts as cuts
use Rattle.split_checks.specs.cut_places.Crossings.{IsCrossing}

-- N is M with some of its edges cut, and those of rs are still to be cut
pub record Cutting (M : Model) (p : Plane) (N : Model) (rs : List ℕ) : Type 0 where
  pub sound : Sound M
  pub done : List ℕ
  pub going : Going M p (growing N) done rs

-- a plane that can begin a split is in range
pub cut_plane : (M : Model) (s : ℕ) (p : Plane) → CanBeCut M s p → IsCutPlane p
cut_plane M s p can = (split_begins M s p can.0 can.1).in_range

-- all crossing edges are to be cut
pub begins : (M : Model) (s : ℕ) (p : Plane) → Sound M → CanBeCut M s p → Cutting M p M (crossing_edges M p s)
begins M s p sound can = record {
  sound = sound;
  done = [];
  going = whole.begins M s p can.0 sound can.1;
}

-- and these are the operators that cut them
pub crossings_are : (M : Model) (s : ℕ) (p : Plane) → ops_from p (growing M) (crossing_edges M p s) ≡ crossing_ops M s p
unfolding crossing_ops
crossings_are M s p = refl

-- the edges to be cut, and each with the point at which it meets the plane
abbrev pub edges_in : List CutEdge → List ℕ
edges_in cs = map (λ c. c.edge) cs

abbrev pub AreAt : Model → Plane → List CutEdge → Type 0
AreAt M p [] = Unit {0}
AreAt M p (c ∷ cs) = (c.point ≡ cut_at M p c.edge) × AreAt M p cs

pub all_at : (M : Model) (p : Plane) (es : List ℕ) → AreAt M p (map (cuts.cut_at M p) es)
all_at M p [] = tt
all_at M p (e ∷ es) = (refl, all_at M p es)

pub edges_at : (M : Model) (p : Plane) (es : List ℕ) → edges_in (map (cuts.cut_at M p) es) ≡ es
edges_at M p [] = refl
edges_at M p (e ∷ es) = ap (λ (xs : List ℕ). e ∷ xs) (edges_at M p es)

abbrev pub no_cut : CutEdge
no_cut = record { edge = 0; point = no_point }

-- the next one, of a list as the code opens it
pub opened : (M : Model) (p : Plane) (N : Model) (cs : List CutEdge) (d : CutEdge) → 1 ≤ length cs → Cutting M p N (edges_in cs) → Cutting M p N ((slice_index_or cs 0 d).edge ∷ edges_in (others cs))
opened M p N cs d l c = subst (λ xs. Cutting M p N (edges_in xs)) (parts cs d l) c

pub opened_at : (M : Model) (p : Plane) (cs : List CutEdge) (d : CutEdge) → 1 ≤ length cs → AreAt M p cs → ((slice_index_or cs 0 d).point ≡ cut_at M p (slice_index_or cs 0 d).edge) × AreAt M p (others cs)
opened_at M p cs d l a = subst (AreAt M p) (parts cs d l) a

module _ (M : Model) (p : Plane) (N : Model) (e : ℕ) (rs : List ℕ) (c : Cutting M p N (e ∷ rs)) where
  goes : CutGoes N e ((taken_in N).edge + 1) ((taken_in N).vertex + 1) (cut_at N p e)
  goes = goes_now M p c.sound (growing N) c.done e rs c.going

  -- it is accepted
  pub next_goes : first_false N (cut_edge p (growing N) e) ≡ None
  next_goes = cut_accepted N e ((taken_in N).edge + 1) ((taken_in N).vertex + 1) (cut_at N p e) goes

  crossing : Crossing M p e
  crossing = c.going.crossing e (omega (arith, tick_same e))

  uncut : count e c.done ≡ 0
  uncut = omega (arith, c.going.apart e, tick_same e)

  near : start N (plus e) ≡ start M (plus e)
  near = kept_start M N c.sound c.going.cut.kept (plus e) (plus_there M e crossing.there) (c.going.cut.plus_tails e crossing.there uncut)

  far : finish N (plus e) ≡ finish M (plus e)
  far = ap (start N) (mate_plus e) ∙ kept_start M N c.sound c.going.cut.kept (minus e) (minus_there M e crossing.there) (c.going.cut.minus_tails e crossing.there) ∙ sym (ap (start M) (mate_plus e))

  -- it still crosses the plane
  pub next_crosses : IsCrossing N p e
  next_crosses = record { there = goes.can.there; crossing = (λ i. are_opposite p (near i) (far i)) ∙ crossing.crossing }

  -- cut where it meets the plane as M has it, it is cut as the rewriting cuts it
  pub next_op : (q : Point) → q ≡ cut_at M p e → Mev (At (half (plus e))) (At (half (after N (minus e)))) (half (plus ((taken_in N).edge + 1))) ((taken_in N).vertex + 1) q ≡ cut_edge p (growing N) e
  next_op q is = λ i. Mev (At (half (plus e))) (At (half (after N (minus e)))) (half (plus ((taken_in N).edge + 1))) ((taken_in N).vertex + 1) ((is ∙ (λ j. cut_between p (sym near j) (sym far j))) i)

  pub edge_left : (taken_in N).edge + 1 ≤ 1000000
  edge_left = omega (arith, c.going.left.edges)

  pub vertex_left : (taken_in N).vertex + 1 ≤ 1000000
  vertex_left = omega (arith, c.going.left.vertices)

  -- once it is cut the others remain, and its edge and vertex are counted
  module _ (K : Model) (is : K ≡ effect N (cut_edge p (growing N) e)) where
    still_going : Going M p (next_cut p (growing N) e) (e ∷ c.done) rs
    still_going = going_on M p c.sound (growing N) c.done e rs c.going

    grown : next_cut p (growing N) e ≡ growing K
    grown =
        let model = next_model M p c.sound (growing N) c.done e rs c.going ∙ sym is in
        λ i. record { model = model i; taken = (still_going.counted ∙ ap taken_in model) i }

    pub next_taken : Cutting M p K rs
    next_taken = record { sound = c.sound; done = e ∷ c.done; going = subst (λ g. Going M p g (e ∷ c.done) rs) grown still_going }

    pub ops_left : (es : List ℕ) → es ≡ e ∷ rs → cut_edge p (growing N) e ∷ ops_from p (growing K) rs ≡ ops_from p (growing N) es
    ops_left es are = ap (λ (g : Growing). cut_edge p (growing N) e ∷ ops_from p g rs) (sym grown) ∙ ap (ops_from p (growing N)) (sym are)

    pub next_counted : (t : Counters) → taken_of t ≡ taken_in N → (u : Counters) → u ≡ record t { edges = t.edges + 1; vertices = t.vertices + 1 } → taken_of u ≡ taken_in K
    unfolding next_cut
    next_counted t told u counted = ap taken_of counted ∙ ap (λ (k : Taken). record k { edge = k.edge + 1; vertex = k.vertex + 1 }) told ∙ ap (λ (h : Growing). h.taken) grown
