-- What follows what once an edge is cut.
use Rattle.split_drawing_laws.proofs.Prelude.{◌≡◌, ◌≢◌, ℕ, refl, sym, ap, ◌∙◌, subst, arith, ◌+◌, List, [], ◌∷◌, None, is_some, ◌⊎◌, inl, inr, true≢false, eqb_tells, Point, after_mev, mate, plus, minus, edge_of, Model, loop_of, after, before, tail, Sound, HasHalf, Has, mev_at, Plane, count, tick, IsIn, first_refusal, mate_plus, plus_row, minus_row, tick_same, tick_other, plus_there, minus_there, plus_edge, loop_after, after-walks, walks, next_cut, all_cut, with_crossings, Growing, growing, crossing_edges, first_conditions}
use Rattle.split_drawing_laws.proofs.crossings.OneCut.{cut_is_mev, edge_cut}
use Rattle.split_drawing_laws.proofs.crossings.Steps.{CutGoes, mev_goes, cut_keeps, edge_stays, edge_other, edge_new, tail_new, tail_other}
use Rattle.split_drawing_laws.proofs.pairs.LoopPlaces.{before_after}
use Rattle.split_drawing_laws.proofs.loop_sides.Parting.{none_new}
use Rattle.split_drawing_laws.proofs.loop_sides.Follows.{mev_at_h, mev_at_d, mev_else}
use Rattle.split_drawing_laws.proofs.crossings.Runs.{AreCut, Crossing, Going, cut_at, goes_now, next_model, going_on}
use Rattle.split_drawing_laws.proofs.crossings.Whole.{begins}

module _ (N : Model) (sound : Sound N) where
  -- no two half-edges are followed by one
  pub after_once : (x y : ℕ) → HasHalf N x → HasHalf N y → after N x ≡ after N y → x ≡ y
  after_once x y xt yt e = sym (before_after N sound x xt) ∙ ap (before N) e ∙ before_after N sound y yt

-- ---- edge e cut by the new edge k

module _ (N : Model) (e k v : ℕ) (q : Point) (goes : CutGoes N e k v q) where
  abbrev F : ℕ → ℕ
  F = after_mev (after N) (plus k) (mate (plus k)) (plus e) (after N (minus e))

  leads : (x : ℕ) → HasHalf (edge_cut N e k v q) x → after (edge_cut N e k v q) x ≡ F x
  leads = subst (λ X. (x : ℕ) → HasHalf X x → after X x ≡ F x) (sym (cut_is_mev N e k v q))
      (λ x there. after-walks (mev_at N (plus e) (after N (minus e)) (plus k) v q) F (walks N goes.can.sound (plus e) (after N (minus e)) (plus k) v q (mev_goes N e k v q goes)) x there)

  loops_apart : plus e ≢ after N (minus e)
  loops_apart s = goes.can.apart (ap (loop_of N) s ∙ loop_after N goes.can.sound (minus e) (minus_there N e goes.can.there))

  halves_apart : plus k ≢ mate (plus k)
  halves_apart s = let t : plus k ≡ minus k = s ∙ mate_plus k in absurd (omega (arith, t))

  -- the new plus half leads to the old one
  pub after_first : HasHalf (edge_cut N e k v q) (plus k) → after (edge_cut N e k v q) (plus k) ≡ plus e
  after_first there = leads (plus k) there ∙ mev_at_h (after N) (plus k) (mate (plus k)) (plus e) (after N (minus e)) halves_apart loops_apart

  -- the old minus half leads to the new one
  pub after_second : after (edge_cut N e k v q) (minus e) ≡ minus k
  after_second = grind (arith, leads, cut_keeps, minus_there, mev_at_d, loops_apart, mate_plus, none_new)

  -- the others lead where they did
  pub after_else : (x : ℕ) → HasHalf N x → x ≢ minus e → after N x ≢ plus e → after (edge_cut N e k v q) x ≡ after N x
  after_else x there a b = grind (arith, leads, cut_keeps, mev_else, after_once, minus_there, none_new, mate_plus)

-- ---- the edges of a model with some edges cut: the new ones, and what follows what

-- edge e of M is cut in N by the new edge k: +k starts where +e did and leads to it, and -e leads to -k
pub record CutBy (M N : Model) (e k : ℕ) : Type 0 where
  pub old : Has M.edges e
  pub there : Has N.edges k
  pub new : Has M.edges k → ⊥
  pub starts : tail N (plus k) ≡ tail M (plus e)
  pub first : after N (plus k) ≡ plus e
  pub second : after N (minus e) ≡ minus k

-- N is M with the edges ds cut: its other edges each cut one of these, and where no edge is cut all leads where it did
pub record Pieces (M N : Model) (ds : List ℕ) : Type 0 where
  pub edges : (x : ℕ) → Has N.edges x → Has M.edges x ⊎ ((e : ℕ) × IsIn e ds × CutBy M N e x)
  pub cuts : (e : ℕ) → IsIn e ds → (k : ℕ) × CutBy M N e k
  pub follows : (x : ℕ) → HasHalf M x → count (edge_of x) ds ≡ 0 → count (edge_of (after M x)) ds ≡ 0 → after N x ≡ after M x

-- one edge more
module _ (M N : Model) (p : Plane) (ds : List ℕ) (a : AreCut M N p ds) (w : Pieces M N ds) (e k v : ℕ) (c : Crossing M p e) (uncut : count e ds ≡ 0) (goes : CutGoes N e k v (cut_at N p e)) where
  abbrev K : Model
  K = edge_cut N e k v (cut_at N p e)

  in_n : (x : ℕ) → Has M.edges x → Has N.edges x
  in_n x there = plus_edge N x (a.kept.halves (plus x) (plus_there M x there))

  there_now : Has K.edges k
  there_now = ap is_some (edge_new N e k v (cut_at N p e) goes)

  cut_now : CutBy M (edge_cut N e k v (cut_at N p e)) e k
  cut_now = record {
    old = c.there;
    there = there_now;
    new = (λ there. true≢false (sym (in_n k there) ∙ ap is_some goes.can.edge_free));
    starts = (tail_new N e k v (cut_at N p e) goes).0 ∙ a.plus_tails e c.there uncut;
    first = after_first N e k v (cut_at N p e) goes (plus_there K k there_now);
    second = after_second N e k v (cut_at N p e) goes;
  }

  cut_again : (d j : ℕ) → IsIn d ds → CutBy M N d j → CutBy M (edge_cut N e k v (cut_at N p e)) d j
  cut_again d j i b =
      let other : d ≢ e = λ s. absurd (omega (arith, i, uncut, ap (λ x. count x ds) s)) in
      let new : j ≢ e = λ s. b.new (subst (Has M.edges) (sym s) c.there) in
      record {
        old = b.old;
        there = edge_stays N e k v (cut_at N p e) goes j b.there;
        new = b.new;
        starts = tail_other N e k v (cut_at N p e) goes (plus j) (plus_there N j b.there) (λ s. new (sym (plus_row j).0 ∙ s)) ∙ b.starts;
        first = after_else N e k v (cut_at N p e) goes (plus j) (plus_there N j b.there) (λ s. absurd (omega (arith, s))) (λ s. other (omega (arith, sym b.first ∙ s))) ∙ b.first;
        second = after_else N e k v (cut_at N p e) goes (minus d) (minus_there N d (in_n d b.old)) (λ s. other (omega (arith, s))) (λ s. even_odd j e (sym b.second ∙ s)) ∙ b.second;
      } where
        even_odd : (x y : ℕ) → minus x ≡ plus y → ⊥
        even_odd x y s = omega (arith, s)

  pieces_more : Pieces M (edge_cut N e k v (cut_at N p e)) (e ∷ ds)
  pieces_more = record {
    edges = λ x there. elim (eqb_tells x k) [
      | inl s ↦ inr (e, omega (arith, tick_same e), subst (CutBy M K e) (sym s.1) cut_now)
      | inr s ↦ elim (eqb_tells x e) [
        | inl t ↦ inl (subst (Has M.edges) (sym t.1) c.there)
        | inr t ↦ elim (w.edges x (sym (ap is_some (edge_other N e k v (cut_at N p e) goes x t.1 s.1)) ∙ there)) [
          | inl o ↦ inl o
          | inr o ↦ inr (o.0, omega (arith, o.1), cut_again o.0 x o.1 o.2)
        ]
      ]
    ];
    cuts = λ d i. elim (eqb_tells d e) [
      | inl s ↦ (k, subst (λ y. CutBy M K y k) (sym s.1) cut_now)
      | inr s ↦ let j : IsIn d ds = omega (arith, i, tick_other d e s.1) in let b = w.cuts d j in (b.0, cut_again d b.0 j b.1)
    ];
    follows = λ x there u z.
        let same : after N x ≡ after M x = w.follows x there (omega (arith, u)) (omega (arith, z)) in
        after_else N e k v (cut_at N p e) goes x (a.kept.halves x there) (λ s. uncut_edge (edge_of x) u (ap edge_of s ∙ (minus_row e).0)) (λ s. uncut_edge (edge_of (after M x)) z (ap edge_of (sym same ∙ s) ∙ (plus_row e).0)) ∙ same;
  } where
    uncut_edge : (y : ℕ) → count y (e ∷ ds) ≡ 0 → y ≢ e
    uncut_edge y z s = absurd (omega (arith, z, ap (λ x. tick x e) s, tick_same e))

-- ---- all of a list

record AllPieces (M N : Model) (ds rs : List ℕ) : Type 0 where
  list : List ℕ
  pieces : Pieces M N list
  same : (x : ℕ) → count x list ≡ count x ds + count x rs

all_pieces : (M : Model) (p : Plane) → Sound M → (g : Growing) (ds rs : List ℕ) → Going M p g ds rs → Pieces M g.model ds → AllPieces M (all_cut p g rs).model ds rs
all_pieces M p sound g ds [] w b = record { list = ds; pieces = b; same = λ x. omega arith }
all_pieces M p sound g ds (e ∷ rs) w b =
    let more = pieces_more M g.model p ds w.cut b e (g.taken.edge + 1) (g.taken.vertex + 1) (w.crossing e (omega (arith, tick_same e))) (omega (arith, w.apart e, tick_same e)) (goes_now M p sound g ds e rs w) in
    let r : AllPieces M (all_cut p (next_cut p g e) rs).model (e ∷ ds) rs = all_pieces M p sound (next_cut p g e) (e ∷ ds) rs (going_on M p sound g ds e rs w)
    (subst (λ X. Pieces M X (e ∷ ds)) (sym (next_model M p sound g ds e rs w)) more) in
    record { list = r.list; pieces = r.pieces; same = λ x. omega (arith, r.same x) }

-- none is cut
no_pieces : (M : Model) → Pieces M M []
no_pieces M = record { edges = λ x there. inl there; cuts = λ e i. absurd (omega (arith, i)); follows = λ x there u z. refl }

-- ---- the crossing edges of a solid

pub crossing_pieces : (M : Model) (s : ℕ) (p : Plane) (t : ℕ) → Sound M → first_refusal (first_conditions M s p t) ≡ None → Pieces M (with_crossings M s p).model (crossing_edges M p s)
unfolding with_crossings
crossing_pieces M s p t sound accepted =
    let r : AllPieces M (with_crossings M s p).model [] (crossing_edges M p s) = all_pieces M p sound (growing M) [] (crossing_edges M p s) (begins M s p t sound accepted) (no_pieces M) in
    record {
      edges = λ x there. elim (r.pieces.edges x there) [ inl o ↦ inl o | inr o ↦ inr (o.0, omega (arith, o.1, r.same o.0), o.2) ];
      cuts = λ e i. r.pieces.cuts e (omega (arith, i, r.same e));
      follows = λ x there u z. r.pieces.follows x there (omega (arith, u, r.same (edge_of x))) (omega (arith, z, r.same (edge_of (after M x))));
    }
