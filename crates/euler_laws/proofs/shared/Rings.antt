-- Two models with the same edges whose loops hold the same half-edges: what is known of the walks of one holds for the other.
use Rattle.euler_laws.proofs.Prelude.{◌≡◌, ◌≢◌, ℕ, unwrap_or, sym, ap, ◌∙◌, subst, arith, mate, edge_of, is_first, Model, holds, tail, tail_in, no_edge, loop_of, content, after, Sound, Has, HasHalf, StandsIn, IsTail, NumbersFit}
use Rattle.euler_operators.specs.Table as table
use Rattle.euler_laws.proofs.shared.Fans.{fan_of}
use Rattle.euler_laws.proofs.shared.Loops.{IsLoop, Walks, loop_at}

pub record SameRings (M N : Model) : Type 0 where
  pub edges : N.edges ≡ M.edges
  pub stand : (x q : ℕ) → holds x (content N q) ≡ holds x (content M q)
  pub loops : (q : ℕ) → Has N.loops q → IsLoop (after M) (content N q)

module _ (M N : Model) (sound : Sound M) (same : SameRings M N) where
  pub half_on : (x : ℕ) → HasHalf M x → HasHalf N x
  half_on x t = subst (λ y. Has y (edge_of x)) (sym same.edges) t

  pub half_back : (x : ℕ) → HasHalf N x → HasHalf M x
  half_back x t = subst (λ y. Has y (edge_of x)) same.edges t

  pub tail_same : (x : ℕ) → tail N x ≡ tail M x
  unfolding tail
  tail_same x = ap (λ t. tail_in (unwrap_or (table.get t (edge_of x)) no_edge) (is_first x)) same.edges

  stand_back : (x q : ℕ) → StandsIn N x q → StandsIn M x q
  stand_back x q s = sym (same.stand x q) ∙ s

  pub walks-rings : Walks N (after M)
  walks-rings = record {
    only = λ x q s. half_on x (sound.only_edges x q (stand_back x q s));
    placed = λ x t. (loop_of M x, same.stand x (loop_of M x) ∙ (sound.stands x (half_back x t)), λ q s. sym (sound.one_loop x q (stand_back x q s)));
    loops = same.loops;
    fans = λ x t. let f = fan_of M sound x (half_back x t) in grind (arith, f, half_on, half_back, tail_same);
  }

  pub loop-rings : (x : ℕ) → HasHalf M x → loop_of N x ≡ loop_of M x
  loop-rings x t = loop_at N x (loop_of M x) (same.stand x (loop_of M x) ∙ (sound.stands x t)) (λ q s. sym (sound.one_loop x q (stand_back x q s)))

  pub ends_differ-rings : (x : ℕ) → HasHalf N x → tail N x ≢ tail N (mate x)
  ends_differ-rings x t e = sound.ends_differ x (half_back x t) (sym (tail_same x) ∙ e ∙ tail_same (mate x))

  pub tail-rings : (v : ℕ) → IsTail M v → IsTail N v
  tail-rings v x = record { half = x.half; there = half_on x.half x.there; starts = tail_same x.half ∙ x.starts }

  pub edges_fit-rings : NumbersFit N.edges
  edges_fit-rings e t = sound.edges_fit e (subst (λ y. Has y e) same.edges t)
