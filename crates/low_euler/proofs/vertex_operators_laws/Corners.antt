-- The corners at which mev may be called.
use Rattle.low_euler.proofs.Prelude.{◌≡◌, ℕ, None, sym, ap, subst, ◌∙◌, Point, HalfEdge, Corner, At, Lone, Model, lone, content, Sound, first_false, lone_vertex, Mev, mev_holds, mixed_first, mixed_second, lone_is, Store, Accepts, after}

-- two lone loops at one vertex are one
same_lone : (M : Model) (l d : ℕ) (h : HalfEdge) (v : ℕ) (p : Point) → Sound M → first_false M (Mev (Lone l) (Lone d) h v p) ≡ None → d ≡ l
same_lone M l d h v p sound e =
    let holds = mev_holds M (Lone l) (Lone d) h v p e in
    sound.one_lone d l (lone_vertex (content M d)) (lone_is (content M d) holds.second_lone) (lone_is (content M l) holds.first_lone ∙ ap lone holds.one_tail)

module _ (s : Store) (l : ℕ) (h : HalfEdge) (v : ℕ) (p : Point) where
  -- beside a lone loop there is no other corner
  pub second_is : (second : Corner) → Accepts s (Mev (Lone l) second h v p) → second ≡ Lone l
  second_is (At k) ok = absurd (mixed_second s.model l k h v p ok.ready.sound ok.holds)
  second_is (Lone d) ok = ap Lone (same_lone s.model l d h v p ok.ready.sound ok.holds)

  pub lone_accepts : (second : Corner) → Accepts s (Mev (Lone l) second h v p) → Accepts s (Mev (Lone l) (Lone l) h v p)
  lone_accepts second ok = subst (λ q. Accepts s (Mev (Lone l) q h v p)) (second_is second ok) ok

  pub lone_after : (second : Corner) → Accepts s (Mev (Lone l) second h v p) → after s (Mev (Lone l) (Lone l) h v p) ≡ after s (Mev (Lone l) second h v p)
  lone_after second ok = ap (λ q. after s (Mev (Lone l) q h v p)) (sym (second_is second ok))

pub never_mixed : (s : Store) (g : HalfEdge) (l : ℕ) (h : HalfEdge) (v : ℕ) (p : Point) → Accepts s (Mev (At g) (Lone l) h v p) → ⊥
never_mixed s g l h v p ok = mixed_first s.model g l h v p ok.ready.sound ok.holds
