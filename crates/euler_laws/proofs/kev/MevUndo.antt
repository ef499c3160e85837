-- mev at two half-edges is taken back by kev.
use Rattle.euler_laws.proofs.Prelude.{◌≡◌, ◌≢◌, ℕ, List, [], ◌∷◌, refl, sym, ap, ◌∙◌, arith, inl, inr, eq-eqb, Point, count, IsIn, canonical, insert_before, led_over, put_ring, mate, edge_of, Model, LoopContent, lone, cycle, items_of, tail, content, after, Sound, Has, HasHalf, IsCycle, mev_at, kev, cycle_or_lone, count-append, tick_same, tick_other, IsIn_or_not, count-canonical, IsApart-canonical, canonical_nil, count-rotate_to, kev-mev, take-put, apart_put, apart_mev, without_none, count-insert_before, mate_other, edge_of-mate, remove-put, mate_there}
use Rattle.euler_operators.specs.Table as table
use Rattle.euler_laws.proofs.shared.Loops.{put_before, put_there, put_none, put_lone, none_free, count_out, after-walks}
use Rattle.euler_laws.proofs.shared.Same.{SameFaces}
use Rattle.euler_laws.proofs.shared.Undo.{same_loops, same_edges, edge_back, same_model, taken_out, both_out, put_in, both_in}
use Rattle.euler_laws.proofs.shared.EdgeMore.{EdgeComes, half_h, half_m, tail-h, tail-m, edge_apart, not_h, not_m, half_old, half_cases}
use Rattle.euler_laws.proofs.mev.MevSound as put
use Rattle.euler_laws.proofs.kev.KevSound as kill
use Rattle.euler_laws.proofs.kev.KevSound.{KevGoes, without_both, back_none, back_h, back_m}

led_at : (next : ℕ → ℕ) (c y : ℕ) → led_over next c y y ≡ c
led_at next c y = rw (eq-eqb y y refl) refl

pub as_cycle : (xs hs : List ℕ) (v : ℕ) → canonical xs ≡ hs → hs ≢ [] → cycle_or_lone xs v ≡ cycle hs
as_cycle [] hs v e ne = absurd (ne (sym e ∙ canonical_nil))
as_cycle (x ∷ xs) hs v e ne = ap cycle e

-- the loops are back where two steps keep the faces, and each loop holds what it held
pub loops_again : {M N K : Model} → SameFaces M N → SameFaces N K → ((q : ℕ) → Has M.loops q → content K q ≡ content M q) → K.loops ≡ M.loops
loops_again {M = M} {K = K} first second contents = same_loops K M (λ q. second.loop q ∙ first.loop q) (λ q _. second.face q ∙ first.face q) contents

-- a content that mev and then kev rewrite
module _ (h g k t : ℕ) where
  pub content_back : (c : LoopContent) → ((hs : List ℕ) → c ≡ cycle hs → IsCycle hs) → count h (items_of c) ≡ 0 → count (mate h) (items_of c) ≡ 0 → g ≢ mate h → k ≢ h →
      without_both h t (put_before k (mate h) (put_before g h c)) ≡ c
  content_back (lone v) f nh nm gm kh = ap (without_both h t) (ap (put_before k (mate h)) (put_lone g h v) ∙ put_lone k (mate h) v) ∙ back_none h t (lone v) refl refl
  content_back (cycle hs) f nh nm gm kh =
      let cy : IsCycle hs = f hs refl in
      let hm : h ≢ mate h = mate_other h in
      elim (IsIn_or_not g hs) [
        | inl i ↦ elim (IsIn_or_not k hs) [
          | inl j ↦
              let one = cy.from_least in let two = cy.some_item in let three = apart_mev in let four = tick_same in let five = put_there in
              let six = as_cycle in let seven = both_out in
              grind (arith, one, two, three, four, five, six, seven, IsApart-canonical, count-canonical, count-append, stay_in, both_in, back_h, kev-mev)
          | inr j ↦
              let one = put_in hs cy.apart g h i nh in let two = taken_out (put_ring h g hs) in let three = take-put h g hs nh cy.apart in
              let four = put_none k (mate h) in let five = count-rotate_to in let six = IsApart-canonical in let seven = apart_put in let eight = as_cycle in
              grind (arith, cy, hm, one, two, three, four, five, six, seven, eight, put_there g h, back_h h t, without_none, count_out, count-canonical, tick_same, tick_other)
        ]
        | inr i ↦ elim (IsIn_or_not k hs) [
          | inl j ↦
              let one = put_in hs cy.apart k (mate h) j nm in let two = taken_out (put_ring (mate h) k hs) in let three = take-put (mate h) k hs nm cy.apart in
              let four = put_none g h in let five = count-rotate_to in let six = IsApart-canonical in let seven = apart_put in let eight = as_cycle in
              grind (arith, cy, hm, one, two, three, four, five, six, seven, eight, put_there k (mate h), back_m h t, without_none, count-canonical, tick_same, tick_other)
          | inr j ↦ ap (without_both h t) (ap (put_before k (mate h)) (put_none g h (cycle hs) i) ∙ put_none k (mate h) (cycle hs) j) ∙ back_none h t (cycle hs) nh nm
        ]
      ] where
        stay_in : IsIn k hs → IsIn g hs → IsIn k (canonical (insert_before g h hs))
        stay_in j i = omega (arith, count-canonical k (insert_before g h hs), count-insert_before k g h hs i)

module _ {M : Model} (sound : Sound M) {g k h v : ℕ} {p : Point} (goes : put.MevGoes M g k h v p) where
  abbrev pub N : Model
  N = mev_at M g k h v p

  abbrev pub K : Model
  K = kev N h

  pub sound-N : Sound N
  sound-N = put.sound-mev M sound g k h v p goes

  new_edge : EdgeComes M N h (tail M g) v
  new_edge = put.new_edge M sound g k h v p goes

  -- what kev asks is so after mev
  no_parallel-N : (x : ℕ) → HasHalf N x → edge_of x ≢ edge_of h → tail N x ≡ tail N h → tail N (mate x) ≢ tail N (mate h)
  no_parallel-N x there a e f = elim (half_cases new_edge x there) [
    | inl o ↦
        let t = mate_there M x o in let moves = put.tail_moved M sound g k h v p goes x o in let stays = put.tail_kept M sound g k h v p goes x o in
        let was = put.moved_old M sound g k h v p goes (mate x) in let mate_stays = put.tail_kept M sound g k h v p goes (mate x) t in
        let never = put.never_v M sound g k h v p goes (mate x) t in let apart = put.u_v M sound g k h v p goes in
        let arc = put.moved M sound g k h v p goes in let either = IsIn_or_not x arc in let mate_either = IsIn_or_not (mate x) arc in
        grind (arith, either, mate_either, moves, stays, was, mate_stays, never, apart, sound.ends_differ x o, tail-m new_edge, tail-h new_edge)
    | inr d ↦ elim d [ inl q ↦ a (ap edge_of q) | inr q ↦ a (ap edge_of q ∙ edge_of-mate h) ]
  ]

  pub after-m : after N (mate h) ≡ k
  after-m = after-walks N (put.F M sound g k h v p goes) (put.walks M sound g k h v p goes) (mate h) (half_m new_edge)
      ∙ led_at (led_over (after M) g h) k (mate h)

  pub kev_goes : KevGoes N h
  kev_goes = record {
    h_there = half_h new_edge;
    no_parallel = no_parallel-N;
    not_bare = λ e. absurd (not_h new_edge k goes.k_there (sym after-m ∙ e));
  }

  contents : (q : ℕ) → Has M.loops q → content K q ≡ content M q
  contents q there =
      kill.content-N N sound-N h kev_goes q
      ∙ ap (without_both h (tail N h)) (put.content-N M sound g k h v p goes q)
      ∙ content_back h g k (tail N h) (content M q) (λ hs e. sound.cycles q hs there e) (none_free M sound h goes.edge_free q) (none_free M sound (mate h) (put.m_free M sound g k h v p goes) q)
      (not_m new_edge g goes.g_there) (not_h new_edge k goes.k_there)

  loops-back : K.loops ≡ M.loops
  loops-back = loops_again (put.same M sound g k h v p goes) (kill.same N sound-N h kev_goes) contents

  tails : (x : ℕ) → HasHalf M x → tail K x ≡ tail M x
  tails x there =
      let moves = IsIn_or_not x (put.moved M sound g k h v p goes) in let o = half_old new_edge x there in let a = edge_apart new_edge x there in
      let away = put.tail_moved M sound g k h v p goes x there in let was = put.moved_old M sound g k h v p goes x in
      let stays = put.tail_kept M sound g k h v p goes x there in let never = put.never_v M sound g k h v p goes x there in
      let back = kill.tail_moved N sound-N h kev_goes x o a in let still = kill.tail_kept N sound-N h kev_goes x o a in
      grind (arith, moves, away, was, stays, never, back, still, tail-m new_edge, tail-h new_edge)

  vertices-back : K.vertices ≡ M.vertices
  unfolding kev mev_at
  vertices-back = ap (table.remove (table.put M.vertices v p)) (tail-m new_edge) ∙ remove-put M.vertices v p goes.vertex_free

  -- kev takes mev back
  pub kev-mev_at : kev (mev_at M g k h v p) h ≡ M
  unfolding kev mev_at
  kev-mev_at = same_model K M refl refl loops-back (same_edges K M (edge_back new_edge (kill.edge_goes N sound-N h kev_goes)) tails) vertices-back
