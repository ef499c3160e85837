-- kev as an operator: it keeps a model sound. The inverses of mev and of kev pass their conditions and take them back.
use Rattle.euler_laws.proofs.Prelude.{◌≡◌, ◌≢◌, ℕ, Bool, true, false, cond, nat_eq, ◌&&◌, None, refl, ap, arith, ne_eqb, eqb-true, eqb_tells, not-true, Point, HalfEdge, Corner, At, Lone, code, half, mate, Model, tail, loop_of, content, after, point_of, Sound, first_false, conditions, lone_vertex, effect, inverse, mev_at, mev_lone, kev, kev_corner, kev_corner_mate, none_but, edge_of-code, code-half, Mev, Kev}
use Rattle.euler_laws.proofs.shared.Goes.{all_hold, none_refuses}
use Rattle.euler_laws.proofs.shared.Undo.{parallel_none, none_parallel}
use Rattle.euler_laws.proofs.mev.MevSound.{MevGoes, sound-mev}
use Rattle.euler_laws.proofs.kev.MevUndo as undo
use Rattle.euler_laws.proofs.kev.MevLone as alone
use Rattle.euler_laws.proofs.mev.MevLoneSound.{sound-mev_lone}
use Rattle.euler_laws.proofs.kev.KevSound.{KevGoes, sound-kev}
use Rattle.euler_laws.proofs.kev.KevUndo as redo
use Rattle.euler_laws.proofs.mev.Mev.{mev_goes, mev_accepted, lone_goes, lone_accepted, mixed_first, mixed_second}
use Rattle.euler_laws.proofs.shared.Rows.{half_of, ring_none}
use Rattle.euler_laws.proofs.shared.Lawful.{IsLawful}

-- ---- conditions

pub kev_goes : (M : Model) (h : HalfEdge) → Sound M → first_false M (Kev h) ≡ None → KevGoes M (code h)
unfolding first_false conditions
kev_goes M h sound e = grind (arith, all_hold (conditions M (Kev h)) e, half_of, none_parallel, sound.edges_fit, eqb-true, ring_none, not-true)

pub kev_accepted : (N : Model) (h : HalfEdge) → Sound N → KevGoes N (code h) → first_false N (Kev h) ≡ None
unfolding first_false conditions
kev_accepted N h sound goes =
    grind (arith, none_refuses, edge_of-code, sound.edges_fit, goes.h_there, parallel_none, goes.no_parallel, none_but, goes.not_bare)

-- ---- mev

pub mev_lawful : (c d : Corner) (h : HalfEdge) (v : ℕ) (p : Point) → IsLawful (Mev c d h v p)
unfolding effect inverse
mev_lawful (At g) (At k) h v p M sound e = let w = mev_goes M g k h v p e in let s = sound-mev M sound (code g) (code k) (code h) v p w in record {
  sound = s;
  goes = kev_accepted (mev_at M (code g) (code k) (code h) v p) h s (undo.kev_goes sound w);
  undone = undo.kev-mev_at sound w;
}
mev_lawful (At g) (Lone l) h v p M sound e = absurd (mixed_first M g l h v p sound e)
mev_lawful (Lone l) (At k) h v p M sound e = absurd (mixed_second M l k h v p sound e)
mev_lawful (Lone l) (Lone d) h v p M sound e = let w = lone_goes M l d h v p e in let u : ℕ = lone_vertex (content M l) in let s = sound-mev_lone sound w in record {
  sound = s;
  goes = kev_accepted (mev_lone M l (code h) v p) h s (alone.kev_goes sound w);
  undone = alone.kev-mev_lone sound w;
}

-- ---- kev

-- the corners of the inverse
abbrev corner : Model → ℕ → ℕ
corner M h = cond (nat_eq (after M h) (mate h)) (after M (mate h)) (after M h)

corner_at : (b f : Bool) (l a c : ℕ) → f ≡ false → cond b (cond f (Lone l) (At (half c))) (At (half a)) ≡ At (half (cond b c a))
corner_at true f l a c e = ap (λ x. cond x (Lone l) (At (half c))) e
corner_at false f l a c e = refl

mate_at : (b f : Bool) (l c : ℕ) → f ≡ false → cond (b && f) (Lone l) (At (half c)) ≡ At (half c)
mate_at true f l c e = ap (λ x. cond x (Lone l) (At (half c))) e
mate_at false f l c e = refl

corners_open : (M : Model) (h : ℕ) → after M (mate h) ≢ h → (kev_corner M h ≡ At (half (corner M h))) × (kev_corner_mate M h ≡ At (half (after M (mate h))))
corners_open M h ne = grind (arith, ne_eqb, corner_at, mate_at)

corners_bare : (M : Model) (h : ℕ) → after M (mate h) ≡ h → after M h ≡ mate h → (kev_corner M h ≡ Lone (loop_of M h)) × (kev_corner_mate M h ≡ Lone (loop_of M h))
corners_bare M h a b = grind arith

-- what is so of the inverse, by its corners
module _ (M : Model) (h : HalfEdge) (sound : Sound M) (goes : KevGoes M (code h)) where
  abbrev m : ℕ
  m = mate (code h)

  abbrev N : Model
  N = kev M (code h)

  abbrev p : Point
  p = point_of M (tail M m)

  codes_goes : (ne : after M m ≢ code h) → MevGoes N (code (half (corner M (code h)))) (code (half (after M m))) (code h) (tail M m) p
  codes_goes ne = grind (arith, code-half (corner M (code h)), code-half (after M m), redo.put_goes sound goes ne)

  kev_back : effect N (Mev (kev_corner M (code h)) (kev_corner_mate M (code h)) h (tail M m) p) ≡ M
  unfolding effect
  kev_back =
      let one = eqb_tells (after M m) (code h) in let two = code-half (corner M (code h)) in let three = corners_bare M (code h) in
      let four = redo.mev_lone-kev sound goes in
      grind (arith, one, three, goes.not_bare, four, goes, corners_open M (code h), two, code-half (after M m), redo.mev_at-kev sound goes)

  kev_back_goes : first_false N (Mev (kev_corner M (code h)) (kev_corner_mate M (code h)) h (tail M m) p) ≡ None
  kev_back_goes =
      let one = mev_accepted N (half (corner M (code h))) (half (after M m)) h (tail M m) p (sound-kev M sound (code h) goes) in
      let two = lone_accepted N (loop_of M (code h)) h (tail M m) (tail M (code h)) p (sound-kev M sound (code h) goes) in
      let three = sound-kev M sound (code h) goes in let four = eqb_tells (after M m) (code h) in
      grind (arith, four, corners_bare M (code h), goes.not_bare, two, three, redo.lone_goes sound goes, corners_open M (code h), one, codes_goes)

pub kev_lawful : (h : HalfEdge) → IsLawful (Kev h)
unfolding effect inverse
kev_lawful h M sound e = let w = kev_goes M h sound e in record { sound = sound-kev M sound (code h) w; goes = kev_back_goes M h sound w; undone = kev_back M h sound w }
