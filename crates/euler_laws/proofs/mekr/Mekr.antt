-- mekr as an operator: it keeps a model sound, and kemr passes its conditions after it and takes it back.
use Rattle.euler_laws.proofs.Prelude.{◌≡◌, ℕ, None, refl, arith, eq-eqb, HalfEdge, Corner, code, Model, Sound, first_false, conditions, corner_tail, corner_loop, corner_list, effect, inverse, mekr, edge_of-code, Kemr, Mekr}
use Rattle.euler_laws.proofs.shared.Goes.{none_refuses, not_false}
use Rattle.euler_laws.proofs.kemr.KemrSound.{KemrGoes}
use Rattle.euler_laws.proofs.mekr.MekrSpots.{join_goes}
use Rattle.euler_laws.proofs.mekr.MekrSound.{join_loops, sound-join, part_goes, kemr-join_back}
use Rattle.euler_laws.proofs.shared.Lawful.{IsLawful}

-- where kemr goes, none of its conditions refuses
pub kemr_accepted : (N : Model) (h : HalfEdge) (l : ℕ) → Sound N → KemrGoes N (code h) l → first_false N (Kemr h l) ≡ None
unfolding first_false conditions
kemr_accepted N h l sound goes =
    grind (arith, none_refuses, edge_of-code, sound.edges_fit, goes.h_there, goes.loop_fits, not_false, goes.loop_free, eq-eqb, goes.one_loop)

-- mekr joins what its corners stand for
pub mekr_is : (M : Model) (c d : Corner) (h : ℕ) → mekr M c d h ≡ join_loops M h (corner_loop M c) (corner_loop M d) (corner_tail M c) (corner_tail M d) (corner_list M c) (corner_list M d)
unfolding mekr join_loops
mekr_is M c d h = refl

-- ---- mekr

pub mekr_lawful : (c d : Corner) (h : HalfEdge) → IsLawful (Mekr c d h)
unfolding effect inverse
mekr_lawful c d h M sound e = grind (arith, join_goes, mekr_is, sound-join, kemr_accepted, part_goes, kemr-join_back)
