-- The steps by which a sound model is taken apart, each with what has to be so that it can be taken.
use Rattle.reached_models.proofs.Prelude.{◌≡◌, ◌≢◌, ℕ, None, sym, ap, ◌∙◌, subst, arith, half, mate, Model, loop_of, face_of, outer, Sound, Has, HasHalf, first_false, effect, inverse, code-half, mate_there, loop_there, Op, Kev, Kef, Kemr, Mfkrh, Grown, mef_grows, mev_grows, mfkrh_grows, kemr_grows, effect_keeps_sound, inverse_goes, inverse_undoes, mfkrh_accepted, KefGoes, kef_accepted, KevGoes, kev_accepted, KemrGoes}
use Rattle.euler_laws.proofs.mekr.Mekr.{kemr_accepted}
use Rattle.reached_models.proofs.Free.{Free, free_number}
use Rattle.reached_models.proofs.Weights.{Shrinks, shrinks_by}

-- each loop is the outer loop of its face
abbrev pub NoRings : Model → Type 0
NoRings M = (l : ℕ) → Has M.loops l → outer M (face_of M l) ≡ l

-- a ring becomes the outer loop of a face of its own. There is a number for this face, since there are fewer faces than loops
pub ring_goes : (M : Model) → Sound M → (l : ℕ) → Has M.loops l → outer M (face_of M l) ≢ l → Shrinks M
ring_goes M sound l there ring =
    let face : Free M.faces = free_number M.faces M.loops sound.faces_fit sound.loops_fit (record {
      to = outer M;
      back = face_of M;
      there = λ f t. (sound.outers_there f t).0;
      returns = λ f t. (sound.outers_there f t).1;
      missed = l;
      missed_there = there;
      is_missed = ring;
    }) in
    let accepted : first_false M (Mfkrh l face.number) ≡ None = mfkrh_accepted M l face.number sound (record { l_there = there; face_free = face.free; is_ring = ring; face_fits = face.fits }) in
    let w = mfkrh_grows l face.number M accepted in
    shrinks_by M (Mfkrh l face.number) tt sound accepted (omega (arith, w.0, w.1, w.2, w.3))

-- an edge between two loops that aren't rings goes, and its two faces become one
pub edge_between_goes : (M : Model) → Sound M → NoRings M → (h : ℕ) → HasHalf M h → loop_of M h ≢ loop_of M (mate h) → Shrinks M
unfolding inverse
edge_between_goes M sound ringless h there apart =
    let m_there : HasHalf M (mate h) = mate_there M h there in
    let goes : KefGoes M h = record {
      h_there = there;
      faces_apart = λ e. apart (sym (ringless (loop_of M h) (loop_there M sound h there)) ∙ ap (outer M) e ∙ ringless (loop_of M (mate h)) (loop_there M sound (mate h) m_there));
      no_rings = λ q t e. ap (outer M) (sym e) ∙ ringless q t;
    } in
    let op : Op = Kef (half h) in
    let accepted : first_false M op ≡ None = kef_accepted M (half h) sound (subst (KefGoes M) (sym (code-half h)) goes) in
    let w : Grown (effect M op) M 0 1 1 1 = subst (λ N. Grown (effect M op) N 0 1 1 1) (inverse_undoes M op sound accepted) (mef_grows _ _ (half h) _ _ (effect M op) (inverse_goes M op sound accepted)) in
    shrinks_by M op tt sound accepted (omega (arith, w.0, w.1, w.2, w.3))

-- an edge in one loop goes, and what it held together becomes a loop and a ring
pub edge_within_goes : (M : Model) → Sound M → (h : ℕ) → HasHalf M h → loop_of M h ≡ loop_of M (mate h) → Free M.loops → Shrinks M
edge_within_goes M sound h there same ring =
    let goes : KemrGoes M h ring.number = record { h_there = there; loop_free = ring.free; one_loop = same; loop_fits = ring.fits } in
    let op : Op = Kemr (half h) ring.number in
    let accepted : first_false M op ≡ None = kemr_accepted M (half h) ring.number sound (subst (λ k. KemrGoes M k ring.number) (sym (code-half h)) goes) in
    let w = kemr_grows (half h) ring.number M accepted in
    shrinks_by M op tt sound accepted (omega (arith, w.0, w.1, w.2, w.3))

-- an edge goes with the vertex at its far end
pub edge_alone_goes : (M : Model) → Sound M → (h : ℕ) → KevGoes M h → Shrinks M
unfolding inverse
edge_alone_goes M sound h goes =
    let op : Op = Kev (half h) in
    let accepted : first_false M op ≡ None = kev_accepted M (half h) sound (subst (KevGoes M) (sym (code-half h)) goes) in
    let w : Grown (effect M op) M 1 1 0 0 = subst (λ N. Grown (effect M op) N 1 1 0 0) (inverse_undoes M op sound accepted) (mev_grows _ _ (half h) _ _ (effect M op) (effect_keeps_sound M op sound accepted) (inverse_goes M op sound accepted)) in
    shrinks_by M op tt sound accepted (omega (arith, w.0, w.1, w.2, w.3))
